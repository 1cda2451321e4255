-- What a reader of rows has read so far.
use Rattle.std.specs.Prelude.{◌≡◌, ℕ, Bool, true, false, List, [], ◌∷◌, ◌++◌, Some}
use denote.Ref.{Bor}
use Rattle.csv.specs.Reading.{Reached, Ready, default_config, source_of, strip_bom}
use Rattle.csv.specs.declared.reader.Reader.{Reader}
use Rattle.csv.specs.declared.parser.State.TheVariants as st
use Rattle.csv.specs.declared.reader.Trim.TheVariants as trim
use Rattle.kin_feed.specs.Records.{rows_of}

-- these rows of the bytes were read, and the others are still to come
pub record HasRead (bytes : List ℕ) (rows : List (List (List ℕ))) (reader : Reader (Bor (List ℕ))) : Type 0 where
  pub untrimmed : reader.trim ≡ trim.None
  pub ready : Ready reader
  pub config : reader.config ≡ default_config
  pub rest : List ℕ
  pub source : source_of (λ s. Some s.now) reader ≡ Some rest
  pub reached : Reached default_config st.StartRecord (strip_bom bytes) rows reader.state rest

-- a step read one more row, or found that these are all
abbrev pub ReadsOn : Bool → List ℕ → List (List (List ℕ)) → List (List ℕ) → Reader (Bor (List ℕ)) → Type 0
ReadsOn true bytes rows row reader = HasRead bytes (rows ++ row ∷ []) reader
ReadsOn false bytes rows row reader = rows ≡ rows_of bytes
