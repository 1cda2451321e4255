-- What one step of the reader does to the rows that were read.
use Rattle.std.proofs.Common.{◌≡◌, ◌<◌, ◌+◌, ℕ, map, Bool, true, false, List, [], ◌∷◌, ◌++◌, Some, Option, sym, ◌∙◌, refl, inl, length, arith, ap}
use denote.Ref.{Bor}
use Rattle.std.proofs.lemmas.List.{length-append, length-map, map-append}
use Rattle.csv.specs.Reading.{ReadRecord, default_config, strip_bom}
use Rattle.csv.specs.declared.parser.State.TheVariants as st
use Rattle.csv.specs.declared.reader.Reader.{Reader}
use Rattle.csv.proofs.ReadFacts.{rows-end, rows-more}
use Rattle.kin_feed.specs.RowsRead.{HasRead, ReadsOn}
use Rattle.kin_ids.specs.declared.ops.Record.{Record}
use Rattle.kin_feed.specs.BadIndex.{bad_numbers}
use Rattle.kin_feed.proofs.BadCounts.{numbers_push}
use Rattle.kin_feed.specs.Records.{record_of, records_of, rows_of}
use Rattle.kin_feed.proofs.AllRows.{front_rows, all_rows, rows_fit}

abbrev Known : Bor (List ℕ) → Option (List ℕ)
Known s = Some s.now

-- a read of a reader that has read some rows
pub step : (found : Bool) (bytes : List ℕ) (rows : List (List (List ℕ))) (a b : Reader (Bor (List ℕ))) (row : List (List ℕ)) → HasRead bytes rows a
    → ReadRecord Known a b found row → b.first ≡ true → ReadsOn found bytes rows row b
step true bytes rows a b row h s began =
    let m = rows-more Known a b row default_config st.StartRecord (strip_bom bytes) h.rest rows h.config h.source h.reached s in
    record { untrimmed = s.3 ∙ h.untrimmed; ready = inl began; config = s.2 ∙ h.config; rest = m.0; source = m.1; reached = m.2 }
step false bytes rows a b row h s began =
    sym (all_rows st.StartRecord a.state (strip_bom bytes) h.rest rows refl h.reached (rows-end Known a b row default_config h.rest h.config h.source s))

-- a row that was read is one of the records, and takes a byte
pub one_of_all : (bytes : List ℕ) (rows : List (List (List ℕ))) (row : List (List ℕ)) (a : Reader (Bor (List ℕ))) → HasRead bytes (rows ++ row ∷ []) a → length rows < length (records_of bytes)
one_of_all bytes rows row a h =
    let f = front_rows st.StartRecord a.state (strip_bom bytes) h.rest (rows ++ row ∷ []) refl h.reached in
    omega (arith, length-map (rows_of bytes) record_of, ap (λ (t : List (List (List ℕ))). length t) f.1, length-append (rows ++ row ∷ []) f.0, length-append rows (row ∷ []))

pub one_of_bytes : (bytes : List ℕ) (rows : List (List (List ℕ))) (row : List (List ℕ)) (a : Reader (Bor (List ℕ))) → HasRead bytes (rows ++ row ∷ []) a → length rows < length (strip_bom bytes)
one_of_bytes bytes rows row a h =
    omega (arith, rows_fit st.StartRecord a.state (strip_bom bytes) h.rest (rows ++ row ∷ []) refl h.reached, length-append rows (row ∷ []))

-- the records so far with the next one, and the numbers of the Bad ones among them
pub fed_more : (rows : List (List (List ℕ))) (row : List (List ℕ)) (all more : List Record) (bad numbers : List ℕ) (r : Record) (n : ℕ) → all ≡ map record_of rows → r ≡ record_of row
    → more ≡ all ++ r ∷ [] → bad ≡ bad_numbers 0 all → numbers ≡ bad ++ bad_numbers n (r ∷ []) → n ≡ length all
    → (more ≡ map record_of (rows ++ row ∷ [])) × (numbers ≡ bad_numbers 0 more)
fed_more rows row all more bad numbers r n so is grew were noted at =
    let here : 0 + length all ≡ n = omega (arith, at) in (
      grew ∙ (ap (λ (t : List Record). t ++ r ∷ []) so ∙ (ap (λ (x : Record). map record_of rows ++ x ∷ []) is ∙ sym (map-append record_of rows (row ∷ [])))),
      noted ∙ (ap (λ (t : List ℕ). t ++ bad_numbers n (r ∷ [])) were ∙ (sym (rw here at (numbers_push 0 all r)) ∙ ap (bad_numbers 0) (sym grew))),
    )
