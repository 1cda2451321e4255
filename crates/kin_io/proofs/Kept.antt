-- What a change of one file leaves of the others.
use Rattle.std.proofs.Common.{◌≡◌, ◌<◌, ◌≤◌, ◌++◌, ℕ, Bool, true, false, cond, List, length, take, drop, Option, Some, String, option_map, string_bytes, ap, ◌∙◌, sym, refl, subst, arith}
use Rattle.std.specs.Option.{option_map_or}
use Rattle.std.specs.BTreeMap.{BTreeMap, get_by_text, UpdatesBy}
use Rattle.std.specs.String.{string_cmp}
use Rattle.std.specs.Ordering.{nat_cmp}
use Rattle.std.specs.Cmp.Lexicographic.{slice_cmp, bytes_decides}
use Rattle.std.specs.Str.{bytes_eq}
use Rattle.std.proofs.lemmas.Map.Text.{btree_map_updates_text}
use Rattle.kin_io.specs.Outside.{ReadsAt, read_length}
use Rattle.kin_io.specs.declared.memory_shelves.StoredFile.{StoredFile}

abbrev pub bytes_in : Option StoredFile → Option (List ℕ)
bytes_in o = option_map (λ f. f.bytes.items) o

abbrev pub faults_in : ℕ → Option StoredFile → ℕ
faults_in missing o = option_map_or (λ f. f.faults) o missing

bytes_put : (b : Bool) (x : StoredFile) (o : Option StoredFile) → bytes_in (cond b (Some x) o) ≡ cond b (Some x.bytes.items) (bytes_in o)
bytes_put true x o = refl
bytes_put false x o = refl

-- the file x is put under the name bs
module _ {Y : Type 0} (bs : List ℕ) (old new : BTreeMap (String Y) StoredFile) (x : StoredFile)
    (updates : UpdatesBy string_cmp (λ k. slice_cmp nat_cmp bs (string_bytes k)) old new (Some x)) (n : List ℕ) where
  -- that name has its bytes, and the others have theirs
  pub bytes_after : bytes_in (get_by_text new n) ≡ cond (bytes_eq bs n) (Some x.bytes.items) (bytes_in (get_by_text old n))
  bytes_after = ap bytes_in (btree_map_updates_text bs old new (Some x) updates n) ∙ bytes_put (bytes_eq bs n) x (get_by_text old n)

  -- what holds of the file and of what was there for each other name holds of what is there now
  pub holds_after : (P : Option StoredFile → Option StoredFile → Type 0) → P (get_by_text old bs) (Some x) → ((o : Option StoredFile) → P o o) → P (get_by_text old n) (get_by_text new n)
  holds_after P at_bs same = subst (P (get_by_text old n)) (sym (btree_map_updates_text bs old new (Some x) updates n)) (either (bytes_eq bs n) refl)
    where
      either : (b : Bool) → bytes_eq bs n ≡ b → P (get_by_text old n) (cond b (Some x) (get_by_text old n))
      either true e = subst (λ (t : List ℕ). P (get_by_text old t) (Some x)) ((bytes_decides bs n).0 e) at_bs
      either false e = same (get_by_text old n)

  -- the count of each name stays
  pub faults_stay : (missing : ℕ) → x.faults ≡ faults_in missing (get_by_text old bs) → faults_in missing (get_by_text new n) ≡ faults_in missing (get_by_text old n)
  faults_stay missing same = holds_after (λ o p. faults_in missing p ≡ faults_in missing o) same (λ o. refl)

  -- no count falls
  pub faults_grow : (missing : ℕ) → faults_in missing (get_by_text old bs) ≤ x.faults → faults_in missing (get_by_text old n) ≤ faults_in missing (get_by_text new n)
  faults_grow missing more = holds_after (λ o p. faults_in missing o ≤ faults_in missing p) more (λ o. omega arith)

  -- the bytes of each name stay
  pub bytes_stay : bytes_in (get_by_text old bs) ≡ Some x.bytes.items → bytes_in (get_by_text new n) ≡ bytes_in (get_by_text old n)
  bytes_stay same = holds_after (λ o p. bytes_in p ≡ bytes_in o) (sym same) (λ o. refl)

  -- a file that was there already changes nothing
  pub same_after : Some x ≡ get_by_text old bs → get_by_text new n ≡ get_by_text old n
  same_after was = holds_after (λ o p. p ≡ o) was (λ o. refl)

  -- another name has what it had
  pub others_stay : bytes_eq bs n ≡ false → get_by_text new n ≡ get_by_text old n
  others_stay differs = rw differs at (btree_map_updates_text bs old new (Some x) updates n)

-- a file that gives what fits reads as it should
pub reads_kept : (most at n : ℕ) (file buf after : List ℕ) (content : Option (List ℕ)) → content ≡ Some file → 0 < most → n ≡ read_length most file at (length buf)
    → after ≡ take n (drop at file) ++ drop n buf → ReadsAt content at n buf after
reads_kept most at n file buf after content is gives count bytes =
    subst (λ (o : Option (List ℕ)). ReadsAt o at n buf after) (sym is) (omega (arith, count), (bytes, λ some. (λ none. omega (arith, count, none, gives, some), λ past. omega (arith, count, past))))
