-- A map from where a piece begins to the piece: look-ups, insertions and removals by its pieces alone.
use Rattle.std.proofs.Common.{◌≡◌, ℕ, ◌<◌, eqb, Bool, true, false, ◌||◌, List, [], ◌∷◌, Option, Some, None, length, get_or, refl, sym, ◌∙◌, ap, subst, arith}
use Rattle.std.specs.Prelude.{is_some, map, MatchOption, IsPermutation}
use Rattle.std.specs.Map.{lookup, remove_entry, keys_of, values_of}
use Rattle.std.specs.BTreeMap.{is_at, insert_entry}
use Rattle.std.specs.List.Sorted.{IsStrictlySortedBy}
use Rattle.std.specs.Ordering.{nat_cmp, is_eq}
use Rattle.std.specs.declared.cmp.Ordering.{Ordering}
use Rattle.std.specs.declared.cmp.Ordering.TheVariants.{Less, Equal, Greater}
use Rattle.std.proofs.lemmas.Bool.{cond_both, or_left, or_parts, or_from, eqb-true, both_ways}
use Rattle.std.proofs.lemmas.Bool.Decides.{nat_tests}
use Rattle.std.proofs.lemmas.List.{get_or-map, length-map}
use Rattle.std.proofs.lemmas.List.Sorted.{IsPermutation-refl, IsPermutation-cons, IsPermutation-middle, IsPermutation-trans}
use Rattle.std.proofs.lemmas.Map.Keys.{below_from_sorted}
use Rattle.kin_ids.specs.declared.ops.Piece.{Piece}
use Rattle.kin_held.specs.Early.{begins, keyed, IsAscending}

-- the test of a look-up at a number
pub is_at-nat : (a b : ℕ) → is_at (nat_cmp a) b ≡ eqb b a
is_at-nat a b = grind (arith, nat_tests)

pub values_of-keyed : (ps : List Piece) → values_of (keyed ps) ≡ ps
values_of-keyed [] = refl
values_of-keyed (p ∷ ps) = ap (λ qs. p ∷ qs) (values_of-keyed ps)

keys_of-keyed : (ps : List Piece) → keys_of (keyed ps) ≡ map (λ (p : Piece). p.stamp.from) ps
keys_of-keyed [] = refl
keys_of-keyed (p ∷ ps) = ap (λ ks. p.stamp.from ∷ ks) (keys_of-keyed ps)

-- entries of pieces by where they begin are those of their values
pub keyed_back : (es : List (ℕ × Piece)) (ps : List Piece) → es ≡ keyed ps → es ≡ keyed (values_of es)
keyed_back es ps e = e ∙ ap keyed (sym (ap values_of e ∙ values_of-keyed ps))

pub ascending_from_sorted : (ps : List Piece) → IsStrictlySortedBy nat_cmp (keys_of (keyed ps)) → IsAscending ps
ascending_from_sorted ps sorted i j d lt within =
    let froms = map (λ (p : Piece). p.stamp.from) ps in
    let count : length froms ≡ length ps = length-map ps (λ (p : Piece). p.stamp.from) in
    let rises : get_or froms i 0 < get_or froms j 0 = below_from_sorted froms i j 0 (subst (IsStrictlySortedBy nat_cmp) (keys_of-keyed ps) sorted) lt (omega arith) in
    rw (← get_or-map (λ (p : Piece). p.stamp.from) ps i d 0 (omega arith), ← get_or-map (λ (p : Piece). p.stamp.from) ps j d 0 within) rises

pub lookup-keyed : (at : ℕ) (ps : List Piece) → is_some (lookup (is_at (nat_cmp at)) (keyed ps)) ≡ begins at ps
lookup-keyed at [] = refl
lookup-keyed at (p ∷ ps) = rw (is_at-nat at p.stamp.from)
    (cond_both (eqb p.stamp.from at) (Some p) (lookup (is_at (nat_cmp at)) (keyed ps)) (λ o. is_some o ≡ (eqb p.stamp.from at || begins at ps))
    (λ e. sym (or_left _ _ e)) (λ e. lookup-keyed at ps ∙ rw e refl))

-- what a removal leaves, and what it takes out
pub record Removed (at : ℕ) (ps : List Piece) : Type 0 where
  pub left : List Piece
  pub entries : remove_entry (is_at (nat_cmp at)) (keyed ps) ≡ keyed left
  pub found : MatchOption (lookup (is_at (nat_cmp at)) (keyed ps)) ((begins at ps ≡ false) × (left ≡ ps)) (λ p. (p.stamp.from ≡ at) × IsPermutation ps (p ∷ left))

-- what was found past a piece that begins elsewhere
passed : (at : ℕ) (p : Piece) (ps left : List Piece) → eqb p.stamp.from at ≡ false → (o : Option Piece)
    → MatchOption o ((begins at ps ≡ false) × (left ≡ ps)) (λ x. (x.stamp.from ≡ at) × IsPermutation ps (x ∷ left))
    → MatchOption o ((begins at (p ∷ ps) ≡ false) × (p ∷ left ≡ p ∷ ps)) (λ x. (x.stamp.from ≡ at) × IsPermutation (p ∷ ps) (x ∷ p ∷ left))
passed at p ps left e None h = (or_from _ _ e h.0, ap (λ xs. p ∷ xs) h.1)
passed at p ps left e (Some x) h = (h.0, IsPermutation-trans (p ∷ ps) (p ∷ x ∷ left) (x ∷ p ∷ left) (IsPermutation-cons p ps (x ∷ left) h.1) (IsPermutation-middle (p ∷ []) x left))

pub removed : (at : ℕ) (ps : List Piece) → Removed at ps
removed at [] = record { left = []; entries = refl; found = (refl, refl) }
removed at (p ∷ ps) = go (removed at ps) (eqb p.stamp.from at) refl
  where
    go : Removed at ps → (b : Bool) → eqb p.stamp.from at ≡ b → Removed at (p ∷ ps)
    go rest true e = let test : is_at (nat_cmp at) p.stamp.from ≡ true = is_at-nat at p.stamp.from ∙ e in
        record { left = ps; entries = rw test refl; found = rw test (eqb-true _ _ e, IsPermutation-refl (p ∷ ps)) }
    go rest false e = let test : is_at (nat_cmp at) p.stamp.from ≡ false = is_at-nat at p.stamp.from ∙ e in
        record {
          left = p ∷ rest.left;
          entries = rw test (ap (λ es. (p.stamp.from, p) ∷ es) rest.entries);
          found = rw test (passed at p ps rest.left e (lookup (is_at (nat_cmp at)) (keyed ps)) rest.found);
        }

-- what an insertion of a piece that begins where none does leaves
pub record Inserted (p : Piece) (ps : List Piece) : Type 0 where
  pub all : List Piece
  pub entries : insert_entry nat_cmp (keyed ps) p.stamp.from p ≡ keyed all
  pub same : IsPermutation (p ∷ ps) all

pub inserted : (p : Piece) (ps : List Piece) → begins p.stamp.from ps ≡ false → Inserted p ps
inserted p [] none = record { all = p ∷ []; entries = refl; same = IsPermutation-refl (p ∷ []) }
inserted p (q ∷ qs) none = go (inserted p qs (or_parts _ _ none).1) (nat_cmp p.stamp.from q.stamp.from) refl
  where
    go : Inserted p qs → (o : Ordering) → nat_cmp p.stamp.from q.stamp.from ≡ o → Inserted p (q ∷ qs)
    go rest Less e = record { all = p ∷ q ∷ qs; entries = rw e refl; same = IsPermutation-refl (p ∷ q ∷ qs) }
    go rest Equal e = absurd (both_ways _ (or_parts _ _ none).0 (sym (is_at-nat p.stamp.from q.stamp.from) ∙ ap is_eq e))
    go rest Greater e = record {
      all = q ∷ rest.all;
      entries = rw e (ap (λ es. (q.stamp.from, q) ∷ es) rest.entries);
      same = IsPermutation-trans (p ∷ q ∷ qs) (q ∷ p ∷ qs) (q ∷ rest.all) (IsPermutation-middle (p ∷ []) q qs) (IsPermutation-cons q (p ∷ qs) rest.all rest.same);
    }

-- the entries of a map are still those of its pieces
pub record IsKept (new : List (ℕ × Piece)) : Type 0 where
  pub keyed : new ≡ keyed (values_of new)
  pub ascending : IsAscending (values_of new)

kept : (new : List (ℕ × Piece)) (ps : List Piece) → new ≡ keyed ps → IsStrictlySortedBy nat_cmp (keys_of new) → IsKept new
kept new ps e sorted = let same : values_of new ≡ ps = ap values_of e ∙ values_of-keyed ps in record {
  keyed = keyed_back new ps e;
  ascending = subst IsAscending (sym same) (ascending_from_sorted ps (subst (λ es. IsStrictlySortedBy nat_cmp (keys_of es)) e sorted));
}

module _ (es : List (ℕ × Piece)) (is_keyed : es ≡ keyed (values_of es)) (new : List (ℕ × Piece)) (sorted : IsStrictlySortedBy nat_cmp (keys_of new)) where
  -- a map after a removal
  pub record MapRemoves (at : ℕ) (r : Option Piece) : Type 0 where
    pub kept : IsKept new
    pub found : MatchOption r ((begins at (values_of es) ≡ false) × (values_of new ≡ values_of es))
        (λ p. (p.stamp.from ≡ at) × IsPermutation (values_of es) (p ∷ values_of new))

  pub map_removes : (at : ℕ) (r : Option Piece) → r ≡ lookup (is_at (nat_cmp at)) es → new ≡ remove_entry (is_at (nat_cmp at)) es → MapRemoves at r
  map_removes at r found left =
      let rest = removed at (values_of es) in
      let entries : new ≡ keyed rest.left = left ∙ (ap (remove_entry (is_at (nat_cmp at))) is_keyed ∙ rest.entries) in
      let same : values_of new ≡ rest.left = ap values_of entries ∙ values_of-keyed rest.left in
      let looked : r ≡ lookup (is_at (nat_cmp at)) (keyed (values_of es)) = found ∙ ap (lookup (is_at (nat_cmp at))) is_keyed in
      record { kept = kept new rest.left entries sorted; found = rw (looked, same) rest.found }

  -- a map after an insertion of a piece that begins where none did
  pub map_inserts : (p : Piece) → begins p.stamp.from (values_of es) ≡ false → new ≡ insert_entry nat_cmp es p.stamp.from p →
      IsKept new × IsPermutation (p ∷ values_of es) (values_of new)
  map_inserts p none all =
      let more = inserted p (values_of es) none in
      let entries : new ≡ keyed more.all = all ∙ (ap (λ (xs : List (ℕ × Piece)). insert_entry nat_cmp xs p.stamp.from p) is_keyed ∙ more.entries) in
      let same : values_of new ≡ more.all = ap values_of entries ∙ values_of-keyed more.all in
      (kept new more.all entries sorted, rw same more.same)
