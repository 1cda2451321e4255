-- The places of neighbours, each looked up once.
use Rattle.std.proofs.Common.{◌≡◌, ◌<◌, ◌+◌, ◌∙◌, ℕ, zero, suc, Bool, true, false, List, [], ◌∷◌, ◌++◌, map, length, get_or, set, Option, Some, None, IfSome, is_some}
use Rattle.std.proofs.Common.{arith, refl, sym, ap, ap₂, subst}
use Rattle.std.specs.Option.{option_map}
use Rattle.std.proofs.lemmas.List.{get_or-set_same, get_or-set_other, get_or_append_left, get_or_push, length-set, map-set}
use Rattle.kin_ids.specs.declared.ids.User.{User}
use Rattle.kin_ids.specs.Users.{same_user, has_user}
use Rattle.kin_ids.specs.Parts.{PartView}
use Rattle.kin_ids.proofs.Same.{same_user-true, same_user-sym}
use Rattle.kin_rules.specs.declared.pull_rules.Side.{Side}
use Rattle.kin_rules.specs.Edges.{places_of}
use Rattle.kin_rules.specs.LayerTables.{neighbours_seen}
use Rattle.kin_rules.specs.Places.{place}
use Rattle.kin_rules.proofs.PlacedValues.{place-apart}
use Rattle.kin_pull.specs.Passes.{AreRead}
use Rattle.kin_pull.proofs.Marks.{there-at}

-- the places of the neighbours of one user more are looked up
pub read-put : (s : Side) (v : PartView) (us : List User) (ends : List (Option (List ℕ))) (i : ℕ) (user : User) (row : List ℕ)
    → AreRead s v us ends → i < length us → place us user ≡ i → row ≡ places_of us (neighbours_seen s v user)
    → AreRead s v us (set ends i (Some row))
read-put s v us ends i user row old within at is = record {
  long = length-set ends i (Some row) ∙ old.long;
  each = λ x there. here x there (same_user x user) refl;
}
  where
    user-there : has_user us user ≡ true
    user-there = there-at us user (subst (λ (n : ℕ). n < length us) (sym at) within)

    here : (x : User) → has_user us x ≡ true → (b : Bool) → same_user x user ≡ b
        → IfSome (get_or (set ends i (Some row)) (place us x) None) (λ r. r ≡ places_of us (neighbours_seen s v x))
    here x there true e =
        let same : user ≡ x = sym (same_user-true x user e) in
        let cell : get_or (set ends i (Some row)) (place us x) None ≡ Some row
        = ap (λ (n : ℕ). get_or (set ends i (Some row)) n None) (ap (place us) (sym same) ∙ at)
        ∙ get_or-set_same ends i (Some row) None (omega (arith, within, old.long)) in
        subst (λ (o : Option (List ℕ)). IfSome o (λ r. r ≡ places_of us (neighbours_seen s v x))) (sym cell)
        (is ∙ ap (λ (y : User). places_of us (neighbours_seen s v y)) same)
    here x there false e =
        let cell : get_or (set ends i (Some row)) (place us x) None ≡ get_or ends (place us x) None
        = get_or-set_other ends i (place us x) (Some row) None
        (λ same. place-apart us user x user-there (same_user-sym user x ∙ e) (same ∙ sym at)) in
        subst (λ (o : Option (List ℕ)). IfSome o (λ r. r ≡ places_of us (neighbours_seen s v x))) (sym cell) (old.each x there)

-- what was looked up before
pub read-there : (s : Side) (v : PartView) (us : List User) (ends : List (Option (List ℕ))) (i : ℕ) (user : User) → AreRead s v us ends
    → i < length us → place us user ≡ i → is_some (get_or ends i None) ≡ true
    → get_or ends i None ≡ Some (places_of us (neighbours_seen s v user))
read-there s v us ends i user old within at on =
    let there = there-at us user (subst (λ (n : ℕ). n < length us) (sym at) within) in
    here (get_or ends i None) on
    (subst (λ (n : ℕ). IfSome (get_or ends n None) (λ r. r ≡ places_of us (neighbours_seen s v user))) at (old.each user there))
  where
    here : (o : Option (List ℕ)) → is_some o ≡ true → IfSome o (λ r. r ≡ places_of us (neighbours_seen s v user))
        → o ≡ Some (places_of us (neighbours_seen s v user))
    here None e h = absurd cc
    here (Some row) e h = ap Some h

-- cells, read through a map
pub cell-map : {X Y : Type 0} (f : X → Y) (cells : List (Option X)) (p : ℕ)
    → get_or (map (option_map f) cells) p None ≡ option_map f (get_or cells p None)
cell-map f [] p = refl
cell-map f (c ∷ cells) zero = refl
cell-map f (c ∷ cells) (suc p) = cell-map f cells p

pub some-map : {X Y : Type 0} (f : X → Y) (o : Option X) → is_some o ≡ is_some (option_map f o)
some-map f None = refl
some-map f (Some x) = refl

-- rows, by number: one row more leaves the others as they are
abbrev pub rows-at : List (List ℕ) → List (Option ℕ) → List (Option (List ℕ))
rows-at rows numbers = map (option_map (λ (k : ℕ). get_or rows k [])) numbers

pub rows-kept : (rows : List (List ℕ)) (row : List ℕ) (numbers : List (Option ℕ))
    → ((p : ℕ) → IfSome (get_or numbers p None) (λ k. k < length rows)) → rows-at (rows ++ row ∷ []) numbers ≡ rows-at rows numbers
rows-kept rows row [] below = refl
rows-kept rows row (None ∷ numbers) below =
    ap (λ (es : List (Option (List ℕ))). None ∷ es) (rows-kept rows row numbers (λ p. below (suc p)))
rows-kept rows row (Some k ∷ numbers) below =
    ap₂ (λ (r : List ℕ) (es : List (Option (List ℕ))). Some r ∷ es) (get_or_append_left rows (row ∷ []) [] k (below zero))
    (rows-kept rows row numbers (λ p. below (suc p)))

pub rows-put : (rows : List (List ℕ)) (row : List ℕ) (numbers : List (Option ℕ)) (i : ℕ)
    → ((p : ℕ) → IfSome (get_or numbers p None) (λ k. k < length rows))
    → rows-at (rows ++ row ∷ []) (set numbers i (Some (length rows))) ≡ set (rows-at rows numbers) i (Some row)
rows-put rows row numbers i below =
    map-set (option_map (λ (k : ℕ). get_or (rows ++ row ∷ []) k [])) numbers i (Some (length rows))
    ∙ ap₂ (λ (es : List (Option (List ℕ))) (r : List ℕ). set es i (Some r)) (rows-kept rows row numbers below) (get_or_push rows row [] (length rows) refl)

wider : (n : ℕ) (o : Option ℕ) → IfSome o (λ k. k < n) → IfSome o (λ k. k < n + 1)
wider n None h = tt
wider n (Some k) h = omega (arith, h)

pub rows-below : (n : ℕ) (numbers : List (Option ℕ)) (i : ℕ) → ((p : ℕ) → IfSome (get_or numbers p None) (λ k. k < n))
    → (p : ℕ) → IfSome (get_or (set numbers i (Some n)) p None) (λ k. k < n + 1)
rows-below n [] i below p = tt
rows-below n (o ∷ numbers) zero below zero = omega arith
rows-below n (o ∷ numbers) zero below (suc p) = wider n (get_or numbers p None) (below (suc p))
rows-below n (o ∷ numbers) (suc i) below zero = wider n o (below zero)
rows-below n (o ∷ numbers) (suc i) below (suc p) = rows-below n numbers i (λ q. below (suc q)) p
