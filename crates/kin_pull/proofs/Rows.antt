-- Rows of layers, and values that are poured over them.
use Rattle.std.proofs.Common.{◌≡◌, ◌<◌, ◌≤◌, ◌+◌, ◌-◌, ◌∙◌, ◌==◌, eqb, eq-eqb, ℕ, zero, suc, Bool, true, false, List, [], ◌∷◌, map, length}
use Rattle.std.proofs.Common.{get_or, set, Option, None, unwrap_or, if◌then◌else◌, Result, Ok, Err, IfOk, OnOk, arith, refl, sym, ap, ap₂}
use Rattle.std.proofs.Common.{subst}
use Rattle.std.proofs.lemmas.Bool.{both_ways}
use Rattle.std.proofs.lemmas.Bool.Decides.{nat_tests}
use Rattle.std.proofs.lemmas.List.{get_or_default, get_or-map, map-set, get_or-set_same, get_or-set_other, length-set, length-map, get_or_past}
use Rattle.kin_pull.specs.States.{row_of}

pub ok-more : {T E : Type 0} (P Q : T → Type 0) (r : Result T E) → ((v : T) → P v → Q v) → IfOk r P → IfOk r Q
ok-more P Q (Ok v) more h = more v h
ok-more P Q (Err e) more h = tt

pub map-after : {X Y Z : Type 0} (f : Y → Z) (g : X → Y) (xs : List X) → map f (map g xs) ≡ map (λ x. f (g x)) xs
map-after f g [] = refl
map-after {Z = Z} f g (x ∷ xs) = ap (λ (zs : List Z). f (g x) ∷ zs) (map-after f g xs)

-- the row of a layer
pub row-there : {X W : Type 0} (items : W → List X) (rows : List W) (n : ℕ) (w : W) → 0 < n → n ≤ length rows
    → w ≡ get_or rows (n - 1) w → items w ≡ row_of (map items rows) n
row-there items rows zero w some le at = absurd (omega (arith, some))
row-there items rows (suc j) w some le at =
    let same : suc j - 1 ≡ j = omega arith in
    let lt : j < length rows = omega (arith, le) in
    ap items (at ∙ ap (λ (n : ℕ). get_or rows n w) same) ∙ sym (get_or-map items rows j w [] lt)

pub row-none : {X W : Type 0} (items : W → List X) (rows : List W) (n : ℕ) → (0 < n → length rows < n) → [] ≡ row_of (map items rows) n
row-none items rows zero past = refl
row-none items rows (suc j) past =
    let le : length (map items rows) ≤ j = let p = past (omega arith) in let l = length-map rows items in omega (arith, p, l) in
    sym (get_or_past (map items rows) j [] le)

-- one list of lists is changed at a place
pub set-here : {W Y : Type 0} (items : W → List Y) (rows : List W) (j : ℕ) (w : W) → j < length rows
    → get_or (map items (set rows j w)) j [] ≡ items w
set-here items rows j w lt = get_or-map items (set rows j w) j w [] (let l = length-set rows j w in omega (arith, lt, l))
    ∙ ap items (get_or-set_same rows j w w lt)

pub set-else : {W Y : Type 0} (items : W → List Y) (rows : List W) (j q : ℕ) (w : W) → (q ≡ j → ⊥)
    → get_or (map items (set rows j w)) q [] ≡ get_or (map items rows) q []
set-else items rows j q w apart = ap (λ (rs : List (List _)). get_or rs q []) (map-set items rows j w)
    ∙ get_or-set_other (map items rows) j q (items w) [] apart

module _ {V W X : Type 0} (items : W → List V) (cells : X → List (Option V)) (start rows : List W) (given draft : List X) (j : ℕ)
    (w w' : W) (x x' : X) (lt : j < length rows) (below : j < length draft) (at : w ≡ get_or rows j w) (in-draft : x ≡ get_or draft j x)
    (long : length (items w') ≡ length (items w)) (each : (i : ℕ) (d : V) → get_or (items w') i d
    ≡ unwrap_or (get_or (cells x) i None) (get_or (items w) i d))
    (left : (q : ℕ) → j ≤ q → get_or (map items rows) q [] ≡ get_or (map items start) q []) (still : (q : ℕ) → j ≤ q
    → get_or (map cells draft) q [] ≡ get_or (map cells given) q []) where
  here-row : items w ≡ get_or (map items start) j []
  here-row = ap items at ∙ (sym (get_or-map items rows j w [] lt) ∙ left j (omega arith))

  here-draft : cells x ≡ get_or (map cells given) j []
  here-draft = ap cells in-draft ∙ (sym (get_or-map cells draft j x [] below) ∙ still j (omega arith))

  pub poured-longs : ((q : ℕ) → length (get_or (map items rows) q []) ≡ length (get_or (map items start) q [])) → (q : ℕ)
      → length (get_or (map items (set rows j w')) q []) ≡ length (get_or (map items start) q [])
  poured-longs old q = here (eqb q j) refl
    where
      here : (b : Bool) → eqb q j ≡ b → length (get_or (map items (set rows j w')) q []) ≡ length (get_or (map items start) q [])
      here true e =
          let same : j ≡ q = grind (arith, nat_tests, e) in
          subst (λ (n : ℕ). length (get_or (map items (set rows j w')) n []) ≡ length (get_or (map items start) n [])) same
          (ap (λ (vs : List V). length vs) (set-here items rows j w' lt) ∙ (long ∙ ap (λ (vs : List V). length vs) here-row))
      here false e = ap (λ (vs : List V). length vs) (set-else items rows j q w' (λ same. both_ways (eqb q j) e (eq-eqb q j same))) ∙ old q

  pub poured-done : ((q i : ℕ) (d : V) → q < j → get_or (get_or (map items rows) q []) i d
      ≡ unwrap_or (get_or (get_or (map cells given) q []) i None) (get_or (get_or (map items start) q []) i d))
      → (q i : ℕ) (d : V) → q < j + 1 → get_or (get_or (map items (set rows j w')) q []) i d
      ≡ unwrap_or (get_or (get_or (map cells given) q []) i None) (get_or (get_or (map items start) q []) i d)
  poured-done old q i d less = here (eqb q j) refl
    where
      here : (b : Bool) → eqb q j ≡ b → get_or (get_or (map items (set rows j w')) q []) i d
          ≡ unwrap_or (get_or (get_or (map cells given) q []) i None) (get_or (get_or (map items start) q []) i d)
      here true e =
          let same : j ≡ q = grind (arith, nat_tests, e) in
          subst (λ (n : ℕ). get_or (get_or (map items (set rows j w')) n []) i d
          ≡ unwrap_or (get_or (get_or (map cells given) n []) i None) (get_or (get_or (map items start) n []) i d)) same
          (ap (λ (vs : List V). get_or vs i d) (set-here items rows j w' lt) ∙ (each i d
          ∙ ap₂ (λ (os : List (Option V)) (vs : List V). unwrap_or (get_or os i None) (get_or vs i d)) here-draft here-row))
      here false e =
          let lower : q < j = grind (arith, nat_tests, e, less) in
          ap (λ (vs : List V). get_or vs i d) (set-else items rows j q w' (λ same. both_ways (eqb q j) e (eq-eqb q j same)))
          ∙ old q i d lower

  pub poured-left : (q : ℕ) → j + 1 ≤ q → get_or (map items (set rows j w')) q [] ≡ get_or (map items start) q []
  poured-left q le = set-else items rows j q w' (λ same. omega (arith, le, same)) ∙ left q (omega (arith, le))

  pub poured-still : (q : ℕ) → j + 1 ≤ q → get_or (map cells (set draft j x')) q [] ≡ get_or (map cells given) q []
  poured-still q le = set-else cells draft j q x' (λ same. omega (arith, le, same)) ∙ still q (omega (arith, le))

pub on-more : {T E : Type 0} (P Q : Type 0) (r : Result T E) → (P → Q) → OnOk r P → OnOk r Q
on-more P Q (Ok v) more h = more h
on-more P Q (Err e) more h = tt

pub positive : (n : ℕ) → (n ≡ 0 → ⊥) → 0 < n
positive zero some = absurd (some refl)
positive (suc n) some = omega arith

-- a value that is put to a place of a row
set-read : {V : Type 0} (vs : List V) (i p : ℕ) (x d : V) → i < length vs → get_or (set vs i x) p d ≡ (if p == i then x else get_or vs p d)
set-read vs i p x d lt = here (eqb p i) refl
  where
    here : (b : Bool) → eqb p i ≡ b → get_or (set vs i x) p d ≡ (if b then x else get_or vs p d)
    here true e = let same : i ≡ p = grind (arith, nat_tests, e) in subst (λ (n : ℕ). get_or (set vs i x) n d
        ≡ x) same (get_or-set_same vs i x d lt)
    here false e = get_or-set_other vs i p x d (λ same. both_ways (eqb p i) e (eq-eqb p i same))

module _ {V W : Type 0} (items : W → List V) (start rows : List W) (given column : List V) (i j : ℕ) (w w' : W) (x : V)
    (lt : j < length rows) (below : j < length column) (at : w ≡ get_or rows j w) (in-column : x ≡ get_or column j x)
    (put : items w' ≡ set (items w) i x) (inside : (q : ℕ) → q < length start → i < length (get_or (map items start) q []))
    (same : length rows ≡ length start)
    (left : (q : ℕ) → j ≤ q → get_or (map items rows) q [] ≡ get_or (map items start) q []) (still : (q : ℕ) (d : V) → j ≤ q
    → get_or column q d ≡ get_or given q d) where
  column-row : items w ≡ get_or (map items start) j []
  column-row = ap items at ∙ (sym (get_or-map items rows j w [] lt) ∙ left j (omega arith))

  pub put-longs : ((q : ℕ) → length (get_or (map items rows) q []) ≡ length (get_or (map items start) q [])) → (q : ℕ)
      → length (get_or (map items (set rows j w')) q []) ≡ length (get_or (map items start) q [])
  put-longs old q = here (eqb q j) refl
    where
      here : (b : Bool) → eqb q j ≡ b → length (get_or (map items (set rows j w')) q []) ≡ length (get_or (map items start) q [])
      here true e =
          let k : j ≡ q = grind (arith, nat_tests, e) in
          subst (λ (n : ℕ). length (get_or (map items (set rows j w')) n []) ≡ length (get_or (map items start) n [])) k
          (ap (λ (vs : List V). length vs) (set-here items rows j w' lt ∙ put) ∙ (length-set (items w) i x
          ∙ ap (λ (vs : List V). length vs) column-row))
      here false e = ap (λ (vs : List V). length vs) (set-else items rows j q w' (λ k. both_ways (eqb q j) e (eq-eqb q j k))) ∙ old q

  pub put-done : ((q p : ℕ) (d : V) → q < j → p < length (get_or (map items start) q [])
      → get_or (get_or (map items rows) q []) p d ≡ (if p == i then get_or given q d else get_or (get_or (map items start) q []) p d))
      → (q p : ℕ) (d : V) → q < j + 1 → p < length (get_or (map items start) q [])
      → get_or (get_or (map items (set rows j w')) q []) p d ≡ (if p == i then get_or given q d else get_or (get_or
      (map items start) q []) p d)
  put-done old q p d less within = here (eqb q j) refl
    where
      value : x ≡ get_or given j d
      value = in-column ∙ (get_or_default column j x d below ∙ still j d (omega arith))

      fits : i < length (items w)
      fits = let f = inside j (omega (arith, lt, same)) in subst (λ (vs : List V). i < length vs) (sym column-row) f

      here : (b : Bool) → eqb q j ≡ b → get_or (get_or (map items (set rows j w')) q []) p d
          ≡ (if p == i then get_or given q d else get_or (get_or (map items start) q []) p d)
      here true e =
          let k : j ≡ q = grind (arith, nat_tests, e) in
          subst (λ (n : ℕ). get_or (get_or (map items (set rows j w')) n []) p d
          ≡ (if p == i then get_or given n d else get_or (get_or (map items start) n []) p d)) k
          (ap (λ (vs : List V). get_or vs p d) (set-here items rows j w' lt ∙ put) ∙ (set-read (items w) i p x d fits
          ∙ ap₂ (λ (y : V) (vs : List V). if p == i then y else get_or vs p d) value column-row))
      here false e =
          let lower : q < j = grind (arith, nat_tests, e, less) in
          ap (λ (vs : List V). get_or vs p d) (set-else items rows j q w' (λ k. both_ways (eqb q j) e (eq-eqb q j k)))
          ∙ old q p d lower within

  pub put-left : (q : ℕ) → j + 1 ≤ q → get_or (map items (set rows j w')) q [] ≡ get_or (map items start) q []
  put-left q le = set-else items rows j q w' (λ k. omega (arith, le, k)) ∙ left q (omega (arith, le))
