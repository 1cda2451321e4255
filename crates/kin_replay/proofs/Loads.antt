-- Files that are read one after the other, within a limit for all of them together.
use Rattle.std.proofs.Common.{◌≡◌, ℕ, zero, suc, ◌+◌, ◌<◌, ◌≤◌, get_or, cond, not, Bool, true, false, inl, inr, List, [], ◌∷◌, ◌++◌, length, map, filter, take, Some, refl, ap, ◌∙◌, arith}
use Rattle.std.specs.List.{All, sum_by}
use Rattle.std.proofs.lemmas.List.{take_more}
use Rattle.std.proofs.lemmas.List.Elements.{All-nil, All-cons, All-head, All-tail}
use Rattle.std.proofs.lemmas.List.Sums.{sum_by-cons}
use Rattle.kin_script.specs.declared.events.Line.{Line}
use Rattle.kin_io.specs.Outside.{Rose}
use Rattle.kin_script.specs.Schedules.{is_silent, numbered, spoken, written}
use Rattle.kin_replay.specs.Files.{Text, Contents, Files, Faults, Told, SomeRose, feed_bytes}

pub map-last : {X Y : Type 0} (f : X → Y) (xs : List X) (x : X) → map f (xs ++ x ∷ []) ≡ map f xs ++ f x ∷ []
map-last f [] x = refl
map-last f (y ∷ ys) x = ap (λ (zs : List _). f y ∷ zs) (map-last f ys x)

-- of what a function makes of a list, one more than the first i
pub map-next : {X Y : Type 0} (f : X → Y) (xs : List X) (i : ℕ) (d : X) → i < length xs → map f (take (i + 1) xs) ≡ map f (take i xs) ++ f (get_or xs i d) ∷ []
map-next f xs i d lt = ap (map f) (take_more xs i d lt) ∙ map-last f (take i xs) (get_or xs i d)

pub no-less : (i : ℕ) → i < 0 → ⊥
no-less i lt = omega (arith, lt)

-- the sum of the first i and the next is at most that of all
pub sum-next : {X Y : Type 0} (f : Y → ℕ) (g : X → Y) (xs : List X) (i : ℕ) (d : X) → i < length xs → sum_by f (map g (take i xs)) + f (g (get_or xs i d)) ≤ sum_by f (map g xs)
sum-next f g [] i d lt = absurd (no-less i lt)
sum-next f g (x ∷ xs) zero d lt = let s = sum_by-cons f (g x) (map g xs) in omega (arith, s)
sum-next f g (x ∷ xs) (suc i) d lt =
    let next = sum-next f g xs i d (omega (arith, lt)) in
    let a = sum_by-cons f (g x) (map g (take i xs)) in
    let b = sum_by-cons f (g x) (map g xs) in
    omega (arith, next, a, b)

-- the same of what two functions make, one after the other
pub sum-next-twice : {X Y Z : Type 0} (f : Z → ℕ) (g : Y → Z) (h : X → Y) (xs : List X) (i : ℕ) (d : X) → i < length xs →
    sum_by f (map g (map h (take i xs))) + f (g (h (get_or xs i d))) ≤ sum_by f (map g (map h xs))
sum-next-twice f g h [] i d lt = absurd (no-less i lt)
sum-next-twice f g h (x ∷ xs) zero d lt = let s = sum_by-cons f (g (h x)) (map g (map h xs)) in omega (arith, s)
sum-next-twice f g h (x ∷ xs) (suc i) d lt =
    let next = sum-next-twice f g h xs i d (omega (arith, lt)) in
    let a = sum_by-cons f (g (h x)) (map g (map h (take i xs))) in
    let b = sum_by-cons f (g (h x)) (map g (map h xs)) in
    omega (arith, next, a, b)

length-filter : {X : Type 0} (p : X → Bool) (xs : List X) → length (filter p xs) ≤ length xs
length-filter p [] = omega arith
length-filter p (x ∷ xs) = by-test (p x) (length-filter p xs)
  where
    by-test : (t : Bool) → length (filter p xs) ≤ length xs → length (cond t (x ∷ filter p xs) (filter p xs)) ≤ suc (length xs)
    by-test true le = omega (arith, le)
    by-test false le = omega (arith, le)

length-numbered : (n : ℕ) (ls : List Text) → length (numbered n ls) ≡ length ls
length-numbered n [] = refl
length-numbered n (l ∷ ls) = ap suc (length-numbered (n + 1) ls)

length-written : (script : List Line) → length (map written script) ≡ length script
length-written [] = refl
length-written (l ∷ ls) = ap suc (length-written ls)

-- a script has no more events than lines
pub script-few : (script : List Line) (ls : List Text) → map written script ≡ spoken ls → length script ≤ length ls
script-few script ls e =
    let a = length-written script in
    let b = ap (λ (xs : List (ℕ × Text)). length xs) e in
    let c = length-filter (λ (line : ℕ × Text). not (is_silent line.1)) (numbered 1 ls) in
    let d = length-numbered 1 ls in
    omega (arith, a, b, c, d)

-- where some read of a name failed, one of the names has it
pub rose-at : (before now : Faults) (names : List Text) (i : ℕ) (d : Text) → i < length names → Rose (before (get_or names i d)) (now (get_or names i d)) → SomeRose before now names
rose-at before now [] i d lt r = absurd (no-less i lt)
rose-at before now (n ∷ ns) zero d lt r = inl r
rose-at before now (n ∷ ns) (suc i) d lt r = inr (rose-at before now ns i d (omega (arith, lt)) r)

-- the files that were read, and the next one past what is left, are past the limit together
pub feeds-past : (files : Files) (names : List Text) (read : List (List ℕ)) (i left : ℕ) (d : Text) → i < length names → read ≡ map files (take i names)
    → left + sum_by (λ (f : List ℕ). length f) read ≡ 33554432 → left < length (files (get_or names i d)) → 33554432 < feed_bytes files names
feeds-past files names read i left d lt same sum past =
    let next = sum-next (λ (f : List ℕ). length f) files names i d lt in
    let here : left + sum_by (λ (f : List ℕ). length f) (map files (take i names)) ≡ 33554432 = rw (← same) sum in
    omega (arith, next, here, past)

-- a read that failed for one of the first names failed for one of all
pub rose-first : (before now : Faults) (xs ys : List Text) → SomeRose before now xs → SomeRose before now (xs ++ ys)
rose-first before now [] ys r = absurd r
rose-first before now (x ∷ xs) ys (inl r) = inl r
rose-first before now (x ∷ xs) ys (inr r) = inr (rose-first before now xs ys r)

pub rose-last : (before now : Faults) (xs : List Text) (x : Text) → Rose (before x) (now x) → SomeRose before now (xs ++ x ∷ [])
rose-last before now [] x r = inl r
rose-last before now (y ∷ ys) x r = inr (rose-last before now ys x r)

-- it failed for one of them, so not for none
pub rose-none : (before now : Faults) (names : List Text) → SomeRose before now names → All (λ name. Rose (before name) (now name) → ⊥) names → ⊥
rose-none before now [] r none = absurd r
rose-none before now (x ∷ xs) (inl r) none = All-head (λ name. Rose (before name) (now name) → ⊥) x xs none r
rose-none before now (x ∷ xs) (inr r) none = rose-none before now xs r (All-tail (λ name. Rose (before name) (now name) → ⊥) x xs none)

-- what is told of all names is told of the first ones, and of the last
pub told-first : (content : Contents) (files : Files) (xs ys : List Text) → Told content (xs ++ ys) files → Told content xs files
told-first content files [] ys told = All-nil (λ name. content name ≡ Some (files name))
told-first content files (x ∷ xs) ys told =
    All-cons (λ name. content name ≡ Some (files name)) x xs (All-head (λ name. content name ≡ Some (files name)) x (xs ++ ys) told)
    (told-first content files xs ys (All-tail (λ name. content name ≡ Some (files name)) x (xs ++ ys) told))

pub told-last : (content : Contents) (files : Files) (xs : List Text) (x : Text) → Told content (xs ++ x ∷ []) files → content x ≡ Some (files x)
told-last content files [] x told = All-head (λ name. content name ≡ Some (files name)) x [] told
told-last content files (y ∷ ys) x told = told-last content files ys x (All-tail (λ name. content name ≡ Some (files name)) y (ys ++ x ∷ []) told)
