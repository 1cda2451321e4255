-- Lines are dealt to feeds in turn.
use Rattle.std.proofs.Common.{ℕ, zero, suc, ◌≡◌, ◌≢◌, ◌∙◌, ◌+◌, ◌-◌, ◌%◌, ◌<◌, ◌≤◌, ◌++◌, Bool, true, false, List, [], ◌∷◌, get_or, set, length, refl, sym, ap, arith, append_assoc, get_or-set_same, get_or-set_other}
use Rattle.std.specs.Prelude.{◌==◌, if◌then◌else◌}
use Rattle.std.proofs.lemmas.Bool.Decides.{nat_tests}
use Rattle.std.proofs.lemmas.List.{append-nil}
use Rattle.kin_gen.specs.Draws.{State}
use Rattle.kin_gen.specs.Feeds.{Text, line, after_line, lines_from, dealt}

pub lines-next : (users n r : ℕ) (s : State) → r < n → lines_from users (n - r) s ≡ line users s ∷ lines_from users (n - (r + 1)) (after_line s)
unfolding lines_from
lines-next users n r s h = let e : n - r ≡ suc (n - (r + 1)) = omega arith in rw e refl

pub lines-over : (users n r : ℕ) (s : State) → n ≤ r → lines_from users (n - r) s ≡ []
unfolding lines_from
lines-over users n r s h = let e : n - r ≡ 0 = omega arith in rw e refl

pub dealt-next : (feed r : ℕ) (text : Text) (texts : List Text) → dealt feed r (text ∷ texts) ≡ (if r % 3 == feed then text else []) ++ dealt feed (r + 1) texts
unfolding dealt
dealt-next feed r text texts = refl

pub dealt-over : (feed r : ℕ) (all : Text) → all ++ dealt feed r [] ≡ all
unfolding dealt
dealt-over feed r all = append-nil all

-- a text written at the place of one feed, and at no other
written : (b : Bool) (k feed : ℕ) (xs : List Text) (text rest : Text) → k < length xs → (k == feed) ≡ b → get_or (set xs k (get_or xs k [] ++ text)) feed [] ++ rest ≡ get_or xs feed [] ++ ((if b then text else []) ++ rest)
written true k feed xs text rest h e =
    let same : k ≡ feed = grind (arith, nat_tests) in
    rw (← same, get_or-set_same xs k (get_or xs k [] ++ text) [] h) (append_assoc (get_or xs k []) text rest)
written false k feed xs text rest h e =
    let other : feed ≢ k = grind (arith, nat_tests) in
    rw (get_or-set_other xs k feed (get_or xs k [] ++ text) [] other) refl

-- a line written at the place of its feed, and the lines after it, are what was still to be dealt
pub deals : (feed r : ℕ) (xs : List Text) (text : Text) (texts : List Text) → r % 3 < length xs → get_or (set xs (r % 3) (get_or xs (r % 3) [] ++ text)) feed [] ++ dealt feed (r + 1) texts ≡ get_or xs feed [] ++ dealt feed r (text ∷ texts)
deals feed r xs text texts h =
    written (r % 3 == feed) (r % 3) feed xs text (dealt feed (r + 1) texts) h refl ∙ ap (λ (t : Text). get_or xs feed [] ++ t) (sym (dealt-next feed r text texts))

-- at first every feed is empty
pub blank : (feed : ℕ) → get_or {A = Text} ([] ∷ [] ∷ [] ∷ []) feed [] ≡ []
blank zero = refl
blank (suc zero) = refl
blank (suc (suc zero)) = refl
blank (suc (suc (suc feed))) = refl

pub three : (xs : List Text) (a b c : Text) → length xs ≡ 3 → get_or xs 0 [] ≡ a → get_or xs 1 [] ≡ b → get_or xs 2 [] ≡ c → xs ≡ a ∷ b ∷ c ∷ []
three [] a b c n x y z = absurd (omega arith)
three (p ∷ []) a b c n x y z = absurd (omega arith)
three (p ∷ q ∷ []) a b c n x y z = absurd (omega arith)
three (p ∷ q ∷ r ∷ []) a b c n x y z = cc
three (p ∷ q ∷ r ∷ s ∷ xs) a b c n x y z = absurd (omega arith)
