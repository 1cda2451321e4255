-- Numbers that move one after the other move together.
use Rattle.std.proofs.Common.{◌≡◌, ◌<◌, ◌≤◌, ◌+◌, ◌-◌, ◌^◌, ◌&&◌, ◌∙◌, ⊎_elim, ℕ, Bool, true, false, cond, eqb, min, List, [], length, take, get_or, count_by, refl, sym, ap, ap₂, subst, arith}
use Rattle.std.specs.List.{sum_by}
use Rattle.std.proofs.lemmas.Bool.{cases_eq, cond-true, cond-false, eq-eqb, ne_eqb}
use Rattle.std.proofs.lemmas.List.{take_all}
use Rattle.std.proofs.lemmas.List.Sums.{sum_by_more}
use Rattle.kin_ids.specs.declared.ids.User.{User}
use Rattle.kin_ids.specs.Users.{has_user, same_user}
use Rattle.kin_ids.proofs.Same.{same_user-true}
use Rattle.kin_store.specs.declared.pairs.Pair.{Pair}
use Rattle.kin_graph.specs.declared.deltas.SaidRow.{SaidRow}
use Rattle.kin_graph.specs.Deltas.{DeltaLists}
use Rattle.kin_changes.specs.Told.{is_of, pairs_of, said_more}
use Rattle.kin_rules.specs.declared.numbers.Num.{Num}
use Rattle.kin_rules.specs.declared.numbers.Num.TheVariants as num
use Rattle.kin_rules.specs.ResultChanges.{same_num, SetsNumber}
use Rattle.kin_rules.specs.Results.{ResultView, number_in}
use Rattle.kin_counts.specs.Changes.{raised, lowered, of_one, of_rule, Moves, went, came}

-- how many more items of these mention a user
abbrev pub said_in : User → List SaidRow → ℕ
said_in u rows = sum_by (λ (x : SaidRow). cond (same_user u x.user) x.number 0) rows

abbrev nought : ℕ
nought = 0

-- ---- steps

abbrev most : ℕ
most = 2 ^ 64 - 1

raised-none : (m n : ℕ) → m ≡ 0 → raised m n ≡ n
raised-none m n e = cond-true (eqb m 0) n (min (n + m) most) (eq-eqb m 0 e)

pub raised-some : (m n : ℕ) → 0 < m → raised m n ≡ min (n + m) most
raised-some m n lt = cond-false (eqb m 0) n (min (n + m) most) (ne_eqb m 0 (λ e. absurd (omega (arith, e, lt))))

pub raised-twice : (a b n : ℕ) → raised b (raised a n) ≡ raised (a + b) n
raised-twice a b n =
    ⊎_elim (λ (none : a ≡ 0). ap (raised b) (raised-none a n none)
    ∙ ap (λ (m : ℕ). raised m n) (let e : b ≡ a + b = omega (arith, none) in e))
    (λ (some : a ≡ 0 → ⊥). ⊎_elim
    (λ (none : b ≡ 0). raised-none b (raised a n) none ∙ ap (λ (m : ℕ). raised m n) (let e : a ≡ a + b = omega (arith, none) in e))
    (λ (more : b ≡ 0 → ⊥).
    let x = raised-some a n (omega (arith, some)) in
    let y = raised-some b (raised a n) (omega (arith, more)) in
    let z = raised-some (a + b) n (omega (arith, some)) in
    omega (arith, x, y, z))
    (cases_eq b 0))
    (cases_eq a 0)

-- where it fits
pub raised-fits : (m n : ℕ) → n + m < 2 ^ 64 → raised m n ≡ n + m
raised-fits m n fits =
    ⊎_elim (λ (none : m ≡ 0). raised-none m n none ∙ omega (arith, none))
    (λ (some : m ≡ 0 → ⊥). omega (arith, raised-some m n (omega (arith, some)), fits)) (cases_eq m 0)

-- what a number of 64 bits makes of it
pub raised-is : (m n : ℕ) → n < 2 ^ 64 → min (n + m) most ≡ raised m n
raised-is m n fits =
    ⊎_elim (λ (none : m ≡ 0). sym (raised-none m n none ∙ omega (arith, none, fits)))
    (λ (some : m ≡ 0 → ⊥). sym (raised-some m n (omega (arith, some)))) (cases_eq m 0)

pub raised-above : (m n : ℕ) → 0 < n + m → 0 < raised m n
raised-above m n lt =
    ⊎_elim (λ (none : m ≡ 0). omega (arith, raised-none m n none, none, lt))
    (λ (some : m ≡ 0 → ⊥). omega (arith, raised-some m n (omega (arith, some)), lt)) (cases_eq m 0)

pub lowered-none : (n : ℕ) → lowered 0 n ≡ n
lowered-none n = omega arith

pub lowered-twice : (a b n : ℕ) → lowered b (lowered a n) ≡ lowered (a + b) n
lowered-twice a b n = omega arith

-- ---- what is left as it was

abbrev with-numbers : ResultView → ResultView → ResultView
with-numbers r old = record r { ins = old.ins; outs = old.outs; said = old.said; ranks = old.ranks }

same_num-true : (a b : Num) → same_num a b ≡ true → a ≡ b
same_num-true num.In num.In e = refl
same_num-true num.In num.Out e = absurd cc
same_num-true num.In num.Said e = absurd cc
same_num-true num.In num.Rank e = absurd cc
same_num-true num.Out num.In e = absurd cc
same_num-true num.Out num.Out e = refl
same_num-true num.Out num.Said e = absurd cc
same_num-true num.Out num.Rank e = absurd cc
same_num-true num.Said num.In e = absurd cc
same_num-true num.Said num.Out e = absurd cc
same_num-true num.Said num.Said e = refl
same_num-true num.Said num.Rank e = absurd cc
same_num-true num.Rank num.In e = absurd cc
same_num-true num.Rank num.Out e = absurd cc
same_num-true num.Rank num.Said e = absurd cc
same_num-true num.Rank num.Rank e = refl

module _ (step : ℕ → ℕ → ℕ) (none : (n : ℕ) → step 0 n ≡ n) where
  pub moves-users : (a c : ResultView) (by : Num → User → ℕ) → Moves step a by c → c.users ≡ a.users
  moves-users a c by m = ap (λ (r : ResultView). r.users) m.rest

  unmoved : (b : Bool) (n : ℕ) → n ≡ cond b (step 0 n) n
  unmoved true n = sym (none n)
  unmoved false n = refl

  pub moves-nothing : (a : ResultView) → Moves step a (λ w u. 0) a
  moves-nothing a = record { numbers = λ which u. unmoved (has_user a.users u) (number_in a which u); rest = refl }

  pub moves-alike : (a c : ResultView) (by other : Num → User → ℕ) → ((which : Num) (u : User) → by which u ≡ other which u)
      → Moves step a by c → Moves step a other c
  moves-alike a c by other same m = record {
    numbers = λ which u. m.numbers which u ∙ ap (λ (k : ℕ). cond (has_user a.users u) (step k (number_in a which u))
        (number_in a which u)) (same which u);
    rest = m.rest;
  }

  -- a number is set to what a step makes of it
  pub moves-one : (a c : ResultView) (which : Num) (u : User) (n : ℕ) → has_user a.users u ≡ true
      → SetsNumber a which u (step n (number_in a which u)) c → Moves step a (of_one which u n) c
  moves-one a c which u n there set = record {
    numbers = λ rule x. set.number rule x
        ∙ by_test rule x (same_num rule which) (same_user x u) refl refl;
    rest = set.rest;
  } where
    by_test : (rule : Num) (x : User) (s t : Bool) → same_num rule which ≡ s → same_user x u ≡ t
        → cond (s && t) (step n (number_in a which u)) (number_in a rule x)
        ≡ cond (has_user a.users x) (step (cond (s && t) n 0) (number_in a rule x)) (number_in a rule x)
    by_test rule x false t e f = unmoved (has_user a.users x) (number_in a rule x)
    by_test rule x true false e f = unmoved (has_user a.users x) (number_in a rule x)
    by_test rule x true true e f =
        let same : x ≡ u = same_user-true x u f in
        let one : has_user a.users x ≡ true = ap (has_user a.users) same ∙ there in
        ap₂ (λ (r : Num) (y : User). step n (number_in a r y)) (sym (same_num-true rule which e)) (sym same) ∙ rw one refl

  -- nobody has that number
  pub moves-none : (a : ResultView) (which : Num) (u : User) (n : ℕ) → has_user a.users u ≡ false → Moves step a (of_one which u n) a
  moves-none a which u n away = record { numbers = λ rule x. by_test rule x (same_num rule which) (same_user x u) refl; rest = refl } where
    by_test : (rule : Num) (x : User) (s t : Bool) → same_user x u ≡ t → number_in a rule x
        ≡ cond (has_user a.users x) (step (cond (s && t) n 0) (number_in a rule x)) (number_in a rule x)
    by_test rule x false t f = unmoved (has_user a.users x) (number_in a rule x)
    by_test rule x true false f = unmoved (has_user a.users x) (number_in a rule x)
    by_test rule x true true f =
        let out : has_user a.users x ≡ false = ap (has_user a.users) (same_user-true x u f) ∙ away in rw out refl

  module _ (twice : (a b n : ℕ) → step b (step a n) ≡ step (a + b) n) where
    pub moves-twice : (a b c : ResultView) (f g : Num → User → ℕ) → Moves step a f b → Moves step b g c
        → Moves step a (λ which u. f which u + g which u) c
    moves-twice a b c f g first second = record {
      numbers = λ which u. second.numbers which u ∙ (ap (λ (us : List User). cond (has_user us u)
          (step (g which u) (number_in b which u)) (number_in b which u)) (moves-users a b f first)
          ∙ joined which u (has_user a.users u) (number_in b which u) (first.numbers which u));
      rest = ap (λ (r : ResultView). with-numbers r a) second.rest ∙ first.rest;
    } where
      joined : (which : Num) (u : User) (there : Bool) (n : ℕ) → n
          ≡ cond there (step (f which u) (number_in a which u)) (number_in a which u)
          → cond there (step (g which u) n) n ≡ cond there (step (f which u + g which u) (number_in a which u)) (number_in a which u)
      joined which u true n e = ap (step (g which u)) e ∙ twice (f which u) (g which u) (number_in a which u)
      joined which u false n e = e

    -- a list of amounts of users
    module _ {Y : Type 0} (key : Y → User) (amount : Y → ℕ) (which : Num) (ys : List Y) (i : ℕ) (a : ResultView) where
      abbrev sums : List Y → User → ℕ
      sums zs x = sum_by (λ y. cond (same_user x (key y)) (amount y) 0) zs

      pub moves-next : (b c : ResultView) (d : Y) → i < length ys → Moves step a (of_rule which (sums (take i ys))) b
          → Moves step b (of_one which (key (get_or ys i d)) (amount (get_or ys i d))) c
          → Moves step a (of_rule which (sums (take (i + 1) ys))) c
      moves-next b c d lt sofar one =
          let y = get_or ys i d in
          moves-alike a c (λ rule x. of_rule which (sums (take i ys)) rule x + of_one which (key y) (amount y) rule x)
          (of_rule which (sums (take (i + 1) ys)))
          (λ rule x. added (same_num rule which) (same_user x (key y)) (amount y) (sums (take i ys) x) (sums (take (i + 1) ys) x)
          (sum_by_more (λ z. cond (same_user x (key z)) (amount z) 0) ys i d lt))
          (moves-twice a b c (of_rule which (sums (take i ys))) (of_one which (key y) (amount y)) sofar one) where
            added : (s t : Bool) (n m k : ℕ) → k ≡ m + cond t n 0 → cond s m 0 + cond (s && t) n 0 ≡ cond s k 0
            added true t n m k e = sym e
            added false t n m k e = refl

      pub moves-last : (b : ResultView) → length ys ≤ i → Moves step a (of_rule which (sums (take i ys))) b
          → Moves step a (of_rule which (sums ys)) b
      moves-last b past m = subst (λ (zs : List Y). Moves step a (of_rule which (sums zs)) b) (take_all i ys past) m

of-nothing : (which rule : Num) (u : User) → of_rule which (λ x. 0) rule u ≡ nought
of-nothing which rule u = by_test (same_num rule which) where
  by_test : (b : Bool) → cond b nought nought ≡ nought
  by_test true = refl
  by_test false = refl

pub moves-start : (step : ℕ → ℕ → ℕ) → ((n : ℕ) → step 0 n ≡ n) → (a : ResultView) (which : Num) → Moves step a (of_rule which (λ x. 0)) a
moves-start step none a which = moves-alike step none a a (λ w u. 0) (of_rule which (λ x. 0)) (λ w u. sym (of-nothing which w u))
    (moves-nothing step none a)

-- ---- what deltas tell, one after the other
module _ (ds : List DeltaLists) (i : ℕ) (d : DeltaLists) (lt : i < length ds) (is : d ≡ get_or ds i d) where
  more-pairs : (lists : DeltaLists → List Pair) (u : User) → pairs_of lists (take (i + 1) ds) u
      ≡ pairs_of lists (take i ds) u + count_by (is_of u) (lists d)
  more-pairs lists u = sum_by_more (λ x. count_by (is_of u) (lists x)) ds i d lt
      ∙ ap (λ (x : DeltaLists). pairs_of lists (take i ds) u + count_by (is_of u) (lists x)) (sym is)

  more-said : (u : User) → said_more (take (i + 1) ds) u ≡ said_more (take i ds) u + said_in u d.said
  more-said u = sum_by_more (λ (x : DeltaLists). said_in u x.said) ds i d lt
      ∙ ap (λ (x : DeltaLists). said_more (take i ds) u + said_in u x.said) (sym is)

  abbrev gone : List Pair → User → ℕ
  gone ps u = count_by (is_of u) ps

  pub went-next : (a b b1 c : ResultView) → Moves lowered a (went (take i ds)) b → Moves lowered b (of_rule num.In (gone d.gone_in)) b1
      → Moves lowered b1 (of_rule num.Out (gone d.gone_out)) c → Moves lowered a (went (take (i + 1) ds)) c
  went-next a b b1 c sofar first second =
      moves-alike lowered lowered-none a c (λ w u. (went (take i ds) w u + of_rule num.In (gone d.gone_in) w u) + of_rule num.Out
      (gone d.gone_out) w u) (went (take (i + 1) ds)) same
      (moves-twice lowered lowered-none lowered-twice a b1 c (λ w u. went (take i ds) w u + of_rule num.In (gone d.gone_in) w u)
      (of_rule num.Out (gone d.gone_out))
      (moves-twice lowered lowered-none lowered-twice a b b1 (went (take i ds)) (of_rule num.In (gone d.gone_in)) sofar first) second) where
        same : (w : Num) (u : User) → (went (take i ds) w u + of_rule num.In (gone d.gone_in) w u) + of_rule num.Out
            (gone d.gone_out) w u ≡ went (take (i + 1) ds) w u
        same num.In u = omega (arith, more-pairs (λ x. x.gone_in) u)
        same num.Out u = omega (arith, more-pairs (λ x. x.gone_out) u)
        same num.Said u = refl
        same num.Rank u = refl

  pub came-next : (a b b1 b2 c : ResultView) → Moves raised a (came (take i ds)) b → Moves raised b (of_rule num.In (gone d.now_in)) b1
      → Moves raised b1 (of_rule num.Out (gone d.now_out)) b2
      → Moves raised b2 (of_rule num.Said (λ u. said_in u d.said)) c → Moves raised a (came (take (i + 1) ds)) c
  came-next a b b1 b2 c sofar first second third =
      moves-alike raised (λ n. refl) a c (λ w u. ((came (take i ds) w u + of_rule num.In (gone d.now_in) w u) + of_rule num.Out
      (gone d.now_out) w u) + of_rule num.Said (λ x. said_in x d.said) w u) (came (take (i + 1) ds)) same
      (moves-twice raised (λ n. refl) raised-twice a b2 c (λ w u.
      (came (take i ds) w u + of_rule num.In (gone d.now_in) w u) + of_rule num.Out (gone d.now_out) w u)
      (of_rule num.Said (λ x. said_in x d.said))
      (moves-twice raised (λ n. refl) raised-twice a b1 b2 (λ w u. came (take i ds) w u + of_rule num.In (gone d.now_in) w u)
      (of_rule num.Out (gone d.now_out))
      (moves-twice raised (λ n. refl) raised-twice a b b1 (came (take i ds))
      (of_rule num.In (gone d.now_in)) sofar first) second) third) where
        same : (w : Num) (u : User) → ((came (take i ds) w u + of_rule num.In (gone d.now_in) w u) + of_rule num.Out
            (gone d.now_out) w u) + of_rule num.Said (λ x. said_in x d.said) w u ≡ came (take (i + 1) ds) w u
        same num.In u = omega (arith, more-pairs (λ x. x.now_in) u)
        same num.Out u = omega (arith, more-pairs (λ x. x.now_out) u)
        same num.Said u = omega (arith, more-said u)
        same num.Rank u = refl

-- nothing yet, and all
pub went-start : (a : ResultView) → Moves lowered a (went []) a
went-start a = moves-alike lowered lowered-none a a (λ w u. 0) (went []) same (moves-nothing lowered lowered-none a) where
  same : (w : Num) (u : User) → nought ≡ went [] w u
  same num.In u = refl
  same num.Out u = refl
  same num.Said u = refl
  same num.Rank u = refl

pub came-start : (a : ResultView) → Moves raised a (came []) a
came-start a = moves-alike raised (λ n. refl) a a (λ w u. 0) (came []) same (moves-nothing raised (λ n. refl) a) where
  same : (w : Num) (u : User) → nought ≡ came [] w u
  same num.In u = refl
  same num.Out u = refl
  same num.Said u = refl
  same num.Rank u = refl

pub all-taken : (by : List DeltaLists → Num → User → ℕ) (step : ℕ → ℕ → ℕ) (ds : List DeltaLists) (i : ℕ) (a b : ResultView)
    → length ds ≤ i → Moves step a (by (take i ds)) b → Moves step a (by ds) b
all-taken by step ds i a b past m = subst (λ (xs : List DeltaLists). Moves step a (by xs) b) (take_all i ds past) m
