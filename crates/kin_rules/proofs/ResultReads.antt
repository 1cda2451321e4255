-- What is read in a result, and the result of the empty graph.
use Rattle.std.proofs.Common.{◌≡◌, ◌<◌, ◌≤◌, ◌∙◌, ℕ, zero, suc, Bool, true, false, nat_lt, List, [], ◌∷◌, length, get_or, replicate, cond, Option, None, Some, All, arith, refl, sym, ap, subst}
use Rattle.std.specs.Prelude.{slice_get}
use Rattle.std.specs.List.Sorted.{IsStrictlySortedBy}
use Rattle.std.specs.declared.cmp.Ordering.{Ordering}
use Rattle.std.proofs.lemmas.Bool.Decides.{nat_tests}
use Rattle.std.proofs.lemmas.List.{length-replicate, get_or-replicate}
use Rattle.kin_ids.specs.declared.ids.User.{User}
use Rattle.kin_ids.specs.Graph.{empty_graph}
use Rattle.kin_ids.specs.Users.{same_tag}
use Rattle.kin_rules.specs.declared.numbers.Num.{Num}
use Rattle.kin_rules.specs.declared.numbers.Num.TheVariants as num
use Rattle.kin_rules.specs.Nets.{hops_of, close_of}
use Rattle.kin_rules.specs.Results.{ColumnView, ResultView, IsTabular, IsResult, AreExposures, no_column, first_result, value_in, hops_in, close_in, from_landmark, has_tag, tag_place, number_in, number_of}
use Rattle.kin_rules.proofs.Ascending.{read-none}
use Rattle.kin_rules.proofs.Instances.{hops-least, close-least}
use Rattle.kin_rules.proofs.KeyOrders.{tag_cmp-exact}

pub tag-past : {V : Type 0} (ts : List (List ℕ)) (vs : List V) (t : List ℕ) (d : V) → length vs ≡ length ts → has_tag ts t ≡ false → get_or vs (tag_place ts t) d ≡ d
tag-past ts vs t d long none = read-none tag_cmp-exact ts vs t d long none

-- a tag is one of them exactly where its number is above 0
pub tag-in-use : (ts : List (List ℕ)) (ns : List ℕ) (t : List ℕ) → length ns ≡ length ts → All (λ n. 0 < n) ns → has_tag ts t ≡ nat_lt 0 (get_or ns (tag_place ts t) 0)
tag-in-use [] ns t long some = here ns long
  where
    here : (ns : List ℕ) → length ns ≡ 0 → false ≡ nat_lt 0 (get_or ns 0 0)
    here [] long = refl
    here (n ∷ ns) long = absurd (omega (arith, long))
tag-in-use (s ∷ ts) [] t long some = absurd (omega (arith, long))
tag-in-use (s ∷ ts) (n ∷ ns) t long some = here (same_tag t s) (tag-in-use ts ns t (omega (arith, long)) (λ k d lt. some (suc k) d (omega (arith, lt))))
  where
    here : (b : Bool) → has_tag ts t ≡ nat_lt 0 (get_or ns (tag_place ts t) 0)
        → Rattle.std.proofs.Common.◌||◌ b (has_tag ts t) ≡ nat_lt 0 (get_or (n ∷ ns) (cond (Rattle.std.proofs.Common.not b) (Rattle.std.proofs.Common.◌+◌ 1 (tag_place ts t)) 0) 0)
    here true old = let up : 0 < n = some 0 0 (omega arith) in grind (arith, nat_tests, up)
    here false old = old ∙ ap (λ (m : ℕ). nat_lt 0 (get_or (n ∷ ns) m 0)) (let e : suc (tag_place ts t) ≡ Rattle.std.proofs.Common.◌+◌ 1 (tag_place ts t) = omega arith in e)

pub sorted-nil : {K : Type 0} (c : K → K → Ordering) → IsStrictlySortedBy c []
unfolding IsStrictlySortedBy
sorted-nil c = tt

pub no-exposures : AreExposures []
no-exposures = record { ascend = sorted-nil _; some = λ k d lt. absurd (omega (arith, lt)) }

blank : (n i : ℕ) → get_or (replicate n no_column) i no_column ≡ no_column
blank zero i = refl
blank (suc n) zero = refl
blank (suc n) (suc i) = blank n i

all-blank : (n : ℕ) (cs : List ColumnView) → cs ≡ replicate n no_column → All (λ (c : ColumnView). length c.values ≡ 0) cs
all-blank n cs is k d lt =
    ap (λ (l : List ColumnView). length (get_or l k d).values) is
    ∙ ap (λ (c : ColumnView). length c.values) (get_or-replicate n k no_column d (let e = ap length is in let f = length-replicate n no_column in omega (arith, e, f, lt)))

pub first-tabular : (n : ℕ) (hops close : List ColumnView) → hops ≡ replicate n no_column → close ≡ replicate n no_column
    → IsTabular (record { epoch = 0; users = []; ins = []; outs = []; said = []; ranks = []; tags = []; tag_users = []; expos = []; hops = hops; close = close })
first-tabular n hops close h c = record {
  users = sorted-nil _;
  ins = refl;
  outs = refl;
  said = refl;
  ranks = refl;
  tags = sorted-nil _;
  tag_users = refl;
  expos = refl;
  in_use = λ k d lt. absurd (omega (arith, lt));
  exposures = λ k d lt. absurd (omega (arith, lt));
  hops = all-blank n hops h;
  close = all-blank n close c;
  landmarks = ap length c ∙ sym (ap length h);
}

no-value : (n i : ℕ) (u : User) → value_in [] (replicate n no_column) i u ≡ None
no-value n i u = ap (λ (c : ColumnView). Rattle.kin_rules.specs.Results.value_of [] c u) (blank n i)

none-from : (f : User → User → Option ℕ) (l : Option User) (u : User) → ((m : User) → f m u ≡ None) → from_landmark f l u ≡ None
none-from f None u none = refl
none-from f (Some m) u none = none m

no-number : (n : ℕ) (which : Num) (u : User) → number_in (first_result n) which u ≡ 0
no-number n num.In u = refl
no-number n num.Out u = refl
no-number n num.Said u = refl
no-number n num.Rank u = refl

pub first-is : (us : List User) (n : ℕ) → length us ≡ n → IsResult empty_graph us (first_result n)
first-is us n long = record {
  users_ascend = sorted-nil _;
  users = λ u. refl;
  tags_ascend = sorted-nil _;
  tags = λ t. refl;
  numbers = λ which u. no-number n which u;
  tag_users = λ t. refl;
  expos = λ t. refl;
  columns = length-replicate n no_column ∙ sym long;
  hops = λ i u. no-value n i u ∙ sym (none-from (hops_of empty_graph) (slice_get us i) u (λ m. (hops-least empty_graph m u).outside refl));
  close = λ i u. no-value n i u ∙ sym (none-from (close_of empty_graph) (slice_get us i) u (λ m. (close-least empty_graph m u).outside refl));
}
