-- The lines of a result are those of its graph.
use Rattle.std.proofs.Common.{◌≡◌, ℕ, suc, ◌+◌, Bool, true, false, ◌&&◌, cond, List, [], ◌∷◌, ◌++◌, map, filter, take, length, refl, sym, ap, ap₂, ◌∙◌, arith, zero-add, Option, Some, None, codes}
use Rattle.std.proofs.Math.Path.{fun_ext}
use Rattle.std.specs.Prelude.{nat_lt, slice_get, is_some, unwrap_or}
use Rattle.std.specs.Fmt.{decimal}
use Rattle.std.specs.Cmp.{IsEquivalence}
use Rattle.std.specs.List.{count_by, list_any, IsDistinct, AllByRecursion, flat_map}
use Rattle.std.proofs.lemmas.Bool.{cond_both, cond-true, or_left, or_right}
use Rattle.std.proofs.lemmas.List.Sums.{length-filter}
use Rattle.std.proofs.lemmas.Map.Keys.{IsDistinct-push, IsDistinct-cons, IsDistinct-head, IsDistinct-tail, IsDistinct-from_sorted}
use Rattle.std.proofs.lemmas.Map.Made.{is_member-filter, length-from_same_keys}
use Rattle.kin_ids.specs.declared.ids.User.{User}
use Rattle.kin_ids.specs.declared.stamps.End.{End}
use Rattle.kin_ids.specs.declared.options.OptionWords.{OptionWords}
use Rattle.kin_ids.specs.Users.{user_cmp, tag_cmp, same_user, same_tag, has_user}
use Rattle.kin_ids.specs.Graph.{Graph, TagUse, distinct_tags, vertices, tags_in}
use Rattle.kin_ids.proofs.Same.{same_user-refl, same_user-true, same_tag-true, same_tag-refl, same_tag-sym}
use Rattle.kin_rules.specs.declared.numbers.Num.{Num}
use Rattle.kin_rules.specs.declared.numbers.Num.TheVariants as num
use Rattle.kin_rules.specs.declared.numbers.UserNumber.{UserNumber}
use Rattle.kin_rules.specs.declared.numbers.TagNumber.{TagNumber}
use Rattle.kin_rules.specs.declared.numbers.KCount.{KCount}
use Rattle.kin_rules.specs.Nets.{hops_of, close_of}
use Rattle.kin_rules.specs.Exposure.{exposures}
use Rattle.kin_rules.specs.Top.{numbered_tags, top_users, top_tags, positive_users, positive_tags, numbered_users, in_order, user_order}
use Rattle.kin_rules.specs.Results.{ResultView, IsResult, number_in, number_of, tag_users_in, expo_in, hops_in, close_in, from_landmark}
use Rattle.kin_rules.proofs.Orders.{count-cons, alike-in-order}
use Rattle.kin_rules.proofs.Top.{tags-exact}
use Rattle.kin_rules.proofs.Entries.{any-order, tags-any-order, tag-laws, user-laws, counts-same, vertices-once}
use Rattle.kin_report.specs.declared.walks.Walk.{Walk}
use Rattle.kin_report.specs.declared.walks.Walk.TheVariants as walk
use Rattle.kin_report.proofs.Lines.{lines-twice}
use Rattle.kin_report.specs.Text.{Words, line_of, text_of}
use Rattle.kin_report.specs.Block.{epoch_line, block_text, user_lines, number_lines, tag_list, tag_lines, expo_lines, entry_of, valued_users, value_lines, chosen, rule_lines}
use Rattle.kin_report.specs.Written.{value_in, head_of, entry_name, result_numbers, result_tags, result_walk, result_walks, result_lines}

-- ---- tags in use

tags-once-onto : (seen : List (List ℕ)) (xs : List TagUse) → IsDistinct same_tag seen → IsDistinct same_tag (distinct_tags seen xs)
tags-once-onto seen [] once = once
tags-once-onto seen (x ∷ xs) once = cond_both (list_any (same_tag x.tag) seen) (distinct_tags seen xs) (distinct_tags (seen ++ x.tag ∷ []) xs) (IsDistinct same_tag)
    (λ _. tags-once-onto seen xs once) (λ no. tags-once-onto (seen ++ x.tag ∷ []) xs (IsDistinct-push tag-laws seen x.tag once no))

-- the tags in use are each there once
tags-once : (g : Graph) → IsDistinct same_tag (tags_in g)
unfolding IsDistinct
tags-once g = tags-once-onto [] g.uses tt

-- ---- users with a value

-- those with a value above 0 are those with a number above 0
positive-valued : (f : User → Option ℕ) (us : List User) → positive_users (valued_users f us) ≡ positive_users (numbered_users (λ u. unwrap_or (f u) 0) us)
positive-valued f [] = refl
positive-valued f (u ∷ us) = here (f u) (positive-valued f us)
  where
    here : (o : Option ℕ) → positive_users (valued_users f us) ≡ positive_users (numbered_users (λ u. unwrap_or (f u) 0) us)
        → positive_users (entry_of u o ++ valued_users f us) ≡ positive_users (record { user = u; number = unwrap_or o 0 } ∷ numbered_users (λ u. unwrap_or (f u) 0) us)
    here None ih = ih
    here (Some n) ih = ap (λ (es : List UserNumber). cond (nat_lt 0 n) (record { user = u; number = n } ∷ es) es) ih

counts-one : (f : User → Option ℕ) (u : User) (us : List User) (n : ℕ) → f u ≡ Some n → count_by (λ (v : User). is_some (f v)) (u ∷ us) ≡ suc (count_by (λ (v : User). is_some (f v)) us)
counts-one f u us n e = count-cons (λ (v : User). is_some (f v)) u us ∙ (ap (λ (o : Option ℕ). cond (is_some o) 1 0 + count_by (λ (v : User). is_some (f v)) us) e ∙ one-more (count_by (λ (v : User). is_some (f v)) us))
  where
    one-more : (m : ℕ) → 1 + m ≡ suc m
    one-more m = omega arith

counts-none : (f : User → Option ℕ) (u : User) (us : List User) → f u ≡ None → count_by (λ (v : User). is_some (f v)) (u ∷ us) ≡ count_by (λ (v : User). is_some (f v)) us
counts-none f u us e = count-cons (λ (v : User). is_some (f v)) u us ∙ (ap (λ (o : Option ℕ). cond (is_some o) 1 0 + count_by (λ (v : User). is_some (f v)) us) e ∙ zero-add _)

length-valued : (f : User → Option ℕ) (us : List User) → length (valued_users f us) ≡ count_by (λ (v : User). is_some (f v)) us
length-valued f [] = refl
length-valued f (u ∷ us) = here (f u) refl (length-valued f us)
  where
    here : (o : Option ℕ) → f u ≡ o → length (valued_users f us) ≡ count_by (λ (v : User). is_some (f v)) us → length (entry_of u o ++ valued_users f us) ≡ count_by (λ (v : User). is_some (f v)) (u ∷ us)
    here None e ih = ih ∙ sym (counts-none f u us e)
    here (Some n) e ih = ap suc ih ∙ sym (counts-one f u us n e)

-- ---- the lines

alike-numbers : (f f' : User → ℕ) (us : List User) → ((u : User) → has_user us u ≡ true → f u ≡ f' u) → numbered_users f us ≡ numbered_users f' us
alike-numbers f f' [] same = refl
alike-numbers f f' (u ∷ us) same =
    ap₂ (λ (n : ℕ) (es : List UserNumber). record { user = u; number = n } ∷ es) (same u (or_left _ _ (same_user-refl u)))
    (alike-numbers f f' us (λ v k. same v (or_right (same_user v u) _ k)))

module _ (g : Graph) (r : ResultView) (landmarks : List User) (is : IsResult g landmarks r) where
  users-once : IsDistinct same_user r.users
  users-once = IsDistinct-from_sorted user_cmp r.users is.users_ascend

  numbers-are : (top : ℕ) (name : List ℕ) (which : Num) → result_numbers r top name which ≡ number_lines name top g (number_of g which)
  numbers-are top name which =
      ap (user_lines (name ∷ []))
      (any-order (number_in r which) r.users (vertices g) top users-once (vertices-once g) is.users
      ∙ ap (λ (es : List UserNumber). top_users es top)
      (alike-numbers (number_in r which) (number_of g which) (vertices g) (λ u k. is.numbers which u ∙ cond-true (has_user (vertices g) u) _ _ k)))

  tags-are : (top : ℕ) → result_tags r top ≡ tag_list g top
  tags-are top =
      tags-any-order (tag_users_in r) r.tags (tags_in g) top (IsDistinct-from_sorted tag_cmp r.tags is.tags_ascend) (tags-once g) is.tags
      ∙ ap (λ (f : List ℕ → ℕ). top_tags (numbered_tags f (tags_in g)) top) (fun_ext is.tag_users)

  walk-are : (top : ℕ) (kind : Walk) (i : ℕ) (landmark : User) (f : User → Option ℕ) → ((u : User) → value_in r kind i u ≡ f u)
      → result_walk r top kind i landmark ≡ value_lines (head_of kind) (entry_name kind) top landmark (valued_users f (vertices g))
  walk-are top kind i landmark f same =
      let many : length (valued_users f r.users) ≡ length (valued_users f (vertices g)) =
      length-valued f r.users ∙ (counts-same user-laws same_user-true r.users (vertices g) users-once (vertices-once g) is.users (λ u. is_some (f u)) ∙ sym (length-valued f (vertices g))) in
      let tops : top_users (valued_users f r.users) top ≡ top_users (valued_users f (vertices g)) top =
      ap (λ (es : List UserNumber). take top (in_order user_order es)) (positive-valued f r.users)
      ∙ (any-order (λ u. unwrap_or (f u) 0) r.users (vertices g) top users-once (vertices-once g) is.users
      ∙ ap (λ (es : List UserNumber). take top (in_order user_order es)) (sym (positive-valued f (vertices g)))) in
      ap (λ (v : User → Option ℕ). value_lines (head_of kind) (entry_name kind) top landmark (valued_users v r.users)) (fun_ext same)
      ∙ ap₂ (λ (n : ℕ) (es : List UserNumber). (head_of kind ∷ decimal landmark.0 ∷ decimal n ∷ []) ∷ user_lines (entry_name kind ∷ decimal landmark.0 ∷ []) es) many tops

  walks-are : (top : ℕ) (kind : Walk) (f : User → User → Option ℕ) (i : ℕ) (ls : List User)
      → ((k : ℕ) (u : User) → value_in r kind (i + k) u ≡ from_landmark f (slice_get ls k) u)
      → result_walks r top kind i ls ≡ flat_map (λ l. value_lines (head_of kind) (entry_name kind) top l (valued_users (f l) (vertices g))) ls
  walks-are top kind f i [] same = refl
  walks-are top kind f i (l ∷ ls) same =
      ap₂ (λ (a b : List Words). a ++ b)
      (walk-are top kind i l (f l) (λ u. ap (λ (n : ℕ). value_in r kind n u) (let e : i ≡ i + 0 = omega arith in e) ∙ same 0 u))
      (walks-are top kind f (i + 1) ls (λ k u. ap (λ (n : ℕ). value_in r kind n u) (let e : (i + 1) + k ≡ i + suc k = omega arith in e) ∙ same (suc k) u))

  expos-are : (top : ℕ) → expo_lines (expo_in r) (result_tags r top) ≡ expo_lines (exposures g) (tag_list g top)
  expos-are top = ap₂ (λ (f : List ℕ → List KCount) (ts : List TagNumber). expo_lines f ts) (fun_ext is.expos) (tags-are top)

-- the lines of one landmark, and then those of the landmarks after it
pub walks_step : (t : List ℕ) (r : ResultView) (top : ℕ) (kind : Walk) (i : ℕ) (l : User) (rest : List User) →
    (t ++ text_of (result_walk r top kind i l)) ++ text_of (result_walks r top kind (i + 1) rest) ≡ t ++ text_of (result_walks r top kind i (l ∷ rest))
walks_step t r top kind i l rest = lines-twice t (result_walk r top kind i l) (result_walks r top kind (i + 1) rest)

-- the lines of the chosen rules are those of the graph
pub lines-are : (options : OptionWords) (g : Graph) (r : ResultView) → IsResult g options.landmarks r → result_lines options r ≡ rule_lines options g
lines-are options g r is =
    let top = options.top in
    let ls = options.landmarks in
    let rules = options.rules in
    let number = numbers-are g r ls is top in
    let hops = walks-are g r ls is top walk.Hops (hops_of g) 0 ls (λ k u. ap (λ (n : ℕ). hops_in r n u) (zero-add k) ∙ is.hops k u) in
    let close = walks-are g r ls is top walk.Close (close_of g) 0 ls (λ k u. ap (λ (n : ℕ). close_in r n u) (zero-add k) ∙ is.close k u) in
    ap₂ (λ (a b : List Words). a ++ b) (ap₂ (λ (a b : List Words). a ++ b) (ap₂ (λ (a b : List Words). a ++ b) (ap₂ (λ (a b : List Words). a ++ b)
    (ap₂ (λ (a b : List Words). a ++ b) (ap₂ (λ (a b : List Words). a ++ b) (ap₂ (λ (a b : List Words). a ++ b)
    (ap (chosen rules.ins) (number (codes "in") num.In))
    (ap (chosen rules.outs) (number (codes "out") num.Out)))
    (ap (chosen rules.said) (number (codes "said") num.Said)))
    (ap (λ (ts : List TagNumber). chosen rules.tags (tag_lines ts)) (tags-are g r ls is top)))
    (ap (chosen rules.rank) (number (codes "rank") num.Rank)))
    (ap (chosen rules.expo) (expos-are g r ls is top)))
    (ap (chosen rules.hops) hops))
    (ap (chosen rules.close) close)

-- the epoch's line, and then those of a result, are the block
pub block_written : (k : ℕ) (ends : List End) (records bad : ℕ) (options : OptionWords) (g : Graph) (r : ResultView) → IsResult g options.landmarks r →
    line_of (epoch_line k ends records bad) ++ text_of (result_lines options r) ≡ block_text k ends records bad options g
block_written k ends records bad options g r is = ap (λ (ls : List Words). line_of (epoch_line k ends records bad) ++ text_of ls) (lines-are options g r is)
