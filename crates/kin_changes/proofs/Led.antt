-- Deltas that tell of each partition what differs lead from one graph to the next.
use Rattle.std.proofs.Common.{◌≡◌, ◌∙◌, ◌==◌, ℕ, Bool, true, false, List, [], Option, Some, None, is_some, refl, sym, ap, subst, arith}
use Rattle.std.specs.List.{find}
use Rattle.std.specs.List.Sorted.{IsPermutation}
use Rattle.std.specs.Option.{option_map}
use Rattle.std.proofs.lemmas.List.Sorted.{IsPermutation-refl, list_any-IsPermutation}
use Rattle.kin_ids.specs.declared.ids.User.{User}
use Rattle.kin_ids.specs.declared.ops.Half.{Half}
use Rattle.kin_ids.specs.declared.ops.Use.{Use}
use Rattle.kin_ids.specs.Users.{same_user}
use Rattle.kin_ids.specs.Graph.{Graph, TagUse, is_use, use_at, uses_of}
use Rattle.kin_ids.specs.Follows.{IsSound}
use Rattle.kin_ids.specs.Parting.{user_part, tag_part}
use Rattle.kin_ids.specs.Parts.{PartView, IsPart, if_here, count_here}
use Rattle.kin_ids.specs.Wholes.{IsViewOf}
use Rattle.kin_ids.proofs.Whole.{whole}
use Rattle.kin_store.specs.Lists.{half_to, use_of}
use Rattle.kin_graph.specs.Touches.{tag_user}
use Rattle.kin_graph.proofs.Determined.{parts-alike}
use Rattle.kin_changes.specs.Views.{part_in, Grows, HasMentioners, LedLaw}
use Rattle.kin_changes.proofs.Wholes.{follows-out, mentions-out, uses-out, whole-law}
use Rattle.kin_changes.proofs.Mentioned.{mentioners-law}
use Rattle.kin_changes.proofs.Grown.{IsIn, in-folded}

here-moved : {X : Type 0} (b : Bool) (xs ys : List X) → IsPermutation xs ys → IsPermutation (if_here b xs) (if_here b ys)
here-moved true xs ys moved = moved
here-moved false xs ys moved = IsPermutation-refl []

-- what is handed out of one partition of a graph is its part
pub view-part : (parts p : ℕ) (g : Graph) (v : PartView) → IsViewOf g v → IsPart parts p g (part_in parts p v)
view-part parts p g v seen = record {
  out = λ u. ap (if_here (user_part parts u == p)) (seen.out u);
  inn = λ u. ap (if_here (user_part parts u == p)) (seen.inn u);
  mentions = λ u. here-moved (user_part parts u == p) _ _ (seen.mentions u);
  mentioners = λ u. here-moved (user_part parts u == p) _ _ (seen.mentioners u);
  said = λ u. ap (count_here (user_part parts u == p)) (seen.said u);
  uses = λ u. here-moved (user_part parts u == p) _ _ (seen.uses u);
  tag_users = λ t. here-moved (tag_part parts t == p) _ _ (seen.tag_users t);
}

view-whole : (g : Graph) → IsViewOf g (whole g)
view-whole g = record {
  out = λ u. refl;
  inn = λ u. refl;
  mentions = λ u. IsPermutation-refl _;
  mentioners = λ u. IsPermutation-refl _;
  said = λ u. refl;
  uses = λ u. IsPermutation-refl _;
  tag_users = λ t. IsPermutation-refl _;
}

-- where there is one partition, everybody lives on it
all-here : (u : User) → (user_part 1 u == 0) ≡ true
all-here u = let none : user_part 1 u ≡ 0 = omega arith in rw none refl

-- a use of a tag that is handed out is the graph's
pub use-seen : (g : Graph) (v : PartView) → IsSound g → IsViewOf g v → (u : User) (t : List ℕ) → use_of (v.uses u) t
    ≡ option_map use_at (find (is_use u t) g.uses)
use-seen g v sound seen u t =
    let alike : use_of (if_here (user_part 1 u == 0) (v.uses u)) t ≡ use_of (if_here (user_part 1 u == 0) (uses_of g u)) t =
    (parts-alike 1 0 g (part_in 1 0 (whole g)) (part_in 1 0 v) sound (view-part 1 0 g (whole g) (view-whole g))
    (view-part 1 0 g v seen)).uses (tag_user t u) refl in
    let both = λ (b : Bool). use_of (if_here b (v.uses u)) t ≡ use_of (if_here b (uses_of g u)) t in
    subst both (all-here u) alike ∙ uses-out g u t

-- what was ever handed out still is
grows : (was is : Graph) (v w : PartView) → IsSound was → IsSound is → IsIn was is → IsViewOf was v → IsViewOf is w → Grows v w
grows was is v w sound sound-is kept before after = record {
  out = λ u x e. ap (λ (hs : List Half). is_some (half_to hs x)) (after.out u)
      ∙ (follows-out is u x ∙ kept.edges u x (sym (follows-out was u x)
      ∙ (sym (ap (λ (hs : List Half). is_some (half_to hs x)) (before.out u)) ∙ e)));
  mentions = λ u x e. list_any-IsPermutation (same_user x) _ _ (after.mentions u)
      ∙ (mentions-out is u x ∙ kept.mentions u x (sym (mentions-out was u x)
      ∙ (sym (list_any-IsPermutation (same_user x) _ _ (before.mentions u)) ∙ e)));
  said = λ u. omega (arith, kept.said u, before.said u, after.said u);
  uses = λ u t x e. use-seen is w sound-is after u t ∙ used u t x (find (is_use u t) was.uses) refl
      (sym (use-seen was v sound before u t) ∙ e);
} where
  used : (u : User) (t : List ℕ) (x : Use) (o : Option TagUse) → find (is_use u t) was.uses ≡ o
      → option_map use_at (find (is_use u t) was.uses) ≡ Some x → option_map use_at (find (is_use u t) is.uses) ≡ Some x
  used u t x o d e = by_found o d (sym (ap (option_map use_at) d) ∙ e) where
    by_found : (p : Option TagUse) → find (is_use u t) was.uses ≡ p → option_map use_at p ≡ Some x
        → option_map use_at (find (is_use u t) is.uses) ≡ Some x
    by_found None d f = absurd cc
    by_found (Some y) d f = ap (option_map use_at) (kept.uses u t y d) ∙ f

pub led-law : LedLaw
led-law was is v w ds sound sound-is named more before after some tells =
    let kept : IsIn was is = subst (IsIn was) (sym more.1) (in-folded was more.0) in
    record {
      some = some;
      before = whole-law was v sound named before;
      after = whole-law is w sound-is (subst HasMentioners (sym more.1) (mentioners-law was more.0 named)) after;
      grows = grows was is v w sound sound-is kept before after;
      each = λ p lt. (tells p lt).exact _ _ (view-part _ p was v before) (view-part _ p is w after);
    }
