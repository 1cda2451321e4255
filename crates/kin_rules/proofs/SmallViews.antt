-- A view of a whole graph has no more vertices than the graph.
use Rattle.std.proofs.Common.{◌≡◌, ◌≤◌, ◌^◌, ◌∙◌, true, false, List, [], ◌∷◌, length, arith, refl, sym}
use Rattle.std.specs.List.{AllByRecursion}
use Rattle.std.specs.List.Sorted.{IsStrictlySortedBy}
use Rattle.std.specs.declared.cmp.Ordering.TheVariants.{Less}
use Rattle.std.proofs.lemmas.Bool.{or_left, or_right}
use Rattle.std.proofs.lemmas.Bool.Decides.{nat_tests}
use Rattle.kin_ids.specs.declared.ids.User.{User}
use Rattle.kin_ids.specs.Users.{same_user, has_user, user_cmp}
use Rattle.kin_ids.specs.Graph.{vertices}
use Rattle.kin_ids.specs.Parts.{PartView}
use Rattle.kin_ids.specs.Follows.{IsOnce}
use Rattle.kin_ids.proofs.Same.{same_user-refl}
use Rattle.kin_graph.specs.Views.{IsSmall, is_vertex}
use Rattle.kin_graph.proofs.Wholes.{whole-vertex}
use Rattle.kin_rules.specs.Edges.{FewIsSmall}
use Rattle.kin_rules.specs.Kept.{Within}
use Rattle.kin_rules.proofs.Simple.{pigeons}

less-apart : (x y : User) → user_cmp x y ≡ Less → same_user x y ≡ false
less-apart x y h = grind (arith, nat_tests)

none-after : (x : User) (us : List User) → AllByRecursion (λ (y : User). user_cmp x y ≡ Less) us → has_user us x ≡ false
none-after x [] h = refl
none-after x (y ∷ us) h = rw (less-apart x y h.0) (none-after x us h.1)

-- users that ascend are each there once
pub sorted-once : (us : List User) → IsStrictlySortedBy user_cmp us → IsOnce same_user us
unfolding IsStrictlySortedBy
sorted-once [] s = tt
sorted-once (x ∷ us) s = (none-after x us s.0, sorted-once us s.1)

within : (us vs : List User) → ((u : User) → has_user us u ≡ true → has_user vs u ≡ true) → Within us vs
within [] vs h = tt
within (x ∷ us) vs h = (h x (or_left (same_user x x) (has_user us x) (same_user-refl x)), within us vs (λ u k. h u (or_right (same_user u x) (has_user us u) k)))

-- a view whose vertices are all among a few users is small
pub few-small : (v : PartView) (vs : List User) → ((u : User) → is_vertex v u ≡ true → has_user vs u ≡ true) → length vs ≤ 2 ^ 27 → IsSmall v
few-small v vs all few us are =
    let less : length us ≤ length vs = pigeons us vs (sorted-once us are.ascend) (within us vs (λ u k. all u (sym (are.all u) ∙ k))) in
    omega (arith, less, few)

-- a view of a graph with few vertices is small
pub small-view : FewIsSmall
small-view g v whole few = few-small v (vertices g) (λ u k. sym (whole-vertex g v whole u) ∙ k) few
