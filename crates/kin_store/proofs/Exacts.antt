-- Equal pairs.
use Rattle.std.proofs.Common.{◌≡◌, true, refl}
use Rattle.std.specs.Cmp.{Equal-is}
use Rattle.std.specs.Ordering.{ordering_then}
use Rattle.std.specs.declared.cmp.Ordering.{Ordering}
use Rattle.std.specs.declared.cmp.Ordering.TheVariants.{Less, Equal, Greater}
use Rattle.kin_ids.specs.Users.{user_cmp, tag_cmp}
use Rattle.kin_store.specs.declared.pairs.Pair.{Pair}
use Rattle.kin_store.specs.declared.pairs.TagUser.{TagUser}
use Rattle.kin_store.specs.Pairs.{pair_cmp, same_pair, tag_user_cmp, same_tag_user}
use Rattle.kin_store.proofs.Orders.{user_exact, tag_exact}

both_equal : (a b : Ordering) → ordering_then a b ≡ Equal → (a ≡ Equal) × (b ≡ Equal)
both_equal Less b e = absurd cc
both_equal Equal b e = (refl, e)
both_equal Greater b e = absurd cc

pub pair_exact : (p q : Pair) → pair_cmp p q ≡ Equal → p ≡ q
pair_exact p q e =
    let both = both_equal (user_cmp p.user q.user) (user_cmp p.other q.other) e in
    λ i. record { user = user_exact p.user q.user both.0 i; other = user_exact p.other q.other both.1 i }

pub pair_same : (p q : Pair) → same_pair p q ≡ true → p ≡ q
pair_same p q t = pair_exact p q ((Equal-is (pair_cmp p q)).0 t)

pub tag_user_exact : (p q : TagUser) → tag_user_cmp p q ≡ Equal → p ≡ q
tag_user_exact p q e =
    let both = both_equal (tag_cmp p.tag q.tag) (user_cmp p.user q.user) e in
    λ i. record { tag = tag_exact p.tag q.tag both.0 i; user = user_exact p.user q.user both.1 i }

pub tag_user_same : (p q : TagUser) → same_tag_user p q ≡ true → p ≡ q
tag_user_same p q t = tag_user_exact p q ((Equal-is (tag_user_cmp p q)).0 t)
