-- The orders of users and of tags are total, and exact.
use Rattle.std.proofs.Common.{◌≡◌, ℕ, List}
use Rattle.std.specs.Cmp.{IsTotalOrder, Equal-is}
use Rattle.std.specs.declared.cmp.Ordering.TheVariants.{Equal}
use Rattle.std.proofs.lemmas.Cmp.{nat_cmp_total, nat_list_cmp_total, on_total}
use Rattle.kin_ids.specs.declared.ids.User.{User}
use Rattle.kin_ids.specs.Users.{user_cmp, tag_cmp}
use Rattle.kin_ids.proofs.Same.{same_user-true, same_tag-true}

pub user-total : IsTotalOrder user_cmp
user-total = on_total (λ (u : User). u.0) nat_cmp_total

pub user-exact : (x y : User) → user_cmp x y ≡ Equal → x ≡ y
user-exact x y e = same_user-true x y ((Equal-is (user_cmp x y)).1 e)

pub tag-total : IsTotalOrder tag_cmp
tag-total = nat_list_cmp_total

pub tag-exact : (x y : List ℕ) → tag_cmp x y ≡ Equal → x ≡ y
tag-exact x y e = same_tag-true x y ((Equal-is (tag_cmp x y)).1 e)
