-- The order of top lists.
use Rattle.std.proofs.Common.{◌≡◌, ℕ, List, ap₂, sym}
use Rattle.std.specs.Ordering.{nat_cmp}
use Rattle.std.specs.declared.cmp.Ordering.TheVariants.{Equal}
use Rattle.std.specs.Cmp.{Equal-is}
use Rattle.std.proofs.lemmas.Cmp.{nat_cmp_total, nat_list_cmp_total, on_total, then_total, back_total}
use Rattle.std.proofs.lemmas.Map.Lookups.{exact_unsigned}
use Rattle.kin_ids.specs.declared.ids.User.{User}
use Rattle.kin_ids.specs.Users.{user_cmp, tag_cmp}
use Rattle.kin_ids.proofs.Same.{same_user-true, same_tag-true}
use Rattle.kin_rules.specs.declared.numbers.UserNumber.{UserNumber}
use Rattle.kin_rules.specs.declared.numbers.TagNumber.{TagNumber}
use Rattle.kin_rules.specs.Top.{user_order, tag_order, UsersAreOrdered, TagsAreOrdered}
use Rattle.kin_rules.proofs.Orders.{IsExact, is-ordering, both-tie}

pub users-exact : IsExact user_order
users-exact = record {
  total = then_total (on_total (λ (e : UserNumber). e.number) (back_total nat_cmp_total)) (on_total (λ (e : UserNumber). e.user.0) nat_cmp_total);
  exact = exact;
}
  where
    exact : (x y : UserNumber) → user_order x y ≡ Equal → x ≡ y
    exact x y h =
        let k = both-tie (nat_cmp y.number x.number) (user_cmp x.user y.user) h in
        ap₂ (λ (n : ℕ) (u : User). let e : UserNumber = record { user = u; number = n } in e) (sym (exact_unsigned y.number x.number k.0)) (same_user-true x.user y.user ((Equal-is (user_cmp x.user y.user)).1 k.1))

pub tags-exact : IsExact tag_order
tags-exact = record {
  total = then_total (on_total (λ (e : TagNumber). e.number) (back_total nat_cmp_total)) (on_total (λ (e : TagNumber). e.tag) nat_list_cmp_total);
  exact = exact;
}
  where
    exact : (x y : TagNumber) → tag_order x y ≡ Equal → x ≡ y
    exact x y h =
        let k = both-tie (nat_cmp y.number x.number) (tag_cmp x.tag y.tag) h in
        ap₂ (λ (n : ℕ) (t : List ℕ). let e : TagNumber = record { tag = t; number = n } in e) (sym (exact_unsigned y.number x.number k.0)) (same_tag-true x.tag y.tag ((Equal-is (tag_cmp x.tag y.tag)).1 k.1))

pub users-ordered : UsersAreOrdered
users-ordered entries = is-ordering users-exact entries

pub tags-ordered : TagsAreOrdered
tags-ordered entries = is-ordering tags-exact entries
