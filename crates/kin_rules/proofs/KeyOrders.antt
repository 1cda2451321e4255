-- The orders of users and of tags are exact; places of users.
use Rattle.std.proofs.Common.{◌≡◌, ◌+◌, ℕ, suc, Bool, true, false, List, cond, arith, refl}
use Rattle.std.specs.Cmp.{Equal-is}
use Rattle.std.specs.List.{position_or_len}
use Rattle.std.proofs.lemmas.Cmp.{nat_cmp_total, nat_list_cmp_total, on_total}
use Rattle.std.proofs.lemmas.List.Recursion.{is_position_or_len}
use Rattle.kin_ids.specs.declared.ids.User.{User}
use Rattle.kin_ids.specs.Users.{user_cmp, tag_cmp, same_user}
use Rattle.kin_ids.proofs.Same.{same_user-true, same_tag-true}
use Rattle.kin_rules.specs.Places.{place}
use Rattle.kin_rules.proofs.Orders.{IsExact}

pub user_cmp-exact : IsExact user_cmp
user_cmp-exact = record { total = on_total (λ (u : User). u.0) nat_cmp_total; exact = λ x y h. same_user-true x y ((Equal-is (user_cmp x y)).1 h) }

pub tag_cmp-exact : IsExact tag_cmp
tag_cmp-exact = record { total = nat_list_cmp_total; exact = λ x y h. same_tag-true x y ((Equal-is (tag_cmp x y)).1 h) }

pub place-position : (us : List User) (x : User) → place us x ≡ position_or_len (same_user x) us
place-position us x = is_position_or_len (λ vs. place vs x) (same_user x) refl (λ u vs. here (same_user x u) (place vs x)) us
  where
    here : (b : Bool) (n : ℕ) → cond b 0 (suc n) ≡ cond b 0 (1 + n)
    here true n = refl
    here false n = omega arith
