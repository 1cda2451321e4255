-- Users and tags in order, and what a look-up finds after a write.
use Rattle.std.proofs.Common.{◌≡◌, ℕ, Bool, true, false, cond, if◌then◌else◌, List, Option, unwrap_or, refl, ap, ◌∙◌}
use Rattle.std.specs.Prelude.{OnOk, OnErr}
use Rattle.std.specs.Map.{lookup}
use Rattle.std.specs.BTreeMap.{is_at}
use Rattle.std.specs.Cmp.{IsTotalOrder}
use Rattle.std.specs.declared.cmp.Ordering.{Ordering}
use Rattle.std.specs.declared.cmp.Ordering.TheVariants.{Equal}
use Rattle.std.specs.declared.result.Result.{Result}
use Rattle.std.specs.declared.result.Result.TheVariants.{Ok, Err}
use Rattle.std.proofs.lemmas.Cmp.{on_total, nat_cmp_total, nat_list_cmp_total}
use Rattle.std.proofs.lemmas.Map.Lookups.{exact_unsigned, exact_bytes}
use Rattle.kin_ids.specs.declared.ids.User.{User}
use Rattle.kin_ids.specs.Users.{user_cmp, tag_cmp}

pub user_total : IsTotalOrder user_cmp
user_total = on_total (λ (u : User). u.0) nat_cmp_total

pub tag_total : IsTotalOrder tag_cmp
tag_total = nat_list_cmp_total

pub user_exact : (x y : User) → user_cmp x y ≡ Equal → x ≡ y
user_exact x y e = λ i. record { 0 = exact_unsigned x.0 y.0 e i }

pub tag_exact : (x y : List ℕ) → tag_cmp x y ≡ Equal → x ≡ y
tag_exact = exact_bytes

unwrap_cond : {X : Type 0} (b : Bool) (w a : Option X) (d : X) → unwrap_or (cond b w a) d ≡ (if b then unwrap_or w d else unwrap_or a d)
unwrap_cond true w a d = refl
unwrap_cond false w a d = refl

-- a map that has w at k, and at each other key what it had
module _ {K X : Type 0} {R : K → K → Ordering} (exact : (x y : K) → R x y ≡ Equal → x ≡ y) (es fs : List (K × X)) (k : K) (w : Option X)
    (puts : (q : K) → lookup (is_at (R q)) fs ≡ cond (is_at (R k) q) w (lookup (is_at (R q)) es)) where
  pub value-put : (d x : X) → unwrap_or w d ≡ x → (q : K) → unwrap_or (lookup (is_at (R q)) fs) d
      ≡ (if is_at (R k) q then x else unwrap_or (lookup (is_at (R q)) es) d)
  value-put d x e q =
      ap (λ a. unwrap_or a d) (puts q) ∙ (unwrap_cond (is_at (R k) q) w (lookup (is_at (R q)) es) d
      ∙ ap (λ (y : X). if is_at (R k) q then y else unwrap_or (lookup (is_at (R q)) es) d) e)

-- what holds after an answer, whichever it is
pub either-result : {X Y : Type 0} (G P Q : Type 0) (r : Result X Y) → OnOk r P → OnErr r Q → (P → G) → (Q → G) → G
either-result G P Q (Ok x) p q f g = f p
either-result G P Q (Err y) p q f g = g q
