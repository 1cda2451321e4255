-- Offers to one end after the other.
use Rattle.std.proofs.Common.{◌≡◌, ◌⊎◌, inl, inr, ℕ, Bool, true, List, [], ◌∷◌, Option, refl, sym, subst}
use Rattle.std.proofs.lemmas.Bool.{or_cases, or_right}
use Rattle.kin_ids.specs.declared.ids.User.{User}
use Rattle.kin_ids.specs.Users.{same_user, has_user}
use Rattle.kin_ids.proofs.Same.{same_user-true, same_user-refl}
use Rattle.kin_rules.specs.Walks.{AtMost}
use Rattle.kin_push.specs.Offers.{IsPushed, IsTaken}
use Rattle.kin_push.proofs.Facts.{pushed-more, pushed-none, pushed-under, under-at}

-- the ends that are left are ends; each other end has at most m
pub record Offering (ends left : List User) (m : ℕ) (f : User → Option ℕ) (a : User → Bool) (g : User → Option ℕ) (b : User → Bool) : Type
    0 where
  pub pushed : IsPushed ends m f a g b
  pub taken : (x : User) → has_user ends x ≡ true → (has_user left x ≡ true) ⊎ AtMost (g x) m
  pub within : (x : User) → has_user left x ≡ true → has_user ends x ≡ true

-- all are left
pub offering-none : (ends left : List User) (m : ℕ) (f : User → Option ℕ) (a : User → Bool) → left ≡ ends → Offering ends left m f a f a
offering-none ends left m f a is = record {
  pushed = pushed-none ends m f a;
  taken = λ x h. inl (subst (λ (xs : List User). has_user xs x ≡ true) (sym is) h);
  within = λ x h. subst (λ (xs : List User). has_user xs x ≡ true) is h;
}

has-first : (e : User) (rest : List User) → has_user (e ∷ rest) e ≡ true
has-first e rest = rw (same_user-refl e) refl

pub offering-there : (ends left rest : List User) (e : User) (m : ℕ) (f : User → Option ℕ) (a : User → Bool) (g : User → Option ℕ)
    (b : User → Bool) → left ≡ e ∷ rest → Offering ends left m f a g b → has_user ends e ≡ true
offering-there ends left rest e m f a g b is o = o.within e (subst (λ (xs : List User). has_user xs e ≡ true) (sym is) (has-first e rest))

-- the first of those that are left is offered the value
pub offering-more : (ends left rest : List User) (e : User) (m : ℕ) (f : User → Option ℕ) (a : User → Bool) (g : User → Option ℕ)
    (b : User → Bool) (h : User → Option ℕ) (c : User → Bool) → left ≡ e ∷ rest
    → Offering ends left m f a g b → IsPushed (e ∷ []) m g b h c → AtMost (h e) m → Offering ends rest m f a h c
offering-more ends left rest e m f a g b h c is o p new = record {
  pushed = pushed-more ends e m f a g b h c (offering-there ends left rest e m f a g b is o) o.pushed p;
  taken = λ x there. here x (o.taken x there);
  within = λ x there. o.within x (subst (λ (xs : List User). has_user xs x ≡ true) (sym is)
      (or_right (same_user x e) (has_user rest x) there));
}
  where
    first : (x : User) → (same_user x e ≡ true) ⊎ (has_user rest x ≡ true) → (has_user rest x ≡ true) ⊎ AtMost (h x) m
    first x (inl k) = inr (subst (λ (y : User). AtMost (h y) m) (sym (same_user-true x e k)) new)
    first x (inr k) = inl k

    here : (x : User) → (has_user left x ≡ true) ⊎ AtMost (g x) m → (has_user rest x ≡ true) ⊎ AtMost (h x) m
    here x (inl k) = first x (or_cases (same_user x e) (has_user rest x) (subst (λ (xs : List User). has_user xs x ≡ true) is k))
    here x (inr k) = inr (under-at (h x) (g x) m (pushed-under (e ∷ []) m g b h c p x) k)

-- nobody is left
pub offering-all : (ends left : List User) (m : ℕ) (f : User → Option ℕ) (a : User → Bool) (g : User → Option ℕ) (b : User → Bool)
    → left ≡ [] → Offering ends left m f a g b → IsTaken ends m g
offering-all ends left m f a g b none o x there = here (o.taken x there)
  where
    here : (has_user left x ≡ true) ⊎ AtMost (g x) m → AtMost (g x) m
    here (inl k) = let no : has_user [] x ≡ true = subst (λ (xs : List User). has_user xs x ≡ true) none k in absurd cc
    here (inr k) = k
