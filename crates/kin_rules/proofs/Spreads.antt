-- Values that are kept while some users have yet to offer theirs.
use Rattle.std.proofs.Common.{◌≡◌, ◌≤◌, ◌⊎◌, inl, inr, ℕ, Bool, true, false, Option, Some, None, if◌then◌else◌, arith, refl, sym, ◌∙◌, subst}
use Rattle.std.proofs.lemmas.Bool.{both_ways}
use Rattle.kin_ids.specs.declared.ids.User.{User}
use Rattle.kin_ids.specs.Users.{same_user}
use Rattle.kin_ids.proofs.Same.{same_user-true}
use Rattle.kin_rules.specs.declared.kinds.EdgeKind.{EdgeKind}
use Rattle.kin_rules.specs.Walks.{Net, AtMost, Under, IsEdge, IsWhole, IsRule}
use Rattle.kin_rules.specs.Costs.{least_cost}
use Rattle.kin_rules.specs.Kept.{IsAtRest, lowered}
use Rattle.kin_rules.proofs.Kept.{offer-keeps, kept-alike, rest-law}
use Rattle.kin_rules.specs.Spreads.{IsSpread, QuietIsLeast, OfferSpreads, RestSpreads}

pub lower : (f : User → Option ℕ) (u : User) (m : ℕ) → (AtMost (f u) m → ⊥) → (x : User) (o : Option ℕ) → Under (f x) o → Under (lowered f u m x) o
lower f u m above x None k = tt
lower f u m above x (Some n) k = here (same_user u x) refl
  where
    at-least : (y : ℕ) → (y ≤ m → ⊥) → y ≤ n → m ≤ n
    at-least y above k = omega (arith, above, k)

    less : (o : Option ℕ) → (AtMost o m → ⊥) → AtMost o n → m ≤ n
    less None above k = absurd k
    less (Some y) above k = at-least y above k

    here : (b : Bool) → same_user u x ≡ b → AtMost (if b then Some m else f x) n
    here true e = less (f u) above (subst (λ (y : User). AtMost (f y) n) (sym (same_user-true u x e)) k)
    here false e = k

pub spread-alike : (net : Net) (f g : User → Option ℕ) (Waits : User → Type 0) → ((x : User) → f x ≡ g x) → IsSpread net f Waits → IsSpread net g Waits
spread-alike net f g Waits same s = record {
  kept = kept-alike net f g same s.kept;
  start = λ h. subst (λ (o : Option ℕ). AtMost o 0) (same net.mark) (s.start h);
  rest = λ w. one w (s.rest w);
}
  where
    one : (w : User) → IsAtRest net f w ⊎ Waits w → IsAtRest net g w ⊎ Waits w
    one w (inl at) = inl (λ k u n e edge. subst (λ (o : Option ℕ). Under o (net.along k n)) (same u) (at k u n (same w ∙ e) edge))
    one w (inr waits) = inr waits

pub spread-weaker : (net : Net) (f : User → Option ℕ) (Waits Then : User → Type 0) → ((x : User) → Waits x → Then x) → IsSpread net f Waits → IsSpread net f Then
spread-weaker net f Waits Then more s = record { kept = s.kept; start = s.start; rest = λ w. one w (s.rest w) }
  where
    one : (w : User) → IsAtRest net f w ⊎ Waits w → IsAtRest net f w ⊎ Then w
    one w (inl at) = inl at
    one w (inr waits) = inr (more w waits)

pub quiet-least : (net : Net) (f : User → Option ℕ) (Waits : User → Type 0) → IsRule net.along net.most → IsWhole net → IsSpread net f Waits
    → ((w : User) → Waits w → ⊥) → (u : User) → f u ≡ least_cost net u
quiet-least net f Waits r whole s nobody u = rest-law net f r whole s.kept s.start (λ w. one w (s.rest w)) u
  where
    one : (w : User) → IsAtRest net f w ⊎ Waits w → IsAtRest net f w
    one w (inl at) = at
    one w (inr waits) = absurd (nobody w waits)

pub offer-spreads : (net : Net) (f : User → Option ℕ) (Waits Then : User → Type 0) (k : EdgeKind) (w u : User) (n m : ℕ) → IsRule net.along net.most → IsWhole net
    → IsSpread net f Waits → IsEdge net k w u → f w ≡ Some n → net.along k n ≡ Some m → (AtMost (f u) m → ⊥)
    → ((x : User) → same_user u x ≡ false → Waits x → Then x) → Then u → IsSpread net (lowered f u m) Then
offer-spreads net f Waits Then k w u n m r whole s edge is offer above keeps there = record {
  kept = offer-keeps net f r k w u n m s.kept edge (whole k w u edge).1 is offer above;
  start = λ h. lower f u m above net.mark (Some 0) (s.start h);
  rest = λ x. one x (same_user u x) refl (s.rest x);
}
  where
    one : (x : User) (b : Bool) → same_user u x ≡ b → IsAtRest net f x ⊎ Waits x → IsAtRest net (lowered f u m) x ⊎ Then x
    one x true e old = inr (subst Then (same_user-true u x e) there)
    one x false e (inr waits) = inr (keeps x e waits)
    one x false e (inl at) = inl (λ j y q v way. lower f u m above y (net.along j q) (at j y q (rw e at v) way))

pub rest-spreads : (net : Net) (f : User → Option ℕ) (Waits Then : User → Type 0) (w : User) → IsSpread net f Waits → IsAtRest net f w
    → ((x : User) → same_user w x ≡ false → Waits x → Then x) → IsSpread net f Then
rest-spreads net f Waits Then w s at keeps = record { kept = s.kept; start = s.start; rest = λ x. one x (same_user w x) refl (s.rest x) }
  where
    one : (x : User) (b : Bool) → same_user w x ≡ b → IsAtRest net f x ⊎ Waits x → IsAtRest net f x ⊎ Then x
    one x b e (inl rests) = inl rests
    one x true e (inr waits) = inl (subst (λ (y : User). IsAtRest net f y) (same_user-true w x e) at)
    one x false e (inr waits) = inr (keeps x e waits)

pub quiet-law : QuietIsLeast
quiet-law net f active r whole s nobody u = quiet-least net f (λ w. active w ≡ true) r whole s (λ w on. both_ways (active w) (nobody w) on) u

pub offer-law : OfferSpreads
offer-law net f active next k w u n m r whole s edge is offer above keeps there =
    offer-spreads net f (λ x. active x ≡ true) (λ x. next x ≡ true) k w u n m r whole s edge is offer above (λ x e on. keeps x on) there

pub came-to-rest : RestSpreads
came-to-rest net f active next w s at keeps = rest-spreads net f (λ x. active x ≡ true) (λ x. next x ≡ true) w s at keeps
