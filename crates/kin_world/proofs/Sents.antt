-- Stamps with their bases.
use Rattle.std.proofs.Common.{◌≡◌, ℕ, Bool, true, false, cond, eqb, ◌&&◌, List, [], ◌∷◌, ◌++◌, Option, Some, None, refl, sym, ◌∙◌, ap, get_or}
use Rattle.std.specs.Option.{option_map}
use Rattle.std.proofs.lemmas.Option.{none-some}
use Rattle.std.proofs.lemmas.Bool.{or_left, or_right}
use Rattle.kin_ids.specs.declared.stamps.Stamp.{Stamp}
use Rattle.kin_ids.specs.Lines.{same_stamp, has, find_stamp}
use Rattle.kin_ids.proofs.Lines.{same_stamp-refl}
use Rattle.kin_world.specs.declared.sent_logs.Sent.{Sent}
use Rattle.kin_world.specs.SentStamps.{find_sent}
use Rattle.kin_world.specs.Stands.{with_bases}

-- a stamp with its base
abbrev pub with_base : (ℕ → List ℕ) → Stamp → Sent
with_base bases s = record { stamp = s; base = get_or (bases s.ingest.0) s.inc.0 0 }

pub with_bases-push : (bases : ℕ → List ℕ) (ss : List Stamp) (s : Stamp) → with_bases bases (ss ++ s ∷ []) ≡ with_bases bases ss ++ with_base bases s ∷ []
with_bases-push bases [] s = refl
with_bases-push bases (x ∷ ss) s = ap (λ (rest : List Sent). with_base bases x ∷ rest) (with_bases-push bases ss s)

-- bases of which those of the stamps are alike
pub with_bases-alike : (bases other : ℕ → List ℕ) (ss : List Stamp) → ((s : Stamp) → has ss s ≡ true → get_or (bases s.ingest.0) s.inc.0 0 ≡ get_or (other s.ingest.0) s.inc.0 0) → with_bases bases ss ≡ with_bases other ss
with_bases-alike bases other [] same = refl
with_bases-alike bases other (x ∷ ss) same =
    ap (λ (base : ℕ). let first : Sent = record { stamp = x; base = base } in first ∷ with_bases bases ss) (same x (or_left _ _ (same_stamp-refl x)))
    ∙ ap (λ (rest : List Sent). with_base other x ∷ rest) (with_bases-alike bases other ss (λ s k. same s (or_right (same_stamp x s) _ k)))

-- the one that is found is the stamp that is found, with its base
pub find_sent-is : (bases : ℕ → List ℕ) (ss : List Stamp) (i c to : ℕ) → find_sent (with_bases bases ss) i c to ≡ option_map (with_base bases) (find_stamp ss i c to)
find_sent-is bases [] i c to = refl
find_sent-is bases (x ∷ ss) i c to = go ((eqb x.ingest.0 i && eqb x.inc.0 c) && eqb x.to to) (find_sent-is bases ss i c to)
  where
    go : (b : Bool) → find_sent (with_bases bases ss) i c to ≡ option_map (with_base bases) (find_stamp ss i c to) →
        cond b (Some (with_base bases x)) (find_sent (with_bases bases ss) i c to) ≡ option_map (with_base bases) (cond b (Some x) (find_stamp ss i c to))
    go true ih = refl
    go false ih = ih

-- what was found, as a stamp
pub record IsFoundStamp (bases : ℕ → List ℕ) (found : Option Stamp) (x : Sent) : Type 0 where
  pub stamp : found ≡ Some x.stamp
  pub base : x.base ≡ get_or (bases x.stamp.ingest.0) x.stamp.inc.0 0

pub found_stamp : (bases : ℕ → List ℕ) (found : Option Stamp) (x : Sent) → option_map (with_base bases) found ≡ Some x → IsFoundStamp bases found x
found_stamp bases None x = λ e. absurd (none-some x e)
found_stamp bases (Some s) x = λ e.
    let same : with_base bases s ≡ x = cc in
    record {
      stamp = ap (λ (y : Sent). Some y.stamp) same;
      base = sym (ap (λ (y : Sent). y.base) same) ∙ ap (λ (y : Sent). get_or (bases y.stamp.ingest.0) y.stamp.inc.0 0) same;
    }

pub no_stamp : (bases : ℕ → List ℕ) (found : Option Stamp) → option_map (with_base bases) found ≡ None → found ≡ None
no_stamp bases None = λ e. refl
no_stamp bases (Some s) = λ e. absurd cc
