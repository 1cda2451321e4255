-- Look-ups in a log of stamps.
use Rattle.std.proofs.Common.{◌≡◌, ◌∙◌, ℕ, Bool, true, false, cond, eqb, ◌&&◌, List, [], ◌∷◌, ◌++◌, Option, None, Some, refl, sym, ap, subst, arith}
use Rattle.std.proofs.lemmas.Bool.Decides.{nat_tests}
use Rattle.std.specs.Map.{lookup}
use Rattle.kin_ids.specs.declared.ids.IngestId.{IngestId}
use Rattle.kin_ids.specs.declared.ids.Inc.{Inc}
use Rattle.kin_world.specs.contracts.sent_logs.SentKeyPartialEq.TheImpl.{eq-value}
use Rattle.kin_world.specs.declared.sent_logs.Sent.{Sent}
use Rattle.kin_world.specs.declared.sent_logs.SentKey.{SentKey}
use Rattle.kin_world.specs.SentStamps.{find_sent}
use Rattle.kin_world.specs.SentEntries.{values_of, key_of, IsKeyed}

abbrev key : ℕ → ℕ → ℕ → SentKey
key i c to = record { ingest = record { 0 = i }; inc = record { 0 = c }; to = to }

same_key-is : (k q : SentKey) → eq-value.it k q ≡ ((eqb q.ingest.0 k.ingest.0 && eqb q.inc.0 k.inc.0) && eqb q.to k.to)
same_key-is k q = grind (arith, nat_tests)

-- the look-up of a key is the search for its stamp
pub found-is : (k : SentKey) (es : List (SentKey × Sent)) → IsKeyed es → lookup (eq-value.it k) es ≡ find_sent (values_of es) k.ingest.0 k.inc.0 k.to
found-is k [] keyed = refl
found-is k (e ∷ es) keyed =
    let same : eq-value.it k e.0 ≡ ((eqb e.1.stamp.ingest.0 k.ingest.0 && eqb e.1.stamp.inc.0 k.inc.0) && eqb e.1.stamp.to k.to) = ap (eq-value.it k) keyed.0 ∙ same_key-is k (key_of e.1) in
    ap (λ (b : Bool). cond b (Some e.1) (lookup (eq-value.it k) es)) same
    ∙ ap (cond ((eqb e.1.stamp.ingest.0 k.ingest.0 && eqb e.1.stamp.inc.0 k.inc.0) && eqb e.1.stamp.to k.to) (Some e.1)) (found-is k es keyed.1)

pub keyed-push : (es : List (SentKey × Sent)) (s : Sent) → IsKeyed es → IsKeyed (es ++ (key_of s, s) ∷ [])
keyed-push [] s keyed = (refl, tt)
keyed-push (e ∷ es) s keyed = (keyed.0, keyed-push es s keyed.1)

pub values_of-push : (es : List (SentKey × Sent)) (s : Sent) → values_of (es ++ (key_of s, s) ∷ []) ≡ values_of es ++ s ∷ []
values_of-push [] s = refl
values_of-push (e ∷ es) s = ap (λ (ss : List Sent). e.1 ∷ ss) (values_of-push es s)
