use Rattle.std.proofs.Common.{◌≡◌, ◌∙◌, sym, ap, subst, List, ◌++◌, ◌∷◌, []}
use Rattle.indexmap.proofs.CallerLemmas.{insert_entry-new}
use Rattle.kin_world.specs.contracts.sent_logs.SentKeyPartialEq.TheImpl.{eq-value}
use Rattle.kin_world.specs.declared.sent_logs.Sent.{Sent}
use Rattle.kin_world.specs.SentStamps.{find_sent}
use Rattle.kin_world.specs.SentEntries.{IsKeyed, values_of, key_of}
use Rattle.kin_world.proofs.SentLooks.{found-is, keyed-push, values_of-push}
use Rattle.kin_world.proofs.sent_logs.SentLog.push.Goals as goal

-- the new entry stands behind the others
entries-after : (c : goal.In_ok-insert) → c.insert.new.self.entries ≡ c.self.inside.all.entries ++ (key_of c.args.sent, c.args.sent) ∷ []
entries-after c =
    c.in_ok-insert.ensures.entries
    ∙ insert_entry-new eq-value.it c.self.inside.all (key_of c.args.sent) c.args.sent
    (found-is (key_of c.args.sent) c.self.inside.all.entries c.self.invariant
    ∙ (ap (λ (ss : List Sent). find_sent ss c.args.sent.stamp.ingest.0 c.args.sent.stamp.inc.0 c.args.sent.stamp.to) c.self.view_is ∙ c.requires))

pub invariant_of-self-2 : goal.invariant_of-self-2
invariant_of-self-2 c = subst IsKeyed (sym (entries-after c)) (keyed-push c.self.inside.all.entries c.args.sent c.self.invariant)

pub returns-clause-ok : goal.returns-clause-ok
returns-clause-ok c =
    ap values_of (entries-after c)
    ∙ (values_of-push c.self.inside.all.entries c.args.sent ∙ ap (λ (ss : List Sent). ss ++ c.args.sent ∷ []) c.self.view_is)
