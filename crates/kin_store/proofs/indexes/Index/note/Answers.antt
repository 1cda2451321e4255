use Rattle.std.proofs.Common.{refl}
use Rattle.std.proofs.lemmas.Result.{on_ok_weaker}
use Rattle.kin_store.specs.Pairs.{pair, tag_user}
use Rattle.kin_store.specs.Hints.{Covers, CoversTag}
use Rattle.kin_store.proofs.indexes.Index.note.Goals as goal

pub returns-in-AddOut-clause-ok : goal.returns-in-AddOut-clause-ok
returns-in-AddOut-clause-ok c =
    rw (c.in-AddOut.is, ← c.self.view_is) (on_ok_weaker c.note_pair.result
    (λ (covers : Covers c.self.inside.out.entries (pair c.in-AddOut.user c.in-AddOut.other) c.args.place
    c.note_pair.new.places.entries). (covers, refl)) c.note_pair.ensures.ok)

pub returns-in-AddIn-clause-ok : goal.returns-in-AddIn-clause-ok
returns-in-AddIn-clause-ok c =
    rw (c.in-AddIn.is, ← c.self.view_is) (on_ok_weaker c.note_pair-in-AddIn.result
    (λ (covers : Covers c.self.inside.inn.entries (pair c.in-AddIn.user c.in-AddIn.other) c.args.place
    c.note_pair-in-AddIn.new.places.entries). (covers, refl)) c.note_pair-in-AddIn.ensures.ok)

pub returns-in-MentionOut-clause-ok : goal.returns-in-MentionOut-clause-ok
returns-in-MentionOut-clause-ok c =
    rw (c.in-MentionOut.is, ← c.self.view_is)
    (on_ok_weaker c.note_pair-in-MentionOut.result
    (λ (covers : Covers c.self.inside.mentions.entries (pair c.in-MentionOut.user c.in-MentionOut.other) c.args.place
    c.note_pair-in-MentionOut.new.places.entries). (covers, refl)) c.note_pair-in-MentionOut.ensures.ok)

pub returns-in-MentionIn-clause-ok : goal.returns-in-MentionIn-clause-ok
returns-in-MentionIn-clause-ok c =
    rw (c.in-MentionIn.is, ← c.self.view_is)
    (on_ok_weaker c.note_pair-in-MentionIn.result
    (λ (covers : Covers c.self.inside.mentioners.entries (pair c.in-MentionIn.user c.in-MentionIn.other) c.args.place
    c.note_pair-in-MentionIn.new.places.entries). (covers, refl)) c.note_pair-in-MentionIn.ensures.ok)

pub returns-in-Use-clause-ok : goal.returns-in-Use-clause-ok
returns-in-Use-clause-ok c =
    rw (c.in-Use.is, ← c.self.view_is) (on_ok_weaker c.note_tag.result
    (λ (covers : CoversTag c.self.inside.uses.entries (tag_user c.in-Use.tag c.in-Use.user) c.args.place c.note_tag.new.places.entries).
    (covers, refl)) c.note_tag.ensures.ok)

pub returns-in-TagUse-clause-ok : goal.returns-in-TagUse-clause-ok
returns-in-TagUse-clause-ok c =
    rw (c.in-TagUse.is, ← c.self.view_is) (on_ok_weaker c.note_tag-in-TagUse.result
    (λ (covers : CoversTag c.self.inside.users.entries (tag_user c.in-TagUse.tag c.in-TagUse.user) c.args.place
    c.note_tag-in-TagUse.new.places.entries). (covers, refl)) c.note_tag-in-TagUse.ensures.ok)
