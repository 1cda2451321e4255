use Rattle.std.proofs.Common.{◌<◌, ◌≤◌, ◌∙◌, ap, subst, length, arith, List, ℕ}
use Rattle.std.specs.List.{list_any}
use Rattle.std.proofs.lemmas.List.{take_all}
use Rattle.kin_ids.specs.Users.{same_tag}
use Rattle.kin_ids.specs.declared.ids.User.{User}
use Rattle.kin_store.specs.State.{users_of}
use Rattle.kin_graph.specs.Touches.{NotesUsers}
use Rattle.kin_graph.proofs.AllNoting.{tags-more}
use Rattle.kin_graph.proofs.notes.put_tags.Goals as goal

pub loop-tag-preserved : goal.loop-tag-preserved
loop-tag-preserved c =
    let test = c.loop-tag-test.true in
    let lt : c.loop-tag.tag-index < length c.args.tags.now = omega (arith, test) in
    let new = c.put_tag_users.new.pairs.keys in
    let kept = c.in_ok-put_tag_users.ensures.kept in
    let here = subst (λ (us : List User). NotesUsers c.tag-item.result us new) c.users_of.ensures c.in_ok-put_tag_users.ensures.ok in
    record {
      kept = λ p none. c.loop-tag.invariant.kept p (kept p none);
      noted = tags-more c.args.snap.now c.args.tags.now c.loop-tag.tag-index c.tag-item.result c.loop-tag.pairs.keys new lt kept
          (subst (λ (t : List ℕ). NotesUsers t (users_of c.args.snap.now t) new) c.tag-item.is here) c.loop-tag.invariant.noted;
    }

pub returns-clause-ok : goal.returns-clause-ok
returns-clause-ok c = λ t h.
    let test = c.loop-tag-test.false in
    let past : length c.args.tags.now ≤ c.loop-tag.tag-index = omega (arith, test) in
    c.loop-tag.invariant.noted t
    (ap (λ (ts : List (List ℕ)). list_any (same_tag t) ts) (take_all c.loop-tag.tag-index c.args.tags.now past) ∙ h)
