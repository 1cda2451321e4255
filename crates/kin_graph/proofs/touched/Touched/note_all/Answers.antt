use Rattle.std.proofs.Common.{◌∙◌, ap, List, ℕ}
use Rattle.std.specs.List.{list_any}
use Rattle.kin_ids.specs.declared.ids.User.{User}
use Rattle.kin_ids.specs.Users.{has_user, same_tag}
use Rattle.kin_store.specs.State.{row_of}
use Rattle.kin_graph.proofs.AllNoting.{all-noted, row-kept}
use Rattle.kin_graph.proofs.touched.Touched.note_all.Goals as goal

pub returns : goal.returns
returns c =
    all-noted c.args.snap.now c.note_tags.new.self c.in_ok-owners.owners.items c.in_ok-tags.tags.items c.in_ok-owners.ensures
    (λ u h. row-kept u (row_of c.args.snap.now u) c.note_rows.new.self c.note_tags.new.self c.in_ok-note_tags.ensures.kept
    (c.in_ok-note_rows.ensures u (ap (λ (us : List User). has_user us u) c.as_slice.ensures.value ∙ h)))
    c.in_ok-tags.ensures.in_use
    (λ t h. c.in_ok-note_tags.ensures.ok t (ap (λ (ts : List (List ℕ)). list_any (same_tag t) ts) c.as_slice-2.ensures.value ∙ h))
