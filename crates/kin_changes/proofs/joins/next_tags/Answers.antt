use Rattle.std.proofs.Common.{◌||◌, ◌∙◌, Bool, ap}
use Rattle.std.specs.List.{list_any}
use Rattle.kin_ids.specs.Users.{same_tag}
use Rattle.kin_changes.specs.Told.{tells_tag}
use Rattle.kin_changes.proofs.Orders.{tag-exact}
use Rattle.kin_changes.proofs.Searched.{known-or-told}
use Rattle.kin_changes.proofs.joins.next_tags.Goals as goal

pub joined-requires : goal.joined-requires
joined-requires c = tag-exact

pub returns-clause-all : goal.returns-clause-all
returns-clause-all c =
    λ t.
    c.in_ok-joined.ensures.all t
    ∙ (ap (λ (b : Bool). list_any (same_tag t) c.args.tags.now || b) (c.in_ok-fresh.ensures t)
    ∙ known-or-told (list_any (same_tag t) c.args.tags.now) (tells_tag c.args.deltas.now t))
