use Rattle.std.proofs.Common.{◌||◌, ◌∙◌, Bool, ap}
use Rattle.kin_ids.specs.Users.{has_user}
use Rattle.kin_changes.specs.Told.{are_told}
use Rattle.kin_changes.proofs.Searched.{known-or-told}
use Rattle.kin_changes.proofs.joins.next_users.Goals as goal

pub returns-clause-all : goal.returns-clause-all
returns-clause-all c =
    λ u.
    c.in_ok-joined.ensures.all u
    ∙ (ap (λ (b : Bool). has_user c.args.users.now u || b) (c.in_ok-fresh.ensures u)
    ∙ known-or-told (has_user c.args.users.now u) (are_told c.args.deltas.now u))
