-- An engine of a rule of layers.
use Rattle.std.specs.Prelude.{List}
use Rattle.kin_ids.specs.declared.ids.User.{User}
use Rattle.kin_ids.specs.Parts.{PartView}
use Rattle.kin_graph.specs.Deltas.{DeltaLists}
use Rattle.kin_graph.specs.Views.{AreVertices}
use Rattle.kin_changes.specs.Views.{AreLed}
use Rattle.kin_pull.specs.States.{KeptView}

-- the rule, the users of the epoch begun last, and what is kept of them
pub record Engine (R V : Type 0) : Type 0 where
  pub rule : R
  pub users : List User
  pub kept : KeptView V

-- deltas that lead on from a view whose vertices are these
pub record LeadOn (us : List User) (ds : List DeltaLists) : Type 0 where
  pub was : PartView
  pub is : PartView
  pub led : AreLed was is ds
  pub vertices : AreVertices was us
