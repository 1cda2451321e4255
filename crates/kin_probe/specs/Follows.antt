-- Engines that follow a world from epoch to epoch.
use Rattle.std.specs.Prelude.{ℕ, List}
use Rattle.kin_ids.specs.declared.ids.User.{User}
use Rattle.kin_ids.specs.Order.{snapshot}
use Rattle.kin_ids.specs.Parts.{PartView}
use Rattle.kin_ids.specs.Wholes.{IsViewOf}
use Rattle.kin_graph.specs.Views.{AreVertices}
use Rattle.kin_history.specs.Setting.{Setting}
use Rattle.kin_history.specs.Vectors.{vector}
use Rattle.kin_script.specs.declared.events.Event.{Event}
use Rattle.kin_rules.specs.Layers.{LayerRule}
use Rattle.kin_rules.specs.Walks.{Rule}
use Rattle.kin_pull.specs.States.{KeptView}
use Rattle.kin_pull.specs.States as layers
use Rattle.kin_push.specs.Facts as walks
use Rattle.kin_push.specs.States.{PushState}
use Rattle.kin_push.specs.States as walking
use Rattle.kin_world.specs.Worlds.{WorldView}
use Rattle.kin_world.specs.Stands.{Stands}

-- the world stands for a history, and the view is of the graph of its epoch k
pub record IsViewAt (w : WorldView) (k : ℕ) (v : PartView) : Type 0 where
  pub set : Setting
  pub h : List Event
  pub stands : Stands set w h
  pub whole : IsViewOf (snapshot set.feeds (vector set h) k) v

-- an engine of walks has settled on a view of epoch k
pub record WalksAt (w : WorldView) (k : ℕ) (r : Rule) (s : PushState) : Type 0 where
  pub view : PartView
  pub at : IsViewAt w k view
  pub on : walks.On r view s
  pub vertices : AreVertices view s.users
  pub quiet : walking.IsQuiet s

-- an engine of layers has settled on a view of epoch k
pub record LayersAt {V : Type 0} (w : WorldView) (k : ℕ) (r : LayerRule V) (top : ℕ) (us : List User) (kept : KeptView V) : Type 0 where
  pub view : PartView
  pub at : IsViewAt w k view
  pub on : layers.On r top view us kept
  pub vertices : AreVertices view us
  pub quiet : layers.IsQuiet us kept
