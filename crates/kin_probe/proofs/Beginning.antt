-- Engines at epoch 0.
use Rattle.std.proofs.Common.{◌≡◌, ℕ, List, [], refl}
use Rattle.std.proofs.lemmas.List.Sorted.{IsPermutation-refl}
use Rattle.std.specs.List.Sorted.{IsStrictlySortedBy}
use Rattle.std.specs.declared.cmp.Ordering.{Ordering}
use Rattle.kin_ids.specs.declared.ids.User.{User}
use Rattle.kin_ids.specs.Graph.{empty_graph}
use Rattle.kin_ids.specs.Wholes.{IsViewOf}
use Rattle.kin_graph.specs.Views.{AreVertices}
use Rattle.kin_changes.specs.Views.{empty_view}
use Rattle.kin_history.specs.Setting.{Setting, after}
use Rattle.kin_script.specs.declared.events.Event.{Event}
use Rattle.kin_script.specs.declared.outcomes.Outcome.{Outcome}
use Rattle.kin_world.specs.Runs.{Runs}
use Rattle.kin_world.specs.Worlds.{WorldView}
use Rattle.kin_world.specs.Stands.{HasHistory, Stands}
use Rattle.kin_probe.specs.Follows.{IsViewAt}

sorted-nil : {K : Type 0} (c : K → K → Ordering) → IsStrictlySortedBy c []
unfolding IsStrictlySortedBy
sorted-nil c = tt

-- the view of nothing is of the graph of epoch 0, and nobody is a vertex of it
pub empty-at : (w : WorldView) → HasHistory w → IsViewAt w 0 empty_view
empty-at w has = record {
  set = has.0;
  h = has.1;
  stands = has.2;
  whole = record {
    out = λ u. refl;
    inn = λ u. refl;
    mentions = λ u. IsPermutation-refl [];
    mentioners = λ u. IsPermutation-refl [];
    said = λ u. refl;
    uses = λ u. IsPermutation-refl [];
    tag_users = λ t. IsPermutation-refl [];
  };
}

pub no-vertices : AreVertices empty_view []
no-vertices = record { ascend = sorted-nil _; all = λ u. refl }

-- a world that was opened, and one that took events since
pub opened : (set : Setting) (w : WorldView) → Stands set w [] → HasHistory w
opened set w stands = (set, [], stands)

pub has-after : (old new : WorldView) (events : List Event) (told : List Outcome) → HasHistory old → Runs old events told new → HasHistory new
has-after old new events told has runs = (has.0, after has.1 events, (runs has.0 has.1 has.2).1)
