-- What an epoch begins with, and what it may read.
use Rattle.std.specs.Prelude.{◌≡◌, ◌≤◌, ◌^◌, ◌+◌, ◌-◌, ◌*◌, ◌&&◌, ◌||◌, not, ℕ, Bool, List, [], Option, Some, is_some, if◌then◌else◌}
use Rattle.std.specs.Prelude.{length}
use Rattle.kin_ids.specs.declared.ids.User.{User}
use Rattle.kin_ids.specs.Graph.{Graph}
use Rattle.kin_ids.specs.Parts.{PartView}
use Rattle.kin_ids.specs.Users.{same_user, has_user}
use Rattle.kin_ids.specs.Wholes.{IsViewOf}
use Rattle.kin_store.specs.declared.pairs.Pair.{Pair}
use Rattle.kin_graph.specs.Deltas.{DeltaLists}
use Rattle.kin_graph.specs.Views.{AreVertices}
use Rattle.kin_changes.specs.Told.{adds_follow_of, adds_mention_of}
use Rattle.kin_changes.specs.Views.{AreLed, empty_view}
use Rattle.kin_rules.specs.declared.kinds.EdgeKind.{EdgeKind}
use Rattle.kin_rules.specs.declared.kinds.EdgeKind.TheVariants as kind
use Rattle.kin_rules.specs.Costs.{bound, least_cost}
use Rattle.kin_rules.specs.Nets.{least_of}
use Rattle.kin_rules.specs.Walks.{Rule, IsRule}
use Rattle.kin_push.specs.Facts.{On, to_read}
use Rattle.kin_push.specs.Turns.{IsRun}
use Rattle.kin_push.specs.Potential.{counted, sum_over}
use Rattle.kin_push.specs.States.{PushState, IsQuiet, value_in, is_active, net_in, reads_of, state}

-- the edges of a kind that a delta tells were added for the first time
abbrev pub pairs_in : EdgeKind → DeltaLists → List Pair
pairs_in kind.Follow d = d.new_out
pairs_in kind.Mention d = d.mention_out

-- whether an edge of a kind out of u was added for the first time
abbrev pub adds_of : List DeltaLists → EdgeKind → User → Bool
adds_of ds kind.Follow u = adds_follow_of ds u
adds_of ds kind.Mention u = adds_mention_of ds u

-- the same of edges of a kind that the rule uses, and of any such edge
abbrev pub starts_by : Rule → List DeltaLists → EdgeKind → User → Bool
starts_by r ds k u = is_some (r.along k 0) && adds_of ds k u

abbrev pub is_started : Rule → List DeltaLists → User → Bool
is_started r ds u = starts_by r ds kind.Follow u || starts_by r ds kind.Mention u

-- whether the landmark is one of the users and has no value yet
abbrev pub lands : Rule → List User → (User → Option ℕ) → Bool
lands r us f = has_user us r.mark && not (is_some (f r.mark))

-- the same by the landmark
abbrev pub lands_at : User → List User → (User → Option ℕ) → Bool
lands_at mark us f = has_user us mark && not (is_some (f mark))

-- The starts are active, and so is the landmark where it has no value yet: then it gets 0. No other value changes.
pub record IsEntered (r : Rule) (starts : List User) (old new : PushState) : Type 0 where
  pub users : new.users ≡ old.users
  pub active : (u : User) → is_active new u ≡ (has_user starts u || (lands r old.users (value_in old) && same_user u r.mark))
  pub values : (u : User) → value_in new u ≡ (if lands r old.users (value_in old) && same_user u r.mark then Some 0 else value_in old u)

-- for each user 1 where an edge out of it is new, and the value that it had
abbrev pub had : Rule → List DeltaLists → ℕ → PushState → User → ℕ
had r ds most before u = (if is_started r ds u then 1 else 0) + counted most (value_in before u)

-- what may be read in an epoch where no value falls below 0
abbrev pub epoch_owes : Rule → PartView → List DeltaLists → PushState → PushState → ℕ
epoch_owes r v ds before after = sum_over (λ u. had r ds (bound (net_in r v after.users)) before u * reads_of r v u) after.users

-- What is read in an epoch at most: the sum over all users of what a turn of it reads, once where an edge out of it is new, and once for
-- each number by which its value fell.
abbrev pub epoch_reads : Rule → PartView → List DeltaLists → PushState → PushState → ℕ
epoch_reads r v ds before after = sum_over (λ u. ((if is_started r ds u then 1 else 0)
    + (counted (bound (net_in r v after.users)) (value_in before u) - counted (bound (net_in r v after.users)) (value_in after u))) *
    reads_of r v u) after.users

-- An epoch begins on a later view: the facts stand on it. Active are the starts of new edges, and the landmark where it has become a
-- vertex, which then has 0; no other value changes. And what may be read is bounded.
pub record Begins (r : Rule) (v : PartView) (ds : List DeltaLists) (before after : PushState) : Type 0 where
  pub on : On r v after
  pub active : (u : User) → is_active after u ≡ (is_started r ds u || (lands r after.users (value_in before) && same_user u r.mark))
  pub values : (u : User) → value_in after u ≡ (if lands r after.users (value_in before) && same_user u r.mark then Some 0 else value_in
      before u)
  pub owes : to_read r v after ≤ epoch_owes r v ds before after

-- A quiet state, widened to the vertices of a later view, and entered by the starts that the deltas tell, begins the epoch.
pub record IsBegun (r : Rule) (was is : PartView) (ds : List DeltaLists) (us : List User) (before wide after : PushState) : Type 0 where
  pub rule : IsRule r.along r.most
  pub led : AreLed was is ds
  pub vertices : AreVertices is wide.users
  pub small : length wide.users ≤ 2 ^ 27
  pub on : On r was before
  pub quiet : IsQuiet before
  pub values : (u : User) → value_in wide u ≡ value_in before u
  pub starts : (u : User) → has_user us u ≡ is_started r ds u
  pub entered : IsEntered r us wide after

abbrev pub BeginLaw : Type 0
BeginLaw = (r : Rule) (was is : PartView) (ds : List DeltaLists) (starts : List User) (before wide after : PushState)
    → IsBegun r was is ds starts before wide after → Begins r is ds before after

-- the facts stand of nobody on an empty view
abbrev pub EmptyLaw : Type 0
EmptyLaw = (r : Rule) → On r empty_view (state [] [] [])

-- where nobody is active every value is the least cost of a walk
abbrev pub QuietLaw : Type 0
QuietLaw = (r : Rule) (v : PartView) (s : PushState) → IsRule r.along r.most → On r v s → IsQuiet s
    → (u : User) → value_in s u ≡ least_cost (net_in r v s.users) u

-- that over a view of a graph is the graph's
abbrev pub ViewLaw : Type 0
ViewLaw = (r : Rule) (g : Graph) (v : PartView) (us : List User) → IsRule r.along r.most → IsViewOf g v → AreVertices v us
    → (u : User) → least_cost (net_in r v us) u ≡ least_of r g u

-- turns whose reads are paid by what may still be read keep an epoch's bound
abbrev pub EpochLaw : Type 0
EpochLaw = (r : Rule) (v : PartView) (ds : List DeltaLists) (before begun after : PushState) (reads : ℕ) → IsRule r.along r.most
    → Begins r v ds before begun → IsRun r v begun after → reads + to_read r v after ≤ to_read r v begun
    → reads ≤ epoch_reads r v ds before after
