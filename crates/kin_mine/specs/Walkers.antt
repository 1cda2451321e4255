-- Walks by both rules from each landmark: the columns of a result that is lent, and who is active in them.
use Rattle.std.specs.Prelude.{◌≡◌, ◌<◌, ◌+◌, ◌||◌, ℕ, Bool, List, [], length, replicate, false, slice_index_or}
use Rattle.kin_ids.specs.declared.ids.User.{User}
use Rattle.kin_ids.specs.Parts.{PartView}
use Rattle.kin_push.specs.Begins.{IsEntered}
use Rattle.kin_push.specs.States.{PushState}
use Rattle.kin_rules.specs.Results.{ResultView, no_column}
use Rattle.kin_mine.specs.declared.walk_rules.Distance.{Distance}
use Rattle.kin_mine.specs.declared.walk_rules.Distance.TheVariants as distance
use Rattle.kin_mine.specs.Lanes.{AreAllDone, IsSettled, IsTurned, Lanes, lanes, owed_in}
use Rattle.kin_mine.specs.Marks.{AreBlank, AreOn, AreStates, are_quiet, is_marked, rule_of}

-- For each landmark the marks of the users that are active by hops and by closeness, in the order of a result's users.
pub record WalkersView : Type 0 where
  pub hop_marks : List (List Bool)
  pub close_marks : List (List Bool)

abbrev pub walkers_by : List (List Bool) → List (List Bool) → WalkersView
walkers_by hops close = record { hop_marks = hops; close_marks = close }

-- the columns of a rule with their marks
abbrev pub lanes_of : Distance → ResultView → WalkersView → Lanes
lanes_of distance.Hops r w = lanes r.hops w.hop_marks
lanes_of distance.Close r w = lanes r.close w.close_marks

-- whether a user is active by some rule from some landmark
abbrev pub is_walking : List User → WalkersView → User → Bool
is_walking users w u = is_marked users w.hop_marks u || is_marked users w.close_marks u

-- nobody is
abbrev pub AreStill : WalkersView → Type 0
AreStill w = are_quiet w.hop_marks × are_quiet w.close_marks

-- the marks of each landmark are as long as the users
pub record AreLong (users : List User) (w : WalkersView) : Type 0 where
  pub hops : (k : ℕ) → k < length w.hop_marks → length (slice_index_or w.hop_marks k []) ≡ length users
  pub close : (k : ℕ) → k < length w.close_marks → length (slice_index_or w.close_marks k []) ≡ length users

-- of each landmark there are columns and marks by both rules
pub record HaveStates (landmarks : List User) (r : ResultView) (w : WalkersView) : Type 0 where
  pub hops : AreStates landmarks r.users r.hops w.hop_marks
  pub close : AreStates landmarks r.users r.close w.close_marks

-- and the facts of both rules stand on a view
pub record WalkOn (v : PartView) (landmarks : List User) (r : ResultView) (w : WalkersView) : Type 0 where
  pub hops : AreOn distance.Hops v landmarks r.users r.hops w.hop_marks
  pub close : AreOn distance.Close v landmarks r.users r.close w.close_marks

-- Marks of a result's users, of whom nobody is marked, and a column of hops of each landmark. No column has values of others.
pub record AreFresh (landmarks : List User) (r : ResultView) (w : WalkersView) : Type 0 where
  pub hop_marks : AreBlank (length landmarks) r.users w.hop_marks
  pub close_marks : AreBlank (length landmarks) r.users w.close_marks
  pub columns : length r.hops ≡ length landmarks
  pub alone_hops : (i : ℕ) → (slice_index_or r.hops i no_column).others ≡ []
  pub alone_close : (i : ℕ) → (slice_index_or r.close i no_column).others ≡ []

-- so many columns' marks of so many users, of whom nobody is marked
abbrev pub blank_marks : ℕ → ℕ → List (List Bool)
blank_marks columns users = replicate columns (replicate users false)

abbrev pub no_walkers : ℕ → ℕ → WalkersView
no_walkers columns users = walkers_by (blank_marks columns users) (blank_marks columns users)

-- ---- what calls do

-- nothing but the columns of walks of a result changes
abbrev pub KeepsRest : ResultView → ResultView → Type 0
KeepsRest old new = new ≡ record old { hops = new.hops; close = new.close }

-- under each rule the column of each landmark changed in this way
abbrev pub AllLanes : (Distance → User → PushState → PushState → Type 0) → List User → ResultView → WalkersView → ResultView → WalkersView → Type 0
AllLanes P landmarks old w new x = (d : Distance) → AreAllDone (P d) landmarks old.users (lanes_of d old w) (lanes_of d new x)

-- by a turn of u each is turned
abbrev pub AreTurned : PartView → User → List User → ResultView → WalkersView → ResultView → WalkersView → Type 0
AreTurned v u = AllLanes (λ d l. IsTurned (rule_of d l) v u)

-- by turns each is settled
abbrev pub AreSettled : PartView → List User → ResultView → WalkersView → ResultView → WalkersView → Type 0
AreSettled v = AllLanes (λ d l. IsSettled (rule_of d l) v)

-- the starts that a rule uses
abbrev pub starts_of : Distance → List User → List User → List User
starts_of distance.Hops hops close = hops
starts_of distance.Close hops close = close

-- each begins an epoch with its rule's starts
abbrev pub AreEntered : List User → List User → List User → ResultView → WalkersView → ResultView → WalkersView → Type 0
AreEntered hops close = AllLanes (λ d l. IsEntered (rule_of d l) (starts_of d hops close))

-- what the turns that are still to come may read
abbrev pub walks_owed : PartView → List User → ResultView → WalkersView → ℕ
walks_owed v landmarks r w =
    owed_in distance.Hops v landmarks r.users (lanes_of distance.Hops r w) (length landmarks)
    + owed_in distance.Close v landmarks r.users (lanes_of distance.Close r w) (length landmarks)
