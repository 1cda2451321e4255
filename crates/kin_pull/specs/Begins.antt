-- What an epoch begins with.
use Rattle.std.specs.Prelude.{true, ◌≡◌, ◌≤◌, ◌+◌, ◌-◌, ◌&&◌, ◌||◌, not, nat_lt, ℕ, zero, suc, Bool, false, List, [], ◌++◌, map, filter}
use Rattle.std.specs.Prelude.{if◌then◌else◌}
use Rattle.std.specs.List.{list_any, flat_map}
use Rattle.kin_ids.specs.declared.ids.User.{User}
use Rattle.kin_ids.specs.declared.ops.Use.{Use}
use Rattle.kin_ids.specs.Users.{same_user, has_user}
use Rattle.kin_ids.specs.Parts.{PartView}
use Rattle.kin_store.specs.declared.pairs.Pair.{Pair}
use Rattle.kin_graph.specs.Deltas.{DeltaLists}
use Rattle.kin_graph.specs.Views.{AreVertices, is_vertex}
use Rattle.kin_changes.specs.Told.{is_of, pairs_of}
use Rattle.kin_changes.specs.Views.{AreLed, empty_view}
use Rattle.kin_rules.specs.declared.pull_rules.Side.{Side}
use Rattle.kin_rules.specs.declared.pull_rules.Side.TheVariants as side
use Rattle.kin_rules.specs.declared.pull_rules.Facts.{Facts}
use Rattle.kin_rules.specs.Layers.{LayerRule, IsLayerRule}
use Rattle.kin_pull.specs.Keeping.{PullNet, layer_in}
use Rattle.kin_pull.specs.Settles.{ever, reads_on, sum_over, settle_reads}
use Rattle.kin_pull.specs.States.{KeptView, IsKept, On, IsQuiet, value_in, now_in, told_in, is_fresh, active_at, keeping, net_in, opposite}

-- the first uses of a user that are new
abbrev pub uses_told : List DeltaLists → User → List Use
uses_told ds u = flat_map (λ d. map (λ x. x.entry) (filter (λ x. same_user u x.user) d.uses)) ds

-- the facts of a user after such deltas
abbrev pub facts_after : List DeltaLists → User → Facts → Facts
facts_after ds u f = record {
  user = f.user;
  following = (f.following + pairs_of (λ d. d.now_out) ds u) - pairs_of (λ d. d.gone_out) ds u;
  uses = f.uses ++ uses_told ds u;
}

-- a follow edge out of u came to be present or ceased to be, or u has a new first use
abbrev pub touches : DeltaLists → User → Bool
touches d u = (list_any (is_of u) d.now_out || list_any (is_of u) d.gone_out) || list_any (λ x. same_user u x.user) d.uses

abbrev pub is_touched : List DeltaLists → User → Bool
is_touched ds u = list_any (λ d. touches d u) ds

abbrev pub now_pairs : Side → DeltaLists → List Pair
now_pairs side.In d = d.now_in
now_pairs side.Out d = d.now_out

abbrev pub gone_pairs : Side → DeltaLists → List Pair
gone_pairs side.In d = d.gone_in
gone_pairs side.Out d = d.gone_out

-- an input of x came or went
abbrev pub is_rewired : Side → List DeltaLists → User → Bool
is_rewired s ds x = list_any (λ d. list_any (is_of x) (now_pairs s d) || list_any (is_of x) (gone_pairs s d)) ds

-- whether a user starts the epoch active, from layer 1 on: an input came or went, or its own facts make other values
abbrev pub is_started : {V : Type 0} → LayerRule V → List DeltaLists → (User → Facts) → User → Bool
is_started r ds facts x = is_rewired r.side ds x || (is_touched ds x && not (r.own_alike (facts x) (facts_after ds x (facts x))))

-- No layer changes, and who wasn't there has the first value in each. The facts of now are those after the deltas; who is touched by them
-- has
-- yet to tell, and told its facts of before. Active are the starts, from layer 1 on.
pub record IsBegun {V : Type 0} (r : LayerRule V) (ds : List DeltaLists) (us : List User) (before : KeptView V) (vs : List User)
    (after : KeptView V) : Type 0 where
  pub values : (j : ℕ) (x : User) → value_in r.first vs after j x ≡ value_in r.first us before j x
  pub now : (x : User) → now_in vs after x ≡ facts_after ds x (now_in us before x)
  pub told : (x : User) → told_in vs after x ≡ now_in us before x
  pub fresh : (x : User) → is_fresh vs after x ≡ is_touched ds x
  pub active : (j : ℕ) (x : User) → active_at vs after j x ≡ (nat_lt 0 j && is_started r ds (now_in us before) x)
  pub mixed : after.mixed ≡ false

-- on a quiet state it begins the epoch of a later view: the facts stand on it
abbrev pub BeginLaw : Type 0 → Type 0
BeginLaw V = (r : LayerRule V) (top : ℕ) (was is : PartView) (ds : List DeltaLists) (us : List User) (before : KeptView V)
    (vs : List User) (after : KeptView V)
    → IsLayerRule r → AreLed was is ds → AreVertices is vs → On r top was us before → IsQuiet us before
    → IsBegun r ds us before vs after → On r top is vs after

-- the facts stand of nobody on an empty view
abbrev pub EmptyLaw : Type 0 → Type 0
EmptyLaw V = (r : LayerRule V) (top : ℕ) (k : KeptView V) → IsLayerRule r → IsKept top [] k → On r top empty_view [] k

-- whether what a user gives its readers of a layer differs between two epochs
abbrev pub differs : {V : Type 0} → LayerRule V → PullNet → PullNet → ℕ → User → Bool
differs r was is j y = not (r.alike (was.facts y) (layer_in r was j y) (is.facts y) (layer_in r is j y))

-- whether a user is computed again at the layer above j: an input came or went, its own facts make other values, or what it reads differs
abbrev pub is_again : {V : Type 0} → LayerRule V → List DeltaLists → PullNet → PullNet → List User → ℕ → User → Bool
is_again r ds was is us j x = is_started r ds was.facts x || list_any (λ y. differs r was is j y && has_user (is.readers y) x) us

-- What a settle reads that follows the begin of an epoch at once: once the edges to the readers of each user that gives them something
-- else than in the epoch before in one of n layers, and once the edges to the inputs of each user that is computed again above one of them.
abbrev pub epoch_reads : {V : Type 0} → LayerRule V → List DeltaLists → PullNet → PullNet → PartView → List User → ℕ → ℕ
epoch_reads r ds was is v us n =
    sum_over (λ y. if ever (λ j. differs r was is j y) n then reads_on (opposite r.side) v y else 0) us
    + sum_over (λ x. if ever (λ j. is_again r ds was is us j x) n then reads_on r.side v x else 0) us

abbrev pub ReadsLaw : Type 0 → Type 0
ReadsLaw V = (r : LayerRule V) (top : ℕ) (was is : PartView) (ds : List DeltaLists) (us : List User) (before : KeptView V)
    (vs : List User) (after : KeptView V)
    → IsLayerRule r → On r top was us before → IsQuiet us before → IsBegun r ds us before vs after
    → settle_reads r (net_in r.side is vs after) is (keeping r.first vs after) vs top
    ≡ epoch_reads r ds (net_in r.side was us before) (net_in r.side is vs after) is vs top

-- the same edges, once for each layer
abbrev pub layered_reads : {V : Type 0} → LayerRule V → List DeltaLists → PullNet → PullNet → PartView → List User → ℕ → ℕ
layered_reads r ds was is v us zero = 0
layered_reads r ds was is v us (suc n) = layered_reads r ds was is v us n
    + (sum_over (λ y. if differs r was is n y then reads_on (opposite r.side) v y else 0) us
    + sum_over (λ x. if is_again r ds was is us n x then reads_on r.side v x else 0) us)

-- an epoch reads at most what it would if each layer were read for itself
abbrev pub LayersLaw : Type 0 → Type 0
LayersLaw V = (r : LayerRule V) (ds : List DeltaLists) (was is : PullNet) (v : PartView) (us : List User) (n : ℕ)
    → epoch_reads r ds was is v us n ≤ layered_reads r ds was is v us n

-- whoever deltas tell of is a vertex of the view to which they lead
abbrev pub TouchedLaw : Type 0
TouchedLaw = (was is : PartView) (ds : List DeltaLists) → AreLed was is ds → (u : User)
    → (is_touched ds u ≡ true → is_vertex is u ≡ true) × ((s : Side) → is_rewired s ds u ≡ true → is_vertex is u ≡ true)
