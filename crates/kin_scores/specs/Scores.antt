-- What is kept of ranks and exposures, over which view it stands, and what a result shows of it.
use Rattle.std.specs.Prelude.{◌≡◌, ◌||◌, ℕ, Bool, false, List, map}
use Rattle.std.specs.List.{flat_map}
use Rattle.kin_ids.specs.declared.ids.User.{User}
use Rattle.kin_ids.specs.Graph.{Graph}
use Rattle.kin_ids.specs.Parts.{PartView}
use Rattle.kin_ids.specs.Wholes.{IsViewOf}
use Rattle.kin_graph.specs.Views.{AreVertices}
use Rattle.kin_changes.specs.Views.{IsWholeView}
use Rattle.kin_rules.specs.declared.exposure_rules.UseK.{UseK}
use Rattle.kin_rules.specs.Exposure.{exposures}
use Rattle.kin_rules.specs.ExposureLists.{AreTallies}
use Rattle.kin_rules.specs.ExposureRule.{exposure_rule}
use Rattle.kin_rules.specs.RankRule.{rank_rule}
use Rattle.kin_rules.specs.Ranks.{rank}
use Rattle.kin_rules.specs.Results.{ResultView}
use Rattle.kin_pull.specs.States.{KeptView, IsKept, On, row_in}
use Rattle.kin_pull.specs.States as kept

-- the layers of rank, and the entries of exposure
pub record ScoresView : Type 0 where
  pub ranks : KeptView ℕ
  pub expos : KeptView (List UseK)

-- Of each user there are eight layers of rank and one of exposure.
pub record AreKept (us : List User) (s : ScoresView) : Type 0 where
  pub ranks : IsKept 8 us s.ranks
  pub expos : IsKept 1 us s.expos

-- the facts of both rules stand over a view
pub record StandOn (v : PartView) (us : List User) (s : ScoresView) : Type 0 where
  pub ranks : On rank_rule 8 v us s.ranks
  pub expos : On exposure_rule 1 v us s.expos

-- whether a user is active by rank or by exposure
abbrev pub is_active : List User → ScoresView → User → Bool
is_active us s u = kept.is_active us s.ranks u || kept.is_active us s.expos u

abbrev pub AreQuiet : List User → ScoresView → Type 0
AreQuiet us s = (u : User) → is_active us s u ≡ false

-- the entries of all users
abbrev pub entries_in : ScoresView → List UseK
entries_in s = flat_map (λ entries. entries) (row_in s.expos 1)

-- The ranks of a result are those of layer 8, and the exposures of its tags are how many entries have which number.
pub record AreShown (s : ScoresView) (r : ResultView) : Type 0 where
  pub ranks : r.ranks ≡ row_in s.ranks 8
  pub expos : AreTallies (entries_in s) r.tags r.expos

-- where nobody is active, a result that shows them has the ranks and the exposures of the graph
abbrev pub ShownLaw : Type 0
ShownLaw = (g : Graph) (v : PartView) (s : ScoresView) (r : ResultView) → IsViewOf g v → IsWholeView v → AreVertices v r.users
    → AreKept r.users s → StandOn v r.users s → AreQuiet r.users s → AreShown s r
    → (r.ranks ≡ map (rank g) r.users) × (r.expos ≡ map (exposures g) r.tags)
