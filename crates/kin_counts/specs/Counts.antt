-- The counts of a view in the columns of a result.
use Rattle.std.specs.Prelude.{◌≡◌, ◌<◌, ◌^◌, ℕ, true, List, if◌then◌else◌, length, count_by}
use Rattle.std.specs.List.Sorted.{IsStrictlySortedBy}
use Rattle.kin_ids.specs.declared.ids.User.{User}
use Rattle.kin_ids.specs.Graph.{Graph, vertices, tags_in}
use Rattle.kin_ids.specs.Parts.{PartView}
use Rattle.kin_ids.specs.Users.{has_user, tag_cmp}
use Rattle.kin_ids.specs.Wholes.{IsViewOf}
use Rattle.kin_graph.specs.Deltas.{DeltaLists}
use Rattle.kin_graph.specs.Views.{AreVertices, is_in_use}
use Rattle.kin_changes.specs.Views.{AreLed}
use Rattle.kin_rules.specs.declared.numbers.Num.TheVariants as num
use Rattle.kin_rules.specs.Counts.{tag_count}
use Rattle.kin_rules.specs.Results.{ResultView, number_in, number_of, has_tag, tag_users_in, expo_in, hops_in, close_in, landmarks_in}

-- The users are the vertices and the tags are those in use, both ascending. The numbers are how many follow each user now and how many it
-- follows, how many items mention it, which counts for vertices alone, and how many users each tag has.
pub record IsCountOf (v : PartView) (r : ResultView) : Type 0 where
  pub users : AreVertices v r.users
  pub tags_ascend : IsStrictlySortedBy tag_cmp r.tags
  pub tags : (t : List ℕ) → has_tag r.tags t ≡ is_in_use v t
  pub ins : (u : User) → number_in r num.In u ≡ count_by (λ h. h.present) (v.inn u)
  pub outs : (u : User) → number_in r num.Out u ≡ count_by (λ h. h.present) (v.out u)
  pub said : (u : User) → number_in r num.Said u ≡ (if has_user r.users u then v.said u else 0)
  pub tag_users : (t : List ℕ) → tag_users_in r t ≡ length (v.tag_users t)

-- every number of a view has 64 bits
pub record FitsNumbers (v : PartView) : Type 0 where
  pub ins : (u : User) → length (v.inn u) < 2 ^ 64
  pub outs : (u : User) → length (v.out u) < 2 ^ 64
  pub said : (u : User) → v.said u < 2 ^ 64
  pub tag_users : (t : List ℕ) → length (v.tag_users t) < 2 ^ 64

-- of a graph that the view shows these are the definitions' users, tags and counts
pub record AreCountsOf (g : Graph) (r : ResultView) : Type 0 where
  pub users : (u : User) → has_user r.users u ≡ has_user (vertices g) u
  pub tags : (t : List ℕ) → has_tag r.tags t ≡ has_tag (tags_in g) t
  pub ins : (u : User) → number_in r num.In u ≡ (if has_user (vertices g) u then number_of g num.In u else 0)
  pub outs : (u : User) → number_in r num.Out u ≡ (if has_user (vertices g) u then number_of g num.Out u else 0)
  pub said : (u : User) → number_in r num.Said u ≡ (if has_user (vertices g) u then number_of g num.Said u else 0)
  pub tag_users : (t : List ℕ) → tag_users_in r t ≡ tag_count g t

abbrev pub CountLaw : Type 0
CountLaw = (g : Graph) (v : PartView) (r : ResultView) → IsViewOf g v → IsCountOf v r → AreCountsOf g r

-- What a call on the counts leaves: the epoch, the landmarks, every rank, every value of a walk, and the exposures of the tags that were in
-- use. A user who wasn't one has the rank and the values that it had.
pub record KeepsOthers (old new : ResultView) : Type 0 where
  pub epoch : new.epoch ≡ old.epoch
  pub landmarks : landmarks_in new ≡ landmarks_in old
  pub ranks : (u : User) → number_in new num.Rank u ≡ number_in old num.Rank u
  pub hops : (i : ℕ) (u : User) → hops_in new i u ≡ hops_in old i u
  pub close : (i : ℕ) (u : User) → close_in new i u ≡ close_in old i u
  pub expos : (t : List ℕ) → has_tag old.tags t ≡ true → expo_in new t ≡ expo_in old t

-- what is counted after deltas that lead to a later view
abbrev pub CountsOn : List DeltaLists → ResultView → ResultView → Type 0
CountsOn ds old new = (was is : PartView) → AreLed was is ds → FitsNumbers is → IsCountOf was old → IsCountOf is new
