-- Views of whole graphs.
use Rattle.std.specs.Prelude.{ℕ, ◌≡◌, List, IsPermutation}
use Rattle.kin_ids.specs.Types.{User}
use Rattle.kin_ids.specs.Graph.{Graph, outs, ins, mentions_of, mentioners_of, said, uses_of, tag_users}
use Rattle.kin_ids.specs.Parts.{PartView}

-- The view hands out a whole graph: of each user the follow halves in the order of first adding, and the mentions, the mentioners and
-- the uses, each once in any order; of each tag its users; and how often each user was mentioned.
pub record IsViewOf (g : Graph) (v : PartView) : Type 0 where
  pub out : (u : User) → v.out u ≡ outs g u
  pub inn : (u : User) → v.inn u ≡ ins g u
  pub mentions : (u : User) → IsPermutation (v.mentions u) (mentions_of g u)
  pub mentioners : (u : User) → IsPermutation (v.mentioners u) (mentioners_of g u)
  pub said : (u : User) → v.said u ≡ said g u
  pub uses : (u : User) → IsPermutation (v.uses u) (uses_of g u)
  pub tag_users : (t : List ℕ) → IsPermutation (v.tag_users t) (tag_users g t)
