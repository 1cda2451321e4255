-- What follows and unfollows leave of the edges of a graph.
use Rattle.std.specs.Prelude.{ℕ, ◌≡◌, ◌&&◌, ◌||◌, Bool, true, false, List, [], ◌∷◌, Option, Some, None, if◌then◌else◌, map}
use Rattle.std.specs.List.{list_any, find}
use Rattle.std.specs.Option.{unwrap_or, option_or, option_map}
use Rattle.kin_ids.specs.Types.{User, Place, Record}
use Rattle.kin_ids.specs.declared.ops.Record.TheVariants as record_kind
use Rattle.kin_ids.specs.Users.{same_user, same_tag, IsAscending}
use Rattle.kin_ids.specs.Graph.{Graph, empty_graph, is_edge, is_mention, is_use, outs, ins, mentions_of, mentioners_of, uses_of, tag_users}
use Rattle.kin_ids.specs.Order.{Entry, folded}

-- whether the edge from u to v is present
abbrev pub is_present : Graph → User → User → Bool
is_present g u v = list_any (λ e. is_edge u v e && e.present) g.edges

-- whether it was ever added
abbrev pub was_added : Graph → User → User → Bool
was_added g u v = list_any (is_edge u v) g.edges

-- where it was first added
abbrev pub added_at : Graph → User → User → Option Place
added_at g u v = option_map (λ e. e.added) (find (is_edge u v) g.edges)

-- what a record says of the edge from u to v: that it is present from here on, or no longer
abbrev pub word : User → User → Record → Option Bool
word u v (record_kind.Follow a b) = if same_user u a && same_user v b then Some true else None
word u v (record_kind.Unfollow a b) = if same_user u a && same_user v b then Some false else None
word u v (record_kind.Tweet a items) = None
word u v record_kind.Bad = None

-- whether a record is a follow of v by u
abbrev pub is_follow : User → User → Record → Bool
is_follow u v r = unwrap_or (word u v r) false

-- what the last follow or unfollow of the edge among these says
abbrev pub last_word : User → User → List Entry → Option Bool
last_word u v [] = None
last_word u v (x ∷ xs) = option_or (last_word u v xs) (word u v x.content)

-- the place of the first follow
abbrev pub first_follow : User → User → List Entry → Option Place
first_follow u v xs = option_map (λ x. x.place) (find (λ x. is_follow u v x.content) xs)

-- An edge is present exactly where the last follow or unfollow of it is a follow. It was ever added exactly where there is a
-- follow of it, and first at the place of the first one.
pub record IsTold (xs : List Entry) (u v : User) : Type 0 where
  pub present : is_present (folded empty_graph xs) u v ≡ unwrap_or (last_word u v xs) false
  pub added : was_added (folded empty_graph xs) u v ≡ list_any (λ x. is_follow u v x.content) xs
  pub place : added_at (folded empty_graph xs) u v ≡ first_follow u v xs

abbrev pub EdgeLaw : Type 0
EdgeLaw = (xs : List Entry) (u v : User) → IsTold xs u v

-- no element of a list is the same as a later one
abbrev pub IsOnce : {A : Type 0} → (A → A → Bool) → List A → Type 0
IsOnce same [] = Unit {0}
IsOnce same (x ∷ xs) = (list_any (same x) xs ≡ false) × IsOnce same xs

-- each edge, mention and first use stands once in the graph
pub record IsSound (g : Graph) : Type 0 where
  pub edges : IsOnce (λ e. is_edge e.start e.end) g.edges
  pub mentions : IsOnce (λ m. is_mention m.start m.end) g.mentions
  pub uses : IsOnce (λ x. is_use x.user x.tag) g.uses

abbrev pub SoundLaw : Type 0
SoundLaw = (g : Graph) (xs : List Entry) → IsSound g → IsSound (folded g xs)

-- what later records change of any graph: where they say nothing of an edge it stays as it was
pub record IsToldOn (g : Graph) (xs : List Entry) (u v : User) : Type 0 where
  pub present : is_present (folded g xs) u v ≡ unwrap_or (last_word u v xs) (is_present g u v)
  pub added : was_added (folded g xs) u v ≡ (was_added g u v || list_any (λ x. is_follow u v x.content) xs)
  pub place : added_at (folded g xs) u v ≡ option_or (added_at g u v) (first_follow u v xs)

abbrev pub ContinueLaw : Type 0
ContinueLaw = (g : Graph) (xs : List Entry) (u v : User) → IsSound g → IsToldOn g xs u v

-- where the records' places ascend so do the edges'
abbrev pub AscendLaw : Type 0
AscendLaw = (xs : List Entry) → IsAscending (map (λ x. x.place) xs) → IsAscending (map (λ e. e.added) (folded empty_graph xs).edges)

-- the lists of halves, mentions, uses and users of tags have each user and each tag once
pub record AreOnce (g : Graph) : Type 0 where
  pub outs : (u : User) → IsOnce (λ x y. same_user x.other y.other) (outs g u)
  pub ins : (u : User) → IsOnce (λ x y. same_user x.other y.other) (ins g u)
  pub mentions : (u : User) → IsOnce same_user (mentions_of g u)
  pub mentioners : (u : User) → IsOnce same_user (mentioners_of g u)
  pub uses : (u : User) → IsOnce (λ x y. same_tag x.tag y.tag) (uses_of g u)
  pub tag_users : (t : List ℕ) → IsOnce same_user (tag_users g t)

abbrev pub ListsLaw : Type 0
ListsLaw = (g : Graph) → IsSound g → AreOnce g

-- halves ascend by the places of their edges
abbrev pub HalvesLaw : Type 0
HalvesLaw = (g : Graph) (u : User) → IsAscending (map (λ e. e.added) g.edges) →
    IsAscending (map (λ h. h.added) (outs g u)) × IsAscending (map (λ h. h.added) (ins g u))
