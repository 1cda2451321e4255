-- One partition's part of a graph, and what operations do to it.
use Rattle.std.specs.Prelude.{ℕ, ◌+◌, ◌≡◌, ◌==◌, Bool, true, false, List, [], ◌∷◌, ◌++◌, IsPermutation, if◌then◌else◌}
use Rattle.std.specs.List.{list_any}
use Rattle.kin_ids.specs.Types.{User, Place, Half, Use, Op, Numbered}
use Rattle.kin_ids.specs.declared.ops.Op.TheVariants as op
use Rattle.kin_ids.specs.Users.{same_user, same_tag, has_user}
use Rattle.kin_ids.specs.Parting.{user_part, tag_part}
use Rattle.kin_ids.specs.Graph.{Graph, outs, ins, mentions_of, mentioners_of, said, uses_of, tag_users}

-- What a part hands out of its users and tags.
pub record PartView : Type 0 where
  pub out : User → List Half
  pub inn : User → List Half
  pub mentions : User → List User
  pub mentioners : User → List User
  pub said : User → ℕ
  pub uses : User → List Use
  pub tag_users : List ℕ → List User

-- a list for those who live here, and nothing for the others
abbrev pub if_here : {A : Type 0} → Bool → List A → List A
if_here true xs = xs
if_here false xs = []

abbrev pub count_here : Bool → ℕ → ℕ
count_here true n = n
count_here false n = 0

-- The part of a graph on partition p: the follow halves of its users in the order of first adding; their mentions, mentioners
-- and uses, and the users of its tags, each once in any order; and how often its users were mentioned. Others have nothing there.
pub record IsPart (parts p : ℕ) (g : Graph) (v : PartView) : Type 0 where
  pub out : (u : User) → v.out u ≡ if_here (user_part parts u == p) (outs g u)
  pub inn : (u : User) → v.inn u ≡ if_here (user_part parts u == p) (ins g u)
  pub mentions : (u : User) → IsPermutation (v.mentions u) (if_here (user_part parts u == p) (mentions_of g u))
  pub mentioners : (u : User) → IsPermutation (v.mentioners u) (if_here (user_part parts u == p) (mentioners_of g u))
  pub said : (u : User) → v.said u ≡ count_here (user_part parts u == p) (said g u)
  pub uses : (u : User) → IsPermutation (v.uses u) (if_here (user_part parts u == p) (uses_of g u))
  pub tag_users : (t : List ℕ) → IsPermutation (v.tag_users t) (if_here (tag_part parts t == p) (tag_users g t))

-- a half is present from here on; where it was never added, its place is this one
abbrev pub with_half : User → Place → List Half → List Half
with_half v at [] = record { other = v; present = true; added = at } ∷ []
with_half v at (x ∷ xs) = if same_user v x.other then record x { present = true } ∷ xs else x ∷ with_half v at xs

abbrev pub without_half : User → List Half → List Half
without_half v [] = []
without_half v (x ∷ xs) = if same_user v x.other then record x { present = false } ∷ xs else x ∷ without_half v xs

abbrev pub with_member : User → List User → List User
with_member w us = if has_user us w then us else us ++ w ∷ []

abbrev pub with_first : List ℕ → Place → List Use → List Use
with_first t at xs = if list_any (λ x. same_tag t x.tag) xs then xs else xs ++ record { tag = t; first = at } ∷ []

-- a function changed at one user, and at one tag
abbrev pub changed : {A : Type 0} → (User → A) → User → A → User → A
changed f u a x = if same_user u x then a else f x

abbrev pub changed_tag : {A : Type 0} → (List ℕ → A) → List ℕ → A → List ℕ → A
changed_tag f t a x = if same_tag t x then a else f x

-- what an operation at a place does to a part
abbrev pub op_applied : Place → PartView → Op → PartView
op_applied at v (op.AddOut u w) = record v { out = changed v.out u (with_half w at (v.out u)) }
op_applied at v (op.AddIn w u) = record v { inn = changed v.inn w (with_half u at (v.inn w)) }
op_applied at v (op.DropOut u w) = record v { out = changed v.out u (without_half w (v.out u)) }
op_applied at v (op.DropIn w u) = record v { inn = changed v.inn w (without_half u (v.inn w)) }
op_applied at v (op.MentionOut u w) = record v { mentions = changed v.mentions u (with_member w (v.mentions u)) }
op_applied at v (op.MentionIn w u) = record v { mentioners = changed v.mentioners w (with_member u (v.mentioners w)) }
op_applied at v (op.Said w) = record v { said = changed v.said w (v.said w + 1) }
op_applied at v (op.Use u t) = record v { uses = changed v.uses u (with_first t at (v.uses u)) }
op_applied at v (op.TagUse t u) = record v { tag_users = changed_tag v.tag_users t (with_member u (v.tag_users t)) }

-- numbered operations of a node in an epoch, in turn
abbrev pub ops_applied : ℕ → ℕ → PartView → List Numbered → PartView
ops_applied e i v [] = v
ops_applied e i v (x ∷ xs) = ops_applied e i (op_applied (record { epoch = record { 0 = e }; ingest = record { 0 = i }; number = x.number }) v x.op) xs
