-- Rules of layers: what they see, what is asked of them, and the layers of the users.
use Rattle.std.specs.Prelude.{◌≡◌, ℕ, zero, suc, Bool, true, List, [], ◌∷◌, map, get_or, IsPermutation}
use Rattle.kin_ids.specs.declared.ids.User.{User}
use Rattle.kin_ids.specs.Graph.{Graph, uses_of}
use Rattle.kin_rules.specs.declared.pull_rules.Side.{Side}
use Rattle.kin_rules.specs.declared.pull_rules.Side.TheVariants as side
use Rattle.kin_rules.specs.declared.pull_rules.Facts.{Facts}
use Rattle.kin_rules.specs.declared.pull_rules.Input.{Input}
use Rattle.kin_rules.specs.declared.pull_rules.Lent.{Lent}
use Rattle.kin_rules.specs.Counts.{out_count, followers, followees}

-- A rule of layers: on which side of a user its inputs stand, the value of layer 0, what a layer makes of a user's own facts and of
-- its inputs one layer lower, which own facts count as the same, and which inputs do.
pub record LayerRule (V : Type 0) : Type 0 where
  pub side : Side
  pub first : V
  pub next : Facts → List (Input V) → V
  pub own_alike : Facts → Facts → Bool
  pub alike : Facts → V → Facts → V → Bool

-- what a rule of layers sees: whose values go into a user's, and what is known of each user beside its edges
pub record LayerNet : Type 0 where
  pub inputs : User → List User
  pub facts : User → Facts

-- these users as inputs, with such facts and values
abbrev pub inputs_of : {V : Type 0} → (User → Facts) → (User → V) → List User → List (Input V)
inputs_of facts value ys = map (λ y. record { facts = facts y; value = value y }) ys

-- a layer of a user: the first value, or what the rule makes of its inputs one layer lower
abbrev pub layer : {V : Type 0} → LayerRule V → LayerNet → ℕ → User → V
layer r net zero x = r.first
layer r net (suc j) x = r.next (net.facts x) (inputs_of net.facts (layer r net j) (net.inputs x))

-- what a graph knows of a user beside its edges
abbrev pub facts_of : Graph → User → Facts
facts_of g u = record { user = u; following = out_count g u; uses = uses_of g u }

-- the users who follow u now, or whom u follows now
abbrev pub neighbours : Side → Graph → User → List User
neighbours side.In g u = followers g u
neighbours side.Out g u = followees g u

abbrev pub net_of : Side → Graph → LayerNet
net_of s g = record { inputs = neighbours s g; facts = facts_of g }

-- a layer of a user of a graph
abbrev pub layer_of : {V : Type 0} → LayerRule V → Graph → ℕ → User → V
layer_of r g j x = layer r (net_of r.side g) j x

-- facts of a user that follows nobody and has used no tag
abbrev pub blank : User → Facts
blank u = record { user = u; following = 0; uses = [] }

-- inputs of the same users in turn, each alike
abbrev pub AreAlikeInputs : {V : Type 0} → LayerRule V → List (Input V) → List (Input V) → Type 0
AreAlikeInputs r [] [] = Unit {0}
AreAlikeInputs r [] (y ∷ ys) = ⊥
AreAlikeInputs r (x ∷ xs) [] = ⊥
AreAlikeInputs r (x ∷ xs) (y ∷ ys) = (x.facts.user ≡ y.facts.user) × (r.alike x.facts x.value y.facts y.value ≡ true) × AreAlikeInputs r xs ys

-- facts that differ in the order of the uses alone
pub record AreSameFacts (a b : Facts) : Type 0 where
  pub user : a.user ≡ b.user
  pub following : a.following ≡ b.following
  pub uses : IsPermutation a.uses b.uses

-- inputs in turn, which differ in the order of their uses alone
abbrev pub AreSameInputs : {V : Type 0} → List (Input V) → List (Input V) → Type 0
AreSameInputs [] [] = Unit {0}
AreSameInputs [] (y ∷ ys) = ⊥
AreSameInputs (x ∷ xs) [] = ⊥
AreSameInputs (x ∷ xs) (y ∷ ys) = AreSameFacts x.facts y.facts × (x.value ≡ y.value) × AreSameInputs xs ys

-- What is asked of a rule of layers: alike own facts and alike inputs give the same value; neither the order of the inputs nor that
-- of the uses counts; an input is like itself; and who has no inputs, follows nobody and has used no tag has the first value.
pub record IsLayerRule {V : Type 0} (r : LayerRule V) : Type 0 where
  pub own : (a b : Facts) (xs : List (Input V)) → r.own_alike a b ≡ true → r.next a xs ≡ r.next b xs
  pub inputs : (a : Facts) (xs ys : List (Input V)) → AreAlikeInputs r xs ys → r.next a xs ≡ r.next a ys
  pub input_order : (a : Facts) (xs ys : List (Input V)) → IsPermutation xs ys → r.next a xs ≡ r.next a ys
  pub use_order : (a b : Facts) (xs ys : List (Input V)) → AreSameFacts a b → AreSameInputs xs ys → r.next a xs ≡ r.next b ys
  pub same : (a : Facts) (v : V) → r.alike a v a v ≡ true
  pub blank : (u : User) → r.next (blank u) [] ≡ r.first

-- what is lent, as inputs
abbrev pub lent : {V : Type 0} → List (Lent V) → List (Input V)
lent is = map (λ i. record { facts = i.facts.now; value = i.value.now }) is

-- the shares of these inputs are those at these places
abbrev pub AreShares : {V : Type 0} → (Facts → V → ℕ) → List (Input V) → List ℕ → List ℕ → Type 0
AreShares share is shares ends = map (λ i. share i.facts i.value) is ≡ map (λ k. get_or shares k 0) ends
