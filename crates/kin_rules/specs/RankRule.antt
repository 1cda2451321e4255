-- Rank as a rule of layers.
use Rattle.std.specs.Prelude.{◌≡◌, ◌+◌, ◌/◌, ◌^◌, ◌==◌, min, ℕ, true}
use Rattle.std.specs.List.{sum_by}
use Rattle.kin_ids.specs.declared.ids.User.{User}
use Rattle.kin_ids.specs.Graph.{Graph}
use Rattle.kin_rules.specs.declared.pull_rules.Input.{Input}
use Rattle.kin_rules.specs.declared.pull_rules.Side.TheVariants as side
use Rattle.kin_rules.specs.Layers.{LayerRule, layer_of}
use Rattle.kin_rules.specs.Ranks.{rank_at}

-- what a user that follows so many gives each of them, at a rank of this value; nothing where it follows nobody
abbrev pub share_among : ℕ → ℕ → ℕ
share_among following value = (1000000 + value / 2) / following

abbrev pub share_of : Input ℕ → ℕ
share_of i = share_among i.facts.following i.value

-- the shares of the inputs together, at most 10^15; own facts don't count, and an input counts by its share
abbrev pub rank_rule : LayerRule ℕ
rank_rule = record {
  side = side.In;
  first = 0;
  next = λ own inputs. min (10 ^ 15) (sum_by share_of inputs);
  own_alike = λ a b. true;
  alike = λ a v b w. share_among a.following v == share_among b.following w;
}

-- each layer of the rule is the rank in that layer
abbrev pub RanksAreLayers : Type 0
RanksAreLayers = (g : Graph) (r : ℕ) (x : User) → layer_of rank_rule g r x ≡ rank_at g r x
