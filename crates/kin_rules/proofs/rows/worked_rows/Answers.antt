use Rattle.std.proofs.Common.{refl}
use Rattle.kin_rules.specs.Costs.{least_cost}
use Rattle.kin_rules.proofs.rows.worked_rows.Goals as goal

pub returns-clause-limits : goal.returns-clause-limits
returns-clause-limits c = record { in_counts = refl; out_counts = refl; ranks = refl; tags = refl; tag_users = refl; exposed = refl }

pub returns-clause-chain : goal.returns-clause-chain
unfolding least_cost
returns-clause-chain c = record { long = refl; long_top = refl; short = refl; short_top = refl; cut = refl }

pub returns-clause-uses : goal.returns-clause-uses
returns-clause-uses c = record { tag_users = refl; exposed = refl }

pub returns-clause-ring : goal.returns-clause-ring
returns-clause-ring c = record { layers = refl; ranks = refl; in_counts = refl; out_counts = refl }

pub returns-clause-detour : goal.returns-clause-detour
unfolding least_cost
returns-clause-detour c = record { hops = refl; no_hops = refl; close = refl; no_close = refl }

pub returns-clause-launch : goal.returns-clause-launch
unfolding least_cost
returns-clause-launch c = record {
  in_counts = refl;
  out_counts = refl;
  said = refl;
  tag_users = refl;
  ranks = refl;
  exposed = refl;
  hops = refl;
  close = refl;
}
