-- What an epoch's columns show.
use Rattle.kin_rules.specs.declared.results.EpochResult.TheInside.{Inside}
use Rattle.kin_rules.specs.Columns.{columns_of}
use Rattle.kin_rules.specs.Results.{ResultView}

-- the values that stand in the vectors and columns
abbrev pub shown : Inside → ResultView
shown a = record {
  epoch = a.epoch.0;
  users = a.users.items;
  ins = a.ins.items;
  outs = a.outs.items;
  said = a.said.items;
  ranks = a.ranks.items;
  tags = a.tags.items;
  tag_users = a.tag_users.items;
  expos = a.expos.items;
  hops = columns_of a.hops.items;
  close = columns_of a.close.items;
}
