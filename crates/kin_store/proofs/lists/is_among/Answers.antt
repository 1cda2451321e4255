use Rattle.std.proofs.Common.{rules}
use Rattle.kin_ids.specs.Users.{same_user}
use Rattle.kin_store.proofs.Places.{list_any-position}
use Rattle.kin_store.proofs.lists.is_among.Goals as goal

pub returns : goal.returns
returns c = let any = list_any-position (same_user c.args.user) c.args.users.now in search (rules, any)
