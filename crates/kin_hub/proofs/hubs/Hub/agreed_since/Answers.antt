use Rattle.std.proofs.Common.{◌≡◌, subst}
use Rattle.std.specs.Result.{IfOk}
use Rattle.kin_hub.specs.Cores.{chain_of, stamps_between}
use Rattle.kin_hub.specs.Hubs.{HubView, agreed_in}
use Rattle.kin_hub.proofs.Goings.{since-result}
use Rattle.kin_hub.proofs.hubs.Hub.agreed_since.Goals as goal

pub returns : goal.returns
returns c = since-result c.args.self.now c.args.i.0 c.args.from c.requires.node c.requires.after_cut c.requires.ahead c.agreed_since.result
    (subst (λ (h : HubView). IfOk c.agreed_since.result (λ stamps. stamps ≡ stamps_between (chain_of h.core 0 c.args.i.0) c.args.from
    (agreed_in h c.args.i.0))) c.self.view_is c.agreed_since.ensures)
