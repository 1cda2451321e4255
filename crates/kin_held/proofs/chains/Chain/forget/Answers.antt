use Rattle.std.proofs.Common.{◌≡◌, sym, subst, rules}
use Rattle.kin_held.specs.Chains.{ChainView, pieces_past}
use Rattle.kin_held.specs.Takes.{IsPlace}
use Rattle.kin_held.proofs.Cuts.{IsRun-pieces_past}
use Rattle.kin_held.proofs.chains.Chain.forget.Goals as goal

pub invariant_of-self : goal.invariant_of-self
invariant_of-self c =
    let old = c.self.inside in
    let left : c.drop_front.new.self.items ≡ pieces_past c.args.to old.held.items = search rules in
    let place = subst (λ (v : ChainView). IsPlace v c.args.to) (sym c.self.view_is) c.requires in
    record {
      run = rw left (IsRun-pieces_past old.floor c.args.to old.top old.held.items c.self.invariant.run place);
      formed = c.self.invariant.formed;
      ascending = c.self.invariant.ascending;
      settled = c.self.invariant.settled;
    }

pub returns-clause-chain : goal.returns-clause-chain
returns-clause-chain c = invariant_of-self c
