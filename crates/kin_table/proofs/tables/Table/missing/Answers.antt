use Rattle.std.proofs.Common.{◌∙◌, sym}
use Rattle.kin_table.proofs.Reports.{missing-is}
use Rattle.kin_table.proofs.tables.Table.missing.Goals as goal

pub returns-in_err-at-clause-missing : goal.returns-in_err-at-clause-missing
returns-in_err-at-clause-missing c = rw c.from_residual.ensures (sym (missing-is c.args.self.now) ∙ (sym c.unreported.ensures.place ∙ c.in_err-at.was))

pub returns-clause-missing : goal.returns-clause-missing
returns-clause-missing c = sym (missing-is c.args.self.now) ∙ (sym c.unreported.ensures.place ∙ c.in_ok-at.was)
