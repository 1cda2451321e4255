use Rattle.std.proofs.Common.{ℕ, Option, Some, Result, sym, subst}
use Rattle.kin_ids.specs.Users.{user_cmp}
use Rattle.kin_rules.specs.Columns.{column_of, SetsValue}
use Rattle.kin_rules.specs.Spots.{IsSpot}
use Rattle.kin_rules.proofs.ColumnReads.{set-there, set-away}
use Rattle.kin_rules.proofs.columns.Column.set.Goals as goal

pub returns-in-Ok-default-clause-set : goal.returns-in-Ok-default-clause-set
returns-in-Ok-default-clause-set c =
    set-there c.args.users.now (column_of c.args.self.now) c.args.u c.in-Ok-default.at c.args.value
    (subst (λ (r : Result ℕ ℕ). IsSpot user_cmp c.args.users.now c.args.u r) c.in-Ok-default.is-0 c.requires.spot) c.requires.users

pub returns-in_ok-insert-in-Err-Some-clause-set : goal.returns-in_ok-insert-in-Err-Some-clause-set
returns-in_ok-insert-in-Err-Some-clause-set c =
    let none = (subst (λ (r : Result ℕ ℕ). IsSpot user_cmp c.args.users.now c.args.u r) c.in-Err-Some.is-0 c.requires.spot).none in
    let sets = set-away c.args.users.now (column_of c.args.self.now) c.args.u (Some c.in-Err-Some.value) c.insert.new.self.entries none c.in_ok-insert-in-Err-Some.ensures.updates.0 in
    subst (λ (v : Option ℕ). SetsValue c.args.users.now (column_of c.args.self.now) c.args.u v (record { values = c.args.self.now.values.items; others = c.insert.new.self.entries })) (sym c.in-Err-Some.is-1) sets

pub returns-in-Err-None-clause-set : goal.returns-in-Err-None-clause-set
returns-in-Err-None-clause-set c =
    let none = (subst (λ (r : Result ℕ ℕ). IsSpot user_cmp c.args.users.now c.args.u r) c.in-Err-None.is-0 c.requires.spot).none in
    let sets = set-away c.args.users.now (column_of c.args.self.now) c.args.u Rattle.std.proofs.Common.None c.remove.new.self.entries none c.remove.ensures.updates.0 in
    subst (λ (v : Option ℕ). SetsValue c.args.users.now (column_of c.args.self.now) c.args.u v (record { values = c.args.self.now.values.items; others = c.remove.new.self.entries })) (sym c.in-Err-None.is-1) sets
