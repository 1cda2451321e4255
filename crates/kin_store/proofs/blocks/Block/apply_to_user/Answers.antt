use Rattle.std.proofs.Common.{◌≡◌, ◌<◌, ◌^◌, List, Some, refl, sym, ap, ◌∙◌, subst}
use Rattle.std.specs.Prelude.{IsSome}
use Rattle.std.specs.Map.{lookup}
use Rattle.std.proofs.lemmas.Result.{on_ok_weaker, on_err_weaker}
use Rattle.std.proofs.lemmas.Map.Steps.{set_value_same}
use Rattle.kin_ids.specs.declared.ids.User.{User}
use Rattle.kin_ids.specs.Users.{same_user}
use Rattle.kin_store.specs.Rows.{UserRow, no_row, row_applied}
use Rattle.kin_store.specs.Changes.{with_row, kept_in}
use Rattle.kin_store.specs.Hints.{row_place}
use Rattle.kin_store.specs.Blocks.{BlockState, row_in}
use Rattle.kin_store.proofs.Puts.{kept-row, row-found, row-none}
use Rattle.kin_store.proofs.blocks.Block.apply_to_user.Goals as goal

pub apply-requires-clause-at : goal.apply-requires-clause-at
apply-requires-clause-at c =
    let b : BlockState = record { rows = c.self.inside.rows.entries; tags = c.self.inside.tags.entries } in
    let at = subst (λ (t : BlockState). c.args.at ≡ row_place (row_in t c.args.user) c.args.op.now) (sym c.self.view_is) c.requires.at in
    subst (λ (r : UserRow). c.args.at ≡ row_place r c.args.op.now) (row-found b c.args.user c.in-Some.vertex.now c.in-Some.ensures.value) at

pub apply-requires-clause-said : goal.apply-requires-clause-said
apply-requires-clause-said c =
    let b : BlockState = record { rows = c.self.inside.rows.entries; tags = c.self.inside.tags.entries } in
    let said = subst (λ (t : BlockState). (row_applied c.args.place (row_in t c.args.user) c.args.op.now).said < 2 ^ 64)
    (sym c.self.view_is) c.requires.said in
    subst (λ (r : UserRow). (row_applied c.args.place r c.args.op.now).said < 2 ^ 64)
    (row-found b c.args.user c.in-Some.vertex.now c.in-Some.ensures.value) said

pub returns-in-Some-clause-ok : goal.returns-in-Some-clause-ok
returns-in-Some-clause-ok c =
    let b : BlockState = record { rows = c.self.inside.rows.entries; tags = c.self.inside.tags.entries } in
    let new = c.apply.new.self in
    let rows = (c.get_mut.follows.lender new).entries in
    let w = c.get_mut.follows.holds new in
    let there : IsSome (lookup (same_user c.args.user) b.rows) = rw (← c.in-Some.ensures.value) refl in
    let P : BlockState → Type 0 = λ t. kept_in (record b { rows = rows }) ≡ with_row (kept_in t) c.args.user
    (row_applied c.args.place (row_in t c.args.user) c.args.op.now) in
    on_ok_weaker c.apply.result
    (λ (e : new ≡ row_applied c.args.place c.in-Some.vertex.now c.args.op.now). subst P c.self.view_is
    (kept-row b rows c.args.user (Some new) ((w.3 there).0) _
    (e ∙ ap (λ (r : UserRow). row_applied c.args.place r c.args.op.now)
    (sym (row-found b c.args.user c.in-Some.vertex.now c.in-Some.ensures.value)))))
    c.apply.ensures.ok

pub returns-clause-ok : goal.returns-clause-ok
returns-clause-ok c =
    let b : BlockState = record { rows = c.self.inside.rows.entries; tags = c.self.inside.tags.entries } in
    let none : row_in b c.args.user ≡ no_row = row-none b c.args.user c.in_default.ensures.value in
    let puts = rw c.get_mut.follows.holds-at-none at c.in_ok-insert.ensures.updates.0 in
    let new : c.apply-2.new.self ≡ row_applied c.args.place (row_in b c.args.user) c.args.op.now =
    rw (none, ← c.new-row.ensures) c.in_ok-apply.ensures.ok in
    let P : BlockState → Type 0 = λ t. kept_in (record b { rows = c.insert.new.self.entries }) ≡ with_row (kept_in t) c.args.user
    (row_applied c.args.place (row_in t c.args.user) c.args.op.now) in
    subst P c.self.view_is (kept-row b c.insert.new.self.entries c.args.user (Some c.in_ok-new.field-0) puts _ (c.in_ok-new.ensures ∙ new))

pub returns-in-Some-clause-err : goal.returns-in-Some-clause-err
returns-in-Some-clause-err c =
    let b : BlockState = record { rows = c.self.inside.rows.entries; tags = c.self.inside.tags.entries } in
    let new = c.apply.new.self in
    let w = c.get_mut.follows.holds new in
    on_err_weaker c.apply.result
    (λ (e : new ≡ c.in-Some.vertex.now). ap (λ (rows : List (User × UserRow)). record b { rows = rows })
    (w.0 ∙ rw e (set_value_same (same_user c.args.user) b.rows c.in-Some.vertex.now (sym c.in-Some.ensures.value))) ∙ c.self.view_is)
    c.apply.ensures.err
