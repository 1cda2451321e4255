use Rattle.std.proofs.Common.{◌≡◌, ℕ, List, [], Some, refl, sym, ap, ◌∙◌, subst}
use Rattle.std.specs.Prelude.{IsSome}
use Rattle.std.specs.Map.{lookup}
use Rattle.std.proofs.lemmas.Result.{on_ok_weaker, on_err_weaker}
use Rattle.std.proofs.lemmas.Map.Steps.{set_value_same}
use Rattle.kin_ids.specs.declared.ids.User.{User}
use Rattle.kin_ids.specs.Users.{same_tag}
use Rattle.kin_ids.specs.Parts.{with_member}
use Rattle.kin_store.specs.Changes.{with_users, kept_in}
use Rattle.kin_store.specs.Lists.{user_place}
use Rattle.kin_store.specs.Blocks.{BlockState, users_in}
use Rattle.kin_store.proofs.Puts.{kept-users, users-found, users-none}
use Rattle.kin_store.proofs.blocks.Block.add_tag_user.Goals as goal

pub returns-in-Some-clause-ok : goal.returns-in-Some-clause-ok
returns-in-Some-clause-ok c =
    let b : BlockState = record { rows = c.self.inside.rows.entries; tags = c.self.inside.tags.entries } in
    let new = c.put.new.self in
    let tags = (c.get_mut.follows.lender new).entries in
    let w = c.get_mut.follows.holds new in
    let there : IsSome (lookup (same_tag c.args.tag) b.tags) = rw (← c.in-Some.ensures.value) refl in
    let P : BlockState → Type 0 = λ t. kept_in (record b { tags = tags }) ≡ with_users (kept_in t) c.args.tag
    (with_member c.args.user (users_in t c.args.tag)) in
    on_ok_weaker c.put.result
    (λ (e : new ≡ with_member c.args.user c.in-Some.users.now). subst P c.self.view_is
    (kept-users b tags c.args.tag (Some new) ((w.3 there).0) _
    (e ∙ ap (λ (us : List User). with_member c.args.user us) (sym (users-found b c.args.tag c.in-Some.users.now c.in-Some.ensures.value)))))
    c.put.ensures.ok

pub returns-clause-ok : goal.returns-clause-ok
returns-clause-ok c =
    let b : BlockState = record { rows = c.self.inside.rows.entries; tags = c.self.inside.tags.entries } in
    let none : users_in b c.args.tag ≡ [] = users-none b c.args.tag c.in_default.ensures.value in
    let puts = rw c.get_mut.follows.holds-at-none at c.in_ok-insert.ensures.updates.0 in
    let P : BlockState → Type 0 = λ t. kept_in (record b { tags = c.insert.new.self.entries }) ≡ with_users (kept_in t) c.args.tag
    (with_member c.args.user (users_in t c.args.tag)) in
    let put : c.put_user.new.users ≡ with_member c.args.user (users_in b c.args.tag) =
    c.in_ok-put_user.ensures.ok ∙ ap (λ (us : List User). with_member c.args.user us) (c.new-users.ensures ∙ sym none) in
    subst P c.self.view_is (kept-users b c.insert.new.self.entries c.args.tag (Some c.in_ok-new.field-0) puts _ (c.in_ok-new.ensures ∙ put))

pub returns-in-Some-clause-err : goal.returns-in-Some-clause-err
returns-in-Some-clause-err c =
    let b : BlockState = record { rows = c.self.inside.rows.entries; tags = c.self.inside.tags.entries } in
    let new = c.put.new.self in
    let w = c.get_mut.follows.holds new in
    on_err_weaker c.put.result
    (λ (e : new ≡ c.in-Some.users.now). ap (λ (tags : List (List ℕ × List User)). record b { tags = tags })
    (w.0 ∙ rw e (set_value_same (same_tag c.args.tag) b.tags c.in-Some.users.now (sym c.in-Some.ensures.value))) ∙ c.self.view_is)
    c.put.ensures.err

pub put-requires : goal.put-requires
put-requires c =
    let b : BlockState = record { rows = c.self.inside.rows.entries; tags = c.self.inside.tags.entries } in
    let at = subst (λ (t : BlockState). c.args.at ≡ user_place (users_in t c.args.tag) c.args.user) (sym c.self.view_is) c.requires in
    subst (λ (us : List User). c.args.at ≡ user_place us c.args.user) (users-found b c.args.tag c.in-Some.users.now c.in-Some.ensures.value)
    at
