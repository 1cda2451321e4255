use Rattle.std.proofs.Common.{◌≡◌, ◌<◌, ℕ, List, length, sym, ap, ◌∙◌, subst}
use Rattle.std.proofs.lemmas.Result.{on_ok_weaker}
use Rattle.kin_ids.specs.declared.ids.User.{User}
use Rattle.kin_ids.specs.Parting.{tag_part}
use Rattle.kin_ids.specs.Parts.{with_member}
use Rattle.kin_store.specs.Changes.{with_users, kept_in, kept}
use Rattle.kin_store.specs.Lists.{user_place}
use Rattle.kin_store.specs.Blocks.{BlockState, users_in, slot_of}
use Rattle.kin_store.specs.State.{PartState, block_at, users_of, tag_slot}
use Rattle.kin_store.proofs.Sets.{kept-users, blocks-users}
use Rattle.kin_store.proofs.stores.Store.add_tag_user.Goals as goal

pub add_tag_user-requires-clause-at : goal.add_tag_user-requires-clause-at
add_tag_user-requires-clause-at c =
    let s : PartState = record { part = c.self.inside.part.0; parts = c.self.inside.parts; blocks = c.self.inside.spine } in
    let k = c.tag_slot-slot.result in
    let within : k < length s.blocks = subst (λ (t : PartState). k < length t.blocks) (sym c.self.view_is) c.tag_slot-slot.ensures.within in
    let at : k ≡ tag_slot s c.args.tag = subst (λ (t : PartState). k ≡ tag_slot t c.args.tag)
    (sym c.self.view_is) c.tag_slot-slot.ensures.slot in
    let old : users_in (block_at s k) c.args.tag ≡ users_of s c.args.tag = ap (λ (j : ℕ). users_in (block_at s j) c.args.tag) at in
    let here : users_in (block_at s k) c.args.tag ≡ users_of c.args.self.now c.args.tag = old
    ∙ ap (λ (t : PartState). users_of t c.args.tag) c.self.view_is in
    subst (λ (x : List User). c.args.at ≡ user_place x c.args.user) (sym here) c.requires.at

pub invariant_of-self : goal.invariant_of-self
invariant_of-self c =
    let s : PartState = record { part = c.self.inside.part.0; parts = c.self.inside.parts; blocks = c.self.inside.spine } in
    let k = c.tag_slot-slot.result in
    let n : List BlockState = c.add_tag_user.new.self in
    let b : BlockState = slot_of n k in
    let within : k < length s.blocks = subst (λ (t : PartState). k < length t.blocks) (sym c.self.view_is) c.tag_slot-slot.ensures.within in
    let at : k ≡ tag_slot s c.args.tag = subst (λ (t : PartState). k ≡ tag_slot t c.args.tag)
    (sym c.self.view_is) c.tag_slot-slot.ensures.slot in
    let old : users_in (block_at s k) c.args.tag ≡ users_of s c.args.tag = ap (λ (j : ℕ). users_in (block_at s j) c.args.tag) at in
    let here : users_in (block_at s k) c.args.tag ≡ users_of c.args.self.now c.args.tag = old
    ∙ ap (λ (t : PartState). users_of t c.args.tag) c.self.view_is in
    let home : tag_part s.parts c.args.tag ≡ s.part = subst (λ (t : PartState). tag_part t.parts c.args.tag ≡ t.part)
    (sym c.self.view_is) c.requires.home in
    blocks-users s k n c.self.invariant within c.add_tag_user.ensures.others c.args.tag (with_member c.args.user (users_of s c.args.tag))
    c.add_tag_user.result at home
    (on_ok_weaker c.add_tag_user.result (λ (e : kept_in b ≡ with_users (kept_in (block_at s k)) c.args.tag
    (with_member c.args.user (users_in (block_at s k) c.args.tag))). e
    ∙ ap (λ (x : List User). with_users (kept_in (block_at s k)) c.args.tag (with_member c.args.user x)) old) c.add_tag_user.ensures.ok)
    c.add_tag_user.ensures.err

pub returns-clause-ok : goal.returns-clause-ok
returns-clause-ok c =
    let s : PartState = record { part = c.self.inside.part.0; parts = c.self.inside.parts; blocks = c.self.inside.spine } in
    let k = c.tag_slot-slot.result in
    let n : List BlockState = c.add_tag_user.new.self in
    let b : BlockState = slot_of n k in
    let within : k < length s.blocks = subst (λ (t : PartState). k < length t.blocks) (sym c.self.view_is) c.tag_slot-slot.ensures.within in
    let at : k ≡ tag_slot s c.args.tag = subst (λ (t : PartState). k ≡ tag_slot t c.args.tag)
    (sym c.self.view_is) c.tag_slot-slot.ensures.slot in
    let old : users_in (block_at s k) c.args.tag ≡ users_of s c.args.tag = ap (λ (j : ℕ). users_in (block_at s j) c.args.tag) at in
    let here : users_in (block_at s k) c.args.tag ≡ users_of c.args.self.now c.args.tag = old
    ∙ ap (λ (t : PartState). users_of t c.args.tag) c.self.view_is in
    let P : PartState → Type 0 = λ (t : PartState). kept (record s { blocks = n }) ≡ with_users (kept t) c.args.tag
    (with_member c.args.user (users_of t c.args.tag)) in
    on_ok_weaker c.add_tag_user.result (λ (e : kept_in b ≡ with_users (kept_in (block_at s k)) c.args.tag
    (with_member c.args.user (users_in (block_at s k) c.args.tag))).
    subst P c.self.view_is (ap (λ (l : List BlockState). kept (record s { blocks = l })) c.add_tag_user.ensures.others
    ∙ kept-users s k b within c.args.tag (with_member c.args.user (users_of s c.args.tag)) at
    (e ∙ ap (λ (x : List User). with_users (kept_in (block_at s k)) c.args.tag (with_member c.args.user x)) old)))
    c.add_tag_user.ensures.ok
