use Rattle.std.proofs.Common.{◌≡◌, ◌<◌, ◌^◌, ℕ, List, length, sym, ap, ◌∙◌, subst}
use Rattle.std.proofs.lemmas.Result.{on_ok_weaker}
use Rattle.kin_ids.specs.Parting.{user_part}
use Rattle.kin_store.specs.Rows.{UserRow, row_applied}
use Rattle.kin_store.specs.Changes.{with_row, kept_in, kept}
use Rattle.kin_store.specs.Hints.{row_place}
use Rattle.kin_store.specs.Blocks.{BlockState, row_in, slot_of}
use Rattle.kin_store.specs.State.{PartState, block_at, row_of, user_slot}
use Rattle.kin_store.proofs.Sets.{kept-row, blocks-row}
use Rattle.kin_store.proofs.stores.Store.apply_to_user.Goals as goal

pub apply_to_user-requires-clause-at : goal.apply_to_user-requires-clause-at
apply_to_user-requires-clause-at c =
    let s : PartState = record { part = c.self.inside.part.0; parts = c.self.inside.parts; blocks = c.self.inside.spine } in
    let k = c.user_slot-slot.result in
    let within : k < length s.blocks = subst (λ (t : PartState). k < length t.blocks)
    (sym c.self.view_is) c.user_slot-slot.ensures.within in
    let at : k ≡ user_slot s c.args.user = subst (λ (t : PartState). k ≡ user_slot t c.args.user)
    (sym c.self.view_is) c.user_slot-slot.ensures.slot in
    let old : row_in (block_at s k) c.args.user ≡ row_of s c.args.user = ap (λ (j : ℕ). row_in (block_at s j) c.args.user) at in
    let here : row_in (block_at s k) c.args.user ≡ row_of c.args.self.now c.args.user = old
    ∙ ap (λ (t : PartState). row_of t c.args.user) c.self.view_is in
    subst (λ (x : UserRow). c.args.at ≡ row_place x c.args.op.now) (sym here) c.requires.at

pub apply_to_user-requires-clause-said : goal.apply_to_user-requires-clause-said
apply_to_user-requires-clause-said c =
    let s : PartState = record { part = c.self.inside.part.0; parts = c.self.inside.parts; blocks = c.self.inside.spine } in
    let k = c.user_slot-slot.result in
    let within : k < length s.blocks = subst (λ (t : PartState). k < length t.blocks)
    (sym c.self.view_is) c.user_slot-slot.ensures.within in
    let at : k ≡ user_slot s c.args.user = subst (λ (t : PartState). k ≡ user_slot t c.args.user)
    (sym c.self.view_is) c.user_slot-slot.ensures.slot in
    let old : row_in (block_at s k) c.args.user ≡ row_of s c.args.user = ap (λ (j : ℕ). row_in (block_at s j) c.args.user) at in
    let here : row_in (block_at s k) c.args.user ≡ row_of c.args.self.now c.args.user = old
    ∙ ap (λ (t : PartState). row_of t c.args.user) c.self.view_is in
    subst (λ (x : UserRow). (row_applied c.args.place x c.args.op.now).said < 2 ^ 64) (sym here) c.requires.said

pub invariant_of-self : goal.invariant_of-self
invariant_of-self c =
    let s : PartState = record { part = c.self.inside.part.0; parts = c.self.inside.parts; blocks = c.self.inside.spine } in
    let k = c.user_slot-slot.result in
    let n : List BlockState = c.apply_to_user.new.self in
    let b : BlockState = slot_of n k in
    let within : k < length s.blocks = subst (λ (t : PartState). k < length t.blocks)
    (sym c.self.view_is) c.user_slot-slot.ensures.within in
    let at : k ≡ user_slot s c.args.user = subst (λ (t : PartState). k ≡ user_slot t c.args.user)
    (sym c.self.view_is) c.user_slot-slot.ensures.slot in
    let old : row_in (block_at s k) c.args.user ≡ row_of s c.args.user = ap (λ (j : ℕ). row_in (block_at s j) c.args.user) at in
    let here : row_in (block_at s k) c.args.user ≡ row_of c.args.self.now c.args.user = old
    ∙ ap (λ (t : PartState). row_of t c.args.user) c.self.view_is in
    let home : user_part s.parts c.args.user ≡ s.part = subst (λ (t : PartState). user_part t.parts c.args.user ≡ t.part)
    (sym c.self.view_is) c.requires.home in
    blocks-row s k n c.self.invariant within c.apply_to_user.ensures.others c.args.user
    (row_applied c.args.place (row_of s c.args.user) c.args.op.now) c.apply_to_user.result at home
    (on_ok_weaker c.apply_to_user.result (λ (e : kept_in b ≡ with_row (kept_in (block_at s k)) c.args.user
    (row_applied c.args.place (row_in (block_at s k) c.args.user) c.args.op.now)). e
    ∙ ap (λ (x : UserRow). with_row (kept_in (block_at s k)) c.args.user (row_applied c.args.place x c.args.op.now)) old)
    c.apply_to_user.ensures.ok)
    c.apply_to_user.ensures.err

pub returns-clause-ok : goal.returns-clause-ok
returns-clause-ok c =
    let s : PartState = record { part = c.self.inside.part.0; parts = c.self.inside.parts; blocks = c.self.inside.spine } in
    let k = c.user_slot-slot.result in
    let n : List BlockState = c.apply_to_user.new.self in
    let b : BlockState = slot_of n k in
    let within : k < length s.blocks = subst (λ (t : PartState). k < length t.blocks)
    (sym c.self.view_is) c.user_slot-slot.ensures.within in
    let at : k ≡ user_slot s c.args.user = subst (λ (t : PartState). k ≡ user_slot t c.args.user)
    (sym c.self.view_is) c.user_slot-slot.ensures.slot in
    let old : row_in (block_at s k) c.args.user ≡ row_of s c.args.user = ap (λ (j : ℕ). row_in (block_at s j) c.args.user) at in
    let here : row_in (block_at s k) c.args.user ≡ row_of c.args.self.now c.args.user = old
    ∙ ap (λ (t : PartState). row_of t c.args.user) c.self.view_is in
    let P : PartState → Type 0 = λ (t : PartState). kept (record s { blocks = n }) ≡ with_row (kept t) c.args.user
    (row_applied c.args.place (row_of t c.args.user) c.args.op.now) in
    on_ok_weaker c.apply_to_user.result (λ (e : kept_in b ≡ with_row (kept_in (block_at s k)) c.args.user
    (row_applied c.args.place (row_in (block_at s k) c.args.user) c.args.op.now)).
    subst P c.self.view_is (ap (λ (l : List BlockState). kept (record s { blocks = l })) c.apply_to_user.ensures.others
    ∙ kept-row s k b within c.args.user (row_applied c.args.place (row_of s c.args.user) c.args.op.now) at
    (e ∙ ap (λ (x : UserRow). with_row (kept_in (block_at s k)) c.args.user (row_applied c.args.place x c.args.op.now)) old)))
    c.apply_to_user.ensures.ok
