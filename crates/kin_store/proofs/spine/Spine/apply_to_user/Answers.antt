use Rattle.std.proofs.Common.{◌≡◌, ◌<◌, ◌^◌, ◌/◌, ◌%◌, List, [], length, get_or, set, sym, ap, ◌∙◌, subst, rules}
use Rattle.std.proofs.lemmas.List.{get_or_read}
use Rattle.std.proofs.lemmas.Result.{on_ok_weaker}
use Rattle.kin_share.specs.Chunks.{joined}
use Rattle.kin_store.specs.Rows.{row_applied}
use Rattle.kin_store.specs.Changes.{with_row, kept_in}
use Rattle.kin_store.specs.Hints.{row_place}
use Rattle.kin_store.specs.Blocks.{BlockState, slot_of, row_in}
use Rattle.kin_store.proofs.Paging.{page-there, slot-there, slot-read, slot-new, page-others, paged-set}
use Rattle.kin_store.proofs.spine.Spine.apply_to_user.Goals as goal

pub index_mut-requires : goal.index_mut-requires
index_mut-requires c =
    let ps : List (List BlockState) = c.self.inside.pages.items in
    let n = c.self.inside.count in
    let k = c.args.slot in
    let within : k < length (joined ps []) = subst (λ (l : List BlockState). k < length l) (sym c.self.view_is) c.requires.slot in
    search (rules, page-there ps n k c.self.invariant within)

pub apply_to_user-requires-clause-slot : goal.apply_to_user-requires-clause-slot
apply_to_user-requires-clause-slot c =
    let ps : List (List BlockState) = c.self.inside.pages.items in
    let n = c.self.inside.count in
    let k = c.args.slot in
    let within : k < length (joined ps []) = subst (λ (l : List BlockState). k < length l) (sym c.self.view_is) c.requires.slot in
    let read : c.index_mut.result.now ≡ get_or ps (k / 64) [] = get_or_read ps (k / 64) c.index_mut.result.now
    (page-there ps n k c.self.invariant within) c.index_mut.ensures.value [] in
    subst (λ (l : List BlockState). k % 64 < length l) (sym read) (slot-there ps n k c.self.invariant within)

pub apply_to_user-requires-clause-at : goal.apply_to_user-requires-clause-at
apply_to_user-requires-clause-at c =
    let ps : List (List BlockState) = c.self.inside.pages.items in
    let n = c.self.inside.count in
    let k = c.args.slot in
    let within : k < length (joined ps []) = subst (λ (l : List BlockState). k < length l) (sym c.self.view_is) c.requires.slot in
    let read : c.index_mut.result.now ≡ get_or ps (k / 64) [] = get_or_read ps (k / 64) c.index_mut.result.now
    (page-there ps n k c.self.invariant within) c.index_mut.ensures.value [] in
    let old : slot_of c.index_mut.result.now (k % 64) ≡ slot_of c.args.self.now k = ap (λ (l : List BlockState). slot_of l (k % 64)) read
    ∙ (slot-read ps n k c.self.invariant within ∙ ap (λ (l : List BlockState). slot_of l k) c.self.view_is) in
    subst (λ (b : BlockState). c.args.at ≡ row_place (row_in b c.args.user) c.args.op.now) (sym old) c.requires.at

pub apply_to_user-requires-clause-said : goal.apply_to_user-requires-clause-said
apply_to_user-requires-clause-said c =
    let ps : List (List BlockState) = c.self.inside.pages.items in
    let n = c.self.inside.count in
    let k = c.args.slot in
    let within : k < length (joined ps []) = subst (λ (l : List BlockState). k < length l) (sym c.self.view_is) c.requires.slot in
    let read : c.index_mut.result.now ≡ get_or ps (k / 64) [] = get_or_read ps (k / 64) c.index_mut.result.now
    (page-there ps n k c.self.invariant within) c.index_mut.ensures.value [] in
    let old : slot_of c.index_mut.result.now (k % 64) ≡ slot_of c.args.self.now k = ap (λ (l : List BlockState). slot_of l (k % 64)) read
    ∙ (slot-read ps n k c.self.invariant within ∙ ap (λ (l : List BlockState). slot_of l k) c.self.view_is) in
    subst (λ (b : BlockState). (row_applied c.args.place (row_in b c.args.user) c.args.op.now).said < 2 ^ 64) (sym old) c.requires.said

pub invariant_of-self : goal.invariant_of-self
invariant_of-self c =
    let ps : List (List BlockState) = c.self.inside.pages.items in
    let n = c.self.inside.count in
    let k = c.args.slot in
    let within : k < length (joined ps []) = subst (λ (l : List BlockState). k < length l) (sym c.self.view_is) c.requires.slot in
    let read : c.index_mut.result.now ≡ get_or ps (k / 64) [] = get_or_read ps (k / 64) c.index_mut.result.now
    (page-there ps n k c.self.invariant within) c.index_mut.ensures.value [] in
    let new : List BlockState = c.apply_to_user.new.self in
    let others : new ≡ set (get_or ps (k / 64) []) (k % 64) (slot_of new (k % 64)) = c.apply_to_user.ensures.others
    ∙ ap (λ (l : List BlockState). set l (k % 64) (slot_of new (k % 64))) read in
    paged-set ps n k c.self.invariant within new others

pub returns-clause-others : goal.returns-clause-others
returns-clause-others c =
    let ps : List (List BlockState) = c.self.inside.pages.items in
    let n = c.self.inside.count in
    let k = c.args.slot in
    let within : k < length (joined ps []) = subst (λ (l : List BlockState). k < length l) (sym c.self.view_is) c.requires.slot in
    let read : c.index_mut.result.now ≡ get_or ps (k / 64) [] = get_or_read ps (k / 64) c.index_mut.result.now
    (page-there ps n k c.self.invariant within) c.index_mut.ensures.value [] in
    let new : List BlockState = c.apply_to_user.new.self in
    let others : new ≡ set (get_or ps (k / 64) []) (k % 64) (slot_of new (k % 64)) = c.apply_to_user.ensures.others
    ∙ ap (λ (l : List BlockState). set l (k % 64) (slot_of new (k % 64))) read in
    page-others ps n k c.self.invariant within new others
    ∙ ap (λ (l : List BlockState). set l k (slot_of (joined (set ps (k / 64) new) []) k)) c.self.view_is

pub returns-clause-ok : goal.returns-clause-ok
returns-clause-ok c =
    let ps : List (List BlockState) = c.self.inside.pages.items in
    let n = c.self.inside.count in
    let k = c.args.slot in
    let within : k < length (joined ps []) = subst (λ (l : List BlockState). k < length l) (sym c.self.view_is) c.requires.slot in
    let read : c.index_mut.result.now ≡ get_or ps (k / 64) [] = get_or_read ps (k / 64) c.index_mut.result.now
    (page-there ps n k c.self.invariant within) c.index_mut.ensures.value [] in
    let old : slot_of c.index_mut.result.now (k % 64) ≡ slot_of c.args.self.now k = ap (λ (l : List BlockState). slot_of l (k % 64)) read
    ∙ (slot-read ps n k c.self.invariant within ∙ ap (λ (l : List BlockState). slot_of l k) c.self.view_is) in
    let new : List BlockState = c.apply_to_user.new.self in
    let others : new ≡ set (get_or ps (k / 64) []) (k % 64) (slot_of new (k % 64)) = c.apply_to_user.ensures.others
    ∙ ap (λ (l : List BlockState). set l (k % 64) (slot_of new (k % 64))) read in
    on_ok_weaker c.apply_to_user.result (λ (e : kept_in (slot_of new (k % 64))
    ≡ (λ (b : BlockState). with_row (kept_in b) c.args.user (row_applied c.args.place (row_in b c.args.user) c.args.op.now))
    (slot_of c.index_mut.result.now (k % 64))).
    ap kept_in (slot-new ps n k c.self.invariant within new others)
    ∙ (e ∙ ap (λ (b : BlockState). with_row (kept_in b) c.args.user (row_applied c.args.place (row_in b c.args.user) c.args.op.now))
    old)) c.apply_to_user.ensures.ok
