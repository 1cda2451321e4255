use Rattle.std.proofs.Common.{◌≡◌, ◌<◌, ◌/◌, ◌%◌, List, [], length, get_or, sym, ap, ◌∙◌, subst, rules}
use Rattle.std.proofs.lemmas.List.{get_or_read}
use Rattle.kin_share.specs.Chunks.{joined}
use Rattle.kin_store.specs.Blocks.{BlockState, slot_of}
use Rattle.kin_store.proofs.Paging.{page-there, slot-there, slot-read}
use Rattle.kin_store.proofs.spine.Spine.block.Goals as goal

pub index-requires : goal.index-requires
index-requires c =
    let ps : List (List BlockState) = c.self.inside.pages.items in
    let n = c.self.inside.count in
    let k = c.args.slot in
    let within : k < length (joined ps []) = subst (λ (l : List BlockState). k < length l) (sym c.self.view_is) c.requires in
    search (rules, page-there ps n k c.self.invariant within)

pub block-requires : goal.block-requires
block-requires c =
    let ps : List (List BlockState) = c.self.inside.pages.items in
    let n = c.self.inside.count in
    let k = c.args.slot in
    let within : k < length (joined ps []) = subst (λ (l : List BlockState). k < length l) (sym c.self.view_is) c.requires in
    let read : c.index.result.now ≡ get_or ps (k / 64) [] = get_or_read ps (k / 64) c.index.result.now
    (page-there ps n k c.self.invariant within) c.index.ensures [] in
    subst (λ (l : List BlockState). k % 64 < length l) (sym read) (slot-there ps n k c.self.invariant within)

pub returns : goal.returns
returns c =
    let ps : List (List BlockState) = c.self.inside.pages.items in
    let n = c.self.inside.count in
    let k = c.args.slot in
    let within : k < length (joined ps []) = subst (λ (l : List BlockState). k < length l) (sym c.self.view_is) c.requires in
    let read : c.index.result.now ≡ get_or ps (k / 64) [] = get_or_read ps (k / 64) c.index.result.now
    (page-there ps n k c.self.invariant within) c.index.ensures [] in
    c.block.ensures ∙ (ap (λ (l : List BlockState). slot_of l (k % 64)) read
    ∙ (slot-read ps n k c.self.invariant within ∙ ap (λ (l : List BlockState). slot_of l k) c.self.view_is))
