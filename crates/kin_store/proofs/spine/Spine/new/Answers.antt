use Rattle.std.proofs.Common.{◌≡◌, ℕ, ◌*◌, List, [], sym, ap, ◌∙◌, subst, arith}
use Rattle.std.specs.Prelude.{replicate}
use Rattle.std.proofs.lemmas.List.{length-replicate}
use Rattle.kin_share.specs.Chunks.{joined}
use Rattle.kin_store.specs.Blocks.{BlockState, IsPaged, empty_block}
use Rattle.kin_store.proofs.Paging.{empty-pages, empty-full}
use Rattle.kin_store.proofs.Empties.{blocks-are}
use Rattle.kin_store.proofs.spine.Spine.new.Goals as goal

pub invariant_of-result : goal.invariant_of-result
invariant_of-result c =
    let all : c.loop.counter ≡ 64 = omega (arith, c.loop.auto.counter-end, c.loop-test.false) in
    let is : c.loop.pages.items ≡ replicate 64 (replicate 64 empty_block) = c.loop.invariant
    ∙ ap (λ (n : ℕ). replicate n (replicate 64 empty_block)) all in
    subst (λ (l : List (List BlockState)). IsPaged l (64 * 64)) (sym is)
    (record { full = empty-full 64 empty_block; count = ap (λ (n : ℕ). 64 * n) (sym (length-replicate 64 (replicate 64 empty_block))) })

pub returns : goal.returns
returns c =
    let all : c.loop.counter ≡ 64 = omega (arith, c.loop.auto.counter-end, c.loop-test.false) in
    let is : c.loop.pages.items ≡ replicate 64 (replicate 64 empty_block) = c.loop.invariant
    ∙ ap (λ (n : ℕ). replicate n (replicate 64 empty_block)) all in
    ap (λ (l : List (List BlockState)). joined l []) is ∙ (empty-pages 64 empty_block ∙ sym blocks-are)
