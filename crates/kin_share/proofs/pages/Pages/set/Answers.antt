use Rattle.std.proofs.Common.{◌≡◌, ◌-◌, ◌*◌, ◌/◌, ◌%◌, ◌<◌, ◌≤◌, List, [], length, get_or, set, refl, sym, ap, ◌∙◌, subst, arith}
use Rattle.std.proofs.lemmas.List.{get_or_read}
use Rattle.std.proofs.lemmas.Result.{on_ok_weaker}
use Rattle.kin_share.specs.Chunks.{joined}
use Rattle.kin_share.proofs.Joined.{get-chunk, get-rest, set-chunk, set-rest, full-at, in-chunk, in-rest, chunked-set, chunked-rest, set-either}
use Rattle.kin_share.proofs.pages.Pages.set.Goals as goal

pub set-requires-clause-chunk : goal.set-requires-clause-chunk
set-requires-clause-chunk g c =
    let T = g.row.T.Denot in
    let cs : List (List (List T)) = c.self.inside.pages.items in
    let rest : List (List T) = c.self.inside.last.items in
    let n = c.self.inside.count in
    let i = c.args.chunk in
    let h : i < n = omega (arith, c.self.invariant.count, ap length c.self.view_is, c.requires.chunk) in
    let w : i / 64 < length cs = omega (arith, c.if-page-len.true, c.len.ensures) in
    let at = in-chunk cs rest n c.self.invariant i (i / 64) h refl w in
    let read : c.index_mut.result.now ≡ get_or cs (i / 64) [] = get_or_read cs (i / 64) c.index_mut.result.now w c.index_mut.ensures.value [] in
    omega (arith, at.0, ap length read)

pub set-requires-clause-place : goal.set-requires-clause-place
set-requires-clause-place g c =
    let T = g.row.T.Denot in
    let cs : List (List (List T)) = c.self.inside.pages.items in
    let rest : List (List T) = c.self.inside.last.items in
    let n = c.self.inside.count in
    let i = c.args.chunk in
    let h : i < n = omega (arith, c.self.invariant.count, ap length c.self.view_is, c.requires.chunk) in
    let w : i / 64 < length cs = omega (arith, c.if-page-len.true, c.len.ensures) in
    let at = in-chunk cs rest n c.self.invariant i (i / 64) h refl w in
    let read : c.index_mut.result.now ≡ get_or cs (i / 64) [] = get_or_read cs (i / 64) c.index_mut.result.now w c.index_mut.ensures.value [] in
    let old : get_or c.index_mut.result.now (i % 64) [] ≡ get_or c.args.self.now i [] = ap (λ (l : List (List T)). get_or l (i % 64) []) read
    ∙ (sym (get-chunk cs rest i (i / 64) (i % 64) [] c.self.invariant.full w at.2 at.1) ∙ ap (λ (l : List (List T)). get_or l i []) c.self.view_is) in
    subst (λ (l : List T). c.args.place < length l) (sym old) c.requires.place

pub invariant_of-self : goal.invariant_of-self
invariant_of-self g c =
    let T = g.row.T.Denot in
    let cs : List (List (List T)) = c.self.inside.pages.items in
    let rest : List (List T) = c.self.inside.last.items in
    let n = c.self.inside.count in
    let i = c.args.chunk in
    let h : i < n = omega (arith, c.self.invariant.count, ap length c.self.view_is, c.requires.chunk) in
    let w : i / 64 < length cs = omega (arith, c.if-page-len.true, c.len.ensures) in
    let at = in-chunk cs rest n c.self.invariant i (i / 64) h refl w in
    let read : c.index_mut.result.now ≡ get_or cs (i / 64) [] = get_or_read cs (i / 64) c.index_mut.result.now w c.index_mut.ensures.value [] in
    let whole : length c.index_mut.result.now ≡ 64 = ap length read ∙ full-at cs (i / 64) c.self.invariant.full w in
    chunked-set cs rest n (i / 64) c.set.new.self c.self.invariant
    (set-either c.set.result c.index_mut.result.now c.set.new.self (i % 64) (set (get_or c.index_mut.result.now (i % 64) []) c.args.place c.args.item) c.set.ensures.ok c.set.ensures.err ∙ whole)

pub returns-then-page-len-clause-ok : goal.returns-then-page-len-clause-ok
returns-then-page-len-clause-ok g c =
    let T = g.row.T.Denot in
    let cs : List (List (List T)) = c.self.inside.pages.items in
    let rest : List (List T) = c.self.inside.last.items in
    let n = c.self.inside.count in
    let i = c.args.chunk in
    let h : i < n = omega (arith, c.self.invariant.count, ap length c.self.view_is, c.requires.chunk) in
    let w : i / 64 < length cs = omega (arith, c.if-page-len.true, c.len.ensures) in
    let at = in-chunk cs rest n c.self.invariant i (i / 64) h refl w in
    let read : c.index_mut.result.now ≡ get_or cs (i / 64) [] = get_or_read cs (i / 64) c.index_mut.result.now w c.index_mut.ensures.value [] in
    let old : get_or c.index_mut.result.now (i % 64) [] ≡ get_or c.args.self.now i [] = ap (λ (l : List (List T)). get_or l (i % 64) []) read
    ∙ (sym (get-chunk cs rest i (i / 64) (i % 64) [] c.self.invariant.full w at.2 at.1) ∙ ap (λ (l : List (List T)). get_or l i []) c.self.view_is) in
    on_ok_weaker c.set.result (λ (e : c.set.new.self ≡ set c.index_mut.result.now (i % 64) (set (get_or c.index_mut.result.now (i % 64) []) c.args.place c.args.item)).
    ap (λ (l : List (List T)). joined (set cs (i / 64) l) rest) (e ∙ (ap (λ (l : List (List T)). set l (i % 64) (set (get_or c.index_mut.result.now (i % 64) []) c.args.place c.args.item)) read
    ∙ ap (λ (l : List T). set (get_or cs (i / 64) []) (i % 64) (set l c.args.place c.args.item)) old))
    ∙ (sym (set-chunk cs rest i (i / 64) (i % 64) (set (get_or c.args.self.now i []) c.args.place c.args.item) c.self.invariant.full w at.2 at.1)
    ∙ ap (λ (l : List (List T)). set l i (set (get_or c.args.self.now i []) c.args.place c.args.item)) c.self.view_is)) c.set.ensures.ok

pub index_mut-requires-2 : goal.index_mut-requires-2
index_mut-requires-2 g c =
    let T = g.row.T.Denot in
    let cs : List (List (List T)) = c.self.inside.pages.items in
    let rest : List (List T) = c.self.inside.last.items in
    let n = c.self.inside.count in
    let i = c.args.chunk in
    let h : i < n = omega (arith, c.self.invariant.count, ap length c.self.view_is, c.requires.chunk) in
    let w : length cs ≤ i / 64 = omega (arith, c.if-page-len.false, c.len.ensures) in
    let at = in-rest cs rest n c.self.invariant i (i / 64) h refl w in
    let j : i - 64 * c.len-2.result ≡ i - 64 * length cs = omega (arith, c.len-2.ensures) in
    let inside : i - 64 * c.len-2.result < length rest = omega (arith, at.0, j) in
    omega (arith, at.0, c.len-2.ensures)

pub set-requires-2 : goal.set-requires-2
set-requires-2 g c =
    let T = g.row.T.Denot in
    let cs : List (List (List T)) = c.self.inside.pages.items in
    let rest : List (List T) = c.self.inside.last.items in
    let n = c.self.inside.count in
    let i = c.args.chunk in
    let h : i < n = omega (arith, c.self.invariant.count, ap length c.self.view_is, c.requires.chunk) in
    let w : length cs ≤ i / 64 = omega (arith, c.if-page-len.false, c.len.ensures) in
    let at = in-rest cs rest n c.self.invariant i (i / 64) h refl w in
    let j : i - 64 * c.len-2.result ≡ i - 64 * length cs = omega (arith, c.len-2.ensures) in
    let inside : i - 64 * c.len-2.result < length rest = omega (arith, at.0, j) in
    let read : c.index_mut-2.result.now ≡ get_or rest (i - 64 * c.len-2.result) [] = get_or_read rest (i - 64 * c.len-2.result) c.index_mut-2.result.now inside c.index_mut-2.ensures.value [] in
    let old : c.index_mut-2.result.now ≡ get_or c.args.self.now i [] = read
    ∙ (sym (get-rest cs rest i (i - 64 * c.len-2.result) [] c.self.invariant.full (omega (arith, at.1, j))) ∙ ap (λ (l : List (List T)). get_or l i []) c.self.view_is) in
    subst (λ (l : List T). c.args.place < length l) (sym old) c.requires.place

pub invariant_of-self-2 : goal.invariant_of-self-2
invariant_of-self-2 g c =
    let T = g.row.T.Denot in
    let cs : List (List (List T)) = c.self.inside.pages.items in
    let rest : List (List T) = c.self.inside.last.items in
    let n = c.self.inside.count in
    let i = c.args.chunk in
    let h : i < n = omega (arith, c.self.invariant.count, ap length c.self.view_is, c.requires.chunk) in
    let w : length cs ≤ i / 64 = omega (arith, c.if-page-len.false, c.len.ensures) in
    let at = in-rest cs rest n c.self.invariant i (i / 64) h refl w in
    let j : i - 64 * c.len-2.result ≡ i - 64 * length cs = omega (arith, c.len-2.ensures) in
    let inside : i - 64 * c.len-2.result < length rest = omega (arith, at.0, j) in
    chunked-rest cs rest n (i - 64 * c.len-2.result) c.set-2.new.self c.self.invariant

pub returns-clause-ok : goal.returns-clause-ok
returns-clause-ok g c =
    let T = g.row.T.Denot in
    let cs : List (List (List T)) = c.self.inside.pages.items in
    let rest : List (List T) = c.self.inside.last.items in
    let n = c.self.inside.count in
    let i = c.args.chunk in
    let h : i < n = omega (arith, c.self.invariant.count, ap length c.self.view_is, c.requires.chunk) in
    let w : length cs ≤ i / 64 = omega (arith, c.if-page-len.false, c.len.ensures) in
    let at = in-rest cs rest n c.self.invariant i (i / 64) h refl w in
    let j : i - 64 * c.len-2.result ≡ i - 64 * length cs = omega (arith, c.len-2.ensures) in
    let inside : i - 64 * c.len-2.result < length rest = omega (arith, at.0, j) in
    let read : c.index_mut-2.result.now ≡ get_or rest (i - 64 * c.len-2.result) [] = get_or_read rest (i - 64 * c.len-2.result) c.index_mut-2.result.now inside c.index_mut-2.ensures.value [] in
    let old : c.index_mut-2.result.now ≡ get_or c.args.self.now i [] = read
    ∙ (sym (get-rest cs rest i (i - 64 * c.len-2.result) [] c.self.invariant.full (omega (arith, at.1, j))) ∙ ap (λ (l : List (List T)). get_or l i []) c.self.view_is) in
    on_ok_weaker c.set-2.result (λ (e : c.set-2.new.self ≡ set c.index_mut-2.result.now c.args.place c.args.item).
    sym (set-rest cs rest i (i - 64 * c.len-2.result) c.set-2.new.self c.self.invariant.full (omega (arith, at.1, j)))
    ∙ (ap (λ (l : List (List T)). set l i c.set-2.new.self) c.self.view_is ∙ ap (λ (l : List T). set c.args.self.now i l) (e ∙ ap (λ (l : List T). set l c.args.place c.args.item) old))) c.set-2.ensures.ok
