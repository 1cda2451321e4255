use Rattle.std.proofs.Common.{◌≡◌, ◌-◌, ◌*◌, ◌/◌, ◌%◌, ◌<◌, ◌≤◌, List, [], length, get_or, refl, sym, ap, ◌∙◌, arith}
use Rattle.std.proofs.lemmas.List.{get_or_read}
use Rattle.kin_share.proofs.Joined.{get-chunk, get-rest, in-chunk, in-rest}
use Rattle.kin_share.proofs.pages.Pages.chunk.Goals as goal

pub chunk-requires : goal.chunk-requires
chunk-requires g c =
    let T = g.row.T.Denot in
    let cs : List (List (List T)) = c.self.inside.pages.items in
    let rest : List (List T) = c.self.inside.last.items in
    let n = c.self.inside.count in
    let i = c.args.chunk in
    let h : i < n = omega (arith, c.self.invariant.count, ap length c.self.view_is, c.requires) in
    let w : i / 64 < length cs = omega (arith, c.if-page-len.true, c.len.ensures) in
    let at = in-chunk cs rest n c.self.invariant i (i / 64) h refl w in
    let read : c.index.result.now ≡ get_or cs (i / 64) [] = get_or_read cs (i / 64) c.index.result.now w c.index.ensures [] in
    omega (arith, at.0, ap length read)

pub returns-then-page-len : goal.returns-then-page-len
returns-then-page-len g c =
    let T = g.row.T.Denot in
    let cs : List (List (List T)) = c.self.inside.pages.items in
    let rest : List (List T) = c.self.inside.last.items in
    let n = c.self.inside.count in
    let i = c.args.chunk in
    let h : i < n = omega (arith, c.self.invariant.count, ap length c.self.view_is, c.requires) in
    let w : i / 64 < length cs = omega (arith, c.if-page-len.true, c.len.ensures) in
    let at = in-chunk cs rest n c.self.invariant i (i / 64) h refl w in
    let read : c.index.result.now ≡ get_or cs (i / 64) [] = get_or_read cs (i / 64) c.index.result.now w c.index.ensures [] in
    c.chunk.ensures ∙ (ap (λ (l : List (List T)). get_or l (i % 64) []) read
    ∙ (sym (get-chunk cs rest i (i / 64) (i % 64) [] c.self.invariant.full w at.2 at.1) ∙ ap (λ (l : List (List T)). get_or l i []) c.self.view_is))

pub index-requires-2 : goal.index-requires-2
index-requires-2 g c =
    let T = g.row.T.Denot in
    let cs : List (List (List T)) = c.self.inside.pages.items in
    let rest : List (List T) = c.self.inside.last.items in
    let n = c.self.inside.count in
    let i = c.args.chunk in
    let h : i < n = omega (arith, c.self.invariant.count, ap length c.self.view_is, c.requires) in
    let w : length cs ≤ i / 64 = omega (arith, c.if-page-len.false, c.len.ensures) in
    let at = in-rest cs rest n c.self.invariant i (i / 64) h refl w in
    let j : i - 64 * c.len-2.result ≡ i - 64 * length cs = omega (arith, c.len-2.ensures) in
    let inside : i - 64 * c.len-2.result < length rest = omega (arith, at.0, j) in
    omega (arith, at.0, c.len-2.ensures)

pub returns : goal.returns
returns g c =
    let T = g.row.T.Denot in
    let cs : List (List (List T)) = c.self.inside.pages.items in
    let rest : List (List T) = c.self.inside.last.items in
    let n = c.self.inside.count in
    let i = c.args.chunk in
    let h : i < n = omega (arith, c.self.invariant.count, ap length c.self.view_is, c.requires) in
    let w : length cs ≤ i / 64 = omega (arith, c.if-page-len.false, c.len.ensures) in
    let at = in-rest cs rest n c.self.invariant i (i / 64) h refl w in
    let j : i - 64 * c.len-2.result ≡ i - 64 * length cs = omega (arith, c.len-2.ensures) in
    let inside : i - 64 * c.len-2.result < length rest = omega (arith, at.0, j) in
    get_or_read rest (i - 64 * c.len-2.result) c.index-2.result.now inside c.index-2.ensures []
    ∙ (sym (get-rest cs rest i (i - 64 * c.len-2.result) [] c.self.invariant.full (omega (arith, at.1, j))) ∙ ap (λ (l : List (List T)). get_or l i []) c.self.view_is)
