use Rattle.std.proofs.Common.{◌≡◌, ◌++◌, ◌∷◌, [], ◌∙◌, ℕ, ◌+◌, List, sym, ap, arith, rules, length}
use Rattle.std.specs.Prelude.{map}
use Rattle.std.specs.List.{range_with_len}
use Rattle.std.proofs.lemmas.List.FromFn.{map-range_with_len_more}
use Rattle.std.proofs.lemmas.Simd.{map-map}
use Rattle.kin_ids.specs.declared.stamps.Stamp.{Stamp}
use Rattle.kin_table.specs.Tables.{agreed_of, last_of}
use Rattle.kin_hub.specs.Cores.{chain_of, stamps_between}
use Rattle.kin_hub.specs.Cuts.{front_for}
use Rattle.kin_hub.proofs.cores.Core.since_cut.Goals as goal

pub loop-i-preserved : goal.loop-i-preserved
loop-i-preserved c =
    let now = c.args.self.now in
    let f : ℕ → List Stamp = λ i. front_for c.args.n (stamps_between (chain_of now 0 i) (last_of now.table i).to (agreed_of now.table i)) in
    let i = c.loop-i.i in
    let next : 0 + i ≡ i = omega arith in
    c.in_ok-push.ensures.items ∙ (ap (λ ls. ls ++ c.in_ok-pending.field-0 ∷ []) c.loop-i.invariant
    ∙ (ap (λ ss. map f (range_with_len 0 i) ++ ss ∷ []) c.in_ok-pending.ensures ∙ sym (map-range_with_len_more f 0 i i next)))

pub returns : goal.returns
returns c =
    let now = c.args.self.now in
    let g : ℕ → List Stamp = λ i. stamps_between (chain_of now 0 i) (last_of now.table i).to (agreed_of now.table i) in
    let count : c.loop-i.i ≡ length now.table.agreed = search rules in
    c.loop-i.invariant ∙ (ap (λ (n : ℕ). map (λ i. front_for c.args.n (g i)) (range_with_len 0 n)) count
    ∙ sym (map-map (front_for {A = Stamp} c.args.n) g (range_with_len 0 (length now.table.agreed))))
