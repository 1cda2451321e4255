use Rattle.std.proofs.Common.{◌≡◌, ◌∙◌, ◌∷◌, [], List, length, ap, arith}
use Rattle.std.proofs.lemmas.List.{length-append}
use Rattle.std.proofs.lemmas.List.Elements.{All-push}
use Rattle.kin_ids.specs.declared.stamps.End.{End}
use Rattle.kin_table.specs.declared.cuts.Cut.{Cut}
use Rattle.kin_table.proofs.tables.Table.append.Goals as goal

-- the new vector has an end for each node
pub invariant_of-self-2 : goal.invariant_of-self-2
invariant_of-self-2 c =
    let old = c.self.inside in
    let ends = c.in_ok-copy.field-0.ends in
    let same : length ends ≡ length c.in_ok-cut.cut.ends = ap (λ (cut : Cut). length cut.ends) c.in_ok-copy.ensures in
    let count : length ends ≡ length old.agreed.items = same ∙ rw (← c.self.view_is) at c.in_ok-cut.ensures.count in
    let more = length-append old.vectors (ends ∷ []) in
    let room = rw (← c.self.view_is) at c.requires.room in
    rw c.in_ok-push.ensures.ok (record {
      nodes = c.self.invariant.nodes;
      few_nodes = c.self.invariant.few_nodes;
      parts = c.self.invariant.parts;
      few_parts = c.self.invariant.few_parts;
      incs = c.self.invariant.incs;
      row_incs = c.self.invariant.row_incs;
      row_tops = c.self.invariant.row_tops;
      vectors = All-push (λ (vector : List End). length vector ≡ length old.agreed.items) old.vectors ends c.self.invariant.vectors count;
      some = omega arith;
      few_cuts = omega arith;
    })

pub returns-clause-table : goal.returns-clause-table
returns-clause-table c = invariant_of-self-2 c
