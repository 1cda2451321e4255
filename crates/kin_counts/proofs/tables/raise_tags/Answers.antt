use Rattle.std.proofs.Common.{ℕ, List, nat_eq, unwrap_or, arith}
use Rattle.std.specs.HashMap.{get}
use Rattle.std.specs.Cmp.Lexicographic.{pointwise}
use Rattle.kin_ids.specs.Users.{same_tag}
use Rattle.kin_store.specs.declared.pairs.TagUser.{TagUser}
use Rattle.kin_counts.specs.Changes.{raised}
use Rattle.kin_counts.proofs.Moving.{raised-twice}
use Rattle.kin_counts.proofs.Filling.{fill-item, fill-last}
use Rattle.kin_counts.proofs.tables.raise_tags.Goals as goal

pub loop-row-preserved : goal.loop-row-preserved
loop-row-preserved c =
    let start = λ (x : List ℕ). unwrap_or (get (pointwise nat_eq) c.args.numbers.now x) 0 in
    let old = λ (x : List ℕ). unwrap_or (get (pointwise nat_eq) c.loop-row.numbers x) 0 in
    let new = λ (x : List ℕ). unwrap_or (get (pointwise nat_eq) c.raise_tag.new.numbers x) 0 in
    record {
      numbers = fill-item raised raised-twice same_tag (λ (r : TagUser). r.tag)
          (λ (r : TagUser). 1) c.args.rows.now c.loop-row.row-index start old new c.row-item.result c.loop-row-test.true c.row-item.is
          c.loop-row.invariant.numbers c.raise_tag.ensures.numbers;
      room = omega (arith, c.loop-row.invariant.room, c.raise_tag.ensures.spare);
    }

pub returns-clause-numbers : goal.returns-clause-numbers
returns-clause-numbers c =
    let start = λ (x : List ℕ). unwrap_or (get (pointwise nat_eq) c.args.numbers.now x) 0 in
    let old = λ (x : List ℕ). unwrap_or (get (pointwise nat_eq) c.loop-row.numbers x) 0 in
    fill-last raised raised-twice same_tag (λ (r : TagUser). r.tag)
    (λ (r : TagUser). 1) c.args.rows.now c.loop-row.row-index start old old c.loop-row-test.false c.loop-row.invariant.numbers
