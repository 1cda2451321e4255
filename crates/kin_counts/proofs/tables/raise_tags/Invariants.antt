use Rattle.std.proofs.Common.{◌≡◌, ◌≤◌, ◌+◌, ℕ, List, nat_eq, unwrap_or, count_by, take}
use Rattle.std.specs.HashMap.{get, spare}
use Rattle.std.specs.Cmp.Lexicographic.{pointwise}
use Rattle.kin_ids.specs.Users.{same_tag}
use Rattle.kin_store.specs.declared.pairs.TagUser.{TagUser}
use Rattle.kin_counts.specs.Changes.{raised}
use Rattle.kin_counts.proofs.tables.raise_tags.Given as goal

abbrev pub invariant-loop-row : goal.invariant-loop-row
invariant-loop-row l = record {
  numbers : (x : List ℕ) → unwrap_or (get (pointwise nat_eq) l.numbers x) 0
      ≡ raised (count_by (λ (r : TagUser). same_tag x r.tag) (take l.row-index l.rows))
      (unwrap_or (get (pointwise nat_eq) l.initial.numbers x) 0);
  room : spare l.initial.numbers ≤ spare l.numbers + l.row-index;
}
