use Rattle.std.proofs.Common.{◌≡◌, ℕ, List, map, take, count_by}
use Rattle.kin_ids.specs.Users.{same_tag}
use Rattle.kin_store.specs.declared.pairs.TagUser.{TagUser}
use Rattle.kin_counts.specs.Changes.{raised}
use Rattle.kin_counts.proofs.tag_numbers.add_rows.Given as goal

abbrev pub invariant-loop-row : goal.invariant-loop-row
invariant-loop-row l =
    (f : List ℕ → ℕ) → l.initial.numbers ≡ map f l.tags → l.numbers
    ≡ map (λ s. raised (count_by (λ (x : TagUser). same_tag s x.tag) (take l.row-index l.rows)) (f s)) l.tags
