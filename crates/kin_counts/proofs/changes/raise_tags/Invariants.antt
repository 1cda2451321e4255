use Rattle.std.proofs.Common.{take, count_by}
use Rattle.kin_ids.specs.Users.{same_tag}
use Rattle.kin_store.specs.declared.pairs.TagUser.{TagUser}
use Rattle.kin_counts.specs.Changes.{RaisesTags}
use Rattle.kin_counts.proofs.changes.raise_tags.Given as goal

abbrev pub invariant-loop-row : goal.invariant-loop-row
invariant-loop-row l = RaisesTags l.initial.counted (λ t. count_by (λ (x : TagUser). same_tag t x.tag) (take l.row-index l.rows)) l.counted
