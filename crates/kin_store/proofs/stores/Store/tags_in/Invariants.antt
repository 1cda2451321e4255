use Rattle.std.proofs.Common.{◌≡◌, ◌++◌, not, filter}
use Rattle.std.specs.Map.{keys_of}
use Rattle.kin_store.specs.Rows.{is_none}
use Rattle.kin_store.specs.State.{block_at, users_of}
use Rattle.kin_store.proofs.stores.Store.tags_in.Given as goal

-- the tags so far, and those of the block that are left
abbrev pub invariant-loop-tag : goal.invariant-loop-tag
invariant-loop-tag l =
    l.tags.items ++ filter (λ t. not (is_none (users_of l.self t))) l.tag-iterator ≡ filter (λ t. not (is_none (users_of l.self t)))
    (keys_of (block_at l.self l.slot).tags)
