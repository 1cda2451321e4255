-- On which partition users and tags live.
use Rattle.std.specs.Prelude.{ℕ, ◌+◌, ◌*◌, ◌%◌, ◌^◌, List, fold}
use Rattle.kin_ids.specs.Types.{User}

-- the partition of a user
abbrev pub user_part : ℕ → User → ℕ
user_part parts u = u.0 % parts

-- the number that the bytes of a tag fold to
abbrev pub tag_hash : List ℕ → ℕ
tag_hash tag = fold (λ h b. (h * 31 + b) % 2 ^ 32) 0 tag

-- the partition of a tag
abbrev pub tag_part : ℕ → List ℕ → ℕ
tag_part parts tag = tag_hash tag % parts
