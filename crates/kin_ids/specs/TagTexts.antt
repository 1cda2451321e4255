-- Tags as texts.
use Rattle.std.specs.Prelude.{ℕ, ◌==◌, ◌&&◌, ◌||◌, nat_le, Bool, List, length, Option, Some, None, if◌then◌else◌}
use Rattle.std.specs.List.{list_all}

-- a letter from a to z, a digit, or the low line
abbrev pub is_tag_byte : ℕ → Bool
is_tag_byte b = (nat_le 97 b && nat_le b 122) || ((nat_le 48 b && nat_le b 57) || b == 95)

-- a tag is a text of 1 to 24 such characters
abbrev pub is_tag : List ℕ → Bool
is_tag text = (nat_le 1 (length text) && nat_le (length text) 24) && list_all is_tag_byte text

-- the tag of a text, itself
abbrev pub tag_of : List ℕ → Option (List ℕ)
tag_of text = if is_tag text then Some text else None
