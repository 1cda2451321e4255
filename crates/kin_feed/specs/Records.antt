-- The records of a feed.
use Rattle.std.specs.Prelude.{ℕ, ◌==◌, ◌&&◌, nat_le, List, [], ◌∷◌, length, map, codes, Option, Some, None, option_map, if◌then◌else◌}
use Rattle.std.specs.Str.{bytes_eq}
use Rattle.csv.specs.Reading.{records, default_config, strip_bom}
use Rattle.kin_ids.specs.declared.ids.User.{User}
use Rattle.kin_ids.specs.declared.ops.Item.{Item}
use Rattle.kin_ids.specs.declared.ops.Record.{Record}
use Rattle.kin_ids.specs.declared.ops.Item.TheVariants as item
use Rattle.kin_ids.specs.declared.ops.Record.TheVariants as record_kind
use Rattle.kin_ids.specs.Sizes.{most_items}
use Rattle.kin_ids.specs.Texts.{user_of, tag_of}

-- the rows that csv gives of the bytes: no header, any number of fields, no trimming, and no byte order mark at the start
abbrev pub rows_of : List ℕ → List (List (List ℕ))
rows_of bytes = records default_config (strip_bom bytes)

-- an item: `@` and a user is a mention, `#` and a tag is a use
abbrev pub item_of : List ℕ → Option Item
item_of [] = None
item_of (mark ∷ text) =
    if mark == 64 then option_map item.At (user_of text)
    else if mark == 35 then option_map item.Hash (tag_of text)
    else None

-- an item before others, where all are items
abbrev pub with_item : Option Item → Option (List Item) → Option (List Item)
with_item (Some x) (Some xs) = Some (x ∷ xs)
with_item _ _ = None

-- the items of these fields, where each of them is one
abbrev pub items_of : List (List ℕ) → Option (List Item)
items_of [] = Some []
items_of (field ∷ fields) = with_item (item_of field) (items_of fields)

-- two users who are not the same
abbrev pub unlike : Option User → Option User → Option (User × User)
unlike (Some u) (Some v) = if u.0 == v.0 then None else Some (u, v)
unlike _ _ = None

-- the two users of these fields, where there is no third field
abbrev pub pair_of : List (List ℕ) → Option (User × User)
pair_of (u ∷ v ∷ []) = unlike (user_of u) (user_of v)
pair_of _ = None

-- a Follow or an Unfollow of two users, and Bad where there are none
abbrev pub edge_of : (User → User → Record) → Option (User × User) → Record
edge_of make (Some p) = make p.0 p.1
edge_of make None = record_kind.Bad

-- a tweet has 1 to 16 items
abbrev pub tweet_by : Option User → Option (List Item) → Record
tweet_by (Some u) (Some items) = if nat_le 1 (length items) && nat_le (length items) most_items then record_kind.Tweet u items else record_kind.Bad
tweet_by _ _ = record_kind.Bad

-- the tweet of these fields: its user and then its items
abbrev pub tweet_of : List (List ℕ) → Record
tweet_of [] = record_kind.Bad
tweet_of (u ∷ items) = tweet_by (user_of u) (items_of items)

-- the record of a row by its first field: `f` and two users, `x` and two users, `t` and a user and items; anything else is Bad
abbrev pub record_by : List ℕ → List (List ℕ) → Record
record_by kind fields =
    if bytes_eq kind (codes "f") then edge_of record_kind.Follow (pair_of fields)
    else if bytes_eq kind (codes "x") then edge_of record_kind.Unfollow (pair_of fields)
    else if bytes_eq kind (codes "t") then tweet_of fields
    else record_kind.Bad

-- the record of a row
abbrev pub record_of : List (List ℕ) → Record
record_of [] = record_kind.Bad
record_of (kind ∷ fields) = record_by kind fields

-- the records of a feed: each row is one
abbrev pub records_of : List ℕ → List Record
records_of bytes = map record_of (rows_of bytes)
