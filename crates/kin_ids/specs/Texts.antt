-- Users and tags as texts.
use Rattle.std.specs.Prelude.{ℕ, ◌≡◌, ◌<◌, ◌==◌, ◌&&◌, ◌||◌, ◌^◌, nat_lt, Bool, List, length, Option, Some, None, if◌then◌else◌, slice_index}
use Rattle.std.specs.Str.{bytes_eq}
use Rattle.std.specs.Str.Parse.{digits_value}
use Rattle.std.specs.Fmt.{decimal}
use Rattle.kin_ids.specs.Types.{User}
pub use Rattle.kin_ids.specs.TagTexts.{is_tag_byte, is_tag, tag_of}

-- the number below a bound whose decimal text this is: no sign, no leading zero
abbrev pub number_of : ℕ → List ℕ → Option ℕ
number_of bound text = if bytes_eq (decimal (digits_value 10 text)) text && nat_lt (digits_value 10 text) bound then Some (digits_value 10 text) else None

-- a plus, or a zero before more, stands in front
abbrev pub has_needless_front : List ℕ → Bool
has_needless_front text = slice_index text 0 == 43 || (slice_index text 0 == 48 && nat_lt 1 (length text))

-- the user of a number
abbrev pub as_user : Option ℕ → Option User
as_user None = None
as_user (Some n) = Some (record { 0 = n })

-- the user whose decimal text this is, 0 to 4294967295
abbrev pub user_of : List ℕ → Option User
user_of text = as_user (number_of (2 ^ 32) text)

-- reading undoes writing
abbrev pub NumberLaw : Type 0
NumberLaw = (n : ℕ) → n < 2 ^ 64 → number_of (2 ^ 64) (decimal n) ≡ Some n

abbrev pub UserLaw : Type 0
UserLaw = (u : User) → u.0 < 2 ^ 32 → user_of (decimal u.0) ≡ Some u
