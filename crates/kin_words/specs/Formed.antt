-- What the product itself refuses of words.
use Rattle.std.specs.Prelude.{◌==◌, ◌&&◌, not, Bool, true, false, [], ◌∷◌, Option, Some, None, if◌then◌else◌}
use Rattle.kin_words.specs.Items.{Text, is_value}

-- what stands after the first `=`, where there is one
abbrev pub after_equals : Text → Option Text
after_equals [] = None
after_equals (b ∷ bs) = if b == 61 then Some bs else after_equals bs

abbrev pub is_value_if_any : Option Text → Bool
is_value_if_any None = true
is_value_if_any (Some value) = is_value value

-- a name with a value, or alone
abbrev pub is_formed_name : Text → Bool
is_formed_name [] = false
is_formed_name (b ∷ bs) = is_value_if_any (after_equals (b ∷ bs))

-- the word is a value, `--name`, or `--name=value`
abbrev pub is_formed : Text → Bool
is_formed [] = false
is_formed (a ∷ []) = not (a == 45)
is_formed (a ∷ b ∷ name) = if a == 45 && b == 45 then is_formed_name name else not (a == 45)
