-- Command lines as lists of items.
use Rattle.std.specs.Prelude.{ℕ, ◌≡◌, ◌==◌, ◌&&◌, not, Bool, true, false, List, [], ◌∷◌, ◌++◌, flat_map, find, Option, Some, None, option_and_then, codes}
use Rattle.std.specs.List.{list_all, list_any}
use Rattle.std.specs.Str.{bytes_eq}

abbrev pub Text : Type 0
Text = List ℕ

-- A flag, an option with its value in the next word, or an option with its value in the same word.
pub data Item : Type 0 where
  flag : Text → Item
  spaced : Text → Text → Item
  joined : Text → Text → Item

-- the words that write an item: `--name`; `--name` and the value; `--name=value`
abbrev pub words_of : Item → List Text
words_of (flag name) = (codes "--" ++ name) ∷ []
words_of (spaced name value) = (codes "--" ++ name) ∷ value ∷ []
words_of (joined name value) = (codes "--" ++ name ++ codes "=" ++ value) ∷ []

abbrev pub name_of : Item → Text
name_of (flag name) = name
name_of (spaced name value) = name
name_of (joined name value) = name

abbrev pub value_of : Item → Option Text
value_of (flag name) = None
value_of (spaced name value) = Some value
value_of (joined name value) = Some value

-- a value isn't empty and doesn't begin with `-`
abbrev pub is_value : Text → Bool
is_value [] = false
is_value (b ∷ bs) = not (b == 45)

-- the options and the flags of a command
pub record Names : Type 0 where
  pub options : List Text
  pub flags : List Text

-- the text is one of these
abbrev pub has : Text → List Text → Bool
has text list = list_any (λ x. bytes_eq x text) list

-- no two of these are alike
abbrev pub are_distinct : List Text → Bool
are_distinct [] = true
are_distinct (x ∷ xs) = not (has x xs) && are_distinct xs

-- an item of this name is among these
abbrev pub is_taken : Text → List Item → Bool
is_taken name items = list_any (λ item. bytes_eq (name_of item) name) items

-- no item has the name of one before it
abbrev pub are_new : List Item → List Item → Bool
are_new before [] = true
are_new before (item ∷ rest) = not (is_taken (name_of item) before) && are_new (before ++ item ∷ []) rest

-- the item is one of the command's
abbrev pub is_item : Names → Item → Bool
is_item c (flag name) = has name c.flags
is_item c (spaced name value) = has name c.options && is_value value
is_item c (joined name value) = has name c.options && is_value value

-- these items write the words, are items of the command, and each name comes at most once
pub record IsLine (c : Names) (words : List Text) (items : List Item) : Type 0 where
  pub written : flat_map words_of items ≡ words
  pub known : list_all (is_item c) items ≡ true
  pub once : are_new [] items ≡ true

-- the value of the option of this name, where it is there
abbrev pub value_at : Text → List Item → Option Text
value_at name items = option_and_then value_of (find (λ item. bytes_eq (name_of item) name) items)
