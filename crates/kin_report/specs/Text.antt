-- Lines of words.
use Rattle.std.specs.Prelude.{ℕ, List, [], ◌∷◌, ◌++◌, codes}
use Rattle.std.specs.List.{flat_map}

-- the words of a line
abbrev pub Words : Type 0
Words = List (List ℕ)

-- words parted by one space
abbrev pub spaced : Words → List ℕ
spaced [] = []
spaced (w ∷ []) = w
spaced (w ∷ ws) = w ++ codes " " ++ spaced ws

-- a line ends with LF
abbrev pub line_of : Words → List ℕ
line_of words = spaced words ++ 10 ∷ []

-- a text is its lines one after another
abbrev pub text_of : List Words → List ℕ
text_of lines = flat_map line_of lines
