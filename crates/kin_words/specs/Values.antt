-- What the values of options mean.
use Rattle.std.specs.Prelude.{ℕ, ◌==◌, ◌&&◌, ◌^◌, nat_le, Bool, true, false, List, [], ◌∷◌, length, Option, Some, None, option_map, option_and_then, if◌then◌else◌, codes}
use Rattle.std.specs.List.{list_all, slice_split}
use Rattle.kin_ids.specs.declared.ids.User.{User}
use Rattle.kin_ids.specs.Texts.{number_of, user_of}
use Rattle.kin_ids.specs.declared.options.RuleSet.{RuleSet}
use Rattle.kin_words.specs.Items.{Text, has, are_distinct}

-- what a value means, and a default where there is none
abbrev pub or_default : {X : Type 0} → X → (Text → Option X) → Option Text → Option X
or_default default read None = Some default
or_default default read (Some text) = read text

abbrev pub in_range : ℕ → ℕ → Option ℕ → Option ℕ
in_range least most None = None
in_range least most (Some n) = if nat_le least n && nat_le n most then Some n else None

-- a decimal number from the least to the most
abbrev pub number_from : ℕ → ℕ → Text → Option ℕ
number_from least most text = in_range least most (number_of (2 ^ 64) text)

-- the parts of a list, which stand between `,`
abbrev pub parts_of : Text → List Text
parts_of text = slice_split (λ b. b == 44) text

abbrev pub is_filled : Text → Bool
is_filled [] = false
is_filled (b ∷ bs) = true

-- at most 16 texts, none of which is empty
abbrev pub are_files : List Text → Bool
are_files names = list_all is_filled names && nat_le (length names) 16

-- 1 to 16 file names; the same one may come twice
abbrev pub names_of : Text → Option (List Text)
names_of text = if are_files (parts_of text) then Some (parts_of text) else None

abbrev pub rule_names : List Text
rule_names = codes "in" ∷ codes "out" ∷ codes "said" ∷ codes "tags" ∷ codes "rank" ∷ codes "expo" ∷ codes "hops" ∷ codes "close" ∷ []

-- the rules of these names
abbrev pub chosen : List Text → RuleSet
chosen names = record {
  ins = has (codes "in") names;
  outs = has (codes "out") names;
  said = has (codes "said") names;
  tags = has (codes "tags") names;
  rank = has (codes "rank") names;
  expo = has (codes "expo") names;
  hops = has (codes "hops") names;
  close = has (codes "close") names;
}

abbrev pub are_rules : List Text → Bool
are_rules names = list_all (λ name. has name rule_names) names

-- distinct names of rules, in any order
abbrev pub rules_of : Text → Option RuleSet
rules_of text = if are_rules (parts_of text) && are_distinct (parts_of text) then Some (chosen (parts_of text)) else None

-- each text as a user
abbrev pub users_of : List Text → Option (List User)
users_of [] = Some []
users_of (t ∷ ts) = option_and_then (λ u. option_map (λ us. u ∷ us) (users_of ts)) (user_of t)

-- 1 to 16 distinct users, each of which has one text
abbrev pub landmarks_of : Text → Option (List User)
landmarks_of text = if nat_le (length (parts_of text)) 16 && are_distinct (parts_of text) then users_of (parts_of text) else None
