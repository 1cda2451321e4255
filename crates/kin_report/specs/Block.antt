-- The block that is printed for an epoch: its lines, each by its words.
use Rattle.std.specs.Prelude.{ℕ, ◌==◌, Bool, true, false, if◌then◌else◌, List, [], ◌∷◌, ◌++◌, Option, Some, None, codes, length, map}
use Rattle.std.specs.List.{flat_map}
use Rattle.std.specs.Fmt.{decimal}
use Rattle.kin_ids.specs.declared.ids.User.{User}
use Rattle.kin_ids.specs.declared.stamps.End.{End}
use Rattle.kin_ids.specs.declared.options.OptionWords.{OptionWords}
use Rattle.kin_ids.specs.Graph.{Graph, vertices, tags_in, said}
use Rattle.kin_rules.specs.declared.numbers.UserNumber.{UserNumber}
use Rattle.kin_rules.specs.declared.numbers.TagNumber.{TagNumber}
use Rattle.kin_rules.specs.declared.numbers.KCount.{KCount}
use Rattle.kin_rules.specs.Counts.{in_count, out_count, tag_count}
use Rattle.kin_rules.specs.Nets.{hops_of, close_of}
use Rattle.kin_rules.specs.Ranks.{rank}
use Rattle.kin_rules.specs.Exposure.{exposures}
use Rattle.kin_rules.specs.Top.{top_users, top_tags, numbered_users, numbered_tags}
use Rattle.kin_report.specs.Text.{Words, text_of}

-- where a node stands at the end of the epoch: `-` at the start, else the incarnation and the position
abbrev pub end_word : End → List ℕ
end_word e = if e.to == 0 then codes "-" else decimal e.inc.0 ++ codes "@" ++ decimal e.to

-- `epoch K E.. records R bad B`
abbrev pub epoch_line : ℕ → List End → ℕ → ℕ → Words
epoch_line k ends records bad =
    (codes "epoch" ∷ decimal k ∷ map end_word ends) ++ codes "records" ∷ decimal records ∷ codes "bad" ∷ decimal bad ∷ []

-- a line for each entry: these words, the user and the number
abbrev pub user_lines : Words → List UserNumber → List Words
user_lines words entries = map (λ e. words ++ decimal e.user.0 ∷ decimal e.number ∷ []) entries

-- the top list of a number that each vertex has
abbrev pub number_lines : List ℕ → ℕ → Graph → (User → ℕ) → List Words
number_lines word top g f = user_lines (word ∷ []) (top_users (numbered_users f (vertices g)) top)

-- the tags in use with the greatest numbers of users
abbrev pub tag_list : Graph → ℕ → List TagNumber
tag_list g top = top_tags (numbered_tags (tag_count g) (tags_in g)) top

-- `tag T N`
abbrev pub tag_lines : List TagNumber → List Words
tag_lines tags = map (λ e. codes "tag" ∷ e.tag ∷ decimal e.number ∷ []) tags

abbrev pub pair_word : KCount → List ℕ
pair_word c = decimal c.k ++ codes ":" ++ decimal c.users

-- `expo T K:N K:N`
abbrev pub expo_lines : (List ℕ → List KCount) → List TagNumber → List Words
expo_lines pairs tags = map (λ e. codes "expo" ∷ e.tag ∷ map pair_word (pairs e.tag)) tags

-- the entry of a user that has a value
abbrev pub entry_of : User → Option ℕ → List UserNumber
entry_of u None = []
entry_of u (Some n) = record { user = u; number = n } ∷ []

-- those of these users that have a value, each with it
abbrev pub valued_users : (User → Option ℕ) → List User → List UserNumber
valued_users f us = flat_map (λ u. entry_of u (f u)) us

-- for a landmark: how many users have a value, and the top list of the values
abbrev pub value_lines : List ℕ → List ℕ → ℕ → User → List UserNumber → List Words
value_lines head word top landmark valued =
    (head ∷ decimal landmark.0 ∷ decimal (length valued) ∷ []) ∷ user_lines (word ∷ decimal landmark.0 ∷ []) (top_users valued top)

-- `hops L N` and `hop L U D`
abbrev pub hops_lines : Graph → ℕ → List User → List Words
hops_lines g top landmarks =
    flat_map (λ l. value_lines (codes "hops") (codes "hop") top l (valued_users (hops_of g l) (vertices g))) landmarks

-- `close L N` and `cost L U C`
abbrev pub close_lines : Graph → ℕ → List User → List Words
close_lines g top landmarks =
    flat_map (λ l. value_lines (codes "close") (codes "cost") top l (valued_users (close_of g l) (vertices g))) landmarks

-- the lines of a rule, where it is chosen
abbrev pub chosen : Bool → List Words → List Words
chosen true lines = lines
chosen false lines = []

-- the lines of the chosen rules on a graph
abbrev pub rule_lines : OptionWords → Graph → List Words
rule_lines options g =
    chosen options.rules.ins (number_lines (codes "in") options.top g (in_count g))
    ++ chosen options.rules.outs (number_lines (codes "out") options.top g (out_count g))
    ++ chosen options.rules.said (number_lines (codes "said") options.top g (said g))
    ++ chosen options.rules.tags (tag_lines (tag_list g options.top))
    ++ chosen options.rules.rank (number_lines (codes "rank") options.top g (rank g))
    ++ chosen options.rules.expo (expo_lines (exposures g) (tag_list g options.top))
    ++ chosen options.rules.hops (hops_lines g options.top options.landmarks)
    ++ chosen options.rules.close (close_lines g options.top options.landmarks)

-- the block of epoch k: where the nodes stand, how many records are new and how many of these are Bad, and each chosen rule on its graph
abbrev pub block_lines : ℕ → List End → ℕ → ℕ → OptionWords → Graph → List Words
block_lines k ends records bad options g = epoch_line k ends records bad ∷ rule_lines options g

abbrev pub block_text : ℕ → List End → ℕ → ℕ → OptionWords → Graph → List ℕ
block_text k ends records bad options g = text_of (block_lines k ends records bad options g)
