-- The words of a line, and the lines that the result of an epoch gives.
use Rattle.std.specs.Prelude.{ℕ, ◌+◌, List, [], ◌∷◌, ◌++◌, Option, codes}
use Rattle.std.specs.List.{flat_map}
use Rattle.std.specs.Fmt.{decimal}
use Rattle.kin_ids.specs.declared.ids.User.{User}
use Rattle.kin_ids.specs.declared.options.OptionWords.{OptionWords}
use Rattle.kin_rules.specs.declared.numbers.Num.{Num}
use Rattle.kin_rules.specs.declared.numbers.Num.TheVariants as num
use Rattle.kin_rules.specs.declared.numbers.TagNumber.{TagNumber}
use Rattle.kin_rules.specs.Results.{ResultView, number_in, tag_users_in, expo_in, hops_in, close_in}
use Rattle.kin_rules.specs.Top.{top_users, top_tags, numbered_users, numbered_tags}
use Rattle.kin_report.specs.declared.words.Word.{Word}
use Rattle.kin_report.specs.declared.words.Word.TheVariants as word
use Rattle.kin_report.specs.declared.walks.Walk.{Walk}
use Rattle.kin_report.specs.declared.walks.Walk.TheVariants as walk
use Rattle.kin_report.specs.Text.{Words}
use Rattle.kin_report.specs.Block.{user_lines, tag_lines, expo_lines, valued_users, value_lines, chosen}

abbrev pub word_text : Word → List ℕ
word_text (word.Text bytes) = bytes.now
word_text (word.Number n) = decimal n

-- words, each behind a space
abbrev pub spaced_on : Words → List ℕ
spaced_on words = flat_map (λ w. codes " " ++ w) words

-- the value of a user from the landmark of a number
abbrev pub value_in : ResultView → Walk → ℕ → User → Option ℕ
value_in r walk.Hops i u = hops_in r i u
value_in r walk.Close i u = close_in r i u

-- `hops` or `close`, and `hop` or `cost`
abbrev pub head_of : Walk → List ℕ
head_of walk.Hops = codes "hops"
head_of walk.Close = codes "close"

abbrev pub entry_name : Walk → List ℕ
entry_name walk.Hops = codes "hop"
entry_name walk.Close = codes "cost"

-- the lines of each rule, by the users, the tags and the values of a result
abbrev pub result_numbers : ResultView → ℕ → List ℕ → Num → List Words
result_numbers r top name which = user_lines (name ∷ []) (top_users (numbered_users (number_in r which) r.users) top)

abbrev pub result_tags : ResultView → ℕ → List TagNumber
result_tags r top = top_tags (numbered_tags (tag_users_in r) r.tags) top

-- of a landmark, and of landmarks that are numbered from one on
abbrev pub result_walk : ResultView → ℕ → Walk → ℕ → User → List Words
result_walk r top kind i landmark = value_lines (head_of kind) (entry_name kind) top landmark (valued_users (value_in r kind i) r.users)

abbrev pub result_walks : ResultView → ℕ → Walk → ℕ → List User → List Words
result_walks r top kind i [] = []
result_walks r top kind i (landmark ∷ rest) = result_walk r top kind i landmark ++ result_walks r top kind (i + 1) rest

-- the lines of the chosen rules
abbrev pub result_lines : OptionWords → ResultView → List Words
result_lines options r =
    chosen options.rules.ins (result_numbers r options.top (codes "in") num.In)
    ++ chosen options.rules.outs (result_numbers r options.top (codes "out") num.Out)
    ++ chosen options.rules.said (result_numbers r options.top (codes "said") num.Said)
    ++ chosen options.rules.tags (tag_lines (result_tags r options.top))
    ++ chosen options.rules.rank (result_numbers r options.top (codes "rank") num.Rank)
    ++ chosen options.rules.expo (expo_lines (expo_in r) (result_tags r options.top))
    ++ chosen options.rules.hops (result_walks r options.top walk.Hops 0 options.landmarks)
    ++ chosen options.rules.close (result_walks r options.top walk.Close 0 options.landmarks)
