-- A command of options that take one value, and flags, as clap sees it.
use Rattle.std.specs.Prelude.{List, ◌++◌, map, true, Some}
use Rattle.clap.specs.Walk.{Rule}
use Rattle.clap.specs.Simple.{App, new_app, new_rule, on_top}
use Rattle.clap.specs.declared.builder.action.ArgAction.TheVariants.{Set, SetTrue}
use Rattle.kin_words.specs.Items.{Text}

abbrev pub option_rule : Text → Rule
option_rule name = record (new_rule name) { long = Some name; action = Some Set }

abbrev pub flag_rule : Text → Rule
flag_rule name = record (new_rule name) { long = Some name; action = Some SetTrue }

-- the command of these options and flags, without a help flag
abbrev pub app_for : Text → List Text → List Text → App
app_for name os fs = on_top (λ s. record s { no_binary_name = true; disable_help_flag = true; rules = map option_rule os ++ map flag_rule fs }) (new_app name)
