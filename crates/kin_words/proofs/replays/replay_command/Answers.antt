use Rattle.std.proofs.Common.{◌≡◌, ◌∙◌, ap, ap₂, true, codes}
use Rattle.std.proofs.lemmas.Result.{IfOk-weaker}
use Rattle.clap.specs.Words.{app_of, with_rule, new_app}
use Rattle.clap.specs.Simple.{on_top, app_of_fields}
use Rattle.kin_words.proofs.replays.replay_command.Goals as goal

pub returns : goal.returns
returns c =
    let unnamed : app_of c.no_binary_name.result ≡ on_top (λ s. record s { no_binary_name = true }) (new_app (codes "replay")) =
    ap app_of_fields c.no_binary_name.ensures ∙ ap (on_top (λ s. record s { no_binary_name = true })) c.new.ensures.app in
    let bare : app_of c.disable_help_flag.result ≡ on_top (λ s. record s { no_binary_name = true; disable_help_flag = true }) (new_app (codes "replay")) =
    ap app_of_fields c.disable_help_flag.ensures ∙ ap (on_top (λ s. record s { disable_help_flag = true })) unnamed in
    let script = c.in_ok-arg.ensures.shape c.option.ensures.local ∙ ap₂ with_rule bare c.option.ensures.rule in
    let feeds = c.in_ok-arg-2.ensures.shape c.option-2.ensures.local ∙ ap₂ with_rule script c.option-2.ensures.rule in
    let parts = c.in_ok-arg-3.ensures.shape c.option-3.ensures.local ∙ ap₂ with_rule feeds c.option-3.ensures.rule in
    let chosen = c.in_ok-arg-4.ensures.shape c.option-4.ensures.local ∙ ap₂ with_rule parts c.option-4.ensures.rule in
    let landmarks = c.in_ok-arg-5.ensures.shape c.option-5.ensures.local ∙ ap₂ with_rule chosen c.option-5.ensures.rule in
    let top = c.in_ok-arg-6.ensures.shape c.option-6.ensures.local ∙ ap₂ with_rule landmarks c.option-6.ensures.rule in
    IfOk-weaker c.arg-7.result _ _ (λ r h. h.shape c.flag.ensures.local ∙ ap₂ with_rule top c.flag.ensures.rule) c.arg-7.ensures
