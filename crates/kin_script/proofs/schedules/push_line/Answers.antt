use Rattle.std.proofs.Common.{rules, ◌≡◌, ◌∙◌, ◌<◌, ap, sym, refl, false, inr, ⊎_elim}
use Rattle.std.proofs.lemmas.Bool.{true≢false}
use Rattle.kin_script.specs.Schedules.{is_silent}
use Rattle.kin_script.specs.Readings.{event_read}
use Rattle.kin_script.proofs.Texts.{read_says, read_back}
use Rattle.kin_script.proofs.schedules.push_line.Goals as goal

pub returns-in_default-clause-line : goal.returns-in_default-clause-line
returns-in_default-clause-line c =
    let heard : is_silent c.args.line.now ≡ false = search rules in
    let few_nodes : c.args.nodes < 65536 = search rules in
    let few_parts : c.args.parts < 65536 = search rules in (
      refl,
      ⊎_elim (λ silent. absurd (true≢false (sym silent ∙ heard)))
          (λ told. c.in_default.not-Some told.0
          (c.event_of.ensures ∙ ap (event_read c.args.nodes c.args.parts) (sym told.2) ∙ read_back c.args.nodes c.args.parts few_nodes few_parts told.0 told.1)),
    )

pub returns-clause-ok : goal.returns-clause-ok
returns-clause-ok c =
    let heard : is_silent c.args.line.now ≡ false = search rules in
    let says = read_says c.args.nodes c.args.parts c.args.line.now c.in-Some.event (sym c.event_of.ensures ∙ c.in-Some.is) in
    inr (c.in-Some.event, heard, says.0, says.1, search rules)
