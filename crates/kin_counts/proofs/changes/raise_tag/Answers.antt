use Rattle.std.proofs.Common.{ℕ, ◌∙◌, List, sym, ap}
use Rattle.kin_rules.specs.Results.{has_tag}
use Rattle.kin_counts.specs.Changes.{raised}
use Rattle.kin_counts.proofs.Moving.{raised-is}
use Rattle.kin_counts.proofs.Tagging.{tags-one, tags-none}
use Rattle.kin_counts.proofs.changes.raise_tag.Goals as goal

pub returns-then-is_among : goal.returns-then-is_among
returns-then-is_among c =
    tags-one c.args.counted.now c.put_tag.new.self c.args.t c.saturating_add.result
    (sym (ap (λ (ts : List (List ℕ)). has_tag ts c.args.t) c.tags.ensures.tags) ∙ (sym c.is_among.ensures ∙ c.if-is_among.true))
    (c.saturating_add.ensures ∙ (raised-is 1 c.users_of-n.result c.users_of-n.type_inv ∙ ap (raised 1) c.users_of-n.ensures))
    c.put_tag.ensures

pub returns-else-is_among : goal.returns-else-is_among
returns-else-is_among c =
    tags-none c.args.counted.now c.args.t (sym (ap (λ (ts : List (List ℕ)). has_tag ts c.args.t) c.tags.ensures.tags)
    ∙ (sym c.is_among.ensures ∙ c.if-is_among.false))
