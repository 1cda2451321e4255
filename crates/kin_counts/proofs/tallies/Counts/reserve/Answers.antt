use Rattle.std.proofs.Common.{ℕ, Option, unwrap_or, ◌∙◌, ap, arith}
use Rattle.kin_counts.specs.Tallies.{TallyView, kept, kept_tag}
use Rattle.kin_counts.proofs.tallies.Counts.reserve.Goals as goal

pub returns-in_default-clause-room : goal.returns-in_default-clause-room
returns-in_default-clause-room c = λ few. let room = ap (λ (r : TallyView). r.spare) c.self.view_is in absurd
    (omega (arith, few, room, c.capacity.ensures, c.capacity.type_inv, c.in_default.ensures))

pub returns-clause-same : goal.returns-clause-same
returns-clause-same c = record {
  ins = λ u. ap (λ (o : Option ℕ). unwrap_or o 0) (c.reserve.ensures.entries.2 u.0) ∙ ap (λ (r : TallyView). kept r.ins u) c.self.view_is;
  outs = λ u. ap (λ (o : Option ℕ). unwrap_or o 0) (c.reserve-2.ensures.entries.2 u.0)
      ∙ ap (λ (r : TallyView). kept r.outs u) c.self.view_is;
  said = λ u. ap (λ (o : Option ℕ). unwrap_or o 0) (c.reserve-3.ensures.entries.2 u.0)
      ∙ ap (λ (r : TallyView). kept r.said u) c.self.view_is;
  tag_users = λ t. ap (λ (o : Option ℕ). unwrap_or o 0) (c.reserve-4.ensures.entries.2 t)
      ∙ ap (λ (r : TallyView). kept_tag r.tag_users t) c.self.view_is;
}
