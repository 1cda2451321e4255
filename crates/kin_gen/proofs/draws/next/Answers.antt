use Rattle.std.proofs.Common.{ℕ, List, ap}
use Rattle.kin_gen.specs.Draws.{draw, after}
use Rattle.kin_gen.proofs.draws.next.Goals as goal

pub returns-clause-word : goal.returns-clause-word
unfolding draw
returns-clause-word c = ap (λ (p : ℕ × List ℕ). p.0) c.next_word.ensures

pub returns-clause-state : goal.returns-clause-state
unfolding after
returns-clause-state c = ap (λ (p : ℕ × List ℕ). p.1) c.next_word.ensures
