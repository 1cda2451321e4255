use Rattle.std.proofs.Common.{◌≡◌, ◌++◌, ◌+◌, ◌-◌}
use Rattle.kin_gen.specs.Rounds as rounds
use Rattle.kin_gen.proofs.events.play.Given as goal

-- the rounds so far and those from here on make the whole
abbrev pub invariant-loop-number : goal.invariant-loop-number
invariant-loop-number l = record {
  events : l.events.items ++ rounds.rounds l.n (l.n + 1 - l.number) l.number l.standing ≡ l.initial.events.items ++ rounds.rounds l.n l.n 1 (rounds.opening l.seed);
  young : rounds.AreYoung l.number l.standing;
}
