use Rattle.kin_push.proofs.turns.next_active.Given as goal

-- how many are noted
abbrev pub decreases-loop-u : goal.decreases-loop-u
decreases-loop-u l = l.waves
