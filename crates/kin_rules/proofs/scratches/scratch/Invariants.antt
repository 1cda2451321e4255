use Rattle.kin_rules.proofs.scratches.scratch.Given as goal

abbrev pub ghosts-scratch_by : goal.ghosts-scratch_by
ghosts-scratch_by g a = record { name = a.blank.name; parts = a.blank.parts }
