use Rattle.kin_probe.proofs.tests.walks.Given as goal

abbrev pub ghosts-walk_calls : goal.ghosts-walk_calls
ghosts-walk_calls g a = record { name = a.blank.name; parts = a.blank.parts }
