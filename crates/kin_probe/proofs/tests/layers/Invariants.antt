use Rattle.kin_probe.proofs.tests.layers.Given as goal

abbrev pub ghosts-layer_calls : goal.ghosts-layer_calls
ghosts-layer_calls g a = record { name = a.blank.name; parts = a.blank.parts }
