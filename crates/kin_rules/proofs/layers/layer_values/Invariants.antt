use Rattle.kin_rules.proofs.layers.layer_values.Given as goal

abbrev pub ghosts-layers_by : goal.ghosts-layers_by
ghosts-layers_by g a = record { name = a.blank.name; parts = a.blank.parts }
