use Rattle.kin_push.proofs.settle_tests.settled_values_are_costs_of_walks.Given as goal

abbrev pub ghosts-settled : goal.ghosts-settled
ghosts-settled g a = record { name = a.blank.name; parts = a.blank.parts }
