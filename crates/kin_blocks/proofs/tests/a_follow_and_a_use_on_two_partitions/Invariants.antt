use Rattle.kin_blocks.proofs.tests.a_follow_and_a_use_on_two_partitions.Given as goal

abbrev pub ghosts-assert_halves : goal.ghosts-assert_halves
ghosts-assert_halves g a = record { name = a.blank.name; parts = a.blank.parts }
