use Rattle.kin_graph.proofs.store_tests.assert_halves.Given as goal

abbrev pub ghosts-assert_followers : goal.ghosts-assert_followers
ghosts-assert_followers g a = record { name = a.blank.name; parts = a.blank.parts }
