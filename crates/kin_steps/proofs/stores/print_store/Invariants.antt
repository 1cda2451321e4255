use Rattle.kin_steps.proofs.stores.print_store.Given as goal

abbrev pub ghosts-print_users : goal.ghosts-print_users
ghosts-print_users g a = record { name = a.blank.name; parts = a.blank.parts }
