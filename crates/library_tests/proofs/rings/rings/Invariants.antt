use Rattle.library_tests.proofs.rings.rings.Given as goal

abbrev pub ghosts-exercise : goal.ghosts-exercise
ghosts-exercise g a = record { name = a.blank.name; parts = a.blank.parts }
