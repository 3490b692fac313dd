use Rattle.library_tests.proofs.flashes.flashes.Given as goal

abbrev pub ghosts-exercise : goal.ghosts-exercise
ghosts-exercise g a = record { name = a.blank.name; parts = a.blank.parts }

abbrev pub ghosts-exercise-2 : goal.ghosts-exercise-2
ghosts-exercise-2 g a = record { name = a.blank.name; parts = a.blank.parts }
