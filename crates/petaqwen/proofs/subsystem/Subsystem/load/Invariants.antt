use Rattle.petaqwen.proofs.subsystem.Subsystem.load.Given as goal

abbrev pub ghosts-load : goal.ghosts-load
ghosts-load g a = record { name = a.blank.name; parts = a.blank.parts }
