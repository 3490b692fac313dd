use Rattle.petaqwen.proofs.subsystem.Subsystem.save.Given as goal

abbrev pub ghosts-save : goal.ghosts-save
ghosts-save g a = record { name = a.blank.name; parts = a.blank.parts }
