use Rattle.petaqwen.proofs.subsystem.Subsystem.open.Given as goal

abbrev pub ghosts-mount : goal.ghosts-mount
ghosts-mount g a = record { name = a.blank.name; parts = a.blank.parts }
