use Rattle.petaqwen.proofs.subsystem.Subsystem.close.Goals as goal

pub returns-clause-sound : goal.returns-clause-sound
returns-clause-sound g c = c.requires.ready.sound
