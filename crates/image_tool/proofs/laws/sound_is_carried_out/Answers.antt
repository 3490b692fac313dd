use Rattle.image_tool.proofs.Sound.{sound_is_carried_out}
use Rattle.image_tool.proofs.laws.sound_is_carried_out.Goals as goal

pub returns : goal.returns
returns c = sound_is_carried_out
