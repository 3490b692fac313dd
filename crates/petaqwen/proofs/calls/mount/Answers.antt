use Rattle.petaqwen.proofs.calls.mount.Goals as goal

pub returns-clause-mounts : goal.returns-clause-mounts
returns-clause-mounts g c = record {
  touches = c.mount.ensures.touches;
  ends = c.mount.ensures.ends;
  sound = c.mount.ensures.sound;
  keeps = c.mount.ensures.keeps;
  rests = c.mount.ensures.rests;
  units = c.mount.ensures.units;
}
