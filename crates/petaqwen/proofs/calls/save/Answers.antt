use Rattle.petaqwen.proofs.calls.save.Goals as goal

pub returns-clause-ends : goal.returns-clause-ends
returns-clause-ends g c = (
  record {
    touches = c.save.ensures.touches;
    area = c.save.ensures.area;
    count = c.save.ensures.ends.0;
    ends = c.save.ensures.ends.1;
    at_most = c.save.ensures.at_most;
    sound = c.save.ensures.sound;
    owes = c.save.ensures.owes;
    down = c.save.ensures.down;
    up = c.save.ensures.up;
  },
  c.save.ensures.ends.2,
  c.save.ensures.off,
)
