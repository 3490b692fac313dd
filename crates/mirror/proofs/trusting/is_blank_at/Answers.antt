use Rattle.mirror.proofs.trusting.is_blank_at.Goals as goal

pub is_blank-requires : goal.is_blank-requires
is_blank-requires g c = (c.requires.lawful.each c.args.place c.area_at.result c.area_at.ensures).in_bank
