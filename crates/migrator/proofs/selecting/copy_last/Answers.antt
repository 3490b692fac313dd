use Rattle.flash_map.proofs.Touches.{untouched}
use Rattle.migrator.proofs.Spent.{copied-most, most_none}
use Rattle.fcb_ring.specs.Changing.{record_units}
use Rattle.std.proofs.Common.{refl}
use Rattle.migrator.proofs.Collecting.{only-scratch, copy-short, copy-fits, no-copy, others-stay, kept-itself}
use Rattle.migrator.proofs.selecting.copy_last.Goals as goal

pub copy-requires-clause-short : goal.copy-requires-clause-short
copy-requires-clause-short g c = copy-short (g.F.Flash.device c.args.flash.now) c.args.ring.now c.args.last c.in-Some.record (g.met.F.Flash.is_lawful c.args.flash.now) c.requires.scratch.stands c.requires.short c.in-Some.is

pub copy-requires-clause-fits : goal.copy-requires-clause-fits
copy-requires-clause-fits g c = copy-fits (g.F.Flash.device c.args.flash.now) c.args.ring.now c.args.last c.in-Some.record (g.met.F.Flash.is_lawful c.args.flash.now) c.requires.scratch.stands c.requires.short c.in-Some.is c.requires.scratch.end

pub returns-in_default-clause-only : goal.returns-in_default-clause-only
returns-in_default-clause-only g c = record {
  list = kept-itself (g.F.Flash.device c.args.flash.now) c.args.ring.now (g.met.F.Flash.is_lawful c.args.flash.now) c.requires.scratch.stands;
  others = others-stay (g.F.Flash.device c.args.flash.now) c.args.ring.now;
  area = refl;
  reserve = refl;
}

pub returns-in_default-2-clause-only : goal.returns-in_default-2-clause-only
returns-in_default-2-clause-only g c = record {
  list = kept-itself (g.F.Flash.device c.args.flash.now) c.args.ring.now (g.met.F.Flash.is_lawful c.args.flash.now) c.requires.scratch.stands;
  others = others-stay (g.F.Flash.device c.args.flash.now) c.args.ring.now;
  area = refl;
  reserve = refl;
}

pub returns-in_default-clause-units : goal.returns-in_default-clause-units
returns-in_default-clause-units g c = no-copy (g.F.Flash.device c.args.flash.now) c.args.ring.now c.requires.scratch.no_copies

pub returns-in_default-2-clause-units : goal.returns-in_default-2-clause-units
returns-in_default-2-clause-units g c = no-copy (g.F.Flash.device c.args.flash.now) c.args.ring.now c.requires.scratch.no_copies

pub returns-in-Some-clause-at_most : goal.returns-in-Some-clause-at_most
returns-in-Some-clause-at_most g c =
    copied-most (g.F.Flash.device c.args.flash.now) (g.F.Flash.device c.copy.new.flash) c.args.ring.now c.copy.new.self c.in-Some.record c.copy.result (c.requires.short c.in-Some.record c.in-Some.is) c.copy.ensures.copied c.copy.ensures.stopped

pub returns-in_default-clause-at_most : goal.returns-in_default-clause-at_most
returns-in_default-clause-at_most g c = let d = g.F.Flash.device c.args.flash.now in most_none d d (record_units d c.args.ring.now.area 2) refl

pub returns-in_default-2-clause-at_most : goal.returns-in_default-2-clause-at_most
returns-in_default-2-clause-at_most g c = let d = g.F.Flash.device c.args.flash.now in most_none d d (record_units d c.args.ring.now.area 2) refl

pub returns-in-Some-clause-only : goal.returns-in-Some-clause-only
returns-in-Some-clause-only g c =
    only-scratch (g.F.Flash.device c.args.flash.now) (g.F.Flash.device c.copy.new.flash) c.args.ring.now c.copy.new.self c.in-Some.record c.copy.result c.copy.ensures.copied c.copy.ensures.stopped

pub oldest-oldest-requires : goal.oldest-oldest-requires
oldest-oldest-requires g c = tt

pub copy-requires-clause-stands : goal.copy-requires-clause-stands
copy-requires-clause-stands g c = c.requires.scratch.stands

pub copy-requires-clause-collecting : goal.copy-requires-clause-collecting
copy-requires-clause-collecting g c = c.requires.scratch.collecting

pub copy-requires-clause-listed : goal.copy-requires-clause-listed
copy-requires-clause-listed g c = c.requires.listed c.in-Some.record c.in-Some.is

pub returns-in-Some-clause-touches : goal.returns-in-Some-clause-touches
returns-in-Some-clause-touches g c = c.copy.ensures.touches

pub returns-in_default-clause-touches : goal.returns-in_default-clause-touches
returns-in_default-clause-touches g c = untouched _ _

pub returns-in_default-clause-stands : goal.returns-in_default-clause-stands
returns-in_default-clause-stands g c = c.requires.scratch.stands

pub returns-in_default-clause-collecting : goal.returns-in_default-clause-collecting
returns-in_default-clause-collecting g c = c.requires.scratch.collecting

pub returns-in_default-clause-down : goal.returns-in_default-clause-down
returns-in_default-clause-down g c = tt

pub returns-in_default-2-clause-touches : goal.returns-in_default-2-clause-touches
returns-in_default-2-clause-touches g c = untouched _ _

pub returns-in_default-2-clause-stands : goal.returns-in_default-2-clause-stands
returns-in_default-2-clause-stands g c = c.requires.scratch.stands

pub returns-in_default-2-clause-collecting : goal.returns-in_default-2-clause-collecting
returns-in_default-2-clause-collecting g c = c.requires.scratch.collecting

pub returns-in_default-2-clause-down : goal.returns-in_default-2-clause-down
returns-in_default-2-clause-down g c = tt
