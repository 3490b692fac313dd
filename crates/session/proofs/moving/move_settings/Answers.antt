-- the settings were moved, or not
use Rattle.session.proofs.OwesLemmas.{move-owes}
use Rattle.std.proofs.Common.{Ok, Err, ap, refl, sym, ◌∙◌, ◌-◌}
use Rattle.std.proofs.lemmas.Bool.{false≢true}
use Rattle.flash_map.specs.Area.{geometry_of, sectors_of}
use Rattle.session.proofs.MountLemmas.{at_active}
use Rattle.session.proofs.MoveLemmas.{migrated, sound_by, moved_by, refused_by, same_by, puts_one, none_by, begins_by, at_backend, refused_ready}
use Rattle.session.proofs.moving.move_settings.Goals as goal

pub of-requires : goal.of-requires
of-requires g c =
    let e = g.B.Flash.device c.migrate-end.new.flash in
    let area = g.K.Backend.mounted_on c.in-Ok.backend in
    record { up = g.met.K.Backend.stands_up c.in-Ok.backend (geometry_of e area) (sectors_of e area) c.in-Ok.ensures.goes_on.up }

pub returns-in-Ok-clause-done : goal.returns-in-Ok-clause-done
returns-in-Ok-clause-done g c =
    let m = migrated g.K.Backend.mounted_on g.K.Backend.damage g.K.Backend.contents g.K.Backend.room g.K.Backend.chance g.K.Backend.tears c.args.map.now c.args.selector.now.ring.area (g.B.Flash.device c.args.bench.now) (g.B.Flash.device c.migrate-end.new.flash) (g.K.Backend.mounted_on c.backend.result.now) c.args.active.now c.migrate-end.result (Ok (c.in-Ok.backend, c.in-Ok.place)) c.requires.ready.is_active
    (ap g.K.Backend.mounted_on c.backend.ensures ∙ at_active c.args.map.now (g.B.Flash.device c.args.bench.now) c.args.active.now (g.K.Backend.mounted_on c.args.settings.now.backend) c.requires.ready.is_active c.requires.ready.there)
    c.in-Ok.is c.requires.ready.selects.selected c.migrate-end.ensures.touches c.migrate-end.ensures.map c.migrate-end.ensures.ends c.migrate-end.ensures.at_most c.migrate-end.ensures.once.0 in
    moved_by g.K.Backend.mounted_on g.K.Backend.damage g.K.Backend.contents g.K.Backend.room g.K.Backend.chance g.K.Backend.tears c.args.map.now c.args.selector.now.ring.area (g.B.Flash.device c.args.bench.now) (g.B.Flash.device c.migrate-end.new.flash) c.requires.on c.spent-before.result c.spent.result c.spent-before.ensures c.spent.ensures (c.in-Ok.backend, c.in-Ok.place) m

pub returns-in-Ok-clause-sound : goal.returns-in-Ok-clause-sound
returns-in-Ok-clause-sound g c =
    let m = migrated g.K.Backend.mounted_on g.K.Backend.damage g.K.Backend.contents g.K.Backend.room g.K.Backend.chance g.K.Backend.tears c.args.map.now c.args.selector.now.ring.area (g.B.Flash.device c.args.bench.now) (g.B.Flash.device c.migrate-end.new.flash) (g.K.Backend.mounted_on c.backend.result.now) c.args.active.now c.migrate-end.result (Ok (c.in-Ok.backend, c.in-Ok.place)) c.requires.ready.is_active
    (ap g.K.Backend.mounted_on c.backend.ensures ∙ at_active c.args.map.now (g.B.Flash.device c.args.bench.now) c.args.active.now (g.K.Backend.mounted_on c.args.settings.now.backend) c.requires.ready.is_active c.requires.ready.there)
    c.in-Ok.is c.requires.ready.selects.selected c.migrate-end.ensures.touches c.migrate-end.ensures.map c.migrate-end.ensures.ends c.migrate-end.ensures.at_most c.migrate-end.ensures.once.0 in
    sound_by g.K.Backend.mounted_on g.K.Backend.damage g.K.Backend.contents g.K.Backend.room g.K.Backend.chance g.K.Backend.tears c.args.map.now c.args.selector.now.ring.area (g.B.Flash.device c.args.bench.now) (g.B.Flash.device c.migrate-end.new.flash) (Ok (c.in-Ok.backend, c.in-Ok.place)) m

pub returns-in-Ok-clause-ready : goal.returns-in-Ok-clause-ready
returns-in-Ok-clause-ready g c = λ powered. at_backend g.K.Backend.serves g.K.Backend.mounted_on g.K.Backend.stands g.K.Backend.runs g.met.K.Backend.stands_up c.args.map.now (g.B.Flash.device c.migrate-end.new.flash) c.migrate-end.new.selector c.in-Ok.place c.in-Ok.backend c.of.result (sym c.of.ensures) c.in-Ok.ensures.goes_on

pub returns-in-Ok-clause-selector : goal.returns-in-Ok-clause-selector
returns-in-Ok-clause-selector g c = λ none. absurd (false≢true (sym none))

pub returns-in-Ok-clause-chosen : goal.returns-in-Ok-clause-chosen
returns-in-Ok-clause-chosen g c =
    let m = migrated g.K.Backend.mounted_on g.K.Backend.damage g.K.Backend.contents g.K.Backend.room g.K.Backend.chance g.K.Backend.tears c.args.map.now c.args.selector.now.ring.area (g.B.Flash.device c.args.bench.now) (g.B.Flash.device c.migrate-end.new.flash) (g.K.Backend.mounted_on c.backend.result.now) c.args.active.now c.migrate-end.result (Ok (c.in-Ok.backend, c.in-Ok.place)) c.requires.ready.is_active
    (ap g.K.Backend.mounted_on c.backend.ensures ∙ at_active c.args.map.now (g.B.Flash.device c.args.bench.now) c.args.active.now (g.K.Backend.mounted_on c.args.settings.now.backend) c.requires.ready.is_active c.requires.ready.there)
    c.in-Ok.is c.requires.ready.selects.selected c.migrate-end.ensures.touches c.migrate-end.ensures.map c.migrate-end.ensures.ends c.migrate-end.ensures.at_most c.migrate-end.ensures.once.0 in
    puts_one g.K.Backend.mounted_on g.K.Backend.damage g.K.Backend.contents g.K.Backend.room g.K.Backend.chance g.K.Backend.tears c.args.map.now c.args.selector.now.ring.area (g.B.Flash.device c.args.bench.now) (g.B.Flash.device c.migrate-end.new.flash) c.args.selector.now.ring (g.K.Backend.mounted_on c.backend.result.now) (c.in-Ok.backend, c.in-Ok.place) refl (ap g.K.Backend.mounted_on c.backend.ensures ∙ at_active c.args.map.now (g.B.Flash.device c.args.bench.now) c.args.active.now (g.K.Backend.mounted_on c.args.settings.now.backend) c.requires.ready.is_active c.requires.ready.there) (c.requires.ready.selects.opened c.args.selector.now refl) m c.in-Ok.ensures.once.1

pub returns-in-Some-clause-chosen : goal.returns-in-Some-clause-chosen
returns-in-Some-clause-chosen g c =
    none_by g.K.Backend.mounted_on g.K.Backend.damage g.K.Backend.contents g.K.Backend.room g.K.Backend.chance g.K.Backend.tears c.args.map.now c.args.selector.now.ring.area (g.B.Flash.device c.args.bench.now) (g.B.Flash.device c.migrate-end.new.flash) c.in-Err.fault (c.spent.result - c.spent-before.result) c.in-Some.answer c.answer_to.result c.answer_to.ensures c.in-Some.is

pub returns-in-Some-clause-selector : goal.returns-in-Some-clause-selector
returns-in-Some-clause-selector g c =
    let m = migrated g.K.Backend.mounted_on g.K.Backend.damage g.K.Backend.contents g.K.Backend.room g.K.Backend.chance g.K.Backend.tears c.args.map.now c.args.selector.now.ring.area (g.B.Flash.device c.args.bench.now) (g.B.Flash.device c.migrate-end.new.flash) (g.K.Backend.mounted_on c.backend.result.now) c.args.active.now c.migrate-end.result (Err c.in-Err.fault) c.requires.ready.is_active
    (ap g.K.Backend.mounted_on c.backend.ensures ∙ at_active c.args.map.now (g.B.Flash.device c.args.bench.now) c.args.active.now (g.K.Backend.mounted_on c.args.settings.now.backend) c.requires.ready.is_active c.requires.ready.there)
    c.in-Err.is c.requires.ready.selects.selected c.migrate-end.ensures.touches c.migrate-end.ensures.map c.migrate-end.ensures.ends c.migrate-end.ensures.at_most c.migrate-end.ensures.once.0 in
    same_by g.K.Backend.mounted_on g.K.Backend.damage g.K.Backend.contents g.K.Backend.room g.K.Backend.chance g.K.Backend.tears c.args.map.now c.args.selector.now.ring.area (g.B.Flash.device c.args.bench.now) (g.B.Flash.device c.migrate-end.new.flash) c.in-Err.fault (c.spent.result - c.spent-before.result) c.in-Some.answer c.answer_to.result c.answer_to.ensures c.in-Some.is m

pub returns-in-Some-clause-done : goal.returns-in-Some-clause-done
returns-in-Some-clause-done g c =
    let m = migrated g.K.Backend.mounted_on g.K.Backend.damage g.K.Backend.contents g.K.Backend.room g.K.Backend.chance g.K.Backend.tears c.args.map.now c.args.selector.now.ring.area (g.B.Flash.device c.args.bench.now) (g.B.Flash.device c.migrate-end.new.flash) (g.K.Backend.mounted_on c.backend.result.now) c.args.active.now c.migrate-end.result (Err c.in-Err.fault) c.requires.ready.is_active
    (ap g.K.Backend.mounted_on c.backend.ensures ∙ at_active c.args.map.now (g.B.Flash.device c.args.bench.now) c.args.active.now (g.K.Backend.mounted_on c.args.settings.now.backend) c.requires.ready.is_active c.requires.ready.there)
    c.in-Err.is c.requires.ready.selects.selected c.migrate-end.ensures.touches c.migrate-end.ensures.map c.migrate-end.ensures.ends c.migrate-end.ensures.at_most c.migrate-end.ensures.once.0 in
    refused_by g.K.Backend.mounted_on g.K.Backend.damage g.K.Backend.contents g.K.Backend.room g.K.Backend.chance g.K.Backend.tears c.args.map.now c.args.selector.now.ring.area (g.B.Flash.device c.args.bench.now) (g.B.Flash.device c.migrate-end.new.flash) c.requires.on c.spent-before.result c.spent.result c.spent-before.ensures c.spent.ensures c.in-Err.fault c.in-Some.answer c.answer_to.result c.answer_to.ensures c.in-Some.is m

pub returns-in-Some-clause-sound : goal.returns-in-Some-clause-sound
returns-in-Some-clause-sound g c =
    let m = migrated g.K.Backend.mounted_on g.K.Backend.damage g.K.Backend.contents g.K.Backend.room g.K.Backend.chance g.K.Backend.tears c.args.map.now c.args.selector.now.ring.area (g.B.Flash.device c.args.bench.now) (g.B.Flash.device c.migrate-end.new.flash) (g.K.Backend.mounted_on c.backend.result.now) c.args.active.now c.migrate-end.result (Err c.in-Err.fault) c.requires.ready.is_active
    (ap g.K.Backend.mounted_on c.backend.ensures ∙ at_active c.args.map.now (g.B.Flash.device c.args.bench.now) c.args.active.now (g.K.Backend.mounted_on c.args.settings.now.backend) c.requires.ready.is_active c.requires.ready.there)
    c.in-Err.is c.requires.ready.selects.selected c.migrate-end.ensures.touches c.migrate-end.ensures.map c.migrate-end.ensures.ends c.migrate-end.ensures.at_most c.migrate-end.ensures.once.0 in
    sound_by g.K.Backend.mounted_on g.K.Backend.damage g.K.Backend.contents g.K.Backend.room g.K.Backend.chance g.K.Backend.tears c.args.map.now c.args.selector.now.ring.area (g.B.Flash.device c.args.bench.now) (g.B.Flash.device c.migrate-end.new.flash) (Err c.in-Err.fault) m

pub returns-in-Some-clause-ready : goal.returns-in-Some-clause-ready
returns-in-Some-clause-ready g c = refused_ready g.K.Backend.serves g.K.Backend.mounted_on g.K.Backend.stands g.K.Backend.runs g.met.K.Backend.stands_up c.args.map.now (g.B.Flash.device c.args.bench.now) (g.B.Flash.device c.migrate-end.new.flash) c.args.selector.now c.migrate-end.new.selector c.args.active.now c.backend.result.now c.args.settings.now c.in-Err.fault c.requires.on c.backend.ensures c.in-Err.ensures.touches c.in-Err.ensures.stays

pub returns-in-None-clause-sound : goal.returns-in-None-clause-sound
returns-in-None-clause-sound g c =
    let m = migrated g.K.Backend.mounted_on g.K.Backend.damage g.K.Backend.contents g.K.Backend.room g.K.Backend.chance g.K.Backend.tears c.args.map.now c.args.selector.now.ring.area (g.B.Flash.device c.args.bench.now) (g.B.Flash.device c.migrate-end.new.flash) (g.K.Backend.mounted_on c.backend.result.now) c.args.active.now c.migrate-end.result (Err c.in-Err.fault) c.requires.ready.is_active
    (ap g.K.Backend.mounted_on c.backend.ensures ∙ at_active c.args.map.now (g.B.Flash.device c.args.bench.now) c.args.active.now (g.K.Backend.mounted_on c.args.settings.now.backend) c.requires.ready.is_active c.requires.ready.there)
    c.in-Err.is c.requires.ready.selects.selected c.migrate-end.ensures.touches c.migrate-end.ensures.map c.migrate-end.ensures.ends c.migrate-end.ensures.at_most c.migrate-end.ensures.once.0 in
    sound_by g.K.Backend.mounted_on g.K.Backend.damage g.K.Backend.contents g.K.Backend.room g.K.Backend.chance g.K.Backend.tears c.args.map.now c.args.selector.now.ring.area (g.B.Flash.device c.args.bench.now) (g.B.Flash.device c.migrate-end.new.flash) (Err c.in-Err.fault) m

pub returns-in-None-clause-stops : goal.returns-in-None-clause-stops
returns-in-None-clause-stops g c =
    let m = migrated g.K.Backend.mounted_on g.K.Backend.damage g.K.Backend.contents g.K.Backend.room g.K.Backend.chance g.K.Backend.tears c.args.map.now c.args.selector.now.ring.area (g.B.Flash.device c.args.bench.now) (g.B.Flash.device c.migrate-end.new.flash) (g.K.Backend.mounted_on c.backend.result.now) c.args.active.now c.migrate-end.result (Err c.in-Err.fault) c.requires.ready.is_active
    (ap g.K.Backend.mounted_on c.backend.ensures ∙ at_active c.args.map.now (g.B.Flash.device c.args.bench.now) c.args.active.now (g.K.Backend.mounted_on c.args.settings.now.backend) c.requires.ready.is_active c.requires.ready.there)
    c.in-Err.is c.requires.ready.selects.selected c.migrate-end.ensures.touches c.migrate-end.ensures.map c.migrate-end.ensures.ends c.migrate-end.ensures.at_most c.migrate-end.ensures.once.0 in
    begins_by g.K.Backend.mounted_on g.K.Backend.damage g.K.Backend.contents g.K.Backend.room g.K.Backend.chance g.K.Backend.tears c.args.map.now c.args.selector.now.ring.area (g.B.Flash.device c.args.bench.now) (g.B.Flash.device c.migrate-end.new.flash) c.in-Err.fault (c.spent.result - c.spent-before.result) c.answer_to.result c.answer_to.ensures c.in-None.is m

pub returns-in-Ok-clause-left : goal.returns-in-Ok-clause-left
returns-in-Ok-clause-left g c = move-owes g.K.Backend.owes c.args.map.now g.K.Backend.rests g.met.K.Backend.rests_owe g.K.Backend.boot_units (g.B.Flash.device c.args.bench.now) (g.B.Flash.device c.migrate-end.new.flash) c.args.selector.now.ring.area c.requires.ready.selects.selected c.migrate-end.ensures.rests

pub returns-in-Some-clause-left : goal.returns-in-Some-clause-left
returns-in-Some-clause-left g c = move-owes g.K.Backend.owes c.args.map.now g.K.Backend.rests g.met.K.Backend.rests_owe g.K.Backend.boot_units (g.B.Flash.device c.args.bench.now) (g.B.Flash.device c.migrate-end.new.flash) c.args.selector.now.ring.area c.requires.ready.selects.selected c.migrate-end.ensures.rests

pub returns-in-None-clause-left : goal.returns-in-None-clause-left
returns-in-None-clause-left g c = move-owes g.K.Backend.owes c.args.map.now g.K.Backend.rests g.met.K.Backend.rests_owe g.K.Backend.boot_units (g.B.Flash.device c.args.bench.now) (g.B.Flash.device c.migrate-end.new.flash) c.args.selector.now.ring.area c.requires.ready.selects.selected c.migrate-end.ensures.rests
