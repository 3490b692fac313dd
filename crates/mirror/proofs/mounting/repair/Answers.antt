use Rattle.std.proofs.Common.{Bool, ℕ, [], ◌∷◌, subst, sym}
use Rattle.flash_sim.specs.Device.{Device}
use Rattle.flash_map.specs.Area.{geometry_of, sectors_of, value_limit}
use Rattle.flash_map.specs.On.{on}
use Rattle.flash_map.specs.Touches.{Touches}
use Rattle.backend_api.specs.Map.{IsSettings}
use Rattle.migrator.specs.Migrating.{room_on}
use Rattle.migrator.proofs.Values.{limit-same}
use Rattle.mirror.specs.Room.{prices_on}
use Rattle.mirror.proofs.RepairSteps.{not-refused, repair-ends, repair-lost}
use Rattle.mirror.proofs.mounting.repair.Goals as goal

pub repaired_as-requires : goal.repaired_as-requires
repaired_as-requires g c =
    let d : Device = g.F.Flash.device c.args.flash.now in
    let area = c.args.area in
    let source = g.K.Backend.mounted_on c.args.trusted.now in
    let settings = on g.K.Backend.contents d source in
    let lawful = g.met.K.Backend.reads_settings d source (g.met.F.Flash.is_lawful c.args.flash.now) c.requires.other.lawful_trusted
    (g.met.K.Backend.stands_serves c.args.trusted.now (geometry_of d source) (sectors_of d source) c.requires.other.stands_trusted) (g.met.K.Backend.stands_reads c.args.trusted.now (geometry_of d source) (sectors_of d source) c.requires.other.stands_trusted) in
    not-refused (room_on g.K.Backend.room d area) (prices_on g.K.Priced.prices d area) (g.met.K.Priced.is_room area (geometry_of d area) c.requires.other.role) area.sectors (value_limit area) settings c.requires.other.fits
    (subst (λ (limit : ℕ). IsSettings limit settings) (sym (limit-same area source c.requires.other.version)) lawful)
    (on g.K.Backend.contents (g.F.Flash.device c.fill-filled.new.flash) area) c.fill-filled.result c.fill-filled.ensures.ends

pub returns-clause-touches : goal.returns-clause-touches
returns-clause-touches g c =
    subst (λ (lost : Bool). Touches (c.args.area ∷ []) (g.F.Flash.device c.args.flash.now) (g.F.Flash.device c.fill-filled.new.flash) lost) (repair-lost c.fill-filled.result c.repaired_as.result c.repaired_as.ensures) c.fill-filled.ensures.touches

pub returns-clause-ends : goal.returns-clause-ends
returns-clause-ends g c =
    let d : Device = g.F.Flash.device c.args.flash.now in
    let e : Device = g.F.Flash.device c.fill-filled.new.flash in
    repair-ends g.K.Backend.mounted_on g.K.Backend.stands (room_on g.K.Backend.room d c.args.area) c.args.area.sectors (on g.K.Backend.contents d (g.K.Backend.mounted_on c.args.trusted.now)) (on g.K.Backend.contents e c.args.area) e c.args.area c.fill-filled.result c.repaired_as.result
    c.fill-filled.ensures.ends c.repaired_as.ensures c.fill-filled.ensures.on c.fill-filled.ensures.stands

pub fill-filled-requires-clause-lawful_from : goal.fill-filled-requires-clause-lawful_from
fill-filled-requires-clause-lawful_from g c = c.requires.other.lawful_trusted

pub fill-filled-requires-clause-stands_from : goal.fill-filled-requires-clause-stands_from
fill-filled-requires-clause-stands_from g c = c.requires.other.stands_trusted

pub fill-filled-requires-clause-lawful : goal.fill-filled-requires-clause-lawful
fill-filled-requires-clause-lawful g c = c.requires.other.lawful

pub fill-filled-requires-clause-serves : goal.fill-filled-requires-clause-serves
fill-filled-requires-clause-serves g c = c.requires.other.served

pub fill-filled-requires-clause-apart : goal.fill-filled-requires-clause-apart
fill-filled-requires-clause-apart g c = c.requires.other.apart

pub fill-filled-requires-clause-version : goal.fill-filled-requires-clause-version
fill-filled-requires-clause-version g c = c.requires.other.version

pub returns-clause-at_most : goal.returns-clause-at_most
returns-clause-at_most g c = c.fill-filled.ensures.spends.0
