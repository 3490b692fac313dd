use Rattle.std.proofs.Common.{length}
use Rattle.flash_sim.specs.Device.{Device}
use Rattle.flash_map.specs.declared.area.Area.{Area}
use Rattle.flash_map.specs.Area.{geometry_of, sectors_of}
use Rattle.flash_map.proofs.PieceLemmas.{on_err}
use Rattle.flash_map.proofs.Touches.{then}
use Rattle.item_store.specs.SectorFormat.{IsSectorFormat}
use Rattle.item_store.proofs.Areas.{unit_is}
use Rattle.item_store.proofs.RoomFacts.{inside}
use Rattle.item_store.proofs.PutFacts.{open_sound, open_not_closed, begin_stops, put_area, put_kept, put_ready, put_opened, put_rested, put_ordinary, put_fits, put_ends_stands, put_ends_puts, put_ends_entry, put_ends_stops}
use Rattle.item_store.proofs.WrittenSteps.{keeps-written}
use Rattle.item_store.proofs.WrittenFacts.{put-written}
use Rattle.item_store.proofs.writing.put.Goals as goal

pub begin-requires-clause-inside : goal.begin-requires-clause-inside
begin-requires-clause-inside g c =
    let a : Device = g.F.Flash.device c.args.flash.now in
    let area : Area = c.args.area.now in
    inside g.T.SlotSectors.role g.T.SlotSectors.format_of g.T.SlotSectors.kept a area c.args.current c.args.opened.now c.requires.stands

pub begin-requires-clause-sound : goal.begin-requires-clause-sound
begin-requires-clause-sound g c =
    let a : Device = g.F.Flash.device c.args.flash.now in
    let area : Area = c.args.area.now in
    let law : IsSectorFormat (g.T.SlotSectors.format_of (geometry_of a area)) = g.met.T.SlotSectors.lawful (geometry_of a area) (unit_is a area (g.met.F.Flash.is_lawful c.args.flash.now) c.requires.stands.area.lawful) in
    open_sound g.T.SlotSectors.role g.T.SlotSectors.format_of g.T.SlotSectors.kept a area c.args.current c.args.opened.now law (g.met.F.Flash.is_lawful c.args.flash.now) c.requires.stands

pub begin-requires-clause-opened : goal.begin-requires-clause-opened
begin-requires-clause-opened g c =
    let a : Device = g.F.Flash.device c.args.flash.now in
    let area : Area = c.args.area.now in
    let law : IsSectorFormat (g.T.SlotSectors.format_of (geometry_of a area)) = g.met.T.SlotSectors.lawful (geometry_of a area) (unit_is a area (g.met.F.Flash.is_lawful c.args.flash.now) c.requires.stands.area.lawful) in
    open_not_closed g.T.SlotSectors.role g.T.SlotSectors.format_of g.T.SlotSectors.kept a area c.args.current c.args.opened.now law (g.met.F.Flash.is_lawful c.args.flash.now) c.requires.stands

pub returns-in_err-begin-clause-stops : goal.returns-in_err-begin-clause-stops
returns-in_err-begin-clause-stops g c =
    let a : Device = g.F.Flash.device c.args.flash.now in
    let area : Area = c.args.area.now in
    let law : IsSectorFormat (g.T.SlotSectors.format_of (geometry_of a area)) = g.met.T.SlotSectors.lawful (geometry_of a area) (unit_is a area (g.met.F.Flash.is_lawful c.args.flash.now) c.requires.stands.area.lawful) in
    let did = c.in_err-begin.ensures in
    on_err c.from_residual.result (begin_stops g.T.SlotSectors.role g.T.SlotSectors.format_of g.T.SlotSectors.kept a area c.args.current c.args.opened.now law (g.met.F.Flash.is_lawful c.args.flash.now) c.requires.stands (g.F.Flash.device c.begin.new.flash) c.args.id c.args.bytes.now did.ends.only did.ends.lost did.ends.room_lost did.ends.spends_lost)

pub put-requires-clause-here : goal.put-requires-clause-here
put-requires-clause-here g c = record {
  area =
      let a : Device = g.F.Flash.device c.args.flash.now in
      let area : Area = c.args.area.now in
      let law : IsSectorFormat (g.T.SlotSectors.format_of (geometry_of a area)) = g.met.T.SlotSectors.lawful (geometry_of a area) (unit_is a area (g.met.F.Flash.is_lawful c.args.flash.now) c.requires.stands.area.lawful) in
      let b : Device = g.F.Flash.device c.begin.new.flash in
      let did = c.in_ok-begin.ensures in
      put_area g.T.SlotSectors.role g.T.SlotSectors.format_of g.T.SlotSectors.kept a area c.args.current c.args.opened.now law (g.met.F.Flash.is_lawful c.args.flash.now) c.requires.stands b did.touches.banks did.ends.only did.ends.begins;
  inside =
      let a : Device = g.F.Flash.device c.args.flash.now in
      let area : Area = c.args.area.now in
      inside g.T.SlotSectors.role g.T.SlotSectors.format_of g.T.SlotSectors.kept a area c.args.current c.args.opened.now c.requires.stands;
  kept =
      let a : Device = g.F.Flash.device c.args.flash.now in
      let area : Area = c.args.area.now in
      let law : IsSectorFormat (g.T.SlotSectors.format_of (geometry_of a area)) = g.met.T.SlotSectors.lawful (geometry_of a area) (unit_is a area (g.met.F.Flash.is_lawful c.args.flash.now) c.requires.stands.area.lawful) in
      let b : Device = g.F.Flash.device c.begin.new.flash in
      let did = c.in_ok-begin.ensures in
      put_kept g.T.SlotSectors.role g.T.SlotSectors.format_of g.T.SlotSectors.kept a area c.args.current c.args.opened.now law (g.met.F.Flash.is_lawful c.args.flash.now) c.requires.stands b did.touches.banks did.ends.only did.ends.begins c.begin.new.self did.ends.kept;
  ready =
      let a : Device = g.F.Flash.device c.args.flash.now in
      let area : Area = c.args.area.now in
      let law : IsSectorFormat (g.T.SlotSectors.format_of (geometry_of a area)) = g.met.T.SlotSectors.lawful (geometry_of a area) (unit_is a area (g.met.F.Flash.is_lawful c.args.flash.now) c.requires.stands.area.lawful) in
      let b : Device = g.F.Flash.device c.begin.new.flash in
      let did = c.in_ok-begin.ensures in
      put_ready g.T.SlotSectors.role g.T.SlotSectors.format_of g.T.SlotSectors.kept a area c.args.current c.args.opened.now law (g.met.F.Flash.is_lawful c.args.flash.now) c.requires.stands b did.touches.banks did.ends.only did.ends.begins;
  opened =
      let a : Device = g.F.Flash.device c.args.flash.now in
      let area : Area = c.args.area.now in
      let law : IsSectorFormat (g.T.SlotSectors.format_of (geometry_of a area)) = g.met.T.SlotSectors.lawful (geometry_of a area) (unit_is a area (g.met.F.Flash.is_lawful c.args.flash.now) c.requires.stands.area.lawful) in
      let b : Device = g.F.Flash.device c.begin.new.flash in
      let did = c.in_ok-begin.ensures in
      put_opened g.T.SlotSectors.role g.T.SlotSectors.format_of g.T.SlotSectors.kept a area c.args.current c.args.opened.now law (g.met.F.Flash.is_lawful c.args.flash.now) c.requires.stands b did.touches.banks did.ends.only did.ends.begins;
}

pub put-requires-clause-rested : goal.put-requires-clause-rested
put-requires-clause-rested g c =
    let a : Device = g.F.Flash.device c.args.flash.now in
    let area : Area = c.args.area.now in
    let law : IsSectorFormat (g.T.SlotSectors.format_of (geometry_of a area)) = g.met.T.SlotSectors.lawful (geometry_of a area) (unit_is a area (g.met.F.Flash.is_lawful c.args.flash.now) c.requires.stands.area.lawful) in
    let b : Device = g.F.Flash.device c.begin.new.flash in
    let did = c.in_ok-begin.ensures in
    put_rested g.T.SlotSectors.role g.T.SlotSectors.format_of g.T.SlotSectors.kept a area c.args.current c.args.opened.now law (g.met.F.Flash.is_lawful c.args.flash.now) c.requires.stands b did.touches.banks did.ends.only did.ends.begins

pub put-requires-clause-ordinary : goal.put-requires-clause-ordinary
put-requires-clause-ordinary g c =
    let a : Device = g.F.Flash.device c.args.flash.now in
    let area : Area = c.args.area.now in
    let law : IsSectorFormat (g.T.SlotSectors.format_of (geometry_of a area)) = g.met.T.SlotSectors.lawful (geometry_of a area) (unit_is a area (g.met.F.Flash.is_lawful c.args.flash.now) c.requires.stands.area.lawful) in
    let b : Device = g.F.Flash.device c.begin.new.flash in
    let did = c.in_ok-begin.ensures in
    put_ordinary g.T.SlotSectors.role g.T.SlotSectors.format_of g.T.SlotSectors.kept a area c.args.current c.args.opened.now law (g.met.F.Flash.is_lawful c.args.flash.now) c.requires.stands b did.touches.banks did.ends.only did.ends.begins c.args.id c.requires.ordinary

pub put-requires-clause-fits : goal.put-requires-clause-fits
put-requires-clause-fits g c =
    let a : Device = g.F.Flash.device c.args.flash.now in
    let area : Area = c.args.area.now in
    let law : IsSectorFormat (g.T.SlotSectors.format_of (geometry_of a area)) = g.met.T.SlotSectors.lawful (geometry_of a area) (unit_is a area (g.met.F.Flash.is_lawful c.args.flash.now) c.requires.stands.area.lawful) in
    let b : Device = g.F.Flash.device c.begin.new.flash in
    let did = c.in_ok-begin.ensures in
    put_fits g.T.SlotSectors.role g.T.SlotSectors.format_of g.T.SlotSectors.kept a area c.args.current c.args.opened.now law (g.met.F.Flash.is_lawful c.args.flash.now) c.requires.stands b did.touches.banks did.ends.only did.ends.begins (length c.args.bytes.now) c.requires.room

pub returns-clause-touches : goal.returns-clause-touches
returns-clause-touches g c =
    let b : Device = g.F.Flash.device c.begin.new.flash in
    let did = c.in_ok-begin.ensures in
    then did.touches c.put.ensures.touches

pub returns-clause-stands : goal.returns-clause-stands
returns-clause-stands g c =
    let a : Device = g.F.Flash.device c.args.flash.now in
    let area : Area = c.args.area.now in
    let law : IsSectorFormat (g.T.SlotSectors.format_of (geometry_of a area)) = g.met.T.SlotSectors.lawful (geometry_of a area) (unit_is a area (g.met.F.Flash.is_lawful c.args.flash.now) c.requires.stands.area.lawful) in
    let b : Device = g.F.Flash.device c.begin.new.flash in
    let did = c.in_ok-begin.ensures in
    let e : Device = g.F.Flash.device c.put.new.flash in
    let then_did = c.put.ensures.ends in
    put_ends_stands g.T.SlotSectors.role g.T.SlotSectors.format_of g.T.SlotSectors.kept a area c.args.current c.args.opened.now law (g.met.F.Flash.is_lawful c.args.flash.now) c.requires.stands b did.touches.banks did.ends.only did.ends.begins e then_did.only c.args.id c.args.bytes.now then_did.sound did.ends.spends c.put.result c.put.new.self c.put.ensures.touches.banks then_did.adds then_did.kept

pub returns-clause-puts : goal.returns-clause-puts
returns-clause-puts g c =
    let a : Device = g.F.Flash.device c.args.flash.now in
    let area : Area = c.args.area.now in
    let law : IsSectorFormat (g.T.SlotSectors.format_of (geometry_of a area)) = g.met.T.SlotSectors.lawful (geometry_of a area) (unit_is a area (g.met.F.Flash.is_lawful c.args.flash.now) c.requires.stands.area.lawful) in
    let b : Device = g.F.Flash.device c.begin.new.flash in
    let did = c.in_ok-begin.ensures in
    let e : Device = g.F.Flash.device c.put.new.flash in
    let then_did = c.put.ensures.ends in
    put_ends_puts g.T.SlotSectors.role g.T.SlotSectors.format_of g.T.SlotSectors.kept a area c.args.current c.args.opened.now law (g.met.F.Flash.is_lawful c.args.flash.now) c.requires.stands b did.touches.banks did.ends.only did.ends.begins e then_did.only c.args.id c.args.bytes.now then_did.sound did.ends.spends c.put.result then_did.adds then_did.spends

pub returns-clause-stops : goal.returns-clause-stops
returns-clause-stops g c =
    let a : Device = g.F.Flash.device c.args.flash.now in
    let area : Area = c.args.area.now in
    let law : IsSectorFormat (g.T.SlotSectors.format_of (geometry_of a area)) = g.met.T.SlotSectors.lawful (geometry_of a area) (unit_is a area (g.met.F.Flash.is_lawful c.args.flash.now) c.requires.stands.area.lawful) in
    let b : Device = g.F.Flash.device c.begin.new.flash in
    let did = c.in_ok-begin.ensures in
    let e : Device = g.F.Flash.device c.put.new.flash in
    let then_did = c.put.ensures.ends in
    put_ends_stops g.T.SlotSectors.role g.T.SlotSectors.format_of g.T.SlotSectors.kept a area c.args.current c.args.opened.now law (g.met.F.Flash.is_lawful c.args.flash.now) c.requires.stands b did.touches.banks did.ends.only did.ends.begins e then_did.only c.args.id c.args.bytes.now then_did.sound did.ends.spends c.put.result then_did.lost then_did.room_lost then_did.spends_lost

pub returns-in_err-begin-clause-written : goal.returns-in_err-begin-clause-written
returns-in_err-begin-clause-written g c =
    let a : Device = g.F.Flash.device c.args.flash.now in
    let area : Area = c.args.area.now in
    let law : IsSectorFormat (g.T.SlotSectors.format_of (geometry_of a area)) = g.met.T.SlotSectors.lawful (geometry_of a area) (unit_is a area (g.met.F.Flash.is_lawful c.args.flash.now) c.requires.stands.area.lawful) in
    let did = c.in_err-begin.ensures in
    keeps-written (g.T.SlotSectors.format_of (geometry_of a area)) law (sectors_of a area) (sectors_of (g.F.Flash.device c.begin.new.flash) area) c.args.current did.ends.only did.ends.lost

pub returns-clause-written : goal.returns-clause-written
returns-clause-written g c =
    let a : Device = g.F.Flash.device c.args.flash.now in
    let area : Area = c.args.area.now in
    let law : IsSectorFormat (g.T.SlotSectors.format_of (geometry_of a area)) = g.met.T.SlotSectors.lawful (geometry_of a area) (unit_is a area (g.met.F.Flash.is_lawful c.args.flash.now) c.requires.stands.area.lawful) in
    let b : Device = g.F.Flash.device c.begin.new.flash in
    let did = c.in_ok-begin.ensures in
    let e : Device = g.F.Flash.device c.put.new.flash in
    let then_did = c.put.ensures.ends in
    λ written. put-written g.T.SlotSectors.format_of a area c.args.current law b did.touches.banks did.ends.only did.ends.begins written e then_did.only c.args.id c.args.bytes.now c.put.result then_did.adds then_did.lost

pub returns-clause-entry : goal.returns-clause-entry
returns-clause-entry g c =
    let a : Device = g.F.Flash.device c.args.flash.now in
    let area : Area = c.args.area.now in
    let law : IsSectorFormat (g.T.SlotSectors.format_of (geometry_of a area)) = g.met.T.SlotSectors.lawful (geometry_of a area) (unit_is a area (g.met.F.Flash.is_lawful c.args.flash.now) c.requires.stands.area.lawful) in
    let b : Device = g.F.Flash.device c.begin.new.flash in
    let did = c.in_ok-begin.ensures in
    let e : Device = g.F.Flash.device c.put.new.flash in
    let then_did = c.put.ensures.ends in
    put_ends_entry g.T.SlotSectors.role g.T.SlotSectors.format_of g.T.SlotSectors.kept a area c.args.current c.args.opened.now law (g.met.F.Flash.is_lawful c.args.flash.now) c.requires.stands b did.touches.banks did.ends.only did.ends.begins e then_did.only c.args.id c.args.bytes.now then_did.sound did.ends.spends c.put.result then_did.adds
