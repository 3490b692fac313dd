use Rattle.std.proofs.Common.{◌≡◌, ℕ, ◌+◌, ◌^◌, ◌<◌, ◌≤◌, Bool, List, [], ◌∷◌, length, sym, ap, subst, ◌∙◌, arith}
use Rattle.flash_sim.specs.Device.{Device}
use Rattle.flash_sim.specs.declared.flash.Bank.{Bank}
use Rattle.flash_map.specs.declared.area.Geometry.{Geometry}
use Rattle.flash_map.specs.Area.{IsLawfulArea, unit_of, sector_bytes}
use Rattle.flash_map.specs.Touches.{Touches}
use Rattle.flash_map.specs.Units.{IsUnit, padded}
use Rattle.flash_map.proofs.PieceLemmas.{on_err, within_then, within_most}
use Rattle.flash_map.proofs.Touches.{then}
use Rattle.nvs_store.specs.Geometry.{slot_size}
use Rattle.nvs_store.specs.On.{append_piece}
use Rattle.nvs_store.proofs.AppendFacts.{ready, short, can_first, data_lost, data_spent, can_second, entry_lost, entry_put, entry_bytes, entry_spent, entry_most, stops_list, stops_stay, stops_undamaged, put_list, put_stays, put_undamaged, put_scan}
use Rattle.nvs_store.proofs.CallFacts.{data-in, not_ok, slot-in}
use Rattle.nvs_store.proofs.Views.{unit_is}
use Rattle.nvs_store.proofs.calls.append.Goals as goal

end-fits : (end len : ℕ) → end + len ≤ 2 ^ 15 → end < 65536
end-fits end len inside = omega arith

len-fits : (end len : ℕ) → end + len ≤ 2 ^ 15 → len < 65536
len-fits end len inside = omega arith

len-fits-word : (end len : ℕ) → end + len ≤ 2 ^ 15 → len < 4294967296
len-fits-word end len inside = omega arith

pub overflow_cast-entry : goal.overflow_cast-entry
overflow_cast-entry g c =
    let is = ready (g.F.Flash.device c.args.flash.now) c.args.area.now c.args.scan.now (length c.args.bytes.now) (g.met.F.Flash.is_lawful c.args.flash.now) c.requires.scanned.lawful c.requires.scanned.scan c.requires.fits in
    let inside = short (g.F.Flash.device c.args.flash.now) c.args.area.now c.args.scan.now (length c.args.bytes.now) is in
    record { fits = end-fits c.args.scan.now.data_end (length c.args.bytes.now) inside }

pub overflow_cast-entry-2 : goal.overflow_cast-entry-2
overflow_cast-entry-2 g c =
    let is = ready (g.F.Flash.device c.args.flash.now) c.args.area.now c.args.scan.now (length c.args.bytes.now) (g.met.F.Flash.is_lawful c.args.flash.now) c.requires.scanned.lawful c.requires.scanned.scan c.requires.fits in
    let inside = short (g.F.Flash.device c.args.flash.now) c.args.area.now c.args.scan.now (length c.args.bytes.now) is in
    record { fits = len-fits c.args.scan.now.data_end (length c.args.bytes.now) inside }

pub program_padded-requires-clause-can : goal.program_padded-requires-clause-can
program_padded-requires-clause-can g c =
    let a : Device = g.F.Flash.device c.args.flash.now in
    let is = ready a c.args.area.now c.args.scan.now (length c.args.bytes.now) (g.met.F.Flash.is_lawful c.args.flash.now) c.requires.scanned.lawful c.requires.scanned.scan c.requires.fits in
    can_first a c.args.area.now c.args.scan.now c.args.bytes.now is

pub returns-in_err-program_padded-clause-ends : goal.returns-in_err-program_padded-clause-ends
returns-in_err-program_padded-clause-ends g c = record {
  ok = not_ok _ c.from_residual.result c.from_residual.ensures.0;
  image = not_ok _ c.from_residual.result c.from_residual.ensures.0;
  scan = not_ok _ c.from_residual.result c.from_residual.ensures.0;
  spent = not_ok _ c.from_residual.result c.from_residual.ensures.0;
  lost =
      let a : Device = g.F.Flash.device c.args.flash.now in
      let m : Device = g.F.Flash.device c.program_padded.new.flash in
      let is = ready a c.args.area.now c.args.scan.now (length c.args.bytes.now) (g.met.F.Flash.is_lawful c.args.flash.now) c.requires.scanned.lawful c.requires.scanned.scan c.requires.fits in
      on_err c.from_residual.result (data_lost a c.args.area.now c.args.scan.now c.args.bytes.now is m c.args.id c.in_err-program_padded.ensures.lost);
  in_pieces = on_err c.from_residual.result c.in_err-program_padded.ensures.in_pieces;
  spent_at_most =
      let a : Device = g.F.Flash.device c.args.flash.now in
      let m : Device = g.F.Flash.device c.program_padded.new.flash in
      let is = ready a c.args.area.now c.args.scan.now (length c.args.bytes.now) (g.met.F.Flash.is_lawful c.args.flash.now) c.requires.scanned.lawful c.requires.scanned.scan c.requires.fits in
      on_err c.from_residual.result (data_spent a c.args.area.now c.args.scan.now c.args.bytes.now is m c.in_err-program_padded.ensures.spent_at_most);
}

pub returns-in_err-program_padded-clause-list_lost : goal.returns-in_err-program_padded-clause-list_lost
returns-in_err-program_padded-clause-list_lost g c =
    let a : Device = g.F.Flash.device c.args.flash.now in
    let m : Device = g.F.Flash.device c.program_padded.new.flash in
    let is = ready a c.args.area.now c.args.scan.now (length c.args.bytes.now) (g.met.F.Flash.is_lawful c.args.flash.now) c.requires.scanned.lawful c.requires.scanned.scan c.requires.fits in
    let stops = data_lost a c.args.area.now c.args.scan.now c.args.bytes.now is m c.args.id c.in_err-program_padded.ensures.lost in
    on_err c.from_residual.result (stops_list a c.args.area.now c.args.scan.now c.args.bytes.now is m c.args.id stops c.requires.redo)

pub returns-in_err-program_padded-clause-sound : goal.returns-in_err-program_padded-clause-sound
returns-in_err-program_padded-clause-sound g c =
    let a : Device = g.F.Flash.device c.args.flash.now in
    let m : Device = g.F.Flash.device c.program_padded.new.flash in
    let is = ready a c.args.area.now c.args.scan.now (length c.args.bytes.now) (g.met.F.Flash.is_lawful c.args.flash.now) c.requires.scanned.lawful c.requires.scanned.scan c.requires.fits in
    let stops = data_lost a c.args.area.now c.args.scan.now c.args.bytes.now is m c.args.id c.in_err-program_padded.ensures.lost in
    stops_stay a c.args.area.now c.args.scan.now c.args.bytes.now is m c.args.id stops

pub returns-in_err-program_padded-clause-undamaged : goal.returns-in_err-program_padded-clause-undamaged
returns-in_err-program_padded-clause-undamaged g c =
    let a : Device = g.F.Flash.device c.args.flash.now in
    let m : Device = g.F.Flash.device c.program_padded.new.flash in
    let is = ready a c.args.area.now c.args.scan.now (length c.args.bytes.now) (g.met.F.Flash.is_lawful c.args.flash.now) c.requires.scanned.lawful c.requires.scanned.scan c.requires.fits in
    let stops = data_lost a c.args.area.now c.args.scan.now c.args.bytes.now is m c.args.id c.in_err-program_padded.ensures.lost in
    stops_undamaged a c.args.area.now c.args.scan.now c.args.bytes.now is m c.args.id stops c.requires.redo

pub put_slot-requires-clause-can : goal.put_slot-requires-clause-can
put_slot-requires-clause-can g c =
    let a : Device = g.F.Flash.device c.args.flash.now in
    let m : Device = g.F.Flash.device c.program_padded.new.flash in
    let is = ready a c.args.area.now c.args.scan.now (length c.args.bytes.now) (g.met.F.Flash.is_lawful c.args.flash.now) c.requires.scanned.lawful c.requires.scanned.scan c.requires.fits in
    let width : c.slot_size.result ≡ slot_size (unit_of a c.args.area.now) = c.slot_size.ensures.size ∙ ap (λ (x : Geometry). slot_size x.unit) c.geometry-unit.ensures in
    let one = c.in_ok-program_padded.ensures in
    can_second a c.args.area.now c.args.scan.now c.args.bytes.now is m c.args.id c.slot_size.result c.encode_entry.result c.requires.ordinary width one.touches.banks one.ok c.encode_entry.ensures

pub returns-in_err-put_slot-clause-ends : goal.returns-in_err-put_slot-clause-ends
returns-in_err-put_slot-clause-ends g c = record {
  ok = not_ok _ c.from_residual-in_err-put_slot.result c.from_residual-in_err-put_slot.ensures.0;
  image = not_ok _ c.from_residual-in_err-put_slot.result c.from_residual-in_err-put_slot.ensures.0;
  scan = not_ok _ c.from_residual-in_err-put_slot.result c.from_residual-in_err-put_slot.ensures.0;
  spent = not_ok _ c.from_residual-in_err-put_slot.result c.from_residual-in_err-put_slot.ensures.0;
  lost =
      let a : Device = g.F.Flash.device c.args.flash.now in
      let m : Device = g.F.Flash.device c.program_padded.new.flash in
      let last : Device = g.F.Flash.device c.put_slot.new.flash in
      let is = ready a c.args.area.now c.args.scan.now (length c.args.bytes.now) (g.met.F.Flash.is_lawful c.args.flash.now) c.requires.scanned.lawful c.requires.scanned.scan c.requires.fits in
      let width : c.slot_size.result ≡ slot_size (unit_of a c.args.area.now) = c.slot_size.ensures.size ∙ ap (λ (x : Geometry). slot_size x.unit) c.geometry-unit.ensures in
      let one = c.in_ok-program_padded.ensures in
      on_err c.from_residual-in_err-put_slot.result
      (entry_lost a c.args.area.now c.args.scan.now c.args.bytes.now is m c.args.id c.slot_size.result c.encode_entry.result c.requires.ordinary width one.touches.banks one.ok c.encode_entry.ensures last c.in_err-put_slot.ensures.lost);
  in_pieces = on_err c.from_residual-in_err-put_slot.result (within_then append_piece (g.F.Flash.device c.args.flash.now) (g.F.Flash.device c.program_padded.new.flash) (g.F.Flash.device c.put_slot.new.flash) (c.args.area.now ∷ []) c.in_ok-program_padded.ensures.touches (within_most 16 append_piece (g.F.Flash.device c.program_padded.new.flash) (g.F.Flash.device c.put_slot.new.flash) (omega arith) c.in_err-put_slot.ensures.in_slot));
  spent_at_most =
      let a : Device = g.F.Flash.device c.args.flash.now in
      let m : Device = g.F.Flash.device c.program_padded.new.flash in
      let last : Device = g.F.Flash.device c.put_slot.new.flash in
      let is = ready a c.args.area.now c.args.scan.now (length c.args.bytes.now) (g.met.F.Flash.is_lawful c.args.flash.now) c.requires.scanned.lawful c.requires.scanned.scan c.requires.fits in
      let width : c.slot_size.result ≡ slot_size (unit_of a c.args.area.now) = c.slot_size.ensures.size ∙ ap (λ (x : Geometry). slot_size x.unit) c.geometry-unit.ensures in
      let one = c.in_ok-program_padded.ensures in
      on_err c.from_residual-in_err-put_slot.result
      (entry_most a c.args.area.now c.args.scan.now c.args.bytes.now is m c.args.id c.slot_size.result c.encode_entry.result c.requires.ordinary width one.touches.banks one.ok c.encode_entry.ensures last one.spent c.in_err-put_slot.ensures.spent_at_most);
}

pub returns-in_err-put_slot-clause-list_lost : goal.returns-in_err-put_slot-clause-list_lost
returns-in_err-put_slot-clause-list_lost g c =
    let a : Device = g.F.Flash.device c.args.flash.now in
    let m : Device = g.F.Flash.device c.program_padded.new.flash in
    let last : Device = g.F.Flash.device c.put_slot.new.flash in
    let is = ready a c.args.area.now c.args.scan.now (length c.args.bytes.now) (g.met.F.Flash.is_lawful c.args.flash.now) c.requires.scanned.lawful c.requires.scanned.scan c.requires.fits in
    let width : c.slot_size.result ≡ slot_size (unit_of a c.args.area.now) = c.slot_size.ensures.size ∙ ap (λ (x : Geometry). slot_size x.unit) c.geometry-unit.ensures in
    let one = c.in_ok-program_padded.ensures in
    let stops = entry_lost a c.args.area.now c.args.scan.now c.args.bytes.now is m c.args.id c.slot_size.result c.encode_entry.result c.requires.ordinary width one.touches.banks one.ok c.encode_entry.ensures last c.in_err-put_slot.ensures.lost in
    on_err c.from_residual-in_err-put_slot.result (stops_list a c.args.area.now c.args.scan.now c.args.bytes.now is last c.args.id stops c.requires.redo)

pub returns-in_err-put_slot-clause-sound : goal.returns-in_err-put_slot-clause-sound
returns-in_err-put_slot-clause-sound g c =
    let a : Device = g.F.Flash.device c.args.flash.now in
    let m : Device = g.F.Flash.device c.program_padded.new.flash in
    let last : Device = g.F.Flash.device c.put_slot.new.flash in
    let is = ready a c.args.area.now c.args.scan.now (length c.args.bytes.now) (g.met.F.Flash.is_lawful c.args.flash.now) c.requires.scanned.lawful c.requires.scanned.scan c.requires.fits in
    let width : c.slot_size.result ≡ slot_size (unit_of a c.args.area.now) = c.slot_size.ensures.size ∙ ap (λ (x : Geometry). slot_size x.unit) c.geometry-unit.ensures in
    let one = c.in_ok-program_padded.ensures in
    let stops = entry_lost a c.args.area.now c.args.scan.now c.args.bytes.now is m c.args.id c.slot_size.result c.encode_entry.result c.requires.ordinary width one.touches.banks one.ok c.encode_entry.ensures last c.in_err-put_slot.ensures.lost in
    stops_stay a c.args.area.now c.args.scan.now c.args.bytes.now is last c.args.id stops

pub returns-in_err-put_slot-clause-undamaged : goal.returns-in_err-put_slot-clause-undamaged
returns-in_err-put_slot-clause-undamaged g c =
    let a : Device = g.F.Flash.device c.args.flash.now in
    let m : Device = g.F.Flash.device c.program_padded.new.flash in
    let last : Device = g.F.Flash.device c.put_slot.new.flash in
    let is = ready a c.args.area.now c.args.scan.now (length c.args.bytes.now) (g.met.F.Flash.is_lawful c.args.flash.now) c.requires.scanned.lawful c.requires.scanned.scan c.requires.fits in
    let width : c.slot_size.result ≡ slot_size (unit_of a c.args.area.now) = c.slot_size.ensures.size ∙ ap (λ (x : Geometry). slot_size x.unit) c.geometry-unit.ensures in
    let one = c.in_ok-program_padded.ensures in
    let stops = entry_lost a c.args.area.now c.args.scan.now c.args.bytes.now is m c.args.id c.slot_size.result c.encode_entry.result c.requires.ordinary width one.touches.banks one.ok c.encode_entry.ensures last c.in_err-put_slot.ensures.lost in
    stops_undamaged a c.args.area.now c.args.scan.now c.args.bytes.now is last c.args.id stops c.requires.redo

pub overflow_cast-bytes : goal.overflow_cast-bytes
overflow_cast-bytes g c =
    let is = ready (g.F.Flash.device c.args.flash.now) c.args.area.now c.args.scan.now (length c.args.bytes.now) (g.met.F.Flash.is_lawful c.args.flash.now) c.requires.scanned.lawful c.requires.scanned.scan c.requires.fits in
    let inside = short (g.F.Flash.device c.args.flash.now) c.args.area.now c.args.scan.now (length c.args.bytes.now) is in
    record { fits = len-fits-word c.args.scan.now.data_end (length c.args.bytes.now) inside }

pub padded-requires-clause-len : goal.padded-requires-clause-len
padded-requires-clause-len g c =
    let is = ready (g.F.Flash.device c.args.flash.now) c.args.area.now c.args.scan.now (length c.args.bytes.now) (g.met.F.Flash.is_lawful c.args.flash.now) c.requires.scanned.lawful c.requires.scanned.scan c.requires.fits in
    let inside = short (g.F.Flash.device c.args.flash.now) c.args.area.now c.args.scan.now (length c.args.bytes.now) is in
    omega arith

pub returns-clause-ends : goal.returns-clause-ends
returns-clause-ends g c = record {
  ok =
      let a : Device = g.F.Flash.device c.args.flash.now in
      let m : Device = g.F.Flash.device c.program_padded.new.flash in
      let last : Device = g.F.Flash.device c.put_slot.new.flash in
      let is = ready a c.args.area.now c.args.scan.now (length c.args.bytes.now) (g.met.F.Flash.is_lawful c.args.flash.now) c.requires.scanned.lawful c.requires.scanned.scan c.requires.fits in
      let width : c.slot_size.result ≡ slot_size (unit_of a c.args.area.now) = c.slot_size.ensures.size ∙ ap (λ (x : Geometry). slot_size x.unit) c.geometry-unit.ensures in
      let one = c.in_ok-program_padded.ensures in
      entry_put a c.args.area.now c.args.scan.now c.args.bytes.now is m c.args.id c.slot_size.result c.encode_entry.result c.requires.ordinary width one.touches.banks one.ok c.encode_entry.ensures last c.in_ok-put_slot.ensures.ok;
  image =
      let a : Device = g.F.Flash.device c.args.flash.now in
      let m : Device = g.F.Flash.device c.program_padded.new.flash in
      let last : Device = g.F.Flash.device c.put_slot.new.flash in
      let is = ready a c.args.area.now c.args.scan.now (length c.args.bytes.now) (g.met.F.Flash.is_lawful c.args.flash.now) c.requires.scanned.lawful c.requires.scanned.scan c.requires.fits in
      let width : c.slot_size.result ≡ slot_size (unit_of a c.args.area.now) = c.slot_size.ensures.size ∙ ap (λ (x : Geometry). slot_size x.unit) c.geometry-unit.ensures in
      let one = c.in_ok-program_padded.ensures in
      entry_bytes a c.args.area.now c.args.scan.now c.args.bytes.now is m c.args.id c.slot_size.result c.encode_entry.result c.requires.ordinary width one.touches.banks one.ok c.encode_entry.ensures last c.in_ok-put_slot.ensures.ok;
  scan =
      let a : Device = g.F.Flash.device c.args.flash.now in
      let m : Device = g.F.Flash.device c.program_padded.new.flash in
      let last : Device = g.F.Flash.device c.put_slot.new.flash in
      let is = ready a c.args.area.now c.args.scan.now (length c.args.bytes.now) (g.met.F.Flash.is_lawful c.args.flash.now) c.requires.scanned.lawful c.requires.scanned.scan c.requires.fits in
      let width : c.slot_size.result ≡ slot_size (unit_of a c.args.area.now) = c.slot_size.ensures.size ∙ ap (λ (x : Geometry). slot_size x.unit) c.geometry-unit.ensures in
      let one = c.in_ok-program_padded.ensures in
      let put = entry_put a c.args.area.now c.args.scan.now c.args.bytes.now is m c.args.id c.slot_size.result c.encode_entry.result c.requires.ordinary width one.touches.banks one.ok c.encode_entry.ensures last c.in_ok-put_slot.ensures.ok in
      let rounded : c.padded.result ≡ padded (unit_of a c.args.area.now) (length c.args.bytes.now) = c.padded.ensures.value ∙ ap (λ (x : Geometry). padded x.unit (length c.args.bytes.now)) c.geometry-unit.ensures in
      put_scan a c.args.area.now c.args.scan.now c.args.bytes.now is last c.args.id put c.slot_size.result c.padded.result width rounded (c.in_ok-put_slot.ensures.touches.banks ∙ one.touches.banks);
  spent =
      let a : Device = g.F.Flash.device c.args.flash.now in
      let m : Device = g.F.Flash.device c.program_padded.new.flash in
      let last : Device = g.F.Flash.device c.put_slot.new.flash in
      let is = ready a c.args.area.now c.args.scan.now (length c.args.bytes.now) (g.met.F.Flash.is_lawful c.args.flash.now) c.requires.scanned.lawful c.requires.scanned.scan c.requires.fits in
      let width : c.slot_size.result ≡ slot_size (unit_of a c.args.area.now) = c.slot_size.ensures.size ∙ ap (λ (x : Geometry). slot_size x.unit) c.geometry-unit.ensures in
      let one = c.in_ok-program_padded.ensures in
      entry_spent a c.args.area.now c.args.scan.now c.args.bytes.now is m c.args.id c.slot_size.result c.encode_entry.result c.requires.ordinary width one.touches.banks one.ok c.encode_entry.ensures last one.spent c.in_ok-put_slot.ensures.spent;
  lost = tt;
  in_pieces = tt;
  spent_at_most = tt;
}

pub returns-clause-list : goal.returns-clause-list
returns-clause-list g c =
    let a : Device = g.F.Flash.device c.args.flash.now in
    let m : Device = g.F.Flash.device c.program_padded.new.flash in
    let last : Device = g.F.Flash.device c.put_slot.new.flash in
    let is = ready a c.args.area.now c.args.scan.now (length c.args.bytes.now) (g.met.F.Flash.is_lawful c.args.flash.now) c.requires.scanned.lawful c.requires.scanned.scan c.requires.fits in
    let width : c.slot_size.result ≡ slot_size (unit_of a c.args.area.now) = c.slot_size.ensures.size ∙ ap (λ (x : Geometry). slot_size x.unit) c.geometry-unit.ensures in
    let one = c.in_ok-program_padded.ensures in
    let put = entry_put a c.args.area.now c.args.scan.now c.args.bytes.now is m c.args.id c.slot_size.result c.encode_entry.result c.requires.ordinary width one.touches.banks one.ok c.encode_entry.ensures last c.in_ok-put_slot.ensures.ok in
    put_list a c.args.area.now c.args.scan.now c.args.bytes.now is last c.args.id put c.requires.redo

pub returns-clause-sound : goal.returns-clause-sound
returns-clause-sound g c =
    let a : Device = g.F.Flash.device c.args.flash.now in
    let m : Device = g.F.Flash.device c.program_padded.new.flash in
    let last : Device = g.F.Flash.device c.put_slot.new.flash in
    let is = ready a c.args.area.now c.args.scan.now (length c.args.bytes.now) (g.met.F.Flash.is_lawful c.args.flash.now) c.requires.scanned.lawful c.requires.scanned.scan c.requires.fits in
    let width : c.slot_size.result ≡ slot_size (unit_of a c.args.area.now) = c.slot_size.ensures.size ∙ ap (λ (x : Geometry). slot_size x.unit) c.geometry-unit.ensures in
    let one = c.in_ok-program_padded.ensures in
    let put = entry_put a c.args.area.now c.args.scan.now c.args.bytes.now is m c.args.id c.slot_size.result c.encode_entry.result c.requires.ordinary width one.touches.banks one.ok c.encode_entry.ensures last c.in_ok-put_slot.ensures.ok in
    put_stays a c.args.area.now c.args.scan.now c.args.bytes.now is last c.args.id put

pub returns-clause-undamaged : goal.returns-clause-undamaged
returns-clause-undamaged g c =
    let a : Device = g.F.Flash.device c.args.flash.now in
    let m : Device = g.F.Flash.device c.program_padded.new.flash in
    let last : Device = g.F.Flash.device c.put_slot.new.flash in
    let is = ready a c.args.area.now c.args.scan.now (length c.args.bytes.now) (g.met.F.Flash.is_lawful c.args.flash.now) c.requires.scanned.lawful c.requires.scanned.scan c.requires.fits in
    let width : c.slot_size.result ≡ slot_size (unit_of a c.args.area.now) = c.slot_size.ensures.size ∙ ap (λ (x : Geometry). slot_size x.unit) c.geometry-unit.ensures in
    let one = c.in_ok-program_padded.ensures in
    let put = entry_put a c.args.area.now c.args.scan.now c.args.bytes.now is m c.args.id c.slot_size.result c.encode_entry.result c.requires.ordinary width one.touches.banks one.ok c.encode_entry.ensures last c.in_ok-put_slot.ensures.ok in
    put_undamaged a c.args.area.now c.args.scan.now c.args.bytes.now is last c.args.id put c.requires.redo

pub overflow_sub-slot : goal.overflow_sub-slot
overflow_sub-slot g c =
    let a : Device = g.F.Flash.device c.args.flash.now in
    let is = ready a c.args.area.now c.args.scan.now (length c.args.bytes.now) (g.met.F.Flash.is_lawful c.args.flash.now) c.requires.scanned.lawful c.requires.scanned.scan c.requires.fits in
    let width : c.slot_size.result ≡ slot_size (unit_of a c.args.area.now) = c.slot_size.ensures.size ∙ ap (λ (x : Geometry). slot_size x.unit) c.geometry-unit.ensures in
    slot-in (unit_of a c.args.area.now) (sector_bytes a c.args.area.now c.args.scan.now.current) (length c.args.bytes.now) c.args.scan.now.low c.slot_size.result is.room is.lowest width

pub overflow_add-scan : goal.overflow_add-scan
overflow_add-scan g c =
    let a : Device = g.F.Flash.device c.args.flash.now in
    let is = ready a c.args.area.now c.args.scan.now (length c.args.bytes.now) (g.met.F.Flash.is_lawful c.args.flash.now) c.requires.scanned.lawful c.requires.scanned.scan c.requires.fits in
    let rounded : c.padded.result ≡ padded (unit_of a c.args.area.now) (length c.args.bytes.now) = c.padded.ensures.value ∙ ap (λ (x : Geometry). padded x.unit (length c.args.bytes.now)) c.geometry-unit.ensures in
    let below : c.args.scan.now.data_end + c.padded.result < 2 ^ 32 =
    data-in (unit_of a c.args.area.now) (sector_bytes a c.args.area.now c.args.scan.now.current) (length c.args.bytes.now) c.args.scan.now.data_end c.padded.result is.room is.end rounded in
    record { fits = below }

pub padded-requires-clause-unit : goal.padded-requires-clause-unit
padded-requires-clause-unit g c =
    subst (λ (x : Geometry). IsUnit x.unit) (sym c.geometry-unit.ensures)
    (unit_is (g.F.Flash.device c.args.flash.now) c.args.area.now (g.met.F.Flash.is_lawful c.args.flash.now) c.requires.scanned.lawful.in_bank)

pub put_slot-requires-clause-lawful : goal.put_slot-requires-clause-lawful
put_slot-requires-clause-lawful g c =
    subst (λ (banks : List Bank). IsLawfulArea banks c.args.area.now) (sym c.in_ok-program_padded.ensures.touches.banks) c.requires.scanned.lawful.in_bank

pub returns-clause-touches : goal.returns-clause-touches
returns-clause-touches g c = then c.in_ok-program_padded.ensures.touches c.in_ok-put_slot.ensures.touches

pub returns-in_err-program_padded-clause-touches : goal.returns-in_err-program_padded-clause-touches
returns-in_err-program_padded-clause-touches g c =
    subst (λ (lost : Bool). Touches (c.args.area.now ∷ []) (g.F.Flash.device c.args.flash.now) (g.F.Flash.device c.program_padded.new.flash) lost) (sym c.from_residual.ensures.0)
    c.in_err-program_padded.ensures.touches

pub returns-in_err-program_padded-clause-list : goal.returns-in_err-program_padded-clause-list
returns-in_err-program_padded-clause-list g c = not_ok _ c.from_residual.result c.from_residual.ensures.0

pub returns-in_err-put_slot-clause-touches : goal.returns-in_err-put_slot-clause-touches
returns-in_err-put_slot-clause-touches g c =
    subst (λ (lost : Bool). Touches (c.args.area.now ∷ []) (g.F.Flash.device c.args.flash.now) (g.F.Flash.device c.put_slot.new.flash) lost) (sym c.from_residual-in_err-put_slot.ensures.0)
    (then c.in_ok-program_padded.ensures.touches c.in_err-put_slot.ensures.touches)

pub returns-in_err-put_slot-clause-list : goal.returns-in_err-put_slot-clause-list
returns-in_err-put_slot-clause-list g c = not_ok _ c.from_residual-in_err-put_slot.result c.from_residual-in_err-put_slot.ensures.0
