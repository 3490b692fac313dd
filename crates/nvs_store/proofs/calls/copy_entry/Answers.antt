use Rattle.std.proofs.Common.{◌≡◌, ℕ, ◌+◌, ◌-◌, ◌/◌, ◌<◌, ◌≤◌, Bool, List, [], ◌∷◌, length, sym, ap, subst, ◌∙◌, arith}
use Rattle.flash_sim.specs.Bank.{bank_at}
use Rattle.flash_sim.specs.Device.{Device}
use Rattle.flash_sim.specs.declared.flash.Bank.{Bank}
use Rattle.flash_map.specs.declared.area.Area.{Area}
use Rattle.flash_map.specs.declared.area.Geometry.{Geometry}
use Rattle.flash_map.specs.Area.{IsLawfulArea, unit_of, sector_size, sectors_of, sector_bytes, Writes, WritesPart}
use Rattle.flash_map.specs.Copies.{pieces_of}
use Rattle.flash_map.specs.Pieces.{CanProgramAll}
use Rattle.flash_map.specs.Spending.{Spends, SpendsAtMost}
use Rattle.flash_map.specs.Touches.{Touches}
use Rattle.flash_map.specs.Units.{IsUnit, padded, padded_bytes}
use Rattle.flash_map.proofs.CopyLemmas.{length-source, viewed, viewed_lost}
use Rattle.flash_map.proofs.PieceLemmas.{on_err, within_then, within_most}
use Rattle.flash_map.proofs.Places.{length-sector}
use Rattle.flash_map.proofs.Touches.{then}
use Rattle.item_laws.specs.Area.{open_sector}
use Rattle.flash_map.specs.Area.{sector_at}
use Rattle.item_laws.proofs.Stays.{open_within}
use Rattle.nvs_store.specs.declared.entry.Entry.{Entry}
use Rattle.nvs_store.specs.declared.scan.Scan.{Scan}
use Rattle.nvs_store.specs.Geometry.{slot_size, cost}
use Rattle.nvs_store.specs.Entries.{encoded}
use Rattle.nvs_store.specs.On.{copy_piece}
use Rattle.nvs_store.specs.Sector.{low, data_end}
use Rattle.nvs_store.specs.Scans.{reading, placed_bytes, scan_at, scan_of, AddsPairAt}
use Rattle.nvs_store.proofs.Appending.{open_is, scan_there, pair_used, scan_added}
use Rattle.item_laws.proofs.AreaReads.{length-sectors}
use Rattle.nvs_store.proofs.Putting.{can_data, data_cut, data_most, can_entry_after, pair_image, pair_put, entry_cut, pair_spent, pair_most}
use Rattle.nvs_store.proofs.CallFacts.{data-under, not_ok, room-in, short-in, slot-under}
use Rattle.nvs_store.proofs.Views.{unit_is}
use Rattle.nvs_store.proofs.Room.{HasRoom, IsNext}
use Rattle.nvs_store.proofs.calls.copy_entry.Goals as goal

pub overflow_cast-entry : goal.overflow_cast-entry
overflow_cast-entry g c =
    let a : Device = g.F.Flash.device c.args.flash.now in
    let area : Area = c.args.area.now in
    let lawful = g.met.F.Flash.is_lawful c.args.flash.now in
    let is_area = c.requires.scanned.lawful.in_bank in
    let unit : ℕ = unit_of a area in
    let place : ℕ = c.args.scan.now.current in
    let old : List (List ℕ) = sectors_of a area in
    let bytes : List ℕ = placed_bytes old c.args.from.now in
    let b : List ℕ = sector_bytes a area place in
    let count : length old ≡ area.sectors = length-sectors a area in
    let is : open_sector (reading unit) old ≡ place = open_is unit old c.args.scan.now c.requires.scanned.scan in
    let inside : open_sector (reading unit) old < length old = open_within (reading unit) old (omega (arith, c.requires.scanned.lawful.several)) in
    let within : place < length old = omega arith in
    let has_sector : place < area.sectors = omega arith in
    let scanned : c.args.scan.now ≡ scan_at unit old place = scan_there unit old c.args.scan.now c.requires.scanned.scan in
    let lowest : c.args.scan.now.low ≡ low unit b = ap (λ (s : Scan). s.low) scanned in
    let end : c.args.scan.now.data_end ≡ data_end unit b = ap (λ (s : Scan). s.data_end) scanned in
    let is-unit : IsUnit unit = unit_is a area lawful is_area in
    let long : length b ≡ sector_size a area = length-sector a area lawful is_area place has_sector in
    let source_long : length (sector_bytes a area c.args.from.now.sector) ≡ sector_size a area = length-sector a area lawful is_area c.args.from.now.sector c.requires.source.has_source in
    let len : length bytes ≡ c.args.from.now.entry.len = length-source a area (record { sector = c.args.from.now.sector; offset = c.args.from.now.entry.offset; len = c.args.from.now.entry.len }) (subst (λ (n : ℕ). c.args.from.now.entry.offset + c.args.from.now.entry.len ≤ n) (sym source_long) c.requires.source.inside) in
    let rounded : padded unit (length bytes) ≡ padded unit c.args.from.now.entry.len = ap (padded unit) len in
    let room : HasRoom unit b (length bytes) = room-in unit b (length bytes) c.args.from.now.entry.len (sector_size a area) c.args.scan.now.low c.args.scan.now.data_end is-unit long c.requires.scanned.lawful.at_most lowest end len c.requires.free in
    let fits_in = room.room in
    omega arith

pub copy_padded-requires-clause-can : goal.copy_padded-requires-clause-can
copy_padded-requires-clause-can g c =
    let a : Device = g.F.Flash.device c.args.flash.now in
    let area : Area = c.args.area.now in
    let lawful = g.met.F.Flash.is_lawful c.args.flash.now in
    let is_area = c.requires.scanned.lawful.in_bank in
    let unit : ℕ = unit_of a area in
    let place : ℕ = c.args.scan.now.current in
    let old : List (List ℕ) = sectors_of a area in
    let bytes : List ℕ = placed_bytes old c.args.from.now in
    let b : List ℕ = sector_bytes a area place in
    let count : length old ≡ area.sectors = length-sectors a area in
    let is : open_sector (reading unit) old ≡ place = open_is unit old c.args.scan.now c.requires.scanned.scan in
    let inside : open_sector (reading unit) old < length old = open_within (reading unit) old (omega (arith, c.requires.scanned.lawful.several)) in
    let within : place < length old = omega arith in
    let has_sector : place < area.sectors = omega arith in
    let scanned : c.args.scan.now ≡ scan_at unit old place = scan_there unit old c.args.scan.now c.requires.scanned.scan in
    let lowest : c.args.scan.now.low ≡ low unit b = ap (λ (s : Scan). s.low) scanned in
    let end : c.args.scan.now.data_end ≡ data_end unit b = ap (λ (s : Scan). s.data_end) scanned in
    let is-unit : IsUnit unit = unit_is a area lawful is_area in
    let long : length b ≡ sector_size a area = length-sector a area lawful is_area place has_sector in
    let source_long : length (sector_bytes a area c.args.from.now.sector) ≡ sector_size a area = length-sector a area lawful is_area c.args.from.now.sector c.requires.source.has_source in
    let len : length bytes ≡ c.args.from.now.entry.len = length-source a area (record { sector = c.args.from.now.sector; offset = c.args.from.now.entry.offset; len = c.args.from.now.entry.len }) (subst (λ (n : ℕ). c.args.from.now.entry.offset + c.args.from.now.entry.len ≤ n) (sym source_long) c.requires.source.inside) in
    let rounded : padded unit (length bytes) ≡ padded unit c.args.from.now.entry.len = ap (padded unit) len in
    let room : HasRoom unit b (length bytes) = room-in unit b (length bytes) c.args.from.now.entry.len (sector_size a area) c.args.scan.now.low c.args.scan.now.data_end is-unit long c.requires.scanned.lawful.at_most lowest end len c.requires.free in
    subst (λ (offset : ℕ). CanProgramAll a area place offset (padded_bytes unit bytes)) (sym end) (can_data a area lawful is_area place has_sector bytes room)

pub returns-in_err-copy_padded-clause-ends : goal.returns-in_err-copy_padded-clause-ends
returns-in_err-copy_padded-clause-ends g c = record {
  ok = not_ok _ c.from_residual.result c.from_residual.ensures.0;
  image = not_ok _ c.from_residual.result c.from_residual.ensures.0;
  scan = not_ok _ c.from_residual.result c.from_residual.ensures.0;
  spent = not_ok _ c.from_residual.result c.from_residual.ensures.0;
  lost =
      let a : Device = g.F.Flash.device c.args.flash.now in
      let area : Area = c.args.area.now in
      let lawful = g.met.F.Flash.is_lawful c.args.flash.now in
      let is_area = c.requires.scanned.lawful.in_bank in
      let unit : ℕ = unit_of a area in
      let place : ℕ = c.args.scan.now.current in
      let old : List (List ℕ) = sectors_of a area in
      let bytes : List ℕ = placed_bytes old c.args.from.now in
      let b : List ℕ = sector_bytes a area place in
      let count : length old ≡ area.sectors = length-sectors a area in
      let is : open_sector (reading unit) old ≡ place = open_is unit old c.args.scan.now c.requires.scanned.scan in
      let inside : open_sector (reading unit) old < length old = open_within (reading unit) old (omega (arith, c.requires.scanned.lawful.several)) in
      let within : place < length old = omega arith in
      let has_sector : place < area.sectors = omega arith in
      let scanned : c.args.scan.now ≡ scan_at unit old place = scan_there unit old c.args.scan.now c.requires.scanned.scan in
      let lowest : c.args.scan.now.low ≡ low unit b = ap (λ (s : Scan). s.low) scanned in
      let end : c.args.scan.now.data_end ≡ data_end unit b = ap (λ (s : Scan). s.data_end) scanned in
      let is-unit : IsUnit unit = unit_is a area lawful is_area in
      let long : length b ≡ sector_size a area = length-sector a area lawful is_area place has_sector in
      let source_long : length (sector_bytes a area c.args.from.now.sector) ≡ sector_size a area = length-sector a area lawful is_area c.args.from.now.sector c.requires.source.has_source in
      let len : length bytes ≡ c.args.from.now.entry.len = length-source a area (record { sector = c.args.from.now.sector; offset = c.args.from.now.entry.offset; len = c.args.from.now.entry.len }) (subst (λ (n : ℕ). c.args.from.now.entry.offset + c.args.from.now.entry.len ≤ n) (sym source_long) c.requires.source.inside) in
      let rounded : padded unit (length bytes) ≡ padded unit c.args.from.now.entry.len = ap (padded unit) len in
      let room : HasRoom unit b (length bytes) = room-in unit b (length bytes) c.args.from.now.entry.len (sector_size a area) c.args.scan.now.low c.args.scan.now.data_end is-unit long c.requires.scanned.lawful.at_most lowest end len c.requires.free in
      let m : Device = g.F.Flash.device c.copy_padded.new.flash in
      on_err c.from_residual.result
      (data_cut a area lawful is_area place has_sector m c.args.from.now.entry.id bytes room (subst (λ (offset : ℕ). WritesPart a m area place offset (padded_bytes unit bytes)) end c.in_err-copy_padded.ensures.lost));
  in_pieces = on_err c.from_residual.result c.in_err-copy_padded.ensures.in_pieces;
  spent_at_most =
      let a : Device = g.F.Flash.device c.args.flash.now in
      let area : Area = c.args.area.now in
      let lawful = g.met.F.Flash.is_lawful c.args.flash.now in
      let is_area = c.requires.scanned.lawful.in_bank in
      let unit : ℕ = unit_of a area in
      let place : ℕ = c.args.scan.now.current in
      let old : List (List ℕ) = sectors_of a area in
      let bytes : List ℕ = placed_bytes old c.args.from.now in
      let b : List ℕ = sector_bytes a area place in
      let count : length old ≡ area.sectors = length-sectors a area in
      let is : open_sector (reading unit) old ≡ place = open_is unit old c.args.scan.now c.requires.scanned.scan in
      let inside : open_sector (reading unit) old < length old = open_within (reading unit) old (omega (arith, c.requires.scanned.lawful.several)) in
      let within : place < length old = omega arith in
      let has_sector : place < area.sectors = omega arith in
      let scanned : c.args.scan.now ≡ scan_at unit old place = scan_there unit old c.args.scan.now c.requires.scanned.scan in
      let lowest : c.args.scan.now.low ≡ low unit b = ap (λ (s : Scan). s.low) scanned in
      let end : c.args.scan.now.data_end ≡ data_end unit b = ap (λ (s : Scan). s.data_end) scanned in
      let is-unit : IsUnit unit = unit_is a area lawful is_area in
      let long : length b ≡ sector_size a area = length-sector a area lawful is_area place has_sector in
      let source_long : length (sector_bytes a area c.args.from.now.sector) ≡ sector_size a area = length-sector a area lawful is_area c.args.from.now.sector c.requires.source.has_source in
      let len : length bytes ≡ c.args.from.now.entry.len = length-source a area (record { sector = c.args.from.now.sector; offset = c.args.from.now.entry.offset; len = c.args.from.now.entry.len }) (subst (λ (n : ℕ). c.args.from.now.entry.offset + c.args.from.now.entry.len ≤ n) (sym source_long) c.requires.source.inside) in
      let rounded : padded unit (length bytes) ≡ padded unit c.args.from.now.entry.len = ap (padded unit) len in
      let room : HasRoom unit b (length bytes) = room-in unit b (length bytes) c.args.from.now.entry.len (sector_size a area) c.args.scan.now.low c.args.scan.now.data_end is-unit long c.requires.scanned.lawful.at_most lowest end len c.requires.free in
      let m : Device = g.F.Flash.device c.copy_padded.new.flash in
      let costs : cost unit (length bytes) / unit ≡ cost unit c.args.from.now.entry.len / unit = ap (λ (n : ℕ). cost unit n / unit) len in
      on_err c.from_residual.result
      (subst (λ (n : ℕ). SpendsAtMost a m n) costs (data_most a area lawful is_area place has_sector m bytes (subst (λ (n : ℕ). SpendsAtMost a m (n / unit)) (sym rounded) c.in_err-copy_padded.ensures.spent.cut)));
}

pub put_slot-requires-clause-can : goal.put_slot-requires-clause-can
put_slot-requires-clause-can g c =
    let a : Device = g.F.Flash.device c.args.flash.now in
    let area : Area = c.args.area.now in
    let lawful = g.met.F.Flash.is_lawful c.args.flash.now in
    let is_area = c.requires.scanned.lawful.in_bank in
    let unit : ℕ = unit_of a area in
    let place : ℕ = c.args.scan.now.current in
    let old : List (List ℕ) = sectors_of a area in
    let bytes : List ℕ = placed_bytes old c.args.from.now in
    let b : List ℕ = sector_bytes a area place in
    let count : length old ≡ area.sectors = length-sectors a area in
    let is : open_sector (reading unit) old ≡ place = open_is unit old c.args.scan.now c.requires.scanned.scan in
    let inside : open_sector (reading unit) old < length old = open_within (reading unit) old (omega (arith, c.requires.scanned.lawful.several)) in
    let within : place < length old = omega arith in
    let has_sector : place < area.sectors = omega arith in
    let scanned : c.args.scan.now ≡ scan_at unit old place = scan_there unit old c.args.scan.now c.requires.scanned.scan in
    let lowest : c.args.scan.now.low ≡ low unit b = ap (λ (s : Scan). s.low) scanned in
    let end : c.args.scan.now.data_end ≡ data_end unit b = ap (λ (s : Scan). s.data_end) scanned in
    let is-unit : IsUnit unit = unit_is a area lawful is_area in
    let long : length b ≡ sector_size a area = length-sector a area lawful is_area place has_sector in
    let source_long : length (sector_bytes a area c.args.from.now.sector) ≡ sector_size a area = length-sector a area lawful is_area c.args.from.now.sector c.requires.source.has_source in
    let len : length bytes ≡ c.args.from.now.entry.len = length-source a area (record { sector = c.args.from.now.sector; offset = c.args.from.now.entry.offset; len = c.args.from.now.entry.len }) (subst (λ (n : ℕ). c.args.from.now.entry.offset + c.args.from.now.entry.len ≤ n) (sym source_long) c.requires.source.inside) in
    let rounded : padded unit (length bytes) ≡ padded unit c.args.from.now.entry.len = ap (padded unit) len in
    let room : HasRoom unit b (length bytes) = room-in unit b (length bytes) c.args.from.now.entry.len (sector_size a area) c.args.scan.now.low c.args.scan.now.data_end is-unit long c.requires.scanned.lawful.at_most lowest end len c.requires.free in
    let e : Entry = record { id = c.args.from.now.entry.id; offset = c.args.scan.now.data_end; len = c.args.from.now.entry.len; part = 255 } in
    let follows : IsNext unit b e bytes = record { ordinary = c.requires.source.ordinary; place = end; long = sym len } in
    let width : c.slot_size.result ≡ slot_size unit = c.slot_size.ensures.size ∙ ap (λ (x : Geometry). slot_size x.unit) c.geometry-unit.ensures in
    let at : c.args.scan.now.low - c.slot_size.result ≡ low unit b - slot_size unit = omega arith in
    let m : Device = g.F.Flash.device c.copy_padded.new.flash in
    let one = c.in_ok-copy_padded.ensures in
    let first_part : Writes a m area place (data_end unit b) (padded_bytes unit bytes) = subst (λ (offset : ℕ). Writes a m area place offset (padded_bytes unit bytes)) end one.ok in
    let first_spent : Spends a m (padded unit (length bytes) / unit) = subst (λ (n : ℕ). Spends a m (n / unit)) (sym rounded) one.spent.whole in
    subst (λ (offset : ℕ). CanProgramAll m area place offset (padded_bytes (unit_of m area) c.encode_entry-bytes.result)) (sym at)
    (subst (λ (xs : List ℕ). CanProgramAll m area place (low unit b - slot_size unit) (padded_bytes (unit_of m area) xs)) (sym c.encode_entry-bytes.ensures) (can_entry_after a area lawful is_area place has_sector m bytes room one.touches.banks first_part e))

pub returns-in_err-put_slot-clause-ends : goal.returns-in_err-put_slot-clause-ends
returns-in_err-put_slot-clause-ends g c = record {
  ok = not_ok _ c.from_residual-in_err-put_slot.result c.from_residual-in_err-put_slot.ensures.0;
  image = not_ok _ c.from_residual-in_err-put_slot.result c.from_residual-in_err-put_slot.ensures.0;
  scan = not_ok _ c.from_residual-in_err-put_slot.result c.from_residual-in_err-put_slot.ensures.0;
  spent = not_ok _ c.from_residual-in_err-put_slot.result c.from_residual-in_err-put_slot.ensures.0;
  lost =
      let a : Device = g.F.Flash.device c.args.flash.now in
      let area : Area = c.args.area.now in
      let lawful = g.met.F.Flash.is_lawful c.args.flash.now in
      let is_area = c.requires.scanned.lawful.in_bank in
      let unit : ℕ = unit_of a area in
      let place : ℕ = c.args.scan.now.current in
      let old : List (List ℕ) = sectors_of a area in
      let bytes : List ℕ = placed_bytes old c.args.from.now in
      let b : List ℕ = sector_bytes a area place in
      let count : length old ≡ area.sectors = length-sectors a area in
      let is : open_sector (reading unit) old ≡ place = open_is unit old c.args.scan.now c.requires.scanned.scan in
      let inside : open_sector (reading unit) old < length old = open_within (reading unit) old (omega (arith, c.requires.scanned.lawful.several)) in
      let within : place < length old = omega arith in
      let has_sector : place < area.sectors = omega arith in
      let scanned : c.args.scan.now ≡ scan_at unit old place = scan_there unit old c.args.scan.now c.requires.scanned.scan in
      let lowest : c.args.scan.now.low ≡ low unit b = ap (λ (s : Scan). s.low) scanned in
      let end : c.args.scan.now.data_end ≡ data_end unit b = ap (λ (s : Scan). s.data_end) scanned in
      let is-unit : IsUnit unit = unit_is a area lawful is_area in
      let long : length b ≡ sector_size a area = length-sector a area lawful is_area place has_sector in
      let source_long : length (sector_bytes a area c.args.from.now.sector) ≡ sector_size a area = length-sector a area lawful is_area c.args.from.now.sector c.requires.source.has_source in
      let len : length bytes ≡ c.args.from.now.entry.len = length-source a area (record { sector = c.args.from.now.sector; offset = c.args.from.now.entry.offset; len = c.args.from.now.entry.len }) (subst (λ (n : ℕ). c.args.from.now.entry.offset + c.args.from.now.entry.len ≤ n) (sym source_long) c.requires.source.inside) in
      let rounded : padded unit (length bytes) ≡ padded unit c.args.from.now.entry.len = ap (padded unit) len in
      let room : HasRoom unit b (length bytes) = room-in unit b (length bytes) c.args.from.now.entry.len (sector_size a area) c.args.scan.now.low c.args.scan.now.data_end is-unit long c.requires.scanned.lawful.at_most lowest end len c.requires.free in
      let e : Entry = record { id = c.args.from.now.entry.id; offset = c.args.scan.now.data_end; len = c.args.from.now.entry.len; part = 255 } in
      let follows : IsNext unit b e bytes = record { ordinary = c.requires.source.ordinary; place = end; long = sym len } in
      let width : c.slot_size.result ≡ slot_size unit = c.slot_size.ensures.size ∙ ap (λ (x : Geometry). slot_size x.unit) c.geometry-unit.ensures in
      let at : c.args.scan.now.low - c.slot_size.result ≡ low unit b - slot_size unit = omega arith in
      let m : Device = g.F.Flash.device c.copy_padded.new.flash in
      let one = c.in_ok-copy_padded.ensures in
      let first_part : Writes a m area place (data_end unit b) (padded_bytes unit bytes) = subst (λ (offset : ℕ). Writes a m area place offset (padded_bytes unit bytes)) end one.ok in
      let first_spent : Spends a m (padded unit (length bytes) / unit) = subst (λ (n : ℕ). Spends a m (n / unit)) (sym rounded) one.spent.whole in
      let last : Device = g.F.Flash.device c.put_slot.new.flash in
      let part : WritesPart m last area place (low unit b - slot_size unit) (padded_bytes (unit_of m area) (encoded e)) =
      subst (λ (offset : ℕ). WritesPart m last area place offset (padded_bytes (unit_of m area) (encoded e))) at (subst (λ (xs : List ℕ). WritesPart m last area place (c.args.scan.now.low - c.slot_size.result) (padded_bytes (unit_of m area) xs)) c.encode_entry-bytes.ensures c.in_err-put_slot.ensures.lost) in
      on_err c.from_residual-in_err-put_slot.result (entry_cut a area lawful is_area place has_sector m bytes room one.touches.banks first_part last e follows part);
  in_pieces = on_err c.from_residual-in_err-put_slot.result (within_then copy_piece (g.F.Flash.device c.args.flash.now) (g.F.Flash.device c.copy_padded.new.flash) (g.F.Flash.device c.put_slot.new.flash) (c.args.area.now ∷ []) c.in_ok-copy_padded.ensures.touches (within_most 16 copy_piece (g.F.Flash.device c.copy_padded.new.flash) (g.F.Flash.device c.put_slot.new.flash) (omega arith) c.in_err-put_slot.ensures.in_slot));
  spent_at_most =
      let a : Device = g.F.Flash.device c.args.flash.now in
      let area : Area = c.args.area.now in
      let lawful = g.met.F.Flash.is_lawful c.args.flash.now in
      let is_area = c.requires.scanned.lawful.in_bank in
      let unit : ℕ = unit_of a area in
      let place : ℕ = c.args.scan.now.current in
      let old : List (List ℕ) = sectors_of a area in
      let bytes : List ℕ = placed_bytes old c.args.from.now in
      let b : List ℕ = sector_bytes a area place in
      let count : length old ≡ area.sectors = length-sectors a area in
      let is : open_sector (reading unit) old ≡ place = open_is unit old c.args.scan.now c.requires.scanned.scan in
      let inside : open_sector (reading unit) old < length old = open_within (reading unit) old (omega (arith, c.requires.scanned.lawful.several)) in
      let within : place < length old = omega arith in
      let has_sector : place < area.sectors = omega arith in
      let scanned : c.args.scan.now ≡ scan_at unit old place = scan_there unit old c.args.scan.now c.requires.scanned.scan in
      let lowest : c.args.scan.now.low ≡ low unit b = ap (λ (s : Scan). s.low) scanned in
      let end : c.args.scan.now.data_end ≡ data_end unit b = ap (λ (s : Scan). s.data_end) scanned in
      let is-unit : IsUnit unit = unit_is a area lawful is_area in
      let long : length b ≡ sector_size a area = length-sector a area lawful is_area place has_sector in
      let source_long : length (sector_bytes a area c.args.from.now.sector) ≡ sector_size a area = length-sector a area lawful is_area c.args.from.now.sector c.requires.source.has_source in
      let len : length bytes ≡ c.args.from.now.entry.len = length-source a area (record { sector = c.args.from.now.sector; offset = c.args.from.now.entry.offset; len = c.args.from.now.entry.len }) (subst (λ (n : ℕ). c.args.from.now.entry.offset + c.args.from.now.entry.len ≤ n) (sym source_long) c.requires.source.inside) in
      let rounded : padded unit (length bytes) ≡ padded unit c.args.from.now.entry.len = ap (padded unit) len in
      let room : HasRoom unit b (length bytes) = room-in unit b (length bytes) c.args.from.now.entry.len (sector_size a area) c.args.scan.now.low c.args.scan.now.data_end is-unit long c.requires.scanned.lawful.at_most lowest end len c.requires.free in
      let e : Entry = record { id = c.args.from.now.entry.id; offset = c.args.scan.now.data_end; len = c.args.from.now.entry.len; part = 255 } in
      let follows : IsNext unit b e bytes = record { ordinary = c.requires.source.ordinary; place = end; long = sym len } in
      let m : Device = g.F.Flash.device c.copy_padded.new.flash in
      let one = c.in_ok-copy_padded.ensures in
      let first_part : Writes a m area place (data_end unit b) (padded_bytes unit bytes) = subst (λ (offset : ℕ). Writes a m area place offset (padded_bytes unit bytes)) end one.ok in
      let first_spent : Spends a m (padded unit (length bytes) / unit) = subst (λ (n : ℕ). Spends a m (n / unit)) (sym rounded) one.spent.whole in
      let last : Device = g.F.Flash.device c.put_slot.new.flash in
      let costs : cost unit (length bytes) / unit ≡ cost unit c.args.from.now.entry.len / unit = ap (λ (n : ℕ). cost unit n / unit) len in
      on_err c.from_residual-in_err-put_slot.result
      (subst (λ (n : ℕ). SpendsAtMost a last n) costs (pair_most a area lawful is_area place has_sector m bytes room one.touches.banks first_part last e first_spent
      (subst (λ (xs : List ℕ). SpendsAtMost m last (padded (unit_of m area) (length xs) / unit_of m area)) c.encode_entry-bytes.ensures c.in_err-put_slot.ensures.spent_at_most)));
}

pub returns-clause-ends : goal.returns-clause-ends
returns-clause-ends g c = record {
  ok =
      let a : Device = g.F.Flash.device c.args.flash.now in
      let area : Area = c.args.area.now in
      let lawful = g.met.F.Flash.is_lawful c.args.flash.now in
      let is_area = c.requires.scanned.lawful.in_bank in
      let unit : ℕ = unit_of a area in
      let place : ℕ = c.args.scan.now.current in
      let old : List (List ℕ) = sectors_of a area in
      let bytes : List ℕ = placed_bytes old c.args.from.now in
      let b : List ℕ = sector_bytes a area place in
      let count : length old ≡ area.sectors = length-sectors a area in
      let is : open_sector (reading unit) old ≡ place = open_is unit old c.args.scan.now c.requires.scanned.scan in
      let inside : open_sector (reading unit) old < length old = open_within (reading unit) old (omega (arith, c.requires.scanned.lawful.several)) in
      let within : place < length old = omega arith in
      let has_sector : place < area.sectors = omega arith in
      let scanned : c.args.scan.now ≡ scan_at unit old place = scan_there unit old c.args.scan.now c.requires.scanned.scan in
      let lowest : c.args.scan.now.low ≡ low unit b = ap (λ (s : Scan). s.low) scanned in
      let end : c.args.scan.now.data_end ≡ data_end unit b = ap (λ (s : Scan). s.data_end) scanned in
      let is-unit : IsUnit unit = unit_is a area lawful is_area in
      let long : length b ≡ sector_size a area = length-sector a area lawful is_area place has_sector in
      let source_long : length (sector_bytes a area c.args.from.now.sector) ≡ sector_size a area = length-sector a area lawful is_area c.args.from.now.sector c.requires.source.has_source in
      let len : length bytes ≡ c.args.from.now.entry.len = length-source a area (record { sector = c.args.from.now.sector; offset = c.args.from.now.entry.offset; len = c.args.from.now.entry.len }) (subst (λ (n : ℕ). c.args.from.now.entry.offset + c.args.from.now.entry.len ≤ n) (sym source_long) c.requires.source.inside) in
      let rounded : padded unit (length bytes) ≡ padded unit c.args.from.now.entry.len = ap (padded unit) len in
      let room : HasRoom unit b (length bytes) = room-in unit b (length bytes) c.args.from.now.entry.len (sector_size a area) c.args.scan.now.low c.args.scan.now.data_end is-unit long c.requires.scanned.lawful.at_most lowest end len c.requires.free in
      let e : Entry = record { id = c.args.from.now.entry.id; offset = c.args.scan.now.data_end; len = c.args.from.now.entry.len; part = 255 } in
      let follows : IsNext unit b e bytes = record { ordinary = c.requires.source.ordinary; place = end; long = sym len } in
      let width : c.slot_size.result ≡ slot_size unit = c.slot_size.ensures.size ∙ ap (λ (x : Geometry). slot_size x.unit) c.geometry-unit.ensures in
      let at : c.args.scan.now.low - c.slot_size.result ≡ low unit b - slot_size unit = omega arith in
      let m : Device = g.F.Flash.device c.copy_padded.new.flash in
      let one = c.in_ok-copy_padded.ensures in
      let first_part : Writes a m area place (data_end unit b) (padded_bytes unit bytes) = subst (λ (offset : ℕ). Writes a m area place offset (padded_bytes unit bytes)) end one.ok in
      let first_spent : Spends a m (padded unit (length bytes) / unit) = subst (λ (n : ℕ). Spends a m (n / unit)) (sym rounded) one.spent.whole in
      let last : Device = g.F.Flash.device c.put_slot.new.flash in
      let written : Writes m last area place (low unit b - slot_size unit) (padded_bytes (unit_of m area) (encoded e)) =
      subst (λ (offset : ℕ). Writes m last area place offset (padded_bytes (unit_of m area) (encoded e))) at (subst (λ (xs : List ℕ). Writes m last area place (c.args.scan.now.low - c.slot_size.result) (padded_bytes (unit_of m area) xs)) c.encode_entry-bytes.ensures c.in_ok-put_slot.ensures.ok) in
      let put : AddsPairAt unit old (sectors_of last area) place c.args.from.now.entry.id bytes = pair_put a area lawful is_area place has_sector m bytes room one.touches.banks first_part last e follows written in
      let now : List ℕ = sector_at (sectors_of last area) place in
      let full = pair_used unit place b now c.args.from.now.entry.id bytes room put.adds in
      put;
  image =
      let a : Device = g.F.Flash.device c.args.flash.now in
      let area : Area = c.args.area.now in
      let lawful = g.met.F.Flash.is_lawful c.args.flash.now in
      let is_area = c.requires.scanned.lawful.in_bank in
      let unit : ℕ = unit_of a area in
      let place : ℕ = c.args.scan.now.current in
      let old : List (List ℕ) = sectors_of a area in
      let bytes : List ℕ = placed_bytes old c.args.from.now in
      let b : List ℕ = sector_bytes a area place in
      let count : length old ≡ area.sectors = length-sectors a area in
      let is : open_sector (reading unit) old ≡ place = open_is unit old c.args.scan.now c.requires.scanned.scan in
      let inside : open_sector (reading unit) old < length old = open_within (reading unit) old (omega (arith, c.requires.scanned.lawful.several)) in
      let within : place < length old = omega arith in
      let has_sector : place < area.sectors = omega arith in
      let scanned : c.args.scan.now ≡ scan_at unit old place = scan_there unit old c.args.scan.now c.requires.scanned.scan in
      let lowest : c.args.scan.now.low ≡ low unit b = ap (λ (s : Scan). s.low) scanned in
      let end : c.args.scan.now.data_end ≡ data_end unit b = ap (λ (s : Scan). s.data_end) scanned in
      let is-unit : IsUnit unit = unit_is a area lawful is_area in
      let long : length b ≡ sector_size a area = length-sector a area lawful is_area place has_sector in
      let source_long : length (sector_bytes a area c.args.from.now.sector) ≡ sector_size a area = length-sector a area lawful is_area c.args.from.now.sector c.requires.source.has_source in
      let len : length bytes ≡ c.args.from.now.entry.len = length-source a area (record { sector = c.args.from.now.sector; offset = c.args.from.now.entry.offset; len = c.args.from.now.entry.len }) (subst (λ (n : ℕ). c.args.from.now.entry.offset + c.args.from.now.entry.len ≤ n) (sym source_long) c.requires.source.inside) in
      let rounded : padded unit (length bytes) ≡ padded unit c.args.from.now.entry.len = ap (padded unit) len in
      let room : HasRoom unit b (length bytes) = room-in unit b (length bytes) c.args.from.now.entry.len (sector_size a area) c.args.scan.now.low c.args.scan.now.data_end is-unit long c.requires.scanned.lawful.at_most lowest end len c.requires.free in
      let e : Entry = record { id = c.args.from.now.entry.id; offset = c.args.scan.now.data_end; len = c.args.from.now.entry.len; part = 255 } in
      let width : c.slot_size.result ≡ slot_size unit = c.slot_size.ensures.size ∙ ap (λ (x : Geometry). slot_size x.unit) c.geometry-unit.ensures in
      let at : c.args.scan.now.low - c.slot_size.result ≡ low unit b - slot_size unit = omega arith in
      let m : Device = g.F.Flash.device c.copy_padded.new.flash in
      let one = c.in_ok-copy_padded.ensures in
      let first_part : Writes a m area place (data_end unit b) (padded_bytes unit bytes) = subst (λ (offset : ℕ). Writes a m area place offset (padded_bytes unit bytes)) end one.ok in
      let first_spent : Spends a m (padded unit (length bytes) / unit) = subst (λ (n : ℕ). Spends a m (n / unit)) (sym rounded) one.spent.whole in
      let last : Device = g.F.Flash.device c.put_slot.new.flash in
      let written : Writes m last area place (low unit b - slot_size unit) (padded_bytes (unit_of m area) (encoded e)) =
      subst (λ (offset : ℕ). Writes m last area place offset (padded_bytes (unit_of m area) (encoded e))) at (subst (λ (xs : List ℕ). Writes m last area place (c.args.scan.now.low - c.slot_size.result) (padded_bytes (unit_of m area) xs)) c.encode_entry-bytes.ensures c.in_ok-put_slot.ensures.ok) in
      pair_image a area lawful is_area place has_sector m bytes room one.touches.banks first_part last c.args.from.now.entry.id c.args.scan.now.data_end c.args.from.now.entry.len end (sym len) written;
  scan =
      let a : Device = g.F.Flash.device c.args.flash.now in
      let area : Area = c.args.area.now in
      let lawful = g.met.F.Flash.is_lawful c.args.flash.now in
      let is_area = c.requires.scanned.lawful.in_bank in
      let unit : ℕ = unit_of a area in
      let place : ℕ = c.args.scan.now.current in
      let old : List (List ℕ) = sectors_of a area in
      let bytes : List ℕ = placed_bytes old c.args.from.now in
      let b : List ℕ = sector_bytes a area place in
      let count : length old ≡ area.sectors = length-sectors a area in
      let is : open_sector (reading unit) old ≡ place = open_is unit old c.args.scan.now c.requires.scanned.scan in
      let inside : open_sector (reading unit) old < length old = open_within (reading unit) old (omega (arith, c.requires.scanned.lawful.several)) in
      let within : place < length old = omega arith in
      let has_sector : place < area.sectors = omega arith in
      let scanned : c.args.scan.now ≡ scan_at unit old place = scan_there unit old c.args.scan.now c.requires.scanned.scan in
      let lowest : c.args.scan.now.low ≡ low unit b = ap (λ (s : Scan). s.low) scanned in
      let end : c.args.scan.now.data_end ≡ data_end unit b = ap (λ (s : Scan). s.data_end) scanned in
      let is-unit : IsUnit unit = unit_is a area lawful is_area in
      let long : length b ≡ sector_size a area = length-sector a area lawful is_area place has_sector in
      let source_long : length (sector_bytes a area c.args.from.now.sector) ≡ sector_size a area = length-sector a area lawful is_area c.args.from.now.sector c.requires.source.has_source in
      let len : length bytes ≡ c.args.from.now.entry.len = length-source a area (record { sector = c.args.from.now.sector; offset = c.args.from.now.entry.offset; len = c.args.from.now.entry.len }) (subst (λ (n : ℕ). c.args.from.now.entry.offset + c.args.from.now.entry.len ≤ n) (sym source_long) c.requires.source.inside) in
      let rounded : padded unit (length bytes) ≡ padded unit c.args.from.now.entry.len = ap (padded unit) len in
      let room : HasRoom unit b (length bytes) = room-in unit b (length bytes) c.args.from.now.entry.len (sector_size a area) c.args.scan.now.low c.args.scan.now.data_end is-unit long c.requires.scanned.lawful.at_most lowest end len c.requires.free in
      let e : Entry = record { id = c.args.from.now.entry.id; offset = c.args.scan.now.data_end; len = c.args.from.now.entry.len; part = 255 } in
      let follows : IsNext unit b e bytes = record { ordinary = c.requires.source.ordinary; place = end; long = sym len } in
      let width : c.slot_size.result ≡ slot_size unit = c.slot_size.ensures.size ∙ ap (λ (x : Geometry). slot_size x.unit) c.geometry-unit.ensures in
      let at : c.args.scan.now.low - c.slot_size.result ≡ low unit b - slot_size unit = omega arith in
      let m : Device = g.F.Flash.device c.copy_padded.new.flash in
      let one = c.in_ok-copy_padded.ensures in
      let first_part : Writes a m area place (data_end unit b) (padded_bytes unit bytes) = subst (λ (offset : ℕ). Writes a m area place offset (padded_bytes unit bytes)) end one.ok in
      let first_spent : Spends a m (padded unit (length bytes) / unit) = subst (λ (n : ℕ). Spends a m (n / unit)) (sym rounded) one.spent.whole in
      let last : Device = g.F.Flash.device c.put_slot.new.flash in
      let written : Writes m last area place (low unit b - slot_size unit) (padded_bytes (unit_of m area) (encoded e)) =
      subst (λ (offset : ℕ). Writes m last area place offset (padded_bytes (unit_of m area) (encoded e))) at (subst (λ (xs : List ℕ). Writes m last area place (c.args.scan.now.low - c.slot_size.result) (padded_bytes (unit_of m area) xs)) c.encode_entry-bytes.ensures c.in_ok-put_slot.ensures.ok) in
      let put : AddsPairAt unit old (sectors_of last area) place c.args.from.now.entry.id bytes = pair_put a area lawful is_area place has_sector m bytes room one.touches.banks first_part last e follows written in
      let now : List ℕ = sector_at (sectors_of last area) place in
      let full = pair_used unit place b now c.args.from.now.entry.id bytes room put.adds in
      let size : c.padded.result ≡ padded unit (length bytes) = c.padded.ensures.value ∙ ap (λ (x : Geometry). padded x.unit c.args.from.now.entry.len) c.geometry-unit.ensures ∙ sym rounded in
      let banks : last.banks ≡ a.banks = c.in_ok-put_slot.ensures.touches.banks ∙ one.touches.banks in
      let same : unit ≡ unit_of last area = sym (ap (λ (l : List Bank). (bank_at l area.bank).unit) banks) in
      scan_added unit old (sectors_of last area) c.args.from.now.entry.id bytes c.args.scan.now c.slot_size.result c.padded.result within c.requires.scanned.scan put full width size
      ∙ ap (λ (u : ℕ). scan_of u (sectors_of last area)) same;
  spent =
      let a : Device = g.F.Flash.device c.args.flash.now in
      let area : Area = c.args.area.now in
      let lawful = g.met.F.Flash.is_lawful c.args.flash.now in
      let is_area = c.requires.scanned.lawful.in_bank in
      let unit : ℕ = unit_of a area in
      let place : ℕ = c.args.scan.now.current in
      let old : List (List ℕ) = sectors_of a area in
      let bytes : List ℕ = placed_bytes old c.args.from.now in
      let b : List ℕ = sector_bytes a area place in
      let count : length old ≡ area.sectors = length-sectors a area in
      let is : open_sector (reading unit) old ≡ place = open_is unit old c.args.scan.now c.requires.scanned.scan in
      let inside : open_sector (reading unit) old < length old = open_within (reading unit) old (omega (arith, c.requires.scanned.lawful.several)) in
      let within : place < length old = omega arith in
      let has_sector : place < area.sectors = omega arith in
      let scanned : c.args.scan.now ≡ scan_at unit old place = scan_there unit old c.args.scan.now c.requires.scanned.scan in
      let lowest : c.args.scan.now.low ≡ low unit b = ap (λ (s : Scan). s.low) scanned in
      let end : c.args.scan.now.data_end ≡ data_end unit b = ap (λ (s : Scan). s.data_end) scanned in
      let is-unit : IsUnit unit = unit_is a area lawful is_area in
      let long : length b ≡ sector_size a area = length-sector a area lawful is_area place has_sector in
      let source_long : length (sector_bytes a area c.args.from.now.sector) ≡ sector_size a area = length-sector a area lawful is_area c.args.from.now.sector c.requires.source.has_source in
      let len : length bytes ≡ c.args.from.now.entry.len = length-source a area (record { sector = c.args.from.now.sector; offset = c.args.from.now.entry.offset; len = c.args.from.now.entry.len }) (subst (λ (n : ℕ). c.args.from.now.entry.offset + c.args.from.now.entry.len ≤ n) (sym source_long) c.requires.source.inside) in
      let rounded : padded unit (length bytes) ≡ padded unit c.args.from.now.entry.len = ap (padded unit) len in
      let room : HasRoom unit b (length bytes) = room-in unit b (length bytes) c.args.from.now.entry.len (sector_size a area) c.args.scan.now.low c.args.scan.now.data_end is-unit long c.requires.scanned.lawful.at_most lowest end len c.requires.free in
      let e : Entry = record { id = c.args.from.now.entry.id; offset = c.args.scan.now.data_end; len = c.args.from.now.entry.len; part = 255 } in
      let follows : IsNext unit b e bytes = record { ordinary = c.requires.source.ordinary; place = end; long = sym len } in
      let m : Device = g.F.Flash.device c.copy_padded.new.flash in
      let one = c.in_ok-copy_padded.ensures in
      let first_part : Writes a m area place (data_end unit b) (padded_bytes unit bytes) = subst (λ (offset : ℕ). Writes a m area place offset (padded_bytes unit bytes)) end one.ok in
      let first_spent : Spends a m (padded unit (length bytes) / unit) = subst (λ (n : ℕ). Spends a m (n / unit)) (sym rounded) one.spent.whole in
      let last : Device = g.F.Flash.device c.put_slot.new.flash in
      let costs : cost unit (length bytes) / unit ≡ cost unit c.args.from.now.entry.len / unit = ap (λ (n : ℕ). cost unit n / unit) len in
      subst (λ (n : ℕ). Spends a last n) costs
      (pair_spent a area lawful is_area place has_sector m bytes room one.touches.banks first_part last e first_spent
      (subst (λ (xs : List ℕ). Spends m last (padded (unit_of m area) (length xs) / unit_of m area)) c.encode_entry-bytes.ensures c.in_ok-put_slot.ensures.spent));
  lost = tt;
  in_pieces = tt;
  spent_at_most = tt;
}

pub overflow_sub-slot : goal.overflow_sub-slot
overflow_sub-slot g c =
    let unit : ℕ = unit_of (g.F.Flash.device c.args.flash.now) c.args.area.now in
    slot-under (slot_size unit) (padded unit c.args.from.now.entry.len) c.args.scan.now.low c.args.scan.now.data_end c.slot_size.result c.slot_size.ensures.at_least
    (c.slot_size.ensures.size ∙ ap (λ (x : Geometry). slot_size x.unit) c.geometry-unit.ensures) c.requires.free

pub copy_padded-requires-clause-short : goal.copy_padded-requires-clause-short
copy_padded-requires-clause-short g c =
    (short-in c.args.from.now.entry.offset c.args.from.now.entry.len (sector_size (g.F.Flash.device c.args.flash.now) c.args.area.now) c.requires.source.inside c.requires.scanned.lawful.at_most).0

pub returns-in_err-copy_padded-clause-touches : goal.returns-in_err-copy_padded-clause-touches
returns-in_err-copy_padded-clause-touches g c =
    subst (λ (lost : Bool). Touches (c.args.area.now ∷ []) (g.F.Flash.device c.args.flash.now) (g.F.Flash.device c.copy_padded.new.flash) lost) (sym c.from_residual.ensures.0)
    c.in_err-copy_padded.ensures.touches

pub returns-in_err-put_slot-clause-touches : goal.returns-in_err-put_slot-clause-touches
returns-in_err-put_slot-clause-touches g c =
    subst (λ (lost : Bool). Touches (c.args.area.now ∷ []) (g.F.Flash.device c.args.flash.now) (g.F.Flash.device c.put_slot.new.flash) lost) (sym c.from_residual-in_err-put_slot.ensures.0)
    (then c.in_ok-copy_padded.ensures.touches c.in_err-put_slot.ensures.touches)

pub put_slot-requires-clause-lawful : goal.put_slot-requires-clause-lawful
put_slot-requires-clause-lawful g c =
    subst (λ (banks : List Bank). IsLawfulArea banks c.args.area.now) (sym c.in_ok-copy_padded.ensures.touches.banks) c.requires.scanned.lawful.in_bank

pub padded-requires-clause-unit : goal.padded-requires-clause-unit
padded-requires-clause-unit g c =
    subst (λ (x : Geometry). IsUnit x.unit) (sym c.geometry-unit.ensures)
    (unit_is (g.F.Flash.device c.args.flash.now) c.args.area.now (g.met.F.Flash.is_lawful c.args.flash.now) c.requires.scanned.lawful.in_bank)

pub padded-requires-clause-len : goal.padded-requires-clause-len
padded-requires-clause-len g c =
    (short-in c.args.from.now.entry.offset c.args.from.now.entry.len (sector_size (g.F.Flash.device c.args.flash.now) c.args.area.now) c.requires.source.inside c.requires.scanned.lawful.at_most).1

pub overflow_add-scan : goal.overflow_add-scan
overflow_add-scan g c =
    let unit : ℕ = unit_of (g.F.Flash.device c.args.flash.now) c.args.area.now in
    let below : c.args.scan.now.data_end + c.padded.result ≤ c.args.scan.now.low =
    data-under (slot_size unit) (padded unit c.args.from.now.entry.len) c.args.scan.now.low c.args.scan.now.data_end c.slot_size.result c.padded.result c.slot_size.ensures.at_least
    (c.slot_size.ensures.size ∙ ap (λ (x : Geometry). slot_size x.unit) c.geometry-unit.ensures)
    (c.padded.ensures.value ∙ ap (λ (x : Geometry). padded x.unit c.args.from.now.entry.len) c.geometry-unit.ensures) c.requires.free in
    omega arith

pub returns-clause-touches : goal.returns-clause-touches
returns-clause-touches g c = then c.in_ok-copy_padded.ensures.touches c.in_ok-put_slot.ensures.touches

pub returns-in_err-copy_padded-clause-views : goal.returns-in_err-copy_padded-clause-views
returns-in_err-copy_padded-clause-views g c =
    viewed_lost (pieces_of c.args.from.now.entry.len) c.args.steps.now c.copy_padded.new.steps c.from_residual.result c.from_residual.ensures.0 c.in_err-copy_padded.ensures.views.cut

pub returns-in_err-put_slot-clause-views : goal.returns-in_err-put_slot-clause-views
returns-in_err-put_slot-clause-views g c =
    viewed (pieces_of c.args.from.now.entry.len) c.args.steps.now c.copy_padded.new.steps c.from_residual-in_err-put_slot.result c.in_ok-copy_padded.ensures.views.whole

pub returns-clause-views : goal.returns-clause-views
returns-clause-views g c = record { whole = c.in_ok-copy_padded.ensures.views.whole; cut = tt }
