use Rattle.std.proofs.Common.{◌≡◌, ℕ, ◌-◌, ◌/◌, ◌<◌, List, length, sym, ap, subst, ◌∙◌, arith}
use Rattle.std.proofs.lemmas.Result.{on_ok_weaker, on_err_weaker}
use Rattle.flash_sim.specs.Device.{Device}
use Rattle.flash_map.specs.declared.area.Area.{Area}
use Rattle.flash_map.specs.declared.area.Geometry.{Geometry}
use Rattle.flash_map.specs.Area.{unit_of, sector_size, sectors_of, sector_bytes, Writes, WritesPart}
use Rattle.flash_map.specs.Pieces.{CanProgramAll}
use Rattle.flash_map.specs.Spending.{Spends, SpendsAtMost}
use Rattle.flash_map.specs.Units.{IsUnit, padded, padded_bytes}
use Rattle.flash_map.proofs.Places.{length-sector}
use Rattle.item_laws.specs.Area.{open_sector}
use Rattle.item_laws.proofs.Stays.{open_within}
use Rattle.nvs_store.specs.declared.entry.Entry.{Entry}
use Rattle.nvs_store.specs.declared.scan.Scan.{Scan}
use Rattle.nvs_store.specs.Geometry.{slot_size}
use Rattle.nvs_store.specs.Entries.{encoded}
use Rattle.nvs_store.specs.Sector.{low, data_end, special_entry}
use Rattle.nvs_store.specs.Scans.{reading, scan_at}
use Rattle.nvs_store.proofs.Appending.{open_is, scan_there}
use Rattle.nvs_store.proofs.EntryBytes.{length-encoded}
use Rattle.nvs_store.proofs.MarkPutting.{can_close, close_image, close_put, close_cut}
use Rattle.item_laws.proofs.AreaReads.{length-sectors}
use Rattle.nvs_store.proofs.Putting.{slot_size-is}
use Rattle.nvs_store.proofs.SlotReads.{slot_widths}
use Rattle.nvs_store.proofs.Views.{unit_is}
use Rattle.nvs_store.proofs.calls.put_close.Goals as goal

pub special-requires : goal.special-requires
special-requires g c =
    let a : Device = g.F.Flash.device c.args.flash.now in
    let area : Area = c.args.area.now in
    let lawful = g.met.F.Flash.is_lawful c.args.flash.now in
    let is_area = c.requires.scanned.lawful.in_bank in
    let unit : ℕ = unit_of a area in
    let place : ℕ = c.args.scan.now.current in
    let old : List (List ℕ) = sectors_of a area in
    let b : List ℕ = sector_bytes a area place in
    let count : length old ≡ area.sectors = length-sectors a area in
    let is : open_sector (reading unit) old ≡ place = open_is unit old c.args.scan.now c.requires.scanned.scan in
    let inside : open_sector (reading unit) old < length old = open_within (reading unit) old (omega (arith, c.requires.scanned.lawful.several)) in
    let within : place < length old = omega arith in
    let has_sector : place < area.sectors = omega arith in
    let scanned : c.args.scan.now ≡ scan_at unit old place = scan_there unit old c.args.scan.now c.requires.scanned.scan in
    let lowest : c.args.scan.now.low ≡ low unit b = ap (λ (s : Scan). s.low) scanned in
    let end : c.args.scan.now.data_end ≡ data_end unit b = ap (λ (s : Scan). s.data_end) scanned in
    let is-unit : IsUnit unit = unit_is a area lawful is_area in
    let widths = slot_widths unit is-unit in
    let long : length b ≡ sector_size a area = length-sector a area lawful is_area place has_sector in
    omega (arith, long, c.requires.scanned.lawful.at_most)

pub put_slot-requires-clause-can : goal.put_slot-requires-clause-can
put_slot-requires-clause-can g c =
    let a : Device = g.F.Flash.device c.args.flash.now in
    let area : Area = c.args.area.now in
    let lawful = g.met.F.Flash.is_lawful c.args.flash.now in
    let is_area = c.requires.scanned.lawful.in_bank in
    let unit : ℕ = unit_of a area in
    let place : ℕ = c.args.scan.now.current in
    let old : List (List ℕ) = sectors_of a area in
    let b : List ℕ = sector_bytes a area place in
    let count : length old ≡ area.sectors = length-sectors a area in
    let is : open_sector (reading unit) old ≡ place = open_is unit old c.args.scan.now c.requires.scanned.scan in
    let inside : open_sector (reading unit) old < length old = open_within (reading unit) old (omega (arith, c.requires.scanned.lawful.several)) in
    let within : place < length old = omega arith in
    let has_sector : place < area.sectors = omega arith in
    let scanned : c.args.scan.now ≡ scan_at unit old place = scan_there unit old c.args.scan.now c.requires.scanned.scan in
    let lowest : c.args.scan.now.low ≡ low unit b = ap (λ (s : Scan). s.low) scanned in
    let end : c.args.scan.now.data_end ≡ data_end unit b = ap (λ (s : Scan). s.data_end) scanned in
    let is-unit : IsUnit unit = unit_is a area lawful is_area in
    let widths = slot_widths unit is-unit in
    let long : length b ≡ sector_size a area = length-sector a area lawful is_area place has_sector in
    let e : Entry = special_entry (low unit b) in
    let encoded_is : c.encode_entry-bytes.result ≡ encoded e = c.encode_entry-bytes.ensures ∙ ap encoded (c.special.ensures ∙ ap special_entry lowest) in
    let width : c.slot_size.result ≡ slot_size unit = c.slot_size.ensures.size ∙ ap (λ (x : Geometry). slot_size x.unit) c.geometry-g.ensures in
    let size : c.geometry-g.result.sector ≡ sector_size a area = ap (λ (x : Geometry). x.sector) c.geometry-g.ensures in
    let at : c.geometry-g.result.sector - c.slot_size.result ≡ length b - slot_size unit = omega arith in
    subst (λ (offset : ℕ). CanProgramAll a area place offset (padded_bytes unit c.encode_entry-bytes.result)) (sym at)
    (subst (λ (xs : List ℕ). CanProgramAll a area place (length b - slot_size unit) (padded_bytes unit xs)) (sym encoded_is) (can_close a area lawful is_area place has_sector a c.requires.not_closed c.requires.scanned.lawful.at_least (omega (arith, c.requires.scanned.lawful.at_most)) e))

pub returns-clause-ok : goal.returns-clause-ok
returns-clause-ok g c =
    let a : Device = g.F.Flash.device c.args.flash.now in
    let area : Area = c.args.area.now in
    let lawful = g.met.F.Flash.is_lawful c.args.flash.now in
    let is_area = c.requires.scanned.lawful.in_bank in
    let unit : ℕ = unit_of a area in
    let place : ℕ = c.args.scan.now.current in
    let old : List (List ℕ) = sectors_of a area in
    let b : List ℕ = sector_bytes a area place in
    let count : length old ≡ area.sectors = length-sectors a area in
    let is : open_sector (reading unit) old ≡ place = open_is unit old c.args.scan.now c.requires.scanned.scan in
    let inside : open_sector (reading unit) old < length old = open_within (reading unit) old (omega (arith, c.requires.scanned.lawful.several)) in
    let within : place < length old = omega arith in
    let has_sector : place < area.sectors = omega arith in
    let scanned : c.args.scan.now ≡ scan_at unit old place = scan_there unit old c.args.scan.now c.requires.scanned.scan in
    let lowest : c.args.scan.now.low ≡ low unit b = ap (λ (s : Scan). s.low) scanned in
    let end : c.args.scan.now.data_end ≡ data_end unit b = ap (λ (s : Scan). s.data_end) scanned in
    let is-unit : IsUnit unit = unit_is a area lawful is_area in
    let widths = slot_widths unit is-unit in
    let long : length b ≡ sector_size a area = length-sector a area lawful is_area place has_sector in
    let e : Entry = special_entry (low unit b) in
    let encoded_is : c.encode_entry-bytes.result ≡ encoded e = c.encode_entry-bytes.ensures ∙ ap encoded (c.special.ensures ∙ ap special_entry lowest) in
    let width : c.slot_size.result ≡ slot_size unit = c.slot_size.ensures.size ∙ ap (λ (x : Geometry). slot_size x.unit) c.geometry-g.ensures in
    let size : c.geometry-g.result.sector ≡ sector_size a area = ap (λ (x : Geometry). x.sector) c.geometry-g.ensures in
    let at : c.geometry-g.result.sector - c.slot_size.result ≡ length b - slot_size unit = omega arith in
    let last : Device = g.F.Flash.device c.put_slot.new.flash in
    on_ok_weaker c.put_slot.result (λ writes. close_put a area lawful is_area place has_sector last c.requires.not_closed c.requires.scanned.lawful.at_least (omega (arith, c.requires.scanned.lawful.at_most)) (subst (λ (offset : ℕ). Writes a last area place offset (padded_bytes unit (encoded e))) at (subst (λ (xs : List ℕ). Writes a last area place (c.geometry-g.result.sector - c.slot_size.result) (padded_bytes unit xs)) encoded_is writes))) c.put_slot.ensures.ok

pub returns-clause-lost : goal.returns-clause-lost
returns-clause-lost g c =
    let a : Device = g.F.Flash.device c.args.flash.now in
    let area : Area = c.args.area.now in
    let lawful = g.met.F.Flash.is_lawful c.args.flash.now in
    let is_area = c.requires.scanned.lawful.in_bank in
    let unit : ℕ = unit_of a area in
    let place : ℕ = c.args.scan.now.current in
    let old : List (List ℕ) = sectors_of a area in
    let b : List ℕ = sector_bytes a area place in
    let count : length old ≡ area.sectors = length-sectors a area in
    let is : open_sector (reading unit) old ≡ place = open_is unit old c.args.scan.now c.requires.scanned.scan in
    let inside : open_sector (reading unit) old < length old = open_within (reading unit) old (omega (arith, c.requires.scanned.lawful.several)) in
    let within : place < length old = omega arith in
    let has_sector : place < area.sectors = omega arith in
    let scanned : c.args.scan.now ≡ scan_at unit old place = scan_there unit old c.args.scan.now c.requires.scanned.scan in
    let lowest : c.args.scan.now.low ≡ low unit b = ap (λ (s : Scan). s.low) scanned in
    let end : c.args.scan.now.data_end ≡ data_end unit b = ap (λ (s : Scan). s.data_end) scanned in
    let is-unit : IsUnit unit = unit_is a area lawful is_area in
    let widths = slot_widths unit is-unit in
    let long : length b ≡ sector_size a area = length-sector a area lawful is_area place has_sector in
    let e : Entry = special_entry (low unit b) in
    let encoded_is : c.encode_entry-bytes.result ≡ encoded e = c.encode_entry-bytes.ensures ∙ ap encoded (c.special.ensures ∙ ap special_entry lowest) in
    let width : c.slot_size.result ≡ slot_size unit = c.slot_size.ensures.size ∙ ap (λ (x : Geometry). slot_size x.unit) c.geometry-g.ensures in
    let size : c.geometry-g.result.sector ≡ sector_size a area = ap (λ (x : Geometry). x.sector) c.geometry-g.ensures in
    let at : c.geometry-g.result.sector - c.slot_size.result ≡ length b - slot_size unit = omega arith in
    let last : Device = g.F.Flash.device c.put_slot.new.flash in
    on_err_weaker c.put_slot.result (λ part. close_cut a area lawful is_area place has_sector last c.requires.not_closed c.requires.scanned.lawful.at_least (omega (arith, c.requires.scanned.lawful.at_most)) (subst (λ (offset : ℕ). WritesPart a last area place offset (padded_bytes unit (encoded e))) at (subst (λ (xs : List ℕ). WritesPart a last area place (c.geometry-g.result.sector - c.slot_size.result) (padded_bytes unit xs)) encoded_is part))) c.put_slot.ensures.lost

pub returns-clause-spent : goal.returns-clause-spent
returns-clause-spent g c =
    let a : Device = g.F.Flash.device c.args.flash.now in
    let area : Area = c.args.area.now in
    let lawful = g.met.F.Flash.is_lawful c.args.flash.now in
    let is_area = c.requires.scanned.lawful.in_bank in
    let unit : ℕ = unit_of a area in
    let place : ℕ = c.args.scan.now.current in
    let old : List (List ℕ) = sectors_of a area in
    let b : List ℕ = sector_bytes a area place in
    let count : length old ≡ area.sectors = length-sectors a area in
    let is : open_sector (reading unit) old ≡ place = open_is unit old c.args.scan.now c.requires.scanned.scan in
    let inside : open_sector (reading unit) old < length old = open_within (reading unit) old (omega (arith, c.requires.scanned.lawful.several)) in
    let within : place < length old = omega arith in
    let has_sector : place < area.sectors = omega arith in
    let scanned : c.args.scan.now ≡ scan_at unit old place = scan_there unit old c.args.scan.now c.requires.scanned.scan in
    let lowest : c.args.scan.now.low ≡ low unit b = ap (λ (s : Scan). s.low) scanned in
    let end : c.args.scan.now.data_end ≡ data_end unit b = ap (λ (s : Scan). s.data_end) scanned in
    let is-unit : IsUnit unit = unit_is a area lawful is_area in
    let widths = slot_widths unit is-unit in
    let long : length b ≡ sector_size a area = length-sector a area lawful is_area place has_sector in
    let e : Entry = special_entry (low unit b) in
    let encoded_is : c.encode_entry-bytes.result ≡ encoded e = c.encode_entry-bytes.ensures ∙ ap encoded (c.special.ensures ∙ ap special_entry lowest) in
    let last : Device = g.F.Flash.device c.put_slot.new.flash in
    let units : padded unit (length c.encode_entry-bytes.result) / unit ≡ slot_size unit / unit = ap (λ (n : ℕ). padded unit n / unit) (ap length encoded_is ∙ length-encoded e) ∙ ap (λ (n : ℕ). n / unit) (sym (slot_size-is unit)) in
    on_ok_weaker c.put_slot.result (λ spent. subst (λ (n : ℕ). Spends a last n) units spent) c.put_slot.ensures.spent

pub returns-clause-spent_at_most : goal.returns-clause-spent_at_most
returns-clause-spent_at_most g c =
    let a : Device = g.F.Flash.device c.args.flash.now in
    let area : Area = c.args.area.now in
    let lawful = g.met.F.Flash.is_lawful c.args.flash.now in
    let is_area = c.requires.scanned.lawful.in_bank in
    let unit : ℕ = unit_of a area in
    let place : ℕ = c.args.scan.now.current in
    let old : List (List ℕ) = sectors_of a area in
    let b : List ℕ = sector_bytes a area place in
    let count : length old ≡ area.sectors = length-sectors a area in
    let is : open_sector (reading unit) old ≡ place = open_is unit old c.args.scan.now c.requires.scanned.scan in
    let inside : open_sector (reading unit) old < length old = open_within (reading unit) old (omega (arith, c.requires.scanned.lawful.several)) in
    let within : place < length old = omega arith in
    let has_sector : place < area.sectors = omega arith in
    let scanned : c.args.scan.now ≡ scan_at unit old place = scan_there unit old c.args.scan.now c.requires.scanned.scan in
    let lowest : c.args.scan.now.low ≡ low unit b = ap (λ (s : Scan). s.low) scanned in
    let end : c.args.scan.now.data_end ≡ data_end unit b = ap (λ (s : Scan). s.data_end) scanned in
    let is-unit : IsUnit unit = unit_is a area lawful is_area in
    let widths = slot_widths unit is-unit in
    let long : length b ≡ sector_size a area = length-sector a area lawful is_area place has_sector in
    let e : Entry = special_entry (low unit b) in
    let encoded_is : c.encode_entry-bytes.result ≡ encoded e = c.encode_entry-bytes.ensures ∙ ap encoded (c.special.ensures ∙ ap special_entry lowest) in
    let last : Device = g.F.Flash.device c.put_slot.new.flash in
    let units : padded unit (length c.encode_entry-bytes.result) / unit ≡ slot_size unit / unit = ap (λ (n : ℕ). padded unit n / unit) (ap length encoded_is ∙ length-encoded e) ∙ ap (λ (n : ℕ). n / unit) (sym (slot_size-is unit)) in
    on_err_weaker c.put_slot.result (λ spent. subst (λ (n : ℕ). SpendsAtMost a last n) units spent) c.put_slot.ensures.spent_at_most

pub returns-clause-image : goal.returns-clause-image
returns-clause-image g c =
    let a : Device = g.F.Flash.device c.args.flash.now in
    let area : Area = c.args.area.now in
    let lawful = g.met.F.Flash.is_lawful c.args.flash.now in
    let is_area = c.requires.scanned.lawful.in_bank in
    let unit : ℕ = unit_of a area in
    let place : ℕ = c.args.scan.now.current in
    let old : List (List ℕ) = sectors_of a area in
    let b : List ℕ = sector_bytes a area place in
    let count : length old ≡ area.sectors = length-sectors a area in
    let is : open_sector (reading unit) old ≡ place = open_is unit old c.args.scan.now c.requires.scanned.scan in
    let inside : open_sector (reading unit) old < length old = open_within (reading unit) old (omega (arith, c.requires.scanned.lawful.several)) in
    let within : place < length old = omega arith in
    let has_sector : place < area.sectors = omega arith in
    let scanned : c.args.scan.now ≡ scan_at unit old place = scan_there unit old c.args.scan.now c.requires.scanned.scan in
    let lowest : c.args.scan.now.low ≡ low unit b = ap (λ (s : Scan). s.low) scanned in
    let end : c.args.scan.now.data_end ≡ data_end unit b = ap (λ (s : Scan). s.data_end) scanned in
    let is-unit : IsUnit unit = unit_is a area lawful is_area in
    let widths = slot_widths unit is-unit in
    let long : length b ≡ sector_size a area = length-sector a area lawful is_area place has_sector in
    let e : Entry = special_entry (low unit b) in
    let encoded_is : c.encode_entry-bytes.result ≡ encoded e = c.encode_entry-bytes.ensures ∙ ap encoded (c.special.ensures ∙ ap special_entry lowest) in
    let width : c.slot_size.result ≡ slot_size unit = c.slot_size.ensures.size ∙ ap (λ (x : Geometry). slot_size x.unit) c.geometry-g.ensures in
    let size : c.geometry-g.result.sector ≡ sector_size a area = ap (λ (x : Geometry). x.sector) c.geometry-g.ensures in
    let at : c.geometry-g.result.sector - c.slot_size.result ≡ length b - slot_size unit = omega arith in
    let last : Device = g.F.Flash.device c.put_slot.new.flash in
    on_ok_weaker c.put_slot.result (λ writes. close_image a area lawful is_area place has_sector last c.requires.not_closed c.requires.scanned.lawful.at_least (omega (arith, c.requires.scanned.lawful.at_most)) (subst (λ (offset : ℕ). Writes a last area place offset (padded_bytes unit (encoded e))) at (subst (λ (xs : List ℕ). Writes a last area place (c.geometry-g.result.sector - c.slot_size.result) (padded_bytes unit xs)) encoded_is writes))) c.put_slot.ensures.ok
