-- What `append` knows of the open sector, which has room for the data and its entry, and what its two programs leave of
-- the area: the pair, or a part of it.
use Rattle.std.proofs.Common.{◌≡◌, ◌⊎◌, ℕ, ◌+◌, ◌-◌, ◌/◌, ◌^◌, ◌<◌, ◌≤◌, true, false, List, [], ◌∷◌, ◌++◌, length, None, refl, sym, ap, subst, ◌∙◌, arith}
use Rattle.flash_sim.specs.Bank.{IsLawful, bank_at}
use Rattle.flash_sim.specs.Device.{Device}
use Rattle.flash_sim.specs.declared.flash.Bank.{Bank}
use Rattle.flash_map.specs.declared.area.Area.{Area}
use Rattle.flash_map.specs.Area.{IsLawfulArea, unit_of, sector_size, sectors_of, sector_bytes, Writes, WritesPart}
use Rattle.flash_map.specs.Lawful.{IsLawfulFor}
use Rattle.flash_map.specs.Pieces.{CanProgramAll}
use Rattle.flash_map.specs.Spending.{Spends, SpendsAtMost}
use Rattle.flash_map.specs.Units.{padded, padded_bytes, is_erased}
use Rattle.flash_map.proofs.Places.{length-sector}
use Rattle.flash_map.proofs.Rounding.{padding}
use Rattle.item_laws.specs.Area.{next, is_closed_at, open_sector}
use Rattle.item_laws.proofs.AreaReads.{length-sectors}
use Rattle.item_laws.proofs.Stays.{open_within}
use Rattle.nvs_store.specs.declared.entry.Entry.{Entry}
use Rattle.nvs_store.specs.declared.scan.Redo.TheVariants.{Nothing}
use Rattle.nvs_store.specs.declared.scan.Scan.{Scan}
use Rattle.nvs_store.specs.Geometry.{slot_size, cost}
use Rattle.nvs_store.specs.Entries.{encoded}
use Rattle.nvs_store.specs.Images.{after_append}
use Rattle.nvs_store.specs.Sector.{low, data_end, is_sound}
use Rattle.nvs_store.specs.Scans.{reading, sector_scan, scan_at, scan_of, fits, damage_of, list_of, AddsPairAt, StopsAddingAt}
use Rattle.nvs_store.proofs.Appending.{open_is, scan_there, fits_there, next_open, list_after, lost_list, undamaged_after, pair_used, stops_used, stops_closed, adds_sound, stops_sound, scan_added}
use Rattle.nvs_store.proofs.Cuts.{HasRoom-from_fits}
use Rattle.nvs_store.proofs.Putting.{can_data, data_cut, data_most, can_entry_after, pair_image, pair_put, entry_cut, pair_spent, pair_most}
use Rattle.nvs_store.proofs.Room.{HasRoom, IsNext}
use Rattle.nvs_store.proofs.Views.{unit_is}

-- what it knows at its start: the scan is that of the open sector, where data of this length fits
pub record IsReady (a : Device) (area : Area) (scan : Scan) (len : ℕ) : Type 0 where
  pub lawful : IsLawful a.banks a.bytes
  pub is_area : IsLawfulArea a.banks area
  pub several : 2 ≤ length (sectors_of a area)
  pub scanned : scan ≡ scan_of (unit_of a area) (sectors_of a area)
  pub is_open : open_sector (reading (unit_of a area)) (sectors_of a area) ≡ scan.current
  pub within : scan.current < length (sectors_of a area)
  pub has_sector : scan.current < area.sectors
  pub lowest : scan.low ≡ low (unit_of a area) (sector_bytes a area scan.current)
  pub end : scan.data_end ≡ data_end (unit_of a area) (sector_bytes a area scan.current)
  pub fitting : fits (unit_of a area) (sector_scan (unit_of a area) scan.current (sector_bytes a area scan.current)) len ≡ true
  pub room : HasRoom (unit_of a area) (sector_bytes a area scan.current) len

pub ready : (a : Device) (area : Area) (scan : Scan) (len : ℕ) → IsLawful a.banks a.bytes → IsLawfulFor a.banks area → scan ≡ scan_of (unit_of a area) (sectors_of a area) → fits (unit_of a area) scan len ≡ true → IsReady a area scan len
ready a area scan len lawful is scanned fitting =
    let unit : ℕ = unit_of a area in
    let old : List (List ℕ) = sectors_of a area in
    let b : List ℕ = sector_bytes a area scan.current in
    let count : length old ≡ area.sectors = length-sectors a area in
    let several : 2 ≤ length old = omega (arith, is.several) in
    let is_open : open_sector (reading unit) old ≡ scan.current = open_is unit old scan scanned in
    let inside : open_sector (reading unit) old < length old = open_within (reading unit) old (omega arith) in
    let within : scan.current < length old = omega arith in
    let has_sector : scan.current < area.sectors = omega arith in
    let there : scan ≡ scan_at unit old scan.current = scan_there unit old scan scanned in
    let long : length b ≡ sector_size a area = length-sector a area lawful is.in_bank scan.current has_sector in
    let here = fits_there unit len old scan scanned fitting in
    record {
      lawful = lawful;
      is_area = is.in_bank;
      several = several;
      scanned = scanned;
      is_open = is_open;
      within = within;
      has_sector = has_sector;
      lowest = ap (λ (s : Scan). s.low) there;
      end = ap (λ (s : Scan). s.data_end) there;
      fitting = here;
      room = HasRoom-from_fits unit scan.current b len (unit_is a area lawful is.in_bank) (omega (arith, long, is.at_most)) here;
    }

-- the data ends in the sector
pub short : (a : Device) (area : Area) (scan : Scan) (len : ℕ) → IsReady a area scan len → scan.data_end + len ≤ 2 ^ 15
short a area scan len is =
    let few = is.room.short in
    let space = is.room.room in
    let rounded = (padding (unit_of a area) is.room.is_unit).no_less len in
    let end = is.end in
    omega arith

module _ (a : Device) (area : Area) (scan : Scan) (bytes : List ℕ) (is : IsReady a area scan (length bytes)) where
  abbrev unit : ℕ
  unit = unit_of a area

  abbrev old : List (List ℕ)
  old = sectors_of a area

  abbrev b : List ℕ
  b = sector_bytes a area scan.current

  free : scan.redo ≡ Nothing → is_closed_at (reading unit) old (next old scan.current) ≡ false
  free nothing = next_open unit old scan is.scanned nothing

  -- ---- the data

  pub can_first : CanProgramAll a area scan.current scan.data_end (padded_bytes unit bytes)
  can_first = subst (λ (offset : ℕ). CanProgramAll a area scan.current offset (padded_bytes unit bytes)) (sym is.end) (can_data a area is.lawful is.is_area scan.current is.has_sector bytes is.room)

  pub data_lost : (m : Device) (id : ℕ) → WritesPart a m area scan.current scan.data_end (padded_bytes unit bytes) → StopsAddingAt unit old (sectors_of m area) scan.current id bytes
  data_lost m id part =
      data_cut a area is.lawful is.is_area scan.current is.has_sector m id bytes is.room
      (subst (λ (offset : ℕ). WritesPart a m area scan.current offset (padded_bytes unit bytes)) is.end part)

  pub data_spent : (m : Device) → SpendsAtMost a m (padded unit (length bytes) / unit) → SpendsAtMost a m (cost unit (length bytes) / unit)
  data_spent m spent = data_most a area is.lawful is.is_area scan.current is.has_sector m bytes spent

  -- ---- the entry, in the slot under the lowest one

  abbrev own_entry : ℕ → Entry
  own_entry id = record { id = id; offset = scan.data_end; len = length bytes; part = 0xFF }

  module _ (m : Device) (id size : ℕ) (image : List ℕ) (ordinary : id < 0xFFFF) (width : size ≡ slot_size unit) (banks : m.banks ≡ a.banks) (data_put : Writes a m area scan.current scan.data_end (padded_bytes unit bytes)) (is_image : image ≡ encoded (own_entry id)) where
    follows : IsNext unit b (own_entry id) bytes
    follows = record { ordinary = ordinary; place = is.end; long = refl }

    at : scan.low - size ≡ low unit b - slot_size unit
    at = ap (λ (n : ℕ). n - size) is.lowest ∙ ap (λ (n : ℕ). low unit b - n) width

    first : Writes a m area scan.current (data_end unit b) (padded_bytes unit bytes)
    first = subst (λ (offset : ℕ). Writes a m area scan.current offset (padded_bytes unit bytes)) is.end data_put

    pub can_second : CanProgramAll m area scan.current (scan.low - size) (padded_bytes (unit_of m area) image)
    can_second =
        subst (λ (offset : ℕ). CanProgramAll m area scan.current offset (padded_bytes (unit_of m area) image)) (sym at)
        (subst (λ (xs : List ℕ). CanProgramAll m area scan.current (low unit b - slot_size unit) (padded_bytes (unit_of m area) xs)) (sym is_image)
        (can_entry_after a area is.lawful is.is_area scan.current is.has_sector m bytes is.room banks first (own_entry id)))

    pub entry_lost : (last : Device) → WritesPart m last area scan.current (scan.low - size) (padded_bytes (unit_of m area) image) → StopsAddingAt unit old (sectors_of last area) scan.current id bytes
    entry_lost last part =
        entry_cut a area is.lawful is.is_area scan.current is.has_sector m bytes is.room banks first last (own_entry id) follows
        (subst (λ (offset : ℕ). WritesPart m last area scan.current offset (padded_bytes (unit_of m area) (encoded (own_entry id)))) at
        (subst (λ (xs : List ℕ). WritesPart m last area scan.current (scan.low - size) (padded_bytes (unit_of m area) xs)) is_image part))

    written : (last : Device) → Writes m last area scan.current (scan.low - size) (padded_bytes (unit_of m area) image) → Writes m last area scan.current (low unit b - slot_size unit) (padded_bytes (unit_of m area) (encoded (own_entry id)))
    written last whole =
        subst (λ (offset : ℕ). Writes m last area scan.current offset (padded_bytes (unit_of m area) (encoded (own_entry id)))) at
        (subst (λ (xs : List ℕ). Writes m last area scan.current (scan.low - size) (padded_bytes (unit_of m area) xs)) is_image whole)

    pub entry_put : (last : Device) → Writes m last area scan.current (scan.low - size) (padded_bytes (unit_of m area) image) → AddsPairAt unit old (sectors_of last area) scan.current id bytes
    entry_put last whole = pair_put a area is.lawful is.is_area scan.current is.has_sector m bytes is.room banks first last (own_entry id) follows (written last whole)

    pub entry_bytes : (last : Device) → Writes m last area scan.current (scan.low - size) (padded_bytes (unit_of m area) image) → sector_bytes last area scan.current ≡ after_append unit b id bytes
    entry_bytes last whole =
        pair_image a area is.lawful is.is_area scan.current is.has_sector m bytes is.room banks first last id scan.data_end (length bytes) is.end refl (written last whole)

    pub entry_spent : (last : Device) → Spends a m (padded unit (length bytes) / unit) → Spends m last (padded (unit_of m area) (length image) / unit_of m area) → Spends a last (cost unit (length bytes) / unit)
    entry_spent last one two =
        pair_spent a area is.lawful is.is_area scan.current is.has_sector m bytes is.room banks first last (own_entry id) one
        (subst (λ (xs : List ℕ). Spends m last (padded (unit_of m area) (length xs) / unit_of m area)) is_image two)

    pub entry_most : (last : Device) → Spends a m (padded unit (length bytes) / unit) → SpendsAtMost m last (padded (unit_of m area) (length image) / unit_of m area) → SpendsAtMost a last (cost unit (length bytes) / unit)
    entry_most last one two =
        pair_most a area is.lawful is.is_area scan.current is.has_sector m bytes is.room banks first last (own_entry id) one
        (subst (λ (xs : List ℕ). SpendsAtMost m last (padded (unit_of m area) (length xs) / unit_of m area)) is_image two)

  -- ---- what stays where one of the two was cut

  module _ (last : Device) (id : ℕ) (stops : StopsAddingAt unit old (sectors_of last area) scan.current id bytes) where
    pub stops_list : scan.redo ≡ Nothing → (list_of unit (sectors_of last area) ≡ list_of unit old) ⊎ (list_of unit (sectors_of last area) ≡ list_of unit old ++ (id, bytes) ∷ [])
    stops_list nothing = lost_list unit old (sectors_of last area) scan.current id bytes is.within is.is_open is.room stops (free nothing)

    pub stops_stay : is_sound unit b ≡ true → is_sound unit (sector_bytes last area scan.current) ≡ true
    stops_stay = stops_sound unit scan.current b (sector_bytes last area scan.current) id bytes is.room is.fitting stops.stops

    pub stops_undamaged : scan.redo ≡ Nothing → damage_of unit old ≡ None → damage_of unit (sectors_of last area) ≡ None
    stops_undamaged nothing =
        undamaged_after unit old (sectors_of last area) scan.current is.within is.is_open stops.only (stops_closed unit scan.current b (sector_bytes last area scan.current) id bytes is.room stops.stops)
        (stops_used unit scan.current b (sector_bytes last area scan.current) id bytes is.room stops.stops) is.several (free nothing) stops_stay

  -- ---- what there is where both are whole

  module _ (last : Device) (id : ℕ) (put : AddsPairAt unit old (sectors_of last area) scan.current id bytes) where
    full : is_erased (sector_bytes last area scan.current) ≡ false
    full = pair_used unit scan.current b (sector_bytes last area scan.current) id bytes is.room put.adds

    pub put_list : scan.redo ≡ Nothing → list_of unit (sectors_of last area) ≡ list_of unit old ++ (id, bytes) ∷ []
    put_list nothing = list_after unit old (sectors_of last area) scan.current is.within is.is_open put.only put.adds.closed (λ _. full) ((id, bytes) ∷ []) (free nothing) put.adds.list

    pub put_stays : is_sound unit b ≡ true → is_sound unit (sector_bytes last area scan.current) ≡ true
    put_stays = adds_sound unit scan.current b (sector_bytes last area scan.current) id bytes is.room is.fitting put.adds

    pub put_undamaged : scan.redo ≡ Nothing → damage_of unit old ≡ None → damage_of unit (sectors_of last area) ≡ None
    put_undamaged nothing = undamaged_after unit old (sectors_of last area) scan.current is.within is.is_open put.only put.adds.closed (λ _. full) is.several (free nothing) put_stays

    pub put_scan : (size len : ℕ) → size ≡ slot_size unit → len ≡ padded unit (length bytes) → last.banks ≡ a.banks → record scan { low = scan.low - size; data_end = scan.data_end + len } ≡ scan_of (unit_of last area) (sectors_of last area)
    put_scan size len width rounded banks =
        let same : unit ≡ unit_of last area = sym (ap (λ (l : List Bank). (bank_at l area.bank).unit) banks) in
        scan_added unit old (sectors_of last area) id bytes scan size len is.within is.scanned put full width rounded
        ∙ ap (λ (u : ℕ). scan_of u (sectors_of last area)) same
