-- A blank area is fresh.
use Rattle.std.proofs.Common.{◌≡◌, ℕ, ◌+◌, ◌*◌, ◌<◌, ◌≤◌, Bool, true, not, ◌&&◌, ◌||◌, List, [], length, Option, None, refl, ap, ◌∙◌, arith}
use Rattle.std.specs.Prelude.{is_some}
use Rattle.std.proofs.lemmas.List.Elements.{All-get_or}
use Rattle.flash_sim.specs.Bank.{IsLawful}
use Rattle.flash_sim.specs.Device.{Device}
use Rattle.flash_map.specs.declared.area.Area.{Area}
use Rattle.flash_map.specs.declared.area.Geometry.{Geometry}
use Rattle.flash_map.specs.declared.area.Role.{Role}
use Rattle.flash_map.specs.declared.area.Role.TheVariants.{Nvs, Zms}
use Rattle.flash_map.specs.Area.{geometry_of, sector_at, sector_size, sectors_of, unit_of}
use Rattle.flash_map.specs.Units.{is_erased}
use Rattle.item_laws.specs.Area.{is_blank_at, open_sector}
use Rattle.item_laws.proofs.AreaReads.{length-sectors}
use Rattle.nvs_format.specs.Formats as nvs
use Rattle.nvs_format.proofs.FormatLemmas.{nvs_is_format}
use Rattle.item_store.specs.SectorFormat.{IsSectorFormat, SectorFormat, is_clean_at}
use Rattle.item_store.specs.Listed.{format_on}
use Rattle.item_store.specs.Standing.{IsStoreArea}
use Rattle.item_store.specs.Writing.{open_at}
use Rattle.item_store.proofs.Areas.{large_there, open_inside, size_there, unit_is}
use Rattle.item_store.proofs.BlankAreas.{blank-empty, blank-rests}
use Rattle.zms_format.specs.Formats as zms
use Rattle.zms_format.proofs.Erased.{cycle_none, erased-unused}
use Rattle.zms_format.specs.Area.{is_clean}
use Rattle.zms_cycle.specs.Sector.{cycle_of, is_fresh}
use Rattle.flash_map.proofs.ErasedBytes.{erased_is}
use Rattle.flash_sim.specs.declared.flash.Kind.{Kind as BankKind}
use Rattle.flash_sim.specs.declared.flash.Kind.TheVariants.{Erasing, Rewritable}
use Rattle.zms_format.proofs.FormatLemmas.{zms_is_format}
use Rattle.item_session.specs.Laws.{NvsBlankIsFresh, ZmsBlankIsFresh}
use Rattle.item_session.specs.Whole.{IsBlankOn, IsFresh, cap_on, free_on, spare_on}

-- a sector of FF alone is a clean one of ZMS
erased-clean : (kind : BankKind) (b : List ℕ) → is_erased b ≡ true → is_clean kind b ≡ true
unfolding is_clean
erased-clean Rewritable b erased = erased-unused Rewritable b erased
erased-clean Erasing b erased =
    let none : cycle_of b ≡ None = ap cycle_of (erased_is b erased) ∙ cycle_none (length b) in
    ap (λ (t : Bool). t && (not (is_some (cycle_of b)) || is_fresh b)) (erased-unused Erasing b erased)
    ∙ ap (λ (o : Option ℕ). not (is_some o) || is_fresh b) none

-- a format that takes a sector of FF alone as a clean one
module _ (role : Role) (format_of : Geometry → SectorFormat) (d : Device) (area : Area) (law : IsSectorFormat (format_on format_of d area)) (clean : (b : List ℕ) → is_erased b ≡ true → (format_on format_of d area).is_clean b ≡ true)
    (lawful : IsLawful d.banks d.bytes) (is : IsStoreArea role d.banks area) (blank : IsBlankOn d area) where
  abbrev k : SectorFormat
  k = format_on format_of d area

  abbrev opened : ℕ
  opened = open_sector k.reading (sectors_of d area)

  several : 2 ≤ length (sectors_of d area)
  several = let count = length-sectors d area in let two = is.lawful.several in omega (arith, count, two)

  each_clean : (place : ℕ) → place < length (sectors_of d area) → is_clean_at k (sectors_of d area) place ≡ true
  each_clean place within = clean (sector_at (sectors_of d area) place) (All-get_or (λ (sector : List ℕ). is_erased sector ≡ true) (sectors_of d area) place [] within blank)

  each_blank : (place : ℕ) → place < length (sectors_of d area) → is_blank_at k.reading (sectors_of d area) place ≡ true
  each_blank place within = law.clean (sector_at (sectors_of d area) place) (each_clean place within)

  inside : opened < area.sectors
  inside = open_inside k d area opened is.lawful refl

  open_clean : k.is_clean (open_at k d area) ≡ true
  open_clean = let count = length-sectors d area in let within = inside in each_clean opened (omega (arith, count, within))

  all_free : cap_on format_of d area + spare_on format_of d area ≤ free_on format_of d area
  all_free =
      let full : k.free (open_at k d area) ≡ k.cap (length (open_at k d area)) + 3 * k.slot = law.room (open_at k d area) (large_there role d area lawful is opened inside) open_clean in
      let size : k.cap (length (open_at k d area)) ≡ k.cap (sector_size d area) = ap k.cap (size_there role d area lawful is opened inside) in
      omega (arith, full, size)

  fresh : IsFresh format_of d area
  fresh = record { list = blank-empty k.reading law.reads (sectors_of d area) several each_blank; rests = blank-rests k.reading law.reads (sectors_of d area) several each_blank; room = all_free }

pub nvs_blank_is_fresh : NvsBlankIsFresh
nvs_blank_is_fresh d area lawful is blank = fresh Nvs nvs.format_of d area (nvs_is_format (unit_of d area) (unit_is d area lawful is.lawful)) (λ b erased. erased) lawful is blank

pub zms_blank_is_fresh : ZmsBlankIsFresh
zms_blank_is_fresh d area lawful is blank = fresh Zms zms.format_of d area (zms_is_format (geometry_of d area)) (erased-clean (geometry_of d area).kind) lawful is blank
