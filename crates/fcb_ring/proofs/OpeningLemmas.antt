-- The call that opens a sector, on a device.
use Rattle.std.proofs.Common.{◌≡◌, ℕ, ◌+◌, ◌-◌, ◌*◌, ◌/◌, ◌%◌, ◌<◌, true, cond, eqb, List, [], length, set, take, replicate, inl, inr, refl, sym, ap, subst, ◌∙◌, arith}
use Rattle.std.specs.Prelude.{slice_range}
use Rattle.std.proofs.lemmas.Bool.{both_ways}
use Rattle.std.proofs.lemmas.List.{take-replicate, drop-replicate, get_or-set_same}
use Rattle.flash_sim.specs.Bank.{IsLawful, bank_at}
use Rattle.flash_sim.specs.Device.{Device, overwritten, Programs, FailsToProgram}
use Rattle.flash_sim.specs.declared.flash.At.{At}
use Rattle.flash_sim.specs.declared.flash.Bank.{Bank}
use Rattle.flash_map.specs.Area.{unit_of, sector_size, sectors_of, sector_at, place_of, CanProgramIn, Writes, WritesPart}
use Rattle.flash_map.specs.Spending.{Spends, SpendsAtMost}
use Rattle.flash_map.specs.Units.{IsUnit, padded}
use Rattle.flash_map.proofs.Rounding.{by_unit}
use Rattle.flash_map.proofs.SpendingLemmas.{spends-programs, most-fails}
use Rattle.fcb_ring.specs.declared.ring.Ring.{Ring}
use Rattle.fcb_ring.specs.declared.ring.Stage.{Stage}
use Rattle.fcb_ring.specs.declared.ring.Stage.TheVariants.{Ready}
use Rattle.fcb_ring.specs.Changing.{next_place, sector_list, FitsOpened, IsHeaderLoss}
use Rattle.fcb_ring.specs.Entries.{states, sector_entries, HasEntries}
use Rattle.fcb_ring.specs.Gains.{sector_records, records_in}
use Rattle.fcb_ring.specs.Rings.{turned, IsRing}
use Rattle.fcb_ring.specs.Standing.{Stands, StandsOn, states_on, entries_on, KeepsEntries}
use Rattle.fcb_ring.specs.Writing.{filled, header_image}
use Rattle.fcb_ring.proofs.RecordLemmas.{header_fits}
use Rattle.fcb_ring.proofs.RingLemmas.{turned-within}
use Rattle.fcb_ring.proofs.AreaLemmas.{HasSize, has_size, count-sectors, area_after}
use Rattle.fcb_ring.proofs.FinishLemmas.{with_unit}
use Rattle.fcb_ring.proofs.HeaderLemmas.{opened, opened-is, opened-entries, opened-all, blank-all, length-header}
use Rattle.fcb_ring.proofs.OpenLemmas.{open-place, next-blank, open-cut, open-cut-form, open-has, open-stands}

-- the header at a smaller unit is the front of that at the greatest
pub header-prefix : (unit id : ℕ) → IsUnit unit → take (padded unit 8) (header_image 16 id) ≡ header_image unit id
unfolding header_image filled padded
header-prefix unit id is_unit = by_unit (λ u. take (padded u 8) (header_image 16 id) ≡ header_image u id) refl refl refl unit is_unit

pub header-16 : (id : ℕ) → length (header_image 16 id) ≡ 16
unfolding header_image filled padded
header-16 id = refl

zero-aligned : (unit : ℕ) → IsUnit unit → 0 % unit ≡ 0
zero-aligned = by_unit (λ u. 0 % u ≡ 0) refl refl refl

module _ (d : Device) (ring : Ring) (lawful : IsLawful d.banks d.bytes) (on : StandsOn d ring) (ready : ring.stage ≡ Ready) (id : ℕ) (id-is : id ≡ cond (eqb ring.used 0) 0 ((ring.id + 1) % 65536))
    (place : ℕ) (place-is : place ≡ turned ring.area.sectors ring.oldest ring.used) (header : List ℕ) (header-is : header ≡ header_image (unit_of d ring.area) id) where
  abbrev unit : ℕ
  unit = unit_of d ring.area

  abbrev size : ℕ
  size = sector_size d ring.area

  abbrev old : List (List ℕ)
  old = sectors_of d ring.area

  has : HasSize (unit_of d ring.area) (sector_size d ring.area) (sectors_of d ring.area)
  has = has_size d ring.area lawful on.area

  place-old : place ≡ turned (length (sectors_of d ring.area)) ring.oldest ring.used
  place-old = place-is ∙ ap (λ (n : ℕ). turned n ring.oldest ring.used) (sym (count-sectors d ring.area))

  within : (ring.oldest < length (sectors_of d ring.area)) × (ring.used < length (sectors_of d ring.area))
  within = open-place unit size old has ring on.sectors ready

  pub place-within : place < ring.area.sectors
  place-within =
      let count = count-sectors d ring.area in
      let inside = turned-within ring.area.sectors ring.oldest ring.used (omega (arith, within.0)) (omega (arith, within.1)) in omega (arith, place-is)

  pub header-long : length header ≡ padded (unit_of d ring.area) 8
  header-long = ap length header-is ∙ length-header unit id has.is_unit

  blank : sector_at (sectors_of d ring.area) place ≡ replicate (sector_size d ring.area) 255
  blank = ap (sector_at old) place-old ∙ next-blank unit size old has ring on.sectors ready

  pub can-header : CanProgramIn d ring.area place 0 header
  can-header =
      let fits = header_fits unit has.is_unit in
      record {
        has_sector = place-within;
        some = omega (arith, header-long);
        at_most = omega (arith, header-long);
        whole_units = ap (λ (n : ℕ). n % unit) header-long ∙ fits.0;
        aligned = zero-aligned unit has.is_unit;
        in_sector = omega (arith, header-long, has.at_least);
        erased = λ kind.
            ap (λ (l : List ℕ). slice_range l 0 (0 + length header)) blank
            ∙ ap (λ (l : List ℕ). take (0 + length header - 0) l) (drop-replicate 0 size 255)
            ∙ take-replicate (0 + length header - 0) (size - 0) 255 (omega (arith, header-long, has.at_least))
            ∙ ap (λ (n : ℕ). replicate n 255) (omega arith);
      }

  module _ (new : Device) (banks : new.banks ≡ d.banks) where
    module _ (next : Stage) (fits : FitsOpened next (ring.used + 1) ring.area.sectors) (writes : Writes d new ring.area place 0 header) where
      after : sectors_of new ring.area ≡ set (sectors_of d ring.area) (turned (length (sectors_of d ring.area)) ring.oldest ring.used) (opened id (sector_size d ring.area))
      after =
          writes
          ∙ ap (λ (l : List ℕ). set old place (overwritten l 0 header)) blank
          ∙ ap (λ (l : List ℕ). set old place (overwritten (replicate size 255) 0 l)) header-is
          ∙ ap (set old place) (opened-is unit id size has.is_unit (omega (arith, has.at_least)))
          ∙ ap (λ (n : ℕ). set old n (opened id size)) place-old

      fits-old : FitsOpened next (ring.used + 1) (length (sectors_of d ring.area))
      fits-old = subst (λ (n : ℕ). FitsOpened next (ring.used + 1) n) (sym (count-sectors d ring.area)) fits

      pub opened-stands : StandsOn new (record ring { used = ring.used + 1; id = id; end = padded (unit_of d ring.area) 8; stage = next })
      opened-stands = record {
        area = area_after d new ring.area banks on.area;
        sectors = with_unit (λ (u : ℕ). Stands u (sectors_of new ring.area) (record ring { used = ring.used + 1; id = id; end = padded (unit_of d ring.area) 8; stage = next })) d new ring.area banks
            (subst (λ (l : List (List ℕ)). Stands (unit_of d ring.area) l (record ring { used = ring.used + 1; id = id; end = padded (unit_of d ring.area) 8; stage = next })) (sym after) (open-stands unit size old has ring on.sectors ready id id-is next fits-old));
      }

      pub opened-list : KeepsEntries d new ring.area
      opened-list = with_unit (λ (u : ℕ). HasEntries u (sectors_of new ring.area) (entries_on d ring.area)) d new ring.area banks
          (subst (λ (l : List (List ℕ)). HasEntries (unit_of d ring.area) l (entries_on d ring.area)) (sym after) (open-has unit size old has ring on.sectors ready id id-is))

      there : sector_at (sectors_of new ring.area) place ≡ opened id (sector_size d ring.area)
      there =
          ap (λ (l : List (List ℕ)). sector_at l place) after ∙ ap (λ (n : ℕ). sector_at (set old n (opened id size)) place) (sym place-old)
          ∙ get_or-set_same old place (opened id size) [] (omega (arith, place-within, count-sectors d ring.area))

      -- neither it nor the blank one has records
      pub opened-empty : records_in new ring.area (next_place ring) ≡ records_in d ring.area (next_place ring)
      opened-empty =
          ap (λ (n : ℕ). records_in new ring.area n) (sym place-is)
          ∙ ap (λ (l : List ℕ). sector_records (unit_of new ring.area) l) there
          ∙ ap (λ (all : List Bank). sector_records (bank_at all ring.area.bank).unit (opened id (sector_size d ring.area))) banks
          ∙ opened-all unit id size has.is_unit has.at_least
          ∙ sym (ap (λ (n : ℕ). records_in d ring.area n) (sym place-is) ∙ ap (sector_records unit) blank ∙ blank-all unit size has.is_unit has.at_least)

      pub opened-fresh : sector_list new ring.area (turned ring.area.sectors ring.oldest (ring.used + 1 - 1)) ≡ []
      opened-fresh =
          let back : turned ring.area.sectors ring.oldest (ring.used + 1 - 1) ≡ place = ap (turned ring.area.sectors ring.oldest) (omega arith) ∙ sym place-is in
          ap (λ (n : ℕ). sector_list new ring.area n) back
          ∙ ap (λ (l : List ℕ). sector_entries (unit_of new ring.area) place l) there
          ∙ ap (λ (all : List Bank). sector_entries (bank_at all ring.area.bank).unit place (opened id (sector_size d ring.area))) banks
          ∙ opened-entries unit id size has.is_unit has.at_least place

    cut-after : (part : WritesPart d new ring.area place 0 header)
        → sectors_of new ring.area ≡ set (sectors_of d ring.area) (turned (length (sectors_of d ring.area)) ring.oldest ring.used) (overwritten (replicate (sector_size d ring.area) 255) 0 (take (part.0 * unit_of d ring.area) (header_image (unit_of d ring.area) id)))
    cut-after part =
        part.2
        ∙ ap (λ (l : List ℕ). set old place (overwritten l 0 (take (part.0 * unit) header))) blank
        ∙ ap (λ (l : List ℕ). set old place (overwritten (replicate size 255) 0 (take (part.0 * unit) l))) header-is
        ∙ ap (λ (n : ℕ). set old n (overwritten (replicate size 255) 0 (take (part.0 * unit) (header_image unit id)))) place-old

    cut-fewer : (part : WritesPart d new ring.area place 0 header) → part.0 < padded (unit_of d ring.area) 8 / unit_of d ring.area
    cut-fewer part = subst (λ (n : ℕ). part.0 < n / unit_of d ring.area) header-long part.1

    pub lost-list : WritesPart d new ring.area place 0 header → KeepsEntries d new ring.area
    lost-list part = with_unit (λ (u : ℕ). HasEntries u (sectors_of new ring.area) (entries_on d ring.area)) d new ring.area banks
        (subst (λ (l : List (List ℕ)). HasEntries (unit_of d ring.area) l (entries_on d ring.area)) (sym (cut-after part)) (open-cut unit size old has ring on.sectors ready id part.0 (cut-fewer part)))

    pub lost-form : WritesPart d new ring.area place 0 header → IsRing (states_on new ring.area) ring.oldest ring.used
    lost-form part = with_unit (λ (u : ℕ). IsRing (states u (sectors_of new ring.area)) ring.oldest ring.used) d new ring.area banks
        (subst (λ (l : List (List ℕ)). IsRing (states (unit_of d ring.area) l) ring.oldest ring.used) (sym (cut-after part)) (open-cut-form unit size old has ring on.sectors ready id part.0 (cut-fewer part)))

    pub header-loss : FailsToProgram d new (place_of d ring.area place 0) header → d.is_on ≡ true → IsHeaderLoss new ring.area (next_place ring)
    header-loss (inl off) is_on = absurd (both_ways d.is_on off.off is_on)
    header-loss (inr cuts) is_on = subst (λ (p : ℕ). IsHeaderLoss new ring.area p) place-is (record {
      loss = record { at = place_of d ring.area place 0; want = record { items = header }; done = cuts.0 };
      has_sector = place-within;
      last = ap (λ (x : Device). x.last_loss) cuts.2.is;
      at = ap (λ (all : List Bank). at_place all) (sym banks);
    })
      where
        at_place : List Bank → At
        at_place all = record { bank = ring.area.bank; offset = (ring.area.first + place) * (bank_at all ring.area.bank).sector + 0 }

    pub header-spends : Programs d new (place_of d ring.area place 0) header → Spends d new (padded (unit_of d ring.area) 8 / unit_of d ring.area)
    header-spends programs = subst (λ (n : ℕ). Spends d new (n / unit_of d ring.area)) header-long (spends-programs d new (place_of d ring.area place 0) header programs)

    pub header-most : FailsToProgram d new (place_of d ring.area place 0) header → SpendsAtMost d new (padded (unit_of d ring.area) 8 / unit_of d ring.area)
    header-most fails = subst (λ (n : ℕ). SpendsAtMost d new (n / unit_of d ring.area)) header-long (most-fails d new (place_of d ring.area place 0) header fails)
