-- A blank area, by the store that is for its role.
use Rattle.std.proofs.Common.{◌≡◌, ◌∙◌, ℕ, zero, suc, ◌+◌, ◌*◌, ◌<◌, ◌≤◌, Bool, true, false, not, ◌&&◌, cond, ltb, List, [], ◌∷◌, length, replicate, None, refl, sym, ap, subst, inl, arith}
use Rattle.std.specs.Prelude.{count_by}
use Rattle.std.specs.List.{list_all}
use Rattle.std.specs.FinMap as maps
use Rattle.std.specs.Ordering.{nat_cmp}
use Rattle.std.specs.Option.{option_map}
use Rattle.std.proofs.lemmas.Bool.{le-ltb}
use Rattle.std.proofs.lemmas.Bool.Decides.{nat_tests}
use Rattle.std.proofs.lemmas.List.{length-replicate, get_or-replicate}
use Rattle.std.proofs.lemmas.List.Elements.{All-nil}
use Rattle.std.proofs.lemmas.List.Folds.{sum_by-replicate}
use Rattle.flash_sim.specs.Device.{Device}
use Rattle.flash_map.specs.Area.{geometry_of, sector_at, sector_size, unit_of, value_limit}
use Rattle.flash_map.specs.Lawful.{IsLawfulFor}
use Rattle.flash_map.specs.Units.{is_erased}
use Rattle.flash_map.specs.declared.area.Area.{Area}
use Rattle.flash_map.specs.declared.area.Role.{Role}
use Rattle.flash_map.specs.declared.area.Role.TheVariants.{Nvs, Zms, Fcb, Sel}
use Rattle.flash_map.proofs.ErasedBytes.{erased_from}
use Rattle.item_laws.specs.Items.{Items}
use Rattle.item_laws.specs.Area.{next, is_closed_at, open_sector}
use Rattle.item_laws.specs.Reading.{Reading}
use Rattle.item_laws.proofs.Stays.{open_within}
use Rattle.nvs_store.specs.Scans as nvs
use Rattle.nvs_store.proofs.Blank.{reads-blank}
use Rattle.flash_sim.specs.declared.flash.Kind.{Kind as BankKind}
use Rattle.zms_format.specs.Area as zms
use Rattle.zms_format.proofs.Erased.{erased-unused}
use Rattle.zms_format.proofs.Sectors.{laws}
use Rattle.fcb_ring.specs.declared.sector.SectorState.{SectorState}
use Rattle.fcb_ring.specs.Entries.{states, entries, bodies, HasEntries}
use Rattle.fcb_ring.specs.Rings.{is_full}
use Rattle.fcb_ring.specs.SectorStates.{state_of}
use Rattle.fcb_ring.specs.Standing.{erases_due}
use Rattle.fcb_ring.proofs.PlaceLemmas.{find_nothing}
use Rattle.fcb_ring.proofs.StandLemmas.{blank-free, blank-untorn}
use Rattle.record_settings.specs.Room.{cap}
use Rattle.record_settings.specs.Settings.{settings_of}
use Rattle.record_settings.proofs.BodyLemmas.{settings-none}
use Rattle.named_items.specs.Numbering.{Numbering}
use Rattle.named_items.specs.Pairs.{HasNoOrphans}
use Rattle.named_items.specs.Blank.{nvs-undamaged, nvs-empty, zms-undamaged, zms-empty}
use Rattle.named_items.specs.NvsStore.{nvs_items}
use Rattle.named_items.specs.ZmsStore.{zms_items}
use Rattle.named_items.proofs.EmptySteps.{no-settings}
use Rattle.backend_nvs.specs.IdLayout.{numbering_of as nvs_numbering_of}
use Rattle.backend_zms.specs.IdLayout.{numbering_of as zms_numbering_of}
use Rattle.backend_fcb.specs.Reading.{puts_cost, first_overfull, damage_of, settings_in}
use Rattle.backend_fcb.proofs.Blank.{blank-has}
use Rattle.backend_fcb.proofs.PutsCosts.{damage-costs, overfull_at, puts-none}
use Rattle.backend_fcb.proofs.WalkLemmas.{Entry}
use Rattle.any_backend.specs.Blank.{blank_sectors, BlankIsUndamaged, BlankIsEmpty, BlankRests}
use Rattle.any_backend.specs.ByRole.{serves_as, damage_as, contents_as, rests_as, any_damage, any_contents, any_rests}

-- ---- a ring of sectors none of which is closed

next-within : (sectors : List (List ℕ)) (place : ℕ) → place < length sectors → next sectors place < length sectors
next-within sectors place within = grind (arith, nat_tests)

-- the sector behind the open one is not closed
next-free : (reading : Reading) (sectors : List (List ℕ)) → 2 ≤ length sectors → ((k : ℕ) → k < length sectors → is_closed_at reading sectors k ≡ false)
    → is_closed_at reading sectors (next sectors (open_sector reading sectors)) ≡ false
next-free reading sectors several free =
    let within : open_sector reading sectors < length sectors = open_within reading sectors (omega arith) in
    free (next sectors (open_sector reading sectors)) (next-within sectors (open_sector reading sectors) within)

-- where there is no item, there is no orphan
no-orphans : (n : Numbering) (items : Items) → items ≡ maps.empty → HasNoOrphans n items
no-orphans n items none id = inl (ap (λ (m : Items). maps.get m id) none ∙ maps.get-empty nat_cmp id)

module _ (n size : ℕ) (several : 2 ≤ n) where
  abbrev blanks : List (List ℕ)
  blanks = replicate n (replicate size 255)

  count : length blanks ≡ n
  count = length-replicate {A = List ℕ} n (replicate {A = ℕ} size 255)

  each : (k : ℕ) → k < length blanks → sector_at blanks k ≡ replicate size 255
  each k lt = let c = count in get_or-replicate {A = List ℕ} n k (replicate {A = ℕ} size 255) [] (omega arith)

  several-too : 2 ≤ length blanks
  several-too = let c = count in omega arith

  -- ---- as NVS

  nvs-free : (unit k : ℕ) → k < length blanks → is_closed_at (nvs.reading unit) blanks k ≡ false
  nvs-free unit k lt = (reads-blank unit).closed (sector_at blanks k) (ap is_erased (each k lt) ∙ erased_from size)

  pub nvs-done : (unit : ℕ) → is_closed_at (nvs.reading unit) (replicate n (replicate size 0xFF)) (next (replicate n (replicate size 0xFF)) (open_sector (nvs.reading unit) (replicate n (replicate size 0xFF)))) ≡ false
  nvs-done unit = next-free (nvs.reading unit) blanks several-too (nvs-free unit)

  -- ---- as ZMS

  zms-free : (kind : BankKind) (k : ℕ) → k < length blanks → is_closed_at (zms.reading kind) blanks k ≡ false
  zms-free kind k lt = (laws kind).closed (sector_at blanks k) (erased-unused kind (sector_at blanks k) (ap is_erased (each k lt) ∙ erased_from size))

  pub zms-done : (kind : BankKind) → is_closed_at (zms.reading kind) (replicate n (replicate size 0xFF)) (next (replicate n (replicate size 0xFF)) (open_sector (zms.reading kind) (replicate n (replicate size 0xFF)))) ≡ false
  zms-done kind = next-free (zms.reading kind) blanks several-too (zms-free kind)

-- ---- as a ring of records

-- all sectors are in the state of a blank one
states-blank : (unit n : ℕ) (sector : List ℕ) → states unit (replicate n sector) ≡ replicate n (state_of unit sector)
states-blank unit zero sector = refl
states-blank unit (suc n) sector = ap (λ (l : List SectorState). state_of unit sector ∷ l) (states-blank unit n sector)

none-torn : (n : ℕ) (state : SectorState) → state.is_torn ≡ false → count_by (λ s. s.is_torn) (replicate n state) ≡ 0
none-torn n state whole =
    sum_by-replicate (λ (s : SectorState). cond s.is_torn 1 0) n state
    ∙ ap (λ (b : Bool). n * cond b 1 0) whole ∙ omega arith

not-full : (n : ℕ) (state : SectorState) → 0 < n → state.is_free ≡ true → is_full (replicate n state) ≡ false
not-full zero state some free = absurd (omega arith)
not-full (suc n) state some free = ap (λ (b : Bool). not b && list_all (λ (s : SectorState). not s.is_free) (replicate n state)) free

-- nothing is to be erased
pub none-due : (unit n size : ℕ) → 0 < n → 0 < size → erases_due (states unit (replicate n (replicate size 0xFF))) ≡ 0
none-due unit n size some long =
    let state : SectorState = state_of unit (replicate size 255) in
    ap erases_due (states-blank unit n (replicate size 255))
    ∙ ap (λ (k : ℕ). k + cond (is_full (replicate n (state_of unit (replicate size 255)))) 1 0) (none-torn n (state_of unit (replicate size 255)) (blank-untorn unit size long))
    ∙ ap (λ (b : Bool). 0 + cond b 1 0) (not-full n (state_of unit (replicate size 255)) some (blank-free unit size))

module _ (limit unit n size : ℕ) (several : 2 ≤ n) (few : n ≤ 64) where
  has : HasEntries unit (replicate n (replicate size 255)) []
  has = blank-has unit n size several few

  none-over : first_overfull limit unit (replicate n (replicate size 255)) ≡ None
  unfolding first_overfull
  none-over =
      find_nothing (λ place. ltb (cap unit (length (sector_at (replicate n (replicate size 255)) place))) (puts_cost limit unit (entries unit (replicate n (replicate size 255))) place)) 0 (length (replicate n (replicate size 255)))
      (λ place from below.
      ap (λ (list : List Entry). ltb (cap unit (length (sector_at (replicate n (replicate size 255)) place))) (puts_cost limit unit list place)) has.are
      ∙ ap (λ (k : ℕ). ltb (cap unit (length (sector_at (replicate n (replicate size 255)) place))) k) (puts-none limit unit [] place (All-nil (λ (entry : Entry). entry.0.sector ≡ place → ⊥)))
      ∙ le-ltb (cap unit (length (sector_at (replicate n (replicate size 255)) place))) 0 (omega arith))

  fcb-undamaged : damage_of limit unit (replicate n (replicate size 0xFF)) ≡ None
  fcb-undamaged = damage-costs limit unit (replicate n (replicate size 255)) has.undamaged ∙ ap (option_map overfull_at) none-over

  fcb-empty : settings_in limit unit (replicate n (replicate size 0xFF)) ≡ maps.empty
  fcb-empty = ap (λ (list : List Entry). settings_of limit (bodies list)) has.are ∙ settings-none limit

-- ---- by the role of the area

module _ (d : Device) (area : Area) (lawful : IsLawfulFor d.banks area) where
  long : 16 ≤ sector_size d area
  long = let least : 512 ≤ sector_size d area = lawful.at_least in omega arith

  some : 0 < area.sectors
  some = let several : 2 ≤ area.sectors = lawful.several in omega arith

  filled : 0 < sector_size d area
  filled = let l = long in omega arith

  -- as a ring, whatever its role
  pub blank_ring : HasEntries (unit_of d area) (blank_sectors (geometry_of d area)) []
  blank_ring = blank-has (unit_of d area) area.sectors (sector_size d area) lawful.several lawful.few

  pub blank_idle : erases_due (states (unit_of d area) (blank_sectors (geometry_of d area))) ≡ 0
  blank_idle = none-due (unit_of d area) area.sectors (sector_size d area) some filled

  undamaged-as : (role : Role) → serves_as role → damage_as role area (geometry_of d area) (blank_sectors (geometry_of d area)) ≡ None
  undamaged-as Nvs serves = nvs-undamaged area.sectors (sector_size d area) lawful.several (unit_of d area)
  undamaged-as Zms serves = zms-undamaged area.sectors (sector_size d area) lawful.several (geometry_of d area).kind
  undamaged-as Fcb serves = fcb-undamaged (value_limit area) (unit_of d area) area.sectors (sector_size d area) lawful.several lawful.few
  undamaged-as Sel serves = absurd serves

  nvs-none : nvs_items area (geometry_of d area) (blank_sectors (geometry_of d area)) ≡ maps.empty
  nvs-none = nvs-empty area.sectors (sector_size d area) lawful.several (unit_of d area)

  zms-none : zms_items area (geometry_of d area) (blank_sectors (geometry_of d area)) ≡ maps.empty
  zms-none = zms-empty area.sectors (sector_size d area) lawful.several (geometry_of d area).kind

  empty-as : (role : Role) → serves_as role → contents_as role area (geometry_of d area) (blank_sectors (geometry_of d area)) ≡ maps.empty
  empty-as Nvs serves = no-settings (nvs_numbering_of area) (nvs_items area (geometry_of d area) (blank_sectors (geometry_of d area))) nvs-none
  empty-as Zms serves = no-settings (zms_numbering_of area) (zms_items area (geometry_of d area) (blank_sectors (geometry_of d area))) zms-none
  empty-as Fcb serves = fcb-empty (value_limit area) (unit_of d area) area.sectors (sector_size d area) lawful.several lawful.few
  empty-as Sel serves = absurd serves

  rests-as : (role : Role) → serves_as role → rests_as role area (geometry_of d area) (blank_sectors (geometry_of d area))
  rests-as Nvs serves = record {
    store = nvs-done area.sectors (sector_size d area) lawful.several (unit_of d area);
    clean = no-orphans (nvs_numbering_of area) (nvs_items area (geometry_of d area) (blank_sectors (geometry_of d area))) nvs-none;
  }
  rests-as Zms serves = record {
    store = zms-done area.sectors (sector_size d area) lawful.several (geometry_of d area).kind;
    clean = no-orphans (zms_numbering_of area) (zms_items area (geometry_of d area) (blank_sectors (geometry_of d area))) zms-none;
  }
  rests-as Fcb serves = blank_idle
  rests-as Sel serves = absurd serves

pub blank_undamaged : BlankIsUndamaged
blank_undamaged d area lawful serves blank = ap (any_damage area (geometry_of d area)) blank ∙ undamaged-as d area lawful area.role serves

pub blank_empty : BlankIsEmpty
blank_empty d area lawful serves blank = ap (any_contents area (geometry_of d area)) blank ∙ empty-as d area lawful area.role serves

pub blank_rests : BlankRests
blank_rests d area lawful serves blank = subst (λ (sectors : List (List ℕ)). any_rests area (geometry_of d area) sectors) (sym blank) (rests-as d area lawful area.role serves)
