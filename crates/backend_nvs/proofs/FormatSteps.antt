-- An area all of whose bytes are FF reads as no settings.
use Rattle.std.proofs.Common.{◌≡◌, ℕ, List, None, replicate, refl, sym, ap, subst, ◌∙◌, inl}
use Rattle.std.specs.FinMap.{empty, get, get-empty}
use Rattle.std.specs.Ordering.{nat_cmp}
use Rattle.flash_sim.specs.Device.{Device}
use Rattle.flash_map.specs.Area.{geometry_of, sector_size, sectors_of}
use Rattle.flash_map.specs.Lawful.{IsLawfulFor}
use Rattle.flash_map.specs.On.{on, HoldsOn}
use Rattle.flash_map.specs.declared.area.Area.{Area}
use Rattle.named_items.specs.Pairs.{count_in, pair_at}
use Rattle.named_items.specs.Numbering.{Numbering}
use Rattle.named_items.proofs.PairLemmas.{settings-on}
use Rattle.named_items.proofs.RangePairs.{map_on}
use Rattle.item_laws.specs.Items.{Items}
use Rattle.named_items.specs.Blank.{nvs-undamaged, nvs-empty, nvs-next_open}
use Rattle.named_items.specs.NvsStore.{nvs_damage, nvs_items, nvs_rests}
use Rattle.backend_nvs.specs.Standing.{Rests}
use Rattle.backend_nvs.specs.IdLayout.{count_of, numbering_of, settings_of}

nothing : (area : Area) → map_on (pair_at (numbering_of area) empty) 0x8001 0 ≡ empty
unfolding map_on
nothing area = refl

-- without a count there is no setting
none-there : (area : Area) → settings_of area empty ≡ empty
none-there area =
    let n : Numbering = numbering_of area in
    let none : count_in (numbering_of area) empty ≡ 0 = ap count_of (get-empty {X = List ℕ} nat_cmp 0x8000) in
    settings-on n empty ∙ ap (λ (k : ℕ). map_on (pair_at n empty) 0x8001 k) none ∙ nothing area

module _ (d e : Device) (area : Area) (own : IsLawfulFor d.banks area) (blank : sectors_of e area ≡ replicate area.sectors (replicate (sector_size d area) 255)) where
  pub format-undamaged : on nvs_damage e area ≡ None
  format-undamaged =
      ap (nvs_damage area (geometry_of e area)) blank ∙ nvs-undamaged area.sectors (sector_size d area) own.several (geometry_of e area).unit

  pub format-empty : settings_of area (on nvs_items e area) ≡ empty
  format-empty =
      ap (λ (s : List (List ℕ)). settings_of area (nvs_items area (geometry_of e area) s)) blank
      ∙ ap (settings_of area) (nvs-empty area.sectors (sector_size d area) own.several (geometry_of e area).unit) ∙ none-there area

  pub format-rests : HoldsOn Rests e area
  format-rests = record {
    store = subst (λ (s : List (List ℕ)). nvs_rests area (geometry_of e area) s) (sym blank) (nvs-next_open area.sectors (sector_size d area) own.several (geometry_of e area).unit);
    clean = λ id. inl (ap (λ (m : Items). get m id) (ap (λ (s : List (List ℕ)). nvs_items area (geometry_of e area) s) blank ∙ nvs-empty area.sectors (sector_size d area) own.several (geometry_of e area).unit) ∙ get-empty nat_cmp id);
  }
