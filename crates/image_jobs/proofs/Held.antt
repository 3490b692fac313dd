-- An image that a bench holds, and how it reads.
use Rattle.std.proofs.Common.{◌≡◌, ℕ, List, Option, Some, None, refl, sym, ap, subst, ◌∙◌}
use Rattle.std.specs.Option.{option_and_then, option_or, option_map}
use Rattle.flash_sim.specs.Device.{Device}
use Rattle.flash_map.specs.declared.area.Area.{Area}
use Rattle.flash_map.specs.declared.faults.Damaged.{Damaged}
use Rattle.flash_map.specs.On.{on}
use Rattle.fcb_ring.specs.Standing.{ring_damage}
use Rattle.handlers.specs.declared.handler.HandlerKind.{HandlerKind}
use Rattle.handlers.specs.Registry.{Registered}
use Rattle.image_file.specs.Format.{Plain}
use Rattle.backend_api.specs.Boot.{Owes}
use Rattle.migrator.specs.Active.{active_on, active_with}
use Rattle.migrator.specs.Areas.{selector_of}
use Rattle.session_table.specs.Bench.{area_at, state_of}
use Rattle.session.specs.OnMap.{active_damage, damage_in, moment, selector_damage, selector_place}
use Rattle.session.specs.Owing.{OwesOnMap}
use Rattle.image_jobs.specs.Images.{OwesOf, ReadsAs, active_of, damage_of, flash_of}
use Rattle.image_jobs.specs.Stages.{Stores}

-- ---- an image with the banks and bytes of a bench reads as that bench

-- such an image, whatever its version and areas
abbrev pub of_bench : ℕ → List Area → Device → Plain
of_bench version areas d = record { version = version; banks = d.banks; areas = areas; bytes = d.bytes }

module _ (version : ℕ) (plain_areas areas : List Area) (d : Device) where
  active_with_same : (selector : Option Area) → active_with areas (flash_of (of_bench version plain_areas d)) selector ≡ active_with areas d selector
  active_with_same None = refl
  active_with_same (Some selector) = refl

  pub active_same : active_of areas (of_bench version plain_areas d) ≡ active_on areas d
  active_same = active_with_same (selector_of areas)

  pub reads_as : (k : Stores) (registry : List Registered) (pool : List HandlerKind) → ReadsAs k areas (of_bench version plain_areas d) (state_of k.meanings areas (moment d registry pool))
  reads_as k registry pool = record {
    active = active_same;
    settings = ap (λ (place : ℕ). on k.meanings.contents d (area_at areas place)) active_same;
  }

  ring_damage_same : (selector : Option Area) → option_and_then (ring_damage (flash_of (of_bench version plain_areas d))) selector ≡ option_and_then (ring_damage d) selector
  ring_damage_same None = refl
  ring_damage_same (Some selector) = refl

  pub damage_same : (k : Stores) → damage_of k areas (of_bench version plain_areas d) ≡ damage_in k.damage areas d
  damage_same k =
      ap (λ (damage : Option Damaged). option_or (option_map (λ damaged. (selector_place areas, damaged)) damage) (active_damage k.damage areas (flash_of (of_bench version plain_areas d)))) (ring_damage_same (selector_of areas))
      ∙ ap (λ (place : ℕ). option_or (selector_damage areas d) (option_map (λ damaged. (place, damaged)) (on k.damage d (area_at areas place)))) active_same

  pub owes_as : (k : Stores) (most : ℕ) → OwesOnMap k.owes areas d most → OwesOf k areas (of_bench version plain_areas d) most
  owes_as k most owes = record { units = owes.units; owed = subst (λ (place : ℕ). Owes k.owes d (area_at areas place) owes.units) (sym active_same) owes.owed; within = owes.within }

  pub owes_there : (k : Stores) (most : ℕ) → OwesOf k areas (of_bench version plain_areas d) most → OwesOnMap k.owes areas d most
  owes_there k most owes = record { units = owes.units; owed = subst (λ (place : ℕ). Owes k.owes d (area_at areas place) owes.units) active_same owes.owed; within = owes.within }
