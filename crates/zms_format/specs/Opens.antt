-- The open sector of an area's list and that of its damage, and damage on a rewritable bank.
use Rattle.std.specs.Prelude.{◌≡◌, ℕ, ◌<◌, ◌≤◌, true, ◌&&◌, List, length, Option, Some, None, if◌then◌else◌}
use Rattle.std.specs.List.{list_all}
use Rattle.std.specs.Option.{option_or}
use Rattle.flash_sim.specs.declared.flash.Kind.{Kind as BankKind}
use Rattle.flash_sim.specs.declared.flash.Kind.TheVariants.{Rewritable}
use Rattle.flash_map.specs.declared.faults.Damaged.{Damaged}
use Rattle.flash_map.specs.declared.faults.Why.TheVariants.{AllClosed, TwoOpen, Overfull}
use Rattle.flash_map.specs.Area.{sector_at}
use Rattle.item_laws.specs.Area.{places, is_closed_at, counts_at, open_sector, first_of_kind}
use Rattle.zms_cycle.specs.Sector.{is_overfull}
use Rattle.zms_format.specs.Area.{may_close, reading, plain, open_place, is_second_open, damage_of}

-- the list's open sector is the damage's
abbrev pub OpensAlike : BankKind → List (List ℕ) → Type 0
OpensAlike kind sectors = open_sector (reading kind) sectors ≡ open_place sectors

-- On a rewritable bank it is in every image. On any bank it is where nothing is damaged, where some
-- sector is closed, and where each one may be closed.
pub record HasOneOpen (kind : BankKind) (sectors : List (List ℕ)) : Type 0 where
  pub rewritable : kind ≡ Rewritable → OpensAlike kind sectors
  pub undamaged : damage_of kind sectors ≡ None → OpensAlike kind sectors
  pub closed : (place : ℕ) → place < length sectors → is_closed_at plain sectors place ≡ true
      → OpensAlike kind sectors
  pub closable :
      ((place : ℕ) → place < length sectors → may_close kind (sector_at sectors place) ≡ true)
      → OpensAlike kind sectors

abbrev pub EachHasOneOpen : Type 0
EachHasOneOpen = (kind : BankKind) (sectors : List (List ℕ)) → HasOneOpen kind sectors

-- Damage by three tests, in this order. Overfull looks at each sector that counts.
abbrev pub three_kinds : List (List ℕ) → Option Damaged
three_kinds sectors =
    let open_at = open_place sectors in
    if list_all (is_closed_at plain sectors) (places sectors) then Some
    (record { sector = 0; why = AllClosed })
    else option_or (first_of_kind TwoOpen (is_second_open sectors open_at) sectors)
    (first_of_kind Overfull
    (λ place. counts_at plain sectors open_at place && is_overfull (sector_at sectors place))
    sectors)

-- On a rewritable bank this is damage. Sectors have at least 48 bytes, the room for slots 0, 1 and 2.
abbrev pub DamageHasThreeKinds : Type 0
DamageHasThreeKinds =
    (sectors : List (List ℕ))
    → ((place : ℕ) → place < length sectors → 48 ≤ length (sector_at sectors place))
    → damage_of Rewritable sectors ≡ three_kinds sectors
