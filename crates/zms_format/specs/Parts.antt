-- What the list of a ZMS area is made of.
use Rattle.std.specs.Prelude.{◌≡◌, ℕ, ◌<◌, ◌≤◌, true, List, length, Some, None}
use Rattle.flash_map.specs.Area.{sector_at}
use Rattle.item_laws.specs.Area.{counts_at, open_sector}
use Rattle.zms_cycle.specs.Sector.{pairs, part_of_list}
use Rattle.flash_sim.specs.declared.flash.Kind.{Kind as BankKind}
use Rattle.zms_format.specs.Area.{reading, damage_of}

-- In an area without damage each sector that counts has its part of the area's list, which is its
-- pairs: it is not overfull. It has at least 48 bytes, the room for slots 0, 1 and 2; a shorter one
-- that is not in use would have no guard slot.
abbrev pub EachHasItsPart : Type 0
EachHasItsPart =
    (kind : BankKind) (sectors : List (List ℕ)) (place : ℕ) → 48 ≤ length (sector_at sectors place)
    → damage_of kind sectors ≡ None → place < length sectors
    → counts_at (reading kind) sectors (open_sector (reading kind) sectors) place ≡ true
    → part_of_list (sector_at sectors place) ≡ Some (pairs (sector_at sectors place))
