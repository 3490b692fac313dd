-- When the answers to lines have texts.
use Rattle.std.specs.Prelude.{◌≡◌, ℕ, true, List}
use Rattle.flash_map.specs.declared.area.Area.{Area}
use Rattle.image_file.specs.Lawful.{IsLabel}
use Rattle.migrator.specs.Areas.{is_store_at}
use Rattle.session_table.specs.Bench.{area_at}

-- the label of each store area has 1 to 8 bytes of `a` to `z` and `0` to `9`
abbrev pub AreLabelled : List Area → Type 0
AreLabelled areas =
    (place : ℕ) → is_store_at areas place ≡ true → IsLabel (area_at areas place).label.bytes
