-- An entry at its place, as the store over any sectors has it and as its slot of ZMS does.
use Rattle.std.proofs.Common.{◌≡◌, ℕ, ◌<◌, List, length, Option, Some, sym, ap, subst, ◌∙◌}
use Rattle.std.specs.Option.{option_map}
use Rattle.flash_map.specs.Area.{sector_at}
use Rattle.flash_map.specs.declared.area.Geometry.{Geometry}
use Rattle.item_laws.specs.Area.{counts_at}
use Rattle.item_store.specs.declared.entry.Placed.{Placed}
use Rattle.item_store.specs.SectorFormat.{placed_at}
use Rattle.item_store.specs.Listed as ring
use Rattle.zms_cycle.specs.declared.reading.SlotEntry.{SlotEntry}
use Rattle.zms_cycle.specs.Sector.{slot_of, entry_in}
use Rattle.zms_format.specs.declared.sector.Found.{Found}
use Rattle.zms_format.specs.Area.{plain, IsListed, IsPlaced}
use Rattle.zms_format.specs.Formats.{entry_of, placed_of, format_of}

some_same : (x y : Placed) → Some x ≡ Some y → x ≡ y
some_same x y e = cc

-- the entry that is read in the slot of one of the list is that one
pub read_same : (b : List ℕ) (p : Placed) (f : SlotEntry) → entry_in (slot_of b p.slot) ≡ Some f → option_map (placed_at p.sector) (option_map entry_of (entry_in (slot_of b p.slot))) ≡ Some p → placed_at p.sector (entry_of f) ≡ p
read_same b p f read is = some_same (placed_at p.sector (entry_of f)) p (sym (ap (λ (o : Option SlotEntry). option_map (placed_at p.sector) (option_map entry_of o)) read) ∙ is)

-- its sector counts
pub placed_there : (geometry : Geometry) (sectors : List (List ℕ)) (current : ℕ) (q : Placed) (p : Found) → placed_of p ≡ q → ring.IsPlaced (format_of geometry) sectors current q → IsListed (sector_at sectors q.sector) p → IsPlaced sectors current p
placed_there geometry sectors current q p e placed listed =
    let same : p.sector ≡ q.sector = ap (λ (x : Placed). x.sector) e in
    record {
      within = subst (λ (k : ℕ). k < length sectors) (sym same) placed.listed.within;
      counts = ap (counts_at plain sectors current) same ∙ placed.counts;
      listed = subst (λ (k : ℕ). IsListed (sector_at sectors k) p) (sym same) listed;
    }
