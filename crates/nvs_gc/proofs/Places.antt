-- An entry at its place, as the store over any sectors has it and as its slot of NVS does.
use Rattle.std.proofs.Common.{◌≡◌, ℕ, ◌+◌, ◌<◌, ◌≤◌, List, length, sym, ap, subst, ◌∙◌, arith}
use Rattle.flash_map.specs.Area.{sector_at}
use Rattle.item_laws.specs.Area.{counts_at}
use Rattle.item_store.specs.declared.entry.Placed.{Placed}
use Rattle.item_store.specs.Listed as ring
use Rattle.nvs_store.specs.declared.scan.Found.{Found}
use Rattle.nvs_store.specs.Sector.{slot_at, used_slots, counting_entry}
use Rattle.nvs_store.specs.Scans.{reading}
use Rattle.nvs_store.proofs.NvsEntries.{are_nvs}
use Rattle.nvs_format.specs.Formats.{ReadsAs, placed_of, format_in}
use Rattle.nvs_gc.specs.Places.{IsListed, IsPlaced}

-- an entry by its place, its id and its length
placed_by : (p : Placed) (sector slot id len : ℕ) → sector ≡ p.sector → slot ≡ p.slot → id ≡ p.id → len ≡ p.len
    → ◌≡◌ {A = Placed} (record { sector = sector; slot = slot; id = id; len = len }) p
placed_by p sector slot id len at in_slot named long =
    ap (λ (n : ℕ). record { sector = n; slot = slot; id = id; len = len }) at
    ∙ ap (λ (n : ℕ). record { sector = p.sector; slot = n; id = id; len = len }) in_slot
    ∙ ap (λ (n : ℕ). record { sector = p.sector; slot = p.slot; id = n; len = len }) named
    ∙ ap (λ (n : ℕ). record { sector = p.sector; slot = p.slot; id = p.id; len = n }) long

module _ (unit : ℕ) (sectors : List (List ℕ)) (p : Placed) (own : Found) (reads : ReadsAs unit sectors p own) where
  same_slot : own.slot ≡ p.slot
  same_slot = (are_nvs unit).slot (sector_at sectors p.sector) p.sector p.slot (record { slot = own.slot; entry = own.entry }) reads.read

  -- the entry that is read again in its slot is that one
  pub read_same : placed_of own ≡ p
  read_same = placed_by p own.sector own.slot own.entry.id own.entry.len reads.sector same_slot reads.id reads.len

  -- its sector counts, and its slot is one of the list
  pub placed_there : (current : ℕ) → ring.IsPlaced (format_in unit) sectors current p → IsPlaced unit sectors current own
  placed_there current placed = record {
    within = subst (λ (k : ℕ). k < length sectors) (sym reads.sector) placed.listed.within;
    counts = ap (counts_at (reading unit) sectors current) reads.sector ∙ placed.counts;
    listed = subst (λ (k : ℕ). IsListed unit (sector_at sectors k) own) (sym reads.sector) (record {
      from = subst (λ (n : ℕ). 1 ≤ n) (sym same_slot) placed.listed.from;
      listed = let listed : p.slot < 1 + length (used_slots unit (sector_at sectors p.sector)) = placed.listed.listed in omega (arith, same_slot, listed);
      entry = ap (λ (n : ℕ). counting_entry unit (slot_at unit (sector_at sectors p.sector) n)) same_slot ∙ reads.read;
    });
  }
