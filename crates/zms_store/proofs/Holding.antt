-- What a sector's bytes say of a search by bytes, as `item_store` sees it.
use Rattle.std.proofs.Common.{◌≡◌, ℕ, ◌+◌, List, length, Option, Some, None, [], refl, sym, ap, ◌∙◌, arith}
use Rattle.std.specs.Option.{option_map, option_map_or}
use Rattle.flash_map.specs.declared.area.Geometry.{Geometry}
use Rattle.item_store.specs.declared.entry.Entry.{Entry}
use Rattle.item_store.specs.declared.entry.IdRange.{IdRange}
use Rattle.item_store.specs.Holding.{NoneHolds, FindsBytes}
use Rattle.item_store.specs.SectorFormat.{placed_at}
use Rattle.item_store.proofs.ReadLemmas.{read_there}
use Rattle.zms_cycle.specs.declared.reading.SlotEntry.{SlotEntry}
use Rattle.zms_cycle.specs.Holding as own
use Rattle.zms_cycle.specs.Sector.{slot_of, valid_slots, entry_in, value_of}
use Rattle.zms_format.specs.Formats.{entry_of, format_of}
use Rattle.zms_format.proofs.FormatLemmas.{slot_is}

-- the bytes of an entry, by its slot
bytes_is : (geometry : Geometry) (b : List ℕ) (k : ℕ) (f : SlotEntry) → entry_in (slot_of b k) ≡ Some f → (format_of geometry).bytes b (entry_of f).slot ≡ value_of b f.entry
bytes_is geometry b k f is =
    ap (λ (n : ℕ). option_map_or (λ f. value_of b f.entry) (entry_in (slot_of b n)) []) (slot_is b k f is)
    ∙ ap (λ (o : Option SlotEntry). option_map_or (λ f. value_of b f.entry) o []) is

none_holds : (geometry : Geometry) (b : List ℕ) (ids : IdRange) (wanted : List ℕ) (from to : ℕ) → own.NoneHolds b ids.least ids.most wanted from to → NoneHolds (format_of geometry) b ids wanted from to
none_holds geometry b ids wanted from to none = λ k e over lt is holds.
    let there = read_there (λ n. entry_in (slot_of b n)) entry_of (λ f. value_of b f.entry) (slot_is b) k e is in
    let f : SlotEntry = there.0 in
    let same : entry_of there.0 ≡ e = there.2 in
    let id : there.0.entry.id ≡ e.id = ap (λ (x : Entry). x.id) there.2 in
    none k there.0 over lt there.1
    (record {
      from = (let least = holds.from in omega arith);
      to = (let most = holds.to in omega arith);
      value = sym (bytes_is geometry b k there.0 there.1) ∙ ap (λ (x : Entry). (format_of geometry).bytes b x.slot) there.2 ∙ holds.bytes;
    })

-- what the search in a sector's bytes finds is what the sector format asks for
pub finds_is : (geometry : Geometry) (b : List ℕ) (place : ℕ) (ids : IdRange) (wanted : List ℕ) (skipped : ℕ) (found : Option SlotEntry) → own.FindsBytes b ids.least ids.most wanted skipped found
    → FindsBytes (format_of geometry) b place ids wanted skipped (option_map (λ f. placed_at place (entry_of f)) found)
finds_is geometry b place ids wanted skipped None none = λ k e over lt is holds. none_holds geometry b ids wanted (2 + skipped) (length (valid_slots b) + 2) none k e over (omega arith) is holds
finds_is geometry b place ids wanted skipped (Some f) first = record {
  entry = entry_of f;
  is = refl;
  from = first.behind;
  listed = (let below = first.listed in omega arith);
  read = ap (option_map entry_of) first.read;
  holds = record { from = first.holds.from; to = first.holds.to; bytes = bytes_is geometry b f.slot f first.read ∙ first.holds.value };
  first = none_holds geometry b ids wanted (2 + skipped) f.slot first.first;
}
