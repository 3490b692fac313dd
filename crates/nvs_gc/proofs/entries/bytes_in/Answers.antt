use Rattle.std.proofs.Common.{◌≡◌, ℕ, ◌+◌, ◌≤◌, List, [], length, Option, Some, sym, ap, ◌∙◌, inl, inr, arith}
use Rattle.std.specs.Option.{option_map_or}
use Rattle.item_laws.proofs.LiveLemmas.{some_none}
use Rattle.item_laws.proofs.SlotLemmas.{start-slot_at}
use Rattle.nvs_store.specs.declared.scan.SlotEntry.{SlotEntry}
use Rattle.nvs_store.specs.Geometry.{slot_size}
use Rattle.nvs_store.specs.Sector.{slot_at, counting_entry}
use Rattle.nvs_store.proofs.Marks.{counting_entry_under}
use Rattle.nvs_format.specs.Formats.{found_bytes}
use Rattle.nvs_gc.proofs.entries.bytes_in.Goals as goal

ends_inside : (unit : ℕ) (b : List ℕ) (n : ℕ) (f : SlotEntry) → Some f ≡ counting_entry unit (slot_at unit b n) → f.entry.offset + f.entry.len ≤ length b
ends_inside unit b n f is =
    elim (counting_entry_under unit (slot_at unit b n)) [
      | inl none ↦ absurd (some_none f (is ∙ none))
      | inr (x, some, under) ↦
          let same : f ≡ x = some_same f x (is ∙ some) in
          let offset : f.entry.offset ≡ x.entry.offset = ap (λ (g : SlotEntry). g.entry.offset) same in
          let len : f.entry.len ≡ x.entry.len = ap (λ (g : SlotEntry). g.entry.len) same in
          let start = start-slot_at (slot_size unit) b n in
          omega arith
    ]
  where
    some_same : (x y : SlotEntry) → Some x ≡ Some y → x ≡ y
    some_same x y e = cc

pub slice_bounds-result-end : goal.slice_bounds-result-end
slice_bounds-result-end c =
    let inside = ends_inside c.args.unit c.args.bytes.now c.args.slot c.in-Some.found (sym c.in-Some.is ∙ c.counting_entry.ensures) in
    omega arith

pub returns-in-Some : goal.returns-in-Some
returns-in-Some c = ap (λ (o : Option SlotEntry). option_map_or (found_bytes c.args.bytes.now) o []) (sym c.in-Some.is ∙ c.counting_entry.ensures)

pub returns-in-None : goal.returns-in-None
returns-in-None c = ap (λ (o : Option SlotEntry). option_map_or (found_bytes c.args.bytes.now) o []) (sym c.in-None.is ∙ c.counting_entry.ensures)
