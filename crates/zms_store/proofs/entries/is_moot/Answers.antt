use Rattle.std.proofs.Common.{◌≡◌, ℕ, ◌+◌, ◌-◌, ◌*◌, List, Some, length, refl, sym, ap, ◌∙◌, inl, inr}
use Rattle.std.specs.Option.{option_map}
use Rattle.item_laws.proofs.LiveLemmas.{option_cases, some_none}
use Rattle.item_laws.proofs.SlotLemmas.{bytes-slot_at}
use Rattle.item_store.specs.declared.entry.Entry.{Entry}
use Rattle.item_store.specs.SectorFormat.{placed_at}
use Rattle.item_store.proofs.SeenSteps.{seen_some, seen_same}
use Rattle.zms_cycle.specs.declared.entry.ZEntry.{ZEntry}
use Rattle.zms_cycle.specs.Entries.{entry_of as fields_of}
use Rattle.zms_cycle.specs.Sector.{slot_of, entry_in}
use Rattle.zms_cycle.proofs.SlotSearch.{entry_in-cases}
use Rattle.zms_format.specs.Formats.{entry_of, format_of}
use Rattle.zms_store.proofs.entries.is_moot.Goals as goal

one_entry : (x y : Entry) → Some x ≡ Some y → x ≡ y
one_entry x y e = cc

-- an entry has the id and the length of its slot's bytes
fields : (b : List ℕ) (slot id len : ℕ) → id ≡ (fields_of (slot_of b slot).bytes).id → len ≡ (fields_of (slot_of b slot).bytes).len → (e : Entry) → option_map entry_of (entry_in (slot_of b slot)) ≡ Some e → (e.id ≡ id) × (e.len ≡ len)
fields b slot id len id-is len-is e some =
    elim (entry_in-cases (slot_of b slot)) [
      | inl none ↦ absurd (some_none e (sym some ∙ ap (option_map entry_of) none))
      | inr (f, found, same) ↦
          let own : entry_of f ≡ e = one_entry (entry_of f) e (sym (ap (option_map entry_of) found) ∙ some) in (
            sym (ap (λ (x : Entry). x.id) own) ∙ ap (λ (x : ZEntry). x.id) same ∙ sym id-is,
            sym (ap (λ (x : Entry). x.len) own) ∙ ap (λ (x : ZEntry). x.len) same ∙ sym len-is,
          )
    ]

pub returns : goal.returns
returns g c =
    let b : List ℕ = c.args.bytes.now in
    let own = bytes-slot_at 16 b c.args.slot (length b - (c.args.slot + 1) * 16) refl in
    let id-is = c.id_of.ensures ∙ ap (λ (xs : List ℕ). (fields_of xs).id) own in
    let len-is = c.len_of.ensures ∙ ap (λ (xs : List ℕ). (fields_of xs).len) own in
    λ geometry place start before moot noted.
    elim (option_cases ((format_of geometry).in_slot b c.args.slot)) [
      | inl none ↦ seen_same (g.N.Notes.noted start 0xFFFFFFFF c.args.notes.now) before (option_map (placed_at place) ((format_of geometry).in_slot b c.args.slot)) (sym (ap (option_map (placed_at place)) none)) noted
      | inr (e, some) ↦
          let read = fields b c.args.slot c.id_of.result c.len_of.result id-is len-is e some in
          seen_some (g.N.Notes.noted start 0xFFFFFFFF c.args.notes.now) before (placed_at place e) (option_map (placed_at place) ((format_of geometry).in_slot b c.args.slot)) (sym (ap (option_map (placed_at place)) some))
          (c.is_moot.ensures start 0xFFFFFFFF before (placed_at place e) moot read.0 read.1 noted)
    ]
