use Rattle.std.proofs.Common.{◌≡◌, ℕ, ◌+◌, ◌-◌, ◌*◌, List, Option, length, refl, sym, ap, subst, ◌∙◌, inl, inr}
use Rattle.std.specs.Prelude.{IfSome}
use Rattle.std.specs.Option.{option_map}
use Rattle.item_laws.proofs.SlotLemmas.{bytes-slot_at}
use Rattle.zms_cycle.specs.declared.entry.ZEntry.{ZEntry}
use Rattle.zms_cycle.specs.declared.reading.SlotEntry.{SlotEntry}
use Rattle.zms_cycle.specs.Entries.{entry_of as fields_of}
use Rattle.zms_cycle.specs.Sector.{slot_of, entry_in}
use Rattle.zms_cycle.proofs.SlotSearch.{entry_in-cases}
use Rattle.zms_format.specs.Formats.{entry_of}
use Rattle.zms_store.proofs.entries.named_id.Goals as goal

-- an entry has the id of its slot's bytes
named : (b : List ℕ) (slot id : ℕ) → id ≡ (fields_of (slot_of b slot).bytes).id → IfSome (option_map entry_of (entry_in (slot_of b slot))) (λ e. e.id ≡ id)
named b slot id is =
    elim (entry_in-cases (slot_of b slot)) [
      | inl none ↦ subst (λ (o : Option SlotEntry). IfSome (option_map entry_of o) (λ e. e.id ≡ id)) (sym none) tt
      | inr (f, some, same) ↦ subst (λ (o : Option SlotEntry). IfSome (option_map entry_of o) (λ e. e.id ≡ id)) (sym some) (ap (λ (e : ZEntry). e.id) same ∙ sym is)
    ]

pub returns : goal.returns
returns c =
    let b : List ℕ = c.args.bytes.now in
    named b c.args.slot c.id_of.result
    (c.id_of.ensures ∙ ap (λ (xs : List ℕ). (fields_of xs).id) (bytes-slot_at 16 b c.args.slot (length b - (c.args.slot + 1) * 16) refl))
