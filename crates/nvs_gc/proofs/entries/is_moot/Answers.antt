use Rattle.std.proofs.Common.{◌≡◌, ℕ, ◌+◌, ◌-◌, ◌*◌, List, length, sym, ap, ◌∙◌, inl, inr, arith}
use Rattle.std.specs.Option.{option_map}
use Rattle.item_laws.proofs.LiveLemmas.{option_cases}
use Rattle.item_store.specs.SectorFormat.{placed_at}
use Rattle.item_store.proofs.SeenSteps.{seen_some, seen_same}
use Rattle.nvs_store.specs.Geometry.{slot_size}
use Rattle.nvs_format.specs.Formats.{format_in}
use Rattle.nvs_format.proofs.FindLemmas.{named_from}
use Rattle.nvs_gc.proofs.NotedSlots.{len_from, noted_fields}
use Rattle.nvs_gc.proofs.entries.is_moot.Goals as goal

pub returns : goal.returns
returns g c =
    let unit : ℕ = c.args.unit in
    let b : List ℕ = c.args.bytes.now in
    let start : ℕ = length b - (c.args.slot + 1) * c.slot_size-size.result in
    let times : (c.args.slot + 1) * c.slot_size-size.result ≡ (c.args.slot + 1) * slot_size unit = ap (λ (n : ℕ). (c.args.slot + 1) * n) c.slot_size-size.ensures.size in
    let at : start + (c.args.slot + 1) * slot_size unit ≡ length b = omega (arith, times, c.requires.inside) in
    let id-is = c.id_at.ensures.value ∙ named_from unit b c.args.slot start c.requires.unit at in
    let len-is = c.len_at.ensures ∙ len_from unit b c.args.slot start c.requires.unit at in
    λ place first before moot noted.
    elim (option_cases ((format_in unit).in_slot b c.args.slot)) [
      | inl none ↦ seen_same (g.N.Notes.noted first 0xFFFF c.args.notes.now) before (option_map (placed_at place) ((format_in unit).in_slot b c.args.slot)) (sym (ap (option_map (placed_at place)) none)) noted
      | inr (e, some) ↦
          let fields = noted_fields unit b c.args.slot c.id_at.result c.len_at.result id-is len-is e some in
          seen_some (g.N.Notes.noted first 0xFFFF c.args.notes.now) before (placed_at place e) (option_map (placed_at place) ((format_in unit).in_slot b c.args.slot)) (sym (ap (option_map (placed_at place)) some))
          (c.is_moot.ensures first 0xFFFF before (placed_at place e) moot fields.0 fields.1 noted)
    ]
