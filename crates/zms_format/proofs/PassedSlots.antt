-- A search for the ids of a range passes over the slots that name others.
use Rattle.std.proofs.Common.{◌≡◌, ℕ, zero, suc, ◌+◌, ◌-◌, ◌<◌, ◌≤◌, false, true, Bool, ◌&&◌, leb, List, Option, refl, sym, ap, subst, ◌∙◌, inl, inr, arith}
use Rattle.std.specs.Option.{option_map}
use Rattle.std.proofs.lemmas.Bool.{false≢true, le-leb}
use Rattle.item_store.specs.Lasts.{IsOther, in_range}
use Rattle.zms_cycle.specs.declared.entry.ZEntry.{ZEntry}
use Rattle.zms_cycle.specs.declared.reading.SlotEntry.{SlotEntry}
use Rattle.zms_cycle.specs.Entries.{entry_of as fields_of}
use Rattle.zms_cycle.specs.Sector.{slot_of, entry_in}
use Rattle.zms_cycle.specs.Searches.{names}
use Rattle.zms_cycle.proofs.Scanning.{entries_to}
use Rattle.zms_cycle.proofs.SlotSearch.{entry_in-cases}
use Rattle.zms_format.specs.Area.{last_in}
use Rattle.zms_format.specs.Formats.{entry_of}
use Rattle.zms_format.proofs.Sectors.{find_none, find_other}

-- a slot that names an id outside the range has no entry of one inside
pub unnamed_other : (b : List ℕ) (slot least most : ℕ) → names least most (slot_of b slot) ≡ false → IsOther least most (option_map entry_of (entry_in (slot_of b slot)))
unnamed_other b slot least most other =
    elim (entry_in-cases (slot_of b slot)) [
      | inl none ↦ subst (λ (o : Option SlotEntry). IsOther least most (option_map entry_of o)) (sym none) tt
      | inr (f, some, same) ↦
          subst (λ (o : Option SlotEntry). IsOther least most (option_map entry_of o)) (sym some)
          (ap (λ (e : ZEntry). in_range least most e.id) same ∙ other)
    ]

-- an id lies in the range of itself alone
own : (id other : ℕ) → other ≡ id → (leb id other && leb other id) ≡ true
own id other is = ap (λ (t : Bool). t && leb other id) (le-leb id other (omega arith)) ∙ le-leb other id (omega arith)

find_unnamed : (b : List ℕ) (id count k : ℕ) (rest : Option SlotEntry) → 0 < count → k ≡ count + 1 → names id id (slot_of b k) ≡ false → last_in id (entries_to b count) ≡ rest → last_in id (entries_to b (count - 1)) ≡ rest
find_unnamed b id count k rest positive at other later =
    elim (entry_in-cases (slot_of b k)) [
      | inl none ↦ find_none b id count k rest positive at (sym none) later
      | inr (f, is, same) ↦
          find_other b id count k f rest positive at (sym is)
          (λ e. false≢true (sym other ∙ own id (fields_of (slot_of b k).bytes).id (sym (ap (λ (x : ZEntry). x.id) same) ∙ e))) later
    ]

-- and so are all behind the first n
pub find_past : (b : List ℕ) (id n d m : ℕ) (rest : Option SlotEntry) → m ≡ n + d → ((k : ℕ) → n + 2 ≤ k → k < m + 2 → names id id (slot_of b k) ≡ false) → last_in id (entries_to b m) ≡ rest → last_in id (entries_to b n) ≡ rest
find_past b id n zero m rest is others later =
    let same : n ≡ m = omega arith in
    ap (λ (j : ℕ). last_in id (entries_to b j)) same ∙ later
find_past b id n (suc d) m rest is others later =
    find_past b id n d (m - 1) rest (omega arith) (λ k over lt. others k over (omega arith))
    (find_unnamed b id m (m + 1) rest (omega arith) refl (others (m + 1) (omega arith) (omega arith)) later)
