-- Look-ups by bytes and by ids in a sector of NVS, in the words of a store of items.
use Rattle.std.proofs.Common.{◌≡◌, ℕ, ◌+◌, List, [], length, Option, Some, refl, sym, ap, subst, ◌∙◌, inl, inr, arith}
use Rattle.std.specs.Option.{option_map, option_map_or}
use Rattle.std.proofs.lemmas.Bool.{cases_lt}
use Rattle.item_laws.proofs.LiveLemmas.{option_cases, some_none}
use Rattle.item_store.specs.declared.entry.Entry.{Entry}
use Rattle.item_store.specs.declared.entry.IdRange.{IdRange}
use Rattle.item_store.specs.declared.entry.Placed.{Placed}
use Rattle.item_store.specs.SectorFormat.{placed_at}
use Rattle.item_store.specs.Holding as items
use Rattle.item_store.specs.Lasts.{AreOthers}
use Rattle.nvs_store.specs.declared.scan.SlotEntry.{SlotEntry}
use Rattle.nvs_store.specs.Sector.{slot_at, used_slots, counting_entry}
use Rattle.nvs_store.specs.Holding.{Holds, NoneHolds, IsFirstHolder, NoneNames, named_at}
use Rattle.nvs_format.specs.Formats.{entry_of, found_bytes, format_in}
use Rattle.nvs_format.proofs.FindLemmas.{other_named, out_of_range}
use Rattle.nvs_format.proofs.FormatLemmas.{slot_is}

-- ---- entries with certain bytes

module _ (unit : ℕ) (b : List ℕ) (ids : IdRange) (wanted : List ℕ) where
  -- the bytes of the entry in a slot
  bytes_read : (slot : ℕ) (f : SlotEntry) → counting_entry unit (slot_at unit b slot) ≡ Some f → (format_in unit).bytes b f.slot ≡ found_bytes b f
  bytes_read slot f some =
      ap (λ (n : ℕ). option_map_or (found_bytes b) (counting_entry unit (slot_at unit b n)) []) (slot_is unit b slot f some)
      ∙ ap (λ (o : Option SlotEntry). option_map_or (found_bytes b) o []) some

  held : (slot : ℕ) (f : SlotEntry) → counting_entry unit (slot_at unit b slot) ≡ Some f → Holds b ids.least ids.most wanted f → items.Holds (format_in unit) b ids wanted (entry_of f)
  held slot f some holds = record { from = holds.from; to = holds.to; bytes = bytes_read slot f some ∙ holds.bytes }

  held_back : (slot : ℕ) (f : SlotEntry) → counting_entry unit (slot_at unit b slot) ≡ Some f → items.Holds (format_in unit) b ids wanted (entry_of f) → Holds b ids.least ids.most wanted f
  held_back slot f some holds = record { from = holds.from; to = holds.to; bytes = sym (bytes_read slot f some) ∙ holds.bytes }

  some_same : (x y : Entry) → Some x ≡ Some y → x ≡ y
  some_same x y e = cc

  pub none_held : (first end : ℕ) → NoneHolds unit b ids.least ids.most wanted first end → items.NoneHolds (format_in unit) b ids wanted first end
  none_held first end none slot e from to read holds =
      elim (option_cases (counting_entry unit (slot_at unit b slot))) [
        | inl nothing ↦ some_none e (sym read ∙ ap (option_map entry_of) nothing)
        | inr (f, some) ↦
            let same : e ≡ entry_of f = some_same e (entry_of f) (sym read ∙ ap (option_map entry_of) some) in
            none slot f from to some (held_back slot f some (subst (items.Holds (format_in unit) b ids wanted) same holds))
      ]

  pub first_held : (place first : ℕ) (f : SlotEntry) (p : Placed) → p ≡ placed_at place (entry_of f) → IsFirstHolder unit b ids.least ids.most wanted first f → items.IsFirstHolder (format_in unit) b place ids wanted first p
  first_held place first f p is found =
      subst (items.IsFirstHolder (format_in unit) b place ids wanted first) (sym is) (record {
        entry = entry_of f;
        is = refl;
        from = found.from;
        listed = found.listed;
        read = ap (option_map entry_of) found.read;
        holds = held f.slot f found.read found.holds;
        first = none_held first f.slot found.earlier;
      })

-- ---- slots that name an id

pub none_named : (unit : ℕ) (b : List ℕ) (id skipped : ℕ) → NoneNames unit b id (1 + skipped) (1 + length (used_slots unit b)) → AreOthers (format_in unit) b skipped (length (used_slots unit b)) id id
none_named unit b id skipped none slot from to =
    let other = none slot from to in
    other_named unit b id id slot (named_at unit b slot) refl
    (out_of_range id id (named_at unit b slot) (elim (cases_lt (named_at unit b slot) id) [
      | inl lt ↦ inr lt
      | inr ge ↦ elim (cases_lt id (named_at unit b slot)) [
        | inl gt ↦ inl (ge, gt)
        | inr le ↦ absurd (other (omega (arith, ge, le)))
      ]
    ]))
