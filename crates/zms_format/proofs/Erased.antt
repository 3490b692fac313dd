-- Bytes FF are no empty entry, so a sector of them alone is not in use.
use Rattle.std.proofs.Common.{◌≡◌, ℕ, ◌+◌, ◌-◌, ◌*◌, ◌≤◌, true, not, cond, List, length, take, get_or, replicate, Option, Some, None, refl, sym, ap, ◌∙◌, inl, inr, arith}
use Rattle.std.specs.Prelude.{is_some}
use Rattle.std.specs.List.{list_all, range_with_len}
use Rattle.std.specs.Option.{option_and_then}
use Rattle.std.proofs.lemmas.Bool.{true≢false, cases_lt}
use Rattle.std.proofs.lemmas.List.{length-replicate, take-replicate, drop-replicate, take_all}
use Rattle.std.proofs.lemmas.List.Folds.{list_all_at}
use Rattle.std.proofs.lemmas.List.FromFn.{length-range_with_len, get_or-range_with_len}
use Rattle.crc8_entry.specs.Crc.{crc, extended, bits_of}
use Rattle.flash_map.specs.Units.{is_erased}
use Rattle.flash_map.proofs.ErasedBytes.{erased_is}
use Rattle.flash_sim.specs.declared.flash.Kind.{Kind}
use Rattle.item_laws.specs.Slots.{slot_at}
use Rattle.zms_cycle.specs.Entries.{decoded, is_empty}
use Rattle.zms_cycle.specs.Sector.{cycle_of}
use Rattle.zms_format.specs.Area.{is_unused}
use Rattle.zms_format.proofs.Roomy.{no_cycle}

-- the cycle of a sector with these bytes in slot 0
abbrev cycle_by : List ℕ → Option ℕ
cycle_by bytes = option_and_then (λ e. cond (is_empty e) (Some e.cycle) None) (decoded bytes)

-- sixteen bytes or fewer
each_none : list_all (λ n. not (is_some (cycle_by (replicate n 255)))) (range_with_len 0 17) ≡ true
unfolding decoded is_empty crc extended bits_of
each_none = refl

none_at : (n : ℕ) → n ≤ 16 → cycle_by (replicate n 255) ≡ None
none_at n few = by_cycle (cycle_by (replicate n 255)) refl
  where
    by_cycle : (o : Option ℕ) → cycle_by (replicate n 255) ≡ o → o ≡ None
    by_cycle None is = refl
    by_cycle (Some c) is =
        let count = length-range_with_len 0 17 in
        let at = get_or-range_with_len 0 17 n 0 (omega arith) in
        let same : get_or (range_with_len 0 17) n 0 ≡ n = omega arith in
        let here = ap (λ (k : ℕ). not (is_some (cycle_by (replicate k 255)))) same ∙ ap (λ (o : Option ℕ). not (is_some o)) is in
        absurd (true≢false (sym each_none ∙ list_all_at (λ (k : ℕ). not (is_some (cycle_by (replicate k 255)))) (range_with_len 0 17) n 0 (omega arith) here))

pub cycle_none : (m : ℕ) → cycle_of (replicate m 255) ≡ None
unfolding slot_at cycle_of
cycle_none m =
    let count = length-replicate {A = ℕ} m 255 in
    let start : ℕ = length (replicate {A = ℕ} m 255) - (0 + 1) * 16 in
    let bytes = ap (take {A = ℕ} (start + 16 - start)) (drop-replicate {X = ℕ} start m 255) in
    elim (cases_lt m 16) [
      | inl short ↦
          let rest = length-replicate {A = ℕ} (m - start) 255 in
          ap cycle_by (bytes ∙ take_all {A = ℕ} (start + 16 - start) (replicate {A = ℕ} (m - start) 255) (omega arith)) ∙ none_at (m - start) (omega arith)
      | inr long ↦ ap cycle_by (bytes ∙ take-replicate {X = ℕ} (start + 16 - start) (m - start) 255 (omega arith)) ∙ none_at (start + 16 - start) (omega arith)
    ]

pub erased-unused : (kind : Kind) (b : List ℕ) → is_erased b ≡ true → is_unused kind b ≡ true
erased-unused kind b erased = no_cycle kind b (ap cycle_of (erased_is b erased) ∙ cycle_none (length b))
