-- The tops of sectors: where a sector has one, one of some entries stands there.
use Rattle.std.proofs.Common.{◌≡◌, ◌≢◌, ◌⊎◌, ℕ, Bool, true, false, cond, List, [], ◌∷◌, ◌++◌, length, replicate, set, refl, sym, ap, subst, ◌∙◌, inl, inr, arith}
use Rattle.std.specs.Prelude.{◌&&◌, nat_lt}
use Rattle.std.specs.List.{All}
use Rattle.std.proofs.lemmas.Bool.{cases_eq, cases_lt}
use Rattle.std.proofs.lemmas.Grind.{common_steps}
use Rattle.std.proofs.lemmas.List.{length-set, get_or-set_same, get_or-set_other, get_or_past}
use Rattle.std.proofs.lemmas.List.Elements.{Contains-append_left, Contains-append_cases, Contains-push}
use Rattle.lookup_cache.specs.Places.{higher, top_of, with_top, without_top}
use Rattle.item_store.specs.declared.entry.Placed.{Placed}
use Rattle.item_store.specs.Cached.{IsTopOf}

-- ---- tops

-- no sector has one in the beginning
pub no_top : (n sector : ℕ) → top_of (replicate n 0) sector ≡ 0
no_top n sector = grind (arith, common_steps)

-- what is set for a sector leaves the tops of others
top-other : (tops : List ℕ) (sector value other : ℕ) → other ≢ sector → top_of (set tops sector value) other ≡ top_of tops other
top-other tops sector value other apart = get_or-set_other tops sector other value 0 apart

-- its own is that value, or 0 behind the last sector that has a top
top-own : (tops : List ℕ) (sector value : ℕ) → (top_of (set tops sector value) sector ≡ value) ⊎ (top_of (set tops sector value) sector ≡ 0)
top-own tops sector value =
    elim (cases_lt sector (length tops)) [
      | inl below ↦ inl (get_or-set_same tops sector value 0 below)
      | inr past ↦ inr (get_or_past (set tops sector value) sector 0 (omega (arith, past, length-set tops sector value)))
    ]

higher-is : (top slot : ℕ) → (higher top slot ≡ top) ⊎ (higher top slot ≡ slot)
higher-is top slot = by_test (nat_lt top slot && nat_lt slot 65536)
  where
    by_test : (b : Bool) → (cond b slot top ≡ top) ⊎ (cond b slot top ≡ slot)
    by_test true = inr refl
    by_test false = inl refl

-- ---- where an entry stands

-- among more entries
top-more : (before more : List Placed) (sector top : ℕ) → IsTopOf before sector top → IsTopOf (before ++ more) sector top
top-more before more sector top is =
    elim is [
      | inl none ↦ inl none
      | inr has ↦
          inr (record {
            entry = has.entry;
            among = Contains-append_left before more has.entry has.among;
            in_sector = has.in_sector;
            in_slot = has.in_slot;
          })
    ]

-- one more entry was noted
pub top-noted : (tops : List ℕ) (before : List Placed) (p : Placed) → ((sector : ℕ) → IsTopOf before sector (top_of tops sector)) → (sector : ℕ) → IsTopOf (before ++ p ∷ []) sector (top_of (with_top tops p.sector p.slot) sector)
top-noted tops before p is sector =
    elim (cases_eq sector p.sector) [
      | inl same ↦ subst (λ (j : ℕ). IsTopOf (before ++ p ∷ []) j (top_of (with_top tops p.sector p.slot) j)) (sym same) own
      | inr apart ↦
          subst (λ (n : ℕ). IsTopOf (before ++ p ∷ []) sector n) (sym (top-other tops p.sector (higher (top_of tops p.sector) p.slot) sector apart))
          (top-more before (p ∷ []) sector (top_of tops sector) (is sector))
    ]
  where
    stands : IsTopOf (before ++ p ∷ []) p.sector p.slot
    stands = inr (record { entry = p; among = Contains-push before p; in_sector = refl; in_slot = refl })

    raised : IsTopOf (before ++ p ∷ []) p.sector (higher (top_of tops p.sector) p.slot)
    raised =
        elim (higher-is (top_of tops p.sector) p.slot) [
          | inl old ↦ subst (λ (n : ℕ). IsTopOf (before ++ p ∷ []) p.sector n) (sym old) (top-more before (p ∷ []) p.sector (top_of tops p.sector) (is p.sector))
          | inr new ↦ subst (λ (n : ℕ). IsTopOf (before ++ p ∷ []) p.sector n) (sym new) stands
        ]

    own : IsTopOf (before ++ p ∷ []) p.sector (top_of (with_top tops p.sector p.slot) p.sector)
    own =
        elim (top-own tops p.sector (higher (top_of tops p.sector) p.slot)) [
          | inl there ↦ subst (λ (n : ℕ). IsTopOf (before ++ p ∷ []) p.sector n) (sym there) raised
          | inr none ↦ inl none
        ]

-- an entry that is none of those in one sector
left_over : (sector : ℕ) (gone left : List Placed) → All (λ p. p.sector ≡ sector) gone → (other top : ℕ) → other ≢ sector → IsTopOf (gone ++ left) other top → IsTopOf left other top
left_over sector gone left there other top apart is =
    elim is [
      | inl none ↦ inl none
      | inr has ↦
          elim (Contains-append_cases gone left has.entry has.among) [
            | inl lost ↦
                let at : has.entry.sector ≡ sector = subst (λ (p : Placed). p.sector ≡ sector) lost.2 (there lost.0 has.entry lost.1) in
                absurd (apart (sym has.in_sector ∙ at))
            | inr kept ↦ inr (record { entry = has.entry; among = kept; in_sector = has.in_sector; in_slot = has.in_slot })
          ]
    ]

-- the sector of the first of these entries was forgotten
pub top-forgot : (tops : List ℕ) (sector : ℕ) (gone left : List Placed) → All (λ p. p.sector ≡ sector) gone → ((other : ℕ) → IsTopOf (gone ++ left) other (top_of tops other)) → (other : ℕ) → IsTopOf left other (top_of (without_top tops sector) other)
top-forgot tops sector gone left there is other =
    elim (cases_eq other sector) [
      | inl same ↦
          inl (ap (λ (j : ℕ). top_of (without_top tops sector) j) same ∙ elim (top-own tops sector 0) [ inl cleared ↦ cleared | inr past ↦ past ])
      | inr apart ↦
          subst (λ (n : ℕ). IsTopOf left other n) (sym (top-other tops sector 0 other apart))
          (left_over sector gone left there other (top_of tops other) apart (is other))
    ]
