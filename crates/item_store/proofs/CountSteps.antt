-- Which sectors count, by the one that does not.
use Rattle.std.proofs.Common.{◌≡◌, ℕ, Bool, true, false, not, ◌&&◌, eqb, List, Option, Some, None, sym, ap, ◌∙◌, inl, inr}
use Rattle.std.specs.Option.{option_eq}
use Rattle.std.proofs.lemmas.Bool.{false≢true, cases_eq, eqb-true, eq-eqb, ne_eqb}
use Rattle.item_laws.specs.Area.{next, is_closed_at, ignored_place, counts_at}
use Rattle.item_laws.proofs.AreaReads.{counts_open}
use Rattle.item_store.specs.OnSector.{Ignores}
use Rattle.item_store.specs.SectorFormat.{SectorFormat}

module _ (k : SectorFormat) (sectors : List (List ℕ)) (current : ℕ) where
  pub each-counts : (place : ℕ) → is_closed_at k.reading sectors (next sectors current) ≡ false → counts_at k.reading sectors current place ≡ true
  each-counts place shut = sym (counts_open k.reading sectors current place shut)

  -- each but one counts
  pub other-counts : (ignored place : ℕ) → Ignores k sectors current (Some ignored) → not (eqb place ignored) ≡ counts_at k.reading sectors current place
  other-counts ignored place is =
      ap (λ (j : ℕ). not (eqb place j)) is.1
      ∙ sym (ap (λ (t : Bool). not (t && eqb place (ignored_place k.reading sectors current))) is.0)

  -- it is the one that does not
  pub passed-over : (o : Option ℕ) (place : ℕ) → Ignores k sectors current o → option_eq eqb o (Some place) ≡ true → counts_at k.reading sectors current place ≡ false
  passed-over None place is same = absurd (false≢true same)
  passed-over (Some ignored) place is same =
      sym (other-counts ignored place is) ∙ ap not (eq-eqb place ignored (sym (eqb-true ignored place same)))

  pub not-passed : (o : Option ℕ) (place : ℕ) → Ignores k sectors current o → option_eq eqb o (Some place) ≡ false → counts_at k.reading sectors current place ≡ true
  not-passed None place is apart = each-counts place is
  not-passed (Some ignored) place is apart =
      sym (other-counts ignored place is) ∙ ap not (eqb-sym place ignored ∙ apart)
    where
      eqb-sym : (x y : ℕ) → eqb x y ≡ eqb y x
      eqb-sym x y =
          elim (cases_eq x y) [
            | inl one ↦ eq-eqb x y one ∙ sym (eq-eqb y x (sym one))
            | inr two ↦ ne_eqb x y two ∙ sym (ne_eqb y x (λ (e : y ≡ x). two (sym e)))
          ]
