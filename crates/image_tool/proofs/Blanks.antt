-- The blank images on which generated scripts run.
use Rattle.std.proofs.Common.{◌≡◌, ◌<◌, ℕ, zero, suc, false, List, [], ◌∷◌, length, take, replicate, arith, inl, inr, refl, sym, subst}
use Rattle.std.specs.Prelude.{All, codes, count_by, slice_index_or}
use Rattle.std.specs.Fmt.{digits}
use Rattle.std.proofs.lemmas.List.{length-replicate}
use Rattle.text_parts.specs.Parts.{parts}
use Rattle.flash_sim.specs.Bank.{bank_at, capacity}
use Rattle.flash_sim.specs.declared.flash.Bank.{Bank}
use Rattle.flash_sim.specs.declared.flash.Kind.{Kind}
use Rattle.flash_sim.specs.declared.flash.Kind.TheVariants.{Erasing, Rewritable}
use Rattle.flash_map.specs.Map.{HasVersion}
use Rattle.flash_map.specs.Units.{IsUnit}
use Rattle.flash_map.specs.declared.area.Area.{Area}
use Rattle.flash_map.specs.declared.area.Role.{Role}
use Rattle.flash_map.specs.declared.area.Role.TheVariants.{Nvs, Zms, Fcb}
use Rattle.command_words.specs.declared.commands.StoreKind.{StoreKind}
use Rattle.command_words.specs.declared.commands.StoreKind.TheVariants as store
use Rattle.image_file.specs.Format.{Plain}
use Rattle.image_file.specs.Lawful.{HasNeeded, IsImage, IsImageArea, IsImageBank, StandsOn, area_at, is_sel, is_selector}
use Rattle.image_file.specs.Spec.{AddsAll, IsSpec, area_words, bank_words, nothing_listed}
use Rattle.image_file.proofs.OneSpecLemmas.{no_bad_item}
use Rattle.image_jobs.specs.Inputs.{blank_spec}
use Rattle.image_tool.specs.Complete.{BlanksAreLawful, BlanksAreNotRefused}

-- four sectors of 4,096 bytes
abbrev blank_bank : Kind → ℕ → Bank
blank_bank kind unit = record { kind = kind; unit = unit; sector = 4096; count = 4 }

-- all of them
abbrev blank_area : Role → Area
blank_area role = record { label = record { bytes = codes "main"; spare = [] }; role = role; bank = 0; first = 0; sectors = 4; version = 1 }

abbrev blank : Kind → ℕ → Role → Plain
blank kind unit role =
    record { version = 1; banks = blank_bank kind unit ∷ []; areas = blank_area role ∷ []; bytes = replicate (capacity (blank_bank kind unit)) 255 ∷ [] }

module _ (kind : Kind) (unit : ℕ) (role : Role) (is_unit : IsUnit unit) (stores : is_sel role ≡ false) (stands : StandsOn role (blank_bank kind unit)) where
  is_bank : IsImageBank 1 (blank_bank kind unit)
  is_bank = record {
    unit = is_unit;
    at_least = omega arith;
    long_values = λ two. absurd (omega (arith, two));
    at_most = omega arith;
    whole = refl;
    some = omega arith;
    few = omega arith;
  }

  is_area : IsImageArea (blank_bank kind unit ∷ []) [] (blank_area role)
  is_area = record {
    label = record { some = omega arith; few = omega arith; each = refl };
    in_bank = record { has_bank = omega arith; some = omega arith; in_bank = omega arith };
    stands = stands;
    new = record { label = refl; apart = refl };
  }

  no_selector : count_by is_selector (blank_area role ∷ []) ≡ 0
  no_selector = grind (arith, stores)

  needed : HasNeeded (blank_area role ∷ [])
  needed = record {
    some_store = omega (arith, no_selector);
    one_selector = omega (arith, no_selector);
    selector = λ two. absurd (omega (arith, no_selector, two));
  }

  versions : All (HasVersion 1) (blank_area role ∷ [])
  versions zero d below = refl
  versions (suc k) d below = absurd (omega (arith, below))

  each_bank : (i : ℕ) → i < 1 → IsImageBank 1 (bank_at (blank_bank kind unit ∷ []) i)
  each_bank zero below = is_bank
  each_bank (suc i) below = absurd (omega (arith, below))

  each_area : (i : ℕ) → i < 1 → IsImageArea (blank_bank kind unit ∷ []) (take i (blank_area role ∷ [])) (area_at (blank_area role ∷ []) i)
  each_area zero below = is_area
  each_area (suc i) below = absurd (omega (arith, below))

  lengths : (i : ℕ) → i < 1 → length (slice_index_or (blank kind unit role).bytes i []) ≡ capacity (bank_at (blank_bank kind unit ∷ []) i)
  lengths zero below = length-replicate {A = ℕ} (capacity (blank_bank kind unit)) 255
  lengths (suc i) below = absurd (omega (arith, below))

  is_image : IsImage (blank kind unit role)
  is_image = record {
    version = inl refl;
    some_banks = omega arith;
    few_banks = omega arith;
    each_bank = each_bank;
    some_areas = omega arith;
    few_areas = omega arith;
    versions = versions;
    each_area = each_area;
    plain = refl;
    needed = needed;
    count = refl;
    lengths = lengths;
  }

  module _ (bank area : List ℕ) (bank_is : parts 47 bank ≡ bank_words (blank_bank kind unit)) (area_is : parts 47 area ≡ area_words (blank_area role)) where
    adds : AddsAll nothing_listed (bank ∷ area ∷ []) (record { version = 1; banks = blank_bank kind unit ∷ []; areas = blank_area role ∷ [] })
    adds = (
      record { version = 1; banks = blank_bank kind unit ∷ []; areas = [] },
      inr (inl (record { bank = blank_bank kind unit; words = bank_is; lawful = is_bank; no_areas = refl; few = omega arith; is = refl })),
      (
        record { version = 1; banks = blank_bank kind unit ∷ []; areas = blank_area role ∷ [] },
        inr (inr (record { area = blank_area role; plain = refl; words = area_is; version = refl; lawful = is_area; few = omega arith; alone = λ is. refl; is = refl })),
        refl,
      ),
    )

    is_spec : (word : List ℕ) → parts 44 word ≡ bank ∷ area ∷ [] → IsSpec word (blank kind unit role)
    is_spec word are =
        record {
          lawful = is_image;
          items = subst (λ (items : List (List ℕ)). AddsAll nothing_listed items (record { version = 1; banks = blank_bank kind unit ∷ []; areas = blank_area role ∷ [] })) (sym are) adds;
          blank = refl;
        }

-- the one of each kind of store
abbrev pub blank_of : StoreKind → Plain
blank_of store.Nvs = blank Erasing 4 Nvs
blank_of store.Zms = blank Rewritable 16 Zms
blank_of store.Fcb = blank Erasing 4 Fcb

spec_of : (kind : StoreKind) → IsSpec (blank_spec kind) (blank_of kind)
unfolding digits
spec_of store.Nvs =
    is_spec Erasing 4 Nvs (inl refl) refl refl (codes "bank=erasing/4/4096/4") (codes "area=nvs/main/0/0/4") refl refl (blank_spec store.Nvs) refl
spec_of store.Zms =
    is_spec Rewritable 16 Zms (inr (inr refl)) refl refl (codes "bank=rewritable/16/4096/4") (codes "area=zms/main/0/0/4") refl refl (blank_spec store.Zms) refl
spec_of store.Fcb =
    is_spec Erasing 4 Fcb (inl refl) refl refl (codes "bank=erasing/4/4096/4") (codes "area=fcb/main/0/0/4") refl refl (blank_spec store.Fcb) refl

pub blanks_are_lawful : BlanksAreLawful
blanks_are_lawful kind = (blank_of kind, spec_of kind)

pub blanks_are_not_refused : BlanksAreNotRefused
blanks_are_not_refused kind host refusal lacks = no_bad_item (blank_spec kind) (blank_of kind) lacks.1 (spec_of kind) lacks.2
