use Rattle.std.proofs.Common.{◌≡◌, ℕ, ◌+◌, ◌<◌, List, length, map, replicate, sym, ap, subst, ◌∙◌, arith}
use Rattle.flash_sim.specs.declared.flash.Bank.{Bank}
use Rattle.flash_sim.specs.Bank.{bank_at, capacity}
use Rattle.flash_sim.specs.Contents.{contents}
use Rattle.text_parts.specs.Parts.{parts}
use Rattle.image_file.specs.Spec.{AddsAll, FirstBad, listed, nothing_listed}
use Rattle.image_file.proofs.ImageLemmas.{contrary}
use Rattle.image_file.proofs.SpecLemmas.{FailsItems, items_exit, listed_image, listed-version}
use Rattle.image_file.specs.Format.{plain_area, version_of}
use Rattle.image_file.specs.Lawful.{IsImage, IsImageBank}
use Rattle.image_file.proofs.spec.read_spec.Goals as goal

pub returns-in_err-items : goal.returns-in_err-items
returns-in_err-items c = items_exit c.args.word.now c.from_residual.result c.in_err-items.field-0.0 c.from_residual.ensures.1 (subst (λ (word : List ℕ). FailsItems word c.in_err-items.field-0.0) c.as_bytes.ensures.value c.in_err-items.ensures)

pub overflow_add-result : goal.overflow_add-result
overflow_add-result c = omega (arith, c.in_ok-items.ensures.few)

pub returns-then-not-has_needed : goal.returns-then-not-has_needed
returns-then-not-has_needed c =
    subst (λ (word : List ℕ). FirstBad nothing_listed (parts 44 word) (c.in_ok-items.items.count + 1)) c.as_bytes.ensures.value
    (c.in_ok-items.ensures.lacking (λ is. contrary c.has_needed.result (c.has_needed.ensures.1 is) c.if-not-has_needed.true))

pub blank_banks-requires : goal.blank_banks-requires
blank_banks-requires c =
    (c.in_ok-items.items.version, subst (λ (bs : List Bank). (i : ℕ) → i < length bs → IsImageBank c.in_ok-items.items.version (bank_at bs i)) (sym c.deref.ensures.value) c.in_ok-items.ensures.lawful.each_bank)

pub returns : goal.returns
returns c =
    let blank : contents c.in_ok-bytes.bytes.items ≡ map (λ (bank : Bank). replicate (capacity bank) 255) c.in_ok-items.items.banks.items = c.in_ok-bytes.ensures ∙ ap (map (λ (bank : Bank). replicate (capacity bank) 255)) c.deref.ensures.value in
    let same : version_of c.in_ok-items.items.areas ≡ c.in_ok-items.items.version = listed-version c.in_ok-items.items.version c.in_ok-items.items.banks.items c.in_ok-items.items.areas c.in_ok-items.ensures.lawful (c.has_needed.ensures.0 c.if-not-has_needed.false) in
    record {
      lawful = subst (λ (v : ℕ). IsImage (record { version = v; banks = c.in_ok-items.items.banks.items; areas = map plain_area c.in_ok-items.items.areas; bytes = contents c.in_ok-bytes.bytes.items })) (sym same) (listed_image c.in_ok-items.items.version c.in_ok-items.items.banks.items c.in_ok-items.items.areas (contents c.in_ok-bytes.bytes.items) c.in_ok-items.ensures.lawful (c.has_needed.ensures.0 c.if-not-has_needed.false) blank);
      items = subst (λ (v : ℕ). AddsAll nothing_listed (parts 44 c.args.word.now) (listed v c.in_ok-items.items.banks.items c.in_ok-items.items.areas)) (sym same)
          (subst (λ (word : List ℕ). AddsAll nothing_listed (parts 44 word) (listed c.in_ok-items.items.version c.in_ok-items.items.banks.items c.in_ok-items.items.areas)) c.as_bytes.ensures.value c.in_ok-items.ensures.items);
      blank = blank;
    }
