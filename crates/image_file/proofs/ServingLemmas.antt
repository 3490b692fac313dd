-- A lawful image, as the layers below take it.
use Rattle.std.proofs.Common.{◌≡◌, ℕ, ◌%◌, inl, inr, refl, sym, subst, ◌∙◌, arith}
use Rattle.std.proofs.Math.Nat.{mul-le-mul_left}
use Rattle.std.specs.Prelude.{IsTrue, ◌==◌, ◌||◌}
use Rattle.flash_sim.specs.Bank.{IsLawfulBank, bank_at}
use Rattle.flash_sim.specs.declared.flash.Bank.{Bank}
use Rattle.flash_map.specs.declared.area.Role.{Role}
use Rattle.flash_map.specs.declared.area.Role.TheVariants.{Nvs, Zms, Fcb, Sel}
use Rattle.flash_map.specs.Lawful.{HasKind, HasUnit}
use Rattle.flash_map.specs.Units.{IsUnit}
use Rattle.image_file.specs.Lawful.{IsImageBank, StandsOn, area_at, no_area}
use Rattle.std.proofs.lemmas.List.Elements.{All-get_or}
use Rattle.flash_map.specs.Map.{HasVersion}
use Rattle.image_file.specs.Serving.{MayBeLoaded, MayBeServed}

unit_is : (unit : ℕ) → IsUnit unit → IsTrue (unit == 4 || unit == 8 || unit == 16)
unit_is unit (inl is) = subst (λ (n : ℕ). IsTrue (n == 4 || n == 8 || n == 16)) (sym is) refl
unit_is unit (inr (inl is)) = subst (λ (n : ℕ). IsTrue (n == 4 || n == 8 || n == 16)) (sym is) refl
unit_is unit (inr (inr is)) = subst (λ (n : ℕ). IsTrue (n == 4 || n == 8 || n == 16)) (sym is) refl

whole_units : (unit sector : ℕ) → IsUnit unit → sector % 64 ≡ 0 → sector % unit ≡ 0
whole_units unit sector (inl is) whole = subst (λ (n : ℕ). sector % n ≡ 0) (sym is) (omega arith)
whole_units unit sector (inr (inl is)) whole = subst (λ (n : ℕ). sector % n ≡ 0) (sym is) (omega arith)
whole_units unit sector (inr (inr is)) whole = subst (λ (n : ℕ). sector % n ≡ 0) (sym is) (omega arith)

lawful_bank : (version : ℕ) (bank : Bank) → IsImageBank version bank → IsLawfulBank bank
lawful_bank version bank is =
    let most = mul-le-mul_left bank.sector is.few in
    record {
      unit = unit_is bank.unit is.unit;
      whole_units = whole_units bank.unit bank.sector is.unit is.whole;
      sector = omega (arith, is.at_least);
      addressable = omega (arith, most, is.at_most);
    }

kind_is : (role : Role) (bank : Bank) → StandsOn role bank → HasKind role bank.kind
kind_is Nvs bank stands = stands
kind_is Zms bank stands = tt
kind_is Fcb bank stands = stands
kind_is Sel bank stands = stands

unit_for : (role : Role) (bank : Bank) → StandsOn role bank → IsUnit bank.unit → HasUnit role bank.unit
unit_for Nvs bank stands unit = unit
unit_for Zms bank stands unit = stands
unit_for Fcb bank stands unit = unit
unit_for Sel bank stands unit = unit

pub may_be_loaded : MayBeLoaded
may_be_loaded image is = record {
  each_bank = λ i below. lawful_bank image.version (bank_at image.banks i) (is.each_bank i below);
  count = is.count;
  lengths = is.lengths;
}

pub may_be_served : MayBeServed
may_be_served image i is below =
    let area = area_at image.areas i in
    let beside = is.each_area i below in
    let bank = is.each_bank area.bank beside.in_bank.has_bank in
    record {
      in_bank = record { has_bank = beside.in_bank.has_bank; in_bank = beside.in_bank.in_bank };
      kind = kind_is area.role (bank_at image.banks area.bank) beside.stands;
      unit = unit_for area.role (bank_at image.banks area.bank) beside.stands bank.unit;
      at_least = bank.at_least;
      at_most = bank.at_most;
      whole = bank.whole;
      several = beside.in_bank.some;
      few = omega (arith, beside.in_bank.in_bank, bank.few);
      long_values = λ two. bank.long_values (sym (All-get_or (HasVersion image.version) image.areas i no_area below is.versions) ∙ two);
    }
