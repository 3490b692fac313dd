-- Numbers in decimal.
use Rattle.std.proofs.Common.{refl, ◌∷◌, [], get_or, length, ap, Option, Some, None, inl, inr, ◌≡◌, ℕ, ◌^◌, ◌<◌, List, sym, ◌∙◌, subst, arith}
use Rattle.std.specs.Prelude.{MatchOption, IfSome}
use Rattle.std.specs.Option.{option_map}
use Rattle.std.specs.Fmt.{decimal}
use Rattle.std.proofs.lemmas.Fmt.{decimal_injective}
use Rattle.text_parts.specs.Numbers.{IsNoNumber}
use Rattle.arrayvec.specs.ArrayString.{ArrayString}
use Rattle.flash_sim.specs.declared.flash.Bank.{Bank}
use Rattle.flash_sim.specs.declared.flash.Kind.{Kind}
use Rattle.flash_map.specs.Units.{IsUnit}
use Rattle.flash_map.specs.declared.area.Area.{Area}
use Rattle.flash_map.specs.declared.area.Role.{Role}
use Rattle.image_file.specs.Format.{plain_area}
use Rattle.image_file.specs.Lawful.{IsLabel}
use Rattle.text_parts.specs.Parts.{parts}
use Rattle.image_file.specs.Spec.{IsNumber, IsBankKind, IsRole, IsBankItem, IsAreaItem, bank_word, area_word, bank_words, area_words, bank_from, area_from}

-- what was read is the only number that the word is
pub number_is : (word : List ℕ) (found : Option ℕ) → MatchOption found (IsNoNumber (2 ^ 32) word) (λ n. (word ≡ decimal n) × (n < 2 ^ 32)) → IsNumber word found
number_is word None none = record { sound = tt; only = λ n small is. absurd (none n small is) }
number_is word (Some m) is = record {
  sound = is.0;
  only = λ n small other. ap Some (decimal_injective m n (omega (arith, is.1)) (omega arith) (sym is.0 ∙ other));
}

pub first_of_four : (a b c d e f g h : List ℕ) → a ∷ b ∷ c ∷ d ∷ [] ≡ e ∷ f ∷ g ∷ h ∷ [] → (a ≡ e) × (b ≡ f) × (c ≡ g) × (d ≡ h)
first_of_four a b c d e f g h is = (ap (λ (l : List (List ℕ)). get_or l 0 []) is, ap (λ (l : List (List ℕ)). get_or l 1 []) is, ap (λ (l : List (List ℕ)). get_or l 2 []) is, ap (λ (l : List (List ℕ)). get_or l 3 []) is)

pub small_unit : (unit : ℕ) → IsUnit unit → unit < 2 ^ 32
small_unit unit (inl is) = omega arith
small_unit unit (inr (inl is)) = omega arith
small_unit unit (inr (inr is)) = omega arith

module _ (item w0 w1 w2 w3 : List ℕ) (words : parts 47 item ≡ w0 ∷ w1 ∷ w2 ∷ w3 ∷ []) where
  bank_sound : (kind : Option Kind) (unit sector count : Option ℕ) → IsBankKind w0 kind → IsNumber w1 unit → IsNumber w2 sector → IsNumber w3 count → IfSome (bank_from kind unit sector count) (λ bank. parts 47 item ≡ bank_words bank)
  bank_sound (Some kind) (Some unit) (Some sector) (Some count) k u s n =
      words ∙ ap (λ (w : List ℕ). w ∷ w1 ∷ w2 ∷ w3 ∷ []) k.sound ∙ ap (λ (w : List ℕ). bank_word kind ∷ w ∷ w2 ∷ w3 ∷ []) u.sound
      ∙ ap (λ (w : List ℕ). bank_word kind ∷ decimal unit ∷ w ∷ w3 ∷ []) s.sound ∙ ap (λ (w : List ℕ). bank_word kind ∷ decimal unit ∷ decimal sector ∷ w ∷ []) n.sound
  bank_sound (Some kind) (Some unit) (Some sector) None k u s n = tt
  bank_sound (Some kind) (Some unit) None count k u s n = tt
  bank_sound (Some kind) None sector count k u s n = tt
  bank_sound None unit sector count k u s n = tt

  pub bank_item_is : (kind : Option Kind) (unit sector count : Option ℕ) (found : Option Bank) → IsBankKind w0 kind → IsNumber w1 unit → IsNumber w2 sector → IsNumber w3 count → found ≡ bank_from kind unit sector count → IsBankItem item found
  bank_item_is kind unit sector count found k u s n is = record {
    sound = subst (λ (f : Option Bank). IfSome f (λ bank. parts 47 item ≡ bank_words bank)) (sym is) (bank_sound kind unit sector count k u s n);
    only = λ version bank lawful other.
        let four = first_of_four w0 w1 w2 w3 (bank_word bank.kind) (decimal bank.unit) (decimal bank.sector) (decimal bank.count) (sym words ∙ other) in
        let is_kind = k.only bank.kind four.0 in
        let is_unit = u.only bank.unit (small_unit bank.unit lawful.unit) four.1 in
        let is_sector = s.only bank.sector (omega (arith, lawful.at_most)) four.2 in
        let is_count = n.only bank.count (omega (arith, lawful.few)) four.3 in
        is ∙ ap (λ (x : Option Kind). bank_from x unit sector count) is_kind ∙ ap (λ (x : Option ℕ). bank_from (Some bank.kind) x sector count) is_unit
        ∙ ap (λ (x : Option ℕ). bank_from (Some bank.kind) (Some bank.unit) x count) is_sector ∙ ap (λ (x : Option ℕ). bank_from (Some bank.kind) (Some bank.unit) (Some bank.sector) x) is_count;
  }

pub no_bank_item : (item : List ℕ) → (length (parts 47 item) ≡ 4 → ⊥) → IsBankItem item None
no_bank_item item not = record { sound = tt; only = λ version bank lawful is. absurd (not (ap length is)) }

pub first_of_five : (a b c d e a' b' c' d' e' : List ℕ) → a ∷ b ∷ c ∷ d ∷ e ∷ [] ≡ a' ∷ b' ∷ c' ∷ d' ∷ e' ∷ [] → (a ≡ a') × (b ≡ b') × (c ≡ c') × (d ≡ d') × (e ≡ e')
first_of_five a b c d e a' b' c' d' e' is = (ap (λ (l : List (List ℕ)). get_or l 0 []) is, ap (λ (l : List (List ℕ)). get_or l 1 []) is, ap (λ (l : List (List ℕ)). get_or l 2 []) is, ap (λ (l : List (List ℕ)). get_or l 3 []) is, ap (λ (l : List (List ℕ)). get_or l 4 []) is)

module _ (item w0 w1 w2 w3 w4 : List ℕ) (words : parts 47 item ≡ w0 ∷ w1 ∷ w2 ∷ w3 ∷ w4 ∷ []) where
  area_sound : (version : ℕ) (role : Option Role) (label : ArrayString) (bank first sectors : Option ℕ) → label.bytes ≡ w1 → IsLabel w1 → IsRole w0 role → IsNumber w2 bank → IsNumber w3 first → IsNumber w4 sectors → IfSome (area_from version role label bank first sectors) (λ area. (parts 47 item ≡ area_words area) × IsLabel area.label.bytes × (area.version ≡ version))
  area_sound version (Some role) label (Some bank) (Some first) (Some sectors) l lawful r b f s = (
    words ∙ ap (λ (w : List ℕ). w ∷ w1 ∷ w2 ∷ w3 ∷ w4 ∷ []) r.sound ∙ ap (λ (w : List ℕ). area_word role ∷ w ∷ w2 ∷ w3 ∷ w4 ∷ []) (sym l)
        ∙ ap (λ (w : List ℕ). area_word role ∷ label.bytes ∷ w ∷ w3 ∷ w4 ∷ []) b.sound ∙ ap (λ (w : List ℕ). area_word role ∷ label.bytes ∷ decimal bank ∷ w ∷ w4 ∷ []) f.sound
        ∙ ap (λ (w : List ℕ). area_word role ∷ label.bytes ∷ decimal bank ∷ decimal first ∷ w ∷ []) s.sound,
    subst IsLabel (sym l) lawful,
    refl,
  )
  area_sound version (Some role) label (Some bank) (Some first) None l lawful r b f s = tt
  area_sound version (Some role) label (Some bank) None sectors l lawful r b f s = tt
  area_sound version (Some role) label None first sectors l lawful r b f s = tt
  area_sound version None label bank first sectors l lawful r b f s = tt

  pub area_item_is : (version : ℕ) (role : Option Role) (label : ArrayString) (bank first sectors : Option ℕ) (found : Option Area) → label.bytes ≡ w1 → IsLabel w1 → IsRole w0 role → IsNumber w2 bank → IsNumber w3 first → IsNumber w4 sectors → found ≡ area_from version role label bank first sectors → IsAreaItem version item found
  area_item_is version role label bank first sectors found l lawful r b f s is = record {
    sound = subst (λ (x : Option Area). IfSome x (λ area. (parts 47 item ≡ area_words area) × IsLabel area.label.bytes × (area.version ≡ version))) (sym is) (area_sound version role label bank first sectors l lawful r b f s);
    only = λ area fits versions plain other.
        let five = first_of_five w0 w1 w2 w3 w4 (area_word area.role) area.label.bytes (decimal area.bank) (decimal area.first) (decimal area.sectors) (sym words ∙ other) in
        let is_role = r.only area.role five.0 in
        let is_bank = b.only area.bank (omega (arith, fits.bank)) five.2 in
        let is_first = f.only area.first (omega (arith, fits.first)) five.3 in
        let is_sectors = s.only area.sectors (omega (arith, fits.sectors)) five.4 in
        let made : found ≡ Some (record { label = label; role = area.role; bank = area.bank; first = area.first; sectors = area.sectors; version = version }) =
        is ∙ ap (λ (x : Option Role). area_from version x label bank first sectors) is_role ∙ ap (λ (x : Option ℕ). area_from version (Some area.role) label x first sectors) is_bank
        ∙ ap (λ (x : Option ℕ). area_from version (Some area.role) label (Some area.bank) x sectors) is_first ∙ ap (λ (x : Option ℕ). area_from version (Some area.role) label (Some area.bank) (Some area.first) x) is_sectors in
        ap (option_map plain_area) made ∙ ap Some (ap (λ (t : List ℕ). record { label = record { bytes = t; spare = [] }; role = area.role; bank = area.bank; first = area.first; sectors = area.sectors; version = version }) (l ∙ five.1) ∙ ap (λ (v : ℕ). record { label = record { bytes = area.label.bytes; spare = [] }; role = area.role; bank = area.bank; first = area.first; sectors = area.sectors; version = v }) (sym versions) ∙ plain);
  }

  pub no_area_label : (version : ℕ) → (IsLabel w1 → ⊥) → IsAreaItem version item None
  no_area_label version not = record {
    sound = tt;
    only = λ area fits versions plain other.
        let five = first_of_five w0 w1 w2 w3 w4 (area_word area.role) area.label.bytes (decimal area.bank) (decimal area.first) (decimal area.sectors) (sym words ∙ other) in
        absurd (not (subst IsLabel (sym five.1) fits.label));
  }

pub no_area_item : (version : ℕ) (item : List ℕ) → (length (parts 47 item) ≡ 5 → ⊥) → IsAreaItem version item None
no_area_item version item not = record { sound = tt; only = λ area fits versions plain is. absurd (not (ap length is)) }
