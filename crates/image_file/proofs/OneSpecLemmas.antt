-- A word that describes a blank image is read in one way.
use Rattle.std.proofs.Common.{◌≡◌, ◌⊎◌, inl, inr, length, ℕ, ◌+◌, ◌^◌, ◌<◌, ◌==◌, cond, get_or, List, [], ◌∷◌, ◌++◌, map, replicate, refl, sym, ap, subst, ◌∙◌, arith}
use Rattle.std.specs.Fmt.{decimal}
use Rattle.std.proofs.lemmas.Fmt.{decimal_injective}
use Rattle.flash_sim.specs.Bank.{capacity}
use Rattle.flash_sim.specs.declared.flash.Bank.{Bank}
use Rattle.flash_sim.specs.declared.flash.Kind.{Kind}
use Rattle.flash_sim.specs.declared.flash.Kind.TheVariants.{Erasing, Rewritable}
use Rattle.flash_map.specs.declared.area.Area.{Area}
use Rattle.flash_map.specs.declared.area.Role.{Role}
use Rattle.flash_map.specs.declared.area.Role.TheVariants.{Nvs, Zms, Fcb, Sel}
use Rattle.text_parts.specs.Parts.{parts}
use Rattle.image_file.specs.Format.{plain_area}
use Rattle.image_file.specs.Lawful.{IsImageBank, HasNeeded}
use Rattle.image_file.specs.Spec.{Listed, nothing_listed, AddsVersion, AddsBank, AddsArea, Adds, AddsAll, FirstBad, FitsItem, bank_word, area_word, bank_words, area_words}
use Rattle.image_file.specs.Items.{IsListed}
use Rattle.image_file.specs.Laws.{OneBlankImage, NoBadItem, OneBadItem}
use Rattle.image_file.proofs.NumberLemmas.{first_of_four, first_of_five, small_unit}
use Rattle.image_file.proofs.SpecLemmas.{four_is_five, fits_item, adds_listed, nothing_lawful}

one_kind : (a b : Kind) → bank_word a ≡ bank_word b → a ≡ b
one_kind Erasing Erasing same = refl
one_kind Erasing Rewritable same = absurd cc
one_kind Rewritable Erasing same = absurd cc
one_kind Rewritable Rewritable same = refl

-- the letter behind `area=` gives the role
abbrev role_reported : List ℕ → Role
role_reported word = cond (get_or word 5 0 == 110) Nvs (cond (get_or word 5 0 == 122) Zms (cond (get_or word 5 0 == 102) Fcb Sel))

reported_again : (role : Role) → role_reported (area_word role) ≡ role
reported_again Nvs = refl
reported_again Zms = refl
reported_again Fcb = refl
reported_again Sel = refl

one_role : (a b : Role) → area_word a ≡ area_word b → a ≡ b
one_role a b same = sym (reported_again a) ∙ ap role_reported same ∙ reported_again b

one_number : (m n : ℕ) → m < 2 ^ 32 → n < 2 ^ 32 → decimal m ≡ decimal n → m ≡ n
one_number m n small other same = decimal_injective m n (omega (arith, small)) (omega (arith, other)) same

one_bank : (version : ℕ) (a b : Bank) → IsImageBank version a → IsImageBank version b → bank_words a ≡ bank_words b → a ≡ b
one_bank version a b is other same =
    let four = first_of_four (bank_word a.kind) (decimal a.unit) (decimal a.sector) (decimal a.count) (bank_word b.kind) (decimal b.unit) (decimal b.sector) (decimal b.count) same in
    let kind = one_kind a.kind b.kind four.0 in
    let unit = one_number a.unit b.unit (small_unit a.unit is.unit) (small_unit b.unit other.unit) four.1 in
    let sector = one_number a.sector b.sector (omega (arith, is.at_most)) (omega (arith, other.at_most)) four.2 in
    let count = one_number a.count b.count (omega (arith, is.few)) (omega (arith, other.few)) four.3 in
    ap (λ (k : Kind). record { kind = k; unit = a.unit; sector = a.sector; count = a.count }) kind
    ∙ ap (λ (n : ℕ). record { kind = b.kind; unit = n; sector = a.sector; count = a.count }) unit
    ∙ ap (λ (n : ℕ). record { kind = b.kind; unit = b.unit; sector = n; count = a.count }) sector
    ∙ ap (λ (n : ℕ). record { kind = b.kind; unit = b.unit; sector = b.sector; count = n }) count

abbrev area_with : ℕ → List ℕ → Role → ℕ → ℕ → ℕ → Area
area_with version label role bank first sectors = record { label = record { bytes = label; spare = [] }; role = role; bank = bank; first = first; sectors = sectors; version = version }

one_area : (a b : Area) → a.version ≡ b.version → FitsItem a → FitsItem b → plain_area a ≡ a → plain_area b ≡ b → area_words a ≡ area_words b → a ≡ b
one_area a b versions is other plain plain_other same =
    let five = first_of_five (area_word a.role) a.label.bytes (decimal a.bank) (decimal a.first) (decimal a.sectors) (area_word b.role) b.label.bytes (decimal b.bank) (decimal b.first) (decimal b.sectors) same in
    let role = one_role a.role b.role five.0 in
    let bank = one_number a.bank b.bank is.bank other.bank five.2 in
    let first = one_number a.first b.first is.first other.first five.3 in
    let sectors = one_number a.sectors b.sectors is.sectors other.sectors five.4 in
    sym plain
    ∙ ap (λ (v : ℕ). area_with v a.label.bytes a.role a.bank a.first a.sectors) versions
    ∙ ap (λ (l : List ℕ). area_with b.version l a.role a.bank a.first a.sectors) five.1
    ∙ ap (λ (r : Role). area_with b.version b.label.bytes r a.bank a.first a.sectors) role
    ∙ ap (λ (n : ℕ). area_with b.version b.label.bytes b.role n a.first a.sectors) bank
    ∙ ap (λ (n : ℕ). area_with b.version b.label.bytes b.role b.bank n a.sectors) first
    ∙ ap (λ (n : ℕ). area_with b.version b.label.bytes b.role b.bank b.first n) sectors
    ∙ plain_other

-- the item that names the version is one word
not_version : (item : List ℕ) (old any : Listed) {other : Listed} → AddsVersion old item other → AddsBank old item any ⊎ AddsArea old item any → ⊥
not_version item old any x (inl y) = let many = ap length (sym (ap (parts 47) x.word) ∙ y.words) in absurd (omega arith)
not_version item old any x (inr y) = let many = ap length (sym (ap (parts 47) x.word) ∙ y.words) in absurd (omega arith)

-- an item adds one thing at most
one_added : (old a b : Listed) (item : List ℕ) → IsListed old → Adds old item a → Adds old item b → a ≡ b
one_added old a b item l (inl x) (inl y) = x.is ∙ sym y.is
one_added old a b item l (inl x) (inr y) = absurd (not_version item old b x y)
one_added old a b item l (inr x) (inl y) = absurd (not_version item old a y x)
one_added old a b item l (inr (inl x)) (inr (inl y)) =
    x.is ∙ ap (λ (bank : Bank). record { version = old.version; banks = old.banks ++ bank ∷ []; areas = [] }) (one_bank old.version x.bank y.bank x.lawful y.lawful (sym x.words ∙ y.words)) ∙ sym y.is
one_added old a b item l (inr (inl x)) (inr (inr y)) = absurd (four_is_five x.bank y.area (parts 47 item) x.words y.words)
one_added old a b item l (inr (inr x)) (inr (inl y)) = absurd (four_is_five y.bank x.area (parts 47 item) y.words x.words)
one_added old a b item l (inr (inr x)) (inr (inr y)) =
    let fits = fits_item old.version old.banks old.areas x.area l.few_banks l.each_bank x.lawful in
    let fits_too = fits_item old.version old.banks old.areas y.area l.few_banks l.each_bank y.lawful in
    x.is ∙ ap (λ (area : Area). record { version = old.version; banks = old.banks; areas = old.areas ++ area ∷ [] }) (one_area x.area y.area (x.version ∙ sym y.version) fits fits_too x.plain y.plain (sym x.words ∙ y.words)) ∙ sym y.is

all_added : (items : List (List ℕ)) (old a b : Listed) → IsListed old → AddsAll old items a → AddsAll old items b → a ≡ b
all_added [] old a b l x y = x ∙ sym y
all_added (item ∷ items) old a b l x y =
    let same : y.0 ≡ x.0 = one_added old y.0 x.0 item l y.1 x.1 in
    all_added items x.0 a b (adds_listed old x.0 item l x.1) x.2 (subst (λ (mid : Listed). AddsAll mid items b) same y.2)

none_bad : (items : List (List ℕ)) (old new : Listed) (n : ℕ) → IsListed old → AddsAll old items new → HasNeeded new.areas → FirstBad old items n → ⊥
none_bad [] old new n l all needed bad = bad.0 (subst (λ (x : Listed). HasNeeded x.areas) all needed)
none_bad (item ∷ items) old new n l all needed (inl bad) = bad.0 all.0 all.1
none_bad (item ∷ items) old new n l all needed (inr bad) =
    let same : bad.0 ≡ all.0 = one_added old bad.0 all.0 item l bad.1 all.1 in
    none_bad items all.0 new bad.2 (adds_listed old all.0 item l all.1) all.2 needed (subst (λ (mid : Listed). FirstBad mid items bad.2) same bad.4)

one_bad : (items : List (List ℕ)) (old : Listed) (n m : ℕ) → IsListed old → FirstBad old items n → FirstBad old items m → n ≡ m
one_bad [] old n m l x y = x.1 ∙ sym y.1
one_bad (item ∷ items) old n m l (inl x) (inl y) = x.1 ∙ sym y.1
one_bad (item ∷ items) old n m l (inl x) (inr y) = absurd (x.0 y.0 y.1)
one_bad (item ∷ items) old n m l (inr x) (inl y) = absurd (y.0 x.0 x.1)
one_bad (item ∷ items) old n m l (inr x) (inr y) =
    let same : y.0 ≡ x.0 = one_added old y.0 x.0 item l y.1 x.1 in
    let rest : x.2 ≡ y.2 = one_bad items x.0 x.2 y.2 (adds_listed old x.0 item l x.1) x.4 (subst (λ (mid : Listed). FirstBad mid items y.2) same y.4) in
    x.3 ∙ ap (λ (k : ℕ). 1 + k) rest ∙ sym y.3

-- ---- the laws

pub one_blank_image : OneBlankImage
one_blank_image word a b is other =
    let same = all_added (parts 44 word) nothing_listed (record { version = a.version; banks = a.banks; areas = a.areas }) (record { version = b.version; banks = b.banks; areas = b.areas }) nothing_lawful is.items other.items in
    let version : a.version ≡ b.version = ap (λ (l : Listed). l.version) same in
    let banks : a.banks ≡ b.banks = ap (λ (l : Listed). l.banks) same in
    let areas : a.areas ≡ b.areas = ap (λ (l : Listed). l.areas) same in
    let bytes : a.bytes ≡ b.bytes = is.blank ∙ ap (map (λ bank. replicate (capacity bank) 255)) banks ∙ sym other.blank in
    ap (λ (v : ℕ). record { version = v; banks = a.banks; areas = a.areas; bytes = a.bytes }) version
    ∙ ap (λ (bs : List Bank). record { version = b.version; banks = bs; areas = a.areas; bytes = a.bytes }) banks
    ∙ ap (λ (l : List Area). record { version = b.version; banks = b.banks; areas = l; bytes = a.bytes }) areas
    ∙ ap (λ (c : List (List ℕ)). record { version = b.version; banks = b.banks; areas = b.areas; bytes = c }) bytes

pub no_bad_item : NoBadItem
no_bad_item word image n is bad = none_bad (parts 44 word) nothing_listed (record { version = image.version; banks = image.banks; areas = image.areas }) n nothing_lawful is.items is.lawful.needed bad

pub one_bad_item : OneBadItem
one_bad_item word n other a b = one_bad (parts 44 word) nothing_listed n other nothing_lawful a b
