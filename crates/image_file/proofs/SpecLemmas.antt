-- Items that are added one after another.
use Rattle.std.proofs.Common.{◌≡◌, inl, inr, ℕ, ◌+◌, ◌-◌, ◌<◌, ◌≤◌, Bool, true, false, Option, Some, None, Result, Ok, Err, List, [], ◌∷◌, ◌++◌, length, get_or, map, take, replicate, refl, sym, ap, subst, ◌∙◌, arith, Bor}
use Rattle.std.specs.Prelude.{IfSome, IsErrAnd}
use Rattle.std.specs.Fmt.{decimal}
use Rattle.std.proofs.lemmas.Bool.{cases_lt}
use Rattle.std.proofs.lemmas.List.{length-append, length-map, get_or-map, map_push, take-append-le, take_all, get_or_append_left, get_or-append_right, length-replicate}
use Rattle.flash_sim.specs.Bank.{bank_at, no_bank, capacity}
use Rattle.flash_sim.specs.declared.flash.Bank.{Bank}
use Rattle.std.proofs.lemmas.List.Elements.{All-nil, All-push}
use Rattle.std.specs.List.{All}
use Rattle.flash_map.specs.Map.{HasVersion}
use Rattle.flash_sim.specs.declared.flash.NoMemory.{NoMemory as OutOfMemory}
use Rattle.flash_map.specs.declared.area.Area.{Area}
use Rattle.image_file.specs.Format.{plain_area, version_of}
use Rattle.image_file.proofs.ReadingLemmas.{plain-versions}
use Rattle.image_file.proofs.ImageLemmas.{first-version}
use Rattle.image_file.specs.Lawful.{IsImage, IsImageBank, IsImageArea, HasNeeded, area_at, no_area}
use Rattle.text_parts.specs.Parts.{parts}
use Rattle.image_file.specs.Spec.{Listed, listed, nothing_listed, version_word, AddsVersion, AddsBank, AddsArea, Adds, FirstBad, IsBankItem, IsAreaItem, FitsItem, bank_word, area_word, bank_words, area_words}
use Rattle.image_file.specs.Items.{IsListed, TakesVersion, TakesBank, TakesListed, TakesFound, TakesItem, ReadsItems, IsAlone}
use Rattle.image_file.specs.Takes.{TakesArea}
use Rattle.image_file.specs.declared.spec.Items.{Items}
use Rattle.image_file.specs.declared.image.SpecFault.{SpecFault}
use Rattle.image_file.specs.declared.image.SpecFault.TheVariants.{BadSpec, NoMemory}
use Rattle.image_file.specs.declared.image.Image.{Image}
use Rattle.image_file.specs.Spec.{ReadsSpec}

same_some : {X : Type 0} (x y : X) → Some x ≡ Some y → x ≡ y
same_some x y is = cc

none_some : {X : Type 0} (x : X) → None ≡ Some x → ⊥
none_some x is = cc

no_areas : (areas : List Area) → map plain_area areas ≡ [] → areas ≡ []
no_areas [] is = refl
no_areas (area ∷ areas) is = cc

differ : (a b c d e f g h i : List ℕ) → a ∷ b ∷ c ∷ d ∷ [] ≡ e ∷ f ∷ g ∷ h ∷ i ∷ [] → ⊥
differ a b c d e f g h i same = cc

pub four_is_five : (bank : Bank) (area : Area) (words : List (List ℕ)) → words ≡ bank_words bank → words ≡ area_words area → ⊥
four_is_five bank area words four five = differ (bank_word bank.kind) (decimal bank.unit) (decimal bank.sector) (decimal bank.count) (area_word area.role) area.label.bytes (decimal area.bank) (decimal area.first) (decimal area.sectors) (sym four ∙ five)

-- numbers of a lawful area are small
pub fits_item : (version : ℕ) (banks : List Bank) (others : List Area) (area : Area) → length banks ≤ 2 → ((i : ℕ) → i < length banks → IsImageBank version (bank_at banks i)) → IsImageArea banks others area → FitsItem area
fits_item version banks others area few each is =
    let count = (each area.bank is.in_bank.has_bank).few in
    record {
      label = is.label;
      bank = omega (arith, is.in_bank.has_bank, few);
      first = omega (arith, is.in_bank.in_bank, count);
      sectors = omega (arith, is.in_bank.in_bank, count);
    }

-- what holds whichever thing an item adds
by_item : {P : Type 0} (item : List ℕ) (old any : Listed) → (AddsVersion old item any → P) → (AddsBank old item any → P) → (AddsArea old item any → P) → Adds old item any → P
by_item item old any version bank area (inl a) = version a
by_item item old any version bank area (inr (inl a)) = bank a
by_item item old any version bank area (inr (inr a)) = area a

pub bank_answer : (version : ℕ) (item : List ℕ) (other : item ≡ version_word → ⊥) (bank : Bank) (old new : List Bank) (areas : List Area) (b : Bool) → IsBankItem item (Some bank) → TakesBank version old new areas bank (Ok b) → TakesItem item (listed version old areas) (listed version new areas) (Ok b)
bank_answer version item other bank old new areas true is takes =
    let none : map plain_area areas ≡ [] = ap (map plain_area) takes.1 in
    inr (inl (record {
      bank = bank;
      words = is.sound;
      lawful = takes.0;
      no_areas = none;
      few = takes.2;
      is = ap (λ (bs : List Bank). record { version = version; banks = bs; areas = map plain_area areas }) takes.3 ∙ ap (λ (l : List Area). record { version = version; banks = old ++ bank ∷ []; areas = l }) none;
    }))
bank_answer version item other bank old new areas false is takes = λ any adds. by_item item (listed version old areas) any (λ a. other a.word) (λ a.
    let same : bank ≡ a.bank = same_some bank a.bank (is.only version a.bank a.lawful a.words) in
    takes.0 (subst (IsImageBank version) (sym same) a.lawful) (no_areas areas a.no_areas) a.few) (λ a. four_is_five bank a.area (parts 47 item) is.sound a.words) adds

pub area_answer : (version : ℕ) (item : List ℕ) (other : item ≡ version_word → ⊥) (area : Area) (banks : List Bank) (old new : List Area) (b : Bool) → length banks ≤ 2 → ((i : ℕ) → i < length banks → IsImageBank version (bank_at banks i)) → IsBankItem item None → IsAreaItem version item (Some area) → TakesListed banks old new area (Ok b) → TakesItem item (listed version banks old) (listed version banks new) (Ok b)
area_answer version item other area banks old new true few each none is takes =
    inr (inr (record {
      area = plain_area area;
      plain = refl;
      words = is.sound.0;
      version = is.sound.2;
      lawful = takes.0;
      few = omega (arith, takes.1, length-map old plain_area);
      alone = takes.2;
      is = ap (λ (l : List Area). record { version = version; banks = banks; areas = l }) (ap (map plain_area) takes.3 ∙ map_push plain_area old area);
    }))
area_answer version item other area banks old new false few each none is takes = λ any adds. by_item item (listed version banks old) any (λ a. other a.word) (λ a. none_some a.bank (none.only version a.bank a.lawful a.words)) (λ a.
    let same : plain_area area ≡ a.area = same_some (plain_area area) a.area (is.only a.area (fits_item version banks (map plain_area old) a.area few each a.lawful) a.version a.plain a.words) in
    takes.0 (subst (λ (x : Area). IsImageArea banks (map plain_area old) x) (sym same) a.lawful) (omega (arith, a.few, length-map old plain_area)) (subst (λ (x : Area). IsAlone (map plain_area old) x) (sym same) a.alone)) adds

pub no_answer : (version : ℕ) (item : List ℕ) (other : item ≡ version_word → ⊥) (banks : List Bank) (old : List Area) → length banks ≤ 2 → ((i : ℕ) → i < length banks → IsImageBank version (bank_at banks i)) → IsBankItem item None → IsAreaItem version item None → (any : Listed) → Adds (listed version banks old) item any → ⊥
no_answer version item other banks old few each none without any adds = by_item item (listed version banks old) any (λ a. other a.word) (λ a. none_some a.bank (none.only version a.bank a.lawful a.words))
    (λ a. none_some a.area (without.only a.area (fits_item version banks (map plain_area old) a.area few each a.lawful) a.version a.plain a.words)) adds

listed_answer : (banks : List Bank) (old new : List Area) (area : Area) (b : Bool) → length old < 8 → IsAlone (map plain_area old) area → TakesArea banks old new area (Ok b) → TakesListed banks old new area (Ok b)
listed_answer banks old new area true few alone takes = (takes.0, few, alone, takes.1)
listed_answer banks old new area false few alone takes = (λ is few alone. takes.0 is, takes.1)

pub listed_result : (banks : List Bank) (old new : List Area) (area : Area) (result : Result Bool OutOfMemory) → length old < 8 → IsAlone (map plain_area old) area → TakesArea banks old new area result → TakesListed banks old new area result
listed_result banks old new area (Ok b) few alone takes = listed_answer banks old new area b few alone takes
listed_result banks old new area (Err e) few alone takes = tt

abbrev answered : Bool → Result Bool OutOfMemory
answered b = Ok b

false_is : (b : Bool) → answered b ≡ answered false → b ≡ false
false_is b is = cc

pub found_answer : (version : ℕ) (item : List ℕ) (other : item ≡ version_word → ⊥) (old_banks banks : List Bank) (old_areas areas : List Area) (bank : Option Bank) (area : Option Area) (b : Bool) → IsListed (listed version old_banks old_areas) → IsBankItem item bank → IsAreaItem version item area → TakesFound version old_banks banks old_areas areas bank area (Ok b) → TakesItem item (listed version old_banks old_areas) (listed version banks areas) (Ok b)
found_answer version item other old_banks banks old_areas areas (Some bank) area b lawful is_bank is_area takes =
    subst (λ (l : List Area). TakesItem item (listed version old_banks old_areas) (listed version banks l) (Ok b)) (sym takes.1) (bank_answer version item other bank old_banks banks old_areas b is_bank takes.0)
found_answer version item other old_banks banks old_areas areas None (Some area) b lawful is_bank is_area takes =
    subst (λ (l : List Bank). TakesItem item (listed version old_banks old_areas) (listed version l areas) (Ok b)) (sym takes.1) (area_answer version item other area old_banks old_areas areas b lawful.few_banks lawful.each_bank is_bank is_area takes.0)
found_answer version item other old_banks banks old_areas areas None None b lawful is_bank is_area takes =
    subst (λ (x : Bool). TakesItem item (listed version old_banks old_areas) (listed version banks areas) (Ok x)) (sym (false_is b takes)) (λ any adds. no_answer version item other old_banks old_areas lawful.few_banks lawful.each_bank is_bank is_area any adds)

-- the item that names the version is one word
pub version_answer : (item : List ℕ) (old new : Listed) (b : Bool) → item ≡ version_word → TakesVersion old new b → TakesItem item old new (Ok b)
version_answer item old new true word takes = inl (record { word = word; first = takes.0; is = takes.1 })
version_answer item old new false word takes = λ any adds. by_item item old any (λ a. takes a.first)
    (λ a. let many = ap length (sym (ap (parts 47) word) ∙ a.words) in absurd (omega arith))
    (λ a. let many = ap length (sym (ap (parts 47) word) ∙ a.words) in absurd (omega arith)) adds

-- one more item
last_zero : (i n : ℕ) → n ≤ i → i < n + 1 → i - n ≡ 0
last_zero i n least below = omega arith

pub adds_listed : (old new : Listed) (item : List ℕ) → IsListed old → Adds old item new → IsListed new
adds_listed old new item l (inl a) = subst IsListed (sym a.is) (record { version = inr refl; few_banks = omega arith; each_bank = λ i below. absurd (omega (arith, below)); few_areas = omega arith; versions = All-nil (HasVersion 2); each_area = λ i below. absurd (omega (arith, below)); plain = refl })
adds_listed old new item l (inr (inl a)) = subst IsListed (sym a.is) (record {
  version = l.version;
  versions = All-nil (HasVersion old.version);
  few_banks = omega (arith, a.few, length-append old.banks (a.bank ∷ []));
  each_bank = λ i below. elim (cases_lt i (length old.banks)) [
    | inl lt ↦ subst (IsImageBank old.version) (sym (get_or_append_left old.banks (a.bank ∷ []) no_bank i lt)) (l.each_bank i lt)
    | inr le ↦ subst (IsImageBank old.version) (sym (get_or-append_right old.banks (a.bank ∷ []) (length old.banks) i no_bank refl le ∙ ap (λ (k : ℕ). get_or (a.bank ∷ []) k no_bank) (last_zero i (length old.banks) le (omega (arith, below, length-append old.banks (a.bank ∷ [])))))) a.lawful
  ];
  few_areas = omega arith;
  each_area = λ i below. absurd (omega (arith, below));
  plain = refl;
})
adds_listed old new item l (inr (inr a)) = subst IsListed (sym a.is) (record {
  version = l.version;
  versions = All-push (HasVersion old.version) old.areas a.area l.versions a.version;
  few_banks = l.few_banks;
  each_bank = l.each_bank;
  few_areas = omega (arith, a.few, length-append old.areas (a.area ∷ []));
  each_area = λ i below. elim (cases_lt i (length old.areas)) [
    | inl lt ↦ subst (λ (x : Area). IsImageArea old.banks (take i (old.areas ++ a.area ∷ [])) x) (sym (get_or_append_left old.areas (a.area ∷ []) no_area i lt))
        (subst (λ (xs : List Area). IsImageArea old.banks xs (area_at old.areas i)) (sym (take-append-le i old.areas (a.area ∷ []) (omega (arith, lt)))) (l.each_area i lt))
    | inr le ↦
        let prefix : take i (old.areas ++ a.area ∷ []) ≡ old.areas = take-append-le i old.areas (a.area ∷ []) (omega (arith, below, length-append old.areas (a.area ∷ []))) ∙ take_all i old.areas le in
        subst (λ (x : Area). IsImageArea old.banks (take i (old.areas ++ a.area ∷ [])) x) (sym (get_or-append_right old.areas (a.area ∷ []) (length old.areas) i no_area refl le ∙ ap (λ (k : ℕ). get_or (a.area ∷ []) k no_area) (last_zero i (length old.areas) le (omega (arith, below, length-append old.areas (a.area ∷ []))))))
        (subst (λ (xs : List Area). IsImageArea old.banks xs a.area) (sym prefix) a.lawful)
  ];
  plain = map_push plain_area old.areas a.area ∙ ap (λ (xs : List Area). xs ++ plain_area a.area ∷ []) l.plain ∙ ap (λ (x : Area). old.areas ++ x ∷ []) a.plain;
})

pub adds_count : (old new : Listed) (item : List ℕ) → Adds old item new → length new.banks + length new.areas + new.version ≡ length old.banks + length old.areas + old.version + 1
adds_count old new item (inl a) =
    let before : length old.banks + length old.areas + old.version ≡ 1 = ap (λ (l : Listed). length l.banks + length l.areas + l.version) a.first in
    let after : length new.banks + length new.areas + new.version ≡ 2 = ap (λ (l : Listed). length l.banks + length l.areas + l.version) a.is in
    omega arith
adds_count old new item (inr (inl a)) =
    let one : length new.banks + length new.areas + new.version ≡ length (old.banks ++ a.bank ∷ []) + 0 + old.version = ap (λ (l : Listed). length l.banks + length l.areas + l.version) a.is in
    omega (arith, one, length-append old.banks (a.bank ∷ []), ap length a.no_areas)
adds_count old new item (inr (inr a)) =
    let one : length new.banks + length new.areas + new.version ≡ length old.banks + length (old.areas ++ a.area ∷ []) + old.version = ap (λ (l : Listed). length l.banks + length l.areas + l.version) a.is in
    omega (arith, one, length-append old.areas (a.area ∷ []))

pub nothing_lawful : IsListed nothing_listed
nothing_lawful = record { version = inl refl; versions = All-nil (HasVersion 1); few_banks = omega arith; each_bank = λ i below. absurd (omega (arith, below)); few_areas = omega arith; each_area = λ i below. absurd (omega (arith, below)); plain = refl }

pub item_taken : (item : List ℕ) (old new : Listed) (b : Bool) → b ≡ true → TakesItem item old new (Ok b) → Adds old item new
item_taken item old new true is takes = takes
item_taken item old new false is takes = absurd cc

pub item_refused : (item : List ℕ) (old new : Listed) (b : Bool) → b ≡ false → TakesItem item old new (Ok b) → (any : Listed) → Adds old item any → ⊥
item_refused item old new true is takes = absurd cc
item_refused item old new false is takes = takes

pub refused_more : (all items : List (List ℕ)) (item : List ℕ) (old mid : Listed) (n : ℕ) → Adds old item mid → ((k : ℕ) → FirstBad old (item ∷ items) k → FirstBad nothing_listed all (n + k)) → (k : ℕ) → FirstBad mid items k → FirstBad nothing_listed all (n + 1 + k)
refused_more all items item old mid n adds refused k bad =
    let same : n + (1 + k) ≡ n + 1 + k = omega arith in
    subst (FirstBad nothing_listed all) same (refused (1 + k) (inr (mid, adds, k, refl, bad)))

-- how much text is left
abbrev pub left : Option (Bor (List ℕ)) → ℕ
left None = 0
left (Some text) = length text.now + 1

pub left_shorter : (rest : Option (Bor (List ℕ))) (text : List ℕ) → IfSome rest (λ r. length r.now < length text) → left rest < length text + 1
left_shorter None text shorter = omega arith
left_shorter (Some r) text shorter = omega (arith, shorter)

-- the exits of a `?`
abbrev pub OnlyMemory : SpecFault → Type 0
OnlyMemory (BadSpec n) = ⊥
OnlyMemory NoMemory = Unit {0}

pub memory_exit : (word : List ℕ) (r : Result Items SpecFault) (fault : SpecFault) → IsErrAnd r (λ y. y ≡ fault) → OnlyMemory fault → ReadsItems word r
memory_exit word (Ok x) fault is only = absurd is
memory_exit word (Err y) (BadSpec n) is only = absurd only
memory_exit word (Err y) NoMemory is only = subst (λ (f : SpecFault). ReadsItems word (Err f)) (sym is) tt

abbrev pub FailsItems : List ℕ → SpecFault → Type 0
FailsItems word (BadSpec n) = FirstBad nothing_listed (parts 44 word) n
FailsItems word NoMemory = Unit {0}

pub items_exit : (word : List ℕ) (r : Result Image SpecFault) (fault : SpecFault) → IsErrAnd r (λ y. y ≡ fault) → FailsItems word fault → ReadsSpec word r
items_exit word (Ok x) fault is fails = absurd is
items_exit word (Err y) (BadSpec n) is fails = subst (λ (f : SpecFault). ReadsSpec word (Err f)) (sym is) fails
items_exit word (Err y) NoMemory is fails = subst (λ (f : SpecFault). ReadsSpec word (Err f)) (sym is) tt

-- banks and areas that were added one after another are those of an image
pub listed_image : (version : ℕ) (banks : List Bank) (areas : List Area) (copies : List (List ℕ)) → IsListed (listed version banks areas) → HasNeeded (map plain_area areas) → copies ≡ map (λ bank. replicate (capacity bank) 255) banks → IsImage (record { version = version; banks = banks; areas = map plain_area areas; bytes = copies })
listed_image version banks areas copies l needed is =
    let first : 0 < length (map plain_area areas) = omega (arith, needed.some_store) in
    let a_bank = (l.each_area 0 first).in_bank.has_bank in
    record {
      version = l.version;
      versions = l.versions;
      some_banks = omega (arith, a_bank);
      few_banks = l.few_banks;
      each_bank = l.each_bank;
      some_areas = omega (arith, first);
      few_areas = l.few_areas;
      each_area = l.each_area;
      plain = l.plain;
      needed = needed;
      count = ap length is ∙ length-map banks (λ bank. replicate (capacity bank) 255);
      lengths = λ i below.
          ap (λ (c : List (List ℕ)). length (get_or c i [])) is
          ∙ ap length (get_or-map (λ bank. replicate (capacity bank) 255) banks i no_bank [] below)
          ∙ length-replicate {A = ℕ} (capacity (bank_at banks i)) 255;
    }

pub listed-version : (version : ℕ) (banks : List Bank) (areas : List Area) → IsListed (listed version banks areas) → HasNeeded (map plain_area areas) → version_of areas ≡ version
listed-version version banks areas l needed = first-version version areas (let many = length-map areas plain_area in omega (arith, needed.some_store)) (plain-versions version areas l.versions)

-- an area that an item describes has the version of those before it
pub found_versions : (version : ℕ) (item : List ℕ) (area : Option Area) (areas : List Area) → IsAreaItem version item area → All (HasVersion version) (map plain_area areas) → IfSome area (λ a. All (HasVersion a.version) areas)
found_versions version item None areas is all = tt
found_versions version item (Some area) areas is all = subst (λ (v : ℕ). All (HasVersion v) areas) (sym is.sound.2) (plain-versions version areas all)
