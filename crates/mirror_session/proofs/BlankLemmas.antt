-- A blank area in the place of another, as a line.
use Rattle.std.proofs.Common.{◌≡◌, inl, inr, ℕ, zero, suc, ◌+◌, ◌*◌, ◌<◌, ◌≤◌, ◌==◌, ◌&&◌, Bool, true, List, [], ◌∷◌, length, get_or, take, drop, replicate, refl, sym, ap, subst, ◌∙◌, arith}
use Rattle.std.specs.Prelude.{Contains}
use Rattle.std.specs.List.{list_all}
use Rattle.std.proofs.Math.Nat.{mul-le-mul_left}
use Rattle.std.proofs.lemmas.Bool.{cases_eq, and_parts}
use Rattle.std.proofs.lemmas.List.{get_or-set_same, get_or-set_other, length-replicate, length-set}
use Rattle.flash_sim.specs.Bank.{IsLawful, bank_at, capacity}
use Rattle.flash_sim.specs.Device.{Device, bytes_of, overwritten}
use Rattle.flash_map.specs.declared.area.Area.{Area}
use Rattle.flash_map.specs.Area.{IsLawfulArea, sector_size, sectors_of}
use Rattle.flash_map.specs.Lawful.{IsLawfulFor}
use Rattle.flash_map.specs.Sectors.{sectors_from}
use Rattle.flash_map.specs.Touches.{SameOutside}
use Rattle.flash_map.specs.Units.{is_erased}
use Rattle.flash_map.proofs.ErasedBytes.{erased_from}
use Rattle.flash_map.proofs.OneCall.{IsWithin, outside_put}
use Rattle.flash_map.proofs.Sectors.{length-overwritten, range-overwritten}
use Rattle.mirror_session.specs.LineDone.{blanked}

-- ---- one area

in_one : (P : Area → Type 0) (one x : Area) (k : ℕ) → k < 1 → get_or (one ∷ []) k x ≡ x → P one → P x
in_one P one x zero below is first = subst P is first
in_one P one x (suc k) below is first = absurd (omega arith)

pub of_one : (P : Area → Type 0) (one : Area) → P one → (x : Area) → Contains (one ∷ []) x → P x
of_one P one first x there = in_one P one x there.0 there.1 there.2 first

-- ---- bytes

take_nil : (n : ℕ) → take {A = ℕ} n [] ≡ []
take_nil zero = refl
take_nil (suc n) = refl

both_true : (a b : Bool) → a ≡ true → b ≡ true → (a && b) ≡ true
both_true a b one two = ap (λ (x : Bool). x && b) one ∙ two

-- bytes that are erased, in two parts
in_parts : (k j : ℕ) (xs : List ℕ) → is_erased (take (k + j) xs) ≡ true → (is_erased (take k xs) ≡ true) × (is_erased (take j (drop k xs)) ≡ true)
in_parts zero j xs erased = let e : 0 + j ≡ j = omega arith in (refl, subst (λ (n : ℕ). is_erased (take n xs) ≡ true) e erased)
in_parts (suc k) j [] erased = (refl, ap is_erased (take_nil j))
in_parts (suc k) j (x ∷ xs) erased =
    let e : suc k + j ≡ suc (k + j) = omega arith in
    let parts = and_parts (x == 0xFF) (is_erased (take (k + j) xs)) (subst (λ (n : ℕ). is_erased (take n (x ∷ xs)) ≡ true) e erased) in
    let rest = in_parts k j xs parts.1 in
    (both_true (x == 0xFF) (is_erased (take k xs)) parts.0 rest.0, rest.1)

-- whole sectors of such bytes
blank_sectors : (n size : ℕ) (xs : List ℕ) → is_erased (take (n * size) xs) ≡ true → list_all is_erased (sectors_from n size xs) ≡ true
blank_sectors zero size xs erased = refl
blank_sectors (suc n) size xs erased =
    let e : suc n * size ≡ size + n * size = omega arith in
    let parts = in_parts size (n * size) xs (subst (λ (k : ℕ). is_erased (take k xs) ≡ true) e erased) in
    both_true (is_erased (take size xs)) (list_all is_erased (sectors_from n size (drop size xs))) parts.0 (blank_sectors n size (drop size xs) parts.1)

positive : (a b : ℕ) → 0 < a → 0 < b → 0 < a * b
positive zero b some more = absurd (omega (arith, some))
positive (suc a) b some more = omega (arith, more)

module _ (d : Device) (area : Area) (lawful : IsLawful d.banks d.bytes) (lawful_area : IsLawfulFor d.banks area) where
  abbrev is_area : IsLawfulArea d.banks area
  is_area = lawful_area.in_bank

  abbrev from : ℕ
  from = area.first * sector_size d area

  abbrev len : ℕ
  len = area.sectors * sector_size d area

  abbrev erased : List ℕ
  erased = replicate len 0xFF

  erased_len : length erased ≡ len
  erased_len = length-replicate len 0xFF

  pub fits : from + len ≤ length (bytes_of d area.bank)
  fits =
      let whole = lawful.lengths area.bank is_area.has_bank in
      omega (arith, whole, mul-le-mul_left (sector_size d area) is_area.in_bank)

  -- the bytes of all banks stay lawful
  pub blank_lawful : IsLawful d.banks (blanked d area).bytes
  blank_lawful = record {
    each_bank = lawful.each_bank;
    count = length-set d.bytes area.bank (overwritten (bytes_of d area.bank) from erased) ∙ lawful.count;
    lengths = λ i below. elim (cases_eq i area.bank) [
      | inl same ↦
          let there : area.bank < length d.bytes = let c = lawful.count in let h = is_area.has_bank in omega (arith, c, h) in
          ap (λ (k : ℕ). length (get_or (blanked d area).bytes k [])) same
          ∙ ap length (get_or-set_same d.bytes area.bank (overwritten (bytes_of d area.bank) from erased) [] there)
          ∙ length-overwritten (bytes_of d area.bank) from erased (let f = fits in omega (arith, f, erased_len))
          ∙ lawful.lengths area.bank is_area.has_bank
          ∙ sym (ap (λ (k : ℕ). capacity (bank_at d.banks k)) same)
      | inr other ↦ ap length (get_or-set_other d.bytes area.bank i (overwritten (bytes_of d area.bank) from erased) [] other) ∙ lawful.lengths i below
    ];
  }

  within : IsWithin d area (record { bank = area.bank; offset = from }) (length erased)
  within = let f = fits in record {
    has_bank = let c = lawful.count in let h = is_area.has_bank in omega (arith, c, h);
    in_bank = omega (arith, f, erased_len);
    starts = record { same_bank = refl; from = omega arith; below = below };
    ends = omega (arith, erased_len);
  }
    where
      some : 0 < len
      some = let h = lawful_area.at_least in let k = lawful_area.several in positive area.sectors (sector_size d area) (omega (arith, k)) (omega (arith, h))

      below : from < (area.first + area.sectors) * sector_size d area
      below = omega (arith, some)

  -- no byte outside the area changed
  pub outside_blank : SameOutside (area ∷ []) d (blanked d area)
  outside_blank = outside_put d area (record { bank = area.bank; offset = from }) erased 0 within

  -- and the area is blank
  pub is_blank : list_all is_erased (sectors_of (blanked d area) area) ≡ true
  is_blank =
      let there : area.bank < length d.bytes = let c = lawful.count in let h = is_area.has_bank in omega (arith, c, h) in
      let f = fits in
      let bytes : bytes_of (blanked d area) area.bank ≡ overwritten (bytes_of d area.bank) from erased = get_or-set_same d.bytes area.bank (overwritten (bytes_of d area.bank) from erased) [] there in
      ap (λ (l : List ℕ). list_all is_erased (sectors_from area.sectors (sector_size d area) (drop from l))) bytes
      ∙ blank_sectors area.sectors (sector_size d area) (drop from (overwritten (bytes_of d area.bank) from erased))
      (ap (λ (k : ℕ). is_erased (take k (drop from (overwritten (bytes_of d area.bank) from erased)))) (sym erased_len)
      ∙ ap is_erased (range-overwritten (bytes_of d area.bank) from erased (omega (arith, f, erased_len))) ∙ erased_from len)
