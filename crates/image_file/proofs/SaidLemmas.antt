-- The fields of a lawful image's file say that image, and are what they must be.
use Rattle.std.proofs.Common.{◌≡◌, ℕ, zero, suc, ◌+◌, ◌*◌, ◌<◌, ◌≤◌, List, [], ◌∷◌, ◌++◌, length, get_or, take, drop, refl, sym, ap, subst, ◌∙◌, append_assoc, arith}
use Rattle.std.specs.List.{flat_map, concat, sum_by}
use Rattle.std.proofs.lemmas.List.{take_at, drop_at, drop-drop, take_all, length-append, get_or-map}
use Rattle.std.proofs.lemmas.List.Sums.{sum_by-cons, sum_by_more_le}
use Rattle.std.proofs.lemmas.List.FromFn.{fill_by_all, take-map-range_with_len}
use Rattle.flash_sim.specs.Bank.{bank_at, no_bank, capacity}
use Rattle.std.proofs.lemmas.List.Elements.{All-get_or}
use Rattle.flash_map.specs.Map.{HasVersion}
use Rattle.flash_sim.specs.declared.flash.Bank.{Bank}
use Rattle.flash_map.specs.declared.area.Area.{Area}
use Rattle.image_file.specs.Format.{Plain, plain_area, bank_text, area_text, file_of}
use Rattle.image_file.specs.Lawful.{IsImage, IsImageBank, IsImageArea, HasNeeded, area_at, no_area}
use Rattle.image_file.specs.Said.{field_at, version_said, bank_said, area_said, bank_count, area_count, bank_place, area_place, all_banks, all_areas, areas_said, contents_place, contents_size, contents_said, image_said}
use Rattle.image_file.specs.Table.{BankAt, AreaAt, ContentsAt, Needed, End, Holds, AllHold, header_rows, rows_of, contents_rows, rows}
use Rattle.image_file.proofs.FieldLemmas.{bank_said-text, area_said-text, length-bank_text, length-area_text}
use Rattle.image_file.proofs.ImageLemmas.{same_image}
use Rattle.image_file.proofs.RowLemmas.{all_rows, AllHold-append, no_fault, one_fault}
use Rattle.image_file.specs.Laws.{OneImage, NotBoth, OneFault}

-- texts of one length, one behind another
module _ {X : Type 0} (text : X → List ℕ) (size : ℕ) (d : X) where
  pub length-texts : (xs : List X) → ((k : ℕ) → k < length xs → length (text (get_or xs k d)) ≡ size) → length (flat_map text xs) ≡ size * length xs
  length-texts [] each = omega arith
  length-texts (x ∷ xs) each = omega (arith, length-append (text x) (flat_map text xs), each 0 (omega arith), length-texts xs (λ k below. each (suc k) (omega arith)))

  pub nth_text : (xs : List X) (rest : List ℕ) (i : ℕ) → ((k : ℕ) → k < length xs → length (text (get_or xs k d)) ≡ size) → i < length xs → take size (drop (size * i) (flat_map text xs ++ rest)) ≡ text (get_or xs i d)
  nth_text [] rest i each below = absurd (omega arith)
  nth_text (x ∷ xs) rest zero each below =
      let nothing : size * 0 ≡ 0 = omega arith in
      ap (λ (n : ℕ). take size (drop n ((text x ++ flat_map text xs) ++ rest))) nothing
      ∙ ap (take size) (append_assoc (text x) (flat_map text xs) rest)
      ∙ take_at (text x) (flat_map text xs ++ rest) size (each 0 (omega arith))
  nth_text (x ∷ xs) rest (suc i) each below =
      let more : size * suc i ≡ size + size * i = omega arith in
      ap (λ (n : ℕ). take size (drop n ((text x ++ flat_map text xs) ++ rest))) more
      ∙ ap (take size) (sym (drop-drop (size * i) size ((text x ++ flat_map text xs) ++ rest)) ∙ ap (λ (l : List ℕ). drop (size * i) (drop size l)) (append_assoc (text x) (flat_map text xs) rest) ∙ ap (drop (size * i)) (drop_at (text x) (flat_map text xs ++ rest) size (each 0 (omega arith))))
      ∙ nth_text xs rest i (λ k below. each (suc k) (omega arith)) (omega arith)

-- copies of the length of their banks, one behind another
sum_of_two : (b : Bank) (bs : List Bank) → sum_by capacity (b ∷ bs) ≡ capacity b + sum_by capacity bs
sum_of_two b bs = sum_by-cons capacity b bs

abbrev AreCopies : List (List ℕ) → List Bank → Type 0
AreCopies copies banks = (length copies ≡ length banks) × ((k : ℕ) → k < length banks → length (get_or copies k []) ≡ capacity (bank_at banks k))

later_copies : (copy : List ℕ) (copies : List (List ℕ)) (b : Bank) (bs : List Bank) → AreCopies (copy ∷ copies) (b ∷ bs) → AreCopies copies bs
later_copies copy copies b bs are = (omega (arith, are.0), λ k below. are.1 (suc k) (omega arith))

length-copies : (copies : List (List ℕ)) (banks : List Bank) → AreCopies copies banks → length (concat copies) ≡ sum_by capacity banks
length-copies [] [] are = refl
length-copies [] (b ∷ bs) are = absurd (omega (arith, are.0))
length-copies (copy ∷ copies) [] are = absurd (omega (arith, are.0))
length-copies (copy ∷ copies) (b ∷ bs) are = omega (arith, length-append copy (concat copies), sum_of_two b bs, are.1 0 (omega arith), length-copies copies bs (later_copies copy copies b bs are))

nth_copy : (copies : List (List ℕ)) (banks : List Bank) (i : ℕ) → AreCopies copies banks → i < length banks → take (capacity (bank_at banks i)) (drop (sum_by capacity (take i banks)) (concat copies)) ≡ get_or copies i []
nth_copy [] [] i are below = absurd (omega arith)
nth_copy [] (b ∷ bs) i are below = absurd (omega (arith, are.0))
nth_copy (copy ∷ copies) [] i are below = absurd (omega arith)
nth_copy (copy ∷ copies) (b ∷ bs) zero are below = take_at copy (concat copies) (capacity b) (are.1 0 (omega arith))
nth_copy (copy ∷ copies) (b ∷ bs) (suc i) are below =
    ap (λ (n : ℕ). take (capacity (bank_at bs i)) (drop n (copy ++ concat copies))) (sum_of_two b (take i bs))
    ∙ ap (take (capacity (bank_at bs i))) (sym (drop-drop (sum_by capacity (take i bs)) (capacity b) (copy ++ concat copies)) ∙ ap (drop (sum_by capacity (take i bs))) (drop_at copy (concat copies) (capacity b) (are.1 0 (omega arith))))
    ∙ nth_copy copies bs i (later_copies copy copies b bs are) (omega arith)

module _ (image : Plain) (is : IsImage image) where
  abbrev file : List ℕ
  file = file_of image

  abbrev all_bytes : List ℕ
  all_bytes = concat image.bytes

  abbrev area_bytes : List ℕ
  area_bytes = flat_map area_text image.areas

  abbrev bank_bytes : List ℕ
  bank_bytes = flat_map bank_text image.banks

  version_reported : version_said file ≡ image.version
  unfolding file_of
  version_reported = refl

  banks_reported : bank_count file ≡ length image.banks
  unfolding file_of
  banks_reported = refl

  areas_reported : area_count file ≡ length image.areas
  unfolding file_of
  areas_reported = refl

  behind_header : drop 8 file ≡ bank_bytes ++ (area_bytes ++ all_bytes)
  unfolding file_of
  behind_header = refl

  length-file : length file ≡ 8 + length bank_bytes + length area_bytes + length all_bytes
  unfolding file_of
  length-file = omega (arith, length-append bank_bytes (area_bytes ++ all_bytes), length-append area_bytes all_bytes)

  length-banks : length bank_bytes ≡ 12 * length image.banks
  length-banks = length-texts bank_text 12 no_bank image.banks (λ k below. length-bank_text (bank_at image.banks k))

  few : (i : ℕ) → i < length image.areas → length (area_at image.areas i).label.bytes ≤ 8
  few i below = (is.each_area i below).label.few

  length-areas : length area_bytes ≡ 16 * length image.areas
  length-areas = length-texts area_text 16 no_area image.areas (λ k below. length-area_text (area_at image.areas k) (few k below))

  bank_field : (i : ℕ) → i < length image.banks → field_at file (bank_place i) 12 ≡ bank_text (bank_at image.banks i)
  bank_field i below =
      ap (take 12) (sym (drop-drop (12 * i) 8 file) ∙ ap (drop (12 * i)) behind_header)
      ∙ nth_text bank_text 12 no_bank image.banks (area_bytes ++ all_bytes) i (λ k below. length-bank_text (bank_at image.banks k)) below

  behind_banks : drop (8 + 12 * length image.banks) file ≡ area_bytes ++ all_bytes
  behind_banks = sym (drop-drop (12 * length image.banks) 8 file) ∙ ap (drop (12 * length image.banks)) behind_header ∙ drop_at bank_bytes (area_bytes ++ all_bytes) (12 * length image.banks) length-banks

  area_field : (i : ℕ) → i < length image.areas → field_at file (area_place file i) 16 ≡ area_text (area_at image.areas i)
  area_field i below =
      let place : area_place file i ≡ (8 + 12 * length image.banks) + 16 * i = omega (arith, banks_reported) in
      ap (λ (n : ℕ). take 16 (drop n file)) place
      ∙ ap (take 16) (sym (drop-drop (16 * i) (8 + 12 * length image.banks) file) ∙ ap (drop (16 * i)) behind_banks)
      ∙ nth_text area_text 16 no_area image.areas all_bytes i (λ k below. length-area_text (area_at image.areas k) (few k below)) below

  bank_again : (i : ℕ) → i < length image.banks → bank_at image.banks i ≡ bank_said (field_at file (bank_place i) 12)
  bank_again i below = sym (ap bank_said (bank_field i below) ∙ bank_said-text image.version (bank_at image.banks i) (is.each_bank i below))

  banks_again : image.banks ≡ all_banks file
  banks_again = fill_by_all (λ i. bank_said (field_at file (bank_place i) 12)) image.banks (bank_count file) no_bank (sym banks_reported) (λ k below. bank_again k (omega (arith, banks_reported)))

  -- an area lies in a bank of at most 64 sectors
  sectors_few : (i : ℕ) → i < length image.areas → (area_at image.areas i).first + (area_at image.areas i).sectors ≤ 64
  sectors_few i below =
      let area = is.each_area i below in
      omega (arith, area.in_bank.in_bank, (is.each_bank (area_at image.areas i).bank area.in_bank.has_bank).few)

  plain_at : (i : ℕ) → i < length image.areas → plain_area (area_at image.areas i) ≡ area_at image.areas i
  plain_at i below = sym (get_or-map plain_area image.areas i no_area no_area below) ∙ ap (λ (l : List Area). area_at l i) is.plain

  area_again : (i : ℕ) → i < length image.areas → area_at image.areas i ≡ area_said (version_said file) (field_at file (area_place file i) 16)
  area_again i below =
      let version : version_said file ≡ (area_at image.areas i).version = version_reported ∙ sym (All-get_or (HasVersion image.version) image.areas i no_area below is.versions) in
      sym (ap (λ (v : ℕ). area_said v (field_at file (area_place file i) 16)) version ∙ ap (area_said (area_at image.areas i).version) (area_field i below) ∙ area_said-text (area_at image.areas i) (few i below) (omega (arith, sectors_few i below)) (omega (arith, sectors_few i below)) ∙ plain_at i below)

  areas_again : image.areas ≡ all_areas file
  areas_again = fill_by_all (λ i. area_said (version_said file) (field_at file (area_place file i) 16)) image.areas (area_count file) no_area (sym areas_reported) (λ k below. area_again k (omega (arith, areas_reported)))

  prefix_again : (i : ℕ) → i < length image.areas → take i image.areas ≡ areas_said file i
  prefix_again i below = ap (take i) areas_again ∙ take-map-range_with_len (λ i. area_said (version_said file) (field_at file (area_place file i) 16)) 0 (area_count file) i (omega (arith, areas_reported))

  copies : AreCopies image.bytes image.banks
  copies = (is.count, is.lengths)

  behind_areas : drop (8 + 12 * length image.banks + 16 * length image.areas) file ≡ all_bytes
  behind_areas = sym (drop-drop (16 * length image.areas) (8 + 12 * length image.banks) file) ∙ ap (drop (16 * length image.areas)) behind_banks ∙ drop_at area_bytes all_bytes (16 * length image.areas) length-areas

  copy_field : (i : ℕ) → i < length image.banks → get_or image.bytes i [] ≡ field_at file (contents_place file i) (contents_size file i)
  copy_field i below =
      let start : area_place file (area_count file) ≡ 8 + 12 * length image.banks + 16 * length image.areas = omega (arith, banks_reported, areas_reported) in
      let place : contents_place file i ≡ (8 + 12 * length image.banks + 16 * length image.areas) + sum_by capacity (take i image.banks) = ap (λ (n : ℕ). n + sum_by capacity (take i (all_banks file))) start ∙ ap (λ (bs : List Bank). (8 + 12 * length image.banks + 16 * length image.areas) + sum_by capacity (take i bs)) (sym banks_again) in
      sym (ap (λ (n : ℕ). take (contents_size file i) (drop n file)) place
      ∙ ap (λ (bs : List Bank). take (capacity (bank_at bs i)) (drop ((8 + 12 * length image.banks + 16 * length image.areas) + sum_by capacity (take i image.banks)) file)) (sym banks_again)
      ∙ ap (take (capacity (bank_at image.banks i))) (sym (drop-drop (sum_by capacity (take i image.banks)) (8 + 12 * length image.banks + 16 * length image.areas) file) ∙ ap (drop (sum_by capacity (take i image.banks))) behind_areas)
      ∙ nth_copy image.bytes image.banks i copies below)

  contents_again : image.bytes ≡ contents_said file (bank_count file)
  contents_again = fill_by_all (λ i. field_at file (contents_place file i) (contents_size file i)) image.bytes (bank_count file) [] (is.count ∙ sym banks_reported) (λ k below. copy_field k (omega (arith, banks_reported)))

  -- the file says the image
  pub said_again : image ≡ image_said file
  said_again = same_image file image.version image.banks image.areas image.bytes (sym version_reported) banks_again areas_again contents_again

  sum_prefix : (i : ℕ) → i < length image.banks → sum_by capacity (take i image.banks) + capacity (bank_at image.banks i) ≤ sum_by capacity image.banks
  sum_prefix i below = sum_by_more_le capacity image.banks i no_bank below

  contents_fit : (i : ℕ) → i < length image.banks → contents_place file i + contents_size file i ≤ length file
  contents_fit i below =
      let prefix : sum_by capacity (take i (all_banks file)) ≡ sum_by capacity (take i image.banks) = ap (λ (bs : List Bank). sum_by capacity (take i bs)) (sym banks_again) in
      let size : contents_size file i ≡ capacity (bank_at image.banks i) = ap (λ (bs : List Bank). capacity (bank_at bs i)) (sym banks_again) in
      omega (arith, prefix, size, sum_prefix i below, length-file, length-banks, length-areas, length-copies image.bytes image.banks copies, banks_reported, areas_reported)

  at_end : length file ≡ contents_place file (bank_count file)
  at_end =
      let all : sum_by capacity (take (bank_count file) (all_banks file)) ≡ sum_by capacity image.banks = ap (λ (bs : List Bank). sum_by capacity (take (bank_count file) bs)) (sym banks_again) ∙ ap (sum_by capacity) (take_all (bank_count file) image.banks (omega (arith, banks_reported))) in
      omega (arith, all, length-file, length-banks, length-areas, length-copies image.bytes image.banks copies, banks_reported, areas_reported)

  bank_holds : (i : ℕ) → i < bank_count file → Holds file (BankAt i)
  bank_holds i below =
      let small : i < length image.banks = omega (arith, banks_reported) in
      record {
        whole = omega (arith, small, length-file, length-banks);
        rule = record {
          spelled = bank_field i small ∙ ap bank_text (bank_again i small);
          lawful = subst (IsImageBank (version_said file)) (bank_again i small) (subst (λ (v : ℕ). IsImageBank v (bank_at image.banks i)) (sym version_reported) (is.each_bank i small));
        };
      }

  area_holds : (i : ℕ) → i < area_count file → Holds file (AreaAt i)
  area_holds i below =
      let small : i < length image.areas = omega (arith, areas_reported) in
      let by_banks : IsImageArea (all_banks file) (take i image.areas) (area_at image.areas i) = subst (λ (bs : List Bank). IsImageArea bs (take i image.areas) (area_at image.areas i)) banks_again (is.each_area i small) in
      let by_prefix : IsImageArea (all_banks file) (areas_said file i) (area_at image.areas i) = subst (λ (l : List Area). IsImageArea (all_banks file) l (area_at image.areas i)) (prefix_again i small) by_banks in
      record {
        whole = omega (arith, small, length-file, length-banks, length-areas, banks_reported);
        rule = record {
          spelled = area_field i small ∙ ap area_text (area_again i small);
          lawful = subst (λ (a : Area). IsImageArea (all_banks file) (areas_said file i) a) (area_again i small) by_prefix;
        };
      }

  copy_holds : (i : ℕ) → i < bank_count file → Holds file (ContentsAt i)
  copy_holds i below = record { whole = contents_fit i (omega (arith, banks_reported)); rule = tt }

  header_holds : AllHold file header_rows
  unfolding file_of
  header_holds = (
    record { whole = omega (arith, length-file); rule = refl },
    (
      record { whole = omega (arith, length-file); rule = is.version },
      (
        record { whole = omega (arith, length-file); rule = (is.some_banks, is.few_banks) },
        (
          record { whole = omega (arith, length-file); rule = (is.some_areas, is.few_areas) },
          (record { whole = omega (arith, length-file); rule = refl }, tt),
        ),
      ),
    ),
  )

  needed_holds : Holds file Needed
  needed_holds = record { whole = omega (arith, length-file, length-banks, length-areas, banks_reported, areas_reported); rule = subst HasNeeded areas_again is.needed }

  -- every field of the file is what it must be
  pub all_hold_again : AllHold file (rows file)
  all_hold_again =
      AllHold-append file header_rows (rows_of BankAt (bank_count file) ++ (rows_of AreaAt (area_count file) ++ Needed ∷ contents_rows file)) header_holds
      (AllHold-append file (rows_of BankAt (bank_count file)) (rows_of AreaAt (area_count file) ++ Needed ∷ contents_rows file) (all_rows file BankAt (bank_count file) bank_holds)
      (AllHold-append file (rows_of AreaAt (area_count file)) (Needed ∷ contents_rows file) (all_rows file AreaAt (area_count file) area_holds)
      (needed_holds, AllHold-append file (rows_of ContentsAt (bank_count file)) (End ∷ []) (all_rows file ContentsAt (bank_count file) copy_holds) (record { whole = omega (arith, at_end); rule = at_end }, tt))))

-- ---- the laws

pub one_image : OneImage
one_image bytes a b is other =
    let from_a : a ≡ image_said bytes = said_again a is.lawful ∙ ap image_said (sym is.is) in
    let from_b : b ≡ image_said bytes = said_again b other.lawful ∙ ap image_said (sym other.is) in
    from_a ∙ sym from_b

pub not_both : NotBoth
not_both bytes image at why is fault = no_fault bytes (rows bytes) at why (subst (λ (b : List ℕ). AllHold b (rows b)) (sym is.is) (all_hold_again image is.lawful)) fault

pub one_first : OneFault
one_first bytes at other why because a b = one_fault bytes (rows bytes) at other why because a b
