-- A file of which all fields are what they must be is that of the image that it says.
use Rattle.std.proofs.Common.{◌≡◌, Bool, true, false, ℕ, zero, suc, ◌+◌, ◌-◌, ◌<◌, ◌≤◌, List, [], ◌∷◌, ◌++◌, length, get_or, map, take, drop, refl, sym, ap, subst, ◌∙◌, append_assoc, inl, inr, arith}
use Rattle.std.specs.List.{range_with_len, flat_map, concat}
use Rattle.std.proofs.lemmas.List.{take-append-drop, drop-drop, drop_all, append-nil, length-take, length-drop, get_or-drop}
use Rattle.std.proofs.lemmas.List.Concat.{concat_is}
use Rattle.std.proofs.lemmas.List.FromFn.{length-map-range_with_len, get_or-map-range_with_len, take-map-range_with_len}
use Rattle.flash_sim.specs.Bank.{bank_at, no_bank}
use Rattle.flash_sim.specs.declared.flash.Bank.{Bank}
use Rattle.flash_map.specs.declared.area.Area.{Area}
use Rattle.image_file.specs.Format.{Plain, version_of, plain_area, bank_text, area_text, file_of}
use Rattle.image_file.specs.Lawful.{IsImage, IsImageBank, IsImageArea, HasNeeded, area_at, no_area}
use Rattle.image_file.specs.Said.{field_at, version_said, bank_said, area_said, bank_count, area_count, bank_place, area_place, all_banks, all_areas, areas_said, contents_place, contents_size, contents_said, image_said}
use Rattle.image_file.specs.Table.{Row, BankAt, AreaAt, ContentsAt, Needed, End, Holds, AllHold, FirstFault, header_rows, rows_of, contents_rows, rows}
use Rattle.image_file.specs.Reading.{IsImageFile}
use Rattle.image_file.proofs.FieldLemmas.{first_four}
use Rattle.image_file.proofs.ReadingLemmas.{length-all_banks, contents_next, versions-said, plain-versions}
use Rattle.std.specs.List.{All}
use Rattle.std.proofs.lemmas.List.Elements.{All-head}
use Rattle.std.proofs.lemmas.List.{length-map}
use Rattle.flash_map.specs.Map.{HasVersion}
use Rattle.image_file.proofs.RowLemmas.{AllHold-prefix, AllHold-append, each_row, prefix_fault, later_fault}
use Rattle.image_file.specs.declared.image.ImageWhy.{ImageWhy}
use Rattle.image_file.specs.declared.image.ImageWhy.TheVariants.{BadArea}

-- fields one behind another are texts one behind another
module _ {X : Type 0} (bytes : List ℕ) (place size : ℕ → ℕ) (say : ℕ → X) (text : X → List ℕ) where
  pub pieces : (a n : ℕ) → ((k : ℕ) → a ≤ k → k < a + n → field_at bytes (place k) (size k) ≡ text (say k)) → ((k : ℕ) → a ≤ k → k < a + n → place (k + 1) ≡ place k + size k) → drop (place a) bytes ≡ flat_map text (map say (range_with_len a n)) ++ drop (place (a + n)) bytes
  pieces a zero is next = let e : a ≡ a + 0 = omega arith in ap (λ (k : ℕ). drop (place k) bytes) e
  pieces a (suc n) is next =
      let here = is a (omega arith) (omega arith) in
      let after : place (a + 1) ≡ place a + size a = next a (omega arith) (omega arith) in
      let rest = pieces (a + 1) n (λ k least below. is k (omega arith) (omega arith)) (λ k least below. next k (omega arith) (omega arith)) in
      let end : a + 1 + n ≡ a + suc n = omega arith in
      sym (take-append-drop (size a) (drop (place a) bytes))
      ∙ ap (λ (l : List ℕ). field_at bytes (place a) (size a) ++ l) (drop-drop (size a) (place a) bytes ∙ ap (λ (k : ℕ). drop k bytes) (sym after) ∙ rest ∙ ap (λ (k : ℕ). flat_map text (map say (range_with_len (a + 1) n)) ++ drop (place k) bytes) end)
      ∙ ap (λ (l : List ℕ). l ++ (flat_map text (map say (range_with_len (a + 1) n)) ++ drop (place (a + suc n)) bytes)) here
      ∙ sym (append_assoc (text (say a)) (flat_map text (map say (range_with_len (a + 1) n))) (drop (place (a + suc n)) bytes))

header_is : (bytes : List ℕ) → AllHold bytes header_rows → bytes ≡ 0x5A ∷ 0x53 ∷ 0x49 ∷ 0x4D ∷ version_said bytes ∷ bank_count bytes ∷ area_count bytes ∷ 0 ∷ drop 8 bytes
header_is bytes hold =
    let second : take 4 (drop 4 bytes) ≡ get_or (drop 4 bytes) 0 0 ∷ get_or (drop 4 bytes) 1 0 ∷ get_or (drop 4 bytes) 2 0 ∷ get_or (drop 4 bytes) 3 0 ∷ [] = first_four (drop 4 bytes) (omega (arith, length-drop 4 bytes, hold.1.1.1.1.0.whole)) in
    let version : get_or (drop 4 bytes) 0 0 ≡ version_said bytes = get_or-drop 4 bytes 0 0 in
    let banks : get_or (drop 4 bytes) 1 0 ≡ bank_count bytes = get_or-drop 4 bytes 1 0 in
    let areas : get_or (drop 4 bytes) 2 0 ≡ area_count bytes = get_or-drop 4 bytes 2 0 in
    let nothing : get_or (drop 4 bytes) 3 0 ≡ 0 = get_or-drop 4 bytes 3 0 ∙ hold.1.1.1.1.0.rule in
    let counts : take 4 (drop 4 bytes) ≡ version_said bytes ∷ bank_count bytes ∷ area_count bytes ∷ 0 ∷ [] = second
    ∙ ap (λ (b : ℕ). b ∷ get_or (drop 4 bytes) 1 0 ∷ get_or (drop 4 bytes) 2 0 ∷ get_or (drop 4 bytes) 3 0 ∷ []) version
    ∙ ap (λ (b : ℕ). version_said bytes ∷ b ∷ get_or (drop 4 bytes) 2 0 ∷ get_or (drop 4 bytes) 3 0 ∷ []) banks
    ∙ ap (λ (b : ℕ). version_said bytes ∷ bank_count bytes ∷ b ∷ get_or (drop 4 bytes) 3 0 ∷ []) areas
    ∙ ap (λ (b : ℕ). version_said bytes ∷ bank_count bytes ∷ area_count bytes ∷ b ∷ []) nothing in
    sym (take-append-drop 4 bytes)
    ∙ ap (λ (l : List ℕ). l ++ drop 4 bytes) hold.0.rule
    ∙ ap (λ (l : List ℕ). 0x5A ∷ 0x53 ∷ 0x49 ∷ 0x4D ∷ l) (sym (take-append-drop 4 (drop 4 bytes)) ∙ ap (λ (l : List ℕ). l ++ drop 4 (drop 4 bytes)) counts ∙ ap (λ (l : List ℕ). version_said bytes ∷ bank_count bytes ∷ area_count bytes ∷ 0 ∷ l) (drop-drop 4 4 bytes))

module _ (bytes : List ℕ) (hold : AllHold bytes (rows bytes)) where
  header : AllHold bytes header_rows
  header = (AllHold-prefix bytes header_rows (rows_of BankAt (bank_count bytes) ++ (rows_of AreaAt (area_count bytes) ++ Needed ∷ contents_rows bytes)) hold).0

  behind_header : AllHold bytes (rows_of BankAt (bank_count bytes) ++ (rows_of AreaAt (area_count bytes) ++ Needed ∷ contents_rows bytes))
  behind_header = (AllHold-prefix bytes header_rows (rows_of BankAt (bank_count bytes) ++ (rows_of AreaAt (area_count bytes) ++ Needed ∷ contents_rows bytes)) hold).1

  a_bank : (k : ℕ) → k < bank_count bytes → Holds bytes (BankAt k)
  a_bank k below = each_row bytes BankAt (bank_count bytes) k below (AllHold-prefix bytes (rows_of BankAt (bank_count bytes)) (rows_of AreaAt (area_count bytes) ++ Needed ∷ contents_rows bytes) behind_header).0

  behind_banks : AllHold bytes (rows_of AreaAt (area_count bytes) ++ Needed ∷ contents_rows bytes)
  behind_banks = (AllHold-prefix bytes (rows_of BankAt (bank_count bytes)) (rows_of AreaAt (area_count bytes) ++ Needed ∷ contents_rows bytes) behind_header).1

  an_area : (k : ℕ) → k < area_count bytes → Holds bytes (AreaAt k)
  an_area k below = each_row bytes AreaAt (area_count bytes) k below (AllHold-prefix bytes (rows_of AreaAt (area_count bytes)) (Needed ∷ contents_rows bytes) behind_banks).0

  behind_areas : Holds bytes Needed × AllHold bytes (contents_rows bytes)
  behind_areas = (AllHold-prefix bytes (rows_of AreaAt (area_count bytes)) (Needed ∷ contents_rows bytes) behind_banks).1

  a_copy : (k : ℕ) → k < bank_count bytes → Holds bytes (ContentsAt k)
  a_copy k below = each_row bytes ContentsAt (bank_count bytes) k below (AllHold-prefix bytes (rows_of ContentsAt (bank_count bytes)) (End ∷ []) behind_areas.1).0

  at_end : length bytes ≡ contents_place bytes (bank_count bytes)
  at_end = (AllHold-prefix bytes (rows_of ContentsAt (bank_count bytes)) (End ∷ []) behind_areas.1).1.0.rule

  bank_is : (i : ℕ) → i < bank_count bytes → bank_at (all_banks bytes) i ≡ bank_said (field_at bytes (bank_place i) 12)
  bank_is i below = get_or-map-range_with_len (λ i. bank_said (field_at bytes (bank_place i) 12)) 0 (bank_count bytes) i i no_bank below (omega arith)

  area_is : (i : ℕ) → i < area_count bytes → area_at (all_areas bytes) i ≡ area_said (version_said bytes) (field_at bytes (area_place bytes i) 16)
  area_is i below = get_or-map-range_with_len (λ i. area_said (version_said bytes) (field_at bytes (area_place bytes i) 16)) 0 (area_count bytes) i i no_area below (omega arith)

  copy_is : (i : ℕ) → i < bank_count bytes → get_or (contents_said bytes (bank_count bytes)) i [] ≡ field_at bytes (contents_place bytes i) (contents_size bytes i)
  copy_is i below = get_or-map-range_with_len (λ i. field_at bytes (contents_place bytes i) (contents_size bytes i)) 0 (bank_count bytes) i i [] below (omega arith)

  prefix_areas : (i : ℕ) → i < area_count bytes → take i (all_areas bytes) ≡ areas_said bytes i
  prefix_areas i below = take-map-range_with_len (λ i. area_said (version_said bytes) (field_at bytes (area_place bytes i) 16)) 0 (area_count bytes) i (omega arith)

  length-all_areas : length (all_areas bytes) ≡ area_count bytes
  length-all_areas = length-map-range_with_len (λ i. area_said (version_said bytes) (field_at bytes (area_place bytes i) 16)) 0 (area_count bytes)

  -- what a file says has nothing in the unused room of a label
  plain_said : (is : List ℕ) → map plain_area (map (λ i. area_said (version_said bytes) (field_at bytes (area_place bytes i) 16)) is) ≡ map (λ i. area_said (version_said bytes) (field_at bytes (area_place bytes i) 16)) is
  unfolding area_said
  plain_said [] = refl
  plain_said (i ∷ is) = ap (λ (l : List Area). area_said (version_said bytes) (field_at bytes (area_place bytes i) 16) ∷ l) (plain_said is)

  is_lawful : IsImage (image_said bytes)
  is_lawful = record {
    version = header.1.0.rule;
    versions = versions-said bytes (area_count bytes);
    some_banks = omega (arith, length-all_banks bytes, header.1.1.0.rule.0);
    few_banks = omega (arith, length-all_banks bytes, header.1.1.0.rule.1);
    each_bank = λ i below.
        let small : i < bank_count bytes = omega (arith, length-all_banks bytes) in
        subst (IsImageBank (version_said bytes)) (sym (bank_is i small)) (a_bank i small).rule.lawful;
    some_areas = omega (arith, length-all_areas, header.1.1.1.0.rule.0);
    few_areas = omega (arith, length-all_areas, header.1.1.1.0.rule.1);
    each_area = λ i below.
        let small : i < area_count bytes = omega (arith, length-all_areas) in
        subst (λ (l : List Area). IsImageArea (all_banks bytes) l (area_at (all_areas bytes) i)) (sym (prefix_areas i small))
        (subst (λ (a : Area). IsImageArea (all_banks bytes) (areas_said bytes i) a) (sym (area_is i small)) (an_area i small).rule.lawful);
    plain = plain_said (range_with_len 0 (area_count bytes));
    needed = behind_areas.0.rule;
    count = length-map-range_with_len (λ i. field_at bytes (contents_place bytes i) (contents_size bytes i)) 0 (bank_count bytes) ∙ sym (length-all_banks bytes);
    lengths = λ i below.
        let small : i < bank_count bytes = omega (arith, length-all_banks bytes) in
        ap length (copy_is i small) ∙ omega (arith, length-take (contents_size bytes i) (drop (contents_place bytes i) bytes), length-drop (contents_place bytes i) bytes, (a_copy i small).whole);
  }

  banks_are : drop 8 bytes ≡ flat_map bank_text (all_banks bytes) ++ drop (area_place bytes 0) bytes
  banks_are =
      let end : bank_place (0 + bank_count bytes) ≡ area_place bytes 0 = omega arith in
      pieces bytes bank_place (λ _. 12) (λ i. bank_said (field_at bytes (bank_place i) 12)) bank_text 0 (bank_count bytes) (λ k least below. (a_bank k (omega arith)).rule.spelled) (λ k least below. omega arith)
      ∙ ap (λ (k : ℕ). flat_map bank_text (all_banks bytes) ++ drop k bytes) end

  areas_are : drop (area_place bytes 0) bytes ≡ flat_map area_text (all_areas bytes) ++ drop (contents_place bytes 0) bytes
  areas_are =
      let end : area_place bytes (0 + area_count bytes) ≡ contents_place bytes 0 = omega arith in
      pieces bytes (area_place bytes) (λ _. 16) (λ i. area_said (version_said bytes) (field_at bytes (area_place bytes i) 16)) area_text 0 (area_count bytes) (λ k least below. (an_area k (omega arith)).rule.spelled) (λ k least below. omega arith)
      ∙ ap (λ (k : ℕ). flat_map area_text (all_areas bytes) ++ drop k bytes) end

  contents_are : drop (contents_place bytes 0) bytes ≡ concat (contents_said bytes (bank_count bytes))
  contents_are =
      let none : drop (contents_place bytes (0 + bank_count bytes)) bytes ≡ [] = (let zero_more : 0 + bank_count bytes ≡ bank_count bytes = omega arith in ap (λ (k : ℕ). drop (contents_place bytes k) bytes) zero_more) ∙ drop_all (contents_place bytes (bank_count bytes)) bytes (omega (arith, at_end)) in
      pieces bytes (contents_place bytes) (contents_size bytes) (λ i. field_at bytes (contents_place bytes i) (contents_size bytes i)) (λ t. t) 0 (bank_count bytes) (λ k least below. refl) (λ k least below. contents_next bytes k (omega arith))
      ∙ ap (λ (l : List ℕ). flat_map (λ t. t) (contents_said bytes (bank_count bytes)) ++ l) none ∙ append-nil (flat_map (λ t. t) (contents_said bytes (bank_count bytes))) ∙ sym (concat_is (contents_said bytes (bank_count bytes)))

  is_file : bytes ≡ file_of (image_said bytes)
  unfolding file_of
  is_file =
      let tail : drop 8 bytes ≡ flat_map bank_text (all_banks bytes) ++ (flat_map area_text (all_areas bytes) ++ concat (contents_said bytes (bank_count bytes))) = banks_are ∙ ap (λ (l : List ℕ). flat_map bank_text (all_banks bytes) ++ l) (areas_are ∙ ap (λ (l : List ℕ). flat_map area_text (all_areas bytes) ++ l) contents_are) in
      header_is bytes header
      ∙ ap (λ (n : ℕ). 0x5A ∷ 0x53 ∷ 0x49 ∷ 0x4D ∷ version_said bytes ∷ n ∷ area_count bytes ∷ 0 ∷ drop 8 bytes) (sym (length-all_banks bytes))
      ∙ ap (λ (n : ℕ). 0x5A ∷ 0x53 ∷ 0x49 ∷ 0x4D ∷ version_said bytes ∷ length (all_banks bytes) ∷ n ∷ 0 ∷ drop 8 bytes) (sym length-all_areas)
      ∙ ap (λ (l : List ℕ). 0x5A ∷ 0x53 ∷ 0x49 ∷ 0x4D ∷ version_said bytes ∷ length (all_banks bytes) ∷ length (all_areas bytes) ∷ 0 ∷ l) tail

  pub is_image_file : IsImageFile bytes (image_said bytes)
  is_image_file = record { lawful = is_lawful; is = is_file }

-- what is found part by part
module _ (bytes : List ℕ) (header : AllHold bytes header_rows) where
  abbrev behind : List Row
  behind = rows_of BankAt (bank_count bytes) ++ (rows_of AreaAt (area_count bytes) ++ Needed ∷ contents_rows bytes)

  pub header_fault : (at : ℕ) (why : ImageWhy) → FirstFault bytes header_rows at why → FirstFault bytes (rows bytes) at why
  header_fault at why fault = prefix_fault bytes header_rows behind at why fault

  pub bank_fault : (at : ℕ) (why : ImageWhy) → FirstFault bytes (rows_of BankAt (bank_count bytes)) at why → FirstFault bytes (rows bytes) at why
  bank_fault at why fault = later_fault bytes header_rows behind at why header (prefix_fault bytes (rows_of BankAt (bank_count bytes)) (rows_of AreaAt (area_count bytes) ++ Needed ∷ contents_rows bytes) at why fault)

  module _ (banks : AllHold bytes (rows_of BankAt (bank_count bytes))) where
    pub lawful_banks : (i : ℕ) → i < length (all_banks bytes) → IsImageBank (version_said bytes) (bank_at (all_banks bytes) i)
    lawful_banks i below =
        let small : i < bank_count bytes = omega (arith, length-all_banks bytes) in
        subst (IsImageBank (version_said bytes)) (sym (get_or-map-range_with_len (λ i. bank_said (field_at bytes (bank_place i) 12)) 0 (bank_count bytes) i i no_bank small (omega arith))) (each_row bytes BankAt (bank_count bytes) i small banks).rule.lawful

    behind_banks_fault : (at : ℕ) (why : ImageWhy) → FirstFault bytes (rows_of AreaAt (area_count bytes) ++ Needed ∷ contents_rows bytes) at why → FirstFault bytes (rows bytes) at why
    behind_banks_fault at why fault = later_fault bytes header_rows behind at why header (later_fault bytes (rows_of BankAt (bank_count bytes)) (rows_of AreaAt (area_count bytes) ++ Needed ∷ contents_rows bytes) at why banks fault)

    pub area_fault : (at : ℕ) (why : ImageWhy) → FirstFault bytes (rows_of AreaAt (area_count bytes)) at why → FirstFault bytes (rows bytes) at why
    area_fault at why fault = behind_banks_fault at why (prefix_fault bytes (rows_of AreaAt (area_count bytes)) (Needed ∷ contents_rows bytes) at why fault)

    pub areas_start : area_place bytes 0 ≤ length bytes
    areas_start =
        let k : ℕ = bank_count bytes - 1 in
        let last = (each_row bytes BankAt (bank_count bytes) k (omega (arith, header.1.1.0.rule.0)) banks).whole in
        omega (arith, last, header.1.1.0.rule.0)

    module _ (areas : AllHold bytes (rows_of AreaAt (area_count bytes))) where
      pub contents_start : contents_place bytes 0 ≤ length bytes
      contents_start =
          let k : ℕ = area_count bytes - 1 in
          let last = (each_row bytes AreaAt (area_count bytes) k (omega (arith, header.1.1.1.0.rule.0)) areas).whole in
          omega (arith, last, header.1.1.1.0.rule.0)

      pub needed_fault : (HasNeeded (all_areas bytes) → ⊥) → FirstFault bytes (rows bytes) 6 BadArea
      needed_fault lacks = behind_banks_fault 6 BadArea (later_fault bytes (rows_of AreaAt (area_count bytes)) (Needed ∷ contents_rows bytes) 6 BadArea areas (inl (inr (record { whole = omega (arith, contents_start); broken = lacks; place = refl; cause = refl }))))

      module _ (needed : HasNeeded (all_areas bytes)) where
        holds_needed : Holds bytes Needed
        holds_needed = record { whole = omega (arith, contents_start); rule = needed }

        pub contents_fault : (at : ℕ) (why : ImageWhy) → FirstFault bytes (contents_rows bytes) at why → FirstFault bytes (rows bytes) at why
        contents_fault at why fault = behind_banks_fault at why (later_fault bytes (rows_of AreaAt (area_count bytes)) (Needed ∷ contents_rows bytes) at why areas (inr (holds_needed, fault)))

        pub all_hold : AllHold bytes (contents_rows bytes) → AllHold bytes (rows bytes)
        all_hold contents = AllHold-append bytes header_rows behind header (AllHold-append bytes (rows_of BankAt (bank_count bytes)) (rows_of AreaAt (area_count bytes) ++ Needed ∷ contents_rows bytes) banks (AllHold-append bytes (rows_of AreaAt (area_count bytes)) (Needed ∷ contents_rows bytes) areas (holds_needed, contents)))

abbrev pub plain_from : ℕ → List Bank → List Area → List (List ℕ) → Plain
plain_from version banks areas copies = record { version = version; banks = banks; areas = areas; bytes = copies }

pub same_image : (bytes : List ℕ) (version : ℕ) (banks : List Bank) (areas : List Area) (copies : List (List ℕ)) → version ≡ version_said bytes → banks ≡ all_banks bytes → areas ≡ all_areas bytes → copies ≡ contents_said bytes (bank_count bytes) → plain_from version banks areas copies ≡ image_said bytes
same_image bytes version banks areas copies v b a c =
    ap (λ (x : ℕ). plain_from x banks areas copies) v
    ∙ ap (λ (x : List Bank). plain_from (version_said bytes) x areas copies) b
    ∙ ap (λ (x : List Area). plain_from (version_said bytes) (all_banks bytes) x copies) a
    ∙ ap (λ (x : List (List ℕ)). plain_from (version_said bytes) (all_banks bytes) (all_areas bytes) x) c

-- the version of the areas that a file says, of which there is one at least
pub first-version : (version : ℕ) (areas : List Area) → 0 < length areas → All (HasVersion version) areas → version_of areas ≡ version
first-version version [] some all = absurd (omega arith)
first-version version (area ∷ areas) some all = All-head (HasVersion version) area areas all

pub said_version : (bytes : List ℕ) → AllHold bytes header_rows → (areas : List Area) → map plain_area areas ≡ all_areas bytes → version_of areas ≡ version_said bytes
said_version bytes header areas said =
    let many = length-map-range_with_len (λ i. area_said (version_said bytes) (field_at bytes (area_place bytes i) 16)) 0 (area_count bytes) in
    let long : length areas ≡ area_count bytes = sym (length-map areas plain_area) ∙ ap length said ∙ many in
    first-version (version_said bytes) areas (omega (arith, long, header.1.1.1.0.rule.0)) (plain-versions (version_said bytes) areas (subst (All (HasVersion (version_said bytes))) (sym said) (versions-said bytes (area_count bytes))))

pub contrary : (b : Bool) → b ≡ true → b ≡ false → ⊥
contrary b holds fails = let both = sym holds ∙ fails in cc
