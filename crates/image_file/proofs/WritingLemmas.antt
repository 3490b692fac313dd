-- Writing one part behind another.
use Rattle.std.proofs.Common.{◌≡◌, ℕ, ◌+◌, ◌<◌, ◌≤◌, Option, Some, None, List, [], ◌∷◌, ◌++◌, length, get_or, map, take, slice_get, refl, sym, ap, subst, ◌∙◌, append_assoc, arith}
use Rattle.std.specs.Global.{Vec}
use Rattle.std.specs.Prelude.{Result, Ok, Err, OnOk, is_ok, if◌then◌else◌}
use Rattle.std.specs.List.{flat_map, concat}
use Rattle.std.proofs.lemmas.List.{take_more, append-nil, get_or-map, length-map}
use Rattle.flash_sim.specs.Contents.{contents}
use Rattle.flash_sim.specs.declared.flash.Bank.{Bank}
use Rattle.flash_map.specs.declared.area.Area.{Area}
use Rattle.image_file.specs.Format.{version_of, plain_area, plain_of, bank_text, area_text, file_of}
use Rattle.image_file.specs.Lawful.{IsImage, FitsText, area_at, no_area}

pub regroup : (a b c d : List ℕ) → ((a ++ b) ++ c) ++ d ≡ a ++ (b ++ (c ++ d))
regroup a b c d = append_assoc (a ++ b) c d ∙ append_assoc a b (c ++ d)

-- six parts, one behind another
pub six_parts : (old a b d e f g one two three four five : List ℕ) → one ≡ old ++ a → two ≡ one ++ b → three ≡ two ++ d → four ≡ three ++ e → five ≡ four ++ f → five ++ g ≡ old ++ (a ++ (b ++ (d ++ (e ++ (f ++ g)))))
six_parts old a b d e f g one two three four five is-one is-two is-three is-four is-five =
    ap (λ (l : List ℕ). l ++ g) (is-five ∙ ap (λ (l : List ℕ). l ++ f) (is-four ∙ ap (λ (l : List ℕ). l ++ e) (is-three ∙ ap (λ (l : List ℕ). l ++ d) (is-two ∙ ap (λ (l : List ℕ). l ++ b) is-one))))
    ∙ simp append_assoc

-- the last part, if it was written
pub appended : {X E : Type 0} (r : Result X E) (new more old whole : List ℕ) → new ≡ (if is_ok r then more else old) → more ≡ whole → OnOk r (new ≡ whole)
appended (Ok x) new more old whole is same = is ∙ same
appended (Err e) new more old whole is same = tt

same_some : {X : Type 0} (x y : X) → Some x ≡ Some y → x ≡ y
same_some x y is = cc

abbrev nothing : Option Area
nothing = None

concat_push : (xs : List (Vec ℕ)) (x : Vec ℕ) → concat (contents (xs ++ x ∷ [])) ≡ concat (contents xs) ++ x.items
concat_push [] x = append-nil x.items
concat_push (y ∷ xs) x = ap (λ (l : List ℕ). y.items ++ l) (concat_push xs x) ∙ sym (append_assoc y.items (concat (contents xs)) x.items)

pub concat_more : (xs : List (Vec ℕ)) (i : ℕ) (x : Vec ℕ) → i < length xs → x ≡ get_or xs i x → concat (contents (take (i + 1) xs)) ≡ concat (contents (take i xs)) ++ x.items
concat_more xs i x below is =
    ap (λ (l : List (Vec ℕ)). concat (contents l)) (take_more xs i x below ∙ ap (λ (y : Vec ℕ). take i xs ++ y ∷ []) (sym is))
    ∙ concat_push (take i xs) x

pub plain_texts : (areas : List Area) → flat_map area_text (map plain_area areas) ≡ flat_map area_text areas
plain_texts [] = refl
plain_texts (area ∷ areas) = ap (λ (l : List ℕ). area_text area ++ l) (plain_texts areas)

-- the version of a map that has a first area, and of one that has none
pub version_some : (areas : List Area) (area : Area) → Some area ≡ slice_get areas 0 → area.version ≡ version_of areas
version_some [] area is = cc
version_some (first ∷ areas) area is = ap (λ (a : Area). a.version) (same_some area first is)

pub version_none : (areas : List Area) → nothing ≡ slice_get areas 0 → 1 ≡ version_of areas
version_none [] is = refl
version_none (first ∷ areas) is = cc

-- the numbers of a lawful image's areas have room
pub fits_text : (banks : List Bank) (areas : List Area) (bytes : List (Vec ℕ)) → IsImage (plain_of banks areas bytes) → (i : ℕ) → i < length areas → FitsText (area_at areas i)
fits_text banks areas bytes is i below =
    let at : area_at (map plain_area areas) i ≡ plain_area (area_at areas i) = get_or-map plain_area areas i no_area no_area below in
    let lawful = is.each_area i (omega (arith, length-map areas plain_area)) in
    let few : length (area_at (map plain_area areas) i).label.bytes ≤ 8 = lawful.label.few in
    let end : (area_at (map plain_area areas) i).first + (area_at (map plain_area areas) i).sectors ≤ 64 = omega (arith, lawful.in_bank.in_bank, (is.each_bank (area_at (map plain_area areas) i).bank lawful.in_bank.has_bank).few) in
    let bank : (area_at (map plain_area areas) i).bank < 2 = omega (arith, lawful.in_bank.has_bank, is.few_banks) in
    let few' : length (area_at areas i).label.bytes ≤ 8 = subst (λ (a : Area). length a.label.bytes ≤ 8) at few in
    let end' : (area_at areas i).first + (area_at areas i).sectors ≤ 64 = subst (λ (a : Area). a.first + a.sectors ≤ 64) at end in
    let bank' : (area_at areas i).bank < 2 = subst (λ (a : Area). a.bank < 2) at bank in
    record { label = few'; bank = omega arith; first = omega arith; sectors = omega arith }

-- header, banks, areas and bytes one behind another are the file
pub written : (old : List ℕ) (banks : List Bank) (areas : List Area) (bytes : List (Vec ℕ)) → (((old ++ 0x5A ∷ 0x53 ∷ 0x49 ∷ 0x4D ∷ version_of areas ∷ length banks ∷ length areas ∷ 0 ∷ []) ++ flat_map bank_text banks) ++ flat_map area_text areas) ++ concat (contents bytes) ≡ old ++ file_of (plain_of banks areas bytes)
unfolding file_of
written old banks areas bytes =
    append_assoc ((old ++ 0x5A ∷ 0x53 ∷ 0x49 ∷ 0x4D ∷ version_of areas ∷ length banks ∷ length areas ∷ 0 ∷ []) ++ flat_map bank_text banks) (flat_map area_text areas) (concat (contents bytes))
    ∙ append_assoc (old ++ 0x5A ∷ 0x53 ∷ 0x49 ∷ 0x4D ∷ version_of areas ∷ length banks ∷ length areas ∷ 0 ∷ []) (flat_map bank_text banks) (flat_map area_text areas ++ concat (contents bytes))
    ∙ append_assoc old (0x5A ∷ 0x53 ∷ 0x49 ∷ 0x4D ∷ version_of areas ∷ length banks ∷ length areas ∷ 0 ∷ []) (flat_map bank_text banks ++ (flat_map area_text areas ++ concat (contents bytes)))
    ∙ ap (λ (l : List ℕ). old ++ 0x5A ∷ 0x53 ∷ 0x49 ∷ 0x4D ∷ version_of areas ∷ length banks ∷ length areas ∷ 0 ∷ (flat_map bank_text banks ++ (l ++ concat (contents bytes)))) (sym (plain_texts areas))
    ∙ ap (λ (n : ℕ). old ++ 0x5A ∷ 0x53 ∷ 0x49 ∷ 0x4D ∷ version_of areas ∷ length banks ∷ n ∷ 0 ∷ (flat_map bank_text banks ++ (flat_map area_text (map plain_area areas) ++ concat (contents bytes)))) (sym (length-map areas plain_area))
