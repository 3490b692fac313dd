-- A field that is read is the field that was written, and what was written is read again.
use Rattle.std.proofs.Common.{◌≡◌, ℕ, zero, suc, ◌+◌, ◌-◌, ◌^◌, ◌<◌, ◌≤◌, ◌==◌, ◌&&◌, Bool, true, false, List, [], ◌∷◌, ◌++◌, length, get_or, take, drop, replicate, refl, sym, ap, ◌∙◌, inl, inr, arith}
use Rattle.std.specs.List.{list_all}
use Rattle.std.specs.Int.{w16, w32, from_le_bytes, to_le_bytes}
use Rattle.std.proofs.lemmas.Bool.{eqb-true, cases_lt}
use Rattle.std.proofs.lemmas.List.{take_at, drop_at, take-append-drop, take_all, drop-drop, length-take, length-drop, get_or-drop, get_or-take, get_or_past, length-append, length-replicate}
use Rattle.std.proofs.lemmas.Nat.{le_bytes_2, le_bytes_4, from_le_bytes-to_le_bytes_2, from_le_bytes-to_le_bytes_4}
use Rattle.flash_sim.specs.declared.flash.Bank.{Bank}
use Rattle.flash_sim.specs.declared.flash.Kind.{Kind}
use Rattle.flash_sim.specs.declared.flash.Kind.TheVariants.{Erasing, Rewritable}
use Rattle.flash_map.specs.declared.area.Area.{Area}
use Rattle.flash_map.specs.declared.area.Role.{Role}
use Rattle.flash_map.specs.declared.area.Role.TheVariants.{Nvs, Zms, Fcb, Sel}
use Rattle.image_file.specs.Format.{kind_byte, role_byte, bank_text, area_text, plain_area}
use Rattle.image_file.specs.Lawful.{IsImageBank}
use Rattle.image_file.specs.Said.{field_at, kind_said, role_said, bank_said, area_said}
use Rattle.image_file.specs.Table.{IsLabelText, IsSpelled}

abbrev pub IsBytes : List ℕ → Type 0
IsBytes bytes = (i : ℕ) → get_or bytes i 0 < 256

pub IsBytes-drop : (n : ℕ) (bytes : List ℕ) → IsBytes bytes → IsBytes (drop n bytes)
IsBytes-drop n bytes h i = rw get_or-drop (h (n + i))

by_order : (P : Type 0) (i n : ℕ) → (i < n → P) → (n ≤ i → P) → P
by_order P i n below above = elim (cases_lt i n) [ inl lt ↦ below lt | inr le ↦ above le ]

pub IsBytes-take : (n : ℕ) (bytes : List ℕ) → IsBytes bytes → IsBytes (take n bytes)
IsBytes-take n bytes h i =
    by_order (get_or (take n bytes) i 0 < 256) i n
    (λ lt. rw (get_or-take n bytes i 0 lt) (h i))
    (λ le. rw (get_or_past (take n bytes) i 0 (omega (arith, length-take n bytes))) (omega arith))

pub IsBytes-field : (bytes : List ℕ) (at size : ℕ) → IsBytes bytes → IsBytes (field_at bytes at size)
IsBytes-field bytes at size h = IsBytes-take size (drop at bytes) (IsBytes-drop at bytes h)

-- the first bytes of a list, written out
first_two : (xs : List ℕ) → 2 ≤ length xs → take 2 xs ≡ get_or xs 0 0 ∷ get_or xs 1 0 ∷ []
first_two [] long = absurd (omega arith)
first_two (a ∷ []) long = absurd (omega arith)
first_two (a ∷ b ∷ xs) long = refl

pub first_four : (xs : List ℕ) → 4 ≤ length xs → take 4 xs ≡ get_or xs 0 0 ∷ get_or xs 1 0 ∷ get_or xs 2 0 ∷ get_or xs 3 0 ∷ []
first_four [] long = absurd (omega arith)
first_four (a ∷ []) long = absurd (omega arith)
first_four (a ∷ b ∷ []) long = absurd (omega arith)
first_four (a ∷ b ∷ c ∷ []) long = absurd (omega arith)
first_four (a ∷ b ∷ c ∷ d ∷ xs) long = refl

-- a number that a field of two or four bytes says, written again
half_again : (text : List ℕ) (at : ℕ) → at + 2 ≤ length text → IsBytes text → to_le_bytes w16 (from_le_bytes w16 (field_at text at 2)) ≡ field_at text at 2
half_again text at long fits = le_bytes_2 (field_at text at 2) _ (omega (arith, length-take 2 (drop at text), length-drop at text)) (IsBytes-field text at 2 fits) refl

word_again : (text : List ℕ) (at : ℕ) → at + 4 ≤ length text → IsBytes text → to_le_bytes w32 (from_le_bytes w32 (field_at text at 4)) ≡ field_at text at 4
word_again text at long fits = le_bytes_4 (field_at text at 4) _ (omega (arith, length-take 4 (drop at text), length-drop at text)) (IsBytes-field text at 4 fits) refl

in_three : (text : List ℕ) → length text ≡ 12 → text ≡ take 4 text ++ (field_at text 4 4 ++ field_at text 8 4)
in_three text len =
    let last : drop 4 (drop 4 text) ≡ field_at text 8 4 = drop-drop 4 4 text ∙ sym (take_all 4 (drop 8 text) (omega (arith, length-drop 8 text))) in
    sym (take-append-drop 4 text) ∙ ap (λ (l : List ℕ). take 4 text ++ l) (sym (take-append-drop 4 (drop 4 text)) ∙ ap (λ (l : List ℕ). field_at text 4 4 ++ l) last)

pub bank_again : (text : List ℕ) → length text ≡ 12 → IsBytes text → kind_byte (kind_said (get_or text 0 0)) ≡ get_or text 0 0 → get_or text 2 0 ≡ 0 → get_or text 3 0 ≡ 0 → text ≡ bank_text (bank_said text)
unfolding bank_said
bank_again text len fits kind two three =
    let sector : List ℕ = to_le_bytes w32 (from_le_bytes w32 (field_at text 4 4)) in
    let tail : field_at text 4 4 ++ field_at text 8 4 ≡ sector ++ to_le_bytes w32 (from_le_bytes w32 (field_at text 8 4)) = ap (λ (l : List ℕ). l ++ field_at text 8 4) (sym (word_again text 4 (omega arith) fits)) ∙ ap (λ (l : List ℕ). sector ++ l) (sym (word_again text 8 (omega arith) fits)) in
    let head : take 4 text ≡ kind_byte (kind_said (get_or text 0 0)) ∷ get_or text 1 0 ∷ 0 ∷ 0 ∷ [] = first_four text (omega arith) ∙ ap (λ (b : ℕ). b ∷ get_or text 1 0 ∷ get_or text 2 0 ∷ get_or text 3 0 ∷ []) (sym kind) ∙ ap (λ (b : ℕ). kind_byte (kind_said (get_or text 0 0)) ∷ get_or text 1 0 ∷ b ∷ get_or text 3 0 ∷ []) two ∙ ap (λ (b : ℕ). kind_byte (kind_said (get_or text 0 0)) ∷ get_or text 1 0 ∷ 0 ∷ b ∷ []) three in
    in_three text len ∙ ap (λ (l : List ℕ). l ++ (field_at text 4 4 ++ field_at text 8 4)) head ∙ ap (λ (l : List ℕ). kind_byte (kind_said (get_or text 0 0)) ∷ get_or text 1 0 ∷ 0 ∷ 0 ∷ l) tail

kind_again : (kind : Kind) → kind_said (kind_byte kind) ≡ kind
kind_again Erasing = refl
kind_again Rewritable = refl

role_again : (role : Role) → role_said (role_byte role) ≡ role
role_again Nvs = refl
role_again Zms = refl
role_again Fcb = refl
role_again Sel = refl

-- a bank that was written is read again
pub bank_said-text : (version : ℕ) (bank : Bank) → IsImageBank version bank → bank_said (bank_text bank) ≡ bank
unfolding bank_said
bank_said-text version bank is =
    let sector : from_le_bytes w32 (to_le_bytes w32 bank.sector) ≡ bank.sector = from_le_bytes-to_le_bytes_4 bank.sector (omega (arith, is.at_most)) in
    let count : from_le_bytes w32 (to_le_bytes w32 bank.count) ≡ bank.count = from_le_bytes-to_le_bytes_4 bank.count (omega (arith, is.few)) in
    ap (λ (k : Kind). record { kind = k; unit = bank.unit; sector = from_le_bytes w32 (to_le_bytes w32 bank.sector); count = from_le_bytes w32 (to_le_bytes w32 bank.count) }) (kind_again bank.kind)
    ∙ ap (λ (n : ℕ). record { kind = bank.kind; unit = bank.unit; sector = n; count = from_le_bytes w32 (to_le_bytes w32 bank.count) }) sector
    ∙ ap (λ (n : ℕ). record { kind = bank.kind; unit = bank.unit; sector = bank.sector; count = n }) count

-- ---- areas

and_true : (a b : Bool) → (a && b) ≡ true → (a ≡ true) × (b ≡ true)
and_true true b h = (refl, h)
and_true false b h = absurd cc

zeros_are : (xs : List ℕ) → list_all (λ b. b == 0) xs ≡ true → xs ≡ replicate (length xs) 0
zeros_are [] all = refl
zeros_are (x ∷ xs) all =
    let both = and_true (x == 0) (list_all (λ b. b == 0) xs) all in
    ap (λ (b : ℕ). b ∷ xs) (eqb-true x 0 both.0) ∙ ap (λ (l : List ℕ). 0 ∷ l) (zeros_are xs both.1)

zeros_replicate : (n : ℕ) → list_all (λ b. b == 0) (replicate n 0) ≡ true
zeros_replicate zero = refl
zeros_replicate (suc n) = zeros_replicate n

-- the label's field, where the text is that of an area
pub label_of_text : (version : ℕ) (text : List ℕ) → length text ≡ 16 → IsSpelled version text → IsLabelText (get_or text 6 0) (drop 8 text)
unfolding area_said
label_of_text version text len is =
    let n : ℕ = get_or text 6 0 in
    let label : List ℕ = take n (drop 8 text) in
    let six : n ≡ length label = ap (λ (l : List ℕ). get_or l 6 0) is.spelled in
    let back : drop 8 text ≡ label ++ replicate (8 - length label) 0 = ap (λ (l : List ℕ). drop 8 l) is.spelled in
    let zeros : drop n (drop 8 text) ≡ replicate (8 - length label) 0 = ap (λ (l : List ℕ). drop n l) back ∙ drop_at label (replicate (8 - length label) 0) n (sym six) in
    record {
      label = is.label;
      fits = omega (arith, length-take n (drop 8 text), six);
      zeros = ap (list_all (λ b. b == 0)) zeros ∙ zeros_replicate (8 - length label);
    }

in_five : (text : List ℕ) → text ≡ take 2 text ++ (field_at text 2 2 ++ (field_at text 4 2 ++ (field_at text 6 2 ++ drop 8 text)))
in_five text =
    let d4 : drop 4 text ≡ field_at text 4 2 ++ (field_at text 6 2 ++ drop 8 text) = sym (take-append-drop 2 (drop 4 text)) ∙ ap (λ (l : List ℕ). field_at text 4 2 ++ l) (drop-drop 2 4 text ∙ sym (take-append-drop 2 (drop 6 text)) ∙ ap (λ (l : List ℕ). field_at text 6 2 ++ l) (drop-drop 2 6 text)) in
    sym (take-append-drop 2 text) ∙ ap (λ (l : List ℕ). take 2 text ++ l) (sym (take-append-drop 2 (drop 2 text)) ∙ ap (λ (l : List ℕ). field_at text 2 2 ++ l) (drop-drop 2 2 text ∙ d4))

pub area_again : (version : ℕ) (text : List ℕ) → length text ≡ 16 → IsBytes text → role_byte (role_said (get_or text 0 0)) ≡ get_or text 0 0 → get_or text 7 0 ≡ 0 → IsLabelText (get_or text 6 0) (drop 8 text) → text ≡ area_text (area_said version text)
unfolding area_said
area_again version text len fits role seven is =
    let n : ℕ = get_or text 6 0 in
    let label : List ℕ = take n (drop 8 text) in
    let size : length label ≡ n = omega (arith, length-take n (drop 8 text), is.fits) in
    let rest : drop n (drop 8 text) ≡ replicate (8 - length label) 0 = zeros_are (drop n (drop 8 text)) is.zeros ∙ (let k : length (drop n (drop 8 text)) ≡ 8 - length label = omega (arith, length-drop n (drop 8 text), length-drop 8 text, size) in ap (λ (k : ℕ). replicate k 0) k) in
    let last : drop 8 text ≡ label ++ replicate (8 - length label) 0 = sym (take-append-drop n (drop 8 text)) ∙ ap (λ (l : List ℕ). label ++ l) rest in
    let six : field_at text 6 2 ≡ length label ∷ 0 ∷ [] = first_two (drop 6 text) (omega (arith, length-drop 6 text)) ∙ ap (λ (b : ℕ). b ∷ get_or (drop 6 text) 1 0 ∷ []) (get_or-drop 6 text 0 0 ∙ sym size) ∙ ap (λ (b : ℕ). length label ∷ b ∷ []) (get_or-drop 6 text 1 0 ∙ seven) in
    let head : take 2 text ≡ role_byte (role_said (get_or text 0 0)) ∷ get_or text 1 0 ∷ [] = first_two text (omega arith) ∙ ap (λ (b : ℕ). b ∷ get_or text 1 0 ∷ []) (sym role) in
    let first : List ℕ = to_le_bytes w16 (from_le_bytes w16 (field_at text 2 2)) in
    let sectors : List ℕ = to_le_bytes w16 (from_le_bytes w16 (field_at text 4 2)) in
    let back : List ℕ = label ++ replicate (8 - length label) 0 in
    let tail : field_at text 6 2 ++ drop 8 text ≡ length label ∷ 0 ∷ back = ap (λ (l : List ℕ). l ++ drop 8 text) six ∙ ap (λ (l : List ℕ). length label ∷ 0 ∷ l) last in
    in_five text
    ∙ ap (λ (l : List ℕ). l ++ (field_at text 2 2 ++ (field_at text 4 2 ++ (field_at text 6 2 ++ drop 8 text)))) head
    ∙ ap (λ (l : List ℕ). role_byte (role_said (get_or text 0 0)) ∷ get_or text 1 0 ∷ (l ++ (field_at text 4 2 ++ (field_at text 6 2 ++ drop 8 text)))) (sym (half_again text 2 (omega arith) fits))
    ∙ ap (λ (l : List ℕ). role_byte (role_said (get_or text 0 0)) ∷ get_or text 1 0 ∷ (first ++ (l ++ (field_at text 6 2 ++ drop 8 text)))) (sym (half_again text 4 (omega arith) fits))
    ∙ ap (λ (l : List ℕ). role_byte (role_said (get_or text 0 0)) ∷ get_or text 1 0 ∷ (first ++ (sectors ++ l))) tail

-- an area that was written is read again
pub area_said-text : (area : Area) → length area.label.bytes ≤ 8 → area.first < 2 ^ 16 → area.sectors < 2 ^ 16 → area_said area.version (area_text area) ≡ plain_area area
unfolding area_said
area_said-text area few small short =
    let label : List ℕ = area.label.bytes in
    let first : from_le_bytes w16 (to_le_bytes w16 area.first) ≡ area.first = from_le_bytes-to_le_bytes_2 area.first small in
    let sectors : from_le_bytes w16 (to_le_bytes w16 area.sectors) ≡ area.sectors = from_le_bytes-to_le_bytes_2 area.sectors short in
    let said : ℕ = from_le_bytes w16 (to_le_bytes w16 area.sectors) in
    ap (λ (l : List ℕ). record { label = record { bytes = l; spare = [] }; role = role_said (role_byte area.role); bank = area.bank; first = from_le_bytes w16 (to_le_bytes w16 area.first); sectors = said; version = area.version }) (take_at label (replicate (8 - length label) 0) (length label) refl)
    ∙ ap (λ (r : Role). record { label = record { bytes = label; spare = [] }; role = r; bank = area.bank; first = from_le_bytes w16 (to_le_bytes w16 area.first); sectors = said; version = area.version }) (role_again area.role)
    ∙ ap (λ (n : ℕ). record { label = record { bytes = label; spare = [] }; role = area.role; bank = area.bank; first = n; sectors = said; version = area.version }) first
    ∙ ap (λ (n : ℕ). record { label = record { bytes = label; spare = [] }; role = area.role; bank = area.bank; first = area.first; sectors = n; version = area.version }) sectors

-- what was read field by field is what the text says
pub same_bank : (text : List ℕ) (bank : Bank) → bank.kind ≡ kind_said (get_or text 0 0) → bank.unit ≡ get_or text 1 0 → bank.sector ≡ from_le_bytes w32 (field_at text 4 4) → bank.count ≡ from_le_bytes w32 (field_at text 8 4) → bank ≡ bank_said text
unfolding bank_said
same_bank text bank kind unit sector count =
    ap (λ (k : Kind). record bank { kind = k }) kind ∙ ap (λ (n : ℕ). record bank { kind = kind_said (get_or text 0 0); unit = n }) unit
    ∙ ap (λ (n : ℕ). record bank { kind = kind_said (get_or text 0 0); unit = get_or text 1 0; sector = n }) sector
    ∙ ap (λ (n : ℕ). record { kind = kind_said (get_or text 0 0); unit = get_or text 1 0; sector = from_le_bytes w32 (field_at text 4 4); count = n }) count

pub same_area : (version : ℕ) (text : List ℕ) (area : Area) → area.label.bytes ≡ field_at text 8 (get_or text 6 0) → area.role ≡ role_said (get_or text 0 0) → area.bank ≡ get_or text 1 0 → area.first ≡ from_le_bytes w16 (field_at text 2 2) → area.sectors ≡ from_le_bytes w16 (field_at text 4 2) → area.version ≡ version → plain_area area ≡ area_said version text
unfolding area_said
same_area version text area label role bank first sectors versions =
    ap (λ (l : List ℕ). record area { label = record { bytes = l; spare = [] } }) label
    ∙ ap (λ (r : Role). record area { label = record { bytes = field_at text 8 (get_or text 6 0); spare = [] }; role = r }) role
    ∙ ap (λ (n : ℕ). record area { label = record { bytes = field_at text 8 (get_or text 6 0); spare = [] }; role = role_said (get_or text 0 0); bank = n }) bank
    ∙ ap (λ (n : ℕ). record area { label = record { bytes = field_at text 8 (get_or text 6 0); spare = [] }; role = role_said (get_or text 0 0); bank = get_or text 1 0; first = n }) first
    ∙ ap (λ (n : ℕ). record { label = record { bytes = field_at text 8 (get_or text 6 0); spare = [] }; role = role_said (get_or text 0 0); bank = get_or text 1 0; first = from_le_bytes w16 (field_at text 2 2); sectors = n; version = area.version }) sectors
    ∙ ap (λ (n : ℕ). record { label = record { bytes = field_at text 8 (get_or text 6 0); spare = [] }; role = role_said (get_or text 0 0); bank = get_or text 1 0; first = from_le_bytes w16 (field_at text 2 2); sectors = from_le_bytes w16 (field_at text 4 2); version = n }) versions

pub length-bank_text : (bank : Bank) → length (bank_text bank) ≡ 12
length-bank_text bank = refl

pub length-area_text : (area : Area) → length area.label.bytes ≤ 8 → length (area_text area) ≡ 16
length-area_text area few = omega (arith, length-append area.label.bytes (replicate (8 - length area.label.bytes) 0), length-replicate {A = ℕ} (8 - length area.label.bytes) 0)
