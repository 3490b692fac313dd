-- What the map of areas keeps: each area stands under its label.
use Rattle.std.proofs.Common.{◌≡◌, ◌+◌, ◌≤◌, ◌&&◌, ◌⊎◌, inl, inr, nat_lt, eq-eqb, Bool, List, [], ◌∷◌, ◌++◌, map, true, false, ◌||◌, Option, Some, None, refl, sym, ◌∙◌, ap}
use Rattle.std.specs.List.{list_any}
use Rattle.std.specs.Option.{is_some}
use Rattle.std.specs.Str.{bytes_eq}
use Rattle.std.specs.Map.{lookup, keys_of, values_of}
use Rattle.std.proofs.lemmas.List.{map_push}
use Rattle.std.proofs.lemmas.Bool.{ltb-false}
use Rattle.std.proofs.lemmas.Map.Made.{is_some-lookup}
use Rattle.arrayvec.specs.ArrayString.{ArrayString}
use Rattle.flash_map.specs.declared.area.Area.{Area}
use Rattle.flash_map.specs.Area.{AreApart}
use Rattle.flash_map.specs.Map.{has_label, shares_sector}

abbrev pub Entries : Type 0
Entries = List (ArrayString × Area)

pub list_any-map : {X Y : Type 0} (test : Y → Bool) (f : X → Y) (xs : List X) → list_any test (map f xs) ≡ list_any (λ x. test (f x)) xs
list_any-map test f [] = refl
list_any-map test f (x ∷ xs) = ap (λ rest. test (f x) || rest) (list_any-map test f xs)

-- a label is found exactly where an area has it
pub label_found : (es : Entries) (label : ArrayString) → keys_of es ≡ map (λ (a : Area). a.label) (values_of es) → is_some (lookup (λ (key : ArrayString). bytes_eq label.bytes key.bytes) es) ≡ list_any (has_label label.bytes) (values_of es)
label_found es label keys =
    is_some-lookup (λ (key : ArrayString). bytes_eq label.bytes key.bytes) es
    ∙ ap (list_any (λ (key : ArrayString). bytes_eq label.bytes key.bytes)) keys
    ∙ list_any-map (λ (key : ArrayString). bytes_eq label.bytes key.bytes) (λ (a : Area). a.label) (values_of es)

pub not_some : {X : Type 0} (o : Option X) → is_some o ≡ false → o ≡ None
not_some None is = refl
not_some (Some x) is = cc

pub values_more : (es new : Entries) (area : Area) → new ≡ es ++ (area.label, area) ∷ [] → values_of new ≡ values_of es ++ area ∷ []
values_more es new area is = ap values_of is ∙ map_push (λ (e : ArrayString × Area). e.1) es (area.label, area)

pub keys_more : (es new : Entries) (area : Area) → keys_of es ≡ map (λ (a : Area). a.label) (values_of es) → new ≡ es ++ (area.label, area) ∷ [] → keys_of new ≡ map (λ (a : Area). a.label) (values_of new)
keys_more es new area keys is =
    ap keys_of is ∙ map_push (λ (e : ArrayString × Area). e.0) es (area.label, area)
    ∙ ap (λ (ls : List ArrayString). ls ++ area.label ∷ []) keys
    ∙ sym (ap (map (λ (a : Area). a.label)) (values_more es new area is) ∙ map_push (λ (a : Area). a.label) (values_of es) area)

-- areas of which no sector belongs to both
pub are_apart : (area other : Area) → shares_sector area other ≡ false → AreApart area other
are_apart area other not = record { apart = λ same. by_ends (nat_lt area.first (other.first + other.sectors)) (nat_lt other.first (area.first + area.sectors)) refl refl (same_bank same not) }
  where
    same_bank : area.bank ≡ other.bank → shares_sector area other ≡ false → (nat_lt area.first (other.first + other.sectors) && nat_lt other.first (area.first + area.sectors)) ≡ false
    same_bank same not = ap (λ b. b && (nat_lt area.first (other.first + other.sectors) && nat_lt other.first (area.first + area.sectors))) (sym (eq-eqb area.bank other.bank same)) ∙ not

    by_ends : (b c : Bool) → nat_lt area.first (other.first + other.sectors) ≡ b → nat_lt other.first (area.first + area.sectors) ≡ c → (b && c) ≡ false → (area.first + area.sectors ≤ other.first) ⊎ (other.first + other.sectors ≤ area.first)
    by_ends false c is_b is_c none = inr (ltb-false _ _ is_b)
    by_ends true false is_b is_c none = inl (ltb-false _ _ is_c)
    by_ends true true is_b is_c none = cc
