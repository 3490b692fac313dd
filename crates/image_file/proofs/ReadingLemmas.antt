-- What reading the fields one after another has found.
use Rattle.std.proofs.Common.{◌≡◌, inl, ℕ, ◌+◌, ◌<◌, ◌≤◌, Result, Ok, Err, List, [], ◌∷◌, ◌++◌, length, map, take, refl, sym, ap, subst, ◌∙◌, arith}
use Rattle.std.specs.Prelude.{IsErrAnd}
use Rattle.std.specs.List.{All, sum_by, range_with_len}
use Rattle.std.proofs.lemmas.List.Elements.{All-map, All-from_get_or, All-get_or}
use Rattle.flash_map.specs.Map.{HasVersion}
use Rattle.std.proofs.lemmas.List.{map_push, get_or-map, length-map}
use Rattle.std.proofs.lemmas.List.FromFn.{length-map-range_with_len, map-range_with_len_more}
use Rattle.std.proofs.lemmas.List.Sums.{sum_by_more}
use Rattle.flash_sim.specs.Bank.{no_bank, capacity}
use Rattle.flash_sim.specs.declared.flash.Bank.{Bank}
use Rattle.flash_map.specs.declared.area.Area.{Area}
use Rattle.image_file.specs.declared.image.ImageFault.{ImageFault}
use Rattle.image_file.specs.declared.image.ImageFault.TheVariants.{Bad, NoMemory}
use Rattle.image_file.specs.declared.image.ImageWhy.{ImageWhy}
use Rattle.image_file.specs.declared.image.ImageWhy.TheVariants.{Short}
use Rattle.image_file.specs.Format.{plain_area}
use Rattle.image_file.specs.Lawful.{IsImageArea, no_area}
use Rattle.image_file.specs.Said.{field_at, version_said, area_said, bank_said, bank_count, area_place, bank_place, all_banks, areas_said, banks_said, contents_place, contents_size, contents_said}
use Rattle.image_file.specs.Table.{Row, AreaAt, Rule, Holds, Departs, IsSpelled, IsAreaText, place, size}
use Rattle.image_file.specs.Reading.{Reads}

-- a fault, whatever would have been read
abbrev pub Fails : (ℕ → ImageWhy → Type 0) → ImageFault → Type 0
Fails Q (Bad at why) = Q at why
Fails Q NoMemory = Unit {0}

-- the exit of a `?`
pub exit : {X : Type 0} (P : X → Type 0) (Q Q' : ℕ → ImageWhy → Type 0) (r : Result X ImageFault) (fault : ImageFault) → IsErrAnd r (λ y. y ≡ fault) → ((at : ℕ) (why : ImageWhy) → Q at why → Q' at why) → Fails Q fault → Reads P Q' r
exit P Q Q' (Ok x) fault is more fails = absurd is
exit P Q Q' (Err y) fault is more fails = subst (λ (f : ImageFault). Reads P Q' (Err f)) (sym is) (by_fault fault fails)
  where
    by_fault : (f : ImageFault) → Fails Q f → Reads P Q' (Err f)
    by_fault (Bad at why) fails = more at why fails
    by_fault NoMemory fails = tt

-- the file ends inside a field at this place
pub ends : (bytes : List ℕ) (row : Row) (from len at : ℕ) (why : ImageWhy) → from ≡ place bytes row → len ≡ size bytes row → (length bytes < from + len) × (at ≡ length bytes) × (why ≡ Short) → Departs bytes row at why
ends bytes row from len at why place size short = inl (record { short = omega (arith, short.0, place, size); at_end = short.1; why_short = short.2 })

pub length-all_banks : (bytes : List ℕ) → length (all_banks bytes) ≡ bank_count bytes
length-all_banks bytes = length-map-range_with_len (λ i. bank_said (field_at bytes (bank_place i) 12)) 0 (bank_count bytes)

pub banks_more : (bytes : List ℕ) (i : ℕ) → banks_said bytes (i + 1) ≡ banks_said bytes i ++ bank_said (field_at bytes (bank_place i) 12) ∷ []
banks_more bytes i = map-range_with_len_more (λ i. bank_said (field_at bytes (bank_place i) 12)) 0 i i (omega arith)

pub areas_more : (bytes : List ℕ) (i : ℕ) → areas_said bytes (i + 1) ≡ areas_said bytes i ++ area_said (version_said bytes) (field_at bytes (area_place bytes i) 16) ∷ []
areas_more bytes i = map-range_with_len_more (λ i. area_said (version_said bytes) (field_at bytes (area_place bytes i) 16)) 0 i i (omega arith)

pub contents_more : (bytes : List ℕ) (i : ℕ) → contents_said bytes (i + 1) ≡ contents_said bytes i ++ field_at bytes (contents_place bytes i) (contents_size bytes i) ∷ []
contents_more bytes i = map-range_with_len_more (λ i. field_at bytes (contents_place bytes i) (contents_size bytes i)) 0 i i (omega arith)

-- the bytes of a bank stand behind those of the bank before it
pub contents_next : (bytes : List ℕ) (i : ℕ) → i < bank_count bytes → contents_place bytes (i + 1) ≡ contents_place bytes i + contents_size bytes i
contents_next bytes i below =
    let more : sum_by capacity (take (i + 1) (all_banks bytes)) ≡ sum_by capacity (take i (all_banks bytes)) + contents_size bytes i = sum_by_more capacity (all_banks bytes) i no_bank (omega (arith, length-all_banks bytes)) in
    omega (arith, more)

version-said : (version : ℕ) (text : List ℕ) → (area_said version text).version ≡ version
unfolding area_said
version-said version text = refl

pub versions-said : (bytes : List ℕ) (n : ℕ) → All (HasVersion (version_said bytes)) (areas_said bytes n)
versions-said bytes n =
    All-map (HasVersion (version_said bytes)) (λ i. area_said (version_said bytes) (field_at bytes (area_place bytes i) 16)) (range_with_len 0 n)
    (All-from_get_or (λ i. HasVersion (version_said bytes) (area_said (version_said bytes) (field_at bytes (area_place bytes i) 16))) (range_with_len 0 n) 0 (λ i below. version-said (version_said bytes) _))

-- plain data keeps the version
pub plain-versions : (version : ℕ) (areas : List Area) → All (HasVersion version) (map plain_area areas) → All (HasVersion version) areas
plain-versions version areas all =
    All-from_get_or (HasVersion version) areas no_area (λ i below.
    sym (ap (λ (a : Area). a.version) (get_or-map plain_area areas i no_area no_area below)) ∙ All-get_or (HasVersion version) (map plain_area areas) i no_area (omega (arith, length-map areas plain_area)) all)

-- an area that was taken
module _ (bytes : List ℕ) (version i : ℕ) (banks : List Bank) (old : List Area) (area : Area) (text : List ℕ)
    (is_version : version ≡ version_said bytes) (is_banks : banks ≡ all_banks bytes) (is_old : map plain_area old ≡ areas_said bytes i) (is_text : text ≡ field_at bytes (area_place bytes i) 16) where
  pub area_holds : (new : List Area) → area_place bytes i + 16 ≤ length bytes → plain_area area ≡ area_said version text → IsSpelled version text → IsImageArea banks (map plain_area old) (plain_area area) → new ≡ old ++ area ∷ [] → (map plain_area new ≡ areas_said bytes (i + 1)) × Holds bytes (AreaAt i)
  area_holds new whole said-so spelled-so lawful added =
      let said : plain_area area ≡ area_said (version_said bytes) text = said-so ∙ ap (λ (v : ℕ). area_said v text) is_version in
      let spelled : IsSpelled (version_said bytes) text = subst (λ (v : ℕ). IsSpelled v text) is_version spelled-so in
      let by_banks : IsImageArea (all_banks bytes) (map plain_area old) (plain_area area) = subst (λ (bs : List Bank). IsImageArea bs (map plain_area old) (plain_area area)) is_banks lawful in
      let by_old : IsImageArea (all_banks bytes) (areas_said bytes i) (plain_area area) = subst (λ (l : List Area). IsImageArea (all_banks bytes) l (plain_area area)) is_old by_banks in
      let by_area : IsImageArea (all_banks bytes) (areas_said bytes i) (area_said (version_said bytes) text) = subst (λ (a : Area). IsImageArea (all_banks bytes) (areas_said bytes i) a) said by_old in
      let is : IsAreaText (version_said bytes) (all_banks bytes) (areas_said bytes i) text = record { spelled = spelled.spelled; lawful = by_area } in
      let all : map plain_area new ≡ areas_said bytes i ++ area_said (version_said bytes) text ∷ [] = ap (map plain_area) added ∙ map_push plain_area old area ∙ ap (λ (l : List Area). l ++ plain_area area ∷ []) is_old ∙ ap (λ (a : Area). areas_said bytes i ++ a ∷ []) said in
      (all ∙ ap (λ (t : List ℕ). areas_said bytes i ++ area_said (version_said bytes) t ∷ []) is_text ∙ sym (areas_more bytes i), record { whole = whole; rule = subst (λ (t : List ℕ). IsAreaText (version_said bytes) (all_banks bytes) (areas_said bytes i) t) is_text is })

  pub area_refused : plain_area area ≡ area_said version text → (IsImageArea banks (map plain_area old) (plain_area area) → ⊥) → Rule bytes (AreaAt i) → ⊥
  area_refused said-so refused rule =
      let said : plain_area area ≡ area_said (version_said bytes) text = said-so ∙ ap (λ (v : ℕ). area_said v text) is_version in
      let is : IsAreaText (version_said bytes) (all_banks bytes) (areas_said bytes i) text = subst (λ (t : List ℕ). IsAreaText (version_said bytes) (all_banks bytes) (areas_said bytes i) t) (sym is_text) rule in
      let by_area : IsImageArea (all_banks bytes) (areas_said bytes i) (plain_area area) = subst (λ (a : Area). IsImageArea (all_banks bytes) (areas_said bytes i) a) (sym said) is.lawful in
      let by_old : IsImageArea (all_banks bytes) (map plain_area old) (plain_area area) = subst (λ (l : List Area). IsImageArea (all_banks bytes) l (plain_area area)) (sym is_old) by_area in
      refused (subst (λ (bs : List Bank). IsImageArea bs (map plain_area old) (plain_area area)) (sym is_banks) by_old)

  pub area_unspelled : (IsSpelled version text → ⊥) → Rule bytes (AreaAt i) → ⊥
  area_unspelled not rule =
      let is : IsAreaText (version_said bytes) (all_banks bytes) (areas_said bytes i) text = subst (λ (t : List ℕ). IsAreaText (version_said bytes) (all_banks bytes) (areas_said bytes i) t) (sym is_text) rule in
      not (subst (λ (v : ℕ). IsSpelled v text) (sym is_version) (record { spelled = is.spelled; label = is.lawful.label }))

  -- the areas so far have the version of the file
  pub one_version : plain_area area ≡ area_said version text → All (HasVersion area.version) old
  one_version said =
      let here : area.version ≡ version_said bytes = ap (λ (a : Area). a.version) said ∙ version-said version text ∙ is_version in
      let all : All (HasVersion (version_said bytes)) (map plain_area old) = subst (All (HasVersion (version_said bytes))) (sym is_old) (versions-said bytes i) in
      subst (λ (v : ℕ). All (HasVersion v) old) (sym here) (plain-versions (version_said bytes) old all)
