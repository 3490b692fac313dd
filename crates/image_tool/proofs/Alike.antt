-- Lists of the areas of one image differ only in the unused bytes of their labels, so the image owes the
-- same by each.
use Rattle.std.proofs.Common.{◌≡◌, ◌∙◌, ℕ, zero, suc, ◌+◌, ◌-◌, ◌≤◌, Bool, true, false, not, ◌&&◌, cond, List, [], ◌∷◌, length, map, Option, Some, None, inl, inr, refl, sym, ap, subst}
use Rattle.std.proofs.Math.Path.{fun_ext}
use Rattle.std.specs.Prelude.{find, option_map, slice_index, slice_index_or, unwrap_or}
use Rattle.std.specs.List.{range_with_len, slice_get}
use Rattle.std.specs.Option.{option_map_or, option_or}
use Rattle.std.proofs.lemmas.Bool.{false≢true}
use Rattle.std.proofs.lemmas.List.{length-map}
use Rattle.std.proofs.lemmas.Option.{none-some, slice_get-map}
use Rattle.flash_sim.specs.Device.{Device}
use Rattle.flash_map.specs.Area.{geometry_of, sectors_of}
use Rattle.flash_map.specs.declared.area.Area.{Area}
use Rattle.flash_map.specs.declared.area.Geometry.{Geometry}
use Rattle.flash_map.specs.declared.area.Role.{Role}
use Rattle.flash_map.specs.declared.area.Role.TheVariants.{Nvs, Zms, Fcb, Sel}
use Rattle.backend_api.specs.Boot.{Owes}
use Rattle.backend_api.specs.Written.{is_blank_on}
use Rattle.migrator.specs.Active.{active_on, active_with, chosen, is_choice, latest, named}
use Rattle.migrator.specs.Areas.{first_store, is_store, is_store_at, selector_of, store_from, target}
use Rattle.any_backend.specs.ByRole.{any_owes, owes_as}
use Rattle.session.specs.OnMap.{active_area, selector_erases}
use Rattle.mirror_session.specs.Bench.{beside_in}
use Rattle.mirror_session.proofs.PlaceLemmas.{trusted_of_is}
use Rattle.image_file.specs.Format.{Plain, plain_area}
use Rattle.image_jobs.specs.Images.{HasAreas, OwesOf, flash_of}
use Rattle.session_jobs.specs.LogJobs.{OwesIn as LogOwes}
use Rattle.session_jobs.specs.MirrorJobs.{BothOweIn, OwesIn as MirrorOwes, trusted_in}
use Rattle.image_tool.specs.Owing.{LogsOweAlike, MirrorsOweAlike, SettingsOweAlike}
use Rattle.image_tool.specs.Tool.{any_stores}

-- ---- one area

some_same : {X : Type 0} (x y : X) → Some x ≡ Some y → x ≡ y
some_same x y e = cc

module _ (area : Area) (geometry : Geometry) (sectors : List (List ℕ)) (most : ℕ) where
  to_plain : (role : Role) → owes_as role area geometry sectors most → owes_as role (plain_area area) geometry sectors most
  to_plain Nvs owes = elim owes [ inl rests ↦ inl (record { store = rests.store; clean = rests.clean }) | inr owing ↦ inr owing ]
  to_plain Zms owes = elim owes [ inl rests ↦ inl (record { store = rests.store; clean = rests.clean }) | inr owing ↦ inr owing ]
  to_plain Fcb owes = owes
  to_plain Sel owes = owes

  from_plain : (role : Role) → owes_as role (plain_area area) geometry sectors most → owes_as role area geometry sectors most
  from_plain Nvs owes = elim owes [ inl rests ↦ inl (record { store = rests.store; clean = rests.clean }) | inr owing ↦ inr owing ]
  from_plain Zms owes = elim owes [ inl rests ↦ inl (record { store = rests.store; clean = rests.clean }) | inr owing ↦ inr owing ]
  from_plain Fcb owes = owes
  from_plain Sel owes = owes

same_owes : (d : Device) (area other : Area) (most : ℕ) → plain_area area ≡ plain_area other → Owes any_owes d area most → Owes any_owes d other most
same_owes d area other most same owes =
    from_plain other (geometry_of d other) (sectors_of d other) most other.role
    (subst (λ (a : Area). Owes any_owes d a most) same (to_plain area (geometry_of d area) (sectors_of d area) most area.role owes))

-- the area that is found in another list
found_in : (o : Option Area) (other : Area) → option_map plain_area o ≡ Some (plain_area other) → (area : Area) × (o ≡ Some area) × (plain_area area ≡ plain_area other)
found_in None other is = absurd (none-some (plain_area other) is)
found_in (Some area) other is = (area, refl, some_same (plain_area area) (plain_area other) is)

-- ---- a list of areas, without those bytes

module _ (areas : List Area) where
  abbrev plain : List Area
  plain = map plain_area areas

  twice : (o : Option Area) → option_map plain_area (option_map plain_area o) ≡ option_map plain_area o
  twice None = refl
  twice (Some area) = refl

  store_alike : (o : Option Area) → option_map_or is_store (option_map plain_area o) false ≡ option_map_or is_store o false
  store_alike None = refl
  store_alike (Some area) = refl

  stores_plain : is_store_at plain ≡ is_store_at areas
  stores_plain = fun_ext (λ (i : ℕ). ap (λ (o : Option Area). option_map_or is_store o false) (slice_get-map plain_area areas i) ∙ store_alike (slice_get areas i))

  first_plain : first_store plain ≡ first_store areas
  first_plain =
      ap (λ (n : ℕ). unwrap_or (store_from plain 0 n) 0) (length-map areas plain_area)
      ∙ ap (λ (p : ℕ → Bool). unwrap_or (find p (range_with_len 0 (length areas))) 0) stores_plain

  from_same : (from count : ℕ) → store_from plain from count ≡ store_from areas from count
  from_same from count = ap (λ (p : ℕ → Bool). find p (range_with_len from count)) stores_plain

  target_plain : (active : ℕ) → target plain active ≡ target areas active
  target_plain active =
      ap (λ (n : ℕ). option_or (store_from plain (active + 1) (n - (active + 1))) (store_from plain 0 active)) (length-map areas plain_area)
      ∙ ap (λ (o : Option ℕ). option_or o (store_from plain 0 active)) (from_same (active + 1) (length areas - (active + 1)))
      ∙ ap (λ (o : Option ℕ). option_or (store_from areas (active + 1) (length areas - (active + 1))) o) (from_same 0 active)

  named_plain : named plain ≡ named areas
  unfolding named
  named_plain =
      fun_ext (λ (body : List ℕ). ap (λ (p : ℕ → Bool). cond (is_choice body && p (slice_index body 0)) (Some (slice_index body 0)) None) stores_plain)

  chosen_plain : (list : List (List ℕ)) → unwrap_or (chosen plain list) (first_store plain) ≡ unwrap_or (chosen areas list) (first_store areas)
  chosen_plain list =
      ap (λ (f : List ℕ → Option ℕ). unwrap_or (latest f list) (first_store plain)) named_plain
      ∙ ap (λ (first : ℕ). unwrap_or (chosen areas list) first) first_plain

abbrev first_or : Bool → Area → Option Area → Option Area
first_or b area o = cond b (Some area) o

plain_first : (b : Bool) (area : Area) (o : Option Area) → first_or b (plain_area area) (option_map plain_area o) ≡ option_map plain_area (first_or b area o)
plain_first true area o = refl
plain_first false area o = refl

selector_plain : (areas : List Area) → selector_of (map plain_area areas) ≡ option_map plain_area (selector_of areas)
selector_plain [] = refl
selector_plain (area ∷ areas) =
    ap (first_or (not (is_store area)) (plain_area area)) (selector_plain areas)
    ∙ plain_first (not (is_store area)) area (selector_of areas)

-- stands for an area that is not there
abbrev nowhere : Area
nowhere = record { label = record { bytes = []; spare = [] }; role = Sel; bank = 0; first = 0; sectors = 0; version = 1 }

at_plain : (areas : List Area) (place : ℕ) → plain_area (slice_index_or (map plain_area areas) place nowhere) ≡ plain_area (slice_index_or areas place nowhere)
at_plain [] place = refl
at_plain (area ∷ areas) zero = refl
at_plain (area ∷ areas) (suc place) = at_plain areas place

of_option : (f : Area → ℕ) → ((area : Area) → f (plain_area area) ≡ f area) → (o other : Option Area) → other ≡ option_map plain_area o → option_map_or f other 0 ≡ option_map_or f o 0
of_option f same None other is = ap (λ (x : Option Area). option_map_or f x 0) is
of_option f same (Some area) other is = ap (λ (x : Option Area). option_map_or f x 0) is ∙ same area

-- where each byte of the area is FF
abbrev blank_at : List Area → Device → ℕ → Bool
blank_at areas d place = option_map_or (is_blank_on d) (slice_get areas place) false

-- the area that is read
abbrev picked : (ℕ → Bool) → ℕ → ℕ → ℕ
picked blank active other = cond (blank active && not (blank other)) other active

-- ---- on a device

module _ (areas : List Area) (d : Device) where
  active_with_plain : (o : Option Area) → active_with (map plain_area areas) d (option_map plain_area o) ≡ active_with areas d o
  active_with_plain None = first_plain areas
  active_with_plain (Some selector) = chosen_plain areas _

  active_plain : active_on (map plain_area areas) d ≡ active_on areas d
  active_plain = ap (active_with (map plain_area areas) d) (selector_plain areas) ∙ active_with_plain (selector_of areas)

  blank_alike : (o : Option Area) → option_map_or (is_blank_on d) (option_map plain_area o) false ≡ option_map_or (is_blank_on d) o false
  blank_alike None = refl
  blank_alike (Some area) = refl

  blank_plain : blank_at (map plain_area areas) d ≡ blank_at areas d
  blank_plain = fun_ext (λ (i : ℕ). ap (λ (o : Option Area). option_map_or (is_blank_on d) o false) (slice_get-map plain_area areas i) ∙ blank_alike (slice_get areas i))

  picked_plain :
      picked (blank_at (map plain_area areas) d) (active_on (map plain_area areas) d) (beside_in (map plain_area areas) (active_on (map plain_area areas) d))
      ≡ picked (blank_at areas d) (active_on areas d) (beside_in areas (active_on areas d))
  picked_plain =
      ap (λ (p : ℕ → Bool). picked p (active_on (map plain_area areas) d) (beside_in (map plain_area areas) (active_on (map plain_area areas) d))) blank_plain
      ∙ ap (λ (n : ℕ). picked (blank_at areas d) n (beside_in (map plain_area areas) n)) active_plain
      ∙ ap (λ (o : Option ℕ). picked (blank_at areas d) (active_on areas d) (unwrap_or o (active_on areas d))) (target_plain areas (active_on areas d))

  active_area_plain : plain_area (active_area (map plain_area areas) d) ≡ plain_area (active_area areas d)
  active_area_plain =
      ap (λ (n : ℕ). plain_area (slice_index_or (map plain_area areas) n nowhere)) active_plain ∙ at_plain areas (active_on areas d)

  erases_plain : selector_erases (map plain_area areas) d ≡ selector_erases areas d
  erases_plain = of_option _ (λ area. refl) (selector_of areas) (selector_of (map plain_area areas)) (selector_plain areas)

  selector_too : option_map plain_area (selector_of (map plain_area areas)) ≡ option_map plain_area (selector_of areas)
  selector_too = ap (option_map plain_area) (selector_plain areas) ∙ twice areas (selector_of areas)

-- the place of the area that is read
trusted_plain : (areas : List Area) (image : Plain) → trusted_in (map plain_area areas) image ≡ trusted_in areas image
trusted_plain areas image =
    trusted_of_is (map plain_area areas) (flash_of image) ∙ picked_plain areas (flash_of image) ∙ sym (trusted_of_is areas (flash_of image))

-- and the area
trusted_too : (areas : List Area) (image : Plain)
    → option_map plain_area (slice_get (map plain_area areas) (trusted_in (map plain_area areas) image)) ≡ option_map plain_area (slice_get areas (trusted_in areas image))
trusted_too areas image =
    ap (λ (n : ℕ). option_map plain_area (slice_get (map plain_area areas) n)) (trusted_plain areas image)
    ∙ ap (option_map plain_area) (slice_get-map plain_area areas (trusted_in areas image))
    ∙ twice areas (slice_get areas (trusted_in areas image))

-- the area at a place
place_too : (areas : List Area) (place : ℕ) → option_map plain_area (slice_get (map plain_area areas) place) ≡ option_map plain_area (slice_get areas place)
place_too areas place = ap (option_map plain_area) (slice_get-map plain_area areas place) ∙ twice areas (slice_get areas place)

-- ---- two lists of the areas of one image

module _ (image : Plain) (areas others : List Area) (has : HasAreas image areas) (too : HasAreas image others) where
  -- what is the same without those bytes is the same of both
  both_same : {X : Type 0} (f : List Area → X) → ((list : List Area) → f (map plain_area list) ≡ f list) → f areas ≡ f others
  both_same f same = sym (same areas) ∙ ap f (has.are ∙ sym too.are) ∙ same others

  active_same : plain_area (active_area areas (flash_of image)) ≡ plain_area (active_area others (flash_of image))
  active_same = both_same (λ (list : List Area). plain_area (active_area list (flash_of image))) (λ list. active_area_plain list (flash_of image))

  erases_same : selector_erases areas (flash_of image) ≡ selector_erases others (flash_of image)
  erases_same = both_same (λ (list : List Area). selector_erases list (flash_of image)) (λ list. erases_plain list (flash_of image))

  pub settings_owe : (most : ℕ) → OwesOf any_stores areas image most → OwesOf any_stores others image most
  settings_owe most owes = record {
    units = owes.units;
    owed = same_owes (flash_of image) (active_area areas (flash_of image)) (active_area others (flash_of image)) owes.units active_same owes.owed;
    within = subst (λ (n : ℕ). n + owes.units ≤ most) erases_same owes.within;
  }

  pub mirror_owes : (due most : ℕ) → MirrorOwes areas image due most → MirrorOwes others image due most
  mirror_owes due most owes = record {
    selector = λ other at.
        let found = found_in (selector_of areas) other
        (both_same (λ (list : List Area). option_map plain_area (selector_of list)) (λ list. selector_too list (flash_of image)) ∙ ap (option_map plain_area) at) in
        subst (λ (area : Area). LogOwes image area due) found.2 (owes.selector found.0 found.1);
    read = λ other at.
        let found = found_in (slice_get areas (trusted_in areas image)) other
        (both_same (λ (list : List Area). option_map plain_area (slice_get list (trusted_in list image))) (λ list. trusted_too list image) ∙ ap (option_map plain_area) at) in
        same_owes (flash_of image) found.0 other most found.2 (owes.read found.0 found.1);
    both = λ whole. absurd (false≢true whole);
  }

  pub both_owe : (most : ℕ) → BothOweIn areas image most → BothOweIn others image most
  both_owe most owe place other at store =
      let found = found_in (slice_get areas place) other
      (both_same (λ (list : List Area). option_map plain_area (slice_get list place)) (λ list. place_too list place) ∙ ap (option_map plain_area) at) in
      same_owes (flash_of image) found.0 other most found.2 (owe place found.0 found.1 (ap (λ (a : Area). is_store a) found.2 ∙ store))

pub settings_owe_alike : SettingsOweAlike
settings_owe_alike image areas others most has too = settings_owe image areas others has too most

pub mirrors_owe_alike : MirrorsOweAlike
mirrors_owe_alike image areas others due most has too = (mirror_owes image areas others has too due most, both_owe image areas others has too most)

pub logs_owe_alike : LogsOweAlike
logs_owe_alike image area other most has too owes =
    subst (λ (a : Area). LogOwes image a most) (some_same (plain_area area) (plain_area other) (ap (λ (list : List Area). slice_get list 0) (has.are ∙ sym too.are))) owes
