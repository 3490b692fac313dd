-- What the blank image of a word owes to a mount of its log or its mirror.
use Rattle.std.proofs.Common.{◌≡◌, ◌∙◌, ℕ, Bool, true, false, cond, List, [], ◌∷◌, Option, Some, None, refl, sym, ap, subst, arith}
use Rattle.std.specs.Prelude.{unwrap_or}
use Rattle.std.specs.List.{slice_get}
use Rattle.std.specs.Option.{option_map_or}
use Rattle.std.proofs.lemmas.Bool.{false≢true}
use Rattle.flash_map.specs.Area.{geometry_of, sectors_of}
use Rattle.flash_map.specs.Lawful.{IsLawfulFor}
use Rattle.flash_map.specs.declared.area.Area.{Area}
use Rattle.flash_map.specs.declared.area.Role.{Role}
use Rattle.backend_api.specs.Boot.{Owes}
use Rattle.migrator.specs.Active.{active_on}
use Rattle.migrator.specs.Areas.{is_store, is_store_at, stores, target}
use Rattle.migrator.proofs.AreaLemmas.{target-store}
use Rattle.any_backend.specs.ByRole.{any_owes, any_serves, owes_as}
use Rattle.any_backend.specs.Standing.{rests-owe}
use Rattle.any_backend.proofs.Blanks.{blank_rests}
use Rattle.session.specs.OnMap.{IsServedMap}
use Rattle.mirror_session.specs.Bench.{beside_in, is_gone}
use Rattle.mirror_session.proofs.PlaceLemmas.{trusted_of_is}
use Rattle.image_file.specs.Format.{Plain}
use Rattle.image_file.specs.Spec.{IsSpec}
use Rattle.image_jobs.specs.Blank.{NamesNone}
use Rattle.image_jobs.specs.Images.{HasAreas, flash_of}
use Rattle.image_jobs.proofs.BlankLemmas.{areas_are_blank, names_none}
use Rattle.image_jobs.proofs.ServedLemmas.{maps_are_served}
use Rattle.session_jobs.specs.MirrorJobs.{BothOweIn, OwesIn, trusted_in}
use Rattle.image_tool.specs.Blank.{LogSpecsOweNothing, MirrorSpecsOweNothing}
use Rattle.image_tool.proofs.Generated.{held_lawful}

module _ (word : List ℕ) (image : Plain) (areas : List Area) (is : IsSpec word image) (has : HasAreas image areas) where
  served : IsServedMap any_serves areas (flash_of image)
  served = maps_are_served areas (flash_of image) (held_lawful image areas has is.lawful)

  selects : NamesNone areas (flash_of image)
  selects = names_none areas (flash_of image) is.blank served.lawful

  -- no store area owes anything
  each_owes : (place : ℕ) (area : Area) (most : ℕ) → slice_get areas place ≡ Some area → is_store_at areas place ≡ true → Owes any_owes (flash_of image) area most
  each_owes place area most at store =
      let lawful : IsLawfulFor image.banks area = served.lawful.each place area at in
      let holds : is_store area ≡ true = sym (ap (λ (o : Option Area). option_map_or is_store o false) at) ∙ store in
      rests-owe area (geometry_of (flash_of image) area) (sectors_of (flash_of image) area) most
      (blank_rests (flash_of image) area lawful (served.served place area at holds) (areas_are_blank (flash_of image) area is.blank lawful))

  active_stores : is_store_at areas (active_on areas (flash_of image)) ≡ true
  active_stores = subst (λ (place : ℕ). is_store_at areas place ≡ true) (sym selects.first) served.some

  one_stores : (active other : ℕ) (b : Bool) → is_store_at areas active ≡ true → is_store_at areas other ≡ true → is_store_at areas (cond b other active) ≡ true
  one_stores active other true first second = second
  one_stores active other false first second = first

  beside_stores : (active : ℕ) (o : Option ℕ) → target areas active ≡ o → is_store_at areas active ≡ true → is_store_at areas (unwrap_or o active) ≡ true
  beside_stores active None found store = store
  beside_stores active (Some other) found store = (target-store areas active other found).0

  -- the area that is read is a store area
  trusted_stores : is_store_at areas (trusted_in areas image) ≡ true
  trusted_stores =
      subst (λ (place : ℕ). is_store_at areas place ≡ true) (sym (trusted_of_is areas (flash_of image)))
      (one_stores (active_on areas (flash_of image)) (beside_in areas (active_on areas (flash_of image))) (is_gone areas (flash_of image)) active_stores
      (beside_stores (active_on areas (flash_of image)) (target areas (active_on areas (flash_of image))) refl active_stores))

  pub owes_nothing : (due most : ℕ) → OwesIn areas image due most
  owes_nothing due most = record {
    selector = λ area at. let none = selects.idle area at in omega (arith, none);
    read = λ area at. each_owes (trusted_in areas image) area most at trusted_stores;
    both = λ whole. absurd (false≢true whole);
  }

  pub both_owe_nothing : (most : ℕ) → BothOweIn areas image most
  both_owe_nothing most place area at store = each_owes place area most at (ap (λ (o : Option Area). option_map_or is_store o false) at ∙ store)

pub mirrors_owe_nothing : MirrorSpecsOweNothing
mirrors_owe_nothing word image areas is has mirrored due most = (owes_nothing word image areas is has due most, both_owe_nothing word image areas is has most)

pub logs_owe_nothing : LogSpecsOweNothing
logs_owe_nothing word image area is has role =
    subst (λ (r : Role). owes_as r area (geometry_of (flash_of image) area) (sectors_of (flash_of image) area) 0) role
    (each_owes word image (area ∷ []) is has 0 area 0 refl (ap stores role))
