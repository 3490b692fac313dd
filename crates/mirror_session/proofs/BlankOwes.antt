-- A blank area in the place of another owes nothing, and the areas beside it owe what they owed.
use Rattle.std.proofs.Common.{◌≡◌, ◌≢◌, inl, inr, ℕ, true, List, [], ◌∷◌, Some, refl, sym, ap, subst, ◌∙◌}
use Rattle.std.specs.List.{slice_get}
use Rattle.std.proofs.lemmas.Bool.{cases_eq}
use Rattle.flash_sim.specs.Bank.{IsLawful}
use Rattle.flash_sim.specs.Device.{Device}
use Rattle.flash_map.specs.declared.area.Area.{Area}
use Rattle.flash_map.specs.declared.area.Geometry.{Geometry}
use Rattle.flash_map.specs.Area.{AreApart, geometry_of, sectors_of}
use Rattle.flash_map.specs.Lawful.{IsLawfulFor}
use Rattle.flash_map.specs.On.{HoldsOn}
use Rattle.migrator.specs.Areas.{is_store_at}
use Rattle.mirror.specs.Trusted.{IsMirrorMap, is_blank_on}
use Rattle.session_table.specs.Bench.{area_at}
use Rattle.session.proofs.ActiveAreas.{store_there}
use Rattle.mirror_session.specs.LineDone.{blanked}
use Rattle.mirror_session.specs.Owing.{BothOwe}
use Rattle.mirror_session.proofs.BlankLemmas.{blank_lawful, is_blank, of_one, outside_blank}
use Rattle.mirror_session.proofs.SelectorLemmas.{same_beyond}

some_same : (x y : Area) → Some x ≡ Some y → x ≡ y
some_same x y e = cc

module _ (serves : Area → Geometry → Type 0) (rests : Area → Geometry → List (List ℕ) → Type 0) (owing : Area → Geometry → List (List ℕ) → ℕ → Type 0)
    (areas : List Area) (d : Device) (map : IsMirrorMap serves areas d) (lawful : IsLawful d.banks d.bytes)
    (resting : (x : Device) (area : Area) → IsLawful x.banks x.bytes → IsLawfulFor x.banks area → serves area (geometry_of x area) → is_blank_on x area ≡ true → HoldsOn rests x area)
    (owe : (area : Area) (geometry : Geometry) (sectors : List (List ℕ)) (most : ℕ) → rests area geometry sectors → owing area geometry sectors most)
    (place : ℕ) (stores : is_store_at areas place ≡ true) where
  abbrev area : Area
  area = area_at areas place

  abbrev new : Device
  new = blanked d area

  is_there : slice_get areas place ≡ Some area
  is_there = store_there areas place stores

  is_lawful : IsLawfulFor d.banks area
  is_lawful = map.lawful.each place area is_there

  lawful_new : IsLawful d.banks new.bytes
  lawful_new = blank_lawful d area lawful is_lawful

  -- areas beside it stay
  stays : (k : ℕ) (x : Area) → slice_get areas k ≡ Some x → place ≢ k → sectors_of new x ≡ sectors_of d x
  stays k x at apart =
      same_beyond (area ∷ []) x d new lawful lawful_new (map.lawful.each k x at).in_bank (of_one (λ a. AreApart a x) area (map.lawful.apart place k area x is_there at apart)) refl (outside_blank d area lawful is_lawful)

  pub blanked_owe : (most : ℕ) → BothOwe owing areas d most → BothOwe owing areas new most
  blanked_owe most was k x at store = elim (cases_eq place k) [
    | inl same ↦
        let is : area ≡ x = some_same area x (sym is_there ∙ ap (slice_get areas) same ∙ at) in
        let blank : is_blank_on new x ≡ true = subst (λ (a : Area). is_blank_on new a ≡ true) is (is_blank d area lawful is_lawful) in
        owe x (geometry_of new x) (sectors_of new x) most (resting new x lawful_new (map.lawful.each k x at) (map.served k x at store) blank)
    | inr differ ↦ subst (λ (l : List (List ℕ)). owing x (geometry_of d x) l most) (sym (stays k x at differ)) (was k x at store)
  ]
