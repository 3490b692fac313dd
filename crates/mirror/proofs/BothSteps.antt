-- A command on both sides, the trusted one first.
use Rattle.std.proofs.Common.{◌≡◌, ◌≢◌, ◌⊎◌, ℕ, ◌+◌, ◌<◌, ◌≤◌, Bool, true, false, List, [], ◌∷◌, Option, Some, None, refl, sym, ap, subst, ◌∙◌, inl, inr, arith}
use Rattle.std.specs.Ordering.{eq_by_cmp}
use Rattle.std.specs.FinMap as maps
use Rattle.std.specs.List.{list_all}
use Rattle.std.proofs.lemmas.Bool.{cases_Bool, false≢true}
use Rattle.flash_sim.specs.Device.{Device}
use Rattle.flash_map.specs.declared.area.Area.{Area}
use Rattle.flash_map.specs.declared.area.Geometry.{Geometry}
use Rattle.flash_map.specs.declared.faults.Damaged.{Damaged}
use Rattle.flash_map.specs.Area.{AreApart, geometry_of, sectors_of, value_limit}
use Rattle.flash_map.specs.On.{on, HoldsOn, StandsOn}
use Rattle.flash_map.specs.Spending.{Spends, SpendsAtMost}
use Rattle.flash_map.specs.Units.{is_erased}
use Rattle.flash_map.proofs.SpendingLemmas.{spends_then}
use Rattle.backend_api.specs.Ends.{SpendsSome}
use Rattle.backend_api.specs.Map.{Map, IsStored}
use Rattle.backend_api.specs.Room.{Room, command_units}
use Rattle.backend_api.specs.Written.{StaysWritten}
use Rattle.backend_api.proofs.LeastLemmas.{cmp}
use Rattle.backend_api.proofs.MapLemmas.{insert-stored, ties_itself, ties_same}
use Rattle.migrator.specs.Migrating.{room_on}
use Rattle.migrator.proofs.Copies.{geometry-same}
use Rattle.migrator.proofs.Moving.{still}
use Rattle.migrator.proofs.Spent.{most_then}
use Rattle.mirror.specs.declared.sides.Side.{Side}
use Rattle.mirror.specs.Mounting.{KeepsBytes}
use Rattle.mirror.specs.Mirrored.{BothHave, IsCut, IsCutBoth, IsDone, IsMirror, SameSide, SideStands}
use Rattle.mirror.specs.Room.{Fits, FitsOn, IsRoomBy, IsTight, IsTightOn, Prices, prices_on, too_many_on}
use Rattle.mirror.proofs.CommandSteps.{side-still}
use Rattle.mirror.proofs.FitLemmas.{put-fits, removed-fits}

some-same : (x y : List ℕ) → Some x ≡ Some y → x ≡ y
some-same x y e = cc

none-is : (x : List ℕ) → Some x ≡ None → ⊥
none-is x e = cc

-- a name has just this value, or not
pub stored-or : (m : Map) (name value : List ℕ) → IsStored m name value ⊎ (¬ IsStored m name value)
stored-or m name value = by (maps.get m name) refl
  where
    by : (o : Option (List ℕ)) → maps.get m name ≡ o → IsStored m name value ⊎ (¬ IsStored m name value)
    by None is = inr (λ stored. none-is value (sym stored ∙ is))
    by (Some v) is = elim (cases_Bool (eq_by_cmp cmp v value)) [
      | inl tie ↦ inl (is ∙ ap (λ (x : List ℕ). Some x) (ties_same v value tie))
      | inr none ↦ inr (λ stored. false≢true (sym none ∙ ap (λ (x : List ℕ). eq_by_cmp cmp x value) (some-same v value (sym is ∙ stored)) ∙ ties_itself value))
    ]

-- a put for which there is room, or that changes nothing, leaves a map that fits
pub put-or-same : (room : Room) (p : Prices) (sectors limit : ℕ) (m : Map) (name value : List ℕ) → IsRoomBy room p → Fits room p sectors limit m → room.too_many m name ≡ false → (¬ IsStored m name value → ¬ IsTight room sectors limit m name value) → Fits room p sectors limit (maps.insert m name value)
put-or-same room p sectors limit m name value is fits few loose = elim (stored-or m name value) [
  | inl stored ↦ subst (λ (n : Map). Fits room p sectors limit n) (sym (insert-stored m name value stored)) fits
  | inr other ↦ put-fits room p is sectors limit m fits name value few (loose other)
]

-- what holds of an area holds of it on another device, where its sectors are the same
pub holds-still : (holds : Area → Geometry → List (List ℕ) → Type 0) (a d : Device) (area : Area) → d.banks ≡ a.banks → sectors_of d area ≡ sectors_of a area → HoldsOn holds a area → HoldsOn holds d area
holds-still holds a d area banks same is =
    subst (λ (g : Geometry). holds area g (sectors_of d area)) (sym (geometry-same a d area banks))
    (subst (λ (s : List (List ℕ)). holds area (geometry_of a area) s) (sym same) is)

-- ---- the bytes of an area

module _ (rests : Area → Geometry → List (List ℕ) → Type 0) where
  pub same-bytes : (d m : Device) (area : Area) → sectors_of m area ≡ sectors_of d area → KeepsBytes rests d m area
  same-bytes d m area same = record { written = λ blank. sym (ap (list_all is_erased) same) ∙ blank; unchanged = λ is. same }

  -- a call on the area that does nothing at rest
  pub mounted-bytes : (d m : Device) (area : Area) → (HoldsOn rests d area → m ≡ d) → StaysWritten d m area → KeepsBytes rests d m area
  mounted-bytes d m area rest stays = record { written = stays; unchanged = λ is. ap (λ (x : Device). sectors_of x area) (rest is) }

  -- a call beside the area, and then one on it
  pub bytes-behind : (d m e : Device) (area : Area) → m.banks ≡ d.banks → sectors_of m area ≡ sectors_of d area → KeepsBytes rests m e area → KeepsBytes rests d e area
  bytes-behind d m e area banks same kept = record {
    written = λ blank. sym (ap (list_all is_erased) same) ∙ kept.written blank;
    unchanged = λ is. kept.unchanged (holds-still rests d m area banks same is) ∙ same;
  }

  -- a call on the area, and then one beside it
  pub bytes-before : (d m e : Device) (area : Area) → KeepsBytes rests d m area → sectors_of e area ≡ sectors_of m area → KeepsBytes rests d e area
  bytes-before d m e area kept same = record {
    written = λ blank. kept.written (sym (ap (list_all is_erased) same) ∙ blank);
    unchanged = λ is. same ∙ kept.unchanged is;
  }

module _ {S : Type 0} (mounted : S → Area) (stands : S → Geometry → List (List ℕ) → Type 0) (contents : Area → Geometry → List (List ℕ) → Map) (room : Area → Geometry → Room) (prices : Area → Geometry → Prices) where
  -- what fits an area on one device fits it on another
  pub fits-still : (a d : Device) (area : Area) (m n : Map) → d.banks ≡ a.banks → n ≡ m → FitsOn room prices a area m → FitsOn room prices d area n
  fits-still a d area m n banks same fits =
      subst (λ (g : Geometry). Fits (room area g) (prices area g) area.sectors (value_limit area) n) (sym (geometry-same a d area banks))
      (subst (λ (x : Map). Fits (room area (geometry_of a area)) (prices area (geometry_of a area)) area.sectors (value_limit area) x) (sym same) fits)

  -- the mirror behind a command on both sides
  pub mirrors-then : (d e : Device) (t o t' o' : Side S) (after : Map) → IsMirror mounted stands contents room prices d t o → SameSide t t' → SameSide o o' → e.banks ≡ d.banks
      → SideStands mounted stands e t' → SideStands mounted stands e o' → on contents e t.area ≡ after → on contents e o.area ≡ after
      → FitsOn room prices d t.area after → FitsOn room prices d o.area after → IsMirror mounted stands contents room prices e t' o'
  mirrors-then d e t o t' o' after is st so banks ts os tc oc tf of =
      let tc' : on contents e t'.area ≡ after = ap (on contents e) st.area ∙ tc in
      let oc' : on contents e o'.area ≡ after = ap (on contents e) so.area ∙ oc in
      record {
        trusted_stands = ts;
        other_stands = os;
        apart = subst (λ (x : Area). AreApart x o'.area) (sym st.area) (subst (λ (x : Area). AreApart t.area x) (sym so.area) is.apart);
        apart_too = subst (λ (x : Area). AreApart x t'.area) (sym so.area) (subst (λ (x : Area). AreApart o.area x) (sym st.area) is.apart_too);
        version = ap (λ (x : Area). x.version) st.area ∙ is.version ∙ sym (ap (λ (x : Area). x.version) so.area);
        places = λ same. is.places (sym st.place ∙ same ∙ so.place);
        same = oc' ∙ sym tc';
        trusted_fits = subst (λ (x : Area). FitsOn room prices e x (on contents e t'.area)) (sym st.area) (fits-still d e t.area after (on contents e t'.area) banks tc' tf);
        other_fits = subst (λ (x : Area). FitsOn room prices e x (on contents e t'.area)) (sym so.area) (fits-still d e o.area after (on contents e t'.area) banks tc' of);
      }

module _ (damage : Area → Geometry → List (List ℕ) → Option Damaged) (contents : Area → Geometry → List (List ℕ) → Map) where
  -- power was lost on the trusted side
  pub cut-first : (d m : Device) (t o : Area) (nothing : Type 0) (after : Map) → m.banks ≡ d.banks → sectors_of m o ≡ sectors_of d o → on contents d o ≡ on contents d t → on damage d o ≡ None → on damage m t ≡ None
      → IsCut contents d m t nothing after → IsCutBoth damage contents m t o (on contents d t) after
  cut-first d m t o nothing after banks rest same sound trusted cut = record {
    trusted_sound = trusted;
    other_sound = still damage d m o banks rest ∙ sound;
    settings =
        let other : on contents m o ≡ on contents d t = still contents d m o banks rest ∙ same in
        elim cut.settings [
          | inl old ↦ inl (old, other)
          | inr new ↦ inr (inl (new, other))
        ];
  }

  -- or later, on the other one
  pub cut-second : (d m e : Device) (t o : Area) (first : Type 0) (second : Map → Type 0) (after : Map → Map) → m.banks ≡ d.banks → e.banks ≡ m.banks → sectors_of m o ≡ sectors_of d o → sectors_of e t ≡ sectors_of m t → on contents d o ≡ on contents d t
      → on damage m t ≡ None → on damage e o ≡ None → IsDone contents d m t first (after (on contents d t)) → IsCut contents m e o (second (on contents m o)) (after (on contents m o)) → IsCutBoth damage contents e t o (on contents d t) (after (on contents d t))
  cut-second d m e t o first second after banks later rest back same trusted other done cut =
      let was : on contents m o ≡ on contents d t = still contents d m o banks rest ∙ same in
      let has : on contents e t ≡ after (on contents d t) = still contents m e t later back ∙ done.settings in
      record {
        trusted_sound = still damage m e t later back ∙ trusted;
        other_sound = other;
        settings = elim cut.settings [
          | inl old ↦ inr (inl (has, old ∙ was))
          | inr new ↦ inr (inr (has, new ∙ ap after was))
        ];
      }

  -- both are done
  pub done-both : (d m e : Device) (t o : Area) (first : Type 0) (second : Map → Type 0) (after : Map → Map) → m.banks ≡ d.banks → e.banks ≡ m.banks → sectors_of m o ≡ sectors_of d o → sectors_of e t ≡ sectors_of m t → on contents d o ≡ on contents d t
      → IsDone contents d m t first (after (on contents d t)) → IsDone contents m e o (second (on contents m o)) (after (on contents m o)) → BothHave contents e t o (after (on contents d t))
  done-both d m e t o first second after banks later rest back same one two = record {
    trusted_has = still contents m e t later back ∙ one.settings;
    other_has = two.settings ∙ ap after (still contents d m o banks rest ∙ same);
  }

-- what each side spends, both do
pub some-both : (d m e : Device) → SpendsSome d m → SpendsSome m e → SpendsSome d e
some-both d m e one two = (one.0 + two.0, (let a = one.1 in let b = two.1 in omega arith), spends_then d m e one.0 two.0 one.2 two.2)

pub most-first : (d m : Device) (first second : ℕ) → SpendsAtMost d m first → SpendsAtMost d m (first + second)
most-first d m first second one = (one.0, (let a = one.1 in omega arith), one.2)

-- each in its own area
pub most-both-on : (d m e : Device) (t o : Area) → m.banks ≡ d.banks → SpendsAtMost d m (command_units (geometry_of d t)) → SpendsAtMost m e (command_units (geometry_of m o)) → SpendsAtMost d e (command_units (geometry_of d t) + command_units (geometry_of d o))
most-both-on d m e t o banks one two =
    most_then d m e (command_units (geometry_of d t)) (command_units (geometry_of d o)) one (subst (λ (g : Geometry). SpendsAtMost m e (command_units g)) (geometry-same d m o banks) two)
