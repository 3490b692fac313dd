-- A mount of the trusted side, and then of the other one: what each leaves, and what it spends.
use Rattle.std.proofs.Common.{◌≡◌, ◌≢◌, ◌⊎◌, ℕ, ◌+◌, ◌≤◌, Bool, true, false, List, [], ◌∷◌, Option, Some, None, Result, Ok, Err, refl, sym, ap, subst, ◌∙◌, inl, inr, arith}
use Rattle.std.specs.FinMap as maps
use Rattle.std.specs.List.{slice_get}
use Rattle.std.proofs.lemmas.Option.{none-some}
use Rattle.flash_sim.specs.Bank.{IsLawful}
use Rattle.flash_sim.specs.Device.{Device}
use Rattle.flash_map.specs.declared.area.Area.{Area}
use Rattle.flash_map.specs.declared.area.Geometry.{Geometry}
use Rattle.flash_map.specs.declared.area.Role.{Role}
use Rattle.flash_map.specs.declared.area.Role.TheVariants.{Nvs, Zms, Fcb, Sel}
use Rattle.flash_map.specs.declared.faults.Damaged.{Damaged}
use Rattle.flash_map.specs.declared.faults.MountFault.{MountFault}
use Rattle.flash_map.specs.declared.faults.MountFault.TheVariants.{Damaged as HasDamage, PowerLost as MountLost, NoMemory as MountNoMemory}
use Rattle.flash_map.specs.Area.{geometry_of, sectors_of}
use Rattle.flash_map.specs.On.{on, HoldsOn, StandsOn}
use Rattle.flash_map.specs.Spending.{SpendsAtMost}
use Rattle.flash_map.specs.Touches.{Touches}
use Rattle.flash_map.proofs.Apart.{same_apart}
use Rattle.flash_map.proofs.SpendingLemmas.{most_weaker}
use Rattle.backend_api.specs.Ends.{MountEnds}
use Rattle.backend_api.specs.Map.{Map}
use Rattle.backend_api.specs.Room.{Room, foreign_units}
use Rattle.backend_api.specs.Written.{StaysWritten}
use Rattle.migrator.specs.Migrating.{fill_units}
use Rattle.migrator.proofs.Copies.{geometry-same}
use Rattle.migrator.proofs.Moving.{still}
use Rattle.migrator.proofs.Spent.{most_then}
use Rattle.mirror.specs.declared.mounting.MirrorMount.{MirrorMount}
use Rattle.mirror.specs.declared.mounting.MirrorMount.TheVariants.{Damaged as IsDamaged, Unfit, PowerLost, NoMemory}
use Rattle.mirror.specs.declared.sides.Side.{Side}
use Rattle.mirror.specs.declared.mirror.Mirror.{Mirror}
use Rattle.mirror.specs.Mounting.{BothEnds, FitsAt, HoldEnds, HoldsMap, KeepsArea, KeepsCopy, OtherEnds, SideEnds, SparesBoth, both_mounts, both_units, mount_lost, other_place, other_units}
use Rattle.mirror.specs.Room.{IsMirrored, Prices}
use Rattle.mirror.specs.Trusted.{IsMirrorMap}
use Rattle.mirror.proofs.BothSteps.{bytes-before, bytes-behind, fits-still, mounted-bytes, same-bytes}
use Rattle.mirror.proofs.MapSteps.{other-is, some-area}

-- an area that may be mirrored is none of records
pub not-records : (area : Area) → IsMirrored area → area.role ≡ Fcb → ⊥
not-records area (inl nvs) fcb = at (sym nvs ∙ fcb)
  where
    at : Nvs ≡ Fcb → ⊥
    at e = cc
not-records area (inr zms) fcb = at (sym zms ∙ fcb)
  where
    at : Zms ≡ Fcb → ⊥
    at e = cc

within : (a b : ℕ) → a ≤ a + b
within a b = omega arith

-- the other area was mounted
pub opened-first : (d m : Device) (own area : Area) (names : ℕ) → own ≡ area → SpendsAtMost d m (foreign_units (geometry_of d own)) → SpendsAtMost d m (other_units (geometry_of d area) names)
opened-first d m own area names same spent =
    most_weaker d m (foreign_units (geometry_of d area)) (other_units (geometry_of d area) names) (within (foreign_units (geometry_of d area)) (fill_units (geometry_of d area) names))
    (subst (λ (x : Area). SpendsAtMost d m (foreign_units (geometry_of d x))) same spent)

-- and repaired
pub opened-then : (d m e : Device) (own area : Area) (before now : Map) → m.banks ≡ d.banks → own ≡ area → now ≡ before → SpendsAtMost d m (foreign_units (geometry_of d own)) → SpendsAtMost m e (fill_units (geometry_of m area) (maps.len now))
    → SpendsAtMost d e (other_units (geometry_of d area) (maps.len before))
opened-then d m e own area before now banks same is first second =
    most_then d m e (foreign_units (geometry_of d area)) (fill_units (geometry_of d area) (maps.len before))
    (subst (λ (x : Area). SpendsAtMost d m (foreign_units (geometry_of d x))) same first)
    (subst (λ (x : Map). SpendsAtMost m e (fill_units (geometry_of d area) (maps.len x))) is (subst (λ (g : Geometry). SpendsAtMost m e (fill_units g (maps.len now))) (geometry-same d m area banks) second))

module _ (damage : Area → Geometry → List (List ℕ) → Option Damaged) (contents : Area → Geometry → List (List ℕ) → Map) (rests : Area → Geometry → List (List ℕ) → Type 0) where
  -- ---- one area, whose mount keeps what it holds

  pub held-on : (d m : Device) (area : Area) (settings : Map) → (on damage d area ≡ None → on damage m area ≡ None) → (on damage d area ≡ None → on contents m area ≡ on contents d area)
      → (HoldsOn rests d area → m ≡ d) → StaysWritten d m area → SpendsAtMost d m (foreign_units (geometry_of d area))
      → HoldsMap damage contents d area settings → KeepsCopy damage contents rests d m area settings (foreign_units (geometry_of d area))
  held-on d m area settings sound keeps rest stays units holds = record {
    holds = record { sound = sound holds.sound; reads = keeps holds.sound ∙ holds.reads };
    bytes = mounted-bytes rests d m area rest stays;
    at_most = units;
  }

  -- one that is damaged holds no map
  pub not-held : {S : Type 0} (d m : Device) (area : Area) (settings : Map) (r : Result S MountFault) (shown : Damaged) → r ≡ Err (HasDamage shown) → MountEnds (on damage d area) d m r → ¬ HoldsMap damage contents d area settings
  not-held {S} d m area settings r shown is ends holds =
      let did : (on damage d area ≡ Some shown) × (m ≡ d) = subst (λ (x : Result S MountFault). MountEnds (on damage d area) d m x) is ends in
      none-some shown (sym holds.sound ∙ did.0)

  -- where there is no store, it holds another map, or none
  pub is-due : {S : Type 0} (mounted : S → Area) (stands : S → Geometry → List (List ℕ) → Type 0) (d m : Device) (area : Area) (settings : Map) (o : Option S) → o ≡ None → HoldEnds mounted stands damage contents d m area settings (Ok o)
      → ¬ HoldsMap damage contents d area settings
  is-due {S} mounted stands d m area settings o none ends = subst (λ (x : Option S). HoldEnds mounted stands damage contents d m area settings (Ok x)) none ends

  -- ---- the trusted side

  pub record SideDone (d m : Device) (t o : Area) : Type 0 where
    pub banks : m.banks ≡ d.banks
    pub undamaged : on damage d t ≡ None → on damage m t ≡ None
    pub reads : on damage d t ≡ None → on contents m t ≡ on contents d t
    pub beside : sectors_of m o ≡ sectors_of d o
    pub rest : HoldsOn rests d t → m ≡ d
    pub written : StaysWritten d m t
    pub units : SpendsAtMost d m (foreign_units (geometry_of d t))

  pub side-done : (serves : Area → Geometry → Type 0) (areas : List Area) (d : Device) (map : IsMirrorMap serves areas d) (m : Device) (place : ℕ) (a t o : Area) (lost : Bool)
      → slice_get areas place ≡ Some a → slice_get areas place ≡ Some t → slice_get areas (other_place areas place) ≡ Some o → IsLawful d.banks d.bytes → IsLawful m.banks m.bytes → Touches (a ∷ []) d m lost
      → (on damage d a ≡ None → on damage m a ≡ None) → (on damage d a ≡ None → on contents m a ≡ on contents d a) → (HoldsOn rests d a → m ≡ d) → StaysWritten d m a → SpendsAtMost d m (foreign_units (geometry_of d a))
      → SideDone d m t o
  side-done serves areas d map m place a t o lost at there beside lawful mid touches sound keeps rest written units =
      let others = other-is serves areas d map place in
      subst (λ (x : Area). SideDone d m x o) (some-area a t (sym at ∙ there)) (record {
        banks = touches.banks;
        undamaged = sound;
        reads = keeps;
        beside = same_apart {area = a} {other = o} {old = d} {new = m} {lost = lost} lawful mid (map.lawful.each (other_place areas place) o beside).in_bank
            (map.lawful.apart place (other_place areas place) a o at beside (λ e. others.differs (sym e))) touches;
        rest = rest;
        written = written;
        units = units;
      })

  -- ---- the other one

  pub record OtherDone (m e : Device) (t o : Area) : Type 0 where
    pub banks : e.banks ≡ m.banks
    pub beside : sectors_of e t ≡ sectors_of m t
    pub held : HoldsMap damage contents m o (on contents m t) → KeepsCopy damage contents rests m e o (on contents m t) (foreign_units (geometry_of m o))
    pub idle : HoldsMap damage contents m o (on contents m t) → HoldsOn rests m o → e ≡ m
    pub units : SpendsAtMost m e (other_units (geometry_of m o) (maps.len (on contents m t)))

  pub other-done : (m e : Device) (b o x t : Area) → b ≡ o → x ≡ t → e.banks ≡ m.banks → sectors_of e x ≡ sectors_of m x
      → (HoldsMap damage contents m b (on contents m x) → KeepsCopy damage contents rests m e b (on contents m x) (foreign_units (geometry_of m b))) → (HoldsMap damage contents m b (on contents m x) → HoldsOn rests m b → e ≡ m)
      → SpendsAtMost m e (other_units (geometry_of m b) (maps.len (on contents m x))) → OtherDone m e t o
  other-done m e b o x t b_is x_is banks beside held idle units =
      subst (λ (y : Area). OtherDone m e y o) x_is (subst (λ (y : Area). OtherDone m e x y) b_is (record { banks = banks; beside = beside; held = held; idle = idle; units = units }))

  -- ---- what both leave

  module _ (d m : Device) (t o : Area) (one : SideDone d m t o) where
    pub spares-first : SparesBoth damage contents rests d m t o
    spares-first = record {
      bytes = mounted-bytes rests d m t one.rest one.written;
      kept = λ none. record { undamaged = one.undamaged none; reads = one.reads none };
      held = λ none holds. record {
        holds = record { sound = still damage d m o one.banks one.beside ∙ holds.sound; reads = still contents d m o one.banks one.beside ∙ holds.reads };
        bytes = same-bytes rests d m o one.beside;
        at_most = most_weaker d m (foreign_units (geometry_of d t)) (both_mounts d t o) (within (foreign_units (geometry_of d t)) (foreign_units (geometry_of d o))) one.units;
      };
    }

    pub units-first : (names : ℕ) → SpendsAtMost d m (both_units d t o names)
    units-first names = most_weaker d m (foreign_units (geometry_of d t)) (both_units d t o names) (within (foreign_units (geometry_of d t)) (other_units (geometry_of d o) names)) one.units

    module _ (e : Device) (two : OtherDone m e t o) where
      pub spares-then : SparesBoth damage contents rests d e t o
      spares-then = record {
        bytes = bytes-before rests d m e t (mounted-bytes rests d m t one.rest one.written) two.beside;
        kept = λ none. record { undamaged = still damage m e t two.banks two.beside ∙ one.undamaged none; reads = still contents m e t two.banks two.beside ∙ one.reads none };
        held = λ none holds.
            let after = two.held (record { sound = still damage d m o one.banks one.beside ∙ holds.sound; reads = still contents d m o one.banks one.beside ∙ holds.reads ∙ sym (one.reads none) }) in
            record {
              holds = record { sound = after.holds.sound; reads = after.holds.reads ∙ one.reads none };
              bytes = bytes-behind rests d m e o one.banks one.beside after.bytes;
              at_most =
                  most_then d m e (foreign_units (geometry_of d t)) (foreign_units (geometry_of d o)) one.units
                  (subst (λ (g : Geometry). SpendsAtMost m e (foreign_units g)) (geometry-same d m o one.banks) after.at_most);
            };
      }

      pub idle-then : HoldsOn rests d t → HoldsOn rests d o → HoldsMap damage contents d o (on contents d t) → e ≡ d
      idle-then here there holds =
          let same : m ≡ d = one.rest here in
          two.idle (subst (λ (x : Device). HoldsMap damage contents x o (on contents x t)) (sym same) holds) (subst (λ (x : Device). HoldsOn rests x o) (sym same) there) ∙ same

      pub units-then : on damage d t ≡ None → SpendsAtMost d e (both_units d t o (maps.len (on contents d t)))
      units-then none =
          most_then d m e (foreign_units (geometry_of d t)) (other_units (geometry_of d o) (maps.len (on contents d t))) one.units
          (subst (λ (x : Map). SpendsAtMost m e (other_units (geometry_of d o) (maps.len x))) (one.reads none)
          (subst (λ (g : Geometry). SpendsAtMost m e (other_units g (maps.len (on contents m t)))) (geometry-same d m o one.banks) two.units))

  -- ---- how a mount of both ends that stopped

  module _ {S : Type 0} (mounted : S → Area) (stands : S → Geometry → List (List ℕ) → Type 0) (room : Area → Geometry → Room) (prices : Area → Geometry → Prices) (areas : List Area) (d m : Device) (t o : Area) (place : ℕ) (one : SideDone d m t o) where
    -- in the trusted side
    pub side-stops : (fault : MirrorMount) → SideEnds mounted stands damage d m t place (Err fault) → Touches (t ∷ []) d m (mount_lost {T = Side S} (Err fault)) → BothEnds mounted stands damage contents room prices areas d m t o place (Err fault)
    side-stops (IsDamaged at shown) did touches = did
    side-stops (Unfit unfit) did touches = absurd did
    side-stops PowerLost did touches = (did, record { undamaged = one.undamaged did; reads = one.reads did }, inl touches)
    side-stops NoMemory did touches = (λ none. record { undamaged = one.undamaged none; reads = one.reads none }, λ shown is. did)

    fits-first : on damage d t ≡ None → (x : ℕ) → FitsAt room prices areas m x (on contents m t) → FitsAt room prices areas d x (on contents d t)
    fits-first none x fits area at = fits-still mounted stands contents room prices m d area (on contents m t) (on contents d t) (sym one.banks) (sym (one.reads none)) (fits area at)

    -- or in the other one
    pub other-stops : (e : Device) (two : OtherDone m e t o) (area : Area) (same : Type 0) (fault : MirrorMount) → on damage d t ≡ None → OtherEnds mounted stands e area same (Err fault)
        → FitsAt room prices areas m place (on contents m t) → FitsAt room prices areas m (other_place areas place) (on contents m t) → BothEnds mounted stands damage contents room prices areas d e t o place (Err fault)
    other-stops e two area same (IsDamaged at shown) none did fits other_fits = absurd did
    other-stops e two area same (Unfit unfit) none did fits other_fits = absurd did
    other-stops e two area same PowerLost none did fits other_fits =
        (none, (spares-then d m t o one e two).kept none, inr (fits-first none place fits, fits-first none (other_place areas place) other_fits))
    other-stops e two area same NoMemory none did fits other_fits =
        ((λ again. (spares-then d m t o one e two).kept none), λ shown is. absurd (none-some shown (sym none ∙ is)))
