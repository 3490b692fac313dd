-- Settings in memory, put one after the other into a store.
use Rattle.std.proofs.Common.{◌≡◌, ℕ, suc, ◌+◌, ◌*◌, ◌<◌, ◌≤◌, false, List, [], ◌∷◌, length, Option, Some, None, Result, Ok, Err, refl, sym, ap, subst, ◌∙◌, arith}
use Rattle.std.specs.FinMap as maps
use Rattle.std.specs.List.{slice_get}
use Rattle.std.proofs.Math.Nat.{suc-mul}
use Rattle.std.proofs.lemmas.Nat.{mul-le}
use Rattle.flash_sim.specs.Device.{Device}
use Rattle.flash_sim.specs.declared.flash.Bank.{Bank}
use Rattle.flash_map.specs.declared.area.Area.{Area}
use Rattle.flash_map.specs.declared.area.Geometry.{Geometry}
use Rattle.flash_map.specs.Area.{sectors_of, geometry_of}
use Rattle.flash_map.specs.Spending.{SpendsAtMost}
use Rattle.flash_map.specs.Touches.{Touches}
use Rattle.flash_map.proofs.SpendingLemmas.{most_weaker}
use Rattle.flash_map.proofs.Touches.{then, untouched}
use Rattle.backend_api.specs.Ends.{SetEnds, SetEndsOn, set_lost}
use Rattle.backend_api.specs.Map.{Map}
use Rattle.flash_map.specs.On.{on, StandsOn}
use Rattle.backend_api.specs.Room.{Room, command_units}
use Rattle.backend_api.specs.declared.backend.SetFault.{SetFault}
use Rattle.backend_api.specs.declared.backend.SetFault.TheVariants.{NoSpace, TooManyNames, PowerLost}
use Rattle.migrator.specs.Copying.{before, NoneTooMany, CopyEnds}
use Rattle.migrator.proofs.Names.{before-first, before-all, insert-next, none-many-first, none-many-next}
use Rattle.migrator.proofs.Puts.{Pair, behind-all, first-name, name-at, next-at, stored-at}
use Rattle.migrator.proofs.Spent.{most_none, most_then}

-- ---- an area that another call does not touch

pub geometry-same : (a d : Device) (area : Area) → d.banks ≡ a.banks → geometry_of d area ≡ geometry_of a area
geometry-same a d area banks = ap (λ (b : List Bank). geometry_in b area) banks
  where
    geometry_in : List Bank → Area → Geometry
    geometry_in banks area = geometry_of (record a { banks = banks }) area

row-more : (n units : ℕ) → (n + 1) * units ≡ n * units + units
row-more n units = let e : n + 1 ≡ suc n = omega arith in ap (λ (k : ℕ). k * units) e ∙ suc-mul n units

rows-within : (few many units : ℕ) → few ≤ many → few * units ≤ many * units
rows-within few many units le = mul-le few units many units le (omega arith)

module _ {S : Type 0} (mounted : S → Area) (stands : S → Geometry → List (List ℕ) → Type 0) (contents : Area → Geometry → List (List ℕ) → Map) (room : Area → Geometry → Room) where
  pub stands-still : (a d : Device) (state : S) → d.banks ≡ a.banks → sectors_of d (mounted state) ≡ sectors_of a (mounted state) → StandsOn mounted stands a state → StandsOn mounted stands d state
  stands-still a d state banks same is =
      subst (λ (g : Geometry). stands state g (sectors_of d (mounted state))) (sym (geometry-same a d (mounted state) banks))
      (subst (λ (s : List (List ℕ)). stands state (geometry_of a (mounted state)) s) (sym same) is)

  -- the first so many of these pairs were put, which are the pairs of a map
  pub record HasPut (a d : Device) (to now : S) (pairs : List Pair) (count : ℕ) : Type 0 where
    pub touches : Touches (mounted to ∷ []) a d false
    pub area : mounted now ≡ mounted to
    pub stand : StandsOn mounted stands d now
    pub copied : (m : Map) → pairs ≡ maps.entries m → on contents d (mounted to) ≡ before m (slice_get (maps.keys m) count)
    pub free : (m : Map) → pairs ≡ maps.entries m → NoneTooMany (room (mounted to) (geometry_of a (mounted to))) m (slice_get (maps.keys m) count)
    pub units : SpendsAtMost a d (count * command_units (geometry_of a (mounted to)))

  pub put-none : (a : Device) (to : S) (pairs : List Pair) → StandsOn mounted stands a to → on contents a (mounted to) ≡ maps.empty → HasPut a a to to pairs 0
  put-none a to pairs is empty = record {
    touches = untouched (mounted to ∷ []) a;
    area = refl;
    stand = is;
    copied = λ m same. empty ∙ sym (before-first m (slice_get (maps.keys m) 0) (first-name (maps.keys m)));
    free = λ m same. none-many-first (room (mounted to) (geometry_of a (mounted to))) m (slice_get (maps.keys m) 0) (first-name (maps.keys m));
    units = most_none a a (0 * command_units (geometry_of a (mounted to))) refl;
  }

  -- what the next set says, on the area and the banks from before the first one
  set-says : {T : Type 0} (a d e : Device) (to now : S) (name value : List ℕ) (result : Result T SetFault) → mounted now ≡ mounted to → d.banks ≡ a.banks
      → SetEndsOn room contents d e (mounted now) name value result
      → SetEnds (room (mounted to) (geometry_of a (mounted to))) (mounted to).sectors d e (on contents d (mounted to)) (on contents e (mounted to)) name value result
  set-says a d e to now name value result area banks ends =
      subst (λ (g : Geometry). SetEnds (room (mounted to) g) (mounted to).sectors d e (on contents d (mounted to)) (on contents e (mounted to)) name value result) (geometry-same a d (mounted to) banks)
      (subst (λ (x : Area). SetEndsOn room contents d e x name value result) area ends)

  -- and what it spends beside those before it
  put-spends : (a d e : Device) (to now : S) (pairs : List Pair) (count : ℕ) → HasPut a d to now pairs count → SpendsAtMost d e (command_units (geometry_of d (mounted now))) → SpendsAtMost a e ((count + 1) * command_units (geometry_of a (mounted to)))
  put-spends a d e to now pairs count so_far spent =
      let g : geometry_of d (mounted now) ≡ geometry_of a (mounted to) = ap (geometry_of d) so_far.area ∙ geometry-same a d (mounted to) so_far.touches.banks in
      let one : SpendsAtMost d e (command_units (geometry_of a (mounted to))) = subst (λ (x : Geometry). SpendsAtMost d e (command_units x)) g spent in
      subst (λ (n : ℕ). SpendsAtMost a e n) (sym (row-more count (command_units (geometry_of a (mounted to)))))
      (most_then a d e (count * command_units (geometry_of a (mounted to))) (command_units (geometry_of a (mounted to))) so_far.units one)

  -- as all of them may spend, so many as there are
  pub put-most : (a d e : Device) (to now : S) (pairs : List Pair) (count total : ℕ) → HasPut a d to now pairs count → count < total → SpendsAtMost d e (command_units (geometry_of d (mounted now))) → SpendsAtMost a e (total * command_units (geometry_of a (mounted to)))
  put-most a d e to now pairs count total so_far fewer spent =
      let units : ℕ = command_units (geometry_of a (mounted to)) in
      most_weaker a e ((count + 1) * units) (total * units) (rows-within (count + 1) total units (omega arith)) (put-spends a d e to now pairs count so_far spent)

  pub put-within : (a d : Device) (to now : S) (pairs : List Pair) (count total : ℕ) → HasPut a d to now pairs count → count ≤ total → SpendsAtMost a d (total * command_units (geometry_of a (mounted to)))
  put-within a d to now pairs count total so_far few =
      let units : ℕ = command_units (geometry_of a (mounted to)) in
      most_weaker a d (count * units) (total * units) (rows-within count total units few) so_far.units

  pub put-more : {T : Type 0} (a d e : Device) (to now after : S) (pairs : List Pair) (count : ℕ) (name value : List ℕ) (result : Result T SetFault) (x : T) → result ≡ Ok x → HasPut a d to now pairs count
      → slice_get pairs count ≡ Some (name, value)
      → Touches (mounted now ∷ []) d e (set_lost result) → mounted after ≡ mounted now
      → SetEndsOn room contents d e (mounted now) name value result
      → SpendsAtMost d e (command_units (geometry_of d (mounted now)))
      → (set_lost result ≡ false → StandsOn mounted stands e after)
      → HasPut a e to after pairs (count + 1)
  put-more {T} a d e to now after pairs count name value result x ok so_far at touches area ends spent standing =
      let limits : Room = room (mounted to) (geometry_of a (mounted to)) in
      let did = subst (λ (r : Result T SetFault). SetEnds limits (mounted to).sectors d e (on contents d (mounted to)) (on contents e (mounted to)) name value r) ok
      (set-says a d e to now name value result so_far.area so_far.touches.banks ends) in
      record {
        touches =
            then so_far.touches
            (subst (λ (z : Area). Touches (z ∷ []) d e false) so_far.area (subst (λ (r : Result T SetFault). Touches (mounted now ∷ []) d e (set_lost r)) ok touches));
        area = area ∙ so_far.area;
        stand = standing (ap set_lost ok);
        copied =
            λ m same.
            let here = subst (λ (es : List Pair). slice_get es count ≡ Some (name, value)) same at in
            did.settings
            ∙ ap (λ (z : Map). maps.insert z name value) (so_far.copied m same ∙ ap (before m) (name-at m count (name, value) here))
            ∙ insert-next m name value (slice_get (maps.keys m) (count + 1)) (next-at m count (name, value) here) (stored-at m count (name, value) here);
        free =
            λ m same.
            let here = subst (λ (es : List Pair). slice_get es count ≡ Some (name, value)) same at in
            none-many-next limits m name (slice_get (maps.keys m) (count + 1)) (next-at m count (name, value) here)
            (subst (λ (o : Option (List ℕ)). NoneTooMany limits m o) (name-at m count (name, value) here) (so_far.free m same))
            (ap (λ (z : Map). limits.too_many z name) (sym (so_far.copied m same ∙ ap (before m) (name-at m count (name, value) here))) ∙ did.free);
        units = put-spends a d e to now pairs count so_far spent;
      }

  -- all were put
  pub put-whole : {T : Type 0} (a d : Device) (to now : S) (pairs : List Pair) (count : ℕ) (x : T) → HasPut a d to now pairs count → length pairs ≤ count
      → (m : Map) → pairs ≡ maps.entries m → CopyEnds {T = T} (room (mounted to) (geometry_of a (mounted to))) (mounted to).sectors m (on contents d (mounted to)) (Ok x)
  put-whole a d to now pairs count x so_far all m same =
      let end : slice_get (maps.keys m) count ≡ None = behind-all m count (subst (λ (es : List Pair). length es ≤ count) same all) in
      (so_far.copied m same ∙ ap (before m) end ∙ before-all m, subst (λ (o : Option (List ℕ)). NoneTooMany (room (mounted to) (geometry_of a (mounted to))) m o) end (so_far.free m same))

  -- a set that was refused
  pub put-refused : {T : Type 0} (a d e : Device) (to now : S) (pairs : List Pair) (count : ℕ) (name value : List ℕ) (result : Result T SetFault) (fault : SetFault) → result ≡ Err fault → HasPut a d to now pairs count
      → slice_get pairs count ≡ Some (name, value)
      → SetEndsOn room contents d e (mounted now) name value result
      → (m : Map) → pairs ≡ maps.entries m → CopyEnds {T = T} (room (mounted to) (geometry_of a (mounted to))) (mounted to).sectors m (on contents e (mounted to)) (Err fault)
  put-refused {T} a d e to now pairs count name value result fault is so_far at ends m same =
      by fault (subst (λ (z : Map). SetEnds {T = T} limits (mounted to).sectors d e z (on contents e (mounted to)) name value (Err fault)) (so_far.copied m same ∙ ap (before m) named)
      (subst (λ (r : Result T SetFault). SetEnds limits (mounted to).sectors d e (on contents d (mounted to)) (on contents e (mounted to)) name value r) is
      (set-says a d e to now name value result so_far.area so_far.touches.banks ends)))
    where
      limits : Room
      limits = room (mounted to) (geometry_of a (mounted to))

      here : slice_get (maps.entries m) count ≡ Some (name, value)
      here = subst (λ (es : List Pair). slice_get es count ≡ Some (name, value)) same at

      named : slice_get (maps.keys m) count ≡ Some name
      named = name-at m count (name, value) here

      earlier : NoneTooMany limits m (Some name)
      earlier = subst (λ (o : Option (List ℕ)). NoneTooMany limits m o) named (so_far.free m same)

      by : (f : SetFault) → SetEnds {T = T} limits (mounted to).sectors d e (before m (Some name)) (on contents e (mounted to)) name value (Err f)
          → CopyEnds {T = T} limits (mounted to).sectors m (on contents e (mounted to)) (Err f)
      by TooManyNames did = record { name = name; value = value; stored = stored-at m count (name, value) here; many = did.0; earlier = earlier }
      by (NoSpace need live) did = record { name = name; value = value; stored = stored-at m count (name, value) here; few = did.free; earlier = earlier; full = did.full; needs = did.needs; lives = did.lives }
      by PowerLost did = tt
