-- What several calls of a store spend together.
use Rattle.std.proofs.Common.{◌≡◌, ℕ, ◌+◌, ◌*◌, ◌/◌, ◌≤◌, Bool, List, inl, inr, sym, ap, subst, ◌∙◌, arith}
use Rattle.std.specs.Prelude.{slice_index_or, drop, []}
use Rattle.std.proofs.Math.Nat.{mul_assoc, mul-le-mul_right}
use Rattle.std.proofs.lemmas.Bool.{cases_eq}
use Rattle.flash_sim.specs.Bank.{bank_at}
use Rattle.flash_sim.specs.Device.{Device, counted}
use Rattle.flash_sim.specs.declared.flash.Bank.{Bank}
use Rattle.flash_map.specs.declared.area.Area.{Area}
use Rattle.flash_map.specs.declared.area.Geometry.{Geometry}
use Rattle.flash_map.specs.Area.{geometry_of}
use Rattle.flash_map.specs.Sectors.{sectors_from}
use Rattle.flash_map.specs.Touches.{Touches}
use Rattle.flash_map.specs.Spending.{SpendsAtMost}
use Rattle.flash_map.proofs.Plans.{counted_counted}
use Rattle.backend_api.specs.Ends.{SpendsSome}
use Rattle.flash_map.specs.On.{on}
use Rattle.backend_api.specs.Room.{command_units}
use Rattle.named_items.specs.StoreEnds as items

pub geometry-stays : (a b : Device) (area : Area) → b.banks ≡ a.banks → geometry_of b area ≡ geometry_of a area
geometry-stays a b area same = ap (λ (banks : List Bank). record { unit = (bank_at banks area.bank).unit; sector = (bank_at banks area.bank).sector; sectors = area.sectors; kind = (bank_at banks area.bank).kind }) same

pub spends-then : (a b c : Device) (first second : ℕ) → SpendsAtMost a b first → SpendsAtMost b c second → SpendsAtMost a c (first + second)
spends-then a b c first second one two =
    let p : one.0 ≤ first = one.1 in
    let q : two.0 ≤ second = two.1 in
    (one.0 + two.0, omega arith, two.2 ∙ ap (λ (n : ℕ). counted n two.0) one.2 ∙ counted_counted a.spent one.0 two.0)

-- the bound of so many calls, in the geometry of the first one
pub spends-calls : (a b c : Device) (area other : Area) (calls : ℕ) → b.banks ≡ a.banks → other ≡ area → SpendsAtMost a b (calls * items.item_units (geometry_of a area)) → SpendsAtMost b c (items.item_units (geometry_of b other))
    → SpendsAtMost a c ((calls + 1) * items.item_units (geometry_of a area))
spends-calls a b c area other calls banks same one two =
    let g : geometry_of b other ≡ geometry_of a area = ap (geometry_of b) same ∙ geometry-stays a b area banks in
    let second : SpendsAtMost b c (items.item_units (geometry_of a area)) = subst (λ (k : Geometry). SpendsAtMost b c (items.item_units k)) g two in
    subst (SpendsAtMost a c) (step calls (items.item_units (geometry_of a area))) (spends-then a b c (calls * items.item_units (geometry_of a area)) (items.item_units (geometry_of a area)) one second)
  where
    step : (x y : ℕ) → x * y + y ≡ (x + 1) * y
    step x y = grind arith

pub one-call : (a b : Device) (most : ℕ) → SpendsAtMost a b most → SpendsAtMost a b (1 * most)
one-call a b most spent = subst (SpendsAtMost a b) (once most) spent
  where
    once : (x : ℕ) → x ≡ 1 * x
    once x = omega arith

pub calls-within : (a b : Device) (calls : ℕ) (geometry : Geometry) → calls ≤ 4 → SpendsAtMost a b (calls * items.item_units geometry) → SpendsAtMost a b (command_units geometry)
calls-within a b calls geometry few spent =
    let le : spent.0 ≤ calls * items.item_units geometry = spent.1 in
    let all = four calls geometry.sectors (geometry.sector / geometry.unit + 3) few in
    (spent.0, omega arith, spent.2)
  where
    four : (k s x : ℕ) → k ≤ 4 → k * (3 * s * x) ≤ 12 * s * x
    four k s x le =
        let all : k * (3 * s * x) ≤ 4 * (3 * s * x) = mul-le-mul_right (3 * s * x) le in
        let twelve : 4 * (3 * s) ≡ 12 * s = omega arith in
        let regroup : 4 * (3 * s * x) ≡ 12 * s * x = sym (mul_assoc 4 (3 * s) x) ∙ ap (λ (y : ℕ). y * x) twelve in
        omega arith

-- ---- what was changed was spent

abbrev at_bytes : {T : Type 0} → (Area → Geometry → List (List ℕ) → T) → Area → List Bank → List (List ℕ) → T
at_bytes f area banks bytes =
    f area (record { unit = (bank_at banks area.bank).unit; sector = (bank_at banks area.bank).sector; sectors = area.sectors; kind = (bank_at banks area.bank).kind })
    (sectors_from area.sectors (bank_at banks area.bank).sector (drop (area.first * (bank_at banks area.bank).sector) (slice_index_or bytes area.bank [])))

pub on-same : {T : Type 0} (f : Area → Geometry → List (List ℕ) → T) (a b : Device) (area : Area) → b.banks ≡ a.banks → b.bytes ≡ a.bytes → on f b area ≡ on f a area
on-same f a b area banks bytes = ap (λ (x : List Bank). at_bytes f area x b.bytes) banks ∙ ap (λ (x : List (List ℕ)). at_bytes f area a.banks x) bytes

pub spends-some : {T : Type 0} (f : Area → Geometry → List (List ℕ) → T) (a b : Device) (area : Area) (areas : List Area) (lost : Bool) → Touches areas a b lost → ¬ (on f b area ≡ on f a area) → SpendsSome a b
spends-some f a b area areas lost touches changed =
    elim (cases_eq touches.units 0) [
      | inl none ↦ absurd (changed (on-same f a b area touches.banks (touches.idle none)))
      | inr some ↦ (touches.units, omega arith, touches.spent)
    ]

pub calls-more : (a b : Device) (calls more most : ℕ) → calls ≤ more → SpendsAtMost a b (calls * most) → SpendsAtMost a b (more * most)
calls-more a b calls more most few spent =
    let le : spent.0 ≤ calls * most = spent.1 in
    let all : calls * most ≤ more * most = mul-le-mul_right most few in
    (spent.0, omega arith, spent.2)

pub spends-both : (a b c : Device) (area other : Area) (first second : ℕ) → b.banks ≡ a.banks → other ≡ area → SpendsAtMost a b (first * items.item_units (geometry_of a area)) → SpendsAtMost b c (second * items.item_units (geometry_of b other))
    → SpendsAtMost a c ((first + second) * items.item_units (geometry_of a area))
spends-both a b c area other first second banks same one two =
    let g : geometry_of b other ≡ geometry_of a area = ap (geometry_of b) same ∙ geometry-stays a b area banks in
    let more : SpendsAtMost b c (second * items.item_units (geometry_of a area)) = subst (λ (k : Geometry). SpendsAtMost b c (second * items.item_units k)) g two in
    subst (SpendsAtMost a c) (step first second (items.item_units (geometry_of a area))) (spends-then a b c (first * items.item_units (geometry_of a area)) (second * items.item_units (geometry_of a area)) one more)
  where
    step : (x y z : ℕ) → x * z + y * z ≡ (x + y) * z
    step x y z = grind arith
