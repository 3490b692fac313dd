-- The laws on prices, and on areas whose bytes are all FF.
use Rattle.std.specs.Prelude.{◌≡◌, ℕ, ◌+◌, ◌-◌, ◌*◌, ◌/◌, ◌<◌, ◌≤◌, ◌==◌, ◌&&◌, Bool, true, false, not, nat_le, List, [], ◌∷◌, length, replicate, None, count_by, refl}
use Rattle.std.specs.FinMap.{contains_key, empty, entries, keys, len, len-entries}
use Rattle.std.specs.List.{list_all}
use Rattle.std.proofs.Common.{◌∙◌, zero, suc, cond, inl, inr, sym, ap, ap₂, subst, arith}
use Rattle.std.proofs.Math.Nat.{div-mul-le_self, mul-le-mul_right}
use Rattle.std.proofs.lemmas.Bool.Decides.{nat_tests}
use Rattle.std.proofs.lemmas.Nat.{le-div}
use Rattle.std.proofs.lemmas.List.{length-map}
use Rattle.std.proofs.lemmas.List.Sums.{sum_by-cons}
use Rattle.flash_sim.specs.Bank.{IsLawful}
use Rattle.flash_sim.specs.Device.{Device}
use Rattle.flash_sim.specs.declared.flash.Loss.{Loss}
use Rattle.flash_map.specs.Area.{geometry_of, sector_at, sector_size, sectors_of}
use Rattle.flash_map.specs.Lawful.{IsLawfulFor}
use Rattle.flash_map.specs.On.{on, HoldsOn}
use Rattle.flash_map.specs.Units.{is_erased, padded}
use Rattle.flash_map.specs.declared.area.Area.{Area}
use Rattle.flash_map.specs.declared.area.Geometry.{Geometry}
use Rattle.flash_map.specs.declared.area.Role.{Role}
use Rattle.flash_map.specs.declared.area.Role.TheVariants.{Nvs, Zms}
use Rattle.flash_map.proofs.ErasedBytes.{erased_is}
use Rattle.flash_map.proofs.Places.{length-sector}
use Rattle.flash_map.proofs.Sectors.{length-sectors_from}
use Rattle.zms_cycle.specs.Sector.{data_len}
use Rattle.backend_api.specs.Map.{Map}
use Rattle.backend_api.specs.Written.{is_blank_on}
use Rattle.any_backend.specs.Blank.{IsBlank}
use Rattle.any_backend.specs.ByRole.{any_chance, any_contents, any_damage, any_rests, any_room, any_serves, chance_as, room_as}
use Rattle.any_backend.proofs.Blanks.{blank_empty, blank_rests, blank_undamaged}
use Rattle.mirror.specs.Room.{IsMirrored, IsRoomBy, alike}
use Rattle.mirror.specs.Prices.{mirror_prices, of_nvs, prices_as}

-- ---- longer bytes cost no less

padded-rises : (unit short long : ℕ) → short ≤ long → padded unit short ≤ padded unit long
unfolding padded
padded-rises zero short long no_less = omega arith
padded-rises (suc unit) short long no_less =
    let start :
    (short + (suc unit - 1)) / suc unit * suc unit
    ≤ short + (suc unit - 1) = div-mul-le_self (short + (suc unit - 1)) (suc unit) in
    mul-le-mul_right (suc unit)
    (le-div ((short + (suc unit - 1)) / suc unit) (long + (suc unit - 1)) (suc unit) (omega arith)
    (omega (arith, start, no_less)))

data-rises : (short long : ℕ) → short ≤ long → data_len short ≤ data_len long
unfolding data_len
data-rises short long no_less = go (nat_le short 8) refl (nat_le long 8) refl
  where
    go : (b : Bool) → nat_le short 8 ≡ b → (c : Bool) → nat_le long 8 ≡ c
        → cond b 0 (padded 16 short) ≤ cond c 0 (padded 16 long)
    go true is c also = omega arith
    go false is true also = absurd (grind (arith, nat_tests))
    go false is false also = padded-rises 16 short long no_less

-- ---- all names are of one class

all-alike : (names : List (List ℕ)) → count_by (λ other. 0 == 0) names ≡ length names
all-alike [] = refl
all-alike (name ∷ names) =
    let more : 1 + length names ≡ suc (length names) = omega arith in
    sum_by-cons (λ other. cond (0 == 0) 1 0) name names ∙ ap (λ (n : ℕ). 1 + n) (all-alike names) ∙ more

alike-nvs : (geometry : Geometry) (settings : Map) (name : List ℕ)
    → alike (of_nvs geometry) settings name ≡ len settings
alike-nvs geometry settings name =
    all-alike (keys settings) ∙ length-map (entries settings) (λ e. e.0) ∙ sym (len-entries settings)

-- ---- the `Room` of an area follows from its prices

nvs-room : (geometry : Geometry) → IsRoomBy (room_as Nvs geometry) (prices_as Nvs geometry)
nvs-room geometry = record {
  cap = refl;
  cost = λ settings. refl;
  need = λ settings name value. refl;
  largest = λ settings name value. refl;
  too_many =
      λ settings name. ap (λ (n : ℕ). not (contains_key settings name) && nat_le 511 n)
      (sym (alike-nvs geometry settings name));
  rises =
      λ short long no_less. let more = padded-rises geometry.unit short long no_less in omega (arith, more);
}

zms-room : (geometry : Geometry) → IsRoomBy (room_as Zms geometry) (prices_as Zms geometry)
zms-room geometry = record {
  cap = refl;
  cost = λ settings. refl;
  need = λ settings name value. refl;
  largest = λ settings name value. refl;
  too_many = λ settings name. refl;
  rises = λ short long no_less. let more = data-rises short long no_less in omega (arith, more);
}

pub is-room : (area : Area) (geometry : Geometry) → IsMirrored area
    → IsRoomBy (any_room area geometry) (mirror_prices area geometry)
is-room area geometry (inl role) =
    subst (λ (r : Role). IsRoomBy (room_as r geometry) (prices_as r geometry)) (sym role) (nvs-room geometry)
is-room area geometry (inr role) =
    subst (λ (r : Role). IsRoomBy (room_as r geometry) (prices_as r geometry)) (sym role) (zms-room geometry)

-- ---- only records of a ring check by chance

pub never-chance : (area : Area) (geometry : Geometry) (sectors : List (List ℕ)) (loss : Loss)
    → IsMirrored area → any_chance area geometry sectors loss ≡ false
never-chance area geometry sectors loss (inl role) =
    ap (λ (r : Role). chance_as r area geometry sectors loss) role
never-chance area geometry sectors loss (inr role) =
    ap (λ (r : Role). chance_as r area geometry sectors loss) role

-- ---- areas whose bytes are all FF

both : (b c : Bool) → (b && c) ≡ true → (b ≡ true) × (c ≡ true)
both true c is = (refl, is)
both false c is = absurd (cc)

all-blank : (size : ℕ) (sectors : List (List ℕ))
    → ((k : ℕ) → k < length sectors → length (sector_at sectors k) ≡ size) → list_all is_erased sectors ≡ true
    → sectors ≡ replicate (length sectors) (replicate size 0xFF)
all-blank size [] long erased = refl
all-blank size (sector ∷ sectors) long erased =
    let parts = both (is_erased sector) (list_all is_erased sectors) erased in
    let first :
    sector
    ≡ replicate size 255 = erased_is sector parts.0 ∙ ap (λ (n : ℕ). replicate n 255)
    (long 0 (omega arith)) in
    ap₂ (λ (s : List ℕ) (rest : List (List ℕ)). s ∷ rest) first
    (all-blank size sectors (λ k below. long (suc k) (omega (arith, below))) parts.1)

is-blank : (d : Device) (area : Area) → IsLawful d.banks d.bytes → IsLawfulFor d.banks area
    → is_blank_on d area ≡ true → IsBlank d area
is-blank d area lawful for erased =
    let count :
    length (sectors_of d area) ≡ area.sectors = length-sectors_from area.sectors (sector_size d area) _ in
    all-blank (sector_size d area) (sectors_of d area)
    (λ k below. length-sector d area lawful for.in_bank k (omega (arith, count, below))) erased
    ∙ ap (λ (n : ℕ). replicate n (replicate (sector_size d area) 0xFF)) count

pub blank-reads : (d : Device) (area : Area) → IsLawful d.banks d.bytes → IsLawfulFor d.banks area
    → any_serves area (geometry_of d area) → is_blank_on d area ≡ true
    → on any_damage d area ≡ None
blank-reads d area lawful for serves erased =
    blank_undamaged d area for serves (is-blank d area lawful for erased)

pub blank-empty : (d : Device) (area : Area) → IsLawful d.banks d.bytes → IsLawfulFor d.banks area
    → any_serves area (geometry_of d area) → is_blank_on d area ≡ true
    → on any_contents d area ≡ empty
blank-empty d area lawful for serves erased =
    blank_empty d area for serves (is-blank d area lawful for erased)

pub blank-rests : (d : Device) (area : Area) → IsLawful d.banks d.bytes → IsLawfulFor d.banks area
    → any_serves area (geometry_of d area) → is_blank_on d area ≡ true
    → HoldsOn any_rests d area
blank-rests d area lawful for serves erased =
    blank_rests d area for serves (is-blank d area lawful for erased)
