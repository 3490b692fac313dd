-- What a command that was cut leaves to the next mount, from the units of each format.
use Rattle.std.proofs.Common.{◌≡◌, ◌∙◌, ℕ, zero, suc, ◌+◌, ◌-◌, ◌*◌, ◌/◌, ◌≤◌, sym, ap, subst, inl, inr, arith}
use Rattle.std.proofs.Math.Nat.{div-eq_of_lt, mul-zero, zero-mul, mul-le-mul_right}
use Rattle.flash_sim.specs.declared.flash.Kind.{Kind as BankKind}
use Rattle.flash_sim.specs.declared.flash.Kind.TheVariants.{Erasing, Rewritable}
use Rattle.flash_map.specs.Area.{geometry_of}
use Rattle.flash_map.specs.Lawful.{HasUnit}
use Rattle.flash_map.specs.Units.{IsUnit, padded}
use Rattle.flash_map.specs.declared.area.Area.{Area}
use Rattle.flash_map.specs.declared.area.Geometry.{Geometry}
use Rattle.flash_map.specs.declared.area.Role.{Role}
use Rattle.flash_map.specs.declared.area.Role.TheVariants.{Nvs, Zms, Fcb, Sel}
use Rattle.backend_api.specs.Room.{removal_units}
use Rattle.nvs_store.specs.Geometry.{slot_size, cost}
use Rattle.zms_cycle.specs.Sector.{data_len}
use Rattle.zms_format.specs.Formats.{units_of}
use Rattle.backend_nvs.specs.Standing.{boot_units as nvs_boot}
use Rattle.backend_zms.specs.Standing.{boot_units as zms_boot}
use Rattle.zms_store.specs.Spending.{most_delete}
use Rattle.any_backend.specs.Boot.{NvsBoots, ErasingZmsBoots, RewritableZmsBoots, FcbBoots, BootsWithinMounts}
use Rattle.any_backend.specs.ByRole.{any_boot, boot_as}

-- ---- NVS

-- no bytes take up no unit
padded-none : (unit : ℕ) → padded unit 0 ≡ 0
unfolding padded
padded-none zero = mul-zero ((0 + (0 - 1)) / 0)
padded-none (suc n) =
    let small : (0 + (suc n - 1)) / suc n ≡ 0 = div-eq_of_lt (omega arith) in
    ap (λ (k : ℕ). k * suc n) small ∙ zero-mul (suc n)

-- a delete takes up a slot
nvs-entry : (unit : ℕ) → cost unit 0 / unit ≡ padded unit 8 / unit
unfolding slot_size
nvs-entry unit =
    let none : padded unit 0 ≡ 0 = padded-none unit in
    let same : padded unit 8 + padded unit 0 ≡ padded unit 8 = omega arith in
    ap (λ (k : ℕ). k / unit) same

nvs-number : (area : Area) (geometry : Geometry)
    → nvs_boot area geometry ≡ geometry.sector / geometry.unit + 2 + padded geometry.unit 8 / geometry.unit
nvs-number area geometry =
    let entry : cost geometry.unit 0 / geometry.unit ≡ padded geometry.unit 8 / geometry.unit = nvs-entry geometry.unit in
    omega arith

pub nvs-boots : NvsBoots any_boot
nvs-boots area geometry role = ap (λ (r : Role). boot_as r area geometry) role ∙ nvs-number area geometry

-- ---- ZMS

abbrev zms_of : BankKind → ℕ → ℕ
zms_of kind size = (units_of kind).any_clear.lost + most_delete kind (size / 16)

erasing-number : (size : ℕ) → zms_of Erasing size ≡ size / 16 + 6
unfolding data_len
erasing-number size = omega arith

rewritable-number : (size : ℕ) → zms_of Rewritable size ≡ 2 * (size / 16) + 8
unfolding data_len
rewritable-number size = omega arith

zms-as : (area : Area) (geometry : Geometry) (kind : BankKind) → area.role ≡ Zms → geometry.kind ≡ kind
    → boot_as area.role area geometry ≡ zms_of kind geometry.sector
zms-as area geometry kind role is =
    ap (λ (r : Role). boot_as r area geometry) role ∙ ap (λ (k : BankKind). zms_of k geometry.sector) is

pub erasing-zms-boots : ErasingZmsBoots any_boot
erasing-zms-boots area geometry role is = zms-as area geometry Erasing role is ∙ erasing-number geometry.sector

pub rewritable-zms-boots : RewritableZmsBoots any_boot
rewritable-zms-boots area geometry role is = zms-as area geometry Rewritable role is ∙ rewritable-number geometry.sector

-- ---- FCB

pub fcb-boots : FcbBoots any_boot
fcb-boots area geometry role = ap (λ (r : Role). boot_as r area geometry) role

-- ---- within the units of a mount

slot-few : (unit : ℕ) → IsUnit unit → padded unit 8 / unit ≤ 2
unfolding padded
slot-few unit is = elim is [
  | inl four ↦ subst (λ (u : ℕ). (8 + (u - 1)) / u * u / u ≤ 2) (sym four) (omega arith)
  | inr more ↦ elim more [
    | inl eight ↦ subst (λ (u : ℕ). (8 + (u - 1)) / u * u / u ≤ 2) (sym eight) (omega arith)
    | inr sixteen ↦ subst (λ (u : ℕ). (8 + (u - 1)) / u * u / u ≤ 2) (sym sixteen) (omega arith)
  ]
]

zms-few : (kind : BankKind) (size : ℕ) → zms_of kind size ≤ 12 * (size / 16 + 3)
zms-few Erasing size = let is = erasing-number size in omega arith
zms-few Rewritable size = let is = rewritable-number size in omega arith

boot-few : (role : Role) (area : Area) (geometry : Geometry) → HasUnit role geometry.unit
    → boot_as role area geometry ≤ 12 * (geometry.sector / geometry.unit + 3)
boot-few Nvs area geometry is =
    let number = nvs-number area geometry in
    let slot = slot-few geometry.unit is in
    omega arith
boot-few Zms area geometry is =
    subst (λ (u : ℕ). zms_boot area geometry ≤ 12 * (geometry.sector / u + 3)) (sym is)
    (zms-few geometry.kind geometry.sector)
boot-few Fcb area geometry is = omega arith
boot-few Sel area geometry is = omega arith

few-within : (boot units sectors more : ℕ) → 1 ≤ sectors → boot ≤ 12 * (units + 3)
    → boot ≤ 12 * sectors * (units + 3) + more
few-within boot units sectors more some few =
    let all : 12 * (units + 3) ≤ 12 * sectors * (units + 3) =
    mul-le-mul_right (units + 3) (omega arith) in
    omega arith

pub boots-within : BootsWithinMounts any_boot
boots-within d area lawful =
    let geometry : Geometry = geometry_of d area in
    let several : 2 ≤ area.sectors = lawful.several in
    few-within (boot_as area.role area geometry) (geometry.sector / geometry.unit) area.sectors
    (area.sectors * (geometry.sector / 8) * removal_units geometry) (omega arith) (boot-few area.role area geometry lawful.unit)
