use Rattle.std.proofs.Common.{◌≡◌, ℕ, List, length, refl, sym, ap, ◌∙◌, arith}
use Rattle.flash_sim.specs.Device.{Device}
use Rattle.flash_map.specs.declared.area.Geometry.{Geometry}
use Rattle.flash_map.specs.declared.area.Role.TheVariants.{Nvs as nvs_role}
use Rattle.flash_map.specs.Area.{sectors_of, sector_at, sector_size, unit_of}
use Rattle.item_store.proofs.Areas.{size_there}
use Rattle.nvs_store.specs.Geometry.{slot_size}
use Rattle.nvs_store.proofs.Views.{unit_is}
use Rattle.nvs_gc.specs.declared.sectors.NvsOpen.{NvsOpen}
use Rattle.nvs_gc.proofs.OpenLemmas.{low_inside, some_by_low, slots_by_low}
use Rattle.nvs_gc.proofs.sectors.NvsOpenSlotSectors.own_slots.Goals as goal

pub overflow_sub-result : goal.overflow_sub-result
overflow_sub-result g c =
    let d : Device = g.F.Flash.device c.args.flash.now in
    let unit : ℕ = unit_of d c.args.area.now in
    let b : List ℕ = sector_at (sectors_of d c.args.area.now) c.args._place in
    let size : length b ≡ sector_size d c.args.area.now = size_there nvs_role d c.args.area.now (g.met.F.Flash.is_lawful c.args.flash.now) c.requires.area c.args._place c.requires.inside in
    let sector : c.geometry-own.result.sector ≡ length b = ap (λ (s : Geometry). s.sector) c.geometry-own.ensures ∙ sym size in
    low_inside unit b c.geometry-own.result.sector c.args.self.now.low (slot_size unit) (unit_is d c.args.area.now (g.met.F.Flash.is_lawful c.args.flash.now) c.requires.area.lawful.in_bank) (omega (arith, size, c.requires.area.lawful.at_least)) sector (ap (λ (o : NvsOpen). o.low) c.requires.kept) refl

pub overflow_sub-result-2 : goal.overflow_sub-result-2
overflow_sub-result-2 g c =
    let d : Device = g.F.Flash.device c.args.flash.now in
    let unit : ℕ = unit_of d c.args.area.now in
    let b : List ℕ = sector_at (sectors_of d c.args.area.now) c.args._place in
    let size : length b ≡ sector_size d c.args.area.now = size_there nvs_role d c.args.area.now (g.met.F.Flash.is_lawful c.args.flash.now) c.requires.area c.args._place c.requires.inside in
    let sector : c.geometry-own.result.sector ≡ length b = ap (λ (s : Geometry). s.sector) c.geometry-own.ensures ∙ sym size in
    let slot : c.slot_size.result ≡ slot_size unit = c.slot_size.ensures.size ∙ ap (λ (s : Geometry). slot_size s.unit) c.geometry-own.ensures in
    some_by_low unit b c.geometry-own.result.sector c.args.self.now.low c.slot_size.result (unit_is d c.args.area.now (g.met.F.Flash.is_lawful c.args.flash.now) c.requires.area.lawful.in_bank) (omega (arith, size, c.requires.area.lawful.at_least)) sector (ap (λ (o : NvsOpen). o.low) c.requires.kept) slot

pub returns-clause-value : goal.returns-clause-value
returns-clause-value g c =
    let d : Device = g.F.Flash.device c.args.flash.now in
    let unit : ℕ = unit_of d c.args.area.now in
    let b : List ℕ = sector_at (sectors_of d c.args.area.now) c.args._place in
    let size : length b ≡ sector_size d c.args.area.now = size_there nvs_role d c.args.area.now (g.met.F.Flash.is_lawful c.args.flash.now) c.requires.area c.args._place c.requires.inside in
    let sector : c.geometry-own.result.sector ≡ length b = ap (λ (s : Geometry). s.sector) c.geometry-own.ensures ∙ sym size in
    let slot : c.slot_size.result ≡ slot_size unit = c.slot_size.ensures.size ∙ ap (λ (s : Geometry). slot_size s.unit) c.geometry-own.ensures in
    slots_by_low unit b c.geometry-own.result.sector c.args.self.now.low c.slot_size.result (unit_is d c.args.area.now (g.met.F.Flash.is_lawful c.args.flash.now) c.requires.area.lawful.in_bank) (omega (arith, size, c.requires.area.lawful.at_least)) sector (ap (λ (o : NvsOpen). o.low) c.requires.kept) slot
