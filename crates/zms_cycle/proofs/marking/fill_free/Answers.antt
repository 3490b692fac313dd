use Rattle.std.proofs.Common.{◌+◌, ◌-◌, ◌/◌, length, refl, sym, ap, ◌∙◌, arith}
use Rattle.std.proofs.lemmas.Result.{on_ok_weaker}
use Rattle.flash_map.specs.Area.{sector_bytes}
use Rattle.flash_map.specs.declared.area.Geometry.{Geometry}
use Rattle.flash_map.proofs.SpendingBounds.{between_within}
use Rattle.zms_cycle.specs.Areas.{kind_on}
use Rattle.zms_cycle.specs.OnArea.{closing_units}
use Rattle.zms_cycle.specs.Sector.{valid_slots, data_end}
use Rattle.flash_sim.specs.declared.flash.Kind.TheVariants.{Rewritable}
use Rattle.zms_cycle.proofs.AreaFacts.{size_is}
use Rattle.zms_cycle.proofs.CloseCalls.{lowest_of, numbers, filled_as, fill_few}
use Rattle.zms_cycle.proofs.marking.fill_free.Goals as goal

pub overflow_add-bottom : goal.overflow_add-bottom
overflow_add-bottom g c =
    let size = size_is (g.F.Flash.device c.args.flash.now) c.args.area.now c.args.sector c.requires.zms (g.met.F.Flash.is_lawful c.args.flash.now) in
    let most = c.requires.zms.lawful.at_most in
    let fits = (lowest_of (sector_bytes (g.F.Flash.device c.args.flash.now) c.args.area.now c.args.sector) (length (sector_bytes (g.F.Flash.device c.args.flash.now) c.args.area.now c.args.sector)) c.args.opened.now.slots c.requires.sound refl c.requires.opened.slots).slots in
    omega arith

pub fill_slots-requires-clause-guarded : goal.fill_slots-requires-clause-guarded
fill_slots-requires-clause-guarded g c =
    let size = size_is (g.F.Flash.device c.args.flash.now) c.args.area.now c.args.sector c.requires.zms (g.met.F.Flash.is_lawful c.args.flash.now) in
    let shape = ap (λ (shape : Geometry). shape.sector) c.geometry-geometry.ensures in
    let most = c.requires.zms.lawful.at_most in
    let kind = sym (ap (λ (shape : Geometry). shape.kind) c.geometry-geometry.ensures) ∙ c.in-Rewritable.is in
    let nums = numbers (kind_on (g.F.Flash.device c.args.flash.now) c.args.area.now) (sector_bytes (g.F.Flash.device c.args.flash.now) c.args.area.now c.args.sector) c.geometry-geometry.result.sector c.args.opened.now.slots c.args.opened.now.data_end c.saturating_sub-top.result kind c.requires.sound (size ∙ sym shape) (omega (arith, shape, most)) c.requires.opened.slots c.requires.opened.data_end c.saturating_sub-top.ensures in
    nums.guard

pub fill_slots-requires-clause-top : goal.fill_slots-requires-clause-top
fill_slots-requires-clause-top g c =
    let size = size_is (g.F.Flash.device c.args.flash.now) c.args.area.now c.args.sector c.requires.zms (g.met.F.Flash.is_lawful c.args.flash.now) in
    let shape = ap (λ (shape : Geometry). shape.sector) c.geometry-geometry.ensures in
    let most = c.requires.zms.lawful.at_most in
    let kind = sym (ap (λ (shape : Geometry). shape.kind) c.geometry-geometry.ensures) ∙ c.in-Rewritable.is in
    let nums = numbers (kind_on (g.F.Flash.device c.args.flash.now) c.args.area.now) (sector_bytes (g.F.Flash.device c.args.flash.now) c.args.area.now c.args.sector) c.geometry-geometry.result.sector c.args.opened.now.slots c.args.opened.now.data_end c.saturating_sub-top.result kind c.requires.sound (size ∙ sym shape) (omega (arith, shape, most)) c.requires.opened.slots c.requires.opened.data_end c.saturating_sub-top.ensures in
    λ some. let fits = nums.top_fits some in omega (arith, fits, shape)

pub returns-in-Rewritable-clause-filled : goal.returns-in-Rewritable-clause-filled
returns-in-Rewritable-clause-filled g c = λ rewritable.
    let size = size_is (g.F.Flash.device c.args.flash.now) c.args.area.now c.args.sector c.requires.zms (g.met.F.Flash.is_lawful c.args.flash.now) in
    let shape = ap (λ (shape : Geometry). shape.sector) c.geometry-geometry.ensures in
    let most = c.requires.zms.lawful.at_most in
    let kind = sym (ap (λ (shape : Geometry). shape.kind) c.geometry-geometry.ensures) ∙ c.in-Rewritable.is in
    let nums = numbers (kind_on (g.F.Flash.device c.args.flash.now) c.args.area.now) (sector_bytes (g.F.Flash.device c.args.flash.now) c.args.area.now c.args.sector) c.geometry-geometry.result.sector c.args.opened.now.slots c.args.opened.now.data_end c.saturating_sub-top.result kind c.requires.sound (size ∙ sym shape) (omega (arith, shape, most)) c.requires.opened.slots c.requires.opened.data_end c.saturating_sub-top.ensures in
    on_ok_weaker c.fill_slots.result
    (λ filled. filled_as (sector_bytes (g.F.Flash.device c.fill_slots.new.flash) c.args.area.now c.args.sector) (c.args.opened.now.slots + 2) (c.saturating_sub-top.result / 16) (length (valid_slots (sector_bytes (g.F.Flash.device c.args.flash.now) c.args.area.now c.args.sector)) + 2) ((length (sector_bytes (g.F.Flash.device c.args.flash.now) c.args.area.now c.args.sector) - data_end Rewritable (sector_bytes (g.F.Flash.device c.args.flash.now) c.args.area.now c.args.sector)) / 16) filled (let count = c.requires.opened.slots in omega arith) nums.all)
    c.fill_slots.ensures.filled

pub returns-in-Rewritable-clause-spends : goal.returns-in-Rewritable-clause-spends
returns-in-Rewritable-clause-spends g c =
    let size = size_is (g.F.Flash.device c.args.flash.now) c.args.area.now c.args.sector c.requires.zms (g.met.F.Flash.is_lawful c.args.flash.now) in
    let shape = ap (λ (shape : Geometry). shape.sector) c.geometry-geometry.ensures in
    let most = c.requires.zms.lawful.at_most in
    let kind = sym (ap (λ (shape : Geometry). shape.kind) c.geometry-geometry.ensures) ∙ c.in-Rewritable.is in
    let nums = numbers (kind_on (g.F.Flash.device c.args.flash.now) c.args.area.now) (sector_bytes (g.F.Flash.device c.args.flash.now) c.args.area.now c.args.sector) c.geometry-geometry.result.sector c.args.opened.now.slots c.args.opened.now.data_end c.saturating_sub-top.result kind c.requires.sound (size ∙ sym shape) (omega (arith, shape, most)) c.requires.opened.slots c.requires.opened.data_end c.saturating_sub-top.ensures in
    between_within c.fill_slots.ensures.spends 0 (closing_units (g.F.Flash.device c.args.flash.now) c.args.area.now c.args.sector - 1) (omega arith) (fill_few (kind_on (g.F.Flash.device c.args.flash.now) c.args.area.now) (sector_bytes (g.F.Flash.device c.args.flash.now) c.args.area.now c.args.sector) (c.saturating_sub-top.result / 16 - (c.args.opened.now.slots + 2)) kind nums.few)

pub returns-in-Rewritable-clause-steps : goal.returns-in-Rewritable-clause-steps
returns-in-Rewritable-clause-steps g c =
    let size = size_is (g.F.Flash.device c.args.flash.now) c.args.area.now c.args.sector c.requires.zms (g.met.F.Flash.is_lawful c.args.flash.now) in
    let shape = ap (λ (shape : Geometry). shape.sector) c.geometry-geometry.ensures in
    let most = c.requires.zms.lawful.at_most in
    let kind = sym (ap (λ (shape : Geometry). shape.kind) c.geometry-geometry.ensures) ∙ c.in-Rewritable.is in
    let nums = numbers (kind_on (g.F.Flash.device c.args.flash.now) c.args.area.now) (sector_bytes (g.F.Flash.device c.args.flash.now) c.args.area.now c.args.sector) c.geometry-geometry.result.sector c.args.opened.now.slots c.args.opened.now.data_end c.saturating_sub-top.result kind c.requires.sound (size ∙ sym shape) (omega (arith, shape, most)) c.requires.opened.slots c.requires.opened.data_end c.saturating_sub-top.ensures in
    let few = fill_few (kind_on (g.F.Flash.device c.args.flash.now) c.args.area.now) (sector_bytes (g.F.Flash.device c.args.flash.now) c.args.area.now c.args.sector) (c.saturating_sub-top.result / 16 - (c.args.opened.now.slots + 2)) kind nums.few in
    omega (arith, few, c.fill_slots.ensures.steps)
