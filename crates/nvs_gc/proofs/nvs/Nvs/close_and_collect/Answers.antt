use Rattle.std.proofs.Common.{◌≡◌, ℕ, ◌<◌, length, sym, subst, inl, inr, arith}
use Rattle.flash_map.specs.Area.{sectors_of}
use Rattle.item_laws.specs.Area.{open_sector}
use Rattle.item_laws.proofs.AreaReads.{length-sectors}
use Rattle.item_laws.proofs.Stays.{open_within}
use Rattle.item_store.proofs.ClosingSteps.{same-or-used}
use Rattle.nvs_gc.specs.Standing.{format_on}
use Rattle.nvs_gc.proofs.nvs.Nvs.close_and_collect.Goals as goal

pub returns-clause-changed : goal.returns-clause-changed
returns-clause-changed g c =
    let d = g.F.Flash.device c.args.flash.now in
    let area = c.args.self.now.store.area in
    let place : ℕ = c.args.self.now.store.current in
    let count : length (sectors_of d area) ≡ area.sectors = length-sectors d area in
    let several = c.requires.area.lawful.several in
    let opened : open_sector (format_on d area).reading (sectors_of d area) < length (sectors_of d area) = open_within (format_on d area).reading (sectors_of d area) (omega (arith, count, several)) in
    let within : place < length (sectors_of d area) = subst (λ (p : ℕ). p < length (sectors_of d area)) (sym c.requires.current) opened in
    elim (same-or-used (format_on d area) d (g.F.Flash.device c.close_and_collect.new.flash) area place c.close_and_collect.result c.close_and_collect.ensures.ends) [
      | inl same ↦ inl same
      | inr used ↦ inr (c.close_and_collect.ensures.written (record { place = place; within = within; used = used }))
    ]
