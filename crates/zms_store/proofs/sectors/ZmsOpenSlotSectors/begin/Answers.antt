use Rattle.std.proofs.Common.{rules, ◌≡◌, ℕ, Bool, true, false, Option, Some, None, refl, sym, ap, ◌∙◌, arith}
use Rattle.std.proofs.lemmas.Bool.{false≢true}
use Rattle.flash_sim.specs.Device.{Device}
use Rattle.flash_map.specs.declared.area.Area.{Area}
use Rattle.flash_map.specs.declared.area.Geometry.{Geometry}
use Rattle.flash_map.specs.Area.{geometry_of, sectors_of, sector_at}
use Rattle.item_store.proofs.Areas.{large_there, only_none}
use Rattle.zms_format.proofs.StepLemmas.{begins_as, begins_empty, begin_cut, begin_room}
use Rattle.flash_map.specs.declared.area.Role.TheVariants.{Zms as zms_role}
use Rattle.std.specs.Prelude.{IsSome, is_some}
use Rattle.zms_cycle.specs.Sector.{cycle_of}
use Rattle.flash_map.proofs.PieceLemmas.{on_err}
use Rattle.flash_map.proofs.SpendingBounds.{between_within}
use Rattle.zms_format.proofs.FormatLemmas.{begin_emptying}
use Rattle.zms_format.specs.Formats.{units_of}
use Rattle.zms_store.proofs.OpenLemmas.{kept_cycle, kept_emptied}
use Rattle.zms_store.proofs.sectors.ZmsOpenSlotSectors.begin.Goals as goal

-- what is kept says whether it has a cycle
has_cycle : (o kept : Option ℕ) (some : Bool) → kept ≡ o → some ≡ is_some kept → some ≡ true → IsSome o
has_cycle o kept some cycle is used = ap (λ (x : Option ℕ). is_some x) (sym cycle) ∙ sym is ∙ used

no_cycle : (o kept : Option ℕ) (some : Bool) → kept ≡ o → some ≡ is_some kept → some ≡ false → o ≡ None
no_cycle None kept some cycle is none = refl
no_cycle (Some x) kept some cycle is none = absurd (false≢true (sym none ∙ is ∙ ap (λ (y : Option ℕ). is_some y) cycle))

pub returns-then-is_some-clause-ends : goal.returns-then-is_some-clause-ends
returns-then-is_some-clause-ends g c = record {
  only =
      let sectors = sectors_of (g.F.Flash.device c.args.flash.now) c.args.area.now in
      only_none sectors sectors c.args.place refl;
  begins =
      let a : Device = g.F.Flash.device c.args.flash.now in
      let area : Area = c.args.area.now in
      let u : Geometry = geometry_of a area in
      let wide = large_there zms_role a area (g.met.F.Flash.is_lawful c.args.flash.now) c.requires.area c.args.place c.requires.inside in
      let cycle : c.args.self.now.cycle ≡ cycle_of (sector_at (sectors_of a area) c.args.place) = kept_cycle u (sector_at (sectors_of a area) c.args.place) c.args.self.now c.requires.kept in
      begins_as u (sector_at (sectors_of a area) c.args.place) (sector_at (sectors_of a area) c.args.place) wide (has_cycle (cycle_of (sector_at (sectors_of a area) c.args.place)) c.args.self.now.cycle c.is_some.result cycle c.is_some.ensures c.if-is_some.true) c.requires.sound;
  kept = search rules;
  lost = search rules;
  room_lost = search rules;
  spends = search rules;
  spends_lost = search rules;
}

pub returns-in_err-empty_sector-clause-ends : goal.returns-in_err-empty_sector-clause-ends
returns-in_err-empty_sector-clause-ends g c = record {
  only = search rules;
  begins = search rules;
  kept = search rules;
  lost =
      let a : Device = g.F.Flash.device c.args.flash.now in
      let area : Area = c.args.area.now in
      let u : Geometry = geometry_of a area in
      let e : Device = g.F.Flash.device c.empty_sector.new.flash in
      let cycle : c.args.self.now.cycle ≡ cycle_of (sector_at (sectors_of a area) c.args.place) = kept_cycle u (sector_at (sectors_of a area) c.args.place) c.args.self.now c.requires.kept in
      on_err c.from_residual.result (begin_cut u (sector_at (sectors_of a area) c.args.place) (sector_at (sectors_of e area) c.args.place) (no_cycle (cycle_of (sector_at (sectors_of a area) c.args.place)) c.args.self.now.cycle c.is_some.result cycle c.is_some.ensures c.if-is_some.false) c.in_err-empty_sector.ensures.lost);
  room_lost =
      let a : Device = g.F.Flash.device c.args.flash.now in
      let area : Area = c.args.area.now in
      let u : Geometry = geometry_of a area in
      let e : Device = g.F.Flash.device c.empty_sector.new.flash in
      let cycle : c.args.self.now.cycle ≡ cycle_of (sector_at (sectors_of a area) c.args.place) = kept_cycle u (sector_at (sectors_of a area) c.args.place) c.args.self.now c.requires.kept in
      on_err c.from_residual.result
      (begin_room u (sector_at (sectors_of a area) c.args.place) (sector_at (sectors_of e area) c.args.place) (no_cycle (cycle_of (sector_at (sectors_of a area) c.args.place)) c.args.self.now.cycle c.is_some.result cycle c.is_some.ensures c.if-is_some.false) c.in_err-empty_sector.ensures.lost);
  spends = search rules;
  spends_lost =
      let a : Device = g.F.Flash.device c.args.flash.now in
      let area : Area = c.args.area.now in
      let u : Geometry = geometry_of a area in
      let cycle : c.args.self.now.cycle ≡ cycle_of (sector_at (sectors_of a area) c.args.place) = kept_cycle u (sector_at (sectors_of a area) c.args.place) c.args.self.now c.requires.kept in
      let most = begin_emptying u.kind (sector_at (sectors_of a area) c.args.place) (no_cycle (cycle_of (sector_at (sectors_of a area) c.args.place)) c.args.self.now.cycle c.is_some.result cycle c.is_some.ensures c.if-is_some.false) in
      on_err c.from_residual.result (between_within c.in_err-empty_sector.ensures.spends_lost 0 ((units_of u.kind).begin (sector_at (sectors_of a area) c.args.place)).lost (omega arith) (omega arith));
}

pub returns-clause-ends : goal.returns-clause-ends
returns-clause-ends g c = record {
  only = search rules;
  begins =
      let a : Device = g.F.Flash.device c.args.flash.now in
      let area : Area = c.args.area.now in
      let u : Geometry = geometry_of a area in
      let e : Device = g.F.Flash.device c.empty_sector.new.flash in
      let cycle : c.args.self.now.cycle ≡ cycle_of (sector_at (sectors_of a area) c.args.place) = kept_cycle u (sector_at (sectors_of a area) c.args.place) c.args.self.now c.requires.kept in
      begins_empty u (sector_at (sectors_of a area) c.args.place) (sector_at (sectors_of e area) c.args.place) (no_cycle (cycle_of (sector_at (sectors_of a area) c.args.place)) c.args.self.now.cycle c.is_some.result cycle c.is_some.ensures c.if-is_some.false) c.in_ok-empty_sector.ensures.ok;
  kept =
      let a : Device = g.F.Flash.device c.args.flash.now in
      let area : Area = c.args.area.now in
      let u : Geometry = geometry_of a area in
      let e : Device = g.F.Flash.device c.empty_sector.new.flash in
      let cycle : c.args.self.now.cycle ≡ cycle_of (sector_at (sectors_of a area) c.args.place) = kept_cycle u (sector_at (sectors_of a area) c.args.place) c.args.self.now c.requires.kept in
      kept_emptied u.kind (sector_at (sectors_of a area) c.args.place) (sector_at (sectors_of e area) c.args.place) (no_cycle (cycle_of (sector_at (sectors_of a area) c.args.place)) c.args.self.now.cycle c.is_some.result cycle c.is_some.ensures c.if-is_some.false) c.in_ok-empty_sector.ensures.ok;
  lost = search rules;
  room_lost = search rules;
  spends = search rules;
  spends_lost = search rules;
}
