-- the map has a selector, whose mount it is; or it has none
use Rattle.std.proofs.Common.{refl, sym, ◌∙◌, arith}
use Rattle.std.proofs.lemmas.Option.{none-some}
use Rattle.session.proofs.ActiveAreas.{found_within, selected, selector_ring, unselected}
use Rattle.session.proofs.MountLemmas.{chosen_touches, chosen_ends, chosen_sound, chosen_active, chosen_idle, chosen_records, chosen_units, none_ends}
use Rattle.session.proofs.MountUnits.{selector_left, selector_most, spends_nothing}
use Rattle.session.specs.OnMap.{selector_erases}
use Rattle.session.proofs.mounting.mount_selector.Goals as goal

pub area_at-requires : goal.area_at-requires
area_at-requires g c = found_within c.args.map.now c.in-Some.place (sym c.selector_place.ensures ∙ c.in-Some.is)

pub mount-mounted-requires : goal.mount-mounted-requires
mount-mounted-requires g c =
    selector_ring (g.F.Flash.device c.args.flash.now).banks c.args.map.now c.area_at.result c.requires.lawful (selected c.args.map.now c.in-Some.place c.area_at.result (sym c.selector_place.ensures ∙ c.in-Some.is) c.area_at.ensures)

pub returns-in-Some : goal.returns-in-Some
returns-in-Some g c = record {
  touches = chosen_touches c.args.map.now c.in-Some.place c.area_at.result (g.F.Flash.device c.args.flash.now) (g.F.Flash.device c.mount-mounted.new.flash) c.mount-mounted.result (sym c.selector_place.ensures ∙ c.in-Some.is) c.area_at.ensures
      c.mount-mounted.ensures.touches c.selected_as.result c.selected_as.ensures;
  ends = chosen_ends c.args.map.now c.in-Some.place c.area_at.result (g.F.Flash.device c.args.flash.now) (g.F.Flash.device c.mount-mounted.new.flash) c.mount-mounted.result (sym c.selector_place.ensures ∙ c.in-Some.is) c.area_at.ensures
      c.mount-mounted.ensures.ends c.selected_as.result c.selected_as.ensures;
  sound = chosen_sound c.args.map.now c.in-Some.place c.area_at.result (g.F.Flash.device c.args.flash.now) (g.F.Flash.device c.mount-mounted.new.flash) c.mount-mounted.result (sym c.selector_place.ensures ∙ c.in-Some.is) c.area_at.ensures
      c.mount-mounted.ensures.sound;
  active = chosen_active c.args.map.now c.in-Some.place c.area_at.result (g.F.Flash.device c.args.flash.now) (g.F.Flash.device c.mount-mounted.new.flash) c.mount-mounted.result (sym c.selector_place.ensures ∙ c.in-Some.is) c.area_at.ensures
      c.mount-mounted.ensures.active;
  records = chosen_records c.args.map.now c.in-Some.place c.area_at.result (g.F.Flash.device c.args.flash.now) (g.F.Flash.device c.mount-mounted.new.flash) c.mount-mounted.result (sym c.selector_place.ensures ∙ c.in-Some.is) c.area_at.ensures
      c.mount-mounted.ensures.list;
  idle = chosen_idle c.args.map.now c.in-Some.place c.area_at.result (g.F.Flash.device c.args.flash.now) (g.F.Flash.device c.mount-mounted.new.flash) c.mount-mounted.result (sym c.selector_place.ensures ∙ c.in-Some.is) c.area_at.ensures
      c.mount-mounted.ensures.idle;
  units = chosen_units c.args.map.now c.in-Some.place c.area_at.result (g.F.Flash.device c.args.flash.now) (g.F.Flash.device c.mount-mounted.new.flash) c.mount-mounted.result (sym c.selector_place.ensures ∙ c.in-Some.is) c.area_at.ensures
      c.mount-mounted.ensures.units c.selected_as.result c.selected_as.ensures;
  left = selector_left c.args.map.now c.area_at.result (g.F.Flash.device c.args.flash.now) (g.F.Flash.device c.mount-mounted.new.flash)
      (selected c.args.map.now c.in-Some.place c.area_at.result (sym c.selector_place.ensures ∙ c.in-Some.is) c.area_at.ensures) c.mount-mounted.ensures.left;
  at_most = selector_most c.args.map.now c.area_at.result (g.F.Flash.device c.args.flash.now) (g.F.Flash.device c.mount-mounted.new.flash) c.mount-mounted.result
      (selected c.args.map.now c.in-Some.place c.area_at.result (sym c.selector_place.ensures ∙ c.in-Some.is) c.area_at.ensures) c.mount-mounted.ensures.ends c.mount-mounted.ensures.units c.mount-mounted.ensures.bound;
}

pub returns-in-None-clause-ends : goal.returns-in-None-clause-ends
returns-in-None-clause-ends g c = none_ends c.args.map.now (g.F.Flash.device c.args.flash.now) (unselected c.args.map.now (sym c.selector_place.ensures ∙ c.in-None.is))

pub returns-in-None-clause-records : goal.returns-in-None-clause-records
returns-in-None-clause-records g c = λ was s is. refl

pub returns-in-None-clause-units : goal.returns-in-None-clause-units
returns-in-None-clause-units g c = λ area is. absurd (none-some area (sym (unselected c.args.map.now (sym c.selector_place.ensures ∙ c.in-None.is)) ∙ is))

pub returns-in-None-clause-at_most : goal.returns-in-None-clause-at_most
returns-in-None-clause-at_most g c =
    spends_nothing (g.F.Flash.device c.args.flash.now) (g.F.Flash.device c.args.flash.now) (selector_erases c.args.map.now (g.F.Flash.device c.args.flash.now)) refl

pub returns-in-None-clause-left : goal.returns-in-None-clause-left
returns-in-None-clause-left g c = omega arith
