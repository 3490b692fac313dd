use Rattle.std.proofs.Common.{◌≡◌, ℕ, Bool, true, false, List, [], ◌∷◌, sym, ap, subst, ◌∙◌, inl, inr}
use Rattle.std.proofs.lemmas.Result.{on_ok_weaker, on_err_weaker}
use Rattle.flash_sim.specs.Device.{Device}
use Rattle.flash_sim.specs.declared.flash.Bank.{Bank}
use Rattle.flash_map.specs.declared.area.Area.{Area}
use Rattle.flash_map.specs.Area.{geometry_of, sector_at, sectors_of}
use Rattle.flash_map.specs.Touches.{Touches}
use Rattle.flash_map.proofs.PieceLemmas.{on_err}
use Rattle.flash_map.proofs.Touches.{then}
use Rattle.item_laws.specs.Area.{next}
use Rattle.item_laws.proofs.AreaReads.{next_there}
use Rattle.item_laws.specs.Forms.{to_copy}
use Rattle.item_store.specs.SectorFormat.{SectorFormat, IsSectorFormat}
use Rattle.item_store.specs.Standing.{IsStoreArea}
use Rattle.item_store.specs.Spending.{both, copies, victim_units, collect_units}
use Rattle.item_store.proofs.Areas.{unit_is, only_then, stopped-keeps}
use Rattle.item_store.proofs.CopyLoop.{either}
use Rattle.item_store.proofs.ListSteps.{stopped-list}
use Rattle.item_store.proofs.Ranges.{by-cut, by-ends, first-lost}
use Rattle.item_store.proofs.SlotFacts.{current_within}
use Rattle.item_store.proofs.CallFacts.{to_geometry, from_geometry, mark_opened, mark_collecting, mark_has_room, mark_lost, mark_lost_list, mark_spends_lost, cleared, cleared_keeps, clear_lost, clear_lost_list, open_same, spends_all, spends_all_lost}
use Rattle.item_store.proofs.WrittenSteps.{stopped-written}
use Rattle.item_store.proofs.WrittenFacts.{mark_cut-written, clear-written}
use Rattle.item_store.proofs.MarkFacts.{own-marks}
use Rattle.item_store.proofs.collecting.collect.Goals as goal

pub next-victim-requires : goal.next-victim-requires
next-victim-requires g c =
    let a : Device = g.F.Flash.device c.args.flash.now in
    let area : Area = c.args.area.now in
    let place : ℕ = c.args.current in
    let law : IsSectorFormat (g.T.SlotSectors.format_of (geometry_of a area)) = g.met.T.SlotSectors.lawful (geometry_of a area) (unit_is a area (g.met.F.Flash.is_lawful c.args.flash.now) c.requires.area.lawful) in
    current_within a area place c.requires.collecting.ring.within

pub copy_live-requires-clause-victim : goal.copy_live-requires-clause-victim
copy_live-requires-clause-victim g c =
    let a : Device = g.F.Flash.device c.args.flash.now in
    let area : Area = c.args.area.now in
    let place : ℕ = c.args.current in
    let law : IsSectorFormat (g.T.SlotSectors.format_of (geometry_of a area)) = g.met.T.SlotSectors.lawful (geometry_of a area) (unit_is a area (g.met.F.Flash.is_lawful c.args.flash.now) c.requires.area.lawful) in
    c.next-victim.ensures.value ∙ next_there a area place

pub returns-in_err-copy_live-clause-items : goal.returns-in_err-copy_live-clause-items
returns-in_err-copy_live-clause-items g c =
    let a : Device = g.F.Flash.device c.args.flash.now in
    let area : Area = c.args.area.now in
    let place : ℕ = c.args.current in
    let law : IsSectorFormat (g.T.SlotSectors.format_of (geometry_of a area)) = g.met.T.SlotSectors.lawful (geometry_of a area) (unit_is a area (g.met.F.Flash.is_lawful c.args.flash.now) c.requires.area.lawful) in
    stopped-keeps (g.T.SlotSectors.format_of (geometry_of a area)) law (sectors_of a area) (sectors_of (g.F.Flash.device c.copy_live.new.flash) area) place c.requires.collecting c.in_err-copy_live.ensures.lost

pub mark_done-requires-clause-here : goal.mark_done-requires-clause-here
mark_done-requires-clause-here g c = record {
  area = subst (λ (banks : List Bank). IsStoreArea g.T.SlotSectors.role banks c.args.area.now) (sym c.in_ok-copy_live.ensures.touches.banks) c.requires.area;
  inside = current_within (g.F.Flash.device c.args.flash.now) c.args.area.now c.args.current c.requires.collecting.ring.within;
  kept =
      let a : Device = g.F.Flash.device c.args.flash.now in
      let area : Area = c.args.area.now in
      let place : ℕ = c.args.current in
      let d : Device = g.F.Flash.device c.copy_live.new.flash in
      let did = c.in_ok-copy_live.ensures in
      from_geometry (λ u. c.copy_live.new.opened ≡ g.T.SlotSectors.kept u (sector_at (sectors_of d area) place)) a d area did.touches.banks did.kept;
  ready =
      let a : Device = g.F.Flash.device c.args.flash.now in
      let area : Area = c.args.area.now in
      let place : ℕ = c.args.current in
      let d : Device = g.F.Flash.device c.copy_live.new.flash in
      let did = c.in_ok-copy_live.ensures in
      from_geometry (λ u. (g.T.SlotSectors.format_of u).is_ready (sector_at (sectors_of d area) place) ≡ true) a d area did.touches.banks did.copies.ready;
  opened =
      let a : Device = g.F.Flash.device c.args.flash.now in
      let area : Area = c.args.area.now in
      let place : ℕ = c.args.current in
      let law : IsSectorFormat (g.T.SlotSectors.format_of (geometry_of a area)) = g.met.T.SlotSectors.lawful (geometry_of a area) (unit_is a area (g.met.F.Flash.is_lawful c.args.flash.now) c.requires.area.lawful) in
      let d : Device = g.F.Flash.device c.copy_live.new.flash in
      let did = c.in_ok-copy_live.ensures in
      mark_opened g.T.SlotSectors.format_of g.T.SlotSectors.role a area place law (g.met.F.Flash.is_lawful c.args.flash.now) c.requires.area c.requires.collecting d did.touches.banks did.copies;
}

pub mark_done-requires-clause-room : goal.mark_done-requires-clause-room
mark_done-requires-clause-room g c =
    let a : Device = g.F.Flash.device c.args.flash.now in
    let area : Area = c.args.area.now in
    let place : ℕ = c.args.current in
    let law : IsSectorFormat (g.T.SlotSectors.format_of (geometry_of a area)) = g.met.T.SlotSectors.lawful (geometry_of a area) (unit_is a area (g.met.F.Flash.is_lawful c.args.flash.now) c.requires.area.lawful) in
    let d : Device = g.F.Flash.device c.copy_live.new.flash in
    let did = c.in_ok-copy_live.ensures in
    mark_has_room g.T.SlotSectors.format_of g.T.SlotSectors.role a area place law (g.met.F.Flash.is_lawful c.args.flash.now) c.requires.area c.requires.collecting d did.touches.banks did.copies

pub returns-in_err-mark_done-clause-items : goal.returns-in_err-mark_done-clause-items
returns-in_err-mark_done-clause-items g c =
    let a : Device = g.F.Flash.device c.args.flash.now in
    let area : Area = c.args.area.now in
    let place : ℕ = c.args.current in
    let law : IsSectorFormat (g.T.SlotSectors.format_of (geometry_of a area)) = g.met.T.SlotSectors.lawful (geometry_of a area) (unit_is a area (g.met.F.Flash.is_lawful c.args.flash.now) c.requires.area.lawful) in
    let d : Device = g.F.Flash.device c.copy_live.new.flash in
    let did = c.in_ok-copy_live.ensures in
    let e : Device = g.F.Flash.device c.mark_done.new.flash in
    mark_lost g.T.SlotSectors.format_of g.T.SlotSectors.role a area place law (g.met.F.Flash.is_lawful c.args.flash.now) c.requires.area c.requires.collecting d did.touches.banks did.copies e c.in_err-mark_done.ensures.only c.in_err-mark_done.ensures.err.lost

pub returns-in_err-copy_live-clause-spends : goal.returns-in_err-copy_live-clause-spends
returns-in_err-copy_live-clause-spends g c =
    let a : Device = g.F.Flash.device c.args.flash.now in
    let k : SectorFormat = g.T.SlotSectors.format_of (geometry_of a c.args.area.now) in
    by-cut a (g.F.Flash.device c.copy_live.new.flash) (collect_units (g.T.SlotSectors.format_of (geometry_of a c.args.area.now)) (sectors_of a c.args.area.now) c.args.current) c.from_residual.result c.from_residual.ensures.0
    (first-lost a (g.F.Flash.device c.copy_live.new.flash) (copies k (to_copy k.reading (sectors_of a c.args.area.now) c.args.current)) (both k.units.any_done (victim_units k (sectors_of a c.args.area.now) c.args.current)) c.in_err-copy_live.ensures.spends_lost)

pub returns-in_err-mark_done-clause-spends : goal.returns-in_err-mark_done-clause-spends
returns-in_err-mark_done-clause-spends g c =
    let a : Device = g.F.Flash.device c.args.flash.now in
    let area : Area = c.args.area.now in
    let place : ℕ = c.args.current in
    let law : IsSectorFormat (g.T.SlotSectors.format_of (geometry_of a area)) = g.met.T.SlotSectors.lawful (geometry_of a area) (unit_is a area (g.met.F.Flash.is_lawful c.args.flash.now) c.requires.area.lawful) in
    let d : Device = g.F.Flash.device c.copy_live.new.flash in
    let did = c.in_ok-copy_live.ensures in
    let e : Device = g.F.Flash.device c.mark_done.new.flash in
    by-cut a e (collect_units (g.T.SlotSectors.format_of (geometry_of a area)) (sectors_of a area) c.args.current) c.from_residual-in_err-mark_done.result c.from_residual-in_err-mark_done.ensures.0
    (mark_spends_lost g.T.SlotSectors.format_of g.T.SlotSectors.role a area place law (g.met.F.Flash.is_lawful c.args.flash.now) c.requires.area c.requires.collecting d did.touches.banks did.copies e did.spends c.in_err-mark_done.ensures.err.spends_lost)

pub returns-clause-touches : goal.returns-clause-touches
returns-clause-touches g c =
    then (then c.in_ok-copy_live.ensures.touches c.in_ok-mark_done.ensures.touches) c.clear.ensures.touches

pub returns-clause-collects : goal.returns-clause-collects
returns-clause-collects g c =
    let a : Device = g.F.Flash.device c.args.flash.now in
    let area : Area = c.args.area.now in
    let place : ℕ = c.args.current in
    let law : IsSectorFormat (g.T.SlotSectors.format_of (geometry_of a area)) = g.met.T.SlotSectors.lawful (geometry_of a area) (unit_is a area (g.met.F.Flash.is_lawful c.args.flash.now) c.requires.area.lawful) in
    let d : Device = g.F.Flash.device c.copy_live.new.flash in
    let did = c.in_ok-copy_live.ensures in
    let e : Device = g.F.Flash.device c.mark_done.new.flash in
    let both = then did.touches c.in_ok-mark_done.ensures.touches in
    let marked = c.in_ok-mark_done.ensures in
    let z : Device = g.F.Flash.device c.clear.new.flash in
    let at : c.next-victim.result ≡ next (sectors_of a area) place = c.next-victim.ensures.value ∙ next_there a area place in
    on_ok_weaker c.clear.result (λ clears. cleared g.T.SlotSectors.format_of g.T.SlotSectors.role a area place law (g.met.F.Flash.is_lawful c.args.flash.now) c.requires.area c.requires.collecting d did.touches.banks did.copies e both.banks marked.only marked.ok.marks c.next-victim.result at z c.clear.ensures.only clears) c.clear.ensures.clears

pub returns-clause-items : goal.returns-clause-items
returns-clause-items g c =
    let a : Device = g.F.Flash.device c.args.flash.now in
    let area : Area = c.args.area.now in
    let place : ℕ = c.args.current in
    let law : IsSectorFormat (g.T.SlotSectors.format_of (geometry_of a area)) = g.met.T.SlotSectors.lawful (geometry_of a area) (unit_is a area (g.met.F.Flash.is_lawful c.args.flash.now) c.requires.area.lawful) in
    let d : Device = g.F.Flash.device c.copy_live.new.flash in
    let did = c.in_ok-copy_live.ensures in
    let e : Device = g.F.Flash.device c.mark_done.new.flash in
    let both = then did.touches c.in_ok-mark_done.ensures.touches in
    let marked = c.in_ok-mark_done.ensures in
    let z : Device = g.F.Flash.device c.clear.new.flash in
    let at : c.next-victim.result ≡ next (sectors_of a area) place = c.next-victim.ensures.value ∙ next_there a area place in
    either c.clear.result
    (on_ok_weaker c.clear.result (λ clears. cleared_keeps g.T.SlotSectors.format_of g.T.SlotSectors.role a area place law (g.met.F.Flash.is_lawful c.args.flash.now) c.requires.area c.requires.collecting d did.touches.banks did.copies e both.banks marked.only marked.ok.marks c.next-victim.result at z c.clear.ensures.only clears.clean) c.clear.ensures.clears)
    (on_err_weaker c.clear.result (λ keeps. clear_lost g.T.SlotSectors.format_of g.T.SlotSectors.role a area place law (g.met.F.Flash.is_lawful c.args.flash.now) c.requires.area c.requires.collecting d did.touches.banks did.copies e both.banks marked.only marked.ok.marks c.next-victim.result at z c.clear.ensures.only keeps) c.clear.ensures.lost)

pub returns-clause-spends : goal.returns-clause-spends
returns-clause-spends g c =
    let a : Device = g.F.Flash.device c.args.flash.now in
    let area : Area = c.args.area.now in
    let place : ℕ = c.args.current in
    let law : IsSectorFormat (g.T.SlotSectors.format_of (geometry_of a area)) = g.met.T.SlotSectors.lawful (geometry_of a area) (unit_is a area (g.met.F.Flash.is_lawful c.args.flash.now) c.requires.area.lawful) in
    let d : Device = g.F.Flash.device c.copy_live.new.flash in
    let did = c.in_ok-copy_live.ensures in
    let e : Device = g.F.Flash.device c.mark_done.new.flash in
    let both = then did.touches c.in_ok-mark_done.ensures.touches in
    let marked = c.in_ok-mark_done.ensures in
    let z : Device = g.F.Flash.device c.clear.new.flash in
    let at : c.next-victim.result ≡ next (sectors_of a area) place = c.next-victim.ensures.value ∙ next_there a area place in
    by-ends a z (collect_units (g.T.SlotSectors.format_of (geometry_of a area)) (sectors_of a area) c.args.current) c.clear.result
    (on_ok_weaker c.clear.result (λ s. spends_all g.T.SlotSectors.format_of g.T.SlotSectors.role a area place law (g.met.F.Flash.is_lawful c.args.flash.now) c.requires.area c.requires.collecting d did.touches.banks did.copies e both.banks marked.only marked.ok.marks c.next-victim.result at z did.spends marked.ok.spends s) c.clear.ensures.spends)
    (on_err_weaker c.clear.result (λ s. spends_all_lost g.T.SlotSectors.format_of g.T.SlotSectors.role a area place law (g.met.F.Flash.is_lawful c.args.flash.now) c.requires.area c.requires.collecting d did.touches.banks did.copies e both.banks marked.only marked.ok.marks c.next-victim.result at z did.spends marked.ok.spends s) c.clear.ensures.spends_lost)

pub returns-in_err-copy_live-clause-written : goal.returns-in_err-copy_live-clause-written
returns-in_err-copy_live-clause-written g c =
    let a : Device = g.F.Flash.device c.args.flash.now in
    let area : Area = c.args.area.now in
    let place : ℕ = c.args.current in
    let law : IsSectorFormat (g.T.SlotSectors.format_of (geometry_of a area)) = g.met.T.SlotSectors.lawful (geometry_of a area) (unit_is a area (g.met.F.Flash.is_lawful c.args.flash.now) c.requires.area.lawful) in
    stopped-written (g.T.SlotSectors.format_of (geometry_of a area)) law (sectors_of a area) (sectors_of (g.F.Flash.device c.copy_live.new.flash) area) place c.requires.collecting c.in_err-copy_live.ensures.lost

pub returns-in_err-mark_done-clause-written : goal.returns-in_err-mark_done-clause-written
returns-in_err-mark_done-clause-written g c =
    let a : Device = g.F.Flash.device c.args.flash.now in
    let area : Area = c.args.area.now in
    let place : ℕ = c.args.current in
    let law : IsSectorFormat (g.T.SlotSectors.format_of (geometry_of a area)) = g.met.T.SlotSectors.lawful (geometry_of a area) (unit_is a area (g.met.F.Flash.is_lawful c.args.flash.now) c.requires.area.lawful) in
    let d : Device = g.F.Flash.device c.copy_live.new.flash in
    let did = c.in_ok-copy_live.ensures in
    let e : Device = g.F.Flash.device c.mark_done.new.flash in
    mark_cut-written g.T.SlotSectors.format_of a area place law c.requires.collecting d did.touches.banks e c.in_err-mark_done.ensures.only did.copies c.in_err-mark_done.ensures.err.lost

pub returns-clause-written : goal.returns-clause-written
returns-clause-written g c =
    let a : Device = g.F.Flash.device c.args.flash.now in
    let area : Area = c.args.area.now in
    let place : ℕ = c.args.current in
    let law : IsSectorFormat (g.T.SlotSectors.format_of (geometry_of a area)) = g.met.T.SlotSectors.lawful (geometry_of a area) (unit_is a area (g.met.F.Flash.is_lawful c.args.flash.now) c.requires.area.lawful) in
    let d : Device = g.F.Flash.device c.copy_live.new.flash in
    let did = c.in_ok-copy_live.ensures in
    let e : Device = g.F.Flash.device c.mark_done.new.flash in
    let marked = c.in_ok-mark_done.ensures in
    let z : Device = g.F.Flash.device c.clear.new.flash in
    let at : c.next-victim.result ≡ next (sectors_of a area) place = c.next-victim.ensures.value ∙ next_there a area place in
    clear-written g.T.SlotSectors.format_of a area place law c.requires.collecting d did.touches.banks e marked.only marked.ok.marks c.next-victim.result at z c.clear.ensures.only

pub returns-in_err-copy_live-clause-list_lost : goal.returns-in_err-copy_live-clause-list_lost
returns-in_err-copy_live-clause-list_lost g c =
    let a : Device = g.F.Flash.device c.args.flash.now in
    let area : Area = c.args.area.now in
    let place : ℕ = c.args.current in
    let law : IsSectorFormat (g.T.SlotSectors.format_of (geometry_of a area)) = g.met.T.SlotSectors.lawful (geometry_of a area) (unit_is a area (g.met.F.Flash.is_lawful c.args.flash.now) c.requires.area.lawful) in
    on_err c.from_residual.result (inl (stopped-list (g.T.SlotSectors.format_of (geometry_of a area)) law (sectors_of a area) place c.requires.collecting (sectors_of (g.F.Flash.device c.copy_live.new.flash) area) c.in_err-copy_live.ensures.lost))

pub returns-in_err-mark_done-clause-list_lost : goal.returns-in_err-mark_done-clause-list_lost
returns-in_err-mark_done-clause-list_lost g c =
    let a : Device = g.F.Flash.device c.args.flash.now in
    let area : Area = c.args.area.now in
    let place : ℕ = c.args.current in
    let law : IsSectorFormat (g.T.SlotSectors.format_of (geometry_of a area)) = g.met.T.SlotSectors.lawful (geometry_of a area) (unit_is a area (g.met.F.Flash.is_lawful c.args.flash.now) c.requires.area.lawful) in
    let d : Device = g.F.Flash.device c.copy_live.new.flash in
    let did = c.in_ok-copy_live.ensures in
    let e : Device = g.F.Flash.device c.mark_done.new.flash in
    on_err c.from_residual-in_err-mark_done.result (mark_lost_list g.T.SlotSectors.format_of g.T.SlotSectors.role a area place law (g.met.F.Flash.is_lawful c.args.flash.now) c.requires.area c.requires.collecting d did.touches.banks did.copies e c.in_err-mark_done.ensures.only c.in_err-mark_done.ensures.err.lost)

pub returns-clause-list_lost : goal.returns-clause-list_lost
returns-clause-list_lost g c =
    let a : Device = g.F.Flash.device c.args.flash.now in
    let area : Area = c.args.area.now in
    let place : ℕ = c.args.current in
    let law : IsSectorFormat (g.T.SlotSectors.format_of (geometry_of a area)) = g.met.T.SlotSectors.lawful (geometry_of a area) (unit_is a area (g.met.F.Flash.is_lawful c.args.flash.now) c.requires.area.lawful) in
    let d : Device = g.F.Flash.device c.copy_live.new.flash in
    let did = c.in_ok-copy_live.ensures in
    let e : Device = g.F.Flash.device c.mark_done.new.flash in
    let both = then did.touches c.in_ok-mark_done.ensures.touches in
    let marked = c.in_ok-mark_done.ensures in
    let z : Device = g.F.Flash.device c.clear.new.flash in
    let at : c.next-victim.result ≡ next (sectors_of a area) place = c.next-victim.ensures.value ∙ next_there a area place in
    on_err_weaker c.clear.result (λ keeps. clear_lost_list g.T.SlotSectors.format_of g.T.SlotSectors.role a area place law (g.met.F.Flash.is_lawful c.args.flash.now) c.requires.area c.requires.collecting d did.touches.banks did.copies e both.banks marked.only marked.ok.marks c.next-victim.result at z c.clear.ensures.only keeps) c.clear.ensures.lost

pub mark_done-requires-clause-collects : goal.mark_done-requires-clause-collects
mark_done-requires-clause-collects g c = record {
  collecting =
      let a : Device = g.F.Flash.device c.args.flash.now in
      let area : Area = c.args.area.now in
      let place : ℕ = c.args.current in
      let law : IsSectorFormat (g.T.SlotSectors.format_of (geometry_of a area)) = g.met.T.SlotSectors.lawful (geometry_of a area) (unit_is a area (g.met.F.Flash.is_lawful c.args.flash.now) c.requires.area.lawful) in
      let d : Device = g.F.Flash.device c.copy_live.new.flash in
      let did = c.in_ok-copy_live.ensures in
      mark_collecting g.T.SlotSectors.format_of g.T.SlotSectors.role a area place law (g.met.F.Flash.is_lawful c.args.flash.now) c.requires.area c.requires.collecting d did.touches.banks did.copies;
  not_done =
      let a : Device = g.F.Flash.device c.args.flash.now in
      let area : Area = c.args.area.now in
      let place : ℕ = c.args.current in
      let d : Device = g.F.Flash.device c.copy_live.new.flash in
      let did = c.in_ok-copy_live.ensures in
      from_geometry (λ u. (g.T.SlotSectors.format_of u).reading.has_gc_done (sector_at (sectors_of d area) place) ≡ false) a d area did.touches.banks did.copies.gc_done;
}

pub clear-requires-clause-area : goal.clear-requires-clause-area
clear-requires-clause-area g c =
    subst (λ (banks : List Bank). IsStoreArea g.T.SlotSectors.role banks c.args.area.now) (sym (c.in_ok-mark_done.ensures.touches.banks ∙ c.in_ok-copy_live.ensures.touches.banks)) c.requires.area

pub clear-requires-clause-inside : goal.clear-requires-clause-inside
clear-requires-clause-inside g c = c.next-victim.ensures.within

pub returns-in_err-copy_live-clause-touches : goal.returns-in_err-copy_live-clause-touches
returns-in_err-copy_live-clause-touches g c =
    subst (λ (lost : Bool). Touches (c.args.area.now ∷ []) (g.F.Flash.device c.args.flash.now) (g.F.Flash.device c.copy_live.new.flash) lost) (sym c.from_residual.ensures.0)
    c.in_err-copy_live.ensures.touches

pub returns-in_err-mark_done-clause-touches : goal.returns-in_err-mark_done-clause-touches
returns-in_err-mark_done-clause-touches g c =
    subst (λ (lost : Bool). Touches (c.args.area.now ∷ []) (g.F.Flash.device c.args.flash.now) (g.F.Flash.device c.mark_done.new.flash) lost) (sym c.from_residual-in_err-mark_done.ensures.0)
    (then c.in_ok-copy_live.ensures.touches c.in_err-mark_done.ensures.touches)

pub returns-clause-kept : goal.returns-clause-kept
returns-clause-kept g c =
    let a : Device = g.F.Flash.device c.args.flash.now in
    let area : Area = c.args.area.now in
    let place : ℕ = c.args.current in
    let law : IsSectorFormat (g.T.SlotSectors.format_of (geometry_of a area)) = g.met.T.SlotSectors.lawful (geometry_of a area) (unit_is a area (g.met.F.Flash.is_lawful c.args.flash.now) c.requires.area.lawful) in
    let d : Device = g.F.Flash.device c.copy_live.new.flash in
    let did = c.in_ok-copy_live.ensures in
    let e : Device = g.F.Flash.device c.mark_done.new.flash in
    let both = then did.touches c.in_ok-mark_done.ensures.touches in
    let marked = c.in_ok-mark_done.ensures in
    let z : Device = g.F.Flash.device c.clear.new.flash in
    let at : c.next-victim.result ≡ next (sectors_of a area) place = c.next-victim.ensures.value ∙ next_there a area place in
    let own : sector_at (sectors_of z area) place ≡ sector_at (sectors_of e area) place =
    open_same g.T.SlotSectors.format_of g.T.SlotSectors.role a area place law (g.met.F.Flash.is_lawful c.args.flash.now) c.requires.area c.requires.collecting d did.touches.banks did.copies e both.banks marked.only marked.ok.marks c.next-victim.result at z c.clear.ensures.only in
    let here : c.mark_done.new.self ≡ g.T.SlotSectors.kept (geometry_of a area) (sector_at (sectors_of e area) place) =
    to_geometry (λ u. c.mark_done.new.self ≡ g.T.SlotSectors.kept u (sector_at (sectors_of e area) place)) a d area did.touches.banks marked.ok.kept in
    on_ok_weaker c.clear.result (λ clears. here ∙ ap (λ (b : List ℕ). g.T.SlotSectors.kept (geometry_of a area) b) (sym own)) c.clear.ensures.clears

pub returns-in_err-copy_live-clause-marks : goal.returns-in_err-copy_live-clause-marks
returns-in_err-copy_live-clause-marks g c =
    let a : Device = g.F.Flash.device c.args.flash.now in
    let area : Area = c.args.area.now in
    let place : ℕ = c.args.current in
    own-marks (g.T.SlotSectors.format_of (geometry_of a area)) (sectors_of a area) (sectors_of (g.F.Flash.device c.copy_live.new.flash) area) place 0 c.requires.collecting.ring c.in_err-copy_live.ensures.lost.only

pub returns-in_err-mark_done-clause-marks : goal.returns-in_err-mark_done-clause-marks
returns-in_err-mark_done-clause-marks g c =
    let a : Device = g.F.Flash.device c.args.flash.now in
    let area : Area = c.args.area.now in
    let place : ℕ = c.args.current in
    let d : Device = g.F.Flash.device c.copy_live.new.flash in
    let e : Device = g.F.Flash.device c.mark_done.new.flash in
    own-marks (g.T.SlotSectors.format_of (geometry_of a area)) (sectors_of a area) (sectors_of e area) place 0 c.requires.collecting.ring
    (only_then (sectors_of a area) (sectors_of d area) (sectors_of e area) place c.in_ok-copy_live.ensures.copies.only c.in_err-mark_done.ensures.only)

pub returns-clause-marks : goal.returns-clause-marks
returns-clause-marks g c =
    let a : Device = g.F.Flash.device c.args.flash.now in
    let area : Area = c.args.area.now in
    let place : ℕ = c.args.current in
    let law : IsSectorFormat (g.T.SlotSectors.format_of (geometry_of a area)) = g.met.T.SlotSectors.lawful (geometry_of a area) (unit_is a area (g.met.F.Flash.is_lawful c.args.flash.now) c.requires.area.lawful) in
    let d : Device = g.F.Flash.device c.copy_live.new.flash in
    let did = c.in_ok-copy_live.ensures in
    let e : Device = g.F.Flash.device c.mark_done.new.flash in
    let both = then did.touches c.in_ok-mark_done.ensures.touches in
    let marked = c.in_ok-mark_done.ensures in
    let z : Device = g.F.Flash.device c.clear.new.flash in
    let at : c.next-victim.result ≡ next (sectors_of a area) place = c.next-victim.ensures.value ∙ next_there a area place in
    let own : sector_at (sectors_of z area) place ≡ sector_at (sectors_of e area) place =
    open_same g.T.SlotSectors.format_of g.T.SlotSectors.role a area place law (g.met.F.Flash.is_lawful c.args.flash.now) c.requires.area c.requires.collecting d did.touches.banks did.copies e both.banks marked.only marked.ok.marks c.next-victim.result at z c.clear.ensures.only in
    let stands : (g.T.SlotSectors.format_of (geometry_of a area)).reading.has_gc_done (sector_at (sectors_of e area) place) ≡ true =
    to_geometry (λ u. (g.T.SlotSectors.format_of u).reading.has_gc_done (sector_at (sectors_of e area) place) ≡ true) a d area did.touches.banks marked.ok.marks.list.gc_done in
    inr (ap (g.T.SlotSectors.format_of (geometry_of a area)).reading.has_gc_done own ∙ stands)
