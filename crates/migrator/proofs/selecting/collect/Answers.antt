use Rattle.std.proofs.Common.{◌≡◌}
use Rattle.flash_map.specs.Area.{sectors_of}
use Rattle.fcb_ring.specs.Changing.{next_place}
use Rattle.migrator.proofs.ErasesLeft.{changed-left, ready-few, same-others, scratch-others}
use Rattle.migrator.proofs.Spent.{most_then, record-same}
use Rattle.fcb_ring.specs.Changing.{header_units, record_units}
use Rattle.flash_map.proofs.SpendingLemmas.{most_weaker, spends_most}
use Rattle.flash_map.specs.Spending.{SpendsAtMost}
use Rattle.std.proofs.Common.{ℕ, ◌+◌, arith}
use Rattle.std.proofs.Common.{true, false}
use Rattle.flash_map.proofs.PieceLemmas.{on_err}
use Rattle.fcb_ring.specs.Standing.{KeepsEntries}
use Rattle.flash_sim.specs.Device.{Device}
use Rattle.flash_map.specs.Touches.{Touches}
use Rattle.flash_map.proofs.Touches.{then}
use Rattle.fcb_ring.proofs.AppendLemmas.{is_err_by}
use Rattle.std.proofs.Common.{[], ◌∷◌, subst, ◌∙◌}
use Rattle.flash_map.specs.declared.area.Area.{Area}
use Rattle.migrator.proofs.Collecting.{active-kept, begun-fresh, begun-end, last-contained, last-short, collected-all}
use Rattle.migrator.proofs.ErrLemmas.{not-ok}
use Rattle.migrator.proofs.selecting.collect.Goals as goal

pub copy_last-requires-clause-listed : goal.copy_last-requires-clause-listed
copy_last-requires-clause-listed g c =
    last-contained c.args.map.now (g.F.Flash.device c.args.flash.now) (g.F.Flash.device c.begin_collect.new.flash) c.args.ring.now.area c.begin_collect.new.self.area c.last_record-last.result
    c.last_record-last.ensures c.in_ok-begin_collect.ensures.begun.list c.in_ok-begin_collect.ensures.begun.area

pub copy_last-requires-clause-short : goal.copy_last-requires-clause-short
copy_last-requires-clause-short g c =
    last-short c.args.map.now (g.F.Flash.device c.args.flash.now) c.args.ring.now c.last_record-last.result (g.met.F.Flash.is_lawful c.args.flash.now) c.requires.mounted.stands c.last_record-last.ensures

pub returns-in_err-end_collect-clause-touches : goal.returns-in_err-end_collect-clause-touches
returns-in_err-end_collect-clause-touches g c =
    let a : Device = g.F.Flash.device c.args.flash.now in
    let e : Device = g.F.Flash.device c.end_collect.new.flash in
    let area1 = c.in_ok-begin_collect.ensures.begun.area in
    let area2 = c.in_ok-copy_last.ensures.only.area ∙ area1 in
    is_err_by c.from_residual-in_err-end_collect.result (λ b. Touches (c.args.ring.now.area ∷ []) a e b) c.from_residual-in_err-end_collect.ensures.0
    (then (then c.in_ok-begin_collect.ensures.touches (subst (λ (x : Area). Touches (x ∷ []) (g.F.Flash.device c.begin_collect.new.flash) (g.F.Flash.device c.copy_last.new.flash) false) area1 c.in_ok-copy_last.ensures.touches))
    (subst (λ (x : Area). Touches (x ∷ []) (g.F.Flash.device c.copy_last.new.flash) (g.F.Flash.device c.end_collect.new.flash) true) area2 c.in_err-end_collect.ensures.touches))

pub returns-clause-touches : goal.returns-clause-touches
returns-clause-touches g c =
    let area1 = c.in_ok-begin_collect.ensures.begun.area in
    let area2 = c.in_ok-copy_last.ensures.only.area ∙ area1 in
    then (then c.in_ok-begin_collect.ensures.touches (subst (λ (x : Area). Touches (x ∷ []) (g.F.Flash.device c.begin_collect.new.flash) (g.F.Flash.device c.copy_last.new.flash) false) area1 c.in_ok-copy_last.ensures.touches))
    (subst (λ (x : Area). Touches (x ∷ []) (g.F.Flash.device c.copy_last.new.flash) (g.F.Flash.device c.end_collect.new.flash) false) area2 c.in_ok-end_collect.ensures.touches)

pub returns-clause-collected : goal.returns-clause-collected
returns-clause-collected g c =
    let one = c.in_ok-begin_collect.ensures.begun in
    let two = c.in_ok-copy_last.ensures in
    let three = c.in_ok-end_collect.ensures in
    collected-all c.args.map.now (g.F.Flash.device c.args.flash.now) (g.F.Flash.device c.begin_collect.new.flash) (g.F.Flash.device c.copy_last.new.flash) (g.F.Flash.device c.end_collect.new.flash)
    c.args.ring.now c.begin_collect.new.self c.copy_last.new.ring c.end_collect.new.self c.last_record-last.result
    (g.met.F.Flash.is_lawful c.args.flash.now) (g.met.F.Flash.is_lawful c.begin_collect.new.flash) (g.met.F.Flash.is_lawful c.copy_last.new.flash) c.requires.mounted c.requires.left c.last_record-last.ensures
    one.banks two.touches.banks one.others two.only.others one.units two.units three.ended.units one.list one.area one.stands one.goes_on two.only.list two.only.area two.collecting two.copied three.ended.ends
    three.ended.stands three.ended.ready (three.ended.reserve ∙ two.only.reserve ∙ one.reserve) three.ended.end

pub returns-in_err-begin_collect-clause-at_most : goal.returns-in_err-begin_collect-clause-at_most
returns-in_err-begin_collect-clause-at_most g c =
    let a : Device = g.F.Flash.device c.args.flash.now in
    most_weaker a (g.F.Flash.device c.begin_collect.new.flash) (header_units a c.args.ring.now.area) (header_units a c.args.ring.now.area + record_units a c.args.ring.now.area 2 + 1) (omega arith) c.in_err-begin_collect.ensures.stopped.bound

pub returns-in_err-copy_last-clause-at_most : goal.returns-in_err-copy_last-clause-at_most
returns-in_err-copy_last-clause-at_most g c =
    let a : Device = g.F.Flash.device c.args.flash.now in
    let b : Device = g.F.Flash.device c.begin_collect.new.flash in
    let e : Device = g.F.Flash.device c.copy_last.new.flash in
    let area = c.args.ring.now.area in
    let one = c.in_ok-begin_collect.ensures.begun in
    let two : SpendsAtMost b e (record_units a area 2) = subst (λ (n : ℕ). SpendsAtMost b e n) (record-same a b area c.begin_collect.new.self.area one.banks one.area) c.copy_last.ensures.at_most in
    most_weaker a e (header_units a area + record_units a area 2) (header_units a area + record_units a area 2 + 1) (omega arith)
    (most_then a b e (header_units a area) (record_units a area 2) (spends_most a b (header_units a area) one.units) two)

pub returns-in_err-end_collect-clause-at_most : goal.returns-in_err-end_collect-clause-at_most
returns-in_err-end_collect-clause-at_most g c =
    let a : Device = g.F.Flash.device c.args.flash.now in
    let b : Device = g.F.Flash.device c.begin_collect.new.flash in
    let m : Device = g.F.Flash.device c.copy_last.new.flash in
    let e : Device = g.F.Flash.device c.end_collect.new.flash in
    let area = c.args.ring.now.area in
    let one = c.in_ok-begin_collect.ensures.begun in
    let two : SpendsAtMost b m (record_units a area 2) = subst (λ (n : ℕ). SpendsAtMost b m n) (record-same a b area c.begin_collect.new.self.area one.banks one.area) c.copy_last.ensures.at_most in
    most_then a m e (header_units a area + record_units a area 2) 1 (most_then a b m (header_units a area) (record_units a area 2) (spends_most a b (header_units a area) one.units) two) c.in_err-end_collect.ensures.stopped.bound

pub returns-clause-at_most : goal.returns-clause-at_most
returns-clause-at_most g c =
    let a : Device = g.F.Flash.device c.args.flash.now in
    let b : Device = g.F.Flash.device c.begin_collect.new.flash in
    let m : Device = g.F.Flash.device c.copy_last.new.flash in
    let e : Device = g.F.Flash.device c.end_collect.new.flash in
    let area = c.args.ring.now.area in
    let one = c.in_ok-begin_collect.ensures.begun in
    let two : SpendsAtMost b m (record_units a area 2) = subst (λ (n : ℕ). SpendsAtMost b m n) (record-same a b area c.begin_collect.new.self.area one.banks one.area) c.copy_last.ensures.at_most in
    most_then a m e (header_units a area + record_units a area 2) 1 (most_then a b m (header_units a area) (record_units a area 2) (spends_most a b (header_units a area) one.units) two) (spends_most m e 1 c.in_ok-end_collect.ensures.ended.units)

pub copy_last-requires-clause-scratch : goal.copy_last-requires-clause-scratch
copy_last-requires-clause-scratch g c =
    let d : Device = g.F.Flash.device c.args.flash.now in
    let b : Device = g.F.Flash.device c.begin_collect.new.flash in
    let one = c.in_ok-begin_collect.ensures.begun in
    record {
      stands = one.stands;
      collecting = one.stage;
      no_copies = begun-fresh d b c.args.ring.now c.begin_collect.new.self one;
      end = begun-end d b c.args.ring.now c.begin_collect.new.self one;
    }

pub returns-in_err-begin_collect-clause-left : goal.returns-in_err-begin_collect-clause-left
returns-in_err-begin_collect-clause-left g c =
    let stopped = c.in_err-begin_collect.ensures.stopped in
    changed-left (g.F.Flash.device c.args.flash.now) (g.F.Flash.device c.begin_collect.new.flash) c.args.ring.now c.requires.mounted.stands c.requires.mounted.ready stopped.banks (next_place c.args.ring.now) stopped.others

pub returns-in_err-copy_last-clause-left : goal.returns-in_err-copy_last-clause-left
returns-in_err-copy_last-clause-left g c =
    let a : Device = g.F.Flash.device c.args.flash.now in
    let b : Device = g.F.Flash.device c.begin_collect.new.flash in
    let d : Device = g.F.Flash.device c.copy_last.new.flash in
    let one = c.in_ok-begin_collect.ensures.begun in
    changed-left a d c.args.ring.now c.requires.mounted.stands c.requires.mounted.ready (c.in_err-copy_last.ensures.touches.banks ∙ one.banks) (next_place c.args.ring.now)
    (scratch-others a b c.args.ring.now c.begin_collect.new.self one d c.in_err-copy_last.ensures.only.others)

pub returns-in_err-end_collect-clause-left : goal.returns-in_err-end_collect-clause-left
returns-in_err-end_collect-clause-left g c =
    let a : Device = g.F.Flash.device c.args.flash.now in
    let b : Device = g.F.Flash.device c.begin_collect.new.flash in
    let d : Device = g.F.Flash.device c.copy_last.new.flash in
    let e : Device = g.F.Flash.device c.end_collect.new.flash in
    let one = c.in_ok-begin_collect.ensures.begun in
    let two = c.in_ok-copy_last.ensures in
    let three = c.in_err-end_collect.ensures in
    changed-left a e c.args.ring.now c.requires.mounted.stands c.requires.mounted.ready (three.touches.banks ∙ two.touches.banks ∙ one.banks) (next_place c.args.ring.now)
    (same-others a d e c.args.ring.now.area (next_place c.args.ring.now) (scratch-others a b c.args.ring.now c.begin_collect.new.self one d two.only.others)
    (subst (λ (x : Area). sectors_of e x ≡ sectors_of d x) (two.only.area ∙ one.area) three.stopped.same))

pub returns-clause-left : goal.returns-clause-left
returns-clause-left g c =
    let three = c.in_ok-end_collect.ensures in
    ready-few (g.F.Flash.device c.end_collect.new.flash) c.end_collect.new.self c.args.ring.now.area (three.ended.area ∙ c.in_ok-copy_last.ensures.only.area ∙ c.in_ok-begin_collect.ensures.begun.area) three.ended.stands three.ended.ready

pub last_record-last-requires : goal.last_record-last-requires
last_record-last-requires g c = c.requires.mounted.stands

pub begin_collect-requires : goal.begin_collect-requires
begin_collect-requires g c = record { stands = c.requires.mounted.stands; ready = c.requires.mounted.ready; left = c.requires.left }

pub end_collect-requires : goal.end_collect-requires
end_collect-requires g c = record { stands = c.in_ok-copy_last.ensures.stands; collecting = c.in_ok-copy_last.ensures.collecting }

pub returns-in_err-begin_collect-clause-touches : goal.returns-in_err-begin_collect-clause-touches
returns-in_err-begin_collect-clause-touches g c =
    is_err_by c.from_residual.result (λ b. Touches (c.args.ring.now.area ∷ []) (g.F.Flash.device c.args.flash.now) (g.F.Flash.device c.begin_collect.new.flash) b) c.from_residual.ensures.0 c.in_err-begin_collect.ensures.touches

pub returns-in_err-begin_collect-clause-area : goal.returns-in_err-begin_collect-clause-area
returns-in_err-begin_collect-clause-area g c = c.in_err-begin_collect.ensures.stopped.area

pub returns-in_err-begin_collect-clause-collected : goal.returns-in_err-begin_collect-clause-collected
returns-in_err-begin_collect-clause-collected g c = not-ok _ c.from_residual.result c.from_residual.ensures.0

pub returns-in_err-begin_collect-clause-active : goal.returns-in_err-begin_collect-clause-active
returns-in_err-begin_collect-clause-active g c =
    on_err c.from_residual.result (active-kept c.args.map.now (g.F.Flash.device c.args.flash.now) (g.F.Flash.device c.begin_collect.new.flash) c.args.ring.now.area c.in_err-begin_collect.ensures.stopped.list)

pub returns-in_err-begin_collect-clause-undamaged : goal.returns-in_err-begin_collect-clause-undamaged
returns-in_err-begin_collect-clause-undamaged g c = on_err c.from_residual.result c.in_err-begin_collect.ensures.stopped.list.undamaged

pub returns-in_err-begin_collect-clause-down : goal.returns-in_err-begin_collect-clause-down
returns-in_err-begin_collect-clause-down g c = on_err c.from_residual.result c.in_err-begin_collect.ensures.stopped.down

pub returns-in_err-copy_last-clause-touches : goal.returns-in_err-copy_last-clause-touches
returns-in_err-copy_last-clause-touches g c =
    is_err_by c.from_residual-in_err-copy_last.result (λ b. Touches (c.args.ring.now.area ∷ []) (g.F.Flash.device c.args.flash.now) (g.F.Flash.device c.copy_last.new.flash) b) c.from_residual-in_err-copy_last.ensures.0
    (then c.in_ok-begin_collect.ensures.touches
    (subst (λ (x : Area). Touches (x ∷ []) (g.F.Flash.device c.begin_collect.new.flash) (g.F.Flash.device c.copy_last.new.flash) true) c.in_ok-begin_collect.ensures.begun.area c.in_err-copy_last.ensures.touches))

pub returns-in_err-copy_last-clause-area : goal.returns-in_err-copy_last-clause-area
returns-in_err-copy_last-clause-area g c = c.in_err-copy_last.ensures.only.area ∙ c.in_ok-begin_collect.ensures.begun.area

pub returns-in_err-copy_last-clause-collected : goal.returns-in_err-copy_last-clause-collected
returns-in_err-copy_last-clause-collected g c = not-ok _ c.from_residual-in_err-copy_last.result c.from_residual-in_err-copy_last.ensures.0

pub returns-in_err-copy_last-clause-active : goal.returns-in_err-copy_last-clause-active
returns-in_err-copy_last-clause-active g c =
    let b : Device = g.F.Flash.device c.begin_collect.new.flash in
    let d : Device = g.F.Flash.device c.copy_last.new.flash in
    let one = c.in_ok-begin_collect.ensures.begun in
    let same : KeepsEntries b d c.args.ring.now.area = subst (λ (x : Area). KeepsEntries b d x) one.area c.in_err-copy_last.ensures.only.list in
    on_err c.from_residual-in_err-copy_last.result
    (active-kept c.args.map.now b d c.args.ring.now.area same ∙ active-kept c.args.map.now (g.F.Flash.device c.args.flash.now) b c.args.ring.now.area one.list)

pub returns-in_err-copy_last-clause-undamaged : goal.returns-in_err-copy_last-clause-undamaged
returns-in_err-copy_last-clause-undamaged g c =
    let b : Device = g.F.Flash.device c.begin_collect.new.flash in
    let d : Device = g.F.Flash.device c.copy_last.new.flash in
    let same : KeepsEntries b d c.args.ring.now.area = subst (λ (x : Area). KeepsEntries b d x) c.in_ok-begin_collect.ensures.begun.area c.in_err-copy_last.ensures.only.list in
    on_err c.from_residual-in_err-copy_last.result same.undamaged

pub returns-in_err-copy_last-clause-down : goal.returns-in_err-copy_last-clause-down
returns-in_err-copy_last-clause-down g c = on_err c.from_residual-in_err-copy_last.result c.in_err-copy_last.ensures.down

pub returns-in_err-end_collect-clause-area : goal.returns-in_err-end_collect-clause-area
returns-in_err-end_collect-clause-area g c = c.in_err-end_collect.ensures.stopped.ring.area ∙ c.in_ok-copy_last.ensures.only.area ∙ c.in_ok-begin_collect.ensures.begun.area

pub returns-in_err-end_collect-clause-collected : goal.returns-in_err-end_collect-clause-collected
returns-in_err-end_collect-clause-collected g c = not-ok _ c.from_residual-in_err-end_collect.result c.from_residual-in_err-end_collect.ensures.0

pub returns-in_err-end_collect-clause-active : goal.returns-in_err-end_collect-clause-active
returns-in_err-end_collect-clause-active g c =
    let area = c.args.ring.now.area in
    let b : Device = g.F.Flash.device c.begin_collect.new.flash in
    let d : Device = g.F.Flash.device c.copy_last.new.flash in
    let e : Device = g.F.Flash.device c.end_collect.new.flash in
    let one = c.in_ok-begin_collect.ensures.begun in
    let two = c.in_ok-copy_last.ensures.only in
    let copied : KeepsEntries b d area = subst (λ (x : Area). KeepsEntries b d x) one.area two.list in
    let kept : KeepsEntries d e area = subst (λ (x : Area). KeepsEntries d e x) (two.area ∙ one.area) c.in_err-end_collect.ensures.stopped.list in
    on_err c.from_residual-in_err-end_collect.result
    (active-kept c.args.map.now d e area kept ∙ active-kept c.args.map.now b d area copied ∙ active-kept c.args.map.now (g.F.Flash.device c.args.flash.now) b area one.list)

pub returns-in_err-end_collect-clause-undamaged : goal.returns-in_err-end_collect-clause-undamaged
returns-in_err-end_collect-clause-undamaged g c =
    let d : Device = g.F.Flash.device c.copy_last.new.flash in
    let e : Device = g.F.Flash.device c.end_collect.new.flash in
    let kept : KeepsEntries d e c.args.ring.now.area = subst (λ (x : Area). KeepsEntries d e x) (c.in_ok-copy_last.ensures.only.area ∙ c.in_ok-begin_collect.ensures.begun.area) c.in_err-end_collect.ensures.stopped.list in
    on_err c.from_residual-in_err-end_collect.result kept.undamaged

pub returns-in_err-end_collect-clause-down : goal.returns-in_err-end_collect-clause-down
returns-in_err-end_collect-clause-down g c = on_err c.from_residual-in_err-end_collect.result c.in_err-end_collect.ensures.stopped.ring.down

pub returns-clause-area : goal.returns-clause-area
returns-clause-area g c = c.in_ok-end_collect.ensures.ended.area ∙ c.in_ok-copy_last.ensures.only.area ∙ c.in_ok-begin_collect.ensures.begun.area

pub returns-clause-active : goal.returns-clause-active
returns-clause-active g c = tt

pub returns-clause-undamaged : goal.returns-clause-undamaged
returns-clause-undamaged g c = tt

pub returns-clause-down : goal.returns-clause-down
returns-clause-down g c = tt
