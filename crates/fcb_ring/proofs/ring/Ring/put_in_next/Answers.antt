use Rattle.std.proofs.Common.{◌≡◌, ◌≤◌, ◌+◌, ℕ, true, false, length, inl, inr, ◌∷◌, [], ap, sym, subst, ◌∙◌, arith}
use Rattle.flash_sim.specs.Device.{Device}
use Rattle.flash_sim.specs.declared.flash.TheConstants.{PROGRAM_LIMIT}
use Rattle.flash_map.specs.Area.{unit_of, sector_size}
use Rattle.flash_map.specs.Touches.{Touches}
use Rattle.flash_map.specs.declared.area.Area.{Area}
use Rattle.flash_map.proofs.PieceLemmas.{on_err}
use Rattle.flash_map.proofs.Touches.{then}
use Rattle.fcb_ring.specs.declared.ring.Ring.{Ring}
use Rattle.fcb_ring.specs.Changing.{EndsWithRecord}
use Rattle.fcb_ring.specs.Standing.{is_finished}
use Rattle.fcb_ring.specs.Writing.{record_cost}
use Rattle.fcb_ring.proofs.AppendLemmas.{is_err_by, unit-after, size-after, adds-after, cut-after, gains-after, torn-after, others-after, opened-place, writes-after, spends-both, most-first, most-both}
use Rattle.fcb_ring.proofs.ring.Ring.put_in_next.Goals as goal

pub put_record-requires-clause-writes : goal.put_record-requires-clause-writes
put_record-requires-clause-writes g c = ap is_finished c.in_ok-open_next.ensures.opened.ring.stage

pub put_record-requires-clause-some : goal.put_record-requires-clause-some
put_record-requires-clause-some g c = omega (arith, c.in_ok-open_next.ensures.opened.ring.used)

pub put_record-requires-clause-short : goal.put_record-requires-clause-short
put_record-requires-clause-short g c =
    let a : Device = g.F.Flash.device c.args.flash.now in
    let b : Device = g.F.Flash.device c.open_next.new.flash in
    let r : Ring = c.open_next.new.self in
    let unit : unit_of b r.area ≡ unit_of a c.args.self.now.area = unit-after a b c.args.self.now.area r.area c.in_ok-open_next.ensures.touches.banks c.in_ok-open_next.ensures.opened.ring.area in
    subst (λ (u : ℕ). record_cost u (length c.args.body.now) ≤ PROGRAM_LIMIT) (sym unit) c.requires.short

pub put_record-requires-clause-fits : goal.put_record-requires-clause-fits
put_record-requires-clause-fits g c =
    let a : Device = g.F.Flash.device c.args.flash.now in
    let b : Device = g.F.Flash.device c.open_next.new.flash in
    let r : Ring = c.open_next.new.self in
    let area : Area = c.args.self.now.area in
    let unit : unit_of b r.area ≡ unit_of a area = unit-after a b area r.area c.in_ok-open_next.ensures.touches.banks c.in_ok-open_next.ensures.opened.ring.area in
    let size : sector_size b r.area ≡ sector_size a area = size-after a b area r.area c.in_ok-open_next.ensures.touches.banks c.in_ok-open_next.ensures.opened.ring.area in
    let fits : r.end + record_cost (unit_of a area) (length c.args.body.now) ≤ sector_size b r.area = omega (arith, c.requires.fits, c.in_ok-open_next.ensures.opened.ring.end, size) in
    subst (λ (u : ℕ). r.end + record_cost u (length c.args.body.now) ≤ sector_size b r.area) (sym unit) fits

pub returns-in_err-open_next-clause-stopped : goal.returns-in_err-open_next-clause-stopped
returns-in_err-open_next-clause-stopped g c =
    let lost = c.in_err-open_next.ensures in
    let a : Device = g.F.Flash.device c.args.flash.now in
    let b : Device = g.F.Flash.device c.open_next.new.flash in
    on_err c.from_residual.result (record {
      area = c.in_err-open_next.ensures.stopped.ring.area;
      reserve = c.in_err-open_next.ensures.stopped.ring.reserve;
      cut = inl (record { list = c.in_err-open_next.ensures.list; loss = c.in_err-open_next.ensures.stopped.lost });
      torn = λ on. inl (record { loss = lost.stopped.lost on; form = lost.stopped.form });
      down = record { down = c.in_err-open_next.ensures.stopped.ring.down; units = most-first a b (unit_of a c.args.self.now.area) (length c.args.body.now) c.in_err-open_next.ensures.stopped.bound };
    })

pub returns-in_err-put_record-clause-stopped : goal.returns-in_err-put_record-clause-stopped
returns-in_err-put_record-clause-stopped g c =
    let a : Device = g.F.Flash.device c.args.flash.now in
    let b : Device = g.F.Flash.device c.open_next.new.flash in
    let d : Device = g.F.Flash.device c.put_record.new.flash in
    let r : Ring = c.open_next.new.self in
    let same : r.area ≡ c.args.self.now.area = c.in_ok-open_next.ensures.opened.ring.area in
    let count : r.area.sectors ≡ c.args.self.now.area.sectors = ap (λ (x : Area). x.sectors) same in
    let ok = c.in_ok-open_next.ensures in
    on_err c.from_residual-in_err-put_record.result (record {
      area = c.in_err-put_record.ensures.stopped.ring.area ∙ c.in_ok-open_next.ensures.opened.ring.area;
      reserve = c.in_err-put_record.ensures.stopped.ring.reserve ∙ c.in_ok-open_next.ensures.opened.ring.reserve;
      cut =
          cut-after a b d c.args.self.now r c.args.body.now same c.in_ok-open_next.ensures.opened.ring.oldest c.in_ok-open_next.ensures.opened.ring.used c.in_ok-open_next.ensures.list c.in_ok-open_next.ensures.touches.ends.on
          (c.in_err-put_record.ensures.stopped.counted (omega (arith, c.requires.free, c.in_ok-open_next.ensures.opened.ring.used, count)));
      torn = λ on. inr (torn-after a b d c.args.self.now c.open_next.new.self c.args.body.now ok.opened.ring.area ok.opened.ring.oldest ok.opened.ring.used ok.opened.empty (c.in_err-put_record.ensures.stopped.torn (ok.touches.ends.on ∙ on)));
      down =
          record {
            down = c.in_err-put_record.ensures.stopped.ring.down;
            units = most-both a b d c.args.self.now.area r.area (length c.args.body.now) c.in_ok-open_next.ensures.touches.banks c.in_ok-open_next.ensures.opened.ring.area c.in_ok-open_next.ensures.opened.units c.in_err-put_record.ensures.stopped.bound;
          };
    })

pub returns-in_err-put_record-clause-touches : goal.returns-in_err-put_record-clause-touches
returns-in_err-put_record-clause-touches g c =
    let a : Device = g.F.Flash.device c.args.flash.now in
    let b : Device = g.F.Flash.device c.open_next.new.flash in
    let d : Device = g.F.Flash.device c.put_record.new.flash in
    let area : Area = c.args.self.now.area in
    is_err_by c.from_residual-in_err-put_record.result (Touches (area ∷ []) a d) c.from_residual-in_err-put_record.ensures.0
    (then c.in_ok-open_next.ensures.touches (subst (λ (x : Area). Touches (x ∷ []) b d true) c.in_ok-open_next.ensures.opened.ring.area c.in_err-put_record.ensures.touches))

pub returns-clause-touches : goal.returns-clause-touches
returns-clause-touches g c =
    let b : Device = g.F.Flash.device c.open_next.new.flash in
    let d : Device = g.F.Flash.device c.put_record.new.flash in
    then c.in_ok-open_next.ensures.touches (subst (λ (x : Area). Touches (x ∷ []) b d false) c.in_ok-open_next.ensures.opened.ring.area c.in_ok-put_record.ensures.touches)

pub returns-clause-put : goal.returns-clause-put
returns-clause-put g c =
    let a : Device = g.F.Flash.device c.args.flash.now in
    let b : Device = g.F.Flash.device c.open_next.new.flash in
    let len : ℕ = length c.args.body.now in
    let ok = c.in_ok-open_next.ensures in
    let unit : unit_of b c.open_next.new.self.area ≡ unit_of a c.args.self.now.area = unit-after a b c.args.self.now.area c.open_next.new.self.area ok.touches.banks ok.opened.ring.area in
    let d : Device = g.F.Flash.device c.put_record.new.flash in
    let r : Ring = c.open_next.new.self in
    let same : r.area ≡ c.args.self.now.area = c.in_ok-open_next.ensures.opened.ring.area in
    let count : r.area.sectors ≡ c.args.self.now.area.sectors = ap (λ (x : Area). x.sectors) same in
    record {
      area = c.in_ok-put_record.ensures.put.ring.area ∙ c.in_ok-open_next.ensures.opened.ring.area;
      reserve = c.in_ok-put_record.ensures.put.ring.reserve ∙ c.in_ok-open_next.ensures.opened.ring.reserve;
      goes_on = record { oldest = c.in_ok-put_record.ensures.put.ring.oldest ∙ ok.opened.ring.oldest; used = c.in_ok-put_record.ensures.put.ring.used ∙ ok.opened.ring.used; id = c.in_ok-put_record.ensures.put.ring.id ∙ ok.opened.ring.id };
      end = c.in_ok-put_record.ensures.put.ring.end ∙ ap (λ (u : ℕ). c.open_next.new.self.end + record_cost u len) unit ∙ ap (λ (n : ℕ). n + record_cost (unit_of a c.args.self.now.area) len) ok.opened.ring.end;
      written = writes-after a b d c.args.self.now r c.args.body.now (g.met.F.Flash.is_lawful c.args.flash.now) c.requires.stands c.requires.ready ok.touches.banks ok.opened.ring c.requires.short c.requires.fits ok.opened.written c.in_ok-put_record.ensures.put.written;
      adds = adds-after a b d c.args.self.now r c.args.body.now same c.in_ok-open_next.ensures.opened.ring.oldest c.in_ok-open_next.ensures.opened.ring.used c.in_ok-open_next.ensures.list (omega (arith, c.requires.free, c.in_ok-open_next.ensures.opened.ring.used, count)) c.in_ok-put_record.ensures.put.puts;
      ends_with = subst (λ (p : ℕ). EndsWithRecord d c.put_record.new.self p c.args.body.now) (opened-place c.args.self.now c.open_next.new.self ok.opened.ring.area ok.opened.ring.oldest ok.opened.ring.used) c.in_ok-put_record.ensures.put.ends_with;
      gains = gains-after a b d c.args.self.now c.open_next.new.self c.args.body.now ok.opened.ring.area ok.opened.ring.oldest ok.opened.ring.used ok.opened.empty c.in_ok-put_record.ensures.put.gains;
      ready =
          record {
            stands = c.in_ok-put_record.ensures.put.stands;
            stage = c.in_ok-put_record.ensures.put.ring.stage ∙ c.in_ok-open_next.ensures.opened.ring.stage;
            units = spends-both a b d c.args.self.now.area r.area (length c.args.body.now) c.in_ok-open_next.ensures.touches.banks c.in_ok-open_next.ensures.opened.ring.area c.in_ok-open_next.ensures.opened.units c.in_ok-put_record.ensures.put.units;
          };
    }

pub returns-clause-others : goal.returns-clause-others
returns-clause-others g c =
    let a : Device = g.F.Flash.device c.args.flash.now in
    let b : Device = g.F.Flash.device c.open_next.new.flash in
    let d : Device = g.F.Flash.device c.put_record.new.flash in
    let ok = c.in_ok-open_next.ensures in
    others-after a b d c.args.self.now c.open_next.new.self ok.opened.ring.area ok.opened.ring.oldest ok.opened.ring.used ok.others c.in_ok-put_record.ensures.others

pub returns-in_err-put_record-clause-others : goal.returns-in_err-put_record-clause-others
returns-in_err-put_record-clause-others g c =
    let a : Device = g.F.Flash.device c.args.flash.now in
    let b : Device = g.F.Flash.device c.open_next.new.flash in
    let d : Device = g.F.Flash.device c.put_record.new.flash in
    let ok = c.in_ok-open_next.ensures in
    others-after a b d c.args.self.now c.open_next.new.self ok.opened.ring.area ok.opened.ring.oldest ok.opened.ring.used ok.others c.in_err-put_record.ensures.others
