use Rattle.std.proofs.Common.{◌≡◌, ◌≤◌, ◌+◌, ◌/◌, ◌++◌, ◌∷◌, [], ℕ, List, Bool, true, length, cond, eqb, ap, sym, subst, ◌∙◌, arith}
use Rattle.std.proofs.lemmas.Bool.{eq-eqb}
use Rattle.std.proofs.lemmas.List.{append-nil}
use Rattle.flash_sim.specs.Device.{Device}
use Rattle.flash_sim.specs.declared.flash.TheConstants.{PROGRAM_LIMIT}
use Rattle.flash_map.specs.Area.{unit_of, sector_size, sectors_of, Writes}
use Rattle.flash_map.specs.Spending.{Spends, SpendsAtMost}
use Rattle.flash_map.proofs.PieceLemmas.{on_err}
use Rattle.flash_map.proofs.Rounding.{padding}
use Rattle.fcb_ring.specs.declared.record.RecordAt.{RecordAt}
use Rattle.fcb_ring.specs.declared.ring.Ring.{Ring}
use Rattle.fcb_ring.specs.Changing.{newest_place, IsRecordLoss, sector_list, body_at}
use Rattle.fcb_ring.specs.Entries.{HasEntries}
use Rattle.fcb_ring.specs.Standing.{is_finished, entries_on}
use Rattle.fcb_ring.specs.Writing.{record_image, record_cost}
use Rattle.fcb_ring.proofs.AreaLemmas.{has_size}
use Rattle.fcb_ring.proofs.CollectLemmas.{collecting-used}
use Rattle.fcb_ring.proofs.ring.Ring.copy.Goals as goal

pub body_of-body-requires-clause-short : goal.body_of-body-requires-clause-short
body_of-body-requires-clause-short g c =
    let d : Device = g.F.Flash.device c.args.flash.now in
    let ring : Ring = c.args.self.now in
    let pad = padding (unit_of d ring.area) (has_size d ring.area (g.met.F.Flash.is_lawful c.args.flash.now) c.requires.stands.area).is_unit in
    omega (arith, pad.no_less c.args.r.now.len)

pub put_record-requires-clause-writes : goal.put_record-requires-clause-writes
put_record-requires-clause-writes g c = ap is_finished c.requires.collecting

pub put_record-requires-clause-some : goal.put_record-requires-clause-some
put_record-requires-clause-some g c =
    let d : Device = g.F.Flash.device c.args.flash.now in
    omega (arith, collecting-used d c.args.self.now c.requires.stands c.requires.collecting, c.requires.stands.area.lawful.several)

pub put_record-requires-clause-short : goal.put_record-requires-clause-short
put_record-requires-clause-short g c =
    let d : Device = g.F.Flash.device c.args.flash.now in
    let long : length c.as_slice.result.now ≡ c.args.r.now.len = ap length c.as_slice.ensures.value ∙ c.body_of-body.ensures.len in
    subst (λ (n : ℕ). record_cost (unit_of d c.args.self.now.area) n ≤ PROGRAM_LIMIT) (sym long) c.requires.short

pub put_record-requires-clause-fits : goal.put_record-requires-clause-fits
put_record-requires-clause-fits g c =
    let d : Device = g.F.Flash.device c.args.flash.now in
    let long : length c.as_slice.result.now ≡ c.args.r.now.len = ap length c.as_slice.ensures.value ∙ c.body_of-body.ensures.len in
    subst (λ (n : ℕ). c.args.self.now.end + record_cost (unit_of d c.args.self.now.area) n ≤ sector_size d c.args.self.now.area) (sym long) c.requires.fits

pub returns-clause-copied : goal.returns-clause-copied
returns-clause-copied g c =
    let d : Device = g.F.Flash.device c.args.flash.now in
    let new : Device = g.F.Flash.device c.put_record.new.flash in
    let ring : Ring = c.args.self.now in
    let body : List ℕ = c.as_slice.result.now in
    let long : length c.as_slice.result.now ≡ c.args.r.now.len = ap length c.as_slice.ensures.value ∙ c.body_of-body.ensures.len in
    let bytes : c.as_slice.result.now ≡ body_at d ring.area c.args.r.now = c.as_slice.ensures.value ∙ c.body_of-body.ensures.bytes in
    let did = c.in_ok-put_record.ensures in
    let none : entries_on d ring.area ++ cond (eqb ring.used ring.area.sectors) [] ((did.put.puts.at, body) ∷ []) ≡ entries_on d ring.area =
    ap (λ (b : Bool). entries_on d ring.area ++ cond b [] ((did.put.puts.at, body) ∷ [])) (eq-eqb ring.used ring.area.sectors (collecting-used d ring c.requires.stands c.requires.collecting)) ∙ append-nil (entries_on d ring.area) in
    record {
      banks = did.touches.banks;
      list = subst (λ (l : List (RecordAt × List ℕ)). HasEntries (unit_of new ring.area) (sectors_of new ring.area) l) none did.put.puts.list;
      others = did.others;
      area = did.put.ring.area;
      reserve = did.put.ring.reserve;
      stands = did.put.stands;
      stage = did.put.ring.stage ∙ c.requires.collecting;
      oldest = did.put.ring.oldest;
      used = did.put.ring.used;
      end = did.put.ring.end ∙ ap (λ (n : ℕ). ring.end + record_cost (unit_of d ring.area) n) long;
      written = subst (λ (b : List ℕ). Writes d new ring.area (newest_place ring) ring.end (record_image (unit_of d ring.area) b)) bytes did.put.written;
      copies = (did.put.puts.at, did.put.puts.sector, did.put.puts.here ∙ ap (λ (b : List ℕ). sector_list d ring.area (newest_place ring) ++ (did.put.puts.at, b) ∷ []) bytes);
      units = subst (λ (n : ℕ). Spends d new (record_cost (unit_of d ring.area) n / unit_of d ring.area)) long did.put.units;
    }

pub returns-in_err-put_record-clause-stopped : goal.returns-in_err-put_record-clause-stopped
returns-in_err-put_record-clause-stopped g c =
    let d : Device = g.F.Flash.device c.args.flash.now in
    let new : Device = g.F.Flash.device c.put_record.new.flash in
    let ring : Ring = c.args.self.now in
    let long : length c.as_slice.result.now ≡ c.args.r.now.len = ap length c.as_slice.ensures.value ∙ c.body_of-body.ensures.len in
    let bytes : c.as_slice.result.now ≡ body_at d ring.area c.args.r.now = c.as_slice.ensures.value ∙ c.body_of-body.ensures.bytes in
    let full = collecting-used d ring c.requires.stands c.requires.collecting in
    let did = c.in_err-put_record.ensures in
    on_err c.from_residual.result (record {
      banks = did.touches.banks;
      list = did.stopped.uncounted full;
      others = did.others;
      area = did.stopped.ring.area;
      reserve = did.stopped.ring.reserve;
      down = did.stopped.ring.down;
      full = did.stopped.full full;
      lost = λ (is_on : d.is_on ≡ true).
          let at = did.stopped.lost is_on in
          (at.0, subst (λ (b : List ℕ). IsRecordLoss new ring.area (newest_place ring) ring.end b at.0) bytes at.1);
      bound = subst (λ (n : ℕ). SpendsAtMost d new (record_cost (unit_of d ring.area) n / unit_of d ring.area)) long did.stopped.bound;
    })
