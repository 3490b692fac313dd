use Rattle.flash_map.proofs.PieceLemmas.{on_err}
use Rattle.fcb_ring.proofs.ring.Ring.begin_collect.Goals as goal

pub returns-clause-begun : goal.returns-clause-begun
returns-clause-begun g c =
    let did = c.in_ok-open_next.ensures in
    record {
      banks = did.touches.banks;
      written = did.opened.written;
      list = did.list;
      others = did.others;
      area = did.opened.ring.area;
      reserve = did.opened.ring.reserve;
      stands = did.opened.stands;
      stage = did.opened.ring.stage;
      goes_on = record { oldest = did.opened.ring.oldest; used = did.opened.ring.used; id = did.opened.ring.id };
      end = did.opened.ring.end;
      fresh = did.opened.fresh;
      units = did.opened.units;
    }

pub returns-in_err-open_next-clause-stopped : goal.returns-in_err-open_next-clause-stopped
returns-in_err-open_next-clause-stopped g c =
    let did = c.in_err-open_next.ensures in
    on_err c.from_residual.result (record {
      banks = did.touches.banks;
      list = did.list;
      others = did.others;
      area = did.stopped.ring.area;
      reserve = did.stopped.ring.reserve;
      down = did.stopped.ring.down;
      lost = did.stopped.lost;
      bound = did.stopped.bound;
    })

pub returns-in_err-open_next-clause-form : goal.returns-in_err-open_next-clause-form
returns-in_err-open_next-clause-form g c = on_err c.from_residual.result c.in_err-open_next.ensures.stopped.form
