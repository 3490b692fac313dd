use Rattle.std.proofs.Common.{◌+◌, refl, ap, arith}
use Rattle.flash_sim.specs.Device.{Device}
use Rattle.flash_map.specs.Area.{unit_of, sectors_of}
use Rattle.flash_map.proofs.PieceLemmas.{on_err}
use Rattle.fcb_ring.specs.declared.ring.Ring.{Ring}
use Rattle.fcb_ring.proofs.AreaLemmas.{count-sectors, length-states}
use Rattle.fcb_ring.proofs.CollectLemmas.{collecting-used, same-list, ended-stands, ended-collection, erase-most, erase-lost}
use Rattle.fcb_ring.proofs.OthersLemmas.{others_set, others_same}
use Rattle.fcb_ring.proofs.ring.Ring.end_collect.Goals as goal

pub place-next-requires-clause-oldest : goal.place-next-requires-clause-oldest
place-next-requires-clause-oldest g c =
    let d : Device = g.F.Flash.device c.args.flash.now in
    let ring : Ring = c.args.self.now in
    omega (arith, c.requires.stands.sectors.form.within, length-states (unit_of d ring.area) (sectors_of d ring.area), count-sectors d ring.area)

pub place-next-requires-clause-further : goal.place-next-requires-clause-further
place-next-requires-clause-further g c = omega (arith, c.requires.stands.area.lawful.several)

pub area_erase-requires-clause-has_sector : goal.area_erase-requires-clause-has_sector
area_erase-requires-clause-has_sector g c =
    let d : Device = g.F.Flash.device c.args.flash.now in
    let ring : Ring = c.args.self.now in
    omega (arith, c.requires.stands.sectors.form.within, length-states (unit_of d ring.area) (sectors_of d ring.area), count-sectors d ring.area)

pub overflow_sub-self : goal.overflow_sub-self
overflow_sub-self g c =
    let d : Device = g.F.Flash.device c.args.flash.now in
    omega (arith, collecting-used d c.args.self.now c.requires.stands c.requires.collecting, c.requires.stands.area.lawful.several)

pub returns-in_err-area_erase-clause-stopped : goal.returns-in_err-area_erase-clause-stopped
returns-in_err-area_erase-clause-stopped g c =
    let d : Device = g.F.Flash.device c.args.flash.now in
    let ring : Ring = c.args.self.now in
    on_err c.from_residual.result (record {
      ring = record {
        area = refl;
        reserve = refl;
        down = refl;
      };
      list = same-list d c.args.self.now (g.met.F.Flash.is_lawful c.args.flash.now) c.requires.stands c.requires.collecting (g.F.Flash.device c.area_erase.new.flash) c.in_err-area_erase.ensures.touches.banks c.in_err-area_erase.ensures.same;
      same = c.in_err-area_erase.ensures.same;
      lost = erase-lost (g.F.Flash.device c.args.flash.now) (g.F.Flash.device c.area_erase.new.flash) ring.area ring.oldest c.in_err-area_erase.ensures.touches.banks c.in_err-area_erase.ensures.lost;
      bound = erase-most d (g.F.Flash.device c.area_erase.new.flash) c.args.self.now.area.bank (c.args.self.now.area.first + c.args.self.now.oldest) c.in_err-area_erase.ensures.lost;
    })

pub returns-clause-ended : goal.returns-clause-ended
returns-clause-ended g c =
    let d : Device = g.F.Flash.device c.args.flash.now in
    record {
      area = refl;
      reserve = refl;
      stands = ended-stands d c.args.self.now (g.met.F.Flash.is_lawful c.args.flash.now) c.requires.stands c.requires.collecting (g.F.Flash.device c.area_erase.new.flash) c.in_ok-area_erase.ensures.touches.banks c.place-next.result c.place-next.ensures.value c.in_ok-area_erase.ensures.erased;
      ready = refl;
      end = refl;
      ends = ended-collection d c.args.self.now (g.met.F.Flash.is_lawful c.args.flash.now) c.requires.stands c.requires.collecting (g.F.Flash.device c.area_erase.new.flash) c.in_ok-area_erase.ensures.touches.banks c.place-next.result c.place-next.ensures.value c.in_ok-area_erase.ensures.erased;
      units = ap (λ (x : Device). x.spent) c.in_ok-area_erase.ensures.ok.is;
    }

pub returns-clause-others : goal.returns-clause-others
returns-clause-others g c =
    others_set (g.F.Flash.device c.args.flash.now) (g.F.Flash.device c.area_erase.new.flash) c.args.self.now.area c.args.self.now.oldest c.args.self.now.oldest _ refl c.in_ok-area_erase.ensures.erased

pub returns-in_err-area_erase-clause-others : goal.returns-in_err-area_erase-clause-others
returns-in_err-area_erase-clause-others g c =
    others_same (g.F.Flash.device c.args.flash.now) (g.F.Flash.device c.area_erase.new.flash) c.args.self.now.area c.args.self.now.oldest c.in_err-area_erase.ensures.same
