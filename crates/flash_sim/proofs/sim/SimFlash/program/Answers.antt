use Rattle.std.proofs.Common.{◌<◌, ◌∙◌, inl, get_or, map, refl, sym, rules, arith}
use Rattle.flash_sim.specs.Sim.{device_of}
use Rattle.flash_sim.proofs.Contents.{has-store, size-is}
use Rattle.flash_sim.proofs.Vecs.{in_vec}
use Rattle.flash_sim.proofs.Planned.{planned, plan_after, has-unit, in-limit, few, length-taken, has-place, one-sector, still-lawful, programs, fails}
use Rattle.flash_sim.proofs.sim.SimFlash.program.Goals as goal

pub returns-then-not-self-clause-ok : goal.returns-then-not-self-clause-ok
returns-then-not-self-clause-ok g c = tt

pub returns-then-not-self-clause-lost : goal.returns-then-not-self-clause-lost
returns-then-not-self-clause-lost g c = inl (record { off = c.if-not-self.true; is = refl })

pub index-requires : goal.index-requires
index-requires g c = in_vec c.args.self.now.banks c.args.at.bank c.requires.has_bank

pub nonzero_div-units : goal.nonzero_div-units
nonzero_div-units g c = has-unit (device_of c.args.self.now) c.args.at c.args.bytes.now c.index.result.now c.args.self.now.lawful c.requires c.index.ensures

pub lasting-requires : goal.lasting-requires
lasting-requires g c = tt

pub overflow_cast-at : goal.overflow_cast-at
overflow_cast-at g c = omega arith

pub overflow_mul-done : goal.overflow_mul-done
overflow_mul-done g c =
    let old = device_of c.args.self.now in
    let most = in-limit old c.args.at c.args.bytes.now c.index.result.now c.args.self.now.lawful c.requires c.index.ensures c.args.self.now.plan c.lasting.result refl c.lasting.ensures in
    omega arith

pub slice_bounds-write-end : goal.slice_bounds-write-end
slice_bounds-write-end g c =
    let old = device_of c.args.self.now in
    sym (length-taken old c.args.at c.args.bytes.now c.index.result.now c.args.self.now.lawful c.requires c.index.ensures c.args.self.now.plan c.lasting.result refl c.lasting.ensures)

pub write-requires-clause-bank : goal.write-requires-clause-bank
write-requires-clause-bank g c =
    let sim = c.args.self.now in
    in_vec sim.stores c.args.at.bank (has-store g.S.Storage.sector_size sim.banks.items sim.stores.items sim.sized c.args.at.bank c.requires.has_bank)

pub write-requires-clause-has_sector : goal.write-requires-clause-has_sector
write-requires-clause-has_sector g c = has-place (device_of c.args.self.now) c.args.at c.args.bytes.now c.index.result.now c.args.self.now.lawful c.requires c.index.ensures

pub write-requires-clause-one_sector : goal.write-requires-clause-one_sector
write-requires-clause-one_sector g c =
    let sim = c.args.self.now in
    let old = device_of sim in
    one-sector old c.args.at c.args.bytes.now c.index.result.now c.args.self.now.lawful c.requires c.index.ensures c.args.self.now.plan c.lasting.result refl c.lasting.ensures
    (get_or (map g.S.Storage.sector_size sim.stores.items) c.args.at.bank 0) (size-is g.S.Storage.sector_size sim.banks.items sim.stores.items sim.sized c.args.at.bank c.requires.has_bank)

pub saturating_add-self-requires : goal.saturating_add-self-requires
saturating_add-self-requires g c = tt

pub invariant_of-self : goal.invariant_of-self
invariant_of-self g c =
    let old = device_of c.args.self.now in
    record { lawful = still-lawful old c.args.at c.args.bytes.now c.index.result.now c.args.self.now.lawful c.requires c.index.ensures c.args.self.now.plan c.lasting.result refl c.lasting.ensures (map g.S.Storage.held c.write.new.all.items) c.write.ensures.bytes; sized = c.write.ensures.sizes ∙ c.args.self.now.sized }

pub overflow_cast-done : goal.overflow_cast-done
overflow_cast-done g c =
    let old = device_of c.args.self.now in
    let most = few old c.args.at c.args.bytes.now c.index.result.now c.args.self.now.lawful c.requires c.index.ensures c.args.self.now.plan c.lasting.result refl c.lasting.ensures in
    omega arith

pub lose-requires : goal.lose-requires
lose-requires g c = c.requires.at_most

pub returns-then-done-units-clause-ok : goal.returns-then-done-units-clause-ok
returns-then-done-units-clause-ok g c = tt

pub returns-then-done-units-clause-lost : goal.returns-then-done-units-clause-lost
returns-then-done-units-clause-lost g c =
    let old = device_of c.args.self.now in
    let fits : c.args.self.now.spent < 18446744073709551616 = omega arith in
    fails old c.args.at c.args.bytes.now c.index.result.now c.args.self.now.lawful c.requires c.index.ensures c.args.self.now.plan c.lasting.result refl c.lasting.ensures (map g.S.Storage.held c.write.new.all.items) c.write.ensures.bytes c.if-not-self.false c.saturating_add-self.result fits c.saturating_add-self.ensures
    _ c.if-done-units.true c.lose.ensures

pub map-self-requires : goal.map-self-requires
map-self-requires g c = λ x is _ _ _ _ _. planned c.args.self.now.plan _ c.lasting.result x c.lasting.ensures is

pub invariant_of-self-2 : goal.invariant_of-self-2
invariant_of-self-2 g c =
    let old = device_of c.args.self.now in
    record { lawful = still-lawful old c.args.at c.args.bytes.now c.index.result.now c.args.self.now.lawful c.requires c.index.ensures c.args.self.now.plan c.lasting.result refl c.lasting.ensures (map g.S.Storage.held c.write.new.all.items) c.write.ensures.bytes; sized = c.write.ensures.sizes ∙ c.args.self.now.sized }

pub returns-clause-ok : goal.returns-clause-ok
returns-clause-ok g c =
    let old = device_of c.args.self.now in
    let fits : c.args.self.now.spent < 18446744073709551616 = omega arith in
    let k = plan_after c.args.self.now.plan c.map-self.result c.lasting.result _ c.map-self.ensures.cases (λ x r h. search rules) in
    programs old c.args.at c.args.bytes.now c.index.result.now c.args.self.now.lawful c.requires c.index.ensures c.args.self.now.plan c.lasting.result refl c.lasting.ensures (map g.S.Storage.held c.write.new.all.items) c.write.ensures.bytes c.if-not-self.false c.saturating_add-self.result fits c.saturating_add-self.ensures
    _ k c.if-done-units.false

pub returns-clause-lost : goal.returns-clause-lost
returns-clause-lost g c = tt
