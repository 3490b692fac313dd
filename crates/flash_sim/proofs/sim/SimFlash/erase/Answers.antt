use Rattle.std.proofs.Common.{◌<◌, ◌∙◌, inl, get_or, map, refl, rules, arith}
use Rattle.flash_sim.specs.declared.flash.TheConstants.{PROGRAM_LIMIT}
use Rattle.flash_sim.specs.Sim.{device_of}
use Rattle.flash_sim.proofs.Contents.{has-store, size-is}
use Rattle.flash_sim.proofs.Vecs.{in_vec}
use Rattle.flash_sim.proofs.Planned.{planned-erase, plan_after, none-least, fits-32, has-size, in-sectors, addressed, fails-erase, erased-lawful, erases}
use Rattle.flash_sim.proofs.sim.SimFlash.erase.Goals as goal

pub returns-then-not-self-clause-ok : goal.returns-then-not-self-clause-ok
returns-then-not-self-clause-ok g c = tt

pub returns-then-not-self-clause-lost : goal.returns-then-not-self-clause-lost
returns-then-not-self-clause-lost g c = inl (record { off = c.if-not-self.true; is = refl })

pub lasting-requires : goal.lasting-requires
lasting-requires g c = tt

pub index-requires : goal.index-requires
index-requires g c = in_vec c.args.self.now.banks c.args.bank c.requires.has_bank

pub lose-requires : goal.lose-requires
lose-requires g c = none-least PROGRAM_LIMIT

pub returns-then-lasting-lt1-clause-ok : goal.returns-then-lasting-lt1-clause-ok
returns-then-lasting-lt1-clause-ok g c = tt

pub saturating_add-self-requires : goal.saturating_add-self-requires
saturating_add-self-requires g c = tt

pub map-self-requires : goal.map-self-requires
map-self-requires g c = λ x is _ _. planned-erase c.args.self.now.plan c.lasting.result x c.lasting.ensures c.if-lasting-lt1.false is

pub returns-clause-lost : goal.returns-clause-lost
returns-clause-lost g c = tt

pub overflow_mul-offset : goal.overflow_mul-offset
overflow_mul-offset g c = fits-32 _ (addressed (device_of c.args.self.now) c.args.bank c.args.sector c.index.result.now.sector c.args.self.now.lawful c.requires (has-size (device_of c.args.self.now) c.args.bank c.index.result.now c.requires.has_bank c.index.ensures))

pub returns-then-lasting-lt1-clause-lost : goal.returns-then-lasting-lt1-clause-lost
returns-then-lasting-lt1-clause-lost g c =
    fails-erase (device_of c.args.self.now) c.args.bank c.args.sector c.index.result.now.sector c.args.self.now.lawful c.requires (has-size (device_of c.args.self.now) c.args.bank c.index.result.now c.requires.has_bank c.index.ensures) c.args.self.now.plan c.lasting.result refl c.if-not-self.false c.lasting.ensures _ c.if-lasting-lt1.true c.lose.ensures

pub erase-requires-clause-bank : goal.erase-requires-clause-bank
erase-requires-clause-bank g c =
    let sim = c.args.self.now in
    in_vec sim.stores c.args.bank (has-store g.S.Storage.sector_size sim.banks.items sim.stores.items sim.sized c.args.bank c.requires.has_bank)

pub erase-requires-clause-has_sector : goal.erase-requires-clause-has_sector
erase-requires-clause-has_sector g c =
    let sim = c.args.self.now in
    in-sectors (device_of sim) c.args.bank c.args.sector (get_or (map g.S.Storage.sector_size sim.stores.items) c.args.bank 0) sim.lawful c.requires (size-is g.S.Storage.sector_size sim.banks.items sim.stores.items sim.sized c.args.bank c.requires.has_bank)

pub invariant_of-self : goal.invariant_of-self
invariant_of-self g c =
    let sim = c.args.self.now in
    record {
      lawful = erased-lawful (device_of sim) c.args.bank c.args.sector (get_or (map g.S.Storage.sector_size sim.stores.items) c.args.bank 0) sim.lawful c.requires (size-is g.S.Storage.sector_size sim.banks.items sim.stores.items sim.sized c.args.bank c.requires.has_bank)
          sim.plan c.lasting.result refl c.if-not-self.false c.lasting.ensures (map g.S.Storage.held c.erase.new.all.items) c.erase.ensures.bytes;
      sized = c.erase.ensures.sizes ∙ sim.sized;
    }

pub returns-clause-ok : goal.returns-clause-ok
returns-clause-ok g c =
    let sim = c.args.self.now in
    let fits : c.args.self.now.spent < 18446744073709551616 = omega arith in
    let k = plan_after c.args.self.now.plan c.map-self.result 1 _ c.map-self.ensures.cases (λ x r h. search rules) in
    erases (device_of sim) c.args.bank c.args.sector (get_or (map g.S.Storage.sector_size sim.stores.items) c.args.bank 0) sim.lawful c.requires (size-is g.S.Storage.sector_size sim.banks.items sim.stores.items sim.sized c.args.bank c.requires.has_bank)
    sim.plan c.lasting.result refl c.if-not-self.false c.lasting.ensures (map g.S.Storage.held c.erase.new.all.items) c.erase.ensures.bytes c.saturating_add-self.result _ fits c.saturating_add-self.ensures k c.if-lasting-lt1.false
