-- what a mount owes, from the line that it is
use Rattle.std.proofs.Common.{List, sym, subst}
use Rattle.flash_sim.specs.declared.flash.Bank.{Bank}
use Rattle.item_store.specs.Standing.{IsStoreArea}
use Rattle.item_session.proofs.FoldLemmas.{stops_sound}
use Rattle.item_session.proofs.OwesLemmas.{mount-boots, owes-after, stops-banks}
use Rattle.item_session.proofs.session.ItemSession.open.Goals as goal

pub returns-in-Ok-clause-boots : goal.returns-in-Ok-clause-boots
returns-in-Ok-clause-boots g c =
    mount-boots g.T.SlotSectors.format_of c.args.area.now c.in-Ok.mounted.answer (g.B.Flash.device c.args.bench.now) (g.B.Flash.device c.mount.new.bench) c.in-Ok.ensures.done

pub returns-in-Ok-clause-left : goal.returns-in-Ok-clause-left
returns-in-Ok-clause-left g c = λ was.
    let d = g.B.Flash.device c.args.bench.now in
    let e = g.B.Flash.device c.mount.new.bench in
    let s = g.T.SlotSectors in
    let banks = c.in-Ok.ensures.done.keeps.banks in
    let own = subst (λ (all : List Bank). IsStoreArea s.role all c.args.area.now) (sym banks) c.requires.area in
    owes-after s.role s.format_of g.met.T.SlotSectors.lawful e (g.met.B.Flash.is_lawful c.mount.new.bench) c.args.area.now own c.in-Ok.ensures.undamaged d banks

pub returns-in-Err-clause-left : goal.returns-in-Err-clause-left
returns-in-Err-clause-left g c = λ was.
    let d = g.B.Flash.device c.args.bench.now in
    let e = g.B.Flash.device c.mount.new.bench in
    let s = g.T.SlotSectors in
    let banks = stops-banks s.format_of c.args.area.now c.in-Err.fault d e c.in-Err.ensures.stops in
    let own = subst (λ (all : List Bank). IsStoreArea s.role all c.args.area.now) (sym banks) c.requires.area in
    let none = stops_sound s.format_of c.args.area.now d e c.in-Err.fault c.in-Err.ensures.stops was in
    owes-after s.role s.format_of g.met.T.SlotSectors.lawful e (g.met.B.Flash.is_lawful c.mount.new.bench) c.args.area.now own none d banks
