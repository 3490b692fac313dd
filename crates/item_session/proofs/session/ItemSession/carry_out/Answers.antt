-- what the area owes, from the line that was done
use Rattle.item_session.proofs.OwesLemmas.{line-banks, line-boots, owes-after}
use Rattle.item_session.proofs.session.ItemSession.carry_out.Goals as goal

pub returns-clause-boots : goal.returns-clause-boots
returns-clause-boots g c =
    line-boots g.T.SlotSectors.format_of c.args.self.now.area c.args.line.now c.run_line.result (g.B.Flash.device c.args.bench.now) (g.B.Flash.device c.run_line.new.bench) c.run_line.ensures.done

pub returns-clause-left : goal.returns-clause-left
returns-clause-left g c =
    let d = g.B.Flash.device c.args.bench.now in
    let e = g.B.Flash.device c.run_line.new.bench in
    let s = g.T.SlotSectors in
    let area = c.args.self.now.area in
    let sound = c.run_line.ensures.sound in
    let banks = line-banks s.format_of area c.args.line.now c.run_line.result d e c.run_line.ensures.done c.run_line.ensures.wants in
    owes-after s.role s.format_of g.met.T.SlotSectors.lawful e (g.met.B.Flash.is_lawful c.run_line.new.bench) area sound.is_area sound.undamaged d banks
