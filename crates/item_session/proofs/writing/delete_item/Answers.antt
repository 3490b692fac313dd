-- the item was deleted; or power was lost
use Rattle.std.proofs.Common.{◌-◌, is_err, refl}
use Rattle.item_session.proofs.WriteLemmas.{delete_line, delete_off, lost_delete, still_sound}
use Rattle.item_session.proofs.writing.delete_item.Goals as goal

pub returns-in-Ok-clause-done : goal.returns-in-Ok-clause-done
returns-in-Ok-clause-done g c =
    let d = g.B.Flash.device c.args.bench.now in
    let e = g.B.Flash.device c.delete-end.new.flash in
    let line = delete_line g.T.SlotSectors.format_of c.args.area.now c.args.store.now.area d e c.requires.on c.requires.area c.args.id c.delete-end.result c.delete-end.ensures.touches c.delete-end.ensures.ends tt (e.spent - d.spent) c.in-Ok.is refl in
    rw (c.spent.ensures, c.spent-before.ensures) line

pub returns-in-Ok-clause-undamaged : goal.returns-in-Ok-clause-undamaged
returns-in-Ok-clause-undamaged g c =
    let d = g.B.Flash.device c.args.bench.now in
    let e = g.B.Flash.device c.delete-end.new.flash in
    still_sound g.T.SlotSectors.format_of c.args.area.now c.args.store.now.area d e c.requires.on c.requires.area (is_err c.delete-end.result) c.delete-end.ensures.touches c.delete-end.ensures.undamaged

pub returns-in-Err-clause-done : goal.returns-in-Err-clause-done
returns-in-Err-clause-done g c =
    let d = g.B.Flash.device c.args.bench.now in
    let e = g.B.Flash.device c.delete-end.new.flash in
    let line = lost_delete g.T.SlotSectors.format_of c.args.area.now c.args.store.now.area d e c.requires.on c.requires.area c.args.id c.delete-end.result c.delete-end.ensures.touches c.delete-end.ensures.ends c.in-Err.field-0 (e.spent - d.spent) c.in-Err.is refl in
    rw (c.spent.ensures, c.spent-before.ensures) line

pub returns-in-Err-clause-undamaged : goal.returns-in-Err-clause-undamaged
returns-in-Err-clause-undamaged g c =
    let d = g.B.Flash.device c.args.bench.now in
    let e = g.B.Flash.device c.delete-end.new.flash in
    still_sound g.T.SlotSectors.format_of c.args.area.now c.args.store.now.area d e c.requires.on c.requires.area (is_err c.delete-end.result) c.delete-end.ensures.touches c.delete-end.ensures.undamaged

pub returns-in-Err-clause-mounted : goal.returns-in-Err-clause-mounted
returns-in-Err-clause-mounted g c =
    let d = g.B.Flash.device c.args.bench.now in
    let e = g.B.Flash.device c.delete-end.new.flash in
    λ powered. delete_off g.T.SlotSectors.format_of c.args.area.now c.args.store.now.area d e c.requires.on c.requires.area c.args.id c.delete-end.result c.delete-end.ensures.touches c.delete-end.ensures.ends c.in-Err.field-0 c.in-Err.is powered
