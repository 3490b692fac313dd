-- the item was set; or there is no room; or power was lost; it is never too long
use Rattle.std.proofs.Common.{◌≡◌, ◌-◌, Err, refl, ap, ◌∙◌}
use Rattle.flash_map.specs.declared.faults.WriteFault.{WriteFault}
use Rattle.flash_map.specs.declared.faults.WriteFault.TheVariants.{NoSpace, TooLong, PowerLost}
use Rattle.flash_map.specs.Faults.{write_lost}
use Rattle.item_session.proofs.WriteLemmas.{full_line, lost_set, not_long, set_line, set_off, still_sound}
use Rattle.item_session.proofs.writing.set_item.Goals as goal

pub returns-in-Ok-clause-done : goal.returns-in-Ok-clause-done
returns-in-Ok-clause-done g c =
    let d = g.B.Flash.device c.args.bench.now in
    let e = g.B.Flash.device c.write-end.new.flash in
    let line = set_line g.T.SlotSectors.format_of c.args.area.now c.args.store.now.area d e c.requires.on c.requires.area c.args.id c.as_slice.result.now c.args.value.now c.as_slice.ensures c.requires.line.1 c.write-end.result c.write-end.ensures.touches c.write-end.ensures.ends tt (e.spent - d.spent) c.in-Ok.is refl in
    rw (c.spent.ensures, c.spent-before.ensures) line

pub returns-in-Ok-clause-undamaged : goal.returns-in-Ok-clause-undamaged
returns-in-Ok-clause-undamaged g c =
    let d = g.B.Flash.device c.args.bench.now in
    let e = g.B.Flash.device c.write-end.new.flash in
    still_sound g.T.SlotSectors.format_of c.args.area.now c.args.store.now.area d e c.requires.on c.requires.area (write_lost c.write-end.result) c.write-end.ensures.touches c.write-end.ensures.undamaged

pub returns-in-Err-NoSpace-clause-done : goal.returns-in-Err-NoSpace-clause-done
returns-in-Err-NoSpace-clause-done g c =
    let d = g.B.Flash.device c.args.bench.now in
    let e = g.B.Flash.device c.write-end.new.flash in
    let which : c.in-Err-NoSpace.field-0 ≡ NoSpace c.in-Err-NoSpace.need c.in-Err-NoSpace.live = rw c.in-Err-NoSpace.is at c.in-Err-NoSpace.field-0-is in
    let end : c.write-end.result ≡ Err (NoSpace c.in-Err-NoSpace.need c.in-Err-NoSpace.live) = c.in-Err-NoSpace.is ∙ ap (λ (fault : WriteFault). Err fault) which in
    let line = full_line g.T.SlotSectors.format_of c.args.area.now c.args.store.now.area d e c.requires.on c.requires.area c.args.id c.as_slice.result.now c.args.value.now c.as_slice.ensures c.requires.line.1 c.write-end.result c.write-end.ensures.touches c.write-end.ensures.ends c.in-Err-NoSpace.need c.in-Err-NoSpace.live (e.spent - d.spent) end refl in
    rw (c.spent.ensures, c.spent-before.ensures) line

pub returns-in-Err-NoSpace-clause-undamaged : goal.returns-in-Err-NoSpace-clause-undamaged
returns-in-Err-NoSpace-clause-undamaged g c =
    let d = g.B.Flash.device c.args.bench.now in
    let e = g.B.Flash.device c.write-end.new.flash in
    still_sound g.T.SlotSectors.format_of c.args.area.now c.args.store.now.area d e c.requires.on c.requires.area (write_lost c.write-end.result) c.write-end.ensures.touches c.write-end.ensures.undamaged

pub returns-in-Err-PowerLost-clause-done : goal.returns-in-Err-PowerLost-clause-done
returns-in-Err-PowerLost-clause-done g c =
    let d = g.B.Flash.device c.args.bench.now in
    let e = g.B.Flash.device c.write-end.new.flash in
    let which : c.in-Err-PowerLost.field-0 ≡ PowerLost = rw c.in-Err-PowerLost.is at c.in-Err-PowerLost.field-0-is in
    let end : c.write-end.result ≡ Err PowerLost = c.in-Err-PowerLost.is ∙ ap (λ (fault : WriteFault). Err fault) which in
    let line = lost_set g.T.SlotSectors.format_of c.args.area.now c.args.store.now.area d e c.requires.on c.requires.area c.args.id c.as_slice.result.now c.args.value.now c.as_slice.ensures c.requires.line.1 c.write-end.result c.write-end.ensures.touches c.write-end.ensures.ends (e.spent - d.spent) end refl in
    rw (c.spent.ensures, c.spent-before.ensures) line

pub returns-in-Err-PowerLost-clause-undamaged : goal.returns-in-Err-PowerLost-clause-undamaged
returns-in-Err-PowerLost-clause-undamaged g c =
    let d = g.B.Flash.device c.args.bench.now in
    let e = g.B.Flash.device c.write-end.new.flash in
    still_sound g.T.SlotSectors.format_of c.args.area.now c.args.store.now.area d e c.requires.on c.requires.area (write_lost c.write-end.result) c.write-end.ensures.touches c.write-end.ensures.undamaged

pub returns-in-Err-PowerLost-clause-mounted : goal.returns-in-Err-PowerLost-clause-mounted
returns-in-Err-PowerLost-clause-mounted g c =
    let d = g.B.Flash.device c.args.bench.now in
    let e = g.B.Flash.device c.write-end.new.flash in
    let which : c.in-Err-PowerLost.field-0 ≡ PowerLost = rw c.in-Err-PowerLost.is at c.in-Err-PowerLost.field-0-is in
    let end : c.write-end.result ≡ Err PowerLost = c.in-Err-PowerLost.is ∙ ap (λ (fault : WriteFault). Err fault) which in
    λ powered. set_off g.T.SlotSectors.format_of c.args.area.now c.args.store.now.area d e c.requires.on c.requires.area c.args.id c.as_slice.result.now c.args.value.now c.as_slice.ensures c.requires.line.1 c.write-end.result c.write-end.ensures.touches c.write-end.ensures.ends end powered

pub unreachable-requires : goal.unreachable-requires
unreachable-requires g c =
    let d = g.B.Flash.device c.args.bench.now in
    let e = g.B.Flash.device c.write-end.new.flash in
    let which : c.in-Err-TooLong.field-0 ≡ TooLong = rw c.in-Err-TooLong.is at c.in-Err-TooLong.field-0-is in
    let end : c.write-end.result ≡ Err TooLong = c.in-Err-TooLong.is ∙ ap (λ (fault : WriteFault). Err fault) which in
    not_long g.T.SlotSectors.format_of c.args.area.now c.args.store.now.area d e c.requires.on c.requires.area c.args.id c.as_slice.result.now c.args.value.now c.as_slice.ensures c.requires.line.1 c.write-end.result c.write-end.ensures.touches c.write-end.ensures.ends end c.requires.values c.requires.line.2
