-- the area was mounted; or power was lost; or it shows damage, or memory was wanting
use Rattle.std.proofs.Common.{◌≡◌, ◌-◌, Err, refl, ap, ◌∙◌}
use Rattle.flash_map.specs.declared.faults.MountFault.{MountFault}
use Rattle.flash_map.specs.declared.faults.MountFault.TheVariants.{Damaged as HasDamage, PowerLost, NoMemory}
use Rattle.item_session.proofs.MountLemmas.{damaged_shown, lost_before, lost_line, lost_off, lost_sound, memory_left, whole_before, whole_line, whole_mounted, whole_sound}
use Rattle.item_session.proofs.mounting.mount.Goals as goal

pub returns-in-Ok-clause-done : goal.returns-in-Ok-clause-done
returns-in-Ok-clause-done g c =
    let d = g.B.Flash.device c.args.bench.now in
    let m = g.B.Flash.device c.restore.new.self in
    let e = g.B.Flash.device c.mount-end.new.flash in
    let line = whole_line g.T.SlotSectors.role g.T.SlotSectors.format_of g.T.SlotSectors.kept c.args.area.now c.args.area.now d m e c.restore.ensures refl c.mount-end.result c.mount-end.ensures.touches c.mount-end.ensures.ends c.mount-end.ensures.at_most c.in-Ok.store c.in-Ok.is (e.spent - m.spent) refl in
    rw (c.spent.ensures, c.spent-before.ensures) line

pub returns-in-Ok-clause-mounted : goal.returns-in-Ok-clause-mounted
returns-in-Ok-clause-mounted g c =
    let d = g.B.Flash.device c.args.bench.now in
    let m = g.B.Flash.device c.restore.new.self in
    let e = g.B.Flash.device c.mount-end.new.flash in
    whole_mounted g.T.SlotSectors.role g.T.SlotSectors.format_of g.T.SlotSectors.kept c.args.area.now c.args.area.now d m e c.restore.ensures refl c.mount-end.result c.mount-end.ensures.touches c.mount-end.ensures.ends c.mount-end.ensures.at_most c.in-Ok.store c.in-Ok.is

pub returns-in-Ok-clause-before : goal.returns-in-Ok-clause-before
returns-in-Ok-clause-before g c =
    let d = g.B.Flash.device c.args.bench.now in
    let m = g.B.Flash.device c.restore.new.self in
    let e = g.B.Flash.device c.mount-end.new.flash in
    whole_before g.T.SlotSectors.role g.T.SlotSectors.format_of g.T.SlotSectors.kept c.args.area.now c.args.area.now d m e c.restore.ensures refl c.mount-end.result c.mount-end.ensures.touches c.mount-end.ensures.ends c.mount-end.ensures.at_most c.in-Ok.store c.in-Ok.is

pub returns-in-Ok-clause-undamaged : goal.returns-in-Ok-clause-undamaged
returns-in-Ok-clause-undamaged g c =
    let d = g.B.Flash.device c.args.bench.now in
    let m = g.B.Flash.device c.restore.new.self in
    let e = g.B.Flash.device c.mount-end.new.flash in
    whole_sound g.T.SlotSectors.role g.T.SlotSectors.format_of g.T.SlotSectors.kept c.args.area.now c.args.area.now d m e c.restore.ensures refl c.mount-end.result c.mount-end.ensures.touches c.mount-end.ensures.ends c.mount-end.ensures.at_most c.in-Ok.store c.in-Ok.is

pub returns-in-Err-PowerLost-clause-done : goal.returns-in-Err-PowerLost-clause-done
returns-in-Err-PowerLost-clause-done g c =
    let d = g.B.Flash.device c.args.bench.now in
    let m = g.B.Flash.device c.restore.new.self in
    let e = g.B.Flash.device c.mount-end.new.flash in
    let which : c.in-Err-PowerLost.field-0 ≡ PowerLost = rw c.in-Err-PowerLost.is at c.in-Err-PowerLost.field-0-is in
    let end : c.mount-end.result ≡ Err PowerLost = c.in-Err-PowerLost.is ∙ ap (λ (fault : MountFault). Err fault) which in
    let line = lost_line g.T.SlotSectors.role g.T.SlotSectors.format_of g.T.SlotSectors.kept c.args.area.now c.args.area.now d m e c.restore.ensures refl c.mount-end.result c.mount-end.ensures.touches c.mount-end.ensures.ends c.mount-end.ensures.at_most end (e.spent - m.spent) refl in
    rw (c.spent.ensures, c.spent-before.ensures) line

pub returns-in-Err-PowerLost-clause-mounted : goal.returns-in-Err-PowerLost-clause-mounted
returns-in-Err-PowerLost-clause-mounted g c =
    let d = g.B.Flash.device c.args.bench.now in
    let m = g.B.Flash.device c.restore.new.self in
    let e = g.B.Flash.device c.mount-end.new.flash in
    let which : c.in-Err-PowerLost.field-0 ≡ PowerLost = rw c.in-Err-PowerLost.is at c.in-Err-PowerLost.field-0-is in
    let end : c.mount-end.result ≡ Err PowerLost = c.in-Err-PowerLost.is ∙ ap (λ (fault : MountFault). Err fault) which in
    lost_off g.T.SlotSectors.role g.T.SlotSectors.format_of g.T.SlotSectors.kept c.args.area.now c.args.area.now d m e c.restore.ensures refl c.mount-end.result c.mount-end.ensures.touches c.mount-end.ensures.ends c.mount-end.ensures.at_most end

pub returns-in-Err-PowerLost-clause-before : goal.returns-in-Err-PowerLost-clause-before
returns-in-Err-PowerLost-clause-before g c =
    let d = g.B.Flash.device c.args.bench.now in
    let m = g.B.Flash.device c.restore.new.self in
    let e = g.B.Flash.device c.mount-end.new.flash in
    let which : c.in-Err-PowerLost.field-0 ≡ PowerLost = rw c.in-Err-PowerLost.is at c.in-Err-PowerLost.field-0-is in
    let end : c.mount-end.result ≡ Err PowerLost = c.in-Err-PowerLost.is ∙ ap (λ (fault : MountFault). Err fault) which in
    lost_before g.T.SlotSectors.role g.T.SlotSectors.format_of g.T.SlotSectors.kept c.args.area.now c.args.area.now d m e c.restore.ensures refl c.mount-end.result c.mount-end.ensures.touches c.mount-end.ensures.ends c.mount-end.ensures.at_most end

pub returns-in-Err-PowerLost-clause-undamaged : goal.returns-in-Err-PowerLost-clause-undamaged
returns-in-Err-PowerLost-clause-undamaged g c =
    let d = g.B.Flash.device c.args.bench.now in
    let m = g.B.Flash.device c.restore.new.self in
    let e = g.B.Flash.device c.mount-end.new.flash in
    let which : c.in-Err-PowerLost.field-0 ≡ PowerLost = rw c.in-Err-PowerLost.is at c.in-Err-PowerLost.field-0-is in
    let end : c.mount-end.result ≡ Err PowerLost = c.in-Err-PowerLost.is ∙ ap (λ (fault : MountFault). Err fault) which in
    lost_sound g.T.SlotSectors.role g.T.SlotSectors.format_of g.T.SlotSectors.kept c.args.area.now c.args.area.now d m e c.restore.ensures refl c.mount-end.result c.mount-end.ensures.touches c.mount-end.ensures.ends c.mount-end.ensures.at_most end

pub returns-in-Err-Damaged-clause-stops : goal.returns-in-Err-Damaged-clause-stops
returns-in-Err-Damaged-clause-stops g c =
    let d = g.B.Flash.device c.args.bench.now in
    let m = g.B.Flash.device c.restore.new.self in
    let e = g.B.Flash.device c.mount-end.new.flash in
    let which : c.in-Err-Damaged.field-0 ≡ HasDamage c.in-Err-Damaged.damaged = rw c.in-Err-Damaged.is at c.in-Err-Damaged.field-0-is in
    let end : c.mount-end.result ≡ Err (HasDamage c.in-Err-Damaged.damaged) = c.in-Err-Damaged.is ∙ ap (λ (fault : MountFault). Err fault) which in
    damaged_shown g.T.SlotSectors.role g.T.SlotSectors.format_of g.T.SlotSectors.kept c.args.area.now c.args.area.now d m e c.restore.ensures refl c.mount-end.result c.mount-end.ensures.touches c.mount-end.ensures.ends c.mount-end.ensures.at_most c.in-Err-Damaged.damaged end

pub returns-in-Err-NoMemory-clause-stops : goal.returns-in-Err-NoMemory-clause-stops
returns-in-Err-NoMemory-clause-stops g c =
    let d = g.B.Flash.device c.args.bench.now in
    let m = g.B.Flash.device c.restore.new.self in
    let e = g.B.Flash.device c.mount-end.new.flash in
    let which : c.in-Err-NoMemory.field-0 ≡ NoMemory = rw c.in-Err-NoMemory.is at c.in-Err-NoMemory.field-0-is in
    let end : c.mount-end.result ≡ Err NoMemory = c.in-Err-NoMemory.is ∙ ap (λ (fault : MountFault). Err fault) which in
    memory_left g.T.SlotSectors.role g.T.SlotSectors.format_of g.T.SlotSectors.kept c.args.area.now c.args.area.now d m e c.restore.ensures refl c.mount-end.result c.mount-end.ensures.touches c.mount-end.ensures.ends c.mount-end.ensures.at_most end
