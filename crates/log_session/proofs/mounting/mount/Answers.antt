-- the area was mounted; or power was lost; or it shows damage; memory is never wanting
use Rattle.std.proofs.Common.{◌≡◌, ◌-◌, Err, refl, ap, ◌∙◌}
use Rattle.flash_map.specs.declared.faults.MountFault.{MountFault}
use Rattle.flash_map.specs.declared.faults.MountFault.TheVariants.{Damaged as HasDamage, PowerLost, NoMemory}
use Rattle.log_session.proofs.MountLemmas.{damaged_shown, has_memory, idle_mount, lost_before, lost_line, lost_off, lost_sound, whole_before, whole_line, whole_mounted, whole_sound}
use Rattle.log_session.proofs.mounting.mount.Goals as goal

pub returns-in-Ok-clause-done : goal.returns-in-Ok-clause-done
returns-in-Ok-clause-done g c =
    let d = g.B.Flash.device c.args.bench.now in
    let m = g.B.Flash.device c.restore.new.self in
    let e = g.B.Flash.device c.mount-end.new.flash in
    let line = whole_line c.args.area.now c.args.area.now d m e c.restore.ensures refl c.mount-end.result c.mount-end.ensures.touches c.mount-end.ensures.ends c.mount-end.ensures.left c.in-Ok.log c.in-Ok.is (e.spent - m.spent) refl (idle_mount c.args.area.now c.args.area.now d m e c.restore.ensures refl c.mount-end.ensures.idle) in
    rw (c.spent.ensures, c.spent-before.ensures) line

pub returns-in-Ok-clause-mounted : goal.returns-in-Ok-clause-mounted
returns-in-Ok-clause-mounted g c =
    let d = g.B.Flash.device c.args.bench.now in
    let m = g.B.Flash.device c.restore.new.self in
    let e = g.B.Flash.device c.mount-end.new.flash in
    whole_mounted c.args.area.now c.args.area.now d m e c.restore.ensures refl c.mount-end.result c.mount-end.ensures.touches c.mount-end.ensures.ends c.mount-end.ensures.left c.in-Ok.log c.in-Ok.is

pub returns-in-Ok-clause-before : goal.returns-in-Ok-clause-before
returns-in-Ok-clause-before g c =
    let d = g.B.Flash.device c.args.bench.now in
    let m = g.B.Flash.device c.restore.new.self in
    let e = g.B.Flash.device c.mount-end.new.flash in
    whole_before c.args.area.now c.args.area.now d m e c.restore.ensures refl c.mount-end.result c.mount-end.ensures.touches c.mount-end.ensures.ends c.mount-end.ensures.left c.in-Ok.log c.in-Ok.is

pub returns-in-Ok-clause-undamaged : goal.returns-in-Ok-clause-undamaged
returns-in-Ok-clause-undamaged g c =
    let d = g.B.Flash.device c.args.bench.now in
    let m = g.B.Flash.device c.restore.new.self in
    let e = g.B.Flash.device c.mount-end.new.flash in
    whole_sound c.args.area.now c.args.area.now d m e c.restore.ensures refl c.mount-end.result c.mount-end.ensures.touches c.mount-end.ensures.ends c.mount-end.ensures.left c.in-Ok.log c.in-Ok.is

pub returns-in-Ok-clause-rests : goal.returns-in-Ok-clause-rests
returns-in-Ok-clause-rests g c =
    let d = g.B.Flash.device c.args.bench.now in
    let m = g.B.Flash.device c.restore.new.self in
    let e = g.B.Flash.device c.mount-end.new.flash in
    λ rests.
    let line = whole_line c.args.area.now c.args.area.now d m e c.restore.ensures refl c.mount-end.result c.mount-end.ensures.touches c.mount-end.ensures.ends c.mount-end.ensures.left c.in-Ok.log c.in-Ok.is (e.spent - m.spent) refl (idle_mount c.args.area.now c.args.area.now d m e c.restore.ensures refl c.mount-end.ensures.idle) in
    let none = (line.mounts refl).rests rests in
    rw (c.spent.ensures, c.spent-before.ensures) none.0

pub returns-in-Err-PowerLost-clause-done : goal.returns-in-Err-PowerLost-clause-done
returns-in-Err-PowerLost-clause-done g c =
    let d = g.B.Flash.device c.args.bench.now in
    let m = g.B.Flash.device c.restore.new.self in
    let e = g.B.Flash.device c.mount-end.new.flash in
    let which : c.in-Err-PowerLost.field-0 ≡ PowerLost = rw c.in-Err-PowerLost.is at c.in-Err-PowerLost.field-0-is in
    let end : c.mount-end.result ≡ Err PowerLost = c.in-Err-PowerLost.is ∙ ap (λ (fault : MountFault). Err fault) which in
    let line = lost_line c.args.area.now c.args.area.now d m e c.restore.ensures refl c.mount-end.result c.mount-end.ensures.touches c.mount-end.ensures.ends c.mount-end.ensures.left end (e.spent - m.spent) refl (idle_mount c.args.area.now c.args.area.now d m e c.restore.ensures refl c.mount-end.ensures.idle) in
    rw (c.spent.ensures, c.spent-before.ensures) line

pub returns-in-Err-PowerLost-clause-mounted : goal.returns-in-Err-PowerLost-clause-mounted
returns-in-Err-PowerLost-clause-mounted g c =
    let d = g.B.Flash.device c.args.bench.now in
    let m = g.B.Flash.device c.restore.new.self in
    let e = g.B.Flash.device c.mount-end.new.flash in
    let which : c.in-Err-PowerLost.field-0 ≡ PowerLost = rw c.in-Err-PowerLost.is at c.in-Err-PowerLost.field-0-is in
    let end : c.mount-end.result ≡ Err PowerLost = c.in-Err-PowerLost.is ∙ ap (λ (fault : MountFault). Err fault) which in
    lost_off c.args.area.now c.args.area.now d m e c.restore.ensures refl c.mount-end.result c.mount-end.ensures.touches c.mount-end.ensures.ends c.mount-end.ensures.left end

pub returns-in-Err-PowerLost-clause-before : goal.returns-in-Err-PowerLost-clause-before
returns-in-Err-PowerLost-clause-before g c =
    let d = g.B.Flash.device c.args.bench.now in
    let m = g.B.Flash.device c.restore.new.self in
    let e = g.B.Flash.device c.mount-end.new.flash in
    let which : c.in-Err-PowerLost.field-0 ≡ PowerLost = rw c.in-Err-PowerLost.is at c.in-Err-PowerLost.field-0-is in
    let end : c.mount-end.result ≡ Err PowerLost = c.in-Err-PowerLost.is ∙ ap (λ (fault : MountFault). Err fault) which in
    lost_before c.args.area.now c.args.area.now d m e c.restore.ensures refl c.mount-end.result c.mount-end.ensures.touches c.mount-end.ensures.ends c.mount-end.ensures.left end

pub returns-in-Err-PowerLost-clause-undamaged : goal.returns-in-Err-PowerLost-clause-undamaged
returns-in-Err-PowerLost-clause-undamaged g c =
    let d = g.B.Flash.device c.args.bench.now in
    let m = g.B.Flash.device c.restore.new.self in
    let e = g.B.Flash.device c.mount-end.new.flash in
    let which : c.in-Err-PowerLost.field-0 ≡ PowerLost = rw c.in-Err-PowerLost.is at c.in-Err-PowerLost.field-0-is in
    let end : c.mount-end.result ≡ Err PowerLost = c.in-Err-PowerLost.is ∙ ap (λ (fault : MountFault). Err fault) which in
    lost_sound c.args.area.now c.args.area.now d m e c.restore.ensures refl c.mount-end.result c.mount-end.ensures.touches c.mount-end.ensures.ends c.mount-end.ensures.left end

pub returns-in-Err-PowerLost-clause-rests : goal.returns-in-Err-PowerLost-clause-rests
returns-in-Err-PowerLost-clause-rests g c =
    let d = g.B.Flash.device c.args.bench.now in
    let m = g.B.Flash.device c.restore.new.self in
    let e = g.B.Flash.device c.mount-end.new.flash in
    let which : c.in-Err-PowerLost.field-0 ≡ PowerLost = rw c.in-Err-PowerLost.is at c.in-Err-PowerLost.field-0-is in
    let end : c.mount-end.result ≡ Err PowerLost = c.in-Err-PowerLost.is ∙ ap (λ (fault : MountFault). Err fault) which in
    λ rests.
    let line = lost_line c.args.area.now c.args.area.now d m e c.restore.ensures refl c.mount-end.result c.mount-end.ensures.touches c.mount-end.ensures.ends c.mount-end.ensures.left end (e.spent - m.spent) refl (idle_mount c.args.area.now c.args.area.now d m e c.restore.ensures refl c.mount-end.ensures.idle) in
    let none = (line.mounts refl).rests rests in
    rw (c.spent.ensures, c.spent-before.ensures) none.0

pub returns-in-Err-Damaged-clause-damaged : goal.returns-in-Err-Damaged-clause-damaged
returns-in-Err-Damaged-clause-damaged g c =
    let d = g.B.Flash.device c.args.bench.now in
    let m = g.B.Flash.device c.restore.new.self in
    let e = g.B.Flash.device c.mount-end.new.flash in
    let which : c.in-Err-Damaged.field-0 ≡ HasDamage c.in-Err-Damaged.damaged = rw c.in-Err-Damaged.is at c.in-Err-Damaged.field-0-is in
    let end : c.mount-end.result ≡ Err (HasDamage c.in-Err-Damaged.damaged) = c.in-Err-Damaged.is ∙ ap (λ (fault : MountFault). Err fault) which in
    damaged_shown c.args.area.now c.args.area.now d m e c.restore.ensures refl c.mount-end.result c.mount-end.ensures.touches c.mount-end.ensures.ends c.mount-end.ensures.left c.in-Err-Damaged.damaged end

pub unreachable-requires : goal.unreachable-requires
unreachable-requires g c =
    let d = g.B.Flash.device c.args.bench.now in
    let m = g.B.Flash.device c.restore.new.self in
    let e = g.B.Flash.device c.mount-end.new.flash in
    let which : c.in-Err-NoMemory.field-0 ≡ NoMemory = rw c.in-Err-NoMemory.is at c.in-Err-NoMemory.field-0-is in
    let end : c.mount-end.result ≡ Err NoMemory = c.in-Err-NoMemory.is ∙ ap (λ (fault : MountFault). Err fault) which in
    has_memory c.args.area.now c.args.area.now d m e c.restore.ensures refl c.mount-end.result c.mount-end.ensures.touches c.mount-end.ensures.ends c.mount-end.ensures.left end
