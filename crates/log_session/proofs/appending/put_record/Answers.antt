-- the record was appended; or it was too long, which no line's body is; or power was lost
use Rattle.std.proofs.Common.{◌≡◌, ◌-◌, Err, refl, ap, ◌∙◌}
use Rattle.event_ring.specs.declared.appending.LogFault.{LogFault}
use Rattle.event_ring.specs.declared.appending.LogFault.TheVariants.{TooLong, PowerLost}
use Rattle.log_session.proofs.PutLemmas.{done_line, done_open, done_sound, lost_line, lost_off, lost_sound, not_long}
use Rattle.log_session.proofs.appending.put_record.Goals as goal

pub returns-in-Ok-clause-done : goal.returns-in-Ok-clause-done
returns-in-Ok-clause-done g c =
    let d = g.B.Flash.device c.args.bench.now in
    let e = g.B.Flash.device c.append-end.new.flash in
    let line = done_line c.args.area.now c.args.log.now.ring c.append-end.new.self.ring c.as_slice.result.now c.args.body.now d e c.requires.on c.requires.mounted c.requires.area c.as_slice.ensures c.append-end.result c.append-end.ensures.touches c.append-end.ensures.ends c.in-Ok.dropped (e.spent - d.spent) c.in-Ok.is refl c.append-end.ensures.left in
    rw (c.spent.ensures, c.spent-before.ensures) line

pub returns-in-Ok-clause-undamaged : goal.returns-in-Ok-clause-undamaged
returns-in-Ok-clause-undamaged g c =
    let d = g.B.Flash.device c.args.bench.now in
    let e = g.B.Flash.device c.append-end.new.flash in
    done_sound c.args.area.now c.args.log.now.ring c.append-end.new.self.ring c.as_slice.result.now c.args.body.now d e c.requires.on c.requires.mounted c.requires.area c.as_slice.ensures c.append-end.result c.append-end.ensures.touches c.append-end.ensures.ends c.in-Ok.dropped c.in-Ok.is

pub returns-in-Ok-clause-mounted : goal.returns-in-Ok-clause-mounted
returns-in-Ok-clause-mounted g c =
    let d = g.B.Flash.device c.args.bench.now in
    let e = g.B.Flash.device c.append-end.new.flash in
    λ powered. done_open c.args.area.now c.args.log.now.ring c.append-end.new.self.ring c.as_slice.result.now c.args.body.now d e c.requires.on c.requires.mounted c.requires.area c.as_slice.ensures c.append-end.result c.append-end.ensures.touches c.append-end.ensures.ends c.in-Ok.dropped c.in-Ok.is

pub returns-in-Err-PowerLost-clause-done : goal.returns-in-Err-PowerLost-clause-done
returns-in-Err-PowerLost-clause-done g c =
    let d = g.B.Flash.device c.args.bench.now in
    let e = g.B.Flash.device c.append-end.new.flash in
    let which : c.in-Err-PowerLost.field-0 ≡ PowerLost = rw c.in-Err-PowerLost.is at c.in-Err-PowerLost.field-0-is in
    let end : c.append-end.result ≡ Err PowerLost = c.in-Err-PowerLost.is ∙ ap (λ (fault : LogFault). Err fault) which in
    let line = lost_line c.args.area.now c.args.log.now.ring c.append-end.new.self.ring c.as_slice.result.now c.args.body.now d e c.requires.on c.requires.mounted c.requires.area c.as_slice.ensures c.append-end.result c.append-end.ensures.touches c.append-end.ensures.ends (e.spent - d.spent) c.spells_another.result end refl c.spells_another.ensures c.append-end.ensures.left in
    rw (c.spent.ensures, c.spent-before.ensures) line

pub returns-in-Err-PowerLost-clause-undamaged : goal.returns-in-Err-PowerLost-clause-undamaged
returns-in-Err-PowerLost-clause-undamaged g c =
    let d = g.B.Flash.device c.args.bench.now in
    let e = g.B.Flash.device c.append-end.new.flash in
    let which : c.in-Err-PowerLost.field-0 ≡ PowerLost = rw c.in-Err-PowerLost.is at c.in-Err-PowerLost.field-0-is in
    let end : c.append-end.result ≡ Err PowerLost = c.in-Err-PowerLost.is ∙ ap (λ (fault : LogFault). Err fault) which in
    lost_sound c.args.area.now c.args.log.now.ring c.append-end.new.self.ring c.as_slice.result.now c.args.body.now d e c.requires.on c.requires.mounted c.requires.area c.as_slice.ensures c.append-end.result c.append-end.ensures.touches c.append-end.ensures.ends end

pub returns-in-Err-PowerLost-clause-mounted : goal.returns-in-Err-PowerLost-clause-mounted
returns-in-Err-PowerLost-clause-mounted g c =
    let d = g.B.Flash.device c.args.bench.now in
    let e = g.B.Flash.device c.append-end.new.flash in
    let which : c.in-Err-PowerLost.field-0 ≡ PowerLost = rw c.in-Err-PowerLost.is at c.in-Err-PowerLost.field-0-is in
    let end : c.append-end.result ≡ Err PowerLost = c.in-Err-PowerLost.is ∙ ap (λ (fault : LogFault). Err fault) which in
    lost_off c.args.area.now c.args.log.now.ring c.append-end.new.self.ring c.as_slice.result.now c.args.body.now d e c.requires.on c.requires.mounted c.requires.area c.as_slice.ensures c.append-end.result c.append-end.ensures.touches c.append-end.ensures.ends end

pub unreachable-requires : goal.unreachable-requires
unreachable-requires g c =
    let d = g.B.Flash.device c.args.bench.now in
    let e = g.B.Flash.device c.append-end.new.flash in
    let which : c.in-Err-TooLong.field-0 ≡ TooLong = rw c.in-Err-TooLong.is at c.in-Err-TooLong.field-0-is in
    let end : c.append-end.result ≡ Err TooLong = c.in-Err-TooLong.is ∙ ap (λ (fault : LogFault). Err fault) which in
    not_long c.args.area.now c.args.log.now.ring c.append-end.new.self.ring c.as_slice.result.now c.args.body.now d e c.requires.on c.requires.mounted c.requires.area c.as_slice.ensures c.append-end.result c.append-end.ensures.touches c.append-end.ensures.ends end c.requires.line.0 c.requires.line.1
