-- the mount was whole; or power was lost; or it stopped
use Rattle.std.proofs.Common.{◌≡◌, ◌-◌, ◌≤◌, true, Err, refl, ap, ◌∙◌}
use Rattle.mirror.specs.declared.mounting.MirrorMount.{MirrorMount}
use Rattle.mirror.specs.declared.mounting.MirrorMount.TheVariants.{Damaged as HasDamage, Unfit as IsNotFit, PowerLost, NoMemory as WantsMemory}
use Rattle.flash_sim.specs.Device.{Device}
use Rattle.mirror.specs.Trusted.{trusted_on}
use Rattle.mirror_session.specs.Bench.{meanings}
use Rattle.mirror_session.proofs.CutLemmas.{stays_fit, stays_sound, stops_mounting}
use Rattle.mirror_session.proofs.MountLemmas.{banks_stay, cut_so, damaged_stops, held_now, lost_line, memory_stops, off_now, on_now, spent_risen, unfit_stops, whole_line}
use Rattle.mirror_session.proofs.OwesLemmas.{mount-kept, mount-reports, owes-up}
use Rattle.mirror_session.proofs.PlaceLemmas.{map_kept}
use Rattle.mirror_session.proofs.mounting.mount.Goals as goal

pub returns-in-Ok-clause-done : goal.returns-in-Ok-clause-done
returns-in-Ok-clause-done g c =
    let K = g.K.Backend in
    let m = meanings K.damage K.contents K.rests K.room g.K.Priced.prices K.owes in
    let old = g.B.Flash.device c.args.bench.now in
    let mid = g.B.Flash.device c.restore.new.self in
    let new = g.B.Flash.device c.mount-end.new.flash in
    λ was. rw (c.done.ensures, c.spent.ensures, c.spent-before.ensures) (whole_line K.mounted_on K.stands m K.serves c.args.map.now old mid new c.requires.map c.restore.ensures c.mount-end.result c.mount-end.ensures.touches c.mount-end.ensures.ends c.in-Ok.mirror c.in-Ok.is (λ s h x is. g.met.K.Backend.stands_reads s h x is) c.mount-end.ensures.trusted (new.spent - mid.spent) was refl c.mount-end.ensures.at_most c.mount-end.ensures.idle c.mount-end.ensures.copy)

pub returns-in-Ok-clause-ready : goal.returns-in-Ok-clause-ready
returns-in-Ok-clause-ready g c =
    let K = g.K.Backend in
    let m = meanings K.damage K.contents K.rests K.room g.K.Priced.prices K.owes in
    let old = g.B.Flash.device c.args.bench.now in
    let mid = g.B.Flash.device c.restore.new.self in
    let new = g.B.Flash.device c.mount-end.new.flash in
    held_now K.mounted_on K.stands m K.serves c.args.map.now old mid new c.requires.map c.restore.ensures c.mount-end.result c.mount-end.ensures.touches c.mount-end.ensures.ends c.in-Ok.mirror c.in-Ok.is (λ s h x is. g.met.K.Backend.stands_reads s h x is) c.mount-end.ensures.trusted

pub returns-in-Err-PowerLost-clause-done : goal.returns-in-Err-PowerLost-clause-done
returns-in-Err-PowerLost-clause-done g c =
    let K = g.K.Backend in
    let m = meanings K.damage K.contents K.rests K.room g.K.Priced.prices K.owes in
    let old = g.B.Flash.device c.args.bench.now in
    let mid = g.B.Flash.device c.restore.new.self in
    let new = g.B.Flash.device c.mount-end.new.flash in
    let which : c.in-Err-PowerLost.field-0 ≡ PowerLost = rw c.in-Err-PowerLost.is at c.in-Err-PowerLost.field-0-is in
    let end : c.mount-end.result ≡ Err (PowerLost) = c.in-Err-PowerLost.is ∙ ap (λ (fault : MirrorMount). Err fault) which in
    let banks = banks_stay K.mounted_on K.stands m K.serves c.args.map.now old mid new c.requires.map c.restore.ensures c.mount-end.result c.mount-end.ensures.touches c.mount-end.ensures.ends in
    let same : trusted_on c.args.map.now new ≡ trusted_on c.args.map.now old = c.mount-end.ensures.trusted ∙ ap (λ (d : Device). trusted_on c.args.map.now d) c.restore.ensures in
    let cut = cut_so K.mounted_on K.stands m K.serves c.args.map.now old mid new c.requires.map c.restore.ensures c.mount-end.result c.mount-end.ensures.touches c.mount-end.ensures.ends end in
    let off = off_now K.mounted_on K.stands m K.serves c.args.map.now old mid new c.requires.map c.restore.ensures c.mount-end.result c.mount-end.ensures.touches c.mount-end.ensures.ends end in
    let stops = stops_mounting m K.serves c.args.map.now old new c.requires.map (g.met.B.Flash.is_lawful c.args.bench.now) (g.met.B.Flash.is_lawful c.mount-end.new.flash) banks same cut off in
    let sound = stays_sound m K.serves c.args.map.now old new c.requires.map (g.met.B.Flash.is_lawful c.args.bench.now) (g.met.B.Flash.is_lawful c.mount-end.new.flash) banks same cut off in
    let fit = stays_fit m K.serves c.args.map.now old new c.requires.map (g.met.B.Flash.is_lawful c.args.bench.now) (g.met.B.Flash.is_lawful c.mount-end.new.flash) banks same cut off in
    λ was. rw (c.lost.ensures, c.spent.ensures, c.spent-before.ensures) (lost_line K.mounted_on K.stands m K.serves c.args.map.now old mid new c.requires.map c.restore.ensures c.mount-end.result c.mount-end.ensures.touches c.mount-end.ensures.ends end (new.spent - mid.spent) was refl c.mount-end.ensures.at_most c.mount-end.ensures.idle c.mount-end.ensures.copy (λ last. stops last was) (sound was) (fit was))

pub returns-in-Err-Damaged-clause-stops : goal.returns-in-Err-Damaged-clause-stops
returns-in-Err-Damaged-clause-stops g c =
    let K = g.K.Backend in
    let m = meanings K.damage K.contents K.rests K.room g.K.Priced.prices K.owes in
    let old = g.B.Flash.device c.args.bench.now in
    let mid = g.B.Flash.device c.restore.new.self in
    let new = g.B.Flash.device c.mount-end.new.flash in
    let which : c.in-Err-Damaged.field-0 ≡ HasDamage c.in-Err-Damaged.area c.in-Err-Damaged.damage = rw c.in-Err-Damaged.is at c.in-Err-Damaged.field-0-is in
    let end : c.mount-end.result ≡ Err (HasDamage c.in-Err-Damaged.area c.in-Err-Damaged.damage) = c.in-Err-Damaged.is ∙ ap (λ (fault : MirrorMount). Err fault) which in
    damaged_stops K.mounted_on K.stands m K.serves c.args.map.now old mid new c.requires.map c.restore.ensures c.mount-end.result c.mount-end.ensures.touches c.mount-end.ensures.ends c.mount-end.ensures.trusted c.mount-end.ensures.keeps c.mount-end.ensures.idle c.mount-end.ensures.copy c.mount-end.ensures.at_most c.mount-end.ensures.owes c.in-Err-Damaged.area c.in-Err-Damaged.damage end

pub returns-in-Err-Unfit-clause-stops : goal.returns-in-Err-Unfit-clause-stops
returns-in-Err-Unfit-clause-stops g c =
    let K = g.K.Backend in
    let m = meanings K.damage K.contents K.rests K.room g.K.Priced.prices K.owes in
    let old = g.B.Flash.device c.args.bench.now in
    let mid = g.B.Flash.device c.restore.new.self in
    let new = g.B.Flash.device c.mount-end.new.flash in
    let which : c.in-Err-Unfit.field-0 ≡ IsNotFit c.in-Err-Unfit.area = rw c.in-Err-Unfit.is at c.in-Err-Unfit.field-0-is in
    let end : c.mount-end.result ≡ Err (IsNotFit c.in-Err-Unfit.area) = c.in-Err-Unfit.is ∙ ap (λ (fault : MirrorMount). Err fault) which in
    unfit_stops K.mounted_on K.stands m K.serves c.args.map.now old mid new c.requires.map c.restore.ensures c.mount-end.result c.mount-end.ensures.touches c.mount-end.ensures.ends c.mount-end.ensures.trusted c.mount-end.ensures.keeps c.mount-end.ensures.idle c.mount-end.ensures.copy c.mount-end.ensures.at_most c.mount-end.ensures.owes c.in-Err-Unfit.area end

pub returns-in-Err-NoMemory-clause-stops : goal.returns-in-Err-NoMemory-clause-stops
returns-in-Err-NoMemory-clause-stops g c =
    let K = g.K.Backend in
    let m = meanings K.damage K.contents K.rests K.room g.K.Priced.prices K.owes in
    let old = g.B.Flash.device c.args.bench.now in
    let mid = g.B.Flash.device c.restore.new.self in
    let new = g.B.Flash.device c.mount-end.new.flash in
    let which : c.in-Err-NoMemory.field-0 ≡ WantsMemory = rw c.in-Err-NoMemory.is at c.in-Err-NoMemory.field-0-is in
    let end : c.mount-end.result ≡ Err (WantsMemory) = c.in-Err-NoMemory.is ∙ ap (λ (fault : MirrorMount). Err fault) which in
    memory_stops K.mounted_on K.stands m K.serves c.args.map.now old mid new c.requires.map c.restore.ensures c.mount-end.result c.mount-end.ensures.touches c.mount-end.ensures.ends c.mount-end.ensures.trusted c.mount-end.ensures.keeps c.mount-end.ensures.idle c.mount-end.ensures.copy c.mount-end.ensures.at_most c.mount-end.ensures.owes end

pub returns-in-Ok-clause-banks : goal.returns-in-Ok-clause-banks
returns-in-Ok-clause-banks g c =
    let K = g.K.Backend in
    let m = meanings K.damage K.contents K.rests K.room g.K.Priced.prices K.owes in
    let old = g.B.Flash.device c.args.bench.now in
    let mid = g.B.Flash.device c.restore.new.self in
    let new = g.B.Flash.device c.mount-end.new.flash in
    banks_stay K.mounted_on K.stands m K.serves c.args.map.now old mid new c.requires.map c.restore.ensures c.mount-end.result c.mount-end.ensures.touches c.mount-end.ensures.ends

pub returns-in-Err-PowerLost-clause-banks : goal.returns-in-Err-PowerLost-clause-banks
returns-in-Err-PowerLost-clause-banks g c =
    let K = g.K.Backend in
    let m = meanings K.damage K.contents K.rests K.room g.K.Priced.prices K.owes in
    let old = g.B.Flash.device c.args.bench.now in
    let mid = g.B.Flash.device c.restore.new.self in
    let new = g.B.Flash.device c.mount-end.new.flash in
    banks_stay K.mounted_on K.stands m K.serves c.args.map.now old mid new c.requires.map c.restore.ensures c.mount-end.result c.mount-end.ensures.touches c.mount-end.ensures.ends

pub returns-in-Err-Damaged-clause-banks : goal.returns-in-Err-Damaged-clause-banks
returns-in-Err-Damaged-clause-banks g c =
    let K = g.K.Backend in
    let m = meanings K.damage K.contents K.rests K.room g.K.Priced.prices K.owes in
    let old = g.B.Flash.device c.args.bench.now in
    let mid = g.B.Flash.device c.restore.new.self in
    let new = g.B.Flash.device c.mount-end.new.flash in
    banks_stay K.mounted_on K.stands m K.serves c.args.map.now old mid new c.requires.map c.restore.ensures c.mount-end.result c.mount-end.ensures.touches c.mount-end.ensures.ends

pub returns-in-Err-Unfit-clause-banks : goal.returns-in-Err-Unfit-clause-banks
returns-in-Err-Unfit-clause-banks g c =
    let K = g.K.Backend in
    let m = meanings K.damage K.contents K.rests K.room g.K.Priced.prices K.owes in
    let old = g.B.Flash.device c.args.bench.now in
    let mid = g.B.Flash.device c.restore.new.self in
    let new = g.B.Flash.device c.mount-end.new.flash in
    banks_stay K.mounted_on K.stands m K.serves c.args.map.now old mid new c.requires.map c.restore.ensures c.mount-end.result c.mount-end.ensures.touches c.mount-end.ensures.ends

pub returns-in-Err-NoMemory-clause-banks : goal.returns-in-Err-NoMemory-clause-banks
returns-in-Err-NoMemory-clause-banks g c =
    let K = g.K.Backend in
    let m = meanings K.damage K.contents K.rests K.room g.K.Priced.prices K.owes in
    let old = g.B.Flash.device c.args.bench.now in
    let mid = g.B.Flash.device c.restore.new.self in
    let new = g.B.Flash.device c.mount-end.new.flash in
    banks_stay K.mounted_on K.stands m K.serves c.args.map.now old mid new c.requires.map c.restore.ensures c.mount-end.result c.mount-end.ensures.touches c.mount-end.ensures.ends

pub overflow_sub-units : goal.overflow_sub-units
overflow_sub-units g c =
    let K = g.K.Backend in
    let m = meanings K.damage K.contents K.rests K.room g.K.Priced.prices K.owes in
    let old = g.B.Flash.device c.args.bench.now in
    let mid = g.B.Flash.device c.restore.new.self in
    let new = g.B.Flash.device c.mount-end.new.flash in
    let risen : mid.spent ≤ new.spent = spent_risen K.mounted_on K.stands m K.serves c.args.map.now old mid new c.requires.map c.restore.ensures c.mount-end.result c.mount-end.ensures.touches c.mount-end.ensures.ends in
    rw (c.spent.ensures, c.spent-before.ensures) risen

pub returns-in-Ok-clause-boots : goal.returns-in-Ok-clause-boots
returns-in-Ok-clause-boots g c =
    let K = g.K.Backend in
    let m = meanings K.damage K.contents K.rests K.room g.K.Priced.prices K.owes in
    let old = g.B.Flash.device c.args.bench.now in
    let mid = g.B.Flash.device c.restore.new.self in
    let new = g.B.Flash.device c.mount-end.new.flash in
    rw (c.done.ensures, c.spent.ensures, c.spent-before.ensures) (mount-reports K.owes c.args.map.now K.damage K.contents K.serves old mid new c.requires.map c.restore.ensures c.mount-end.ensures.owes (new.spent - mid.spent) refl)

pub returns-in-Err-PowerLost-clause-boots : goal.returns-in-Err-PowerLost-clause-boots
returns-in-Err-PowerLost-clause-boots g c =
    let K = g.K.Backend in
    let m = meanings K.damage K.contents K.rests K.room g.K.Priced.prices K.owes in
    let old = g.B.Flash.device c.args.bench.now in
    let mid = g.B.Flash.device c.restore.new.self in
    let new = g.B.Flash.device c.mount-end.new.flash in
    rw (c.lost.ensures, c.spent.ensures, c.spent-before.ensures) (mount-reports K.owes c.args.map.now K.damage K.contents K.serves old mid new c.requires.map c.restore.ensures c.mount-end.ensures.owes (new.spent - mid.spent) refl)

pub returns-in-Ok-clause-left : goal.returns-in-Ok-clause-left
returns-in-Ok-clause-left g c =
    let K = g.K.Backend in
    let m = meanings K.damage K.contents K.rests K.room g.K.Priced.prices K.owes in
    let old = g.B.Flash.device c.args.bench.now in
    let mid = g.B.Flash.device c.restore.new.self in
    let new = g.B.Flash.device c.mount-end.new.flash in
    let banks = banks_stay K.mounted_on K.stands m K.serves c.args.map.now old mid new c.requires.map c.restore.ensures c.mount-end.result c.mount-end.ensures.touches c.mount-end.ensures.ends in
    let held = held_now K.mounted_on K.stands m K.serves c.args.map.now old mid new c.requires.map c.restore.ensures c.mount-end.result c.mount-end.ensures.touches c.mount-end.ensures.ends c.in-Ok.mirror c.in-Ok.is (λ s h x is. g.met.K.Backend.stands_reads s h x is) c.mount-end.ensures.trusted in
    let power = on_now K.mounted_on K.stands m K.serves c.args.map.now old mid new c.requires.map c.restore.ensures c.mount-end.result c.mount-end.ensures.touches c.mount-end.ensures.ends c.in-Ok.mirror c.in-Ok.is (λ s h x is. g.met.K.Backend.stands_reads s h x is) c.mount-end.ensures.trusted in
    λ was due most some within owes.
    owes-up K.owes c.args.map.now K.mounted_on K.stands m K.serves new c.in-Ok.mirror (map_kept K.serves c.args.map.now old new banks c.requires.map) held (λ a h x n is. g.met.K.Backend.rests_owe a h x n is) (λ s h x is. g.met.K.Backend.stands_rests s h x is) true due most (held.up power)

pub returns-in-Err-PowerLost-clause-left : goal.returns-in-Err-PowerLost-clause-left
returns-in-Err-PowerLost-clause-left g c =
    let K = g.K.Backend in
    let m = meanings K.damage K.contents K.rests K.room g.K.Priced.prices K.owes in
    let old = g.B.Flash.device c.args.bench.now in
    let mid = g.B.Flash.device c.restore.new.self in
    let new = g.B.Flash.device c.mount-end.new.flash in
    mount-kept K.owes c.args.map.now K.damage K.contents K.serves old mid new c.requires.map c.restore.ensures c.mount-end.ensures.owes c.mount-end.ensures.left c.mount-end.ensures.trusted

pub returns-in-Ok-clause-kept : goal.returns-in-Ok-clause-kept
returns-in-Ok-clause-kept g c =
    let K = g.K.Backend in
    let m = meanings K.damage K.contents K.rests K.room g.K.Priced.prices K.owes in
    let old = g.B.Flash.device c.args.bench.now in
    let mid = g.B.Flash.device c.restore.new.self in
    let new = g.B.Flash.device c.mount-end.new.flash in
    mount-kept K.owes c.args.map.now K.damage K.contents K.serves old mid new c.requires.map c.restore.ensures c.mount-end.ensures.owes c.mount-end.ensures.left c.mount-end.ensures.trusted

pub returns-in-Err-PowerLost-clause-kept : goal.returns-in-Err-PowerLost-clause-kept
returns-in-Err-PowerLost-clause-kept g c =
    let K = g.K.Backend in
    let m = meanings K.damage K.contents K.rests K.room g.K.Priced.prices K.owes in
    let old = g.B.Flash.device c.args.bench.now in
    let mid = g.B.Flash.device c.restore.new.self in
    let new = g.B.Flash.device c.mount-end.new.flash in
    mount-kept K.owes c.args.map.now K.damage K.contents K.serves old mid new c.requires.map c.restore.ensures c.mount-end.ensures.owes c.mount-end.ensures.left c.mount-end.ensures.trusted

pub returns-in-Err-Damaged-clause-kept : goal.returns-in-Err-Damaged-clause-kept
returns-in-Err-Damaged-clause-kept g c =
    let K = g.K.Backend in
    let m = meanings K.damage K.contents K.rests K.room g.K.Priced.prices K.owes in
    let old = g.B.Flash.device c.args.bench.now in
    let mid = g.B.Flash.device c.restore.new.self in
    let new = g.B.Flash.device c.mount-end.new.flash in
    mount-kept K.owes c.args.map.now K.damage K.contents K.serves old mid new c.requires.map c.restore.ensures c.mount-end.ensures.owes c.mount-end.ensures.left c.mount-end.ensures.trusted

pub returns-in-Err-Unfit-clause-kept : goal.returns-in-Err-Unfit-clause-kept
returns-in-Err-Unfit-clause-kept g c =
    let K = g.K.Backend in
    let m = meanings K.damage K.contents K.rests K.room g.K.Priced.prices K.owes in
    let old = g.B.Flash.device c.args.bench.now in
    let mid = g.B.Flash.device c.restore.new.self in
    let new = g.B.Flash.device c.mount-end.new.flash in
    mount-kept K.owes c.args.map.now K.damage K.contents K.serves old mid new c.requires.map c.restore.ensures c.mount-end.ensures.owes c.mount-end.ensures.left c.mount-end.ensures.trusted

pub returns-in-Err-NoMemory-clause-kept : goal.returns-in-Err-NoMemory-clause-kept
returns-in-Err-NoMemory-clause-kept g c =
    let K = g.K.Backend in
    let m = meanings K.damage K.contents K.rests K.room g.K.Priced.prices K.owes in
    let old = g.B.Flash.device c.args.bench.now in
    let mid = g.B.Flash.device c.restore.new.self in
    let new = g.B.Flash.device c.mount-end.new.flash in
    mount-kept K.owes c.args.map.now K.damage K.contents K.serves old mid new c.requires.map c.restore.ensures c.mount-end.ensures.owes c.mount-end.ensures.left c.mount-end.ensures.trusted
