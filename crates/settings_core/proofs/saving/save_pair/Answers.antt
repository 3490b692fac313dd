use Rattle.std.proofs.Common.{Bool, ◌∙◌, Ok, ap, sym, refl, true≢false, arith}
use Rattle.settings_core.specs.Carrying.{put_count}
use Rattle.settings_core.specs.Saving.{more_pairs}
use Rattle.settings_core.proofs.SequenceLemmas.{lost_same, put_refused, put_stored, one_more, none_more}
use Rattle.settings_core.proofs.saving.save_pair.Goals as goal

pub returns-in-Err-clause-carries : goal.returns-in-Err-clause-carries
returns-in-Err-clause-carries g c =
    put_refused g.K.Backend.mounted_on g.K.Backend.stands g.K.Backend.runs g.K.Backend.damage g.K.Backend.room g.K.Backend.contents g.K.Backend.chance g.K.Backend.tears Bool (Unit {0}) (g.K.Backend.mounted_on c.args.backend.now) c.put.new.backend
    (g.F.Flash.device c.args.flash.now) (g.F.Flash.device c.put.new.flash) c.joined-name.result _ c.args.value.now c.args.pairs.now c.in-Err.fault
    c.joined-name.ensures c.in-Err.ensures.area c.in-Err.ensures.touches c.in-Err.ensures.ends c.in-Err.ensures.at_most c.in-Err.ensures.sound c.in-Err.ensures.stands c.in-Err.ensures.down

pub joined-name-requires : goal.joined-name-requires
joined-name-requires g c = c.requires.name

pub put-requires : goal.put-requires
put-requires g c = record {
  lawful = c.requires.lawful;
  stands = c.requires.stands;
  some = c.requires.value.0;
  short = c.requires.value.1;
}

pub returns-then-is_new-clause-carries : goal.returns-then-is_new-clause-carries
returns-then-is_new-clause-carries g c =
    put_stored g.K.Backend.mounted_on g.K.Backend.stands g.K.Backend.runs g.K.Backend.damage g.K.Backend.room g.K.Backend.contents g.K.Backend.chance g.K.Backend.tears Bool (Unit {0}) c.in-Ok.is_new tt (g.K.Backend.mounted_on c.args.backend.now) c.put.new.backend
    (g.F.Flash.device c.args.flash.now) (g.F.Flash.device c.put.new.flash) c.joined-name.result _ c.args.value.now c.args.pairs.now c.saturating_add.result (put_count (Ok c.in-Ok.is_new))
    c.joined-name.ensures c.in-Ok.ensures.area c.in-Ok.ensures.touches c.in-Ok.ensures.ends c.in-Ok.ensures.at_most c.in-Ok.ensures.sound (c.in-Ok.ensures.stands refl)
    (c.saturating_add.ensures ∙ one_more c.args.pairs.now (omega arith) ∙ ap (λ (b : Bool). more_pairs c.args.pairs.now (put_count (Ok b))) (sym c.if-is_new.true))

pub returns-else-is_new-clause-carries : goal.returns-else-is_new-clause-carries
returns-else-is_new-clause-carries g c =
    put_stored g.K.Backend.mounted_on g.K.Backend.stands g.K.Backend.runs g.K.Backend.damage g.K.Backend.room g.K.Backend.contents g.K.Backend.chance g.K.Backend.tears Bool (Unit {0}) c.in-Ok.is_new tt (g.K.Backend.mounted_on c.args.backend.now) c.put.new.backend
    (g.F.Flash.device c.args.flash.now) (g.F.Flash.device c.put.new.flash) c.joined-name.result _ c.args.value.now c.args.pairs.now c.args.pairs.now (put_count (Ok c.in-Ok.is_new))
    c.joined-name.ensures c.in-Ok.ensures.area c.in-Ok.ensures.touches c.in-Ok.ensures.ends c.in-Ok.ensures.at_most c.in-Ok.ensures.sound (c.in-Ok.ensures.stands refl)
    (none_more c.args.pairs.now ∙ ap (λ (b : Bool). more_pairs c.args.pairs.now (put_count (Ok b))) (sym c.if-is_new.false))

pub returns-in-Err-clause-owes : goal.returns-in-Err-clause-owes
returns-in-Err-clause-owes g c lost = c.in-Err.ensures.owes (lost_same Bool (Unit {0}) c.in-Err.fault ∙ lost)

pub returns-then-is_new-clause-owes : goal.returns-then-is_new-clause-owes
returns-then-is_new-clause-owes g c lost = absurd (true≢false (sym lost))

pub returns-else-is_new-clause-owes : goal.returns-else-is_new-clause-owes
returns-else-is_new-clause-owes g c lost = absurd (true≢false (sym lost))
