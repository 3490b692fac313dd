-- each end of the call makes its answer
use Rattle.std.specs.Prelude.{Result, is_err}
use Rattle.std.proofs.Common.{◌-◌, true, false, [], ◌∷◌, ap, subst, sym, refl, ◌∙◌}
use Rattle.std.proofs.lemmas.Bool.{false≢true}
use Rattle.flash_sim.specs.declared.flash.PowerLost.{PowerLost}
use Rattle.flash_map.specs.Touches.{Touches}
use Rattle.mirror_session.specs.Bench.{meanings}
use Rattle.mirror_session.proofs.CommandLines.{delete_done, delete_done_read, delete_lost, delete_lost_sound, held_again}
use Rattle.mirror_session.proofs.SideLemmas.{sides_fit, sides_sound}
use Rattle.mirror_session.proofs.OwesLemmas.{owes-command}
use Rattle.mirror_session.proofs.PlaceLemmas.{map_kept}
use Rattle.mirror_session.proofs.changing.delete_setting.Goals as goal

pub returns-in-Ok-clause-done : goal.returns-in-Ok-clause-done
returns-in-Ok-clause-done g c =
    let K = g.K.Backend in
    let m = meanings K.damage K.contents K.rests K.room g.K.Priced.prices K.owes in
    let old = g.B.Flash.device c.args.bench.now in
    let new = g.B.Flash.device c.delete-end.new.flash in
    let lawful = g.met.B.Flash.is_lawful c.args.bench.now in
    let lawful_new = g.met.B.Flash.is_lawful c.delete-end.new.flash in
    let up = c.delete-end.ensures.mirrors (ap (λ (r : Result (Unit {0}) PowerLost). is_err r) c.in-Ok.is) in
    let sound = sides_sound K.mounted_on K.stands m new c.args.mirror.now c.delete-end.new.self (λ s h x is. g.met.K.Backend.stands_reads s h x is) c.delete-end.ensures.trusted c.delete-end.ensures.other up in
    let line = delete_done K.mounted_on K.stands m K.serves c.args.map.now old new c.args.mirror.now c.delete-end.new.self c.requires.map c.requires.held c.requires.on lawful lawful_new c.args.name.now c.delete-end.ensures.at_most (new.spent - old.spent) refl c.delete-end.result c.delete-end.ensures.ends c.in-Ok.field-0 c.in-Ok.is (λ x a fine is served blank. g.met.K.Priced.blank_empty x a fine is served blank) c.delete-end.ensures.written (subst (λ (r : Result (Unit {0}) PowerLost). Touches (c.args.mirror.now.trusted.area ∷ c.args.mirror.now.other.area ∷ []) old new (is_err r)) c.in-Ok.is c.delete-end.ensures.touches) sound.0 sound.1 (sides_fit K.mounted_on K.stands m new c.args.mirror.now c.delete-end.new.self c.delete-end.ensures.trusted c.delete-end.ensures.other up) in
    rw (c.done.ensures, c.spent.ensures, c.spent-before.ensures) line

pub returns-in-Err-clause-done : goal.returns-in-Err-clause-done
returns-in-Err-clause-done g c =
    let K = g.K.Backend in
    let m = meanings K.damage K.contents K.rests K.room g.K.Priced.prices K.owes in
    let old = g.B.Flash.device c.args.bench.now in
    let new = g.B.Flash.device c.delete-end.new.flash in
    let lawful = g.met.B.Flash.is_lawful c.args.bench.now in
    let lawful_new = g.met.B.Flash.is_lawful c.delete-end.new.flash in
    let line = delete_lost K.mounted_on K.stands m K.serves c.args.map.now old new c.args.mirror.now c.delete-end.new.self c.requires.map c.requires.held c.requires.on lawful lawful_new c.args.name.now c.delete-end.ensures.at_most (new.spent - old.spent) refl c.delete-end.result c.delete-end.ensures.ends c.in-Err.field-0 c.in-Err.is (subst (λ (r : Result (Unit {0}) PowerLost). Touches (c.args.mirror.now.trusted.area ∷ c.args.mirror.now.other.area ∷ []) old new (is_err r)) c.in-Err.is c.delete-end.ensures.touches) in
    rw (c.lost.ensures, c.spent.ensures, c.spent-before.ensures) line

pub returns-in-Ok-clause-held : goal.returns-in-Ok-clause-held
returns-in-Ok-clause-held g c =
    let K = g.K.Backend in
    let m = meanings K.damage K.contents K.rests K.room g.K.Priced.prices K.owes in
    let old = g.B.Flash.device c.args.bench.now in
    let new = g.B.Flash.device c.delete-end.new.flash in
    let lawful = g.met.B.Flash.is_lawful c.args.bench.now in
    let lawful_new = g.met.B.Flash.is_lawful c.delete-end.new.flash in
    let touches = (subst (λ (r : Result (Unit {0}) PowerLost). Touches (c.args.mirror.now.trusted.area ∷ c.args.mirror.now.other.area ∷ []) old new (is_err r)) c.in-Ok.is c.delete-end.ensures.touches) in
    let up = c.delete-end.ensures.mirrors (ap (λ (r : Result (Unit {0}) PowerLost). is_err r) c.in-Ok.is) in
    let sound = sides_sound K.mounted_on K.stands m new c.args.mirror.now c.delete-end.new.self (λ s h x is. g.met.K.Backend.stands_reads s h x is) c.delete-end.ensures.trusted c.delete-end.ensures.other up in
    held_again K.mounted_on K.stands m K.serves c.args.map.now old new c.args.mirror.now c.delete-end.new.self c.requires.map c.requires.held c.requires.on lawful lawful_new false touches c.delete-end.ensures.trusted c.delete-end.ensures.other sound.0 sound.1 (λ power. up)
    (λ power. delete_done_read K.mounted_on K.stands m K.serves c.args.map.now old new c.args.mirror.now c.delete-end.new.self c.requires.map c.requires.held c.requires.on lawful lawful_new c.args.name.now c.delete-end.ensures.at_most (new.spent - old.spent) refl c.delete-end.result c.delete-end.ensures.ends c.in-Ok.field-0 c.in-Ok.is (λ x a fine is served blank. g.met.K.Priced.blank_empty x a fine is served blank) c.delete-end.ensures.written touches)

pub returns-in-Err-clause-held : goal.returns-in-Err-clause-held
returns-in-Err-clause-held g c =
    let K = g.K.Backend in
    let m = meanings K.damage K.contents K.rests K.room g.K.Priced.prices K.owes in
    let old = g.B.Flash.device c.args.bench.now in
    let new = g.B.Flash.device c.delete-end.new.flash in
    let lawful = g.met.B.Flash.is_lawful c.args.bench.now in
    let lawful_new = g.met.B.Flash.is_lawful c.delete-end.new.flash in
    let touches = (subst (λ (r : Result (Unit {0}) PowerLost). Touches (c.args.mirror.now.trusted.area ∷ c.args.mirror.now.other.area ∷ []) old new (is_err r)) c.in-Err.is c.delete-end.ensures.touches) in
    let sound = delete_lost_sound K.mounted_on K.stands m K.serves c.args.map.now old new c.args.mirror.now c.delete-end.new.self c.requires.map c.requires.held c.requires.on lawful lawful_new c.args.name.now c.delete-end.ensures.at_most (new.spent - old.spent) refl c.delete-end.result c.delete-end.ensures.ends c.in-Err.field-0 c.in-Err.is in
    held_again K.mounted_on K.stands m K.serves c.args.map.now old new c.args.mirror.now c.delete-end.new.self c.requires.map c.requires.held c.requires.on lawful lawful_new true touches c.delete-end.ensures.trusted c.delete-end.ensures.other sound.0 sound.1 (λ power. absurd (false≢true (sym (touches.ends c.requires.on).off ∙ power))) (λ power. absurd (false≢true (sym (touches.ends c.requires.on).off ∙ power)))

pub returns-in-Ok-clause-left : goal.returns-in-Ok-clause-left
returns-in-Ok-clause-left g c =
    let K = g.K.Backend in
    let m = meanings K.damage K.contents K.rests K.room g.K.Priced.prices K.owes in
    let old = g.B.Flash.device c.args.bench.now in
    let new = g.B.Flash.device c.delete-end.new.flash in
    let banks = c.delete-end.ensures.touches.banks in
    owes-command K.owes c.args.map.now K.mounted_on K.stands m K.serves new c.delete-end.new.self (map_kept K.serves c.args.map.now old new banks c.requires.map) (returns-in-Ok-clause-held g c) (λ a h x n is. g.met.K.Backend.rests_owe a h x n is) (λ s h x is. g.met.K.Backend.stands_rests s h x is)
    K.boot_units (λ a h x few most less is. g.met.K.Backend.owes_more a h x few most less is) old banks c.args.mirror.now.trusted c.args.mirror.now.other c.delete-end.ensures.trusted c.delete-end.ensures.other (is_err c.delete-end.result) c.delete-end.ensures.mirrors c.delete-end.ensures.owes

pub returns-in-Err-clause-left : goal.returns-in-Err-clause-left
returns-in-Err-clause-left g c =
    let K = g.K.Backend in
    let m = meanings K.damage K.contents K.rests K.room g.K.Priced.prices K.owes in
    let old = g.B.Flash.device c.args.bench.now in
    let new = g.B.Flash.device c.delete-end.new.flash in
    let banks = c.delete-end.ensures.touches.banks in
    owes-command K.owes c.args.map.now K.mounted_on K.stands m K.serves new c.delete-end.new.self (map_kept K.serves c.args.map.now old new banks c.requires.map) (returns-in-Err-clause-held g c) (λ a h x n is. g.met.K.Backend.rests_owe a h x n is) (λ s h x is. g.met.K.Backend.stands_rests s h x is)
    K.boot_units (λ a h x few most less is. g.met.K.Backend.owes_more a h x few most less is) old banks c.args.mirror.now.trusted c.args.mirror.now.other c.delete-end.ensures.trusted c.delete-end.ensures.other (is_err c.delete-end.result) c.delete-end.ensures.mirrors c.delete-end.ensures.owes
