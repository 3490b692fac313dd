-- each end of the call makes its answer
use Rattle.std.specs.Prelude.{Result}
use Rattle.std.proofs.Common.{◌≡◌, ◌<◌, ◌≤◌, ◌-◌, ℕ, List, [], ◌∷◌, Err, ap, subst, sym, refl, ◌∙◌, length, true, false}
use Rattle.std.proofs.lemmas.Bool.{false≢true}
use Rattle.flash_map.specs.Touches.{Touches}
use Rattle.backend_api.specs.Ends.{set_lost}
use Rattle.backend_api.specs.declared.backend.SetFault.{SetFault}
use Rattle.backend_api.specs.declared.backend.SetFault.TheVariants.{NoSpace, TooManyNames, PowerLost}
use Rattle.script_lines.specs.declared.answer.Answer.TheVariants as settings
use Rattle.mirror_session.specs.declared.line.Line.TheVariants.{Set}
use Rattle.mirror_session.specs.declared.answer.Answer.TheVariants.{Plain}
use Rattle.mirror_session.specs.Answer.{done, lost}
use Rattle.mirror_session.specs.Bench.{meanings, moment}
use Rattle.mirror_session.specs.LineDone.{LineDone}
use Rattle.mirror_session.proofs.CommandLines.{held_again, set_done, set_done_read, set_full, set_full_read, set_lost_sound, set_many, set_many_read}
use Rattle.mirror_session.proofs.CommandLines.{set_lost as set_line_lost}
use Rattle.mirror_session.proofs.HeldLemmas.{limit_is}
use Rattle.mirror_session.proofs.SideLemmas.{sides_fit, sides_sound}
use Rattle.mirror_session.proofs.OwesLemmas.{owes-command}
use Rattle.mirror_session.proofs.PlaceLemmas.{map_kept}
use Rattle.mirror_session.proofs.changing.set_setting.Goals as goal

pub set-end-requires-clause-short : goal.set-end-requires-clause-short
set-end-requires-clause-short g c =
    let K = g.K.Backend in
    let m = meanings K.damage K.contents K.rests K.room g.K.Priced.prices K.owes in
    rw (c.as_slice.ensures) (subst (λ (n : ℕ). length c.args.value.now ≤ n) (sym (limit_is K.mounted_on K.stands m K.serves c.args.map.now (g.B.Flash.device c.args.bench.now) c.args.mirror.now c.requires.map c.requires.held)) c.requires.short)

pub returns-in-Ok-clause-done : goal.returns-in-Ok-clause-done
returns-in-Ok-clause-done g c =
    let K = g.K.Backend in
    let m = meanings K.damage K.contents K.rests K.room g.K.Priced.prices K.owes in
    let old = g.B.Flash.device c.args.bench.now in
    let new = g.B.Flash.device c.set-end.new.flash in
    let lawful = g.met.B.Flash.is_lawful c.args.bench.now in
    let lawful_new = g.met.B.Flash.is_lawful c.set-end.new.flash in
    let some : 0 < length c.as_slice.result.now = rw (c.as_slice.ensures) c.requires.some in
    let up = c.set-end.ensures.mirrors (ap (λ (r : Result (Unit {0}) SetFault). set_lost r) c.in-Ok.is) in
    let sound = sides_sound K.mounted_on K.stands m new c.args.mirror.now c.set-end.new.self (λ s h x is. g.met.K.Backend.stands_reads s h x is) c.set-end.ensures.trusted c.set-end.ensures.other up in
    let line = set_done K.mounted_on K.stands m K.serves c.args.map.now old new c.args.mirror.now c.set-end.new.self c.requires.map c.requires.held c.requires.on lawful lawful_new c.args.name.now c.as_slice.result.now some c.set-end.ensures.at_most (new.spent - old.spent) refl c.set-end.result c.set-end.ensures.ends c.in-Ok.field-0 c.in-Ok.is (λ x a fine is served blank. g.met.K.Priced.blank_empty x a fine is served blank) (subst (λ (r : Result (Unit {0}) SetFault). Touches (c.args.mirror.now.trusted.area ∷ c.args.mirror.now.other.area ∷ []) old new (set_lost r)) c.in-Ok.is c.set-end.ensures.touches) sound.0 sound.1 (sides_fit K.mounted_on K.stands m new c.args.mirror.now c.set-end.new.self c.set-end.ensures.trusted c.set-end.ensures.other up) in
    rw (c.done.ensures, c.spent.ensures, c.spent-before.ensures) (subst (λ (v : List ℕ). LineDone m c.args.map.now (Set c.args.name.now v) (done (new.spent - old.spent)) (moment old true) (moment new true)) c.as_slice.ensures line)

pub returns-in-Err-NoSpace-clause-done : goal.returns-in-Err-NoSpace-clause-done
returns-in-Err-NoSpace-clause-done g c =
    let K = g.K.Backend in
    let m = meanings K.damage K.contents K.rests K.room g.K.Priced.prices K.owes in
    let old = g.B.Flash.device c.args.bench.now in
    let new = g.B.Flash.device c.set-end.new.flash in
    let lawful = g.met.B.Flash.is_lawful c.args.bench.now in
    let lawful_new = g.met.B.Flash.is_lawful c.set-end.new.flash in
    let some : 0 < length c.as_slice.result.now = rw (c.as_slice.ensures) c.requires.some in
    let which : c.in-Err-NoSpace.field-0 ≡ NoSpace c.in-Err-NoSpace.need c.in-Err-NoSpace.live = rw c.in-Err-NoSpace.is at c.in-Err-NoSpace.field-0-is in
    let end : c.set-end.result ≡ Err (NoSpace c.in-Err-NoSpace.need c.in-Err-NoSpace.live) = c.in-Err-NoSpace.is ∙ ap (λ (fault : SetFault). Err fault) which in
    let line = set_full K.mounted_on K.stands m K.serves c.args.map.now old new c.args.mirror.now c.set-end.new.self c.requires.map c.requires.held c.requires.on lawful lawful_new c.args.name.now c.as_slice.result.now some c.set-end.ensures.at_most (new.spent - old.spent) refl c.set-end.result c.set-end.ensures.ends c.in-Err-NoSpace.need c.in-Err-NoSpace.live end (subst (λ (r : Result (Unit {0}) SetFault). Touches (c.args.mirror.now.trusted.area ∷ c.args.mirror.now.other.area ∷ []) old new (set_lost r)) end c.set-end.ensures.touches) in
    rw (c.spent.ensures, c.spent-before.ensures) (subst (λ (v : List ℕ). LineDone m c.args.map.now (Set c.args.name.now v) (Plain (settings.NoSpace (new.spent - old.spent) c.in-Err-NoSpace.need c.in-Err-NoSpace.live)) (moment old true) (moment new true)) c.as_slice.ensures line)

pub returns-in-Err-TooManyNames-clause-done : goal.returns-in-Err-TooManyNames-clause-done
returns-in-Err-TooManyNames-clause-done g c =
    let K = g.K.Backend in
    let m = meanings K.damage K.contents K.rests K.room g.K.Priced.prices K.owes in
    let old = g.B.Flash.device c.args.bench.now in
    let new = g.B.Flash.device c.set-end.new.flash in
    let lawful = g.met.B.Flash.is_lawful c.args.bench.now in
    let lawful_new = g.met.B.Flash.is_lawful c.set-end.new.flash in
    let some : 0 < length c.as_slice.result.now = rw (c.as_slice.ensures) c.requires.some in
    let which : c.in-Err-TooManyNames.field-0 ≡ TooManyNames = rw c.in-Err-TooManyNames.is at c.in-Err-TooManyNames.field-0-is in
    let end : c.set-end.result ≡ Err (TooManyNames) = c.in-Err-TooManyNames.is ∙ ap (λ (fault : SetFault). Err fault) which in
    let line = set_many K.mounted_on K.stands m K.serves c.args.map.now old new c.args.mirror.now c.set-end.new.self c.requires.map c.requires.held c.requires.on lawful lawful_new c.args.name.now c.as_slice.result.now some c.set-end.ensures.at_most (new.spent - old.spent) refl c.set-end.result c.set-end.ensures.ends end (subst (λ (r : Result (Unit {0}) SetFault). Touches (c.args.mirror.now.trusted.area ∷ c.args.mirror.now.other.area ∷ []) old new (set_lost r)) end c.set-end.ensures.touches) in
    rw (c.spent.ensures, c.spent-before.ensures) (subst (λ (v : List ℕ). LineDone m c.args.map.now (Set c.args.name.now v) (Plain (settings.TooMany (new.spent - old.spent))) (moment old true) (moment new true)) c.as_slice.ensures line)

pub returns-in-Err-PowerLost-clause-done : goal.returns-in-Err-PowerLost-clause-done
returns-in-Err-PowerLost-clause-done g c =
    let K = g.K.Backend in
    let m = meanings K.damage K.contents K.rests K.room g.K.Priced.prices K.owes in
    let old = g.B.Flash.device c.args.bench.now in
    let new = g.B.Flash.device c.set-end.new.flash in
    let lawful = g.met.B.Flash.is_lawful c.args.bench.now in
    let lawful_new = g.met.B.Flash.is_lawful c.set-end.new.flash in
    let some : 0 < length c.as_slice.result.now = rw (c.as_slice.ensures) c.requires.some in
    let which : c.in-Err-PowerLost.field-0 ≡ PowerLost = rw c.in-Err-PowerLost.is at c.in-Err-PowerLost.field-0-is in
    let end : c.set-end.result ≡ Err (PowerLost) = c.in-Err-PowerLost.is ∙ ap (λ (fault : SetFault). Err fault) which in
    let line = set_line_lost K.mounted_on K.stands m K.serves c.args.map.now old new c.args.mirror.now c.set-end.new.self c.requires.map c.requires.held c.requires.on lawful lawful_new c.args.name.now c.as_slice.result.now some c.set-end.ensures.at_most (new.spent - old.spent) refl c.set-end.result c.set-end.ensures.ends end (subst (λ (r : Result (Unit {0}) SetFault). Touches (c.args.mirror.now.trusted.area ∷ c.args.mirror.now.other.area ∷ []) old new (set_lost r)) end c.set-end.ensures.touches) in
    rw (c.lost.ensures, c.spent.ensures, c.spent-before.ensures) (subst (λ (v : List ℕ). LineDone m c.args.map.now (Set c.args.name.now v) (lost (new.spent - old.spent)) (moment old true) (moment new true)) c.as_slice.ensures line)

pub returns-in-Ok-clause-held : goal.returns-in-Ok-clause-held
returns-in-Ok-clause-held g c =
    let K = g.K.Backend in
    let m = meanings K.damage K.contents K.rests K.room g.K.Priced.prices K.owes in
    let old = g.B.Flash.device c.args.bench.now in
    let new = g.B.Flash.device c.set-end.new.flash in
    let lawful = g.met.B.Flash.is_lawful c.args.bench.now in
    let lawful_new = g.met.B.Flash.is_lawful c.set-end.new.flash in
    let end = c.in-Ok.is in
    let touches = subst (λ (r : Result (Unit {0}) SetFault). Touches (c.args.mirror.now.trusted.area ∷ c.args.mirror.now.other.area ∷ []) old new (set_lost r)) end c.set-end.ensures.touches in
    let up = c.set-end.ensures.mirrors (ap (λ (r : Result (Unit {0}) SetFault). set_lost r) end) in
    let sound = sides_sound K.mounted_on K.stands m new c.args.mirror.now c.set-end.new.self (λ s h x is. g.met.K.Backend.stands_reads s h x is) c.set-end.ensures.trusted c.set-end.ensures.other up in
    let some : 0 < length c.as_slice.result.now = rw (c.as_slice.ensures) c.requires.some in
    held_again K.mounted_on K.stands m K.serves c.args.map.now old new c.args.mirror.now c.set-end.new.self c.requires.map c.requires.held c.requires.on lawful lawful_new false touches c.set-end.ensures.trusted c.set-end.ensures.other sound.0 sound.1 (λ power. up)
    (λ power. set_done_read K.mounted_on K.stands m K.serves c.args.map.now old new c.args.mirror.now c.set-end.new.self c.requires.map c.requires.held c.requires.on lawful lawful_new c.args.name.now c.as_slice.result.now some c.set-end.ensures.at_most (new.spent - old.spent) refl c.set-end.result c.set-end.ensures.ends c.in-Ok.field-0 end (λ x a fine is served blank. g.met.K.Priced.blank_empty x a fine is served blank) touches)

pub returns-in-Err-NoSpace-clause-held : goal.returns-in-Err-NoSpace-clause-held
returns-in-Err-NoSpace-clause-held g c =
    let K = g.K.Backend in
    let m = meanings K.damage K.contents K.rests K.room g.K.Priced.prices K.owes in
    let old = g.B.Flash.device c.args.bench.now in
    let new = g.B.Flash.device c.set-end.new.flash in
    let lawful = g.met.B.Flash.is_lawful c.args.bench.now in
    let lawful_new = g.met.B.Flash.is_lawful c.set-end.new.flash in
    let which : c.in-Err-NoSpace.field-0 ≡ NoSpace c.in-Err-NoSpace.need c.in-Err-NoSpace.live = rw c.in-Err-NoSpace.is at c.in-Err-NoSpace.field-0-is in
    let end : c.set-end.result ≡ Err (NoSpace c.in-Err-NoSpace.need c.in-Err-NoSpace.live) = c.in-Err-NoSpace.is ∙ ap (λ (fault : SetFault). Err fault) which in
    let touches = subst (λ (r : Result (Unit {0}) SetFault). Touches (c.args.mirror.now.trusted.area ∷ c.args.mirror.now.other.area ∷ []) old new (set_lost r)) end c.set-end.ensures.touches in
    let up = c.set-end.ensures.mirrors (ap (λ (r : Result (Unit {0}) SetFault). set_lost r) end) in
    let sound = sides_sound K.mounted_on K.stands m new c.args.mirror.now c.set-end.new.self (λ s h x is. g.met.K.Backend.stands_reads s h x is) c.set-end.ensures.trusted c.set-end.ensures.other up in
    let some : 0 < length c.as_slice.result.now = rw (c.as_slice.ensures) c.requires.some in
    held_again K.mounted_on K.stands m K.serves c.args.map.now old new c.args.mirror.now c.set-end.new.self c.requires.map c.requires.held c.requires.on lawful lawful_new false touches c.set-end.ensures.trusted c.set-end.ensures.other sound.0 sound.1 (λ power. up)
    (λ power. set_full_read K.mounted_on K.stands m K.serves c.args.map.now old new c.args.mirror.now c.set-end.new.self c.requires.map c.requires.held c.requires.on lawful lawful_new c.args.name.now c.as_slice.result.now some c.set-end.ensures.at_most (new.spent - old.spent) refl c.set-end.result c.set-end.ensures.ends c.in-Err-NoSpace.need c.in-Err-NoSpace.live end touches)

pub returns-in-Err-TooManyNames-clause-held : goal.returns-in-Err-TooManyNames-clause-held
returns-in-Err-TooManyNames-clause-held g c =
    let K = g.K.Backend in
    let m = meanings K.damage K.contents K.rests K.room g.K.Priced.prices K.owes in
    let old = g.B.Flash.device c.args.bench.now in
    let new = g.B.Flash.device c.set-end.new.flash in
    let lawful = g.met.B.Flash.is_lawful c.args.bench.now in
    let lawful_new = g.met.B.Flash.is_lawful c.set-end.new.flash in
    let which : c.in-Err-TooManyNames.field-0 ≡ TooManyNames = rw c.in-Err-TooManyNames.is at c.in-Err-TooManyNames.field-0-is in
    let end : c.set-end.result ≡ Err (TooManyNames) = c.in-Err-TooManyNames.is ∙ ap (λ (fault : SetFault). Err fault) which in
    let touches = subst (λ (r : Result (Unit {0}) SetFault). Touches (c.args.mirror.now.trusted.area ∷ c.args.mirror.now.other.area ∷ []) old new (set_lost r)) end c.set-end.ensures.touches in
    let up = c.set-end.ensures.mirrors (ap (λ (r : Result (Unit {0}) SetFault). set_lost r) end) in
    let sound = sides_sound K.mounted_on K.stands m new c.args.mirror.now c.set-end.new.self (λ s h x is. g.met.K.Backend.stands_reads s h x is) c.set-end.ensures.trusted c.set-end.ensures.other up in
    let some : 0 < length c.as_slice.result.now = rw (c.as_slice.ensures) c.requires.some in
    held_again K.mounted_on K.stands m K.serves c.args.map.now old new c.args.mirror.now c.set-end.new.self c.requires.map c.requires.held c.requires.on lawful lawful_new false touches c.set-end.ensures.trusted c.set-end.ensures.other sound.0 sound.1 (λ power. up)
    (λ power. set_many_read K.mounted_on K.stands m K.serves c.args.map.now old new c.args.mirror.now c.set-end.new.self c.requires.map c.requires.held c.requires.on lawful lawful_new c.args.name.now c.as_slice.result.now some c.set-end.ensures.at_most (new.spent - old.spent) refl c.set-end.result c.set-end.ensures.ends end touches)

pub returns-in-Err-PowerLost-clause-held : goal.returns-in-Err-PowerLost-clause-held
returns-in-Err-PowerLost-clause-held g c =
    let K = g.K.Backend in
    let m = meanings K.damage K.contents K.rests K.room g.K.Priced.prices K.owes in
    let old = g.B.Flash.device c.args.bench.now in
    let new = g.B.Flash.device c.set-end.new.flash in
    let lawful = g.met.B.Flash.is_lawful c.args.bench.now in
    let lawful_new = g.met.B.Flash.is_lawful c.set-end.new.flash in
    let some : 0 < length c.as_slice.result.now = rw (c.as_slice.ensures) c.requires.some in
    let which : c.in-Err-PowerLost.field-0 ≡ PowerLost = rw c.in-Err-PowerLost.is at c.in-Err-PowerLost.field-0-is in
    let end : c.set-end.result ≡ Err (PowerLost) = c.in-Err-PowerLost.is ∙ ap (λ (fault : SetFault). Err fault) which in
    let touches = subst (λ (r : Result (Unit {0}) SetFault). Touches (c.args.mirror.now.trusted.area ∷ c.args.mirror.now.other.area ∷ []) old new (set_lost r)) end c.set-end.ensures.touches in
    let sound = set_lost_sound K.mounted_on K.stands m K.serves c.args.map.now old new c.args.mirror.now c.set-end.new.self c.requires.map c.requires.held c.requires.on lawful lawful_new c.args.name.now c.as_slice.result.now some c.set-end.ensures.at_most (new.spent - old.spent) refl c.set-end.result c.set-end.ensures.ends end in
    held_again K.mounted_on K.stands m K.serves c.args.map.now old new c.args.mirror.now c.set-end.new.self c.requires.map c.requires.held c.requires.on lawful lawful_new true touches c.set-end.ensures.trusted c.set-end.ensures.other sound.0 sound.1 (λ power. absurd (false≢true (sym (touches.ends c.requires.on).off ∙ power))) (λ power. absurd (false≢true (sym (touches.ends c.requires.on).off ∙ power)))

pub returns-in-Ok-clause-left : goal.returns-in-Ok-clause-left
returns-in-Ok-clause-left g c =
    let K = g.K.Backend in
    let m = meanings K.damage K.contents K.rests K.room g.K.Priced.prices K.owes in
    let old = g.B.Flash.device c.args.bench.now in
    let new = g.B.Flash.device c.set-end.new.flash in
    let banks = c.set-end.ensures.touches.banks in
    owes-command K.owes c.args.map.now K.mounted_on K.stands m K.serves new c.set-end.new.self (map_kept K.serves c.args.map.now old new banks c.requires.map) (returns-in-Ok-clause-held g c) (λ a h x n is. g.met.K.Backend.rests_owe a h x n is) (λ s h x is. g.met.K.Backend.stands_rests s h x is)
    K.boot_units (λ a h x few most less is. g.met.K.Backend.owes_more a h x few most less is) old banks c.args.mirror.now.trusted c.args.mirror.now.other c.set-end.ensures.trusted c.set-end.ensures.other (set_lost c.set-end.result) c.set-end.ensures.mirrors c.set-end.ensures.owes

pub returns-in-Err-NoSpace-clause-left : goal.returns-in-Err-NoSpace-clause-left
returns-in-Err-NoSpace-clause-left g c =
    let K = g.K.Backend in
    let m = meanings K.damage K.contents K.rests K.room g.K.Priced.prices K.owes in
    let old = g.B.Flash.device c.args.bench.now in
    let new = g.B.Flash.device c.set-end.new.flash in
    let banks = c.set-end.ensures.touches.banks in
    owes-command K.owes c.args.map.now K.mounted_on K.stands m K.serves new c.set-end.new.self (map_kept K.serves c.args.map.now old new banks c.requires.map) (returns-in-Err-NoSpace-clause-held g c) (λ a h x n is. g.met.K.Backend.rests_owe a h x n is) (λ s h x is. g.met.K.Backend.stands_rests s h x is)
    K.boot_units (λ a h x few most less is. g.met.K.Backend.owes_more a h x few most less is) old banks c.args.mirror.now.trusted c.args.mirror.now.other c.set-end.ensures.trusted c.set-end.ensures.other (set_lost c.set-end.result) c.set-end.ensures.mirrors c.set-end.ensures.owes

pub returns-in-Err-TooManyNames-clause-left : goal.returns-in-Err-TooManyNames-clause-left
returns-in-Err-TooManyNames-clause-left g c =
    let K = g.K.Backend in
    let m = meanings K.damage K.contents K.rests K.room g.K.Priced.prices K.owes in
    let old = g.B.Flash.device c.args.bench.now in
    let new = g.B.Flash.device c.set-end.new.flash in
    let banks = c.set-end.ensures.touches.banks in
    owes-command K.owes c.args.map.now K.mounted_on K.stands m K.serves new c.set-end.new.self (map_kept K.serves c.args.map.now old new banks c.requires.map) (returns-in-Err-TooManyNames-clause-held g c) (λ a h x n is. g.met.K.Backend.rests_owe a h x n is) (λ s h x is. g.met.K.Backend.stands_rests s h x is)
    K.boot_units (λ a h x few most less is. g.met.K.Backend.owes_more a h x few most less is) old banks c.args.mirror.now.trusted c.args.mirror.now.other c.set-end.ensures.trusted c.set-end.ensures.other (set_lost c.set-end.result) c.set-end.ensures.mirrors c.set-end.ensures.owes

pub returns-in-Err-PowerLost-clause-left : goal.returns-in-Err-PowerLost-clause-left
returns-in-Err-PowerLost-clause-left g c =
    let K = g.K.Backend in
    let m = meanings K.damage K.contents K.rests K.room g.K.Priced.prices K.owes in
    let old = g.B.Flash.device c.args.bench.now in
    let new = g.B.Flash.device c.set-end.new.flash in
    let banks = c.set-end.ensures.touches.banks in
    owes-command K.owes c.args.map.now K.mounted_on K.stands m K.serves new c.set-end.new.self (map_kept K.serves c.args.map.now old new banks c.requires.map) (returns-in-Err-PowerLost-clause-held g c) (λ a h x n is. g.met.K.Backend.rests_owe a h x n is) (λ s h x is. g.met.K.Backend.stands_rests s h x is)
    K.boot_units (λ a h x few most less is. g.met.K.Backend.owes_more a h x few most less is) old banks c.args.mirror.now.trusted c.args.mirror.now.other c.set-end.ensures.trusted c.set-end.ensures.other (set_lost c.set-end.result) c.set-end.ensures.mirrors c.set-end.ensures.owes
