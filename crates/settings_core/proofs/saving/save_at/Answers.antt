use Rattle.std.proofs.Common.{List, Ok, get_or, option_map, refl, sym, ap, subst, ◌∙◌, true≢false}
use Rattle.flash_map.specs.Area.{geometry_of, sectors_of}
use Rattle.backend_api.specs.Commands.{Command, puts_of}
use Rattle.handlers.specs.Registry.{registered, nobody}
use Rattle.settings_core.specs.Saving.{CarriesOn}
use Rattle.settings_core.proofs.SaveLemmas.{other_part}
use Rattle.settings_core.proofs.SequenceLemmas.{no_carries}
use Rattle.settings_core.proofs.saving.save_at.Goals as goal

pub returns-then-not-is_place_under-clause-carries : goal.returns-then-not-is_place_under-clause-carries
returns-then-not-is_place_under-clause-carries g c =
    let area = g.K.Backend.mounted_on c.args.backend.now in
    let d = g.F.Flash.device c.args.flash.now in
    let handlers = registered (λ b. (goal.Handler-dyn g (b.vtable, b.value)).state b.value) c.args.registry.now in
    subst (λ (l : List Command). CarriesOn {T = Unit {0}} g.K.Backend.mounted_on g.K.Backend.stands g.K.Backend.runs g.K.Backend.damage g.K.Backend.room g.K.Backend.contents g.K.Backend.chance g.K.Backend.tears area
    c.args.backend.now d d l c.args.pairs.now c.args.pairs.now (Ok tt))
    (sym (ap puts_of (other_part (option_map (λ name. name.now) c.args.subtree) (get_or handlers c.args.i nobody) (sym c.is_place_under.ensures ∙ c.if-not-is_place_under.true))))
    (no_carries tt c.args.backend.now d c.args.pairs.now refl (g.met.K.Backend.stands_reads c.args.backend.now (geometry_of d area) (sectors_of d area) c.requires.stands) c.requires.stands)

pub returns-then-not-is_place_under-clause-owes : goal.returns-then-not-is_place_under-clause-owes
returns-then-not-is_place_under-clause-owes g c lost = absurd (true≢false (sym lost))

pub is_place_under-requires : goal.is_place_under-requires
is_place_under-requires g c = c.requires.within

pub subtree_at-own-requires : goal.subtree_at-own-requires
subtree_at-own-requires g c = c.requires.within

pub handler_at-handler-requires : goal.handler_at-handler-requires
handler_at-handler-requires g c = c.requires.within

pub save_handler-requires-clause-lawful : goal.save_handler-requires-clause-lawful
save_handler-requires-clause-lawful g c = c.requires.lawful

pub save_handler-requires-clause-stands : goal.save_handler-requires-clause-stands
save_handler-requires-clause-stands g c = c.requires.stands

pub returns-clause-owes : goal.returns-clause-owes
returns-clause-owes g c = c.save_handler.ensures.owes
