use Rattle.std.proofs.Common.{◌+◌, List, Ok, Err, ap, sym, subst, ◌∙◌, refl, arith, drop, true≢false}
use Rattle.std.specs.Prelude.{option_map}
use Rattle.flash_sim.specs.Device.{Device}
use Rattle.flash_sim.specs.declared.flash.Bank.{Bank}
use Rattle.flash_map.specs.Lawful.{IsLawfulFor}
use Rattle.flash_map.specs.Area.{geometry_of, sectors_of, value_limit}
use Rattle.backend_api.specs.Commands.{Command, puts_of}
use Rattle.backend_api.specs.Map.{IsValue}
use Rattle.handlers.specs.Held.{seen}
use Rattle.settings_core.specs.Saving.{pairs_of, CarriesOn}
use Rattle.settings_core.proofs.SaveLemmas.{length_of_pairs, pair_there, pair_lawful, puts_more, puts_rest, puts_all}
use Rattle.settings_core.proofs.SequenceLemmas.{no_carries, carries_on, stops_more}
use Rattle.settings_core.proofs.saving.save_handler.Goals as goal

pub loop-rest-init : goal.loop-rest-init
loop-rest-init g c =
    let area = g.K.Backend.mounted_on c.args.backend.now in
    let d = g.F.Flash.device c.args.flash.now in
    no_carries tt c.args.backend.now d c.args.pairs.now refl (g.met.K.Backend.stands_reads c.args.backend.now (geometry_of d area) (sectors_of d area) c.requires.stands) c.requires.stands

pub save_pair-requires : goal.save_pair-requires
save_pair-requires g c =
    let area = g.K.Backend.mounted_on c.args.backend.now in
    let e : Device = g.F.Flash.device c.loop-rest.flash in
    let there = pair_lawful (value_limit area) c.args.subtree.now _ c.loop-rest.i c.in-Some.rest.now c.in-Some.value.now c.requires.settings (sym c.export_at.ensures.0 ∙ ap (option_map seen) c.in-Some.is) in
    record {
      lawful = subst (λ a. IsLawfulFor e.banks a) (sym c.loop-rest.invariant.area_is) (subst (λ (banks : List Bank). IsLawfulFor banks area) (sym c.loop-rest.invariant.touches.banks) c.requires.lawful);
      stands = c.loop-rest.invariant.goes_on refl;
      name = there.0;
      value = subst (λ a. IsValue (value_limit a) c.in-Some.value.now) (sym c.loop-rest.invariant.area_is) there.1;
    }

pub overflow_add-i : goal.overflow_add-i
overflow_add-i g c =
    let held = ((goal.Handler-dyn g c.args.handler.now).state c.args.handler.now.1).held in
    let there = pair_there c.args.subtree.now held c.loop-rest.i c.in-Some.rest.now c.in-Some.value.now (sym c.export_at.ensures.0 ∙ ap (option_map seen) c.in-Some.is) in
    omega (arith, there.0, length_of_pairs c.args.subtree.now held, c.export_at.ensures.1)

pub loop-rest-smaller : goal.loop-rest-smaller
loop-rest-smaller g c =
    let there = pair_there c.args.subtree.now _ c.loop-rest.i c.in-Some.rest.now c.in-Some.value.now (sym c.export_at.ensures.0 ∙ ap (option_map seen) c.in-Some.is) in
    omega (arith, there.0)

pub loop-rest-preserved : goal.loop-rest-preserved
loop-rest-preserved g c =
    let held = ((goal.Handler-dyn g c.args.handler.now).state c.args.handler.now.1).held in
    subst (λ (l : List Command). CarriesOn {T = Unit {0}} g.K.Backend.mounted_on g.K.Backend.stands g.K.Backend.runs g.K.Backend.damage g.K.Backend.room g.K.Backend.contents g.K.Backend.chance g.K.Backend.tears (g.K.Backend.mounted_on c.args.backend.now)
    c.save_pair.new.backend (g.F.Flash.device c.args.flash.now) (g.F.Flash.device c.save_pair.new.flash) l c.args.pairs.now c.save_pair.new.pairs (Ok tt))
    (puts_more c.args.subtree.now held c.loop-rest.i c.in-Some.rest.now c.in-Some.value.now (sym c.export_at.ensures.0 ∙ ap (option_map seen) c.in-Some.is))
    (carries_on c.loop-rest.invariant c.in-Ok.ensures.carries)

pub returns-in-Err-clause-carries : goal.returns-in-Err-clause-carries
returns-in-Err-clause-carries g c =
    let held = ((goal.Handler-dyn g c.args.handler.now).state c.args.handler.now.1).held in
    subst (λ (l : List Command). CarriesOn {T = Unit {0}} g.K.Backend.mounted_on g.K.Backend.stands g.K.Backend.runs g.K.Backend.damage g.K.Backend.room g.K.Backend.contents g.K.Backend.chance g.K.Backend.tears (g.K.Backend.mounted_on c.args.backend.now)
    c.save_pair.new.backend (g.F.Flash.device c.args.flash.now) (g.F.Flash.device c.save_pair.new.flash) l c.args.pairs.now c.save_pair.new.pairs (Err c.in-Err.refusal))
    (puts_rest c.args.subtree.now held c.loop-rest.i c.in-Some.rest.now c.in-Some.value.now (sym c.export_at.ensures.0 ∙ ap (option_map seen) c.in-Some.is))
    (stops_more (puts_of (drop (c.loop-rest.i + 1) (pairs_of c.args.subtree.now held))) (carries_on c.loop-rest.invariant c.in-Err.ensures.carries))

pub returns-clause-carries : goal.returns-clause-carries
returns-clause-carries g c =
    let held = ((goal.Handler-dyn g c.args.handler.now).state c.args.handler.now.1).held in
    subst (λ (l : List Command). CarriesOn {T = Unit {0}} g.K.Backend.mounted_on g.K.Backend.stands g.K.Backend.runs g.K.Backend.damage g.K.Backend.room g.K.Backend.contents g.K.Backend.chance g.K.Backend.tears (g.K.Backend.mounted_on c.args.backend.now)
    c.loop-rest.backend (g.F.Flash.device c.args.flash.now) (g.F.Flash.device c.loop-rest.flash) l c.args.pairs.now c.loop-rest.pairs (Ok tt))
    (puts_all c.args.subtree.now held c.loop-rest.i (sym c.export_at.ensures.0 ∙ ap (option_map seen) c.in_default.is))
    c.loop-rest.invariant

pub returns-in-Err-clause-owes : goal.returns-in-Err-clause-owes
returns-in-Err-clause-owes g c = c.in-Err.ensures.owes

pub returns-clause-owes : goal.returns-clause-owes
returns-clause-owes g c lost = absurd (true≢false (sym lost))
