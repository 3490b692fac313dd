use Rattle.std.proofs.Common.{◌≡◌, ◌+◌, ◌<◌, ◌≤◌, List, Ok, Err, length, drop, option_map, refl, sym, subst, arith, true≢false}
use Rattle.std.proofs.lemmas.List.{length-map}
use Rattle.flash_sim.specs.Device.{Device}
use Rattle.flash_sim.specs.declared.flash.Bank.{Bank}
use Rattle.flash_map.specs.Lawful.{IsLawfulFor}
use Rattle.flash_map.specs.Area.{geometry_of, sectors_of, value_limit}
use Rattle.backend_api.specs.Commands.{Command, puts_of}
use Rattle.handlers.specs.Registry.{registered}
use Rattle.settings_core.specs.Saving.{exported, AreLawful, CarriesOn}
use Rattle.settings_core.proofs.SaveLemmas.{handlers_more, handlers_rest, handlers_all}
use Rattle.settings_core.proofs.SequenceLemmas.{no_carries, carries_on, stops_more}
use Rattle.settings_core.proofs.saving.save_all.Goals as goal

pub loop-i-init : goal.loop-i-init
loop-i-init g c =
    let area = g.K.Backend.mounted_on c.args.backend.now in
    let d = g.F.Flash.device c.args.flash.now in
    no_carries tt c.args.backend.now d c.args.pairs.now refl (g.met.K.Backend.stands_reads c.args.backend.now (geometry_of d area) (sectors_of d area) c.requires.stands) c.requires.stands

pub save_at-requires : goal.save_at-requires
save_at-requires g c = record {
  settings = let handlers = registered (λ b. (goal.Handler-dyn g (b.vtable, b.value)).state b.value) c.args.registry.now in
      subst (λ a. AreLawful (value_limit a) handlers) (sym c.loop-i.invariant.area_is) c.requires.settings;
  lawful = let e : Device = g.F.Flash.device c.loop-i.flash in
      subst (λ a. IsLawfulFor e.banks a) (sym c.loop-i.invariant.area_is)
      (subst (λ (banks : List Bank). IsLawfulFor banks (g.K.Backend.mounted_on c.args.backend.now)) (sym c.loop-i.invariant.touches.banks) c.requires.lawful);
  stands = c.loop-i.invariant.goes_on refl;
  within = subst (λ n. c.loop-i.i < n) c.len.ensures c.loop-i-test.true;
}

pub loop-i-preserved : goal.loop-i-preserved
loop-i-preserved g c =
    let handlers = registered (λ b. (goal.Handler-dyn g (b.vtable, b.value)).state b.value) c.args.registry.now in
    let lt : c.loop-i.i < length handlers = subst (λ n. c.loop-i.i < n) c.len.ensures c.loop-i-test.true in
    subst (λ (l : List Command). CarriesOn {T = Unit {0}} g.K.Backend.mounted_on g.K.Backend.stands g.K.Backend.runs g.K.Backend.damage g.K.Backend.room g.K.Backend.contents g.K.Backend.chance g.K.Backend.tears (g.K.Backend.mounted_on c.args.backend.now)
    c.save_at.new.backend (g.F.Flash.device c.args.flash.now) (g.F.Flash.device c.save_at.new.flash) l c.args.pairs.now c.save_at.new.pairs (Ok tt))
    (handlers_more (option_map (λ name. name.now) c.args.subtree) handlers c.loop-i.i lt)
    (carries_on c.loop-i.invariant c.in-Ok.ensures.carries)

pub returns-in-Err-clause-carries : goal.returns-in-Err-clause-carries
returns-in-Err-clause-carries g c =
    let handlers = registered (λ b. (goal.Handler-dyn g (b.vtable, b.value)).state b.value) c.args.registry.now in
    let key = option_map (λ name. name.now) c.args.subtree in
    let lt : c.loop-i.i < length handlers = subst (λ n. c.loop-i.i < n) c.len.ensures c.loop-i-test.true in
    subst (λ (l : List Command). CarriesOn {T = Unit {0}} g.K.Backend.mounted_on g.K.Backend.stands g.K.Backend.runs g.K.Backend.damage g.K.Backend.room g.K.Backend.contents g.K.Backend.chance g.K.Backend.tears (g.K.Backend.mounted_on c.args.backend.now)
    c.save_at.new.backend (g.F.Flash.device c.args.flash.now) (g.F.Flash.device c.save_at.new.flash) l c.args.pairs.now c.save_at.new.pairs (Err c.in-Err.fault))
    (handlers_rest key handlers c.loop-i.i lt)
    (stops_more (puts_of (exported key (drop (c.loop-i.i + 1) handlers))) (carries_on c.loop-i.invariant c.in-Err.ensures.carries))

pub returns-clause-carries : goal.returns-clause-carries
returns-clause-carries g c =
    let handlers = registered (λ b. (goal.Handler-dyn g (b.vtable, b.value)).state b.value) c.args.registry.now in
    let key = option_map (λ name. name.now) c.args.subtree in
    let past : length handlers ≤ c.loop-i.i = subst (λ n. n ≤ c.loop-i.i) c.len.ensures c.loop-i-test.false in
    subst (λ (l : List Command). CarriesOn {T = Unit {0}} g.K.Backend.mounted_on g.K.Backend.stands g.K.Backend.runs g.K.Backend.damage g.K.Backend.room g.K.Backend.contents g.K.Backend.chance g.K.Backend.tears (g.K.Backend.mounted_on c.args.backend.now)
    c.loop-i.backend (g.F.Flash.device c.args.flash.now) (g.F.Flash.device c.loop-i.flash) l c.args.pairs.now c.loop-i.pairs (Ok tt))
    (handlers_all key handlers c.loop-i.i past)
    c.loop-i.invariant

pub loop-i-smaller : goal.loop-i-smaller
loop-i-smaller g c =
    let handlers = registered (λ b. (goal.Handler-dyn g (b.vtable, b.value)).state b.value) c.args.registry.now in
    let rows : length handlers ≡ length c.args.registry.now.rows.items = length-map c.args.registry.now.rows.items _ in
    let lt : c.loop-i.i < length handlers = subst (λ n. c.loop-i.i < n) c.len.ensures c.loop-i-test.true in
    omega (arith, lt, rows)

pub overflow_add-i : goal.overflow_add-i
overflow_add-i g c = omega (arith, c.loop-i-test.true, c.len.type_inv)

pub returns-in-Err-clause-owes : goal.returns-in-Err-clause-owes
returns-in-Err-clause-owes g c = c.in-Err.ensures.owes

pub returns-clause-owes : goal.returns-clause-owes
returns-clause-owes g c lost = absurd (true≢false (sym lost))
