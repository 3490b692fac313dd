use Rattle.session.proofs.OwesLemmas.{local-owes, owes-same}
use Rattle.session.proofs.ReadyLemmas.{ready_rests}
use Rattle.session.specs.Owing.{map_boot}
use Rattle.std.proofs.Common.{◌≡◌, ◌∙◌, ℕ, Bool, List, Option, Some, None, Err, true, refl, sym, subst}
use Rattle.std.proofs.lemmas.Bool.{false≢true}
use Rattle.std.proofs.lemmas.Option.{slice_get_within}
use Rattle.flash_sim.specs.Device.{Device}
use Rattle.flash_map.specs.declared.area.Area.{Area}
use Rattle.flash_map.specs.declared.area.Geometry.{Geometry}
use Rattle.migrator.specs.declared.selecting.Selector.{Selector}
use Rattle.settings_core.specs.declared.settings.Settings.{Settings}
use Rattle.session.specs.OnMap.{IsReady, damage_in, meanings}
use Rattle.session.specs.declared.fault.SessionFault.TheVariants.{NoMemory}
use Rattle.session.proofs.MountLemmas.{at_active}
use Rattle.session.proofs.ReadyLemmas.{outside_local, ready_beside, ready_some, stops_unchanged, undamaged_beside}
use Rattle.session.proofs.session.Session.on_active.Goals as goal

-- what stands at one place
same_there : (o : Option Area) (a b : Area) → o ≡ Some a → o ≡ Some b → a ≡ b
same_there o a b one two = cc

-- with power on there are settings
never_none : {K : Type 0} (mounted_on : K → Area) (stands : K → Geometry → List (List ℕ) → Type 0) (runs : K → Bool) (areas : List Area) (d : Device) (selector : Option Selector) (active : ℕ) (o : Option (Settings K))
    → o ≡ None → d.is_on ≡ true → IsReady mounted_on stands runs areas d selector active o → ⊥
never_none {K} mounted_on stands runs areas d selector active o is powered ready =
    false≢true (sym (subst (λ (x : Option (Settings K)). IsReady mounted_on stands runs areas d selector active x) is ready) ∙ powered)

pub returns-in-Ok-clause-ready : goal.returns-in-Ok-clause-ready
returns-in-Ok-clause-ready g c = λ powered.
    let was = ready_some g.K.Backend.mounted_on g.K.Backend.stands g.K.Backend.runs c.args.map.now (g.B.Flash.device c.args.bench.now) c.args.self.now.selector c.args.self.now.active c.args.self.now.settings c.in-Some.settings c.in-Some.is c.requires.on c.requires.ready in
    let outside = outside_local (meanings g.K.Backend.contents g.K.Backend.room g.K.Backend.chance g.K.Backend.tears) c.args.map.now c.args.line.now c.in-Ok.answer (g.B.Flash.device c.args.bench.now) (g.B.Flash.device c.with_power.new.bench) _ _ _ _ c.requires.local c.in-Ok.ensures.done in
    ready_beside g.K.Backend.serves g.K.Backend.mounted_on g.K.Backend.stands g.K.Backend.runs g.K.Backend.damage c.args.map.now (g.B.Flash.device c.args.bench.now) (g.B.Flash.device c.with_power.new.bench) c.requires.map (g.met.B.Flash.is_lawful c.args.bench.now) (g.met.B.Flash.is_lawful c.with_power.new.bench) c.in-Ok.ensures.done.done.keeps.banks outside c.args.self.now.selector c.args.self.now.active c.area_at-area.result c.in-Some.settings c.with_power.new.settings was c.area_at-area.ensures c.in-Ok.ensures.stays.mounted (c.in-Ok.ensures.stays.up powered) (c.in-Ok.ensures.stays.standing powered)

pub area_at-area-requires : goal.area_at-area-requires
area_at-area-requires g c = slice_get_within c.args.map.now c.args.self.now.active _ (ready_some g.K.Backend.mounted_on g.K.Backend.stands g.K.Backend.runs c.args.map.now (g.B.Flash.device c.args.bench.now) c.args.self.now.selector c.args.self.now.active c.args.self.now.settings c.in-Some.settings c.in-Some.is c.requires.on c.requires.ready).there

pub with_power-requires : goal.with_power-requires
with_power-requires g c = record {
  line = c.requires.line;
  local = c.requires.local;
  map = c.requires.map;
  here = let was = ready_some g.K.Backend.mounted_on g.K.Backend.stands g.K.Backend.runs c.args.map.now (g.B.Flash.device c.args.bench.now) c.args.self.now.selector c.args.self.now.active c.args.self.now.settings c.in-Some.settings c.in-Some.is c.requires.on c.requires.ready in
      record {
        powered = c.requires.on;
        active = at_active c.args.map.now (g.B.Flash.device c.args.bench.now) c.args.self.now.active c.area_at-area.result was.is_active c.area_at-area.ensures;
        mounted = same_there _ (g.K.Backend.mounted_on c.in-Some.settings.backend) c.area_at-area.result was.there c.area_at-area.ensures;
        up = was.up;
        standing = was.standing;
      };
  handlers = c.requires.handlers;
}

pub returns-in-Ok-clause-done : goal.returns-in-Ok-clause-done
returns-in-Ok-clause-done g c = c.in-Ok.ensures.done

pub unreachable-requires : goal.unreachable-requires
unreachable-requires g c = never_none g.K.Backend.mounted_on g.K.Backend.stands g.K.Backend.runs c.args.map.now (g.B.Flash.device c.args.bench.now) c.args.self.now.selector c.args.self.now.active c.args.self.now.settings c.in-None.is c.requires.on c.requires.ready

pub returns-in-Ok-clause-handlers : goal.returns-in-Ok-clause-handlers
returns-in-Ok-clause-handlers g c = c.in-Ok.ensures.handlers

pub returns-in-Err-clause-handlers : goal.returns-in-Err-clause-handlers
returns-in-Err-clause-handlers g c = c.in-Err.ensures.handlers

pub returns-in-Err-clause-stops : goal.returns-in-Err-clause-stops
returns-in-Err-clause-stops g c = stops_unchanged (meanings g.K.Backend.contents g.K.Backend.room g.K.Backend.chance g.K.Backend.tears) g.K.Backend.damage c.args.map.now c.args.line.now (g.B.Flash.device c.args.bench.now) (g.B.Flash.device c.with_power.new.bench) (Err NoMemory) c.requires.local c.requires.on refl c.in-Err.ensures.stops.takes c.in-Err.ensures.stops.same

pub returns-in-Ok-clause-moves : goal.returns-in-Ok-clause-moves
returns-in-Ok-clause-moves g c = c.in-Ok.ensures.moves

pub returns-in-Ok-clause-leaves : goal.returns-in-Ok-clause-leaves
returns-in-Ok-clause-leaves g c =
    let areas : List Area = c.args.map.now in
    let d : Device = g.B.Flash.device c.args.bench.now in
    let e : Device = g.B.Flash.device c.with_power.new.bench in
    let selector = c.args.self.now.selector in
    let active = c.args.self.now.active in
    let was = ready_some g.K.Backend.mounted_on g.K.Backend.stands g.K.Backend.runs areas d selector active c.args.self.now.settings c.in-Some.settings c.in-Some.is c.requires.on c.requires.ready in
    let outside = outside_local (meanings g.K.Backend.contents g.K.Backend.room g.K.Backend.chance g.K.Backend.tears) areas c.args.line.now c.in-Ok.answer d e _ _ _ _ c.requires.local c.in-Ok.ensures.done in
    record {
      undamaged = undamaged_beside g.K.Backend.serves g.K.Backend.mounted_on g.K.Backend.stands g.K.Backend.runs g.K.Backend.damage areas d e c.requires.map (g.met.B.Flash.is_lawful c.args.bench.now) (g.met.B.Flash.is_lawful c.with_power.new.bench) c.in-Ok.ensures.done.done.keeps.banks outside c.area_at-area.result (at_active areas d active c.area_at-area.result was.is_active c.area_at-area.ensures) c.in-Ok.ensures.sound;
      owed =
          local-owes g.K.Backend.owes areas g.K.Backend.rests g.met.K.Backend.rests_owe g.K.Backend.boot_units g.K.Backend.serves d e c.area_at-area.result c.requires.map (g.met.B.Flash.is_lawful c.args.bench.now) (g.met.B.Flash.is_lawful c.with_power.new.bench)
          c.in-Ok.ensures.done.done.keeps.banks outside (at_active areas d active c.area_at-area.result was.is_active c.area_at-area.ensures)
          (ready_rests g.K.Backend.mounted_on g.K.Backend.stands g.K.Backend.runs g.K.Backend.rests g.met.K.Backend.stands_rests areas d selector active c.args.self.now.settings c.requires.ready c.requires.on) c.with_power.ensures.left
          (ready_rests g.K.Backend.mounted_on g.K.Backend.stands g.K.Backend.runs g.K.Backend.rests g.met.K.Backend.stands_rests areas e selector active (Some c.with_power.new.settings) (returns-in-Ok-clause-ready g c));
    }

pub returns-in-Err-clause-leaves : goal.returns-in-Err-clause-leaves
returns-in-Err-clause-leaves g c = record {
  undamaged =
      λ none. subst (λ (x : Device). damage_in g.K.Backend.damage c.args.map.now x ≡ None) (sym c.in-Err.ensures.stops.same) none;
  owed =
      let d : Device = g.B.Flash.device c.args.bench.now in
      owes-same g.K.Backend.owes c.args.map.now (map_boot g.K.Backend.boot_units d.banks c.args.map.now) d (g.B.Flash.device c.with_power.new.bench) c.in-Err.ensures.stops.same;
}
