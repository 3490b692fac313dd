-- each line by its own call
use Rattle.std.proofs.lemmas.Bool.{false≢true}
use Rattle.std.proofs.Common.{◌≡◌, ℕ, refl, ap, subst, sym, ◌∙◌}
use Rattle.std.specs.Prelude.{IfOk}
use Rattle.flash_map.specs.declared.area.Area.{Area}
use Rattle.flash_map.specs.Area.{geometry_of, sectors_of, value_limit}
use Rattle.flash_map.specs.Lawful.{IsLawfulFor}
use Rattle.flash_map.specs.On.{on}
use Rattle.backend_api.specs.Map.{IsSettings}
use Rattle.handlers.specs.Registry.{registered}
use Rattle.script_lines.specs.declared.line.Line.{Line}
use Rattle.script_lines.specs.declared.line.Line.TheVariants.{Register, Load, Save, RunSet, RunGet}
use Rattle.session_table.specs.Bench.{state_of}
use Rattle.session_table.specs.State.{State}
use Rattle.session_table.specs.Step.{Registers, Loads, Offers, Asks}
use Rattle.session.specs.Handling.{MovesHandlers, beside}
use Rattle.session.specs.OnMap.{DoneWithin, active_area, kinds, limit_of, meanings, moment, takes_memory, IsServed}
use Rattle.session.proofs.ActiveArea.{active-lawful, active-limit}
use Rattle.session.proofs.MovesLemmas.{moves_as, moves_commit, moves_load, moves_offer, moves_one}
use Rattle.session.proofs.ReadyLemmas.{never_changed}
use Rattle.session.proofs.HandlerLemmas.{if-ok, registers, loads, commits, offers, asks}
use Rattle.session.proofs.handling.with_handlers.Goals as goal

pub load_settings-requires : goal.load_settings-requires
load_settings-requires g c = record {
  lawful =
      let d = g.B.Flash.device c.args.bench.now in
      subst (λ (a : Area). IsLawfulFor d.banks a) (sym (c.requires.here.mounted ∙ c.requires.here.active)) (active-lawful g.K.Backend.serves c.args.map.now d c.requires.map);
  up = c.requires.here.up;
  stands = c.requires.here.standing;
}

pub returns-in-Register : goal.returns-in-Register
returns-in-Register g c = record {
  done =
      let d = g.B.Flash.device c.args.bench.now in
      let hs = registered (λ b. (goal.Handler-dyn g (b.vtable, b.value)).state b.value) c.args.registry.now in
      let after = registered (λ b. (goal.Handler-dyn g (b.vtable, b.value)).state b.value) c.register_handler.new.registry in
      let pool = kinds (λ b. (goal.Handler-dyn g (b.vtable, b.value)).state b.value) c.args.pool.now.items in
      let left = kinds (λ b. (goal.Handler-dyn g (b.vtable, b.value)).state b.value) c.register_handler.new.pool.items in
      subst (λ (line : Line). IfOk c.register_handler.result (λ answer. DoneWithin (meanings g.K.Backend.contents g.K.Backend.room g.K.Backend.chance g.K.Backend.tears) c.args.map.now line answer (moment d hs pool) (moment d after left))) (sym c.in-Register.is)
      (if-ok (λ answer. (s : State) → Registers c.in-Register.subtree c.in-Register.kind answer (beside s hs pool) (beside s after left))
      (λ answer. DoneWithin (meanings g.K.Backend.contents g.K.Backend.room g.K.Backend.chance g.K.Backend.tears) c.args.map.now (Register c.in-Register.subtree c.in-Register.kind) answer (moment d hs pool) (moment d after left)) c.register_handler.result
      (λ answer is. registers (meanings g.K.Backend.contents g.K.Backend.room g.K.Backend.chance g.K.Backend.tears) c.args.map.now d c.requires.here.powered hs after pool left c.in-Register.subtree c.in-Register.kind answer is) c.register_handler.ensures.done);
  handlers = record { registry = c.register_handler.ensures.lawful (limit_of c.args.map.now) c.requires.handlers.registry; pool = c.register_handler.ensures.pool };
  left = λ dark. absurd (false≢true (sym dark ∙ c.requires.here.powered));
  stays = record {
    mounted = c.requires.here.mounted;
    up = λ powered. c.requires.here.up;
    standing = λ powered. c.requires.here.standing;
  };
  stops = never_changed c.args.line.now (g.B.Flash.device c.args.bench.now) c.register_handler.result (ap takes_memory c.in-Register.is);
  sound = λ none. none;
  moves = subst (λ (line : Line). IfOk c.register_handler.result (λ answer. MovesHandlers (λ b. (goal.Handler-dyn g (b.vtable, b.value)).state b.value) line answer c.args.pool.now.items c.register_handler.new.pool.items c.args.registry.now c.register_handler.new.registry)) (sym c.in-Register.is) c.register_handler.ensures.moves;
}

pub returns-in-Load : goal.returns-in-Load
returns-in-Load g c =
    let d = g.B.Flash.device c.args.bench.now in
    record {
      done =
          let hs = registered (λ b. (goal.Handler-dyn g (b.vtable, b.value)).state b.value) c.args.registry.now in
          let after = registered (λ b. (goal.Handler-dyn g (b.vtable, b.value)).state b.value) c.load_settings.new.registry in
          let pool = kinds (λ b. (goal.Handler-dyn g (b.vtable, b.value)).state b.value) c.args.pool.now.items in
          let at = g.K.Backend.mounted_on c.args.settings.now.backend in
          subst (λ (line : Line). IfOk c.load_settings.result (λ answer. DoneWithin (meanings g.K.Backend.contents g.K.Backend.room g.K.Backend.chance g.K.Backend.tears) c.args.map.now line answer (moment d hs pool) (moment d after pool))) (sym c.in-Load.is)
          (if-ok (λ answer. (s : State) → s.settings ≡ on g.K.Backend.contents d at → Loads c.in-Load.subtree answer (beside s hs s.pool) (beside s after s.pool))
          (λ answer. DoneWithin (meanings g.K.Backend.contents g.K.Backend.room g.K.Backend.chance g.K.Backend.tears) c.args.map.now (Load c.in-Load.subtree) answer (moment d hs pool) (moment d after pool)) c.load_settings.result
          (λ answer is. loads (meanings g.K.Backend.contents g.K.Backend.room g.K.Backend.chance g.K.Backend.tears) c.args.map.now d c.requires.here.powered hs after pool c.in-Load.subtree answer
          (is (state_of (meanings g.K.Backend.contents g.K.Backend.room g.K.Backend.chance g.K.Backend.tears) c.args.map.now (moment d hs pool)) (ap (λ (a : Area). on g.K.Backend.contents d a) (sym (c.requires.here.mounted ∙ c.requires.here.active))))) c.load_settings.ensures.done);
      handlers =
          let areas = c.args.map.now in
          let state = c.args.settings.now.backend in
          let at = g.K.Backend.mounted_on state in
          let place : at ≡ active_area areas d = c.requires.here.mounted ∙ c.requires.here.active in
          let lawful = subst (λ (a : Area). IsLawfulFor d.banks a) (sym place) (active-lawful g.K.Backend.serves areas d c.requires.map) in
          let is = g.met.K.Backend.reads_settings d at (g.met.B.Flash.is_lawful c.args.bench.now) lawful
          (g.met.K.Backend.stands_serves state (geometry_of d at) (sectors_of d at) c.requires.here.standing) (g.met.K.Backend.stands_reads state (geometry_of d at) (sectors_of d at) c.requires.here.standing) in
          record {
            registry =
                c.load_settings.ensures.lawful (limit_of areas)
                (subst (λ (limit : ℕ). IsSettings limit (on g.K.Backend.contents d at)) (ap value_limit place ∙ active-limit g.K.Backend.serves areas d c.requires.map) is) c.requires.handlers.registry;
            pool = c.requires.handlers.pool;
          };
      left = λ dark. absurd (false≢true (sym dark ∙ c.requires.here.powered));
      stays = record {
        mounted = c.requires.here.mounted;
        up = λ powered. c.requires.here.up;
        standing = λ powered. c.requires.here.standing;
      };
      stops = never_changed c.args.line.now (g.B.Flash.device c.args.bench.now) c.load_settings.result (ap takes_memory c.in-Load.is);
      sound = λ none. none;
      moves = moves_load (λ b. (goal.Handler-dyn g (b.vtable, b.value)).state b.value) c.args.pool.now.items c.args.registry.now c.load_settings.new.registry c.args.line.now c.in-Load.subtree (on g.K.Backend.contents d (g.K.Backend.mounted_on c.args.settings.now.backend))
          (registered (λ b. (goal.Handler-dyn g (b.vtable, b.value)).state b.value) c.args.registry.now) (registered (λ b. (goal.Handler-dyn g (b.vtable, b.value)).state b.value) c.load_settings.new.registry) c.load_settings.result c.in-Load.is c.load_settings.ensures.done;
    }

pub returns-in-Save : goal.returns-in-Save
returns-in-Save g c = record {
  done =
      let old = g.B.Flash.device c.args.bench.now in
      let new = g.B.Flash.device c.save_settings.new.bench in
      let hs = registered (λ b. (goal.Handler-dyn g (b.vtable, b.value)).state b.value) c.args.registry.now in
      let pool = kinds (λ b. (goal.Handler-dyn g (b.vtable, b.value)).state b.value) c.args.pool.now.items in
      subst (λ (line : Line). DoneWithin (meanings g.K.Backend.contents g.K.Backend.room g.K.Backend.chance g.K.Backend.tears) c.args.map.now line c.save_settings.result (moment old hs pool) (moment new hs pool)) (sym c.in-Save.is) (c.save_settings.ensures.done pool);
  handlers = c.requires.handlers;
  left = c.save_settings.ensures.left;
  stays = c.save_settings.ensures.stays;
  sound = λ none. c.save_settings.ensures.sound;
  stops = tt;
  moves = moves_one (λ b. (goal.Handler-dyn g (b.vtable, b.value)).state b.value) c.args.pool.now.items c.args.registry.now c.args.registry.now c.args.line.now (Save c.in-Save.subtree) c.save_settings.result c.in-Save.is (refl, refl);
}

pub returns-in-Commit : goal.returns-in-Commit
returns-in-Commit g c = record {
  done =
      let d = g.B.Flash.device c.args.bench.now in
      let hs = registered (λ b. (goal.Handler-dyn g (b.vtable, b.value)).state b.value) c.args.registry.now in
      let after = registered (λ b. (goal.Handler-dyn g (b.vtable, b.value)).state b.value) c.commit_handlers.new.registry in
      let pool = kinds (λ b. (goal.Handler-dyn g (b.vtable, b.value)).state b.value) c.args.pool.now.items in
      subst (λ (line : Line). DoneWithin (meanings g.K.Backend.contents g.K.Backend.room g.K.Backend.chance g.K.Backend.tears) c.args.map.now line c.commit_handlers.result (moment d hs pool) (moment d after pool)) (sym c.in-Commit.is)
      (commits (meanings g.K.Backend.contents g.K.Backend.room g.K.Backend.chance g.K.Backend.tears) c.args.map.now d c.requires.here.powered hs after pool c.commit_handlers.result c.commit_handlers.ensures.done);
  handlers = record { registry = c.commit_handlers.ensures.lawful (limit_of c.args.map.now) c.requires.handlers.registry; pool = c.requires.handlers.pool };
  left = λ dark. absurd (false≢true (sym dark ∙ c.requires.here.powered));
  stays = record {
    mounted = c.requires.here.mounted;
    up = λ powered. c.requires.here.up;
    standing = λ powered. c.requires.here.standing;
  };
  sound = λ none. none;
  stops = tt;
  moves = moves_commit (λ b. (goal.Handler-dyn g (b.vtable, b.value)).state b.value) c.args.pool.now.items c.args.registry.now c.commit_handlers.new.registry c.args.line.now
      (registered (λ b. (goal.Handler-dyn g (b.vtable, b.value)).state b.value) c.args.registry.now) (registered (λ b. (goal.Handler-dyn g (b.vtable, b.value)).state b.value) c.commit_handlers.new.registry) c.commit_handlers.result c.in-Commit.is c.commit_handlers.ensures.done;
}

pub returns-in-RunSet : goal.returns-in-RunSet
returns-in-RunSet g c = record {
  done =
      let d = g.B.Flash.device c.args.bench.now in
      let hs = registered (λ b. (goal.Handler-dyn g (b.vtable, b.value)).state b.value) c.args.registry.now in
      let after = registered (λ b. (goal.Handler-dyn g (b.vtable, b.value)).state b.value) c.offer_value.new.registry in
      let pool = kinds (λ b. (goal.Handler-dyn g (b.vtable, b.value)).state b.value) c.args.pool.now.items in
      subst (λ (line : Line). IfOk c.offer_value.result (λ answer. DoneWithin (meanings g.K.Backend.contents g.K.Backend.room g.K.Backend.chance g.K.Backend.tears) c.args.map.now line answer (moment d hs pool) (moment d after pool))) (sym c.in-RunSet.is)
      (if-ok (λ answer. (s : State) → Offers c.in-RunSet.name c.in-RunSet.value answer (beside s hs s.pool) (beside s after s.pool))
      (λ answer. DoneWithin (meanings g.K.Backend.contents g.K.Backend.room g.K.Backend.chance g.K.Backend.tears) c.args.map.now (RunSet c.in-RunSet.name c.in-RunSet.value) answer (moment d hs pool) (moment d after pool)) c.offer_value.result
      (λ answer is. offers (meanings g.K.Backend.contents g.K.Backend.room g.K.Backend.chance g.K.Backend.tears) c.args.map.now d c.requires.here.powered hs after pool c.in-RunSet.name c.in-RunSet.value answer is) c.offer_value.ensures.done);
  handlers = record { registry = c.offer_value.ensures.lawful (limit_of c.args.map.now) (subst (λ (line : Line). IsServed (limit_of c.args.map.now) line) c.in-RunSet.is c.requires.line) c.requires.handlers.registry; pool = c.requires.handlers.pool };
  left = λ dark. absurd (false≢true (sym dark ∙ c.requires.here.powered));
  stays = record {
    mounted = c.requires.here.mounted;
    up = λ powered. c.requires.here.up;
    standing = λ powered. c.requires.here.standing;
  };
  stops = never_changed c.args.line.now (g.B.Flash.device c.args.bench.now) c.offer_value.result (ap takes_memory c.in-RunSet.is);
  sound = λ none. none;
  moves = moves_offer (λ b. (goal.Handler-dyn g (b.vtable, b.value)).state b.value) c.args.pool.now.items c.args.registry.now c.offer_value.new.registry c.args.line.now c.in-RunSet.name c.in-RunSet.value
      (registered (λ b. (goal.Handler-dyn g (b.vtable, b.value)).state b.value) c.args.registry.now) (registered (λ b. (goal.Handler-dyn g (b.vtable, b.value)).state b.value) c.offer_value.new.registry) c.offer_value.result c.in-RunSet.is c.offer_value.ensures.done;
}

pub returns-in-RunGet : goal.returns-in-RunGet
returns-in-RunGet g c = record {
  done =
      let d = g.B.Flash.device c.args.bench.now in
      let hs = registered (λ b. (goal.Handler-dyn g (b.vtable, b.value)).state b.value) c.args.registry.now in
      let pool = kinds (λ b. (goal.Handler-dyn g (b.vtable, b.value)).state b.value) c.args.pool.now.items in
      subst (λ (line : Line). IfOk c.ask_handler.result (λ answer. DoneWithin (meanings g.K.Backend.contents g.K.Backend.room g.K.Backend.chance g.K.Backend.tears) c.args.map.now line answer (moment d hs pool) (moment d hs pool))) (sym c.in-RunGet.is)
      (if-ok (λ answer. (s : State) → Asks c.in-RunGet.name answer (beside s hs s.pool) (beside s hs s.pool))
      (λ answer. DoneWithin (meanings g.K.Backend.contents g.K.Backend.room g.K.Backend.chance g.K.Backend.tears) c.args.map.now (RunGet c.in-RunGet.name) answer (moment d hs pool) (moment d hs pool)) c.ask_handler.result
      (λ answer is. asks (meanings g.K.Backend.contents g.K.Backend.room g.K.Backend.chance g.K.Backend.tears) c.args.map.now d c.requires.here.powered hs pool c.in-RunGet.name answer is) c.ask_handler.ensures);
  handlers = c.requires.handlers;
  left = λ dark. absurd (false≢true (sym dark ∙ c.requires.here.powered));
  stays = record {
    mounted = c.requires.here.mounted;
    up = λ powered. c.requires.here.up;
    standing = λ powered. c.requires.here.standing;
  };
  stops = never_changed c.args.line.now (g.B.Flash.device c.args.bench.now) c.ask_handler.result (ap takes_memory c.in-RunGet.is);
  sound = λ none. none;
  moves = moves_as (λ b. (goal.Handler-dyn g (b.vtable, b.value)).state b.value) c.args.pool.now.items c.args.registry.now c.args.registry.now c.args.line.now (RunGet c.in-RunGet.name) c.ask_handler.result c.in-RunGet.is (λ answer. (refl, refl));
}

pub register_handler-requires : goal.register_handler-requires
register_handler-requires g c = record { pool = c.requires.handlers.pool }

pub save_settings-requires : goal.save_settings-requires
save_settings-requires g c = record {
  map = c.requires.map;
  here = c.requires.here;
  registry = c.requires.handlers.registry;
}
