-- each line is carried out by the function for it
use Rattle.std.proofs.lemmas.Bool.{false≢true}
use Rattle.std.proofs.Common.{◌≡◌, ◌≤◌, ◌∙◌, ℕ, length, refl, ap, subst, sym}
use Rattle.flash_map.specs.declared.area.Area.{Area}
use Rattle.flash_map.specs.Area.{value_limit}
use Rattle.flash_map.specs.Lawful.{IsLawfulFor}
use Rattle.script_lines.specs.declared.line.Line.{Line}
use Rattle.script_lines.specs.declared.line.Line.TheVariants.{Set, Get, Del, Direct, Names}
use Rattle.session.specs.OnMap.{IsServed, limit_of, meanings, takes_memory}
use Rattle.session.proofs.ActiveArea.{active-lawful, active-limit}
use Rattle.session.proofs.MovesLemmas.{moves_as, moves_one}
use Rattle.session.proofs.ReadyLemmas.{beside_done, beside_if, never_changed}
use Rattle.session.proofs.session.with_power.Goals as goal

pub returns-in-Set : goal.returns-in-Set
returns-in-Set g c = record {
  done = beside_done (meanings g.K.Backend.contents g.K.Backend.room g.K.Backend.chance g.K.Backend.tears) c.args.map.now c.args.line.now _ (g.B.Flash.device c.args.bench.now) (g.B.Flash.device c.set_setting.new.bench) _ _ c.in-Set.is c.set_setting.result c.set_setting.ensures.done;
  left = c.set_setting.ensures.left;
  stays = c.set_setting.ensures.stays;
  handlers = c.requires.handlers;
  sound = λ none. c.set_setting.ensures.sound;
  stops = tt;
  moves = moves_one (λ b. (goal.Handler-dyn g (b.vtable, b.value)).state b.value) c.args.pool.now.items c.args.registry.now c.args.registry.now c.args.line.now (Set c.in-Set.name c.in-Set.value) c.set_setting.result c.in-Set.is (refl, refl);
}

pub returns-in-Del : goal.returns-in-Del
returns-in-Del g c = record {
  done = beside_done (meanings g.K.Backend.contents g.K.Backend.room g.K.Backend.chance g.K.Backend.tears) c.args.map.now c.args.line.now _ (g.B.Flash.device c.args.bench.now) (g.B.Flash.device c.delete_setting.new.bench) _ _ c.in-Del.is c.delete_setting.result c.delete_setting.ensures.done;
  left = c.delete_setting.ensures.left;
  stays = c.delete_setting.ensures.stays;
  handlers = c.requires.handlers;
  sound = λ none. c.delete_setting.ensures.sound;
  stops = tt;
  moves = moves_one (λ b. (goal.Handler-dyn g (b.vtable, b.value)).state b.value) c.args.pool.now.items c.args.registry.now c.args.registry.now c.args.line.now (Del c.in-Del.name) c.delete_setting.result c.in-Del.is (refl, refl);
}

pub returns-in-Get : goal.returns-in-Get
returns-in-Get g c = record {
  done = beside_if (meanings g.K.Backend.contents g.K.Backend.room g.K.Backend.chance g.K.Backend.tears) c.args.map.now c.args.line.now _ (g.B.Flash.device c.args.bench.now) (g.B.Flash.device c.args.bench.now) _ _ c.in-Get.is c.get_setting.result c.get_setting.ensures;
  left = λ dark. absurd (false≢true (sym dark ∙ c.requires.here.powered));
  stays = record {
    mounted = c.requires.here.mounted;
    up = λ powered. c.requires.here.up;
    standing = λ powered. c.requires.here.standing;
  };
  stops = never_changed c.args.line.now (g.B.Flash.device c.args.bench.now) c.get_setting.result (ap takes_memory c.in-Get.is);
  handlers = c.requires.handlers;
  sound = λ none. none;
  moves = moves_as (λ b. (goal.Handler-dyn g (b.vtable, b.value)).state b.value) c.args.pool.now.items c.args.registry.now c.args.registry.now c.args.line.now (Get c.in-Get.name) c.get_setting.result c.in-Get.is (λ answer. (refl, refl));
}

pub returns-in-Direct : goal.returns-in-Direct
returns-in-Direct g c = record {
  done = beside_if (meanings g.K.Backend.contents g.K.Backend.room g.K.Backend.chance g.K.Backend.tears) c.args.map.now c.args.line.now _ (g.B.Flash.device c.args.bench.now) (g.B.Flash.device c.args.bench.now) _ _ c.in-Direct.is c.report_settings.result c.report_settings.ensures;
  left = λ dark. absurd (false≢true (sym dark ∙ c.requires.here.powered));
  stays = record {
    mounted = c.requires.here.mounted;
    up = λ powered. c.requires.here.up;
    standing = λ powered. c.requires.here.standing;
  };
  stops = never_changed c.args.line.now (g.B.Flash.device c.args.bench.now) c.report_settings.result (ap takes_memory c.in-Direct.is);
  handlers = c.requires.handlers;
  sound = λ none. none;
  moves = moves_as (λ b. (goal.Handler-dyn g (b.vtable, b.value)).state b.value) c.args.pool.now.items c.args.registry.now c.args.registry.now c.args.line.now (Direct c.in-Direct.subtree) c.report_settings.result c.in-Direct.is (λ answer. (refl, refl));
}

pub returns-in-Names : goal.returns-in-Names
returns-in-Names g c = record {
  done = beside_if (meanings g.K.Backend.contents g.K.Backend.room g.K.Backend.chance g.K.Backend.tears) c.args.map.now c.args.line.now _ (g.B.Flash.device c.args.bench.now) (g.B.Flash.device c.args.bench.now) _ _ c.in-Names.is c.report_all.result c.report_all.ensures;
  left = λ dark. absurd (false≢true (sym dark ∙ c.requires.here.powered));
  stays = record {
    mounted = c.requires.here.mounted;
    up = λ powered. c.requires.here.up;
    standing = λ powered. c.requires.here.standing;
  };
  stops = never_changed c.args.line.now (g.B.Flash.device c.args.bench.now) c.report_all.result (ap takes_memory c.in-Names.is);
  handlers = c.requires.handlers;
  sound = λ none. none;
  moves = moves_as (λ b. (goal.Handler-dyn g (b.vtable, b.value)).state b.value) c.args.pool.now.items c.args.registry.now c.args.registry.now c.args.line.now Names c.report_all.result c.in-Names.is (λ answer. (refl, refl));
}

pub set_setting-requires : goal.set_setting-requires
set_setting-requires g c = record {
  map = c.requires.map;
  here = c.requires.here;
  short = let limit : value_limit c.args.area.now ≡ limit_of c.args.map.now = ap value_limit c.requires.here.active ∙ active-limit g.K.Backend.serves c.args.map.now (g.B.Flash.device c.args.bench.now) c.requires.map in
      subst (λ (most : ℕ). length c.in-Set.value ≤ most) (sym limit) (subst (λ (line : Line). IsServed (limit_of c.args.map.now) line) c.in-Set.is c.requires.line);
}

pub delete_setting-requires : goal.delete_setting-requires
delete_setting-requires g c = record {
  map = c.requires.map;
  here = c.requires.here;
}

pub get_setting-requires : goal.get_setting-requires
get_setting-requires g c = record {
  here = c.requires.here;
  lawful = subst (λ (a : Area). IsLawfulFor (g.B.Flash.device c.args.bench.now).banks a) (sym c.requires.here.active) (active-lawful g.K.Backend.serves c.args.map.now (g.B.Flash.device c.args.bench.now) c.requires.map);
}

pub report_settings-requires : goal.report_settings-requires
report_settings-requires g c = record {
  here = c.requires.here;
  lawful = subst (λ (a : Area). IsLawfulFor (g.B.Flash.device c.args.bench.now).banks a) (sym c.requires.here.active) (active-lawful g.K.Backend.serves c.args.map.now (g.B.Flash.device c.args.bench.now) c.requires.map);
}

pub report_all-requires : goal.report_all-requires
report_all-requires g c = record {
  here = c.requires.here;
  lawful = subst (λ (a : Area). IsLawfulFor (g.B.Flash.device c.args.bench.now).banks a) (sym c.requires.here.active) (active-lawful g.K.Backend.serves c.args.map.now (g.B.Flash.device c.args.bench.now) c.requires.map);
}

pub with_handlers-requires-clause-map : goal.with_handlers-requires-clause-map
with_handlers-requires-clause-map g c = c.requires.map

pub with_handlers-requires-clause-here : goal.with_handlers-requires-clause-here
with_handlers-requires-clause-here g c = c.requires.here

pub with_handlers-requires-clause-line : goal.with_handlers-requires-clause-line
with_handlers-requires-clause-line g c = c.requires.line

pub with_handlers-requires-clause-handlers : goal.with_handlers-requires-clause-handlers
with_handlers-requires-clause-handlers g c = c.requires.handlers
