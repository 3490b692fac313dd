use Rattle.std.proofs.Common.{[], ◌∷◌, refl, sym, ◌∙◌, true≢false}
use Rattle.flash_map.specs.Area.{geometry_of, sectors_of}
use Rattle.flash_map.proofs.Touches.{untouched}
use Rattle.backend_api.specs.Room.{command_units}
use Rattle.settings_core.proofs.CallLemmas.{spends_nothing}
use Rattle.settings_core.proofs.settings.Settings.delete.Goals as goal

pub returns-then-not-is_up : goal.returns-then-not-is_up
returns-then-not-is_up g c = record {
  touches = untouched (g.K.Backend.mounted_on c.args.self.now.backend ∷ []) (g.F.Flash.device c.args.flash.now);
  area = refl;
  ends = (0, (sym c.is_up.ensures ∙ c.if-not-is_up.true, refl, refl));
  at_most = let d = g.F.Flash.device c.args.flash.now in
      spends_nothing d (command_units (geometry_of d (g.K.Backend.mounted_on c.args.self.now.backend)));
  sound = λ up. absurd (true≢false (sym up ∙ sym c.is_up.ensures ∙ c.if-not-is_up.true));
  stands = c.requires.stands;
  owes = λ lost. absurd (true≢false (sym lost));
  down = λ lost. absurd (true≢false (sym lost));
  up = λ kept. refl;
}

pub remove-requires : goal.remove-requires
remove-requires g c = record {
  lawful = c.requires.lawful;
  stands = c.requires.stands (sym c.is_up.ensures ∙ c.if-not-is_up.false);
}

pub returns-in-Ok : goal.returns-in-Ok
returns-in-Ok g c = record {
  touches = c.in-Ok.ensures.touches;
  area = c.in-Ok.ensures.area;
  ends = (c.in-Ok.ensures.ends.0, (sym c.is_up.ensures ∙ c.if-not-is_up.false, c.in-Ok.ensures.ends.1.1, c.in-Ok.ensures.ends.1.2));
  at_most = c.in-Ok.ensures.at_most;
  sound = λ up. c.in-Ok.ensures.sound;
  stands = λ up. c.in-Ok.ensures.stands refl;
  owes = λ lost. absurd (true≢false (sym lost));
  down = λ lost. absurd (true≢false (sym lost));
  up = λ kept.
      let area = g.K.Backend.mounted_on c.remove.new.backend in
      let e = g.F.Flash.device c.remove.new.flash in
      g.met.K.Backend.stands_up c.remove.new.backend (geometry_of e area) (sectors_of e area) (c.in-Ok.ensures.stands refl) ∙ sym (sym c.is_up.ensures ∙ c.if-not-is_up.false);
}

pub returns-in-Err : goal.returns-in-Err
returns-in-Err g c = record {
  touches = c.in-Err.ensures.touches;
  area = c.in-Err.ensures.area;
  ends = (c.in-Err.ensures.ends.0, (sym c.is_up.ensures ∙ c.if-not-is_up.false, c.in-Err.ensures.ends.1.1));
  at_most = c.in-Err.ensures.at_most;
  sound = λ up. c.in-Err.ensures.sound;
  stands = λ up. absurd (true≢false (sym up ∙ c.in-Err.ensures.down refl));
  owes = λ lost. c.in-Err.ensures.owes refl;
  down = λ lost. c.in-Err.ensures.down refl;
  up = λ kept. absurd (true≢false kept);
}
