use Rattle.std.proofs.Common.{Bool, [], ◌∷◌, refl, sym, subst, ◌∙◌, true≢false, option_map}
use Rattle.flash_map.specs.Area.{geometry_of, sectors_of}
use Rattle.flash_map.proofs.Touches.{untouched}
use Rattle.backend_api.specs.Commands.{puts_of}
use Rattle.flash_map.specs.On.{on, StandsOn}
use Rattle.handlers.specs.Registry.{registered}
use Rattle.settings_core.specs.Carrying.{due_units, CarryEndsOn, save_lost}
use Rattle.settings_core.specs.Saving.{exported}
use Rattle.settings_core.proofs.CallLemmas.{spends_nothing, stands_up}
use Rattle.settings_core.proofs.settings.Settings.save.Goals as goal

pub returns-then-not-is_up : goal.returns-then-not-is_up
returns-then-not-is_up g c = record {
  touches = untouched (g.K.Backend.mounted_on c.args.self.now.backend ∷ []) (g.F.Flash.device c.args.flash.now);
  area = refl;
  ends = (0, (sym c.is_up.ensures ∙ c.if-not-is_up.true, refl, refl), refl);
  at_most = let area = g.K.Backend.mounted_on c.args.self.now.backend in
      let d = g.F.Flash.device c.args.flash.now in
      let handlers = registered (λ b. (goal.Handler-dyn g (b.vtable, b.value)).state b.value) c.args.registry.now in
      spends_nothing d (due_units (geometry_of d area) (on g.K.Backend.contents d area) (puts_of (exported (option_map (λ name. name.now) c.args.subtree) handlers)));
  off = λ off. refl;
  sound = λ up. absurd (true≢false (sym up ∙ sym c.is_up.ensures ∙ c.if-not-is_up.true));
  stands = c.requires.stands;
  owes = λ lost. absurd (true≢false (sym lost));
  down = λ lost. absurd (true≢false (sym lost));
  up = λ kept. refl;
}

pub save_all-end-requires : goal.save_all-end-requires
save_all-end-requires g c = record {
  lawful = c.requires.lawful;
  stands = c.requires.stands (sym c.is_up.ensures ∙ c.if-not-is_up.false);
  settings = c.requires.settings;
}

pub returns : goal.returns
returns g c = record {
  touches = c.save_all-end.ensures.carries.touches;
  area = c.save_all-end.ensures.carries.area_is;
  ends = let handlers = registered (λ b. (goal.Handler-dyn g (b.vtable, b.value)).state b.value) c.args.registry.now in (
    c.save_all-end.ensures.carries.count,
    subst (λ (up : Bool). CarryEndsOn {T = Unit {0}} g.K.Backend.room g.K.Backend.contents g.K.Backend.chance g.K.Backend.tears up (g.K.Backend.mounted_on c.args.self.now.backend) (g.F.Flash.device c.args.flash.now) (g.F.Flash.device c.save_all-end.new.flash)
        (puts_of (exported (option_map (λ name. name.now) c.args.subtree) handlers)) c.save_all-end.ensures.carries.count c.save_all-end.result)
        (sym (sym c.is_up.ensures ∙ c.if-not-is_up.false)) c.save_all-end.ensures.carries.ends,
    c.save_all-end.ensures.carries.counts,
  );
  at_most = c.save_all-end.ensures.carries.at_most;
  off = c.save_all-end.ensures.carries.off;
  sound = λ up. c.save_all-end.ensures.carries.sound;
  stands = stands_up (StandsOn g.K.Backend.mounted_on g.K.Backend.stands (g.F.Flash.device c.save_all-end.new.flash) c.save_all-end.new.backend)
      (save_lost {T = Unit {0}} c.save_all-end.result) (g.K.Backend.runs c.save_all-end.new.backend) c.save_all-end.ensures.carries.goes_on c.save_all-end.ensures.carries.down;
  owes = c.save_all-end.ensures.owes;
  down = c.save_all-end.ensures.carries.down;
  up = λ kept.
      let area = g.K.Backend.mounted_on c.save_all-end.new.backend in
      let e = g.F.Flash.device c.save_all-end.new.flash in
      g.met.K.Backend.stands_up c.save_all-end.new.backend (geometry_of e area) (sectors_of e area) (c.save_all-end.ensures.carries.goes_on kept) ∙ sym (sym c.is_up.ensures ∙ c.if-not-is_up.false);
}
