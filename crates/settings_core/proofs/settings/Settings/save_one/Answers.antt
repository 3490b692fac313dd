use Rattle.std.proofs.Common.{◌≡◌, ℕ, length, Bool, true, inl, inr, Ok, Err, [], ◌∷◌, refl, sym, subst, ◌∙◌, eqb-true, true≢false}
use Rattle.std.proofs.lemmas.Bool.{cases_Bool}
use Rattle.flash_map.specs.Area.{geometry_of, sectors_of}
use Rattle.flash_map.proofs.Touches.{untouched}
use Rattle.backend_api.specs.Commands.{Command}
use Rattle.backend_api.specs.Room.{command_units}
use Rattle.settings_core.specs.Carrying.{command_of, CarryEndsOn, save_lost}
use Rattle.settings_core.specs.declared.writing.SaveFault.TheVariants.{PowerLost}
use Rattle.settings_core.proofs.CallLemmas.{spends_nothing, some_bytes}
use Rattle.settings_core.proofs.CarryLemmas.{command_some, command_del}
use Rattle.settings_core.proofs.settings.Settings.save_one.Goals as goal

pub returns-then-not-is_up : goal.returns-then-not-is_up
returns-then-not-is_up g c = record {
  touches = untouched (g.K.Backend.mounted_on c.args.self.now.backend ∷ []) (g.F.Flash.device c.args.flash.now);
  area = refl;
  ends = (0, (sym c.is_up.ensures ∙ c.if-not-is_up.true, refl, refl));
  at_most = let d = g.F.Flash.device c.args.flash.now in
      spends_nothing d (command_units (geometry_of d (g.K.Backend.mounted_on c.args.self.now.backend)));
  sound = λ up. absurd (true≢false (sym up ∙ sym c.is_up.ensures ∙ c.if-not-is_up.true));
  stands = c.requires.stands;
  owes = λ lost. absurd (true≢false (sym lost));
  down = λ lost. absurd (true≢false (sym lost));
  up = λ kept. refl;
}

pub remove-requires : goal.remove-requires
remove-requires g c = record {
  lawful = c.requires.lawful;
  stands = c.requires.stands (sym c.is_up.ensures ∙ c.if-not-is_up.false);
}

pub store-requires : goal.store-requires
store-requires g c = record {
  lawful = c.requires.lawful;
  stands = c.requires.stands (sym c.is_up.ensures ∙ c.if-not-is_up.false);
  some = some_bytes c.args.value.now (sym c.is_empty.ensures ∙ c.if-is_empty.false);
  short = c.requires.short;
}

pub returns-in-Ok : goal.returns-in-Ok
returns-in-Ok g c = record {
  touches = c.in-Ok.ensures.touches;
  area = c.in-Ok.ensures.area;
  ends = let area = g.K.Backend.mounted_on c.args.self.now.backend in
      let d = g.F.Flash.device c.args.flash.now in
      let e = g.F.Flash.device c.remove.new.flash in
      let up : g.K.Backend.runs c.args.self.now.backend ≡ true = sym c.is_up.ensures ∙ c.if-not-is_up.false in
      let empty : length c.args.value.now ≡ 0 = eqb-true (length c.args.value.now) 0 (sym c.is_empty.ensures ∙ c.if-is_empty.true) in
      subst (λ (b : Bool). (count : ℕ) × CarryEndsOn {T = Unit {0}} g.K.Backend.room g.K.Backend.contents g.K.Backend.chance g.K.Backend.tears b area d e (command_of c.args.name.now c.args.value.now ∷ []) count (Ok tt)) (sym up)
      (subst (λ (x : Command). (count : ℕ) × CarryEndsOn {T = Unit {0}} g.K.Backend.room g.K.Backend.contents g.K.Backend.chance g.K.Backend.tears true area d e (x ∷ []) count (Ok tt)) (sym (command_del c.args.name.now c.args.value.now empty))
      c.in-Ok.ensures.ends);
  at_most = c.in-Ok.ensures.at_most;
  sound = λ up. c.in-Ok.ensures.sound;
  stands = λ up. c.in-Ok.ensures.stands refl;
  owes = λ lost. absurd (true≢false (sym lost));
  down = λ lost. absurd (true≢false (sym lost));
  up = λ kept.
      let area = g.K.Backend.mounted_on c.remove.new.backend in
      let e = g.F.Flash.device c.remove.new.flash in
      g.met.K.Backend.stands_up c.remove.new.backend (geometry_of e area) (sectors_of e area) (c.in-Ok.ensures.stands refl) ∙ sym (sym c.is_up.ensures ∙ c.if-not-is_up.false);
}

pub returns-in-Err : goal.returns-in-Err
returns-in-Err g c = record {
  touches = c.in-Err.ensures.touches;
  area = c.in-Err.ensures.area;
  ends = let area = g.K.Backend.mounted_on c.args.self.now.backend in
      let d = g.F.Flash.device c.args.flash.now in
      let e = g.F.Flash.device c.remove.new.flash in
      let up : g.K.Backend.runs c.args.self.now.backend ≡ true = sym c.is_up.ensures ∙ c.if-not-is_up.false in
      let empty : length c.args.value.now ≡ 0 = eqb-true (length c.args.value.now) 0 (sym c.is_empty.ensures ∙ c.if-is_empty.true) in
      subst (λ (b : Bool). (count : ℕ) × CarryEndsOn {T = Unit {0}} g.K.Backend.room g.K.Backend.contents g.K.Backend.chance g.K.Backend.tears b area d e (command_of c.args.name.now c.args.value.now ∷ []) count (Err PowerLost)) (sym up)
      (subst (λ (x : Command). (count : ℕ) × CarryEndsOn {T = Unit {0}} g.K.Backend.room g.K.Backend.contents g.K.Backend.chance g.K.Backend.tears true area d e (x ∷ []) count (Err PowerLost)) (sym (command_del c.args.name.now c.args.value.now empty))
      c.in-Err.ensures.ends);
  at_most = c.in-Err.ensures.at_most;
  sound = λ up. c.in-Err.ensures.sound;
  stands = λ up. absurd (true≢false (sym up ∙ c.in-Err.ensures.down refl));
  owes = λ lost. c.in-Err.ensures.owes refl;
  down = λ lost. c.in-Err.ensures.down refl;
  up = λ kept. absurd (true≢false kept);
}

pub returns-else-is_empty : goal.returns-else-is_empty
returns-else-is_empty g c = record {
  touches = c.store.ensures.touches;
  area = c.store.ensures.area;
  ends = let area = g.K.Backend.mounted_on c.args.self.now.backend in
      let d = g.F.Flash.device c.args.flash.now in
      let e = g.F.Flash.device c.store.new.flash in
      let up : g.K.Backend.runs c.args.self.now.backend ≡ true = sym c.is_up.ensures ∙ c.if-not-is_up.false in
      subst (λ (b : Bool). (count : ℕ) × CarryEndsOn {T = Unit {0}} g.K.Backend.room g.K.Backend.contents g.K.Backend.chance g.K.Backend.tears b area d e (command_of c.args.name.now c.args.value.now ∷ []) count c.store.result) (sym up)
      (subst (λ (x : Command). (count : ℕ) × CarryEndsOn {T = Unit {0}} g.K.Backend.room g.K.Backend.contents g.K.Backend.chance g.K.Backend.tears true area d e (x ∷ []) count c.store.result) (sym (command_some c.args.name.now c.args.value.now (sym c.is_empty.ensures ∙ c.if-is_empty.false)))
      c.store.ensures.ends);
  at_most = c.store.ensures.at_most;
  sound = λ up. c.store.ensures.sound;
  stands = λ up. elim (cases_Bool (save_lost {T = Unit {0}} c.store.result)) [ inl lost ↦ absurd (true≢false (sym up ∙ c.store.ensures.down lost)) | inr kept ↦ c.store.ensures.stands kept ];
  owes = c.store.ensures.owes;
  down = c.store.ensures.down;
  up = λ kept.
      let area = g.K.Backend.mounted_on c.store.new.backend in
      let e = g.F.Flash.device c.store.new.flash in
      g.met.K.Backend.stands_up c.store.new.backend (geometry_of e area) (sectors_of e area) (c.store.ensures.stands kept) ∙ sym (sym c.is_up.ensures ∙ c.if-not-is_up.false);
}
