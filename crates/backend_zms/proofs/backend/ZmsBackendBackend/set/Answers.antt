use Rattle.std.proofs.Common.{◌∷◌, [], Bool, sym, subst}
use Rattle.flash_sim.specs.Device.{Device}
use Rattle.flash_map.specs.declared.area.Area.{Area}
use Rattle.flash_map.specs.On.{on}
use Rattle.flash_map.specs.Touches.{Ends, IsCut}
use Rattle.named_items.specs.Pairs.{HasNoOrphans}
use Rattle.named_items.specs.ZmsStore.{zms_items}
use Rattle.backend_zms.specs.IdLayout.{numbering_of}
use Rattle.backend_zms.proofs.BootSteps.{cut-owes}
use Rattle.backend_zms.proofs.backend.ZmsBackendBackend.set.Goals as goal

pub set_value-requires-clause-here : goal.set_value-requires-clause-here
set_value-requires-clause-here g c = record { lawful = c.requires.lawful; up = c.requires.stands.store; clean = c.requires.stands.clean }

pub set_value-requires-clause-value : goal.set_value-requires-clause-value
set_value-requires-clause-value g c = c.requires.value

pub returns-clause-area : goal.returns-clause-area
returns-clause-area g c = c.set_value.ensures.store.area

pub returns-clause-ends : goal.returns-clause-ends
returns-clause-ends g c = c.set_value.ensures.ends.ends

pub returns-clause-sound : goal.returns-clause-sound
returns-clause-sound g c = c.set_value.ensures.store.sound

pub returns-clause-down : goal.returns-clause-down
returns-clause-down g c = λ lost. c.set_value.ensures.store.down lost

-- the loss is the one of the call, and the settings are the old ones or the new
pub returns-clause-cut : goal.returns-clause-cut
returns-clause-cut g c = λ is_on lost.
    let d : Device = g.F.Flash.device c.args.flash.now in
    let e : Device = g.F.Flash.device c.set_value.new.flash in
    let own : Area = c.args.self.now.store.store.area in
    let touches = c.set_value.ensures.touches in
    let cut : IsCut (own ∷ []) d e touches.units = subst (λ (was_lost : Bool). Ends (own ∷ []) d e touches.units was_lost) lost touches.ends is_on in
    record { loss = cut.loss; last = cut.last_loss; settings = c.set_value.ensures.ends.cut lost }

pub returns-clause-stands : goal.returns-clause-stands
returns-clause-stands g c = λ kept.
    let e : Device = g.F.Flash.device c.set_value.new.flash in
    record {
      store = c.set_value.ensures.store.up kept;
      clean = subst (λ (x : Area). HasNoOrphans (numbering_of x) (on zms_items e x)) (sym c.set_value.ensures.store.area) (c.set_value.ensures.ends.clean kept);
    }

pub returns-clause-items : goal.returns-clause-items
returns-clause-items g c = c.set_value.ensures.items

pub returns-clause-units : goal.returns-clause-units
returns-clause-units g c = record {
  at_most = c.set_value.ensures.at_most;
  owes = λ lost. cut-owes (g.F.Flash.device c.args.flash.now) (g.F.Flash.device c.set_value.new.flash) c.args.self.now.store.store.area c.set_value.ensures.touches.banks (c.set_value.ensures.ends.few lost);
}
