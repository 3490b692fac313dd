use Rattle.flash_map.specs.On.{HoldsOn}
use Rattle.migrator.proofs.ErasesLeft.{ready-few}
use Rattle.migrator.proofs.Moving.{chosen-rests}
use Rattle.std.specs.FinMap as finite
use Rattle.std.proofs.Common.{◌≡◌, ℕ, Bool, List, [], ◌∷◌, sym, ap, subst, ◌∙◌, refl, inl, inr}
use Rattle.std.proofs.lemmas.Bool.{false≢true}
use Rattle.flash_sim.specs.Device.{Device}
use Rattle.flash_sim.specs.declared.flash.Bank.{Bank}
use Rattle.flash_map.specs.Area.{IsLawfulArea, sectors_of, geometry_of}
use Rattle.flash_map.specs.Touches.{Touches}
use Rattle.flash_map.specs.declared.area.Area.{Area}
use Rattle.flash_map.proofs.Apart.{same_apart}
use Rattle.flash_map.proofs.Touches.{then, first_of_two, second_of_two}
use Rattle.flash_map.specs.On.{on}
use Rattle.migrator.specs.Migrating.{migrate_lost}
use Rattle.migrator.proofs.Copies.{stands-still}
use Rattle.migrator.proofs.Moving.{open-still, active-still, open-sound, still, moved-lost, fault-lost, chosen-sound, chosen-open, chosen-down, refused-ends, chosen-ends, chosen-or-cut, chosen-stands, filled-chosen}
use Rattle.migrator.proofs.Spent.{filled-first, moved-most}
use Rattle.migrator.proofs.migrating.move_to.Goals as goal

pub returns-in-Err-clause-touches : goal.returns-in-Err-clause-touches
returns-in-Err-clause-touches g c =
    subst (λ (lost : Bool). Touches (c.args.area ∷ c.args.selector.now.ring.area ∷ []) (g.F.Flash.device c.args.flash.now) (g.F.Flash.device c.fill-filled.new.flash) lost) (fault-lost g.row.K.Denot (g.row.K.Denot × ℕ) c.in-Err.fault) (first_of_two c.in-Err.ensures.touches)

pub returns-in-Err-clause-selector : goal.returns-in-Err-clause-selector
returns-in-Err-clause-selector g c =
    let a : Device = g.F.Flash.device c.args.flash.now in
    let b : Device = g.F.Flash.device c.fill-filled.new.flash in
    let same = same_apart (g.met.F.Flash.is_lawful c.args.flash.now) (g.met.F.Flash.is_lawful c.fill-filled.new.flash) c.requires.moves.mounted.stands.area.lawful.in_bank c.requires.moves.apart_selector c.fill-filled.ensures.touches in
    record {
      area = refl;
      sound = open-sound b c.args.selector.now.ring (g.met.F.Flash.is_lawful c.fill-filled.new.flash) (open-still a b c.args.selector.now.ring c.fill-filled.ensures.touches.banks same c.requires.moves.mounted);
      open_ring =
          λ kept.
          let same = same_apart (g.met.F.Flash.is_lawful c.args.flash.now) (g.met.F.Flash.is_lawful c.fill-filled.new.flash) c.requires.moves.mounted.stands.area.lawful.in_bank c.requires.moves.apart_selector c.fill-filled.ensures.touches in
          open-still (g.F.Flash.device c.args.flash.now) (g.F.Flash.device c.fill-filled.new.flash) c.args.selector.now.ring c.fill-filled.ensures.touches.banks same c.requires.moves.mounted;
      lost =
          λ lost.
          let same = same_apart (g.met.F.Flash.is_lawful c.args.flash.now) (g.met.F.Flash.is_lawful c.fill-filled.new.flash) c.requires.moves.mounted.stands.area.lawful.in_bank c.requires.moves.apart_selector c.fill-filled.ensures.touches in
          inr (open-still (g.F.Flash.device c.args.flash.now) (g.F.Flash.device c.fill-filled.new.flash) c.args.selector.now.ring c.fill-filled.ensures.touches.banks same c.requires.moves.mounted);
    }

pub returns-in-Err-clause-ends : goal.returns-in-Err-clause-ends
returns-in-Err-clause-ends g c =
    let a : Device = g.F.Flash.device c.args.flash.now in
    let b : Device = g.F.Flash.device c.fill-filled.new.flash in
    let same = same_apart (g.met.F.Flash.is_lawful c.args.flash.now) (g.met.F.Flash.is_lawful c.fill-filled.new.flash) c.requires.moves.mounted.stands.area.lawful.in_bank c.requires.moves.apart_selector c.fill-filled.ensures.touches in
    refused-ends g.K.Backend.mounted_on g.K.Backend.stands g.K.Backend.damage g.K.Backend.contents g.row.K.Denot (g.K.Backend.room c.args.area (geometry_of a c.args.area)) c.args.map.now c.args.selector.now.ring.area c.args.area c.args.index
    (on g.K.Backend.contents a (g.K.Backend.mounted_on c.args.from.now)) (on g.K.Backend.contents b c.args.area) a b c.in-Err.fault (active-still c.args.map.now a b c.args.selector.now.ring.area c.fill-filled.ensures.touches.banks same) c.in-Err.ensures.ends

pub choose-chosen-requires-clause-mounted : goal.choose-chosen-requires-clause-mounted
choose-chosen-requires-clause-mounted g c =
    let same = same_apart (g.met.F.Flash.is_lawful c.args.flash.now) (g.met.F.Flash.is_lawful c.fill-filled.new.flash) c.requires.moves.mounted.stands.area.lawful.in_bank c.requires.moves.apart_selector c.fill-filled.ensures.touches in
    open-still (g.F.Flash.device c.args.flash.now) (g.F.Flash.device c.fill-filled.new.flash) c.args.selector.now.ring c.fill-filled.ensures.touches.banks same c.requires.moves.mounted

pub returns-clause-touches : goal.returns-clause-touches
returns-clause-touches g c =
    let a : Device = g.F.Flash.device c.args.flash.now in
    let e : Device = g.F.Flash.device c.choose-chosen.new.flash in
    subst (λ (lost : Bool). Touches (c.args.area ∷ c.args.selector.now.ring.area ∷ []) a e lost) (moved-lost (c.in-Ok.to, c.args.index) c.choose-chosen.result ∙ ap migrate_lost (sym c.moved_as.ensures))
    (then (first_of_two c.in-Ok.ensures.touches) (second_of_two c.choose-chosen.ensures.touches))

pub returns-clause-source : goal.returns-clause-source
returns-clause-source g c =
    same_apart (g.met.F.Flash.is_lawful c.fill-filled.new.flash) (g.met.F.Flash.is_lawful c.choose-chosen.new.flash)
    (subst (λ (banks : List Bank). IsLawfulArea banks (g.K.Backend.mounted_on c.args.from.now)) (sym c.fill-filled.ensures.touches.banks) c.requires.moves.lawful_from.in_bank) c.requires.moves.selector_source c.choose-chosen.ensures.touches
    ∙ c.fill-filled.ensures.source

pub returns-clause-selector : goal.returns-clause-selector
returns-clause-selector g c = record {
  area = c.choose-chosen.ensures.area;
  sound =
      chosen-sound c.args.map.now (g.F.Flash.device c.fill-filled.new.flash) (g.F.Flash.device c.choose-chosen.new.flash) c.args.selector.now.ring c.choose-chosen.new.self.ring c.args.index c.choose-chosen.result
      (g.met.F.Flash.is_lawful c.choose-chosen.new.flash) c.choose-chosen.ensures.area c.choose-chosen.ensures.ends;
  open_ring =
      λ kept.
      chosen-open c.args.map.now (g.F.Flash.device c.fill-filled.new.flash) (g.F.Flash.device c.choose-chosen.new.flash) c.args.selector.now.ring c.choose-chosen.new.self.ring c.args.index (c.in-Ok.to, c.args.index) c.choose-chosen.result c.moved_as.result
      c.choose-chosen.ensures.ends c.moved_as.ensures kept;
  lost =
      λ lost.
      inl (chosen-down c.args.map.now (g.F.Flash.device c.fill-filled.new.flash) (g.F.Flash.device c.choose-chosen.new.flash) c.args.selector.now.ring c.choose-chosen.new.self.ring c.args.index (c.in-Ok.to, c.args.index) c.choose-chosen.result c.moved_as.result
      c.choose-chosen.ensures.ends c.moved_as.ensures lost);
}

pub returns-clause-ends : goal.returns-clause-ends
returns-clause-ends g c =
    let a : Device = g.F.Flash.device c.args.flash.now in
    let b : Device = g.F.Flash.device c.fill-filled.new.flash in
    let e : Device = g.F.Flash.device c.choose-chosen.new.flash in
    let selector = same_apart (g.met.F.Flash.is_lawful c.args.flash.now) (g.met.F.Flash.is_lawful c.fill-filled.new.flash) c.requires.moves.mounted.stands.area.lawful.in_bank c.requires.moves.apart_selector c.fill-filled.ensures.touches in
    let target = same_apart (g.met.F.Flash.is_lawful c.fill-filled.new.flash) (g.met.F.Flash.is_lawful c.choose-chosen.new.flash)
    (subst (λ (banks : List Bank). IsLawfulArea banks c.args.area) (sym c.fill-filled.ensures.touches.banks) c.requires.moves.lawful.in_bank) c.requires.moves.selector_target c.choose-chosen.ensures.touches in
    let banks = c.choose-chosen.ensures.touches.banks in
    let undamaged = g.met.K.Backend.stands_reads c.in-Ok.to (geometry_of b (g.K.Backend.mounted_on c.in-Ok.to)) (sectors_of b (g.K.Backend.mounted_on c.in-Ok.to)) c.in-Ok.ensures.stands in
    chosen-ends g.K.Backend.mounted_on g.K.Backend.stands g.K.Backend.damage g.K.Backend.contents (g.K.Backend.room c.args.area (geometry_of a c.args.area)) c.args.map.now c.args.area c.args.index
    (on g.K.Backend.contents a (g.K.Backend.mounted_on c.args.from.now)) a b e c.args.selector.now.ring c.choose-chosen.new.self.ring c.in-Ok.to c.in-Ok.to c.choose-chosen.result c.moved_as.result
    (active-still c.args.map.now a b c.args.selector.now.ring.area c.fill-filled.ensures.touches.banks selector) c.in-Ok.ensures.on refl
    (still g.K.Backend.damage b e c.args.area banks target ∙ ap (on g.K.Backend.damage b) (sym c.in-Ok.ensures.on) ∙ undamaged)
    (still g.K.Backend.contents b e c.args.area banks target ∙ c.in-Ok.ensures.ends.0) c.in-Ok.ensures.ends.1
    c.choose-chosen.ensures.ends c.moved_as.ensures

pub returns-clause-stands : goal.returns-clause-stands
returns-clause-stands g c =
    let b : Device = g.F.Flash.device c.fill-filled.new.flash in
    let e : Device = g.F.Flash.device c.choose-chosen.new.flash in
    let target = same_apart (g.met.F.Flash.is_lawful c.fill-filled.new.flash) (g.met.F.Flash.is_lawful c.choose-chosen.new.flash)
    (subst (λ (banks : List Bank). IsLawfulArea banks c.args.area) (sym c.fill-filled.ensures.touches.banks) c.requires.moves.lawful.in_bank) c.requires.moves.selector_target c.choose-chosen.ensures.touches in
    chosen-stands g.K.Backend.mounted_on g.K.Backend.stands g.K.Backend.damage g.K.Backend.contents e c.args.index c.in-Ok.to c.choose-chosen.result c.moved_as.result
    (stands-still g.K.Backend.mounted_on g.K.Backend.stands g.K.Backend.contents g.K.Backend.room b e c.in-Ok.to c.choose-chosen.ensures.touches.banks (subst (λ (x : Area). sectors_of e x ≡ sectors_of b x) (sym c.in-Ok.ensures.on) target) c.in-Ok.ensures.stands) c.moved_as.ensures

pub returns-in-Err-clause-at_most : goal.returns-in-Err-clause-at_most
returns-in-Err-clause-at_most g c =
    let a : Device = g.F.Flash.device c.args.flash.now in
    filled-first a (g.F.Flash.device c.fill-filled.new.flash) c.args.area c.args.selector.now.ring.area (finite.len (on g.K.Backend.contents a (g.K.Backend.mounted_on c.args.from.now))) c.in-Err.ensures.spends.0

pub returns-clause-at_most : goal.returns-clause-at_most
returns-clause-at_most g c =
    let a : Device = g.F.Flash.device c.args.flash.now in
    moved-most a (g.F.Flash.device c.fill-filled.new.flash) (g.F.Flash.device c.choose-chosen.new.flash) c.args.area c.args.selector.now.ring.area (finite.len (on g.K.Backend.contents a (g.K.Backend.mounted_on c.args.from.now)))
    c.fill-filled.ensures.touches.banks c.fill-filled.ensures.spends.0 c.choose-chosen.ensures.at_most

pub fill-filled-requires-clause-lawful_from : goal.fill-filled-requires-clause-lawful_from
fill-filled-requires-clause-lawful_from g c = c.requires.moves.lawful_from

pub fill-filled-requires-clause-stands_from : goal.fill-filled-requires-clause-stands_from
fill-filled-requires-clause-stands_from g c = c.requires.moves.stands_from

pub fill-filled-requires-clause-lawful : goal.fill-filled-requires-clause-lawful
fill-filled-requires-clause-lawful g c = c.requires.moves.lawful

pub fill-filled-requires-clause-serves : goal.fill-filled-requires-clause-serves
fill-filled-requires-clause-serves g c = c.requires.moves.served

pub fill-filled-requires-clause-apart : goal.fill-filled-requires-clause-apart
fill-filled-requires-clause-apart g c = c.requires.moves.apart_source

pub fill-filled-requires-clause-version : goal.fill-filled-requires-clause-version
fill-filled-requires-clause-version g c = c.requires.moves.version

pub returns-in-Err-clause-kept : goal.returns-in-Err-clause-kept
returns-in-Err-clause-kept g c refused = same_apart (g.met.F.Flash.is_lawful c.args.flash.now) (g.met.F.Flash.is_lawful c.fill-filled.new.flash) c.requires.moves.mounted.stands.area.lawful.in_bank c.requires.moves.apart_selector c.fill-filled.ensures.touches

pub returns-in-Err-clause-chosen : goal.returns-in-Err-clause-chosen
returns-in-Err-clause-chosen g c = tt

pub returns-clause-kept : goal.returns-clause-kept
returns-clause-kept g c refused = absurd (false≢true (sym (chosen-or-cut (c.in-Ok.to, c.args.index) c.choose-chosen.result c.moved_as.result c.moved_as.ensures) ∙ refused))

pub returns-clause-chosen : goal.returns-clause-chosen
returns-clause-chosen g c =
    let a : Device = g.F.Flash.device c.args.flash.now in
    filled-chosen c.args.map.now a (g.F.Flash.device c.fill-filled.new.flash) (g.F.Flash.device c.choose-chosen.new.flash) c.args.selector.now.ring c.args.area c.args.index (finite.len (on g.K.Backend.contents a (g.K.Backend.mounted_on c.args.from.now)))
    (c.in-Ok.to, c.args.index) c.choose-chosen.result c.moved_as.result c.fill-filled.ensures.touches.banks
    (same_apart (g.met.F.Flash.is_lawful c.args.flash.now) (g.met.F.Flash.is_lawful c.fill-filled.new.flash) c.requires.moves.mounted.stands.area.lawful.in_bank c.requires.moves.apart_selector c.fill-filled.ensures.touches)
    c.in-Ok.ensures.spends.1 c.choose-chosen.ensures.chosen c.moved_as.ensures

pub returns-in-Err-clause-rests : goal.returns-in-Err-clause-rests
returns-in-Err-clause-rests g c =
    let a : Device = g.F.Flash.device c.args.flash.now in
    let b : Device = g.F.Flash.device c.fill-filled.new.flash in
    let same = same_apart (g.met.F.Flash.is_lawful c.args.flash.now) (g.met.F.Flash.is_lawful c.fill-filled.new.flash) c.requires.moves.mounted.stands.area.lawful.in_bank c.requires.moves.apart_selector c.fill-filled.ensures.touches in
    inl (active-still c.args.map.now a b c.args.selector.now.ring.area c.fill-filled.ensures.touches.banks same)

pub returns-in-Err-clause-left : goal.returns-in-Err-clause-left
returns-in-Err-clause-left g c =
    let a : Device = g.F.Flash.device c.args.flash.now in
    let b : Device = g.F.Flash.device c.fill-filled.new.flash in
    let same = same_apart (g.met.F.Flash.is_lawful c.args.flash.now) (g.met.F.Flash.is_lawful c.fill-filled.new.flash) c.requires.moves.mounted.stands.area.lawful.in_bank c.requires.moves.apart_selector c.fill-filled.ensures.touches in
    let opened = open-still a b c.args.selector.now.ring c.fill-filled.ensures.touches.banks same c.requires.moves.mounted in
    ready-few b c.args.selector.now.ring c.args.selector.now.ring.area refl opened.stands opened.ready

pub returns-clause-rests : goal.returns-clause-rests
returns-clause-rests g c =
    let a : Device = g.F.Flash.device c.args.flash.now in
    let b : Device = g.F.Flash.device c.fill-filled.new.flash in
    let e : Device = g.F.Flash.device c.choose-chosen.new.flash in
    let selector = same_apart (g.met.F.Flash.is_lawful c.args.flash.now) (g.met.F.Flash.is_lawful c.fill-filled.new.flash) c.requires.moves.mounted.stands.area.lawful.in_bank c.requires.moves.apart_selector c.fill-filled.ensures.touches in
    let target = same_apart (g.met.F.Flash.is_lawful c.fill-filled.new.flash) (g.met.F.Flash.is_lawful c.choose-chosen.new.flash)
    (subst (λ (banks : List Bank). IsLawfulArea banks c.args.area) (sym c.fill-filled.ensures.touches.banks) c.requires.moves.lawful.in_bank) c.requires.moves.selector_target c.choose-chosen.ensures.touches in
    let to-area = g.K.Backend.mounted_on c.in-Ok.to in
    let standing = stands-still g.K.Backend.mounted_on g.K.Backend.stands g.K.Backend.contents g.K.Backend.room b e c.in-Ok.to c.choose-chosen.ensures.touches.banks (subst (λ (x : Area). sectors_of e x ≡ sectors_of b x) (sym c.in-Ok.ensures.on) target) c.in-Ok.ensures.stands in
    let held : HoldsOn g.K.Backend.rests e c.args.area = subst (λ (x : Area). HoldsOn g.K.Backend.rests e x) c.in-Ok.ensures.on (g.met.K.Backend.stands_rests c.in-Ok.to (geometry_of e to-area) (sectors_of e to-area) standing) in
    chosen-rests g.K.Backend.rests c.args.map.now c.args.area c.args.index a b e c.args.selector.now.ring c.choose-chosen.new.self.ring c.choose-chosen.result
    (active-still c.args.map.now a b c.args.selector.now.ring.area c.fill-filled.ensures.touches.banks selector) held c.choose-chosen.ensures.ends

pub returns-clause-left : goal.returns-clause-left
returns-clause-left g c = c.choose-chosen.ensures.left
