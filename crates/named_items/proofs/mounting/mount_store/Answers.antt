use Rattle.std.proofs.Common.{◌≡◌, ℕ, ◌+◌, ◌*◌, ◌≤◌, ◌∷◌, [], false, true, cond, None, refl, sym, ap, subst, ◌∙◌, inr, arith}
use Rattle.std.specs.FinMap.{get, len}
use Rattle.flash_sim.specs.Device.{Device}
use Rattle.flash_map.specs.declared.area.Area.{Area}
use Rattle.flash_map.specs.declared.area.Geometry.{Geometry}
use Rattle.flash_map.specs.Area.{geometry_of}
use Rattle.flash_map.specs.Spending.{SpendsAtMost}
use Rattle.flash_map.specs.Touches.{Touches}
use Rattle.flash_map.proofs.Touches.{then}
use Rattle.flash_map.specs.On.{on}
use Rattle.item_laws.specs.Items.{Items}
use Rattle.backend_api.specs.Room.{removal_units}
use Rattle.backend_api.specs.Written.{StaysWritten}
use Rattle.named_items.specs.Numbering.{Numbering}
use Rattle.named_items.specs.Orphans.{KeepsSettings, StopsAt, OrphansIn, SpendsRemoving}
use Rattle.named_items.specs.StoreEnds.{delete_units}
use Rattle.named_items.proofs.OrphanUnits.{none-left, boot-then, boot-alone}
use Rattle.named_items.proofs.RemovalUnits.{store-mounted, all-removed}
use Rattle.named_items.proofs.SpendSteps.{geometry-stays}
use Rattle.named_items.specs.Pairs.{settings_in, HasNoOrphans, IsKept}
use Rattle.named_items.proofs.mounting.mount_store.Goals as goal

pub returns-in-Ok-remove_orphans : goal.returns-in-Ok-remove_orphans
returns-in-Ok-remove_orphans g c = record {
  rests = λ rest none.
      let d : Device = g.F.Flash.device c.args.flash.now in
      let e : Device = g.F.Flash.device c.mount.new.flash in
      let own : Area = c.args.area in
      let on_it : g.S.ItemStore.mounted_on c.in-Ok.store ≡ own = c.in-Ok.ensures.on in
      let idle : e ≡ d = c.in-Ok.ensures.rests rest in
      c.remove_orphans.ensures.rests (subst (λ (x : Area). HasNoOrphans (g.N.IdLayout.numbering x) (on g.S.ItemStore.contents e x)) (sym on_it) (subst (λ (y : Device). HasNoOrphans (g.N.IdLayout.numbering own) (on g.S.ItemStore.contents y own)) (sym idle) none)) ∙ idle;
  units = let d : Device = g.F.Flash.device c.args.flash.now in
      let e : Device = g.F.Flash.device c.mount.new.flash in
      let f : Device = g.F.Flash.device c.remove_orphans.new.flash in
      let own : Area = c.args.area in
      let on_it : g.S.ItemStore.mounted_on c.in-Ok.store ≡ own = c.in-Ok.ensures.on in
      let none : on g.S.ItemStore.damage d own ≡ None = c.in-Ok.ensures.ends in
      let keeps : on g.S.ItemStore.contents e own ≡ on g.S.ItemStore.contents d own = c.in-Ok.ensures.keeps none in
      let few = g.met.S.ItemStore.few d own (g.met.F.Flash.is_lawful c.args.flash.now) c.requires.lawful c.requires.serves in
      let n : Numbering = g.N.IdLayout.numbering own in
      let same : geometry_of e own ≡ geometry_of d own = geometry-stays d e own c.in-Ok.ensures.touches.banks in
      let removes : SpendsRemoving n (removal_units (geometry_of e own)) (delete_units g.S.ItemStore.removal g.S.ItemStore.entry g.S.ItemStore.roomy e own) e f (on g.S.ItemStore.contents e own) =
      subst (λ (x : Area). SpendsRemoving (g.N.IdLayout.numbering x) (removal_units (geometry_of e x)) (delete_units g.S.ItemStore.removal g.S.ItemStore.entry g.S.ItemStore.roomy e x) e f (on g.S.ItemStore.contents e x)) on_it c.remove_orphans.ensures.units in
      record {
        at_most = all-removed (geometry_of d own) d e f (len (on g.S.ItemStore.contents d own)) few c.in-Ok.ensures.units.at_most
            (subst (λ (k : Geometry). SpendsAtMost e f (len (on g.S.ItemStore.contents d own) * removal_units k)) same
            (subst (λ (m : Items). SpendsAtMost e f (len m * removal_units (geometry_of e own))) keeps removes.at_most));
        boot = λ orphans only.
            let k : Geometry = geometry_of d own in
            let there : OrphansIn n (on g.S.ItemStore.contents e own) orphans = subst (λ (m : Items). OrphansIn n m orphans) (sym keeps) only in
            boot-then (g.S.ItemStore.redo k) (g.S.ItemStore.clear k) (g.S.ItemStore.entry k) (g.S.ItemStore.removal k)
            (g.met.S.ItemStore.lean d own (g.met.F.Flash.is_lawful c.args.flash.now) c.requires.lawful c.requires.serves) (on g.S.ItemStore.roomy e own) d e f (len orphans) c.in-Ok.ensures.units.redoes c.in-Ok.ensures.units.ends
            (λ none_left. c.remove_orphans.ensures.rests (subst (λ (x : Area). HasNoOrphans (g.N.IdLayout.numbering x) (on g.S.ItemStore.contents e x)) (sym on_it) (none-left n (on g.S.ItemStore.contents e own) orphans there none_left)))
            (subst (λ (k : Geometry). (more : ℕ) → len orphans ≤ more + 1 → SpendsAtMost e f (cond (on g.S.ItemStore.roomy e own) (g.S.ItemStore.entry k) (g.S.ItemStore.removal k) + more * g.S.ItemStore.removal k)) same (removes.few orphans there));
      };
  written = λ blank.
      let e : Device = g.F.Flash.device c.mount.new.flash in
      let f : Device = g.F.Flash.device c.remove_orphans.new.flash in
      let on_it : g.S.ItemStore.mounted_on c.in-Ok.store ≡ c.args.area = c.in-Ok.ensures.on in
      c.in-Ok.ensures.written (subst (λ (x : Area). StaysWritten e f x) on_it c.remove_orphans.ensures.written blank);
  keeps = λ none.
      let d : Device = g.F.Flash.device c.args.flash.now in
      let e : Device = g.F.Flash.device c.mount.new.flash in
      let f : Device = g.F.Flash.device c.remove_orphans.new.flash in
      let own : Area = c.args.area in
      let on_it : g.S.ItemStore.mounted_on c.in-Ok.store ≡ own = c.in-Ok.ensures.on in
      let keeps : on g.S.ItemStore.contents e own ≡ on g.S.ItemStore.contents d own = c.in-Ok.ensures.keeps none in
      let step = subst (λ (x : Area). KeepsSettings (g.N.IdLayout.numbering x) (on g.S.ItemStore.contents e x) (on g.S.ItemStore.contents f x)) on_it c.remove_orphans.ensures.keeps in
      subst (λ (m : Items). KeepsSettings (g.N.IdLayout.numbering own) m (on g.S.ItemStore.contents f own)) keeps step;
  sound = λ none.
      let f : Device = g.F.Flash.device c.remove_orphans.new.flash in
      subst (λ (x : Area). on g.S.ItemStore.damage f x ≡ None) c.in-Ok.ensures.on c.remove_orphans.ensures.store.sound;
  store = let e : Device = g.F.Flash.device c.mount.new.flash in
      let own : Area = c.args.area in
      let on_it : g.S.ItemStore.mounted_on c.in-Ok.store ≡ own = c.in-Ok.ensures.on in
      let f : Device = g.F.Flash.device c.remove_orphans.new.flash in
      record {
        on_it = c.remove_orphans.ensures.store.area ∙ on_it;
        up = c.in-Ok-remove_orphans.ensures.store.up refl;
        clean = subst (λ (x : Area). HasNoOrphans (g.N.IdLayout.numbering x) (on g.S.ItemStore.contents f x)) on_it c.in-Ok-remove_orphans.ensures.ends;
      };
  touches = let e : Device = g.F.Flash.device c.mount.new.flash in
      let f : Device = g.F.Flash.device c.remove_orphans.new.flash in
      then c.in-Ok.ensures.touches (subst (λ (x : Area). Touches (x ∷ []) e f false) c.in-Ok.ensures.on c.in-Ok-remove_orphans.ensures.touches);
  order = λ none.
      let f : Device = g.F.Flash.device c.remove_orphans.new.flash in
      subst (λ (x : Area). HasNoOrphans (g.N.IdLayout.numbering x) (on g.S.ItemStore.contents f x)) c.in-Ok.ensures.on c.in-Ok-remove_orphans.ensures.ends;
  ends = c.in-Ok.ensures.ends;
}

pub returns-in-Err-remove_orphans : goal.returns-in-Err-remove_orphans
returns-in-Err-remove_orphans g c = record {
  touches = let d : Device = g.F.Flash.device c.args.flash.now in
      let e : Device = g.F.Flash.device c.mount.new.flash in
      let own : Area = c.args.area in
      let on_it : g.S.ItemStore.mounted_on c.in-Ok.store ≡ own = c.in-Ok.ensures.on in
      let f : Device = g.F.Flash.device c.remove_orphans.new.flash in
      then c.in-Ok.ensures.touches (subst (λ (x : Area). Touches (x ∷ []) e f true) on_it c.in-Err-remove_orphans.ensures.touches);
  rests = λ rest none.
      let d : Device = g.F.Flash.device c.args.flash.now in
      let e : Device = g.F.Flash.device c.mount.new.flash in
      let own : Area = c.args.area in
      let on_it : g.S.ItemStore.mounted_on c.in-Ok.store ≡ own = c.in-Ok.ensures.on in
      let idle : e ≡ d = c.in-Ok.ensures.rests rest in
      c.remove_orphans.ensures.rests (subst (λ (x : Area). HasNoOrphans (g.N.IdLayout.numbering x) (on g.S.ItemStore.contents e x)) (sym on_it) (subst (λ (y : Device). HasNoOrphans (g.N.IdLayout.numbering own) (on g.S.ItemStore.contents y own)) (sym idle) none)) ∙ idle;
  units = let d : Device = g.F.Flash.device c.args.flash.now in
      let e : Device = g.F.Flash.device c.mount.new.flash in
      let f : Device = g.F.Flash.device c.remove_orphans.new.flash in
      let own : Area = c.args.area in
      let on_it : g.S.ItemStore.mounted_on c.in-Ok.store ≡ own = c.in-Ok.ensures.on in
      let none : on g.S.ItemStore.damage d own ≡ None = c.in-Ok.ensures.ends in
      let keeps : on g.S.ItemStore.contents e own ≡ on g.S.ItemStore.contents d own = c.in-Ok.ensures.keeps none in
      let few = g.met.S.ItemStore.few d own (g.met.F.Flash.is_lawful c.args.flash.now) c.requires.lawful c.requires.serves in
      let n : Numbering = g.N.IdLayout.numbering own in
      let same : geometry_of e own ≡ geometry_of d own = geometry-stays d e own c.in-Ok.ensures.touches.banks in
      let removes : SpendsRemoving n (removal_units (geometry_of e own)) (delete_units g.S.ItemStore.removal g.S.ItemStore.entry g.S.ItemStore.roomy e own) e f (on g.S.ItemStore.contents e own) =
      subst (λ (x : Area). SpendsRemoving (g.N.IdLayout.numbering x) (removal_units (geometry_of e x)) (delete_units g.S.ItemStore.removal g.S.ItemStore.entry g.S.ItemStore.roomy e x) e f (on g.S.ItemStore.contents e x)) on_it c.remove_orphans.ensures.units in
      record {
        at_most = all-removed (geometry_of d own) d e f (len (on g.S.ItemStore.contents d own)) few c.in-Ok.ensures.units.at_most
            (subst (λ (k : Geometry). SpendsAtMost e f (len (on g.S.ItemStore.contents d own) * removal_units k)) same
            (subst (λ (m : Items). SpendsAtMost e f (len m * removal_units (geometry_of e own))) keeps removes.at_most));
        boot = λ orphans only.
            let k : Geometry = geometry_of d own in
            let there : OrphansIn n (on g.S.ItemStore.contents e own) orphans = subst (λ (m : Items). OrphansIn n m orphans) (sym keeps) only in
            boot-then (g.S.ItemStore.redo k) (g.S.ItemStore.clear k) (g.S.ItemStore.entry k) (g.S.ItemStore.removal k)
            (g.met.S.ItemStore.lean d own (g.met.F.Flash.is_lawful c.args.flash.now) c.requires.lawful c.requires.serves) (on g.S.ItemStore.roomy e own) d e f (len orphans) c.in-Ok.ensures.units.redoes c.in-Ok.ensures.units.ends
            (λ none_left. c.remove_orphans.ensures.rests (subst (λ (x : Area). HasNoOrphans (g.N.IdLayout.numbering x) (on g.S.ItemStore.contents e x)) (sym on_it) (none-left n (on g.S.ItemStore.contents e own) orphans there none_left)))
            (subst (λ (k : Geometry). (more : ℕ) → len orphans ≤ more + 1 → SpendsAtMost e f (cond (on g.S.ItemStore.roomy e own) (g.S.ItemStore.entry k) (g.S.ItemStore.removal k) + more * g.S.ItemStore.removal k)) same (removes.few orphans there));
      };
  written = λ blank.
      let e : Device = g.F.Flash.device c.mount.new.flash in
      let f : Device = g.F.Flash.device c.remove_orphans.new.flash in
      let on_it : g.S.ItemStore.mounted_on c.in-Ok.store ≡ c.args.area = c.in-Ok.ensures.on in
      c.in-Ok.ensures.written (subst (λ (x : Area). StaysWritten e f x) on_it c.remove_orphans.ensures.written blank);
  keeps = λ none.
      let d : Device = g.F.Flash.device c.args.flash.now in
      let e : Device = g.F.Flash.device c.mount.new.flash in
      let f : Device = g.F.Flash.device c.remove_orphans.new.flash in
      let own : Area = c.args.area in
      let on_it : g.S.ItemStore.mounted_on c.in-Ok.store ≡ own = c.in-Ok.ensures.on in
      let keeps : on g.S.ItemStore.contents e own ≡ on g.S.ItemStore.contents d own = c.in-Ok.ensures.keeps none in
      let step = subst (λ (x : Area). KeepsSettings (g.N.IdLayout.numbering x) (on g.S.ItemStore.contents e x) (on g.S.ItemStore.contents f x)) on_it c.remove_orphans.ensures.keeps in
      subst (λ (m : Items). KeepsSettings (g.N.IdLayout.numbering own) m (on g.S.ItemStore.contents f own)) keeps step;
  sound = λ none.
      let f : Device = g.F.Flash.device c.remove_orphans.new.flash in
      subst (λ (x : Area). on g.S.ItemStore.damage f x ≡ None) c.in-Ok.ensures.on c.remove_orphans.ensures.store.sound;
  order = λ none.
      let e : Device = g.F.Flash.device c.mount.new.flash in
      let f : Device = g.F.Flash.device c.remove_orphans.new.flash in
      let own : Area = c.args.area in
      let keeps : on g.S.ItemStore.contents e own ≡ on g.S.ItemStore.contents (g.F.Flash.device c.args.flash.now) own = c.in-Ok.ensures.keeps none in
      subst (λ (m : Items). (id : ℕ) × StopsAt (g.N.IdLayout.numbering own) m (on g.S.ItemStore.contents f own) id) keeps
      (subst (λ (x : Area). (id : ℕ) × StopsAt (g.N.IdLayout.numbering x) (on g.S.ItemStore.contents e x) (on g.S.ItemStore.contents f x) id) c.in-Ok.ensures.on c.in-Err-remove_orphans.ensures.ends);
  ends = c.in-Ok.ensures.ends;
  store = tt;
}

pub returns-in-Err : goal.returns-in-Err
returns-in-Err g c = record {
  units = let d : Device = g.F.Flash.device c.args.flash.now in
      let e : Device = g.F.Flash.device c.mount.new.flash in
      let k : Geometry = geometry_of d c.args.area in
      record {
        at_most = store-mounted k d e c.in-Err.ensures.units.at_most;
        boot = λ orphans only.
            boot-alone (g.S.ItemStore.redo k) (g.S.ItemStore.clear k) (g.S.ItemStore.entry k) (g.S.ItemStore.removal k)
            (g.met.S.ItemStore.lean d c.args.area (g.met.F.Flash.is_lawful c.args.flash.now) c.requires.lawful c.requires.serves) d e (len orphans) c.in-Err.ensures.units.redoes;
      };
  keeps = λ none. record {
    settings = ap (settings_in (g.N.IdLayout.numbering c.args.area)) (c.in-Err.ensures.keeps none);
    kept = λ id is. ap (λ (m : Items). get m id) (c.in-Err.ensures.keeps none);
    still = λ id is. subst (λ (m : Items). IsKept (g.N.IdLayout.numbering c.args.area) m id) (sym (c.in-Err.ensures.keeps none)) is;
    gone = λ id. inr (ap (λ (m : Items). get m id) (c.in-Err.ensures.keeps none));
  };
  order = λ none. (0, record { below = λ other less. absurd (omega arith); above = λ other more. ap (λ (m : Items). get m other) (c.in-Err.ensures.keeps none) });
  touches = c.in-Err.ensures.touches;
  ends = c.in-Err.ensures.ends;
  sound = c.in-Err.ensures.sound;
  rests = λ rest none. c.in-Err.ensures.rests rest;
  written = c.in-Err.ensures.written;
  store = tt;
}

pub mount-requires : goal.mount-requires
mount-requires g c = record { lawful = c.requires.lawful; serves = c.requires.serves }
