use Rattle.std.proofs.Common.{◌≡◌, ℕ, inl, refl, sym, subst, ◌∷◌, []}
use Rattle.flash_sim.specs.Device.{Device}
use Rattle.flash_map.specs.declared.area.Area.{Area}
use Rattle.flash_map.specs.Area.{geometry_of, sector_size, sectors_of}
use Rattle.item_laws.specs.Forms.{AtRest, Collecting}
use Rattle.item_store.specs.SectorFormat.{SectorFormat, IsSectorFormat}
use Rattle.item_store.specs.Collecting.{CollectsAt, EmptiesVictim, redo_of, redo_list, redo_units, KeepsOrRedoes, MarksFirst}
use Rattle.item_store.specs.Standing.{list_of, SpendsIn, SpendsUpTo}
use Rattle.item_store.specs.declared.entry.Redo.TheVariants.{CollectAgain}
use Rattle.item_store.proofs.Areas.{unit_is, form_undamaged}
use Rattle.item_store.proofs.MountSteps.{mount-room, mount-most, mount-most_lost, mount-nothing}
use Rattle.item_store.proofs.RoomFacts.{stands_with}
use Rattle.item_store.proofs.Standings.{stands}
use Rattle.item_store.proofs.WrittenFacts.{stays-written}
use Rattle.item_store.proofs.KnownSlots.{known_none}
use Rattle.flash_map.proofs.Touches.{untouched}
use Rattle.item_store.proofs.store.Store.mount_with.Goals as goal

pub keep-opened-requires : goal.keep-opened-requires
keep-opened-requires g c =
    record {
      area = c.requires.area;
      inside = c.in-Ok.ensures.within;
    }

pub redo-requires : goal.redo-requires
redo-requires g c =
    record {
      area = c.requires.area;
      undamaged = c.in-Ok.ensures.undamaged;
      current = c.in-Ok.ensures.opened;
      kept = c.keep-opened.ensures;
    }

pub fill-requires-clause-on : goal.fill-requires-clause-on
fill-requires-clause-on g c =
    let a : Device = g.F.Flash.device c.args.flash.now in
    let d : Device = g.F.Flash.device c.redo.new.flash in
    let area : Area = c.args.area in
    let law : IsSectorFormat (g.T.SlotSectors.format_of (geometry_of a area)) = g.met.T.SlotSectors.lawful (geometry_of a area) (unit_is a area (g.met.F.Flash.is_lawful c.args.flash.now) c.requires.area.lawful) in
    let did = c.in-Ok-redo.ensures in
    let there = stands g.T.SlotSectors.role g.T.SlotSectors.format_of g.T.SlotSectors.kept a d area c.in-Ok.current c.redo.new.opened law did.touches.banks c.requires.area did.ends.rested did.ends.kept in
    record { area = there.area; kept = there.opened; current = there.current; known = known_none g.T.SlotSectors.format_of d area }

pub fill-requires-clause-empty : goal.fill-requires-clause-empty
fill-requires-clause-empty g c =
    c.requires.empty

pub returns-in-Err : goal.returns-in-Err
returns-in-Err g c =
    let a : Device = g.F.Flash.device c.args.flash.now in
    record {
      touches = untouched (c.args.area ∷ []) (g.F.Flash.device c.args.flash.now);
      ends = (c.in-Err.ensures.damaged, refl);
      at_most = mount-nothing a ((g.T.SlotSectors.format_of (geometry_of a c.args.area)).units.mount (sector_size a c.args.area));
      written = λ written. written;
      changed = inl refl;
      marks = inl refl;
    }

pub returns-in-Err-redo : goal.returns-in-Err-redo
returns-in-Err-redo g c =
    let a : Device = g.F.Flash.device c.args.flash.now in
    let d : Device = g.F.Flash.device c.redo.new.flash in
    let area : Area = c.args.area in
    let k : SectorFormat = g.T.SlotSectors.format_of (geometry_of a area) in
    let found = c.in-Ok.ensures in
    let did = c.in-Err-redo.ensures in
    let law = g.met.T.SlotSectors.lawful (geometry_of a c.args.area) (unit_is a c.args.area (g.met.F.Flash.is_lawful c.args.flash.now) c.requires.area.lawful) in
    record {
      touches = c.in-Err-redo.ensures.touches;
      ends = (
        found.undamaged,
        did.items,
        subst (λ (p : ℕ). SpendsUpTo a d (redo_units k (sectors_of a area) p (redo_of k (sectors_of a area) p))) found.opened did.ends.spends_lost,
        λ rest. did.ends.busy (subst (λ (p : ℕ). AtRest (g.T.SlotSectors.format_of (geometry_of a area)).reading (sectors_of a area) p) (sym found.opened) rest),
        subst (λ (p : ℕ). KeepsOrRedoes k (sectors_of a area) (sectors_of d area) p) found.opened did.ends.list_lost,
      );
      at_most = mount-most_lost (g.T.SlotSectors.format_of (geometry_of a c.args.area)) law g.T.SlotSectors.role a c.args.area (g.met.F.Flash.is_lawful c.args.flash.now) c.requires.area found.undamaged c.in-Ok.current found.opened (g.F.Flash.device c.redo.new.flash) c.in-Err-redo.ensures.ends.spends_lost;
      written = stays-written (g.T.SlotSectors.format_of (geometry_of a area)) a d area c.in-Err-redo.ensures.written;
      changed = c.in-Err-redo.ensures.written;
      marks = subst (λ (p : ℕ). MarksFirst (g.T.SlotSectors.format_of (geometry_of a area)) (sectors_of a area) (sectors_of d area) p) c.in-Ok.ensures.opened c.in-Err-redo.ensures.marks;
    }

pub returns-in-Ok-redo : goal.returns-in-Ok-redo
returns-in-Ok-redo g c =
    let a : Device = g.F.Flash.device c.args.flash.now in
    let d : Device = g.F.Flash.device c.redo.new.flash in
    let area : Area = c.args.area in
    let k : SectorFormat = g.T.SlotSectors.format_of (geometry_of a area) in
    let law : IsSectorFormat (g.T.SlotSectors.format_of (geometry_of a area)) = g.met.T.SlotSectors.lawful (geometry_of a area) (unit_is a area (g.met.F.Flash.is_lawful c.args.flash.now) c.requires.area.lawful) in
    let found = c.in-Ok.ensures in
    let did = c.in-Ok-redo.ensures in
    record {
      touches = c.in-Ok-redo.ensures.touches;
      ends = (
        found.undamaged,
        stands_with g.T.SlotSectors.role g.T.SlotSectors.format_of g.T.SlotSectors.kept d area c.in-Ok.current c.redo.new.opened c.fill.new.cache (stands g.T.SlotSectors.role g.T.SlotSectors.format_of g.T.SlotSectors.kept a d area c.in-Ok.current c.redo.new.opened law did.touches.banks c.requires.area did.ends.rested did.ends.kept) c.fill.ensures,
        refl,
        did.items,
        subst (λ (p : ℕ). SpendsIn a d (redo_units k (sectors_of a area) p (redo_of k (sectors_of a area) p))) found.opened did.ends.spends,
        λ rest. did.same (subst (λ (p : ℕ). AtRest (g.T.SlotSectors.format_of (geometry_of a area)).reading (sectors_of a area) p) (sym found.opened) rest),
        subst (λ (p : ℕ). list_of k (sectors_of d area) ≡ redo_list k (sectors_of a area) p (redo_of k (sectors_of a area) p)) found.opened did.ends.list,
        λ again. mount-room k law g.T.SlotSectors.role a area (g.met.F.Flash.is_lawful c.args.flash.now) c.requires.area found.undamaged c.in-Ok.current found.opened (sectors_of d area)
            (subst (λ (p : ℕ). redo_of k (sectors_of a area) p ≡ CollectAgain) (sym found.opened) again) did.ends.collects (form_undamaged k law (sectors_of d area) c.in-Ok.current (inl did.ends.rested)).0,
        subst (λ (p : ℕ). ¬ AtRest (g.T.SlotSectors.format_of (geometry_of a area)).reading (sectors_of a area) p → EmptiesVictim (g.T.SlotSectors.format_of (geometry_of a area)) (sectors_of a area) (sectors_of d area) p) found.opened did.ends.empties,
        subst (λ (p : ℕ). Collecting k.reading (sectors_of a area) p → CollectsAt k (sectors_of a area) (sectors_of d area) p) found.opened did.ends.collects,
      );
      at_most = let law = g.met.T.SlotSectors.lawful (geometry_of a c.args.area) (unit_is a c.args.area (g.met.F.Flash.is_lawful c.args.flash.now) c.requires.area.lawful) in
          mount-most (g.T.SlotSectors.format_of (geometry_of a c.args.area)) law g.T.SlotSectors.role a c.args.area (g.met.F.Flash.is_lawful c.args.flash.now) c.requires.area found.undamaged c.in-Ok.current found.opened (g.F.Flash.device c.redo.new.flash) c.in-Ok-redo.ensures.ends.spends;
      written = stays-written (g.T.SlotSectors.format_of (geometry_of a area)) a d area c.in-Ok-redo.ensures.written;
      changed = c.in-Ok-redo.ensures.written;
      marks = subst (λ (p : ℕ). MarksFirst (g.T.SlotSectors.format_of (geometry_of a area)) (sectors_of a area) (sectors_of d area) p) c.in-Ok.ensures.opened c.in-Ok-redo.ensures.marks;
    }
