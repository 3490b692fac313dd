use Rattle.std.proofs.Common.{◌≡◌, ℕ, ◌+◌, ◌-◌, ◌≤◌, List, Some, None, sym, subst, ◌∙◌, inr, refl, arith}
use Rattle.std.specs.Option.{option_map}
use Rattle.flash_sim.specs.Device.{Device}
use Rattle.flash_map.specs.declared.area.Area.{Area}
use Rattle.flash_map.specs.Area.{geometry_of, sectors_of, sector_at}
use Rattle.item_laws.proofs.AreaReads.{length-sectors}
use Rattle.item_store.specs.declared.lasts.Lasts.{Lasts}
use Rattle.item_store.specs.SectorFormat.{SectorFormat, IsSectorFormat, placed_at}
use Rattle.item_store.specs.Lasts.{AreOthers}
use Rattle.item_store.proofs.Areas.{unit_is, open_inside}
use Rattle.item_store.proofs.LastsSlots.{at-none, covered-none, at-some, next-new, covered-new, covered-old}
use Rattle.item_store.proofs.lasts.Lasts.look_at_slot.Goals as goal

pub look_back-look-requires : goal.look_back-look-requires
look_back-look-requires g c =
    let d : Device = g.F.Flash.device c.args.flash.now in
    let area : Area = c.args.area.now in
    record {
      area = c.requires.area;
      inside = omega (arith, length-sectors d area, c.requires.at.inside);
      listed = omega (arith, c.requires.at.left, c.requires.some_left);
    }

pub is_new-requires : goal.is_new-requires
is_new-requires g c = c.requires.at.range

pub returns-then-is_new : goal.returns-then-is_new
returns-then-is_new g c =
    let d : Device = g.F.Flash.device c.args.flash.now in
    let area : Area = c.args.area.now in
    let k : SectorFormat = g.T.SlotSectors.format_of (geometry_of d area) in
    let sectors : List (List ℕ) = sectors_of d area in
    let law : IsSectorFormat (g.T.SlotSectors.format_of (geometry_of d area)) = g.met.T.SlotSectors.lawful (geometry_of d area) (unit_is d area (g.met.F.Flash.is_lawful c.args.flash.now) c.requires.area.lawful) in
    let old : Lasts = c.args.self.now in
    let found : Some c.in-Some.placed ≡ option_map (placed_at old.place) (k.in_slot (sector_at sectors old.place) (k.first + (old.left - 1))) =
    sym c.in-Some.is ∙ c.look_back-look.ensures.look.entry in
    let fewer : c.is_new.new.self.left ≤ old.left - 1 = omega (arith, c.look_back-look.ensures.look.few, c.is_new.ensures.left) in
    let others : AreOthers k (sector_at sectors old.place) c.is_new.new.self.left (old.left - 1) old.least old.most =
    subst (λ (n : ℕ). AreOthers k (sector_at sectors old.place) n (old.left - 1) old.least old.most) (sym c.is_new.ensures.left) c.look_back-look.ensures.look.others in
    let low = open_inside k d area c.args.current c.requires.area.lawful c.requires.current in
    let long = length-sectors d area in
    record {
      at = at-some k law sectors c.args.current old c.is_new.new.self c.requires.at c.requires.some_left c.is_new.ensures.range c.is_new.ensures.place fewer others c.in-Some.placed found c.is_new.ensures.noted;
      range = c.is_new.ensures.range;
      place = c.is_new.ensures.place;
      reads = record {
        fewer = omega (arith, c.requires.some_left, c.look_back-look.ensures.look.few, c.is_new.ensures.left);
        steps = c.look_back-look.ensures.step;
      };
      next = next-new k law sectors c.args.current old c.is_new.new.self c.requires.at c.requires.some_left c.is_new.ensures.range c.is_new.ensures.place fewer others c.in-Some.placed found
          c.is_new.result c.is_new.ensures.new c.if-is_new.true (sym c.requires.current) (omega arith);
      covered = covered-new k law sectors c.args.current old c.is_new.new.self c.requires.at c.requires.some_left c.is_new.ensures.range c.is_new.ensures.place fewer others c.in-Some.placed found
          c.is_new.result c.is_new.ensures.new c.if-is_new.true;
    }

pub returns-else-is_new : goal.returns-else-is_new
returns-else-is_new g c =
    let d : Device = g.F.Flash.device c.args.flash.now in
    let area : Area = c.args.area.now in
    let k : SectorFormat = g.T.SlotSectors.format_of (geometry_of d area) in
    let sectors : List (List ℕ) = sectors_of d area in
    let law : IsSectorFormat (g.T.SlotSectors.format_of (geometry_of d area)) = g.met.T.SlotSectors.lawful (geometry_of d area) (unit_is d area (g.met.F.Flash.is_lawful c.args.flash.now) c.requires.area.lawful) in
    let old : Lasts = c.args.self.now in
    let found : Some c.in-Some.placed ≡ option_map (placed_at old.place) (k.in_slot (sector_at sectors old.place) (k.first + (old.left - 1))) =
    sym c.in-Some.is ∙ c.look_back-look.ensures.look.entry in
    let fewer : c.is_new.new.self.left ≤ old.left - 1 = omega (arith, c.look_back-look.ensures.look.few, c.is_new.ensures.left) in
    let others : AreOthers k (sector_at sectors old.place) c.is_new.new.self.left (old.left - 1) old.least old.most =
    subst (λ (n : ℕ). AreOthers k (sector_at sectors old.place) n (old.left - 1) old.least old.most) (sym c.is_new.ensures.left) c.look_back-look.ensures.look.others in
    record {
      at = at-some k law sectors c.args.current old c.is_new.new.self c.requires.at c.requires.some_left c.is_new.ensures.range c.is_new.ensures.place fewer others c.in-Some.placed found c.is_new.ensures.noted;
      range = c.is_new.ensures.range;
      place = c.is_new.ensures.place;
      reads = record {
        fewer = omega (arith, c.requires.some_left, c.look_back-look.ensures.look.few, c.is_new.ensures.left);
        steps = c.look_back-look.ensures.step;
      };
      next = tt;
      covered = λ p covered. inr (covered-old k law sectors c.args.current old c.is_new.new.self c.requires.at c.requires.some_left c.is_new.ensures.range c.is_new.ensures.place fewer others c.in-Some.placed found
          c.is_new.result c.is_new.ensures.new c.if-is_new.false p covered);
    }

pub returns-in-None : goal.returns-in-None
returns-in-None g c =
    let d : Device = g.F.Flash.device c.args.flash.now in
    let area : Area = c.args.area.now in
    let k : SectorFormat = g.T.SlotSectors.format_of (geometry_of d area) in
    let sectors : List (List ℕ) = sectors_of d area in
    let law : IsSectorFormat (g.T.SlotSectors.format_of (geometry_of d area)) = g.met.T.SlotSectors.lawful (geometry_of d area) (unit_is d area (g.met.F.Flash.is_lawful c.args.flash.now) c.requires.area.lawful) in
    let old : Lasts = c.args.self.now in
    let found : None ≡ option_map (placed_at old.place) (k.in_slot (sector_at sectors old.place) (k.first + (old.left - 1))) =
    sym c.in-None.is ∙ c.look_back-look.ensures.look.entry in
    let new : Lasts = record { least = old.least; most = old.most; place = old.place; left = c.look_back-look.result.reach; seen = old.seen } in
    record {
      at = at-none k law sectors c.args.current old new c.requires.at c.requires.some_left (refl, refl) refl c.look_back-look.ensures.look.few c.look_back-look.ensures.look.others found refl;
      range = (refl, refl);
      place = refl;
      reads = record {
        fewer = omega (arith, c.requires.some_left, c.look_back-look.ensures.look.few);
        steps = c.look_back-look.ensures.step;
      };
      next = tt;
      covered = λ p covered. inr (covered-none k law sectors c.args.current old new c.requires.at c.requires.some_left (refl, refl) refl c.look_back-look.ensures.look.few c.look_back-look.ensures.look.others found p covered);
    }
