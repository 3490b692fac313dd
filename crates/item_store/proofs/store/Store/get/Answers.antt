use Rattle.std.proofs.Common.{◌≡◌, ℕ, ◌+◌, ◌%◌, ◌≤◌, List, Option, Some, None, refl, sym, ap, subst, ◌∙◌, arith}
use Rattle.std.specs.Prelude.{IfSome}
use Rattle.std.specs.Option.{option_map}
use Rattle.flash_sim.specs.Device.{Device}
use Rattle.flash_map.specs.declared.area.Area.{Area}
use Rattle.flash_map.specs.Area.{geometry_of, sectors_of}
use Rattle.item_laws.specs.Area.{open_sector}
use Rattle.item_laws.specs.Live.{all_placed}
use Rattle.item_store.specs.declared.entry.Placed.{Placed}
use Rattle.item_store.specs.Cached.{latest_of}
use Rattle.item_store.specs.SectorFormat.{SectorFormat, IsSectorFormat, slots}
use Rattle.item_store.specs.Listed.{IsPlaced}
use Rattle.item_store.proofs.Areas.{unit_is}
use Rattle.item_store.proofs.ReadFacts.{some_sectors, value_by}
use Rattle.item_store.proofs.CacheSteps.{latest-none, latest-some, latest-placed, some_or}
use Rattle.item_store.proofs.store.Store.get.Goals as goal

pub latest-requires : goal.latest-requires
latest-requires g c = c.requires

pub returns-in_err-latest : goal.returns-in_err-latest
returns-in_err-latest g c =
    let d : Device = g.F.Flash.device c.args.flash.now in
    let area : Area = c.args.self.now.area in
    let k : SectorFormat = g.T.SlotSectors.format_of (geometry_of d area) in
    let sectors : List (List ℕ) = sectors_of d area in
    let law : IsSectorFormat (g.T.SlotSectors.format_of (geometry_of d area)) = g.met.T.SlotSectors.lawful (geometry_of d area) (unit_is d area (g.met.F.Flash.is_lawful c.args.flash.now) c.requires.area.lawful) in
    record {
      value = ap (option_map (λ bytes. bytes.now)) c.from_residual.ensures
          ∙ sym (value_by g.T.SlotSectors.role g.T.SlotSectors.format_of g.T.SlotSectors.kept d c.args.self.now law (g.met.F.Flash.is_lawful c.args.flash.now) c.requires None c.args.id (sym (latest-none c.args.id (all_placed (slots k) sectors) (sym c.in_err-latest.ensures.entry))));
      none = λ _. c.in_err-latest.ensures.none refl;
      few = subst (λ (o : Option Placed). IfSome o (λ p. p.id ≡ c.args.id → c.latest.new.steps ≤ c.args.steps.now + 2)) c.in_err-latest.ensures.entry tt;
      steps = omega (arith, c.in_err-latest.ensures.step);
    }

pub bytes_at-requires : goal.bytes_at-requires
bytes_at-requires g c =
    let d : Device = g.F.Flash.device c.args.flash.now in
    let area : Area = c.args.self.now.area in
    let k : SectorFormat = g.T.SlotSectors.format_of (geometry_of d area) in
    let sectors : List (List ℕ) = sectors_of d area in
    let law : IsSectorFormat (g.T.SlotSectors.format_of (geometry_of d area)) = g.met.T.SlotSectors.lawful (geometry_of d area) (unit_is d area (g.met.F.Flash.is_lawful c.args.flash.now) c.requires.area.lawful) in
    record {
      stands = c.requires;
      placed = subst (λ (j : ℕ). IsPlaced k sectors j c.in_ok-latest.latest) (sym c.requires.current)
          (subst (λ (o : Option Placed). IfSome o (IsPlaced k sectors (open_sector k.reading sectors))) (sym c.in_ok-latest.ensures.entry) (latest-placed k law sectors (c.args.id % 64) (some_sectors g.T.SlotSectors.role g.T.SlotSectors.format_of g.T.SlotSectors.kept d c.args.self.now law (g.met.F.Flash.is_lawful c.args.flash.now) c.requires)));
    }

pub returns-then-latest-id : goal.returns-then-latest-id
returns-then-latest-id g c =
    let d : Device = g.F.Flash.device c.args.flash.now in
    let area : Area = c.args.self.now.area in
    let k : SectorFormat = g.T.SlotSectors.format_of (geometry_of d area) in
    let sectors : List (List ℕ) = sectors_of d area in
    let law : IsSectorFormat (g.T.SlotSectors.format_of (geometry_of d area)) = g.met.T.SlotSectors.lawful (geometry_of d area) (unit_is d area (g.met.F.Flash.is_lawful c.args.flash.now) c.requires.area.lawful) in
    let one = c.in_ok-latest.ensures.step in
    let two = c.bytes_at.ensures.step in
    record {
      value = c.bytes_at.ensures.value
          ∙ sym (value_by g.T.SlotSectors.role g.T.SlotSectors.format_of g.T.SlotSectors.kept d c.args.self.now law (g.met.F.Flash.is_lawful c.args.flash.now) c.requires (Some c.in_ok-latest.latest) c.args.id (sym (latest-some c.args.id (all_placed (slots k) sectors) c.in_ok-latest.latest (sym c.in_ok-latest.ensures.entry) c.if-latest-id.true)));
      none = some_or (latest_of (c.args.id % 64) (all_placed (slots k) sectors)) c.in_ok-latest.latest _ (sym c.in_ok-latest.ensures.entry);
      few = subst (λ (o : Option Placed). IfSome o (λ p. p.id ≡ c.args.id → c.bytes_at.new.steps ≤ c.args.steps.now + 2)) c.in_ok-latest.ensures.entry (λ _. omega arith);
      steps = omega (arith, c.in_ok-latest.ensures.step, c.bytes_at.ensures.step);
    }

pub search-requires : goal.search-requires
search-requires g c =
    record {
      stands = c.requires;
      latest = c.in_ok-latest.ensures.entry;
      other = c.if-latest-id.false;
    }

pub returns : goal.returns
returns g c =
    let d : Device = g.F.Flash.device c.args.flash.now in
    let area : Area = c.args.self.now.area in
    let k : SectorFormat = g.T.SlotSectors.format_of (geometry_of d area) in
    let sectors : List (List ℕ) = sectors_of d area in
    record {
      value = c.search.ensures.value;
      none = some_or (latest_of (c.args.id % 64) (all_placed (slots k) sectors)) c.in_ok-latest.latest _ (sym c.in_ok-latest.ensures.entry);
      few = subst (λ (o : Option Placed). IfSome o (λ p. p.id ≡ c.args.id → c.search.new.steps ≤ c.args.steps.now + 2)) c.in_ok-latest.ensures.entry (λ same. absurd (c.if-latest-id.false same));
      steps = omega (arith, c.in_ok-latest.ensures.step, c.search.ensures.steps);
    }
