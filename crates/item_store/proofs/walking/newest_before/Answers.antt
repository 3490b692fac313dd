use Rattle.std.proofs.Common.{◌≡◌, ℕ, ◌+◌, ◌-◌, List, length, None, sym, ap, ◌∙◌, ◌<◌, ◌≤◌, Fits, w32, arith}
use Rattle.std.specs.List.{flat_map, last_or, range_with_len}
use Rattle.item_laws.specs.Live.{counted_in}
use Rattle.item_laws.proofs.AreaReads.{length-sectors}
use Rattle.item_laws.proofs.RoundAt.{before-round}
use Rattle.item_store.specs.declared.entry.Placed.{Placed}
use Rattle.item_store.proofs.OlderSteps.{newest-behind, newest-before}
use Rattle.flash_sim.specs.Device.{Device}
use Rattle.flash_map.specs.declared.area.Area.{Area}
use Rattle.flash_map.specs.Area.{geometry_of, sectors_of}
use Rattle.item_store.specs.SectorFormat.{SectorFormat, slots}
use Rattle.item_store.proofs.SearchSteps.{before-near}
use Rattle.item_store.proofs.walking.newest_before.Goals as goal

fits-few : (n count : ℕ) → n < count → count ≤ 64 → Fits w32 (n + 1)
fits-few n count less few = omega arith

next-le : (n count : ℕ) → n < count → n + 1 ≤ count
next-le n count less = omega arith

less-le : (n count : ℕ) → n < count → n ≤ count
less-le n count less = omega arith

none-le : (n : ℕ) → 0 ≤ n
none-le n = omega arith

same-le : (n : ℕ) → n ≤ n
same-le n = omega arith

pub overflow_add-on : goal.overflow_add-on
overflow_add-on g c = fits-few _ _ c.requires.on.current c.requires.on.area.lawful.few

pub newest_among-requires : goal.newest_among-requires
newest_among-requires g c =
    record {
      on = c.requires.on;
      order = next-le _ _ c.if-on-place.true;
      inside = less-le _ _ c.requires.inside;
    }

pub returns-then-on-place : goal.returns-then-on-place
returns-then-on-place g c =
    let d : Device = g.F.Flash.device c.args.flash.now in
    let area : Area = c.args.on.now.area.now in
    let k : SectorFormat = g.T.SlotSectors.format_of (geometry_of d area) in
    let sectors : List (List ℕ) = sectors_of d area in
    record {
      last = c.newest_among.ensures.last ∙ ap (λ (js : List ℕ). last_or None (flat_map (counted_in (slots k) sectors c.args.on.now.current) js)) (before-near (length sectors) c.args.on.now.current c.args.place c.if-on-place.true);
      placed = c.newest_among.ensures.placed;
    }

pub newest_among-newest-requires : goal.newest_among-newest-requires
newest_among-newest-requires g c =
    record {
      on = c.requires.on;
      order = none-le c.args.place;
      inside = less-le _ _ c.requires.inside;
    }

pub returns-then-is_some : goal.returns-then-is_some
returns-then-is_some g c =
    let d : Device = g.F.Flash.device c.args.flash.now in
    let area : Area = c.args.on.now.area.now in
    let k : SectorFormat = g.T.SlotSectors.format_of (geometry_of d area) in
    let sectors : List (List ℕ) = sectors_of d area in
    let older : List Placed = flat_map (counted_in (slots k) sectors c.args.on.now.current) (range_with_len (c.args.on.now.current + 1) (length sectors - (c.args.on.now.current + 1))) in
    let newer : List Placed = flat_map (counted_in (slots k) sectors c.args.on.now.current) (range_with_len 0 (c.args.place - 0)) in
    record {
      last = newest-behind older newer c.newest_among-newest.result c.newest_among-newest.ensures.last (sym c.is_some.ensures ∙ c.if-is_some.true)
          ∙ ap (last_or None) (before-round (counted_in (slots k) sectors c.args.on.now.current) (length sectors) c.args.on.now.current c.args.place c.if-on-place.false);
      placed = c.newest_among-newest.ensures.placed;
    }

pub overflow_add-on-2 : goal.overflow_add-on-2
overflow_add-on-2 g c = fits-few _ _ c.requires.on.current c.requires.on.area.lawful.few

pub newest_among-requires-2 : goal.newest_among-requires-2
newest_among-requires-2 g c =
    record {
      on = c.requires.on;
      order = next-le _ _ c.requires.on.current;
      inside = same-le c.args.on.now.area.now.sectors;
    }

pub returns : goal.returns
returns g c =
    let d : Device = g.F.Flash.device c.args.flash.now in
    let area : Area = c.args.on.now.area.now in
    let k : SectorFormat = g.T.SlotSectors.format_of (geometry_of d area) in
    let sectors : List (List ℕ) = sectors_of d area in
    let older : List Placed = flat_map (counted_in (slots k) sectors c.args.on.now.current) (range_with_len (c.args.on.now.current + 1) (length sectors - (c.args.on.now.current + 1))) in
    let newer : List Placed = flat_map (counted_in (slots k) sectors c.args.on.now.current) (range_with_len 0 (c.args.place - 0)) in
    let count : area.sectors ≡ length sectors = sym (length-sectors d area) in
    record {
      last = newest-before older newer c.newest_among-newest.result c.newest_among-2.result c.newest_among-newest.ensures.last (sym c.is_some.ensures ∙ c.if-is_some.false)
          (c.newest_among-2.ensures.last ∙ ap (λ (n : ℕ). last_or None (flat_map (counted_in (slots k) sectors c.args.on.now.current) (range_with_len (c.args.on.now.current + 1) (n - (c.args.on.now.current + 1))))) count)
          ∙ ap (last_or None) (before-round (counted_in (slots k) sectors c.args.on.now.current) (length sectors) c.args.on.now.current c.args.place c.if-on-place.false);
      placed = c.newest_among-2.ensures.placed;
    }
