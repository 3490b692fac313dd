use Rattle.std.proofs.Common.{◌≡◌, ℕ, ◌+◌, ◌-◌, eqb, List, length, sym, ap, ◌∙◌, arith, ◌<◌, ◌≤◌, Fits, w32}
use Rattle.std.specs.List.{flat_map, range_with_len}
use Rattle.std.proofs.lemmas.List.Concat.{flat_map-append}
use Rattle.flash_sim.specs.Device.{Device}
use Rattle.flash_map.specs.Area.{geometry_of, sectors_of}
use Rattle.item_laws.specs.Live.{counted_in, last_of}
use Rattle.item_laws.proofs.AreaReads.{length-sectors}
use Rattle.item_laws.proofs.Newest.{newest-behind, newest-before}
use Rattle.item_store.specs.declared.entry.Placed.{Placed}
use Rattle.item_store.specs.SectorFormat.{SectorFormat, slots}
use Rattle.item_store.proofs.SearchSteps.{before-near, before-far}
use Rattle.item_store.proofs.searching.find_before.Goals as goal

fits-few : (n count : ℕ) → n < count → count ≤ 64 → Fits w32 (n + 1)
fits-few n count less few = omega arith

next-le : (n count : ℕ) → n < count → n + 1 ≤ count
next-le n count less = omega arith

none-le : (n : ℕ) → 0 ≤ n
none-le n = omega arith

same-le : (n : ℕ) → n ≤ n
same-le n = omega arith

less-le : (n count : ℕ) → n < count → n ≤ count
less-le n count less = omega arith

pub overflow_add-on : goal.overflow_add-on
overflow_add-on g c = fits-few _ _ c.requires.on.current c.requires.on.area.lawful.few

pub find_among-requires : goal.find_among-requires
find_among-requires g c =
    record {
      on = c.requires.on;
      ignores = c.requires.rested;
      order = next-le _ _ c.if-on-place.true;
      inside = less-le _ _ c.requires.inside;
    }

pub returns-then-on-place-clause-last : goal.returns-then-on-place-clause-last
returns-then-on-place-clause-last g c =
    let d : Device = g.F.Flash.device c.args.flash.now in
    let k : SectorFormat = g.T.SlotSectors.format_of (geometry_of d c.args.on.now.area.now) in
    let sectors : List (List ℕ) = sectors_of d c.args.on.now.area.now in
    c.find_among.ensures.last ∙ ap (λ (js : List ℕ). last_of (slots k) c.args.id (flat_map (counted_in (slots k) sectors c.args.on.now.current) js)) (before-near (length sectors) c.args.on.now.current c.args.place c.if-on-place.true)

pub returns-then-on-place-clause-steps : goal.returns-then-on-place-clause-steps
returns-then-on-place-clause-steps g c = omega (arith, c.find_among.ensures.steps, c.if-on-place.true, c.requires.inside)

pub find_among-newest-requires : goal.find_among-newest-requires
find_among-newest-requires g c =
    record {
      on = c.requires.on;
      ignores = c.requires.rested;
      order = none-le c.args.place;
      inside = less-le _ _ c.requires.inside;
    }

pub returns-then-is_some-clause-last : goal.returns-then-is_some-clause-last
returns-then-is_some-clause-last g c =
    let d : Device = g.F.Flash.device c.args.flash.now in
    let k : SectorFormat = g.T.SlotSectors.format_of (geometry_of d c.args.on.now.area.now) in
    let sectors : List (List ℕ) = sectors_of d c.args.on.now.area.now in
    let row : ℕ → List Placed = counted_in (slots k) sectors c.args.on.now.current in
    let older : List ℕ = range_with_len (c.args.on.now.current + 1) (length sectors - (c.args.on.now.current + 1)) in
    let newer : List ℕ = range_with_len 0 (c.args.place - 0) in
    newest-behind (λ (p : Placed). eqb p.id c.args.id) (flat_map row older) (flat_map row newer) c.find_among-newest.result c.find_among-newest.ensures.last (sym c.is_some.ensures ∙ c.if-is_some.true)
    ∙ ap (last_of (slots k) c.args.id) (sym (flat_map-append row older newer) ∙ ap (flat_map row) (before-far (length sectors) c.args.on.now.current c.args.place c.if-on-place.false))

pub returns-then-is_some-clause-steps : goal.returns-then-is_some-clause-steps
returns-then-is_some-clause-steps g c = omega (arith, c.find_among-newest.ensures.steps, c.requires.inside)

pub overflow_add-on-2 : goal.overflow_add-on-2
overflow_add-on-2 g c = fits-few _ _ c.requires.on.current c.requires.on.area.lawful.few

pub find_among-requires-2 : goal.find_among-requires-2
find_among-requires-2 g c =
    record {
      on = c.requires.on;
      ignores = c.requires.rested;
      order = next-le _ _ c.requires.on.current;
      inside = same-le c.args.on.now.area.now.sectors;
    }

pub returns-clause-last : goal.returns-clause-last
returns-clause-last g c =
    let d : Device = g.F.Flash.device c.args.flash.now in
    let k : SectorFormat = g.T.SlotSectors.format_of (geometry_of d c.args.on.now.area.now) in
    let sectors : List (List ℕ) = sectors_of d c.args.on.now.area.now in
    let row : ℕ → List Placed = counted_in (slots k) sectors c.args.on.now.current in
    let older : List ℕ = range_with_len (c.args.on.now.current + 1) (length sectors - (c.args.on.now.current + 1)) in
    let newer : List ℕ = range_with_len 0 (c.args.place - 0) in
    let count : c.args.on.now.area.now.sectors ≡ length sectors = sym (length-sectors d c.args.on.now.area.now) in
    newest-before (λ (p : Placed). eqb p.id c.args.id) (flat_map row older) (flat_map row newer) c.find_among-newest.result c.find_among-2.result c.find_among-newest.ensures.last (sym c.is_some.ensures ∙ c.if-is_some.false)
    (c.find_among-2.ensures.last ∙ ap (λ (n : ℕ). last_of (slots k) c.args.id (flat_map row (range_with_len (c.args.on.now.current + 1) (n - (c.args.on.now.current + 1))))) count)
    ∙ ap (last_of (slots k) c.args.id) (sym (flat_map-append row older newer) ∙ ap (flat_map row) (before-far (length sectors) c.args.on.now.current c.args.place c.if-on-place.false))

pub returns-clause-steps : goal.returns-clause-steps
returns-clause-steps g c = omega (arith, c.find_among-newest.ensures.steps, c.find_among-2.ensures.steps, c.if-on-place.false, c.requires.inside)
