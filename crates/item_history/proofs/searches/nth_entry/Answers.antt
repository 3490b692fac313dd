use Rattle.std.proofs.Common.{◌≡◌, ℕ, ◌+◌, ◌<◌, List, ◌++◌, length, map, refl, sym, ap, subst, ◌∙◌, arith}
use Rattle.item_laws.specs.Live.{counted_in, all_placed}
use Rattle.item_laws.proofs.AreaReads.{length-sectors, next_there, previous_there}
use Rattle.item_laws.proofs.Lists.{counts-at_rest}
use Rattle.item_laws.proofs.Places.{after, before}
use Rattle.item_store.specs.Seen.{behind}
use Rattle.item_store.proofs.CostSteps.{start_seen, more_seen, left, fewer_left}
use Rattle.flash_sim.specs.Device.{Device}
use Rattle.flash_map.specs.declared.area.Area.{Area}
use Rattle.flash_map.specs.Area.{geometry_of, sectors_of, sector_at}
use Rattle.item_store.specs.declared.entry.Placed.{Placed}
use Rattle.item_store.specs.SectorFormat.{SectorFormat, IsSectorFormat, placed_at, slots, entries}
use Rattle.item_store.proofs.Areas.{unit_is, open_inside}
use Rattle.item_history.specs.declared.searches.Search.{Search}
use Rattle.item_history.specs.declared.searches.Search.TheVariants.{Found, Left}
use Rattle.item_history.specs.Searches.{of_id, EndsIn}
use Rattle.item_history.proofs.SearchSteps.{counted_here, split_at, split_oldest, pass_more, found_more, ends_none}
use Rattle.item_history.proofs.searches.nth_entry.Goals as goal

pub next-oldest-requires : goal.next-oldest-requires
next-oldest-requires g c =
    let d : Device = g.F.Flash.device c.args.flash.now in
    let area : Area = c.args.area.now in
    let k : SectorFormat = g.T.SlotSectors.format_of (geometry_of d area) in
    let sectors : List (List ℕ) = sectors_of d area in
    let law : IsSectorFormat (g.T.SlotSectors.format_of (geometry_of d area)) = g.met.T.SlotSectors.lawful (geometry_of d area) (unit_is d area (g.met.F.Flash.is_lawful c.args.flash.now) c.requires.area.lawful) in
    let long = length-sectors d area in
    let within : c.args.current < area.sectors = open_inside k d area c.args.current c.requires.area.lawful c.requires.current in
    let low : c.args.current < length sectors = omega arith in
    within

pub loop-place-init : goal.loop-place-init
loop-place-init g c =
    let d : Device = g.F.Flash.device c.args.flash.now in
    let area : Area = c.args.area.now in
    let k : SectorFormat = g.T.SlotSectors.format_of (geometry_of d area) in
    let sectors : List (List ℕ) = sectors_of d area in
    let law : IsSectorFormat (g.T.SlotSectors.format_of (geometry_of d area)) = g.met.T.SlotSectors.lawful (geometry_of d area) (unit_is d area (g.met.F.Flash.is_lawful c.args.flash.now) c.requires.area.lawful) in
    let long = length-sectors d area in
    let within : c.args.current < area.sectors = open_inside k d area c.args.current c.requires.area.lawful c.requires.current in
    let low : c.args.current < length sectors = omega arith in
    let start : c.args.n ≡ 0 + c.args.n = omega arith in
    record {
      within = within;
      passed = subst (λ (xs : List Placed). EndsIn (of_id c.args.id xs) c.args.n (Left c.args.n)) (sym (start_seen k sectors c.args.current low)) start;
    }

pub pass_sector-requires-clause-inside : goal.pass_sector-requires-clause-inside
pass_sector-requires-clause-inside g c = c.loop-place.invariant.within

pub previous-place-requires : goal.previous-place-requires
previous-place-requires g c = c.loop-place.invariant.within

pub returns-in-Found-clause-entry : goal.returns-in-Found-clause-entry
returns-in-Found-clause-entry g c =
    let d : Device = g.F.Flash.device c.args.flash.now in
    let area : Area = c.args.area.now in
    let k : SectorFormat = g.T.SlotSectors.format_of (geometry_of d area) in
    let sectors : List (List ℕ) = sectors_of d area in
    let law : IsSectorFormat (g.T.SlotSectors.format_of (geometry_of d area)) = g.met.T.SlotSectors.lawful (geometry_of d area) (unit_is d area (g.met.F.Flash.is_lawful c.args.flash.now) c.requires.area.lawful) in
    let long = length-sectors d area in
    let within : c.args.current < area.sectors = open_inside k d area c.args.current c.requires.area.lawful c.requires.current in
    let low : c.args.current < length sectors = omega arith in
    let old : c.next-oldest.result ≡ after (length sectors) c.args.current = c.next-oldest.ensures.value ∙ next_there d area c.args.current in
    let now = c.loop-place.invariant in
    let inside : c.loop-place.place < length sectors = omega (arith, now.within) in
    let counts = counts-at_rest k.reading sectors c.args.current c.requires.rested.blanks c.loop-place.place c.requires.rested.ring c.requires.rested.some in
    let here = counted_here k sectors c.args.current low c.requires.current c.loop-place.place counts in
    let part : List Placed = counted_in (slots k) sectors c.args.current c.loop-place.place in
    let passed : List Placed = behind k sectors c.args.current c.loop-place.place in
    let own : (r : Search) → EndsIn (of_id c.args.id (map (placed_at c.loop-place.place) (entries k (sector_at sectors c.loop-place.place)))) c.loop-place.left r → EndsIn (of_id c.args.id (part ++ passed)) c.args.n r =
    λ r is. pass_more c.args.id part passed (part ++ passed) c.args.n c.loop-place.left r refl now.passed (subst (λ (xs : List Placed). EndsIn (of_id c.args.id xs) c.loop-place.left r) (sym here) is) in
    sym (found_more c.args.id _ (part ++ passed) (all_placed (slots k) sectors) c.args.n c.in-Found.placed (split_at k sectors c.args.current low c.requires.current c.loop-place.place inside) (own (Found c.in-Found.placed) c.in-Found.ensures.entry))

pub loop-place-preserved : goal.loop-place-preserved
loop-place-preserved g c =
    let d : Device = g.F.Flash.device c.args.flash.now in
    let area : Area = c.args.area.now in
    let k : SectorFormat = g.T.SlotSectors.format_of (geometry_of d area) in
    let sectors : List (List ℕ) = sectors_of d area in
    let law : IsSectorFormat (g.T.SlotSectors.format_of (geometry_of d area)) = g.met.T.SlotSectors.lawful (geometry_of d area) (unit_is d area (g.met.F.Flash.is_lawful c.args.flash.now) c.requires.area.lawful) in
    let long = length-sectors d area in
    let within : c.args.current < area.sectors = open_inside k d area c.args.current c.requires.area.lawful c.requires.current in
    let low : c.args.current < length sectors = omega arith in
    let old : c.next-oldest.result ≡ after (length sectors) c.args.current = c.next-oldest.ensures.value ∙ next_there d area c.args.current in
    let now = c.loop-place.invariant in
    let inside : c.loop-place.place < length sectors = omega (arith, now.within) in
    let counts = counts-at_rest k.reading sectors c.args.current c.requires.rested.blanks c.loop-place.place c.requires.rested.ring c.requires.rested.some in
    let here = counted_here k sectors c.args.current low c.requires.current c.loop-place.place counts in
    let part : List Placed = counted_in (slots k) sectors c.args.current c.loop-place.place in
    let passed : List Placed = behind k sectors c.args.current c.loop-place.place in
    let own : (r : Search) → EndsIn (of_id c.args.id (map (placed_at c.loop-place.place) (entries k (sector_at sectors c.loop-place.place)))) c.loop-place.left r → EndsIn (of_id c.args.id (part ++ passed)) c.args.n r =
    λ r is. pass_more c.args.id part passed (part ++ passed) c.args.n c.loop-place.left r refl now.passed (subst (λ (xs : List Placed). EndsIn (of_id c.args.id xs) c.loop-place.left r) (sym here) is) in
    let apart : c.loop-place.place ≡ after (length sectors) c.args.current → ⊥ = λ (e : c.loop-place.place ≡ after (length sectors) c.args.current). c.loop-place-test.true (e ∙ sym old) in
    let back : c.previous-place.result ≡ before (length sectors) c.loop-place.place = c.previous-place.ensures.value ∙ previous_there d area c.loop-place.place in
    record {
      within = c.previous-place.ensures.within;
      passed = subst (λ (xs : List Placed). EndsIn (of_id c.args.id xs) c.args.n (Left c.in-Left.more)) (more_seen k sectors c.args.current low c.loop-place.place inside apart ∙ ap (behind k sectors c.args.current) (sym back)) (own (Left c.in-Left.more) c.in-Left.ensures.entry);
    }

pub loop-place-smaller : goal.loop-place-smaller
loop-place-smaller g c =
    let d : Device = g.F.Flash.device c.args.flash.now in
    let area : Area = c.args.area.now in
    let k : SectorFormat = g.T.SlotSectors.format_of (geometry_of d area) in
    let sectors : List (List ℕ) = sectors_of d area in
    let law : IsSectorFormat (g.T.SlotSectors.format_of (geometry_of d area)) = g.met.T.SlotSectors.lawful (geometry_of d area) (unit_is d area (g.met.F.Flash.is_lawful c.args.flash.now) c.requires.area.lawful) in
    let long = length-sectors d area in
    let within : c.args.current < area.sectors = open_inside k d area c.args.current c.requires.area.lawful c.requires.current in
    let low : c.args.current < length sectors = omega arith in
    let now = c.loop-place.invariant in
    subst (λ (p : ℕ). left area.sectors c.args.current p < left area.sectors c.args.current c.loop-place.place) (sym (c.previous-place.ensures.value))
    (fewer_left area.sectors c.args.current c.loop-place.place within now.within (λ (e : c.loop-place.place ≡ after area.sectors c.args.current). c.loop-place-test.true (e ∙ sym c.next-oldest.ensures.value)))

pub returns-in-Found-pass_sector-clause-entry : goal.returns-in-Found-pass_sector-clause-entry
returns-in-Found-pass_sector-clause-entry g c =
    let d : Device = g.F.Flash.device c.args.flash.now in
    let area : Area = c.args.area.now in
    let k : SectorFormat = g.T.SlotSectors.format_of (geometry_of d area) in
    let sectors : List (List ℕ) = sectors_of d area in
    let law : IsSectorFormat (g.T.SlotSectors.format_of (geometry_of d area)) = g.met.T.SlotSectors.lawful (geometry_of d area) (unit_is d area (g.met.F.Flash.is_lawful c.args.flash.now) c.requires.area.lawful) in
    let long = length-sectors d area in
    let within : c.args.current < area.sectors = open_inside k d area c.args.current c.requires.area.lawful c.requires.current in
    let low : c.args.current < length sectors = omega arith in
    let old : c.next-oldest.result ≡ after (length sectors) c.args.current = c.next-oldest.ensures.value ∙ next_there d area c.args.current in
    let now = c.loop-place.invariant in
    let high : c.next-oldest.result < length sectors = omega (arith, c.next-oldest.ensures.within) in
    let counts = counts-at_rest k.reading sectors c.args.current c.requires.rested.blanks c.next-oldest.result c.requires.rested.ring c.requires.rested.some in
    let here = counted_here k sectors c.args.current low c.requires.current c.next-oldest.result counts in
    let part : List Placed = counted_in (slots k) sectors c.args.current c.next-oldest.result in
    let passed : EndsIn (of_id c.args.id (behind k sectors c.args.current c.next-oldest.result)) c.args.n (Left c.loop-place.left) =
    subst (λ (p : ℕ). EndsIn (of_id c.args.id (behind k sectors c.args.current p)) c.args.n (Left c.loop-place.left)) c.loop-place-test.false now.passed in
    let whole = split_oldest k sectors c.args.current low c.requires.current c.next-oldest.result old high in
    let own : (r : Search) → EndsIn (of_id c.args.id (map (placed_at c.next-oldest.result) (entries k (sector_at sectors c.next-oldest.result)))) c.loop-place.left r → EndsIn (of_id c.args.id (all_placed (slots k) sectors)) c.args.n r =
    λ r is. pass_more c.args.id part (behind k sectors c.args.current c.next-oldest.result) (all_placed (slots k) sectors) c.args.n c.loop-place.left r whole passed (subst (λ (xs : List Placed). EndsIn (of_id c.args.id xs) c.loop-place.left r) (sym here) is) in
    sym (own (Found c.in-Found-pass_sector.placed) c.in-Found-pass_sector.ensures.entry)

pub returns-in-Left-pass_sector-clause-entry : goal.returns-in-Left-pass_sector-clause-entry
returns-in-Left-pass_sector-clause-entry g c =
    let d : Device = g.F.Flash.device c.args.flash.now in
    let area : Area = c.args.area.now in
    let k : SectorFormat = g.T.SlotSectors.format_of (geometry_of d area) in
    let sectors : List (List ℕ) = sectors_of d area in
    let law : IsSectorFormat (g.T.SlotSectors.format_of (geometry_of d area)) = g.met.T.SlotSectors.lawful (geometry_of d area) (unit_is d area (g.met.F.Flash.is_lawful c.args.flash.now) c.requires.area.lawful) in
    let long = length-sectors d area in
    let within : c.args.current < area.sectors = open_inside k d area c.args.current c.requires.area.lawful c.requires.current in
    let low : c.args.current < length sectors = omega arith in
    let old : c.next-oldest.result ≡ after (length sectors) c.args.current = c.next-oldest.ensures.value ∙ next_there d area c.args.current in
    let now = c.loop-place.invariant in
    let high : c.next-oldest.result < length sectors = omega (arith, c.next-oldest.ensures.within) in
    let counts = counts-at_rest k.reading sectors c.args.current c.requires.rested.blanks c.next-oldest.result c.requires.rested.ring c.requires.rested.some in
    let here = counted_here k sectors c.args.current low c.requires.current c.next-oldest.result counts in
    let part : List Placed = counted_in (slots k) sectors c.args.current c.next-oldest.result in
    let passed : EndsIn (of_id c.args.id (behind k sectors c.args.current c.next-oldest.result)) c.args.n (Left c.loop-place.left) =
    subst (λ (p : ℕ). EndsIn (of_id c.args.id (behind k sectors c.args.current p)) c.args.n (Left c.loop-place.left)) c.loop-place-test.false now.passed in
    let whole = split_oldest k sectors c.args.current low c.requires.current c.next-oldest.result old high in
    let own : (r : Search) → EndsIn (of_id c.args.id (map (placed_at c.next-oldest.result) (entries k (sector_at sectors c.next-oldest.result)))) c.loop-place.left r → EndsIn (of_id c.args.id (all_placed (slots k) sectors)) c.args.n r =
    λ r is. pass_more c.args.id part (behind k sectors c.args.current c.next-oldest.result) (all_placed (slots k) sectors) c.args.n c.loop-place.left r whole passed (subst (λ (xs : List Placed). EndsIn (of_id c.args.id xs) c.loop-place.left r) (sym here) is) in
    ends_none (of_id c.args.id (all_placed (slots k) sectors)) c.args.n c.in-Left-pass_sector.field-0 (own (Left c.in-Left-pass_sector.field-0) c.in-Left-pass_sector.ensures.entry)
