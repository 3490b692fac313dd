use Rattle.std.proofs.Common.{◌≡◌, ℕ, ◌-◌, List, ◌++◌, sym, subst, arith}
use Rattle.std.proofs.lemmas.List.{append-nil}
use Rattle.item_laws.proofs.LastLemmas.{among}
use Rattle.item_store.proofs.SeenSteps.{seen_sector}
use Rattle.flash_sim.specs.Device.{Device}
use Rattle.flash_map.specs.declared.area.Area.{Area}
use Rattle.flash_map.specs.Area.{geometry_of, sectors_of}
use Rattle.item_store.specs.SectorFormat.{SectorFormat, slots}
use Rattle.item_store.proofs.noting.note_among.Goals as goal

pub loop-place-init : goal.loop-place-init
loop-place-init g c =
    let d : Device = g.F.Flash.device c.args.flash.now in
    let area : Area = c.args.on.now.area.now in
    let k : SectorFormat = g.T.SlotSectors.format_of (geometry_of d area) in
    let sectors : List (List ℕ) = sectors_of d area in
    λ start before seen.
    let none : 0 ≡ c.args.first - c.args.first = omega arith in
    subst (λ (n : ℕ). g.N.Notes.noted start k.ids c.args.notes.now (before ++ among (slots k) sectors c.args.on.now.current c.args.first n)) none
    (subst (g.N.Notes.noted start k.ids c.args.notes.now) (sym (append-nil before)) seen)

pub loop-place-preserved : goal.loop-place-preserved
loop-place-preserved g c =
    let d : Device = g.F.Flash.device c.args.flash.now in
    let area : Area = c.args.on.now.area.now in
    let k : SectorFormat = g.T.SlotSectors.format_of (geometry_of d area) in
    let sectors : List (List ℕ) = sectors_of d area in
    λ start before seen.
    seen_sector k (g.N.Notes.noted start k.ids c.note_counting.new.notes) before sectors c.args.on.now.current c.args.first c.loop-place.place (omega arith)
    (c.note_counting.ensures start (before ++ among (slots k) sectors c.args.on.now.current c.args.first (c.loop-place.place - c.args.first)) (c.loop-place.invariant start before seen))

pub returns : goal.returns
returns g c =
    let d : Device = g.F.Flash.device c.args.flash.now in
    let area : Area = c.args.on.now.area.now in
    let k : SectorFormat = g.T.SlotSectors.format_of (geometry_of d area) in
    let sectors : List (List ℕ) = sectors_of d area in
    λ start before seen.
    let at : c.loop-place.place ≡ c.args.end = omega arith in
    subst (λ (n : ℕ). g.N.Notes.noted start k.ids c.loop-place.notes (before ++ among (slots k) sectors c.args.on.now.current c.args.first (n - c.args.first))) at (c.loop-place.invariant start before seen)
