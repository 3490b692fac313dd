use Rattle.std.proofs.Common.{◌≡◌, ℕ, ◌≤◌, ◌++◌, List, length, map, sym, ap, subst, ◌∙◌, arith}
use Rattle.flash_sim.specs.Device.{Device}
use Rattle.flash_map.specs.declared.area.Area.{Area}
use Rattle.flash_map.specs.Area.{geometry_of, sector_at, sectors_of}
use Rattle.lookup_cache.specs.Places.{CacheState, forget_entries}
use Rattle.item_laws.specs.Area.{next}
use Rattle.item_laws.proofs.AreaReads.{length-sectors}
use Rattle.item_laws.proofs.Places.{after}
use Rattle.item_store.specs.declared.entry.Placed.{Placed}
use Rattle.item_store.specs.Cached.{IsCacheOf}
use Rattle.item_store.specs.SectorFormat.{SectorFormat, IsSectorFormat, placed_at, entries}
use Rattle.item_store.proofs.Areas.{unit_is}
use Rattle.item_store.proofs.PassSteps.{cache-pass_done}
use Rattle.item_store.proofs.cached.follow_round.Goals as goal

pub next-victim-requires : goal.next-victim-requires
next-victim-requires g c = c.requires.inside

none_needed : (count : ℕ) → 0 ≤ count
none_needed count = omega arith

pub note_sector-requires-clause-known : goal.note_sector-requires-clause-known
note_sector-requires-clause-known g c =
    let d : Device = g.F.Flash.device c.args.flash.now in
    let area : Area = c.args.area.now in
    none_needed ((g.T.SlotSectors.format_of (geometry_of d area)).count (sector_at (sectors_of d area) c.args.newest))

pub returns : goal.returns
returns g c =
    let d : Device = g.F.Flash.device c.args.flash.now in
    let area : Area = c.args.area.now in
    let k : SectorFormat = g.T.SlotSectors.format_of (geometry_of d area) in
    let law : IsSectorFormat (g.T.SlotSectors.format_of (geometry_of d area)) = g.met.T.SlotSectors.lawful (geometry_of d area) (unit_is d area (g.met.F.Flash.is_lawful c.args.flash.now) c.requires.area.lawful) in
    let new : List (List ℕ) = sectors_of d area in
    λ size old place pass_done at is.
    let count : area.sectors ≡ length old = sym (length-sectors d area) ∙ pass_done.long in
    let gone : c.next-victim.result ≡ next old (next old place) =
    c.next-victim.ensures.value ∙ ap (λ (n : ℕ). after n c.args.newest) count ∙ ap (after (length old)) at in
    cache-pass_done k law size old new place pass_done c.args.cache.now c.note_sector.new.notes c.next-victim.result gone is
    (λ (so_far : List Placed) (forgot : IsCacheOf (forget_entries c.args.cache.now c.next-victim.result) so_far).
    subst (λ (j : ℕ). IsCacheOf c.note_sector.new.notes (so_far ++ map (placed_at j) (entries k (sector_at new j)))) at
    (c.note_sector.ensures.notes c.forget_sector.new.self so_far (subst (λ (cache : CacheState). IsCacheOf cache so_far) (sym c.forget_sector.ensures) forgot)))
