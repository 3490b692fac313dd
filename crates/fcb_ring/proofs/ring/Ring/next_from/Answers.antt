use Rattle.std.proofs.Common.{◌≡◌, ◌+◌, ◌%◌, ◌-◌, ◌∙◌, ℕ, min, sym, ap, arith}
use Rattle.std.specs.Prelude.{find}
use Rattle.fcb_ring.specs.Changing.{begins_with}
use Rattle.flash_map.specs.declared.area.Geometry.{Geometry}
use Rattle.flash_map.specs.Area.{unit_of, sectors_of, sector_size}
use Rattle.flash_map.specs.Units.{padded}
use Rattle.fcb_ring.specs.Entries.{records_from, following}
use Rattle.flash_map.specs.Area.{sector_at}
use Rattle.fcb_ring.proofs.AreaLemmas.{has_size, count-sectors}
use Rattle.fcb_ring.proofs.RecordLemmas.{header_fits}
use Rattle.fcb_ring.proofs.ReadLemmas.{place-facts, found-there, none-there, none-behind, some_from, is_none_from}
use Rattle.fcb_ring.proofs.ring.Ring.next_from.Goals as goal

pub place-requires-clause-oldest : goal.place-requires-clause-oldest
place-requires-clause-oldest g c =
    let d = g.F.Flash.device c.args.flash.now in
    let ring = c.args.self.now in
    (place-facts (unit_of d ring.area) (sector_size d ring.area) (sectors_of d ring.area) (has_size d ring.area (g.met.F.Flash.is_lawful c.args.flash.now) c.requires.stands.area) ring c.requires.stands.sectors ring.area.sectors (sym (count-sectors d ring.area))).0

pub returns-then-is_some : goal.returns-then-is_some
returns-then-is_some g c =
    let d = g.F.Flash.device c.args.flash.now in
    let ring = c.args.self.now in
    let unit = unit_of d ring.area in
    let sectors = sectors_of d ring.area in
    let found = some_from c.next_in-found.result (sym c.is_some.ensures ∙ c.if-is_some.true) in
    let here = c.next_in-found.ensures ∙ ap (λ (p : ℕ). find (begins_with d ring.area c.args.prefix.now) (records_from unit p (sector_at sectors p) c.loop-at.offset)) c.place.ensures.value in
    found.1
    ∙ sym (found-there unit (sector_size d ring.area) sectors (has_size d ring.area (g.met.F.Flash.is_lawful c.args.flash.now) c.requires.stands.area) ring c.requires.stands.sectors ring.area.sectors (sym (count-sectors d ring.area)) (begins_with d ring.area c.args.prefix.now) c.loop-at.at c.loop-at.offset found.0 (omega (arith, c.counted.ensures)) (sym here ∙ found.1))
    ∙ c.loop-at.invariant.same

pub loop-at-preserved : goal.loop-at-preserved
loop-at-preserved g c =
    let d = g.F.Flash.device c.args.flash.now in
    let ring = c.args.self.now in
    let unit = unit_of d ring.area in
    let sectors = sectors_of d ring.area in
    let size = has_size d ring.area (g.met.F.Flash.is_lawful c.args.flash.now) c.requires.stands.area in
    let none = is_none_from c.next_in-found.result (sym c.is_some.ensures ∙ c.if-is_some.false) in
    let here = c.next_in-found.ensures ∙ ap (λ (p : ℕ). find (begins_with d ring.area c.args.prefix.now) (records_from unit p (sector_at sectors p) c.loop-at.offset)) c.place.ensures.value in
    let header : c.padded-header.result ≡ padded (unit_of (g.F.Flash.device c.args.flash.now) c.args.self.now.area) 8 = c.padded-header.ensures.value ∙ ap (λ (geometry : Geometry). padded geometry.unit 8) c.geometry.ensures in
    let fits = header_fits unit size.is_unit in
    record {
      within = omega (arith, c.counted.ensures);
      aligned = ap (λ (n : ℕ). n % unit) header ∙ fits.0;
      in_sector = omega (arith, header, fits.2, size.at_least);
      same =
          ap (λ (n : ℕ). find (begins_with d ring.area c.args.prefix.now) (following unit sectors ring.oldest (min ring.used (ring.area.sectors - 1)) (c.loop-at.at + 1) n)) header
          ∙ sym (none-there unit (sector_size d ring.area) sectors size ring c.requires.stands.sectors ring.area.sectors (sym (count-sectors d ring.area)) (begins_with d ring.area c.args.prefix.now) c.loop-at.at c.loop-at.offset (omega (arith, c.counted.ensures)) (sym here ∙ none))
          ∙ c.loop-at.invariant.same;
    }

pub returns : goal.returns
returns g c =
    let d = g.F.Flash.device c.args.flash.now in
    let ring = c.args.self.now in
    sym (none-behind (unit_of d ring.area) (sector_size d ring.area) (sectors_of d ring.area) (has_size d ring.area (g.met.F.Flash.is_lawful c.args.flash.now) c.requires.stands.area) ring c.requires.stands.sectors ring.area.sectors (sym (count-sectors d ring.area)) (begins_with d ring.area c.args.prefix.now) c.loop-at.at c.loop-at.offset (omega (arith, c.counted.ensures)))
    ∙ c.loop-at.invariant.same
