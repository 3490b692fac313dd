use Rattle.std.proofs.Common.{◌≡◌, ◌+◌, ◌%◌, ◌∙◌, ℕ, Option, sym, ap, subst, arith}
use Rattle.std.specs.Prelude.{find}
use Rattle.fcb_ring.specs.Changing.{begins_with}
use Rattle.flash_map.specs.declared.area.Geometry.{Geometry}
use Rattle.flash_map.specs.Area.{unit_of, sectors_of, sector_size}
use Rattle.flash_map.specs.Units.{padded}
use Rattle.flash_map.proofs.Rounding.{padding}
use Rattle.fcb_ring.specs.declared.record.RecordAt.{RecordAt}
use Rattle.fcb_ring.specs.Standing.{entries_on, record_places, following_on, IsNextWith}
use Rattle.fcb_ring.proofs.AreaLemmas.{has_size, count-sectors}
use Rattle.fcb_ring.proofs.NextLemmas.{after_of, contained_at}
use Rattle.fcb_ring.proofs.RecordLemmas.{header_fits}
use Rattle.fcb_ring.proofs.ReadLemmas.{place-facts, there, first-is, later-is, found-listed}
use Rattle.fcb_ring.proofs.ring.Ring.next_with.Goals as goal

pub next_from-requires-clause-aligned : goal.next_from-requires-clause-aligned
next_from-requires-clause-aligned g c =
    let d = g.F.Flash.device c.args.flash.now in
    let ring = c.args.self.now in
    let size = has_size d ring.area (g.met.F.Flash.is_lawful c.args.flash.now) c.requires.stands.area in
    ap (λ (n : ℕ). n % unit_of d ring.area) (c.padded.ensures.value ∙ ap (λ (geometry : Geometry). padded geometry.unit 8) c.geometry-unit.ensures) ∙ (header_fits (unit_of d ring.area) size.is_unit).0

pub distance-further-requires-clause-from : goal.distance-further-requires-clause-from
distance-further-requires-clause-from g c =
    let d = g.F.Flash.device c.args.flash.now in
    let ring = c.args.self.now in
    (place-facts (unit_of d ring.area) (sector_size d ring.area) (sectors_of d ring.area) (has_size d ring.area (g.met.F.Flash.is_lawful c.args.flash.now) c.requires.stands.area) ring c.requires.stands.sectors ring.area.sectors (sym (count-sectors d ring.area))).0

pub distance-further-requires-clause-place : goal.distance-further-requires-clause-place
distance-further-requires-clause-place g c =
    let d = g.F.Flash.device c.args.flash.now in
    let ring = c.args.self.now in
    let size = has_size d ring.area (g.met.F.Flash.is_lawful c.args.flash.now) c.requires.stands.area in
    (there (unit_of d ring.area) (sector_size d ring.area) (sectors_of d ring.area) size ring c.requires.stands.sectors ring.area.sectors (sym (count-sectors d ring.area)) c.in-Some.record (c.requires.after c.in-Some.record c.in-Some.is)).sector

pub padded-requires-in-Some-clause-len : goal.padded-requires-in-Some-clause-len
padded-requires-in-Some-clause-len g c =
    let d = g.F.Flash.device c.args.flash.now in
    let ring = c.args.self.now in
    let size = has_size d ring.area (g.met.F.Flash.is_lawful c.args.flash.now) c.requires.stands.area in
    let h = there (unit_of d ring.area) (sector_size d ring.area) (sectors_of d ring.area) size ring c.requires.stands.sectors ring.area.sectors (sym (count-sectors d ring.area)) c.in-Some.record (c.requires.after c.in-Some.record c.in-Some.is) in
    omega (arith, h.fits, size.at_most)

pub overflow_add-from : goal.overflow_add-from
overflow_add-from g c =
    let d = g.F.Flash.device c.args.flash.now in
    let ring = c.args.self.now in
    let size = has_size d ring.area (g.met.F.Flash.is_lawful c.args.flash.now) c.requires.stands.area in
    let h = there (unit_of d ring.area) (sector_size d ring.area) (sectors_of d ring.area) size ring c.requires.stands.sectors ring.area.sectors (sym (count-sectors d ring.area)) c.in-Some.record (c.requires.after c.in-Some.record c.in-Some.is) in
    omega (arith, h.fits, size.at_most, c.padded-in-Some.ensures.at_most)

pub overflow_add-from-in-Some : goal.overflow_add-from-in-Some
overflow_add-from-in-Some g c =
    let d = g.F.Flash.device c.args.flash.now in
    let ring = c.args.self.now in
    let size = has_size d ring.area (g.met.F.Flash.is_lawful c.args.flash.now) c.requires.stands.area in
    let h = there (unit_of d ring.area) (sector_size d ring.area) (sectors_of d ring.area) size ring c.requires.stands.sectors ring.area.sectors (sym (count-sectors d ring.area)) c.in-Some.record (c.requires.after c.in-Some.record c.in-Some.is) in
    let unit : c.geometry-unit.result.unit ≡ unit_of (g.F.Flash.device c.args.flash.now) c.args.self.now.area = ap (λ (geometry : Geometry). geometry.unit) c.geometry-unit.ensures in
    omega (arith, h.fits, size.at_most, c.padded-in-Some.ensures.at_most, unit, (padding (unit_of d ring.area) size.is_unit).small)

after-is : (unit : ℕ) (geometry : Geometry) (r : RecordAt) (p : ℕ) → geometry.unit ≡ unit → p ≡ padded geometry.unit r.len → r.body + p + geometry.unit ≡ after_of unit r
after-is unit geometry r p is padded-is = ap (λ (n : ℕ). r.body + n + geometry.unit) padded-is ∙ ap (λ (u : ℕ). r.body + padded u r.len + u) is

pub next_from-requires-in-Some-clause-aligned : goal.next_from-requires-in-Some-clause-aligned
next_from-requires-in-Some-clause-aligned g c =
    let d = g.F.Flash.device c.args.flash.now in
    let ring = c.args.self.now in
    let size = has_size d ring.area (g.met.F.Flash.is_lawful c.args.flash.now) c.requires.stands.area in
    let h = there (unit_of d ring.area) (sector_size d ring.area) (sectors_of d ring.area) size ring c.requires.stands.sectors ring.area.sectors (sym (count-sectors d ring.area)) c.in-Some.record (c.requires.after c.in-Some.record c.in-Some.is) in
    ap (λ (n : ℕ). n % unit_of d ring.area) (after-is (unit_of d ring.area) c.geometry-unit.result c.in-Some.record c.padded-in-Some.result (ap (λ (geometry : Geometry). geometry.unit) c.geometry-unit.ensures) c.padded-in-Some.ensures.value) ∙ h.aligned

pub next_from-requires-in-Some-clause-within : goal.next_from-requires-in-Some-clause-within
next_from-requires-in-Some-clause-within g c =
    let d = g.F.Flash.device c.args.flash.now in
    let ring = c.args.self.now in
    let size = has_size d ring.area (g.met.F.Flash.is_lawful c.args.flash.now) c.requires.stands.area in
    let h = there (unit_of d ring.area) (sector_size d ring.area) (sectors_of d ring.area) size ring c.requires.stands.sectors ring.area.sectors (sym (count-sectors d ring.area)) c.in-Some.record (c.requires.after c.in-Some.record c.in-Some.is) in
    let e = after-is (unit_of d ring.area) c.geometry-unit.result c.in-Some.record c.padded-in-Some.result (ap (λ (geometry : Geometry). geometry.unit) c.geometry-unit.ensures) c.padded-in-Some.ensures.value in
    omega (arith, h.within)

pub returns-in-None-clause-next : goal.returns-in-None-clause-next
returns-in-None-clause-next g c =
    let d = g.F.Flash.device c.args.flash.now in
    let ring = c.args.self.now in
    let size = has_size d ring.area (g.met.F.Flash.is_lawful c.args.flash.now) c.requires.stands.area in
    let from = c.padded.ensures.value ∙ ap (λ (geometry : Geometry). padded geometry.unit 8) c.geometry-unit.ensures in
    let is = first-is (unit_of d ring.area) (sector_size d ring.area) (sectors_of d ring.area) size ring c.requires.stands.sectors ring.area.sectors (sym (count-sectors d ring.area)) c.args.prefix.now c.next_from.result (c.next_from.ensures ∙ ap (λ (n : ℕ). find (begins_with d ring.area c.args.prefix.now) (following_on d ring 0 n)) from) in
    subst (λ (o : Option RecordAt). IsNextWith (entries_on d ring.area) c.args.prefix.now o c.next_from.result) (sym c.in-None.is) is

pub returns-in-Some-clause-next : goal.returns-in-Some-clause-next
returns-in-Some-clause-next g c =
    let d = g.F.Flash.device c.args.flash.now in
    let ring = c.args.self.now in
    let size = has_size d ring.area (g.met.F.Flash.is_lawful c.args.flash.now) c.requires.stands.area in
    let e = after-is (unit_of d ring.area) c.geometry-unit.result c.in-Some.record c.padded-in-Some.result (ap (λ (geometry : Geometry). geometry.unit) c.geometry-unit.ensures) c.padded-in-Some.ensures.value in
    let is = later-is (unit_of d ring.area) (sector_size d ring.area) (sectors_of d ring.area) size ring c.requires.stands.sectors ring.area.sectors (sym (count-sectors d ring.area)) c.args.prefix.now c.in-Some.record c.distance-further.result c.next_from-in-Some.result c.distance-further.ensures.value
    (c.next_from-in-Some.ensures ∙ ap (λ (n : ℕ). find (begins_with d ring.area c.args.prefix.now) (following_on d ring c.distance-further.result n)) e) in
    subst (λ (o : Option RecordAt). IsNextWith (entries_on d ring.area) c.args.prefix.now o c.next_from-in-Some.result) (sym c.in-Some.is) is

pub returns-in-None-clause-listed : goal.returns-in-None-clause-listed
returns-in-None-clause-listed g c =
    let d = g.F.Flash.device c.args.flash.now in
    let ring = c.args.self.now in
    let size = has_size d ring.area (g.met.F.Flash.is_lawful c.args.flash.now) c.requires.stands.area in
    let from = c.padded.ensures.value ∙ ap (λ (geometry : Geometry). padded geometry.unit 8) c.geometry-unit.ensures in
    let is = first-is (unit_of d ring.area) (sector_size d ring.area) (sectors_of d ring.area) size ring c.requires.stands.sectors ring.area.sectors (sym (count-sectors d ring.area)) c.args.prefix.now c.next_from.result (c.next_from.ensures ∙ ap (λ (n : ℕ). find (begins_with d ring.area c.args.prefix.now) (following_on d ring 0 n)) from) in
    found-listed (unit_of d ring.area) (sector_size d ring.area) (sectors_of d ring.area) size ring c.requires.stands.sectors ring.area.sectors (sym (count-sectors d ring.area)) c.args.prefix.now 0 c.next_from.result is

pub returns-in-Some-clause-listed : goal.returns-in-Some-clause-listed
returns-in-Some-clause-listed g c =
    let d = g.F.Flash.device c.args.flash.now in
    let ring = c.args.self.now in
    let size = has_size d ring.area (g.met.F.Flash.is_lawful c.args.flash.now) c.requires.stands.area in
    let e = after-is (unit_of d ring.area) c.geometry-unit.result c.in-Some.record c.padded-in-Some.result (ap (λ (geometry : Geometry). geometry.unit) c.geometry-unit.ensures) c.padded-in-Some.ensures.value in
    let is = later-is (unit_of d ring.area) (sector_size d ring.area) (sectors_of d ring.area) size ring c.requires.stands.sectors ring.area.sectors (sym (count-sectors d ring.area)) c.args.prefix.now c.in-Some.record c.distance-further.result c.next_from-in-Some.result c.distance-further.ensures.value
    (c.next_from-in-Some.ensures ∙ ap (λ (n : ℕ). find (begins_with d ring.area c.args.prefix.now) (following_on d ring c.distance-further.result n)) e) in
    let at = contained_at (record_places (entries_on d ring.area)) c.in-Some.record (c.requires.after c.in-Some.record c.in-Some.is) in
    found-listed (unit_of d ring.area) (sector_size d ring.area) (sectors_of d ring.area) size ring c.requires.stands.sectors ring.area.sectors (sym (count-sectors d ring.area)) c.args.prefix.now (at.0 + 1) c.next_from-in-Some.result (is at.0 at.1)
