use Rattle.std.proofs.Common.{refl, ◌≡◌, ◌+◌, ℕ, List, length, take, ap, sym, subst, ◌∙◌, arith}
use Rattle.std.proofs.lemmas.List.{length-take-le}
use Rattle.flash_sim.specs.Device.{Device}
use Rattle.flash_map.specs.declared.area.Geometry.{Geometry}
use Rattle.flash_map.specs.Area.{unit_of, sector_size, sectors_of, Writes}
use Rattle.flash_map.specs.Units.{padded}
use Rattle.flash_map.proofs.PieceLemmas.{on_err}
use Rattle.fcb_ring.specs.declared.ring.Ring.{Ring}
use Rattle.fcb_ring.specs.Changing.{next_id, next_place}
use Rattle.fcb_ring.specs.Standing.{StandsOn}
use Rattle.fcb_ring.specs.Writing.{header_image}
use Rattle.fcb_ring.proofs.AreaLemmas.{has_size, count-sectors}
use Rattle.fcb_ring.proofs.OpenLemmas.{open-place}
use Rattle.fcb_ring.proofs.RecordLemmas.{header_fits}
use Rattle.fcb_ring.proofs.OpeningLemmas.{header-16, header-prefix, can-header, opened-stands, opened-list, opened-fresh, opened-empty, lost-list, lost-form, header-loss, header-spends, header-most}
use Rattle.fcb_ring.proofs.OthersLemmas.{others_set}
use Rattle.fcb_ring.proofs.ring.Ring.open_next.Goals as goal

pub place-place-requires-clause-oldest : goal.place-place-requires-clause-oldest
place-place-requires-clause-oldest g c =
    let d : Device = g.F.Flash.device c.args.flash.now in
    let ring : Ring = c.args.self.now in
    let within = open-place (unit_of d ring.area) (sector_size d ring.area) (sectors_of d ring.area) (has_size d ring.area (g.met.F.Flash.is_lawful c.args.flash.now) c.requires.stands.area) ring c.requires.stands.sectors c.requires.ready in
    omega (arith, count-sectors d ring.area)

pub slice_bounds-header-end : goal.slice_bounds-header-end
slice_bounds-header-end g c =
    let d : Device = g.F.Flash.device c.args.flash.now in
    let ring : Ring = c.args.self.now in
    let unit : ℕ = unit_of d ring.area in
    let end-is : c.padded-end.result ≡ padded unit 8 = c.padded-end.ensures.value ∙ ap (λ (x : Geometry). padded x.unit 8) c.geometry-unit.ensures in
    let fits = header_fits unit (has_size d ring.area (g.met.F.Flash.is_lawful c.args.flash.now) c.requires.stands.area).is_unit in
    let long : length c.header_image-header.result ≡ 16 = ap length c.header_image-header.ensures ∙ header-16 c.next_id-id.result in
    omega arith

pub slice_bounds-area_program-end : goal.slice_bounds-area_program-end
slice_bounds-area_program-end g c =
    let d : Device = g.F.Flash.device c.args.flash.now in
    let ring : Ring = c.args.self.now in
    let unit : ℕ = unit_of d ring.area in
    let end-is : c.padded-end.result ≡ padded unit 8 = c.padded-end.ensures.value ∙ ap (λ (x : Geometry). padded x.unit 8) c.geometry-unit.ensures in
    let fits = header_fits unit (has_size d ring.area (g.met.F.Flash.is_lawful c.args.flash.now) c.requires.stands.area).is_unit in
    let long : length c.header_image-header.result ≡ 16 = ap length c.header_image-header.ensures ∙ header-16 c.next_id-id.result in
    sym (length-take-le c.padded-end.result c.header_image-header.result (omega arith))

pub area_program-requires-clause-can : goal.area_program-requires-clause-can
area_program-requires-clause-can g c =
    let d : Device = g.F.Flash.device c.args.flash.now in
    let ring : Ring = c.args.self.now in
    let lawful = g.met.F.Flash.is_lawful c.args.flash.now in
    let id : ℕ = c.next_id-id.result in
    let unit : ℕ = unit_of d ring.area in
    let end-is : c.padded-end.result ≡ padded unit 8 = c.padded-end.ensures.value ∙ ap (λ (x : Geometry). padded x.unit 8) c.geometry-unit.ensures in
    let header : List ℕ = take c.padded-end.result c.header_image-header.result in
    let is : header ≡ header_image unit id =
    ap (take c.padded-end.result) c.header_image-header.ensures ∙ ap (λ (n : ℕ). take n (header_image 16 id)) end-is ∙ header-prefix unit id (has_size d ring.area lawful c.requires.stands.area).is_unit in
    can-header d ring lawful c.requires.stands c.requires.ready id c.next_id-id.ensures c.place-place.result c.place-place.ensures.value header is

pub returns-in_err-area_program-clause-list : goal.returns-in_err-area_program-clause-list
returns-in_err-area_program-clause-list g c =
    let d : Device = g.F.Flash.device c.args.flash.now in
    let ring : Ring = c.args.self.now in
    let lawful = g.met.F.Flash.is_lawful c.args.flash.now in
    let id : ℕ = c.next_id-id.result in
    let unit : ℕ = unit_of d ring.area in
    let end-is : c.padded-end.result ≡ padded unit 8 = c.padded-end.ensures.value ∙ ap (λ (x : Geometry). padded x.unit 8) c.geometry-unit.ensures in
    let header : List ℕ = take c.padded-end.result c.header_image-header.result in
    let is : header ≡ header_image unit id =
    ap (take c.padded-end.result) c.header_image-header.ensures ∙ ap (λ (n : ℕ). take n (header_image 16 id)) end-is ∙ header-prefix unit id (has_size d ring.area lawful c.requires.stands.area).is_unit in
    let new : Device = g.F.Flash.device c.area_program.new.flash in
    lost-list d ring lawful c.requires.stands c.requires.ready id c.next_id-id.ensures c.place-place.result c.place-place.ensures.value header is new c.in_err-area_program.ensures.touches.banks c.in_err-area_program.ensures.part

pub returns-in_err-area_program-clause-stopped : goal.returns-in_err-area_program-clause-stopped
returns-in_err-area_program-clause-stopped g c =
    let d : Device = g.F.Flash.device c.args.flash.now in
    let ring : Ring = c.args.self.now in
    let lawful = g.met.F.Flash.is_lawful c.args.flash.now in
    let id : ℕ = c.next_id-id.result in
    let unit : ℕ = unit_of d ring.area in
    let end-is : c.padded-end.result ≡ padded unit 8 = c.padded-end.ensures.value ∙ ap (λ (x : Geometry). padded x.unit 8) c.geometry-unit.ensures in
    let header : List ℕ = take c.padded-end.result c.header_image-header.result in
    let is : header ≡ header_image unit id =
    ap (take c.padded-end.result) c.header_image-header.ensures ∙ ap (λ (n : ℕ). take n (header_image 16 id)) end-is ∙ header-prefix unit id (has_size d ring.area lawful c.requires.stands.area).is_unit in
    let new : Device = g.F.Flash.device c.area_program.new.flash in
    on_err c.from_residual.result (record {
      ring = record {
        area = refl;
        reserve = refl;
        down = refl;
      };
      form = lost-form d ring lawful c.requires.stands c.requires.ready id c.next_id-id.ensures c.place-place.result c.place-place.ensures.value header is new c.in_err-area_program.ensures.touches.banks c.in_err-area_program.ensures.part;
      lost = header-loss d ring lawful c.requires.stands c.requires.ready id c.next_id-id.ensures c.place-place.result c.place-place.ensures.value header is new c.in_err-area_program.ensures.touches.banks c.in_err-area_program.ensures.lost;
      bound = header-most d ring lawful c.requires.stands c.requires.ready id c.next_id-id.ensures c.place-place.result c.place-place.ensures.value header is new c.in_err-area_program.ensures.touches.banks c.in_err-area_program.ensures.lost;
    })

pub returns-clause-list : goal.returns-clause-list
returns-clause-list g c =
    let d : Device = g.F.Flash.device c.args.flash.now in
    let ring : Ring = c.args.self.now in
    let lawful = g.met.F.Flash.is_lawful c.args.flash.now in
    let id : ℕ = c.next_id-id.result in
    let unit : ℕ = unit_of d ring.area in
    let end-is : c.padded-end.result ≡ padded unit 8 = c.padded-end.ensures.value ∙ ap (λ (x : Geometry). padded x.unit 8) c.geometry-unit.ensures in
    let header : List ℕ = take c.padded-end.result c.header_image-header.result in
    let is : header ≡ header_image unit id =
    ap (take c.padded-end.result) c.header_image-header.ensures ∙ ap (λ (n : ℕ). take n (header_image 16 id)) end-is ∙ header-prefix unit id (has_size d ring.area lawful c.requires.stands.area).is_unit in
    let new : Device = g.F.Flash.device c.area_program.new.flash in
    opened-list d ring lawful c.requires.stands c.requires.ready id c.next_id-id.ensures c.place-place.result c.place-place.ensures.value header is new c.in_ok-area_program.ensures.touches.banks c.args.next c.requires.fits c.in_ok-area_program.ensures.written

pub returns-clause-opened : goal.returns-clause-opened
returns-clause-opened g c =
    let d : Device = g.F.Flash.device c.args.flash.now in
    let ring : Ring = c.args.self.now in
    let lawful = g.met.F.Flash.is_lawful c.args.flash.now in
    let id : ℕ = c.next_id-id.result in
    let unit : ℕ = unit_of d ring.area in
    let end-is : c.padded-end.result ≡ padded unit 8 = c.padded-end.ensures.value ∙ ap (λ (x : Geometry). padded x.unit 8) c.geometry-unit.ensures in
    let header : List ℕ = take c.padded-end.result c.header_image-header.result in
    let is : header ≡ header_image unit id =
    ap (take c.padded-end.result) c.header_image-header.ensures ∙ ap (λ (n : ℕ). take n (header_image 16 id)) end-is ∙ header-prefix unit id (has_size d ring.area lawful c.requires.stands.area).is_unit in
    let new : Device = g.F.Flash.device c.area_program.new.flash in
    record {
      ring = record {
        area = refl;
        reserve = refl;
        oldest = refl;
        used = refl;
        id = c.next_id-id.ensures;
        end = end-is;
        stage = refl;
      };
      stands =
          subst (λ (n : ℕ). StandsOn new (record ring { used = ring.used + 1; id = id; end = n; stage = c.args.next })) (sym end-is)
          (opened-stands d ring lawful c.requires.stands c.requires.ready id c.next_id-id.ensures c.place-place.result c.place-place.ensures.value header is new c.in_ok-area_program.ensures.touches.banks c.args.next c.requires.fits c.in_ok-area_program.ensures.written);
      written =
          subst (λ (n : ℕ). Writes d new ring.area n 0 (header_image unit (next_id ring))) c.place-place.ensures.value
          (subst (λ (n : ℕ). Writes d new ring.area c.place-place.result 0 (header_image unit n)) c.next_id-id.ensures
          (subst (λ (bytes : List ℕ). Writes d new ring.area c.place-place.result 0 bytes) is c.in_ok-area_program.ensures.written));
      fresh = opened-fresh d ring lawful c.requires.stands c.requires.ready id c.next_id-id.ensures c.place-place.result c.place-place.ensures.value header is new c.in_ok-area_program.ensures.touches.banks c.args.next c.requires.fits c.in_ok-area_program.ensures.written;
      empty = opened-empty d ring lawful c.requires.stands c.requires.ready id c.next_id-id.ensures c.place-place.result c.place-place.ensures.value header is new c.in_ok-area_program.ensures.touches.banks c.args.next c.requires.fits c.in_ok-area_program.ensures.written;
      units = header-spends d ring lawful c.requires.stands c.requires.ready id c.next_id-id.ensures c.place-place.result c.place-place.ensures.value header is new c.in_ok-area_program.ensures.touches.banks c.in_ok-area_program.ensures.ok;
    }

pub returns-clause-others : goal.returns-clause-others
returns-clause-others g c =
    others_set (g.F.Flash.device c.args.flash.now) (g.F.Flash.device c.area_program.new.flash) c.args.self.now.area c.place-place.result (next_place c.args.self.now) _ c.place-place.ensures.value c.in_ok-area_program.ensures.written

pub returns-in_err-area_program-clause-others : goal.returns-in_err-area_program-clause-others
returns-in_err-area_program-clause-others g c =
    others_set (g.F.Flash.device c.args.flash.now) (g.F.Flash.device c.area_program.new.flash) c.args.self.now.area c.place-place.result (next_place c.args.self.now) _ c.place-place.ensures.value c.in_err-area_program.ensures.part.2
