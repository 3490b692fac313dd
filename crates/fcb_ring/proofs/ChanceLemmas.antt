-- What `chance` says of a loss.
use Rattle.std.proofs.Common.{◌≡◌, ℕ, ◌+◌, ◌-◌, ◌*◌, ◌%◌, ◌<◌, ◌≤◌, Bool, true, false, not, ◌&&◌, eqb, ltb, leb, List, [], ◌++◌, length, get_or, take, replicate, Some, refl, sym, ap, subst, ◌∙◌, arith}
use Rattle.std.specs.Str.{bytes_eq}
use Rattle.std.proofs.Math.Nat.{mul-le-mul_right}
use Rattle.std.proofs.lemmas.Bool.{and_from, and_parts, and_left, and_right, not_from_false, not_from_true, not-true, eq-eqb, ne_eqb, lt-ltb, ltb-true, le-leb, both_ways}
use Rattle.std.proofs.lemmas.Nat.{mod-mul-add}
use Rattle.std.proofs.lemmas.Slice.Eq.{bytes_eq-Decides}
use Rattle.flash_sim.specs.Bank.{IsLawful}
use Rattle.flash_sim.specs.Device.{Device}
use Rattle.flash_sim.specs.declared.flash.Loss.{Loss}
use Rattle.flash_map.specs.declared.area.Area.{Area}
use Rattle.flash_map.specs.declared.area.Geometry.{Geometry}
use Rattle.flash_map.specs.Area.{unit_of, sector_size, sectors_of, place_of, geometry_of}
use Rattle.flash_map.specs.Units.{padded}
use Rattle.flash_map.proofs.PieceLemmas.{next_fits}
use Rattle.flash_map.proofs.Rounding.{padding}
use Rattle.fcb_ring.specs.Chance.{bytes_put, is_behind_header, is_part, is_record, chance, chance_on, HasNoChance, ReportsChance, ReportsRecord}
use Rattle.fcb_ring.specs.Changing.{IsRecordLoss, IsHeaderLoss, IsEraseLoss}
use Rattle.fcb_ring.specs.Entries.{states}
use Rattle.fcb_ring.specs.Records.{has_record, record_of}
use Rattle.fcb_ring.specs.Rings.{is_full}
use Rattle.fcb_ring.specs.Standing.{IsRingArea, states_on}
use Rattle.fcb_ring.specs.Writing.{record_image, record_cost, cut_record, IsChance}
use Rattle.fcb_ring.proofs.AreaLemmas.{has_size}
use Rattle.fcb_ring.proofs.ImageLemmas.{image-long, cut-long, cut-says, cut-there}
use Rattle.fcb_ring.proofs.RecordLemmas.{end-of}

-- ---- where it never holds

pub chance-full : (area : Area) (geometry : Geometry) (sectors : List (List ℕ)) (loss : Loss) → is_full (states geometry.unit sectors) ≡ true → chance area geometry sectors loss ≡ false
unfolding chance
chance-full area geometry sectors loss full = and_left (not (is_full (states geometry.unit sectors))) _ (not_from_true (is_full (states geometry.unit sectors)) full)

behind-not : (area : Area) (size : ℕ) (loss : Loss) → loss.at.offset % size ≡ 0 → is_behind_header area size loss ≡ false
behind-not area size loss starts =
    and_right (eqb loss.at.bank area.bank) _ (and_right (leb (area.first * size) loss.at.offset) _
    (and_right (ltb loss.at.offset ((area.first + area.sectors) * size)) _ (not_from_true (eqb (loss.at.offset % size) 0) (eq-eqb (loss.at.offset % size) 0 starts))))

pub chance-start : (area : Area) (geometry : Geometry) (sectors : List (List ℕ)) (loss : Loss) → loss.at.offset % geometry.sector ≡ 0 → chance area geometry sectors loss ≡ false
unfolding chance
chance-start area geometry sectors loss starts =
    and_right (not (is_full (states geometry.unit sectors))) _ (and_left (is_behind_header area geometry.sector loss) _ (behind-not area geometry.sector loss starts))

module _ (d : Device) (area : Area) (lawful : IsLawful d.banks d.bytes) (ring : IsRingArea d.banks area) where
  size-some : 0 < sector_size d area
  size-some = let has = has_size d area lawful ring in omega (arith, has.at_least)

  starts-at : (place : ℕ) → (place_of d area place 0).offset % sector_size d area ≡ 0
  starts-at place = mod-mul-add (area.first + place) (sector_size d area) 0 size-some

  pub header-chance : (place : ℕ) → IsHeaderLoss d area place → HasNoChance d area
  header-chance place at =
      (at.loss, at.last, chance-start area (geometry_of d area) (sectors_of d area) at.loss (ap (λ at. at.offset % sector_size d area) at.at ∙ starts-at place))

  pub erase-chance : (place : ℕ) → IsEraseLoss d area place → HasNoChance d area
  erase-chance place last =
      (record { at = place_of d area place 0; want = record { items = [] }; done = 0 }, last, chance-start area (geometry_of d area) (sectors_of d area) _ (starts-at place))

  -- ---- a loss in a record

  module _ (place offset : ℕ) (body : List ℕ) (done : ℕ) (at : IsRecordLoss d area place offset body done) where
    few : length body ≤ 16383
    few = let pad = padding (unit_of d area) (has_size d area lawful ring).is_unit in omega (arith, at.one_program, pad.no_less (length body))

    abbrev unit : ℕ
    unit = unit_of d area

    abbrev size : ℕ
    size = sector_size d area

    abbrev image : List ℕ
    image = record_image (unit_of d area) body

    abbrev the-loss : Loss
    the-loss = record { at = place_of d area place offset; want = record { items = record_image (unit_of d area) body }; done = done }

    long : length (record_image (unit_of d area) body) ≡ record_cost (unit_of d area) (length body)
    long = image-long (unit_of d area) (has_size d area lawful ring).is_unit body few

    below : offset < sector_size d area
    below = let pad = padding (unit_of d area) (has_size d area lawful ring).is_unit in omega (arith, at.in_sector, pad.positive)

    behind : is_behind_header area (sector_size d area) the-loss ≡ true
    behind =
        let up : (area.first + place + 1) * sector_size d area ≤ (area.first + area.sectors) * sector_size d area = mul-le-mul_right (sector_size d area) (omega (arith, at.has_sector)) in
        let low : area.first * sector_size d area ≤ (area.first + place) * sector_size d area = mul-le-mul_right (sector_size d area) (omega arith) in
        let more : (area.first + place + 1) * sector_size d area ≡ (area.first + place) * sector_size d area + sector_size d area = omega arith in
        let rest : ((area.first + place) * sector_size d area + offset) % sector_size d area ≡ offset = mod-mul-add (area.first + place) (sector_size d area) offset below in
        and_from (eqb area.bank area.bank) _ (eq-eqb area.bank area.bank refl)
        (and_from (leb (area.first * size) ((area.first + place) * size + offset)) _ (le-leb (area.first * size) ((area.first + place) * size + offset) (omega arith))
        (and_from (ltb ((area.first + place) * size + offset) ((area.first + area.sectors) * size)) _ (lt-ltb ((area.first + place) * size + offset) ((area.first + area.sectors) * size) (omega (arith, below)))
        (not_from_false (eqb (((area.first + place) * size + offset) % size) 0) (ne_eqb (((area.first + place) * size + offset) % size) 0 (λ (e : ((area.first + place) * size + offset) % size ≡ 0). let h = at.behind_header in omega arith)))))

    put-is : bytes_put (unit_of d area) the-loss ≡ cut_record (unit_of d area) body done
    put-is = ap (λ (n : ℕ). take (done * unit_of d area) image ++ replicate (n - done * unit_of d area) 255) long

    module _ (some : 0 < done) where
      part : done * unit_of d area ≤ record_cost (unit_of d area) (length body)
      part = let next = next_fits done (record_cost (unit_of d area) (length body)) (unit_of d area) at.fewer in omega arith

      abbrev torn : List ℕ
      torn = cut_record (unit_of d area) body done

      torn-long : length (cut_record (unit_of d area) body done) ≡ record_cost (unit_of d area) (length body)
      torn-long = cut-long (unit_of d area) (has_size d area lawful ring).is_unit body few done some part

      torn-there : has_record (cut_record (unit_of d area) body done) 0 ≡ true
      unfolding has_record
      torn-there =
          let pad = padding (unit_of d area) (has_size d area lawful ring).is_unit in
          and_from (ltb 0 (length torn)) _ (lt-ltb 0 (length torn) (omega (arith, torn-long, pad.positive)))
          (not_from_false (eqb (get_or torn 0 0) 255 && eqb (get_or torn 1 0) 255) (cut-there (unit_of d area) (has_size d area lawful ring).is_unit body few done some part))

      torn-end : (record_of (unit_of d area) (cut_record (unit_of d area) body done) 0).end ≡ length (cut_record (unit_of d area) body done)
      torn-end =
          end-of (unit_of d area) torn 0
          ∙ ap (λ (n : ℕ). 0 + unit_of d area + padded (unit_of d area) n + unit_of d area) (cut-says (unit_of d area) (has_size d area lawful ring).is_unit body few done some part)
          ∙ omega (arith, torn-long)

      is-part : is_part (unit_of d area) the-loss ≡ true
      is-part =
          let next = next_fits done (record_cost (unit_of d area) (length body)) (unit_of d area) at.fewer in
          let pad = padding (unit_of d area) (has_size d area lawful ring).is_unit in
          and_from (ltb 0 done) _ (lt-ltb 0 done some) (lt-ltb (done * unit_of d area) (length image) (omega (arith, long, pad.positive)))

      checks-is : (b : Bool) → (record_of (unit_of d area) (cut_record (unit_of d area) body done) 0).checks ≡ b → is_record (unit_of d area) (bytes_put (unit_of d area) the-loss) ≡ b
      checks-is true checks = ap (is_record (unit_of d area)) put-is ∙ and_from (has_record torn 0) _ torn-there (and_from (eqb (record_of (unit_of d area) torn 0).end (length torn)) _ (eq-eqb (record_of (unit_of d area) torn 0).end (length torn) torn-end) checks)
      checks-is false checks = ap (is_record (unit_of d area)) put-is ∙ and_right (has_record torn 0) _ (and_right (eqb (record_of (unit_of d area) torn 0).end (length torn)) _ checks)

      other-is : (b : Bool) → bytes_eq (cut_record (unit_of d area) body done) (record_image (unit_of d area) body) ≡ b → bytes_eq (bytes_put (unit_of d area) the-loss) (record_image (unit_of d area) body) ≡ b
      other-is b is = ap (λ (l : List ℕ). bytes_eq l image) put-is ∙ is

    to-chance : is_full (states_on d area) ≡ false → IsChance (unit_of d area) body done → chance_on d area the-loss ≡ true
    unfolding chance
    to-chance free is =
        let other : bytes_eq (cut_record (unit_of d area) body done) (record_image (unit_of d area) body) ≡ false = differs is.differs (bytes_eq (cut_record (unit_of d area) body done) (record_image (unit_of d area) body)) refl in
        and_from (not (is_full (states_on d area))) _ (not_from_false (is_full (states_on d area)) free)
        (and_from (is_behind_header area size the-loss) _ behind
        (and_from (is_part (unit_of d area) the-loss) _ (is-part is.some)
        (and_from (is_record (unit_of d area) (bytes_put (unit_of d area) the-loss)) _ (checks-is is.some true is.checks)
        (not_from_false (bytes_eq (bytes_put (unit_of d area) the-loss) image) (other-is is.some false other)))))
      where
        differs : ¬ (cut_record (unit_of d area) body done ≡ record_image (unit_of d area) body) → (b : Bool) → bytes_eq (cut_record (unit_of d area) body done) (record_image (unit_of d area) body) ≡ b → bytes_eq (cut_record (unit_of d area) body done) (record_image (unit_of d area) body) ≡ false
        differs apart true same = absurd (apart ((bytes_eq-Decides (cut_record (unit_of d area) body done) (record_image (unit_of d area) body)).0 same))
        differs apart false other = other

    from-chance : chance_on d area the-loss ≡ true → IsChance (unit_of d area) body done
    unfolding chance
    from-chance is =
        let one = and_parts (not (is_full (states_on d area))) _ is in
        let two = and_parts (is_behind_header area size the-loss) _ one.1 in
        let three = and_parts (is_part (unit_of d area) the-loss) _ two.1 in
        let four = and_parts (is_record (unit_of d area) (bytes_put (unit_of d area) the-loss)) _ three.1 in
        let some : 0 < done = ltb-true 0 done (and_parts (ltb 0 done) _ three.0).0 in
        record {
          some = some;
          fewer = at.fewer;
          checks = checks some (record_of (unit_of d area) (cut_record (unit_of d area) body done) 0).checks refl four.0;
          differs = λ (same : cut_record (unit_of d area) body done ≡ record_image (unit_of d area) body).
              both_ways (bytes_eq (bytes_put (unit_of d area) the-loss) image) (not-true (bytes_eq (bytes_put (unit_of d area) the-loss) image) four.1)
              (other-is some true ((bytes_eq-Decides (cut_record (unit_of d area) body done) (record_image (unit_of d area) body)).1 same));
        }
      where
        checks : 0 < done → (b : Bool) → (record_of (unit_of d area) (cut_record (unit_of d area) body done) 0).checks ≡ b → is_record (unit_of d area) (bytes_put (unit_of d area) the-loss) ≡ true → (record_of (unit_of d area) (cut_record (unit_of d area) body done) 0).checks ≡ true
        checks some true passes is = passes
        checks some false fails is = absurd (both_ways (is_record (unit_of d area) (bytes_put (unit_of d area) the-loss)) (checks-is some false fails) is)

  some-same : (x y : Loss) → Some x ≡ Some y → x ≡ y
  some-same x y is = cc

  pub record-chance : ReportsRecord d area
  record-chance place offset body done at free loss last =
      let same : record { at = place_of d area place offset; want = record { items = record_image (unit_of d area) body }; done = done } ≡ loss = some-same _ loss (sym at.loss ∙ last) in (
        λ (is : chance_on d area loss ≡ true). from-chance place offset body done at (subst (λ (x : Loss). chance_on d area x ≡ true) (sym same) is),
        λ is. subst (λ (x : Loss). chance_on d area x ≡ true) same (to-chance place offset body done at free is),
      )

pub reports-chance : ReportsChance
reports-chance d area lawful ring =
    (record-chance d area lawful ring, header-chance d area lawful ring, erase-chance d area lawful ring, λ loss full. chance-full area (geometry_of d area) (sectors_of d area) loss full)
