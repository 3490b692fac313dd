-- A sector that is opened by its header, and one whose header was cut.
use Rattle.std.proofs.Common.{◌≡◌, ℕ, ◌+◌, ◌-◌, ◌*◌, ◌/◌, ◌%◌, ◌<◌, ◌≤◌, ◌⊎◌, true, false, List, [], ◌∷◌, ◌++◌, length, map, take, drop, replicate, None, inl, inr, refl, sym, ap, ◌∙◌, append_assoc, arith}
use Rattle.std.specs.List.{filter}
use Rattle.std.proofs.lemmas.Bool.{cases_eq, or_right, not_from_true}
use Rattle.std.proofs.lemmas.List.{length-append, length-replicate, drop-drop, drop-replicate, replicate-append-replicate}
use Rattle.flash_sim.specs.Device.{overwritten}
use Rattle.flash_map.specs.Units.{IsUnit, padded, is_erased}
use Rattle.flash_map.proofs.Rounding.{by_unit}
use Rattle.fcb_ring.specs.Records.{has_record, record_at, records, records_end}
use Rattle.fcb_ring.specs.SectorStates.{is_torn, id_of, state_of}
use Rattle.fcb_ring.specs.Entries.{entry_of, sector_entries}
use Rattle.fcb_ring.specs.Gains.{with_body, sector_records}
use Rattle.fcb_ring.specs.Writing.{filled, header_image}
use Rattle.fcb_ring.proofs.RecordLemmas.{header_fits, reads_none}
use Rattle.fcb_ring.proofs.Walks.{walk-none, walk_end-none}
use Rattle.flash_map.proofs.ErasedBytes.{erased_from}
use Rattle.fcb_ring.proofs.LayLemmas.{blank_none, header_used}
use Rattle.fcb_ring.proofs.StandLemmas.{blank-free}

-- the eight bytes of a header
abbrev pub eight : ℕ → List ℕ
eight id = 0xEE ∷ 0xEE ∷ 0xFF ∷ 0xC0 ∷ 0x01 ∷ 0xFF ∷ (id % 0x100) ∷ (id / 0x100) ∷ []

header-is : (unit id : ℕ) → header_image unit id ≡ eight id ++ replicate (padded unit 8 - 8) 255
unfolding header_image filled
header-is unit id = refl

pub length-header : (unit id : ℕ) → IsUnit unit → length (header_image unit id) ≡ padded unit 8
length-header unit id is_unit = ap length (header-is unit id) ∙ length-append (eight id) (replicate (padded unit 8 - 8) 255) ∙ omega (arith, length-replicate {A = ℕ} (padded unit 8 - 8) 255, (header_fits unit is_unit).1)

-- an erased sector with this header
abbrev pub opened : ℕ → ℕ → List ℕ
opened id size = eight id ++ replicate (size - 8) 255

pub opened-is : (unit id size : ℕ) → IsUnit unit → 16 ≤ size → overwritten (replicate size 255) 0 (header_image unit id) ≡ opened id size
opened-is unit id size is_unit large =
    let fits = header_fits unit is_unit in
    let long = length-header unit id is_unit in
    ap (λ (n : ℕ). header_image unit id ++ drop n (replicate size 255)) (omega (arith, long))
    ∙ ap (λ (l : List ℕ). header_image unit id ++ l) (drop-replicate (padded unit 8) size 255)
    ∙ ap (λ (l : List ℕ). l ++ replicate (size - padded unit 8) 255) (header-is unit id)
    ∙ append_assoc (eight id) (replicate (padded unit 8 - 8) 255) (replicate (size - padded unit 8) 255)
    ∙ ap (λ (l : List ℕ). eight id ++ l) (replicate-append-replicate (padded unit 8 - 8) (size - padded unit 8) 255)
    ∙ ap (λ (n : ℕ). eight id ++ replicate n 255) (omega arith)

module _ (unit id size : ℕ) (is_unit : IsUnit unit) (large : 512 ≤ size) where
  abbrev s : List ℕ
  s = opened id size

  long : length (opened id size) ≡ size
  long = length-append (eight id) (replicate (size - 8) 255) ∙ omega (arith, length-replicate {A = ℕ} (size - 8) 255)

  behind : drop (padded unit 8) (opened id size) ≡ replicate (length (opened id size) - padded unit 8) 255
  behind =
      let fits = header_fits unit is_unit in
      let split : padded unit 8 ≡ 8 + (padded unit 8 - 8) = omega arith in
      ap (λ (n : ℕ). drop n s) split ∙ sym (drop-drop (padded unit 8 - 8) 8 s) ∙ drop-replicate (padded unit 8 - 8) (size - 8) 255 ∙ ap (λ (n : ℕ). replicate n 255) (omega (arith, long))

  none : has_record (opened id size) (padded unit 8) ≡ false
  none = let fits = header_fits unit is_unit in blank_none s (padded unit 8) (λ lt. omega (arith, long)) behind

  no-record : record_at unit (opened id size) (padded unit 8) ≡ None
  no-record = reads_none unit s (padded unit 8) none

  pub opened-end : records_end unit (opened id size) ≡ padded unit 8
  unfolding records records_end
  opened-end = walk_end-none (record_at unit s) (length s) (padded unit 8) no-record

  pub opened-entries : (place : ℕ) → sector_entries unit place (opened id size) ≡ []
  unfolding sector_entries records
  opened-entries place = ap (λ rs. map (entry_of place s) (filter (λ r. r.checks) rs)) (walk-none (record_at unit s) (length s) (padded unit 8) no-record)

  pub opened-all : sector_records unit (opened id size) ≡ []
  unfolding sector_records records
  opened-all = ap (map (with_body s)) (walk-none (record_at unit s) (length s) (padded unit 8) no-record)

  pub opened-header : (state_of unit (opened id size)).has_header ≡ true
  unfolding state_of
  opened-header = refl

  pub opened-used : (state_of unit (opened id size)).is_free ≡ false
  unfolding state_of
  opened-used = header_used s refl

  pub opened-id : (state_of unit (opened id size)).id ≡ id
  unfolding state_of id_of
  opened-id = omega arith

  pub opened-not_overfull : (state_of unit (opened id size)).is_overfull ≡ false
  unfolding state_of
  opened-not_overfull = ap (has_record s) opened-end ∙ none

  pub opened-not_dirty : (state_of unit (opened id size)).is_dirty ≡ false
  unfolding state_of
  opened-not_dirty = not_from_true (is_erased (drop (records_end unit s) s)) (ap (λ (n : ℕ). is_erased (drop n s)) opened-end ∙ ap is_erased behind ∙ erased_from (length s - padded unit 8))

  pub opened-end_state : (state_of unit (opened id size)).end ≡ padded unit 8
  unfolding state_of
  opened-end_state = opened-end

-- a header that is cut leaves the sector free
torn-prefix : (unit m : ℕ) → (state_of unit (0xEE ∷ 0xEE ∷ 0xFF ∷ 0xC0 ∷ replicate m 255)).is_free ≡ true
unfolding state_of is_torn
torn-prefix unit m = or_right (is_erased (0xEE ∷ 0xEE ∷ 0xFF ∷ 0xC0 ∷ replicate m 255)) (is_erased (replicate m 255)) (erased_from m)

-- one unit, or none
cut-units : (unit : ℕ) → IsUnit unit → (done : ℕ) → done < padded unit 8 / unit → (done * unit ≡ 0) ⊎ (done * unit ≡ 4)
unfolding padded
cut-units = by_unit (λ unit. (done : ℕ) → done < padded unit 8 / unit → (done * unit ≡ 0) ⊎ (done * unit ≡ 4))
    (λ done lt. elim (cases_eq done 0) [ inl e ↦ inl (omega arith) | inr other ↦ inr (omega (arith, other)) ])
    (λ done lt. inl (omega arith))
    (λ done lt. inl (omega arith))

pub cut_header : (unit id size done : ℕ) → IsUnit unit → 16 ≤ size → done < padded unit 8 / unit
    → (state_of unit (overwritten (replicate size 255) 0 (take (done * unit) (header_image unit id)))).is_free ≡ true
cut_header unit id size done is_unit large lt =
    let of : ℕ → List ℕ = λ n. overwritten (replicate size 255) 0 (take n (header_image unit id)) in
    elim (cut-units unit is_unit done lt) [
      | inl none ↦ ap (λ (n : ℕ). (state_of unit (of n)).is_free) none ∙ blank-free unit size
      | inr some ↦
          ap (λ (n : ℕ). (state_of unit (of n)).is_free) some
          ∙ ap (λ (l : List ℕ). (state_of unit (overwritten (replicate size 255) 0 (take 4 l))).is_free) (header-is unit id)
          ∙ ap (λ (l : List ℕ). (state_of unit (0xEE ∷ 0xEE ∷ 0xFF ∷ 0xC0 ∷ l)).is_free) (drop-replicate 4 size 255) ∙ torn-prefix unit (size - 4)
    ]

-- a blank sector has no records
pub blank-all : (unit size : ℕ) → IsUnit unit → 512 ≤ size → sector_records unit (replicate size 255) ≡ []
unfolding sector_records records
blank-all unit size is_unit large =
    let s : List ℕ = replicate size 255 in
    let fits = header_fits unit is_unit in
    let long : length (replicate size 255) ≡ size = length-replicate {A = ℕ} size 255 in
    let behind : drop (padded unit 8) (replicate size 255) ≡ replicate (length (replicate size 255) - padded unit 8) 255 = drop-replicate (padded unit 8) size 255 ∙ ap (λ (n : ℕ). replicate (n - padded unit 8) 255) (sym long) in
    let none : record_at unit (replicate size 255) (padded unit 8) ≡ None = reads_none unit s (padded unit 8) (blank_none s (padded unit 8) (λ lt. omega (arith, long)) behind) in
    ap (map (with_body (replicate size 255))) (walk-none (record_at unit s) (length s) (padded unit 8) none)
