-- A program or an erase of a sector of an area.
use Rattle.std.proofs.Common.{◌≡◌, inl, inr, ℕ, ◌+◌, ◌*◌, ◌-◌, ◌/◌, ◌<◌, ◌≤◌, Bool, true, false, Result, Ok, Err, OnOk, OnErr, is_err, List, [], ◌∷◌, length, set, take, drop, replicate, refl, sym, ◌∙◌, ap, subst, arith}
use Rattle.std.proofs.lemmas.List.{set-get_or, length-take-le, length-replicate}
use Rattle.std.proofs.lemmas.Nat.{mod-mul-add}
use Rattle.flash_sim.specs.Bank.{IsLawful, IsLawfulBank}
use Rattle.flash_sim.specs.Device.{Device, bank_of, bytes_of, first_units, put, CanProgram, Programs, FailsToProgram, Erases, FailsToErase, start_of}
use Rattle.flash_sim.specs.declared.flash.At.{At}
use Rattle.flash_map.specs.declared.area.Area.{Area}
use Rattle.flash_map.specs.Area.{IsLawfulArea, unit_of, sector_size, sectors_of, sector_bytes, place_of, CanProgramIn, Writes, WritesPart}
use Rattle.flash_map.specs.Touches.{Touches}
use Rattle.flash_map.proofs.Sectors.{overwritten_nil, overwritten_whole}
use Rattle.flash_map.proofs.WholeUnits.{aligned, some_units, done_fits}
use Rattle.flash_map.proofs.Places.{range_range, place_in_bank, place_within, sector_is, length-sector, writes_put}
use Rattle.flash_map.proofs.OneCall.{IsWithin, touches_put, touches_cut, touches_off}

-- a fact for each way that a call ends
pub by_end : {T E : Type 0} (r : Result T E) (P : Bool → Type 0) → OnOk r (P false) → OnErr r (P true) → P (is_err r)
by_end (Ok x) P ok err = ok
by_end (Err e) P ok err = err

-- nothing was written
pub unwritten : (d : Device) (area : Area) (sector offset : ℕ) → Writes d d area sector offset []
unwritten d area sector offset = sym (ap (λ (l : List ℕ). set (sectors_of d area) sector l) (overwritten_nil (sector_bytes d area sector) offset) ∙ set-get_or (sectors_of d area) sector [])

module _ (old new : Device) (area : Area) (lawful : IsLawful old.banks old.bytes) (is_area : IsLawfulArea old.banks area) (sector offset : ℕ) (bytes : List ℕ) (can : CanProgramIn old area sector offset bytes) where
  bank_is : IsLawfulBank (bank_of old area.bank)
  bank_is = lawful.each_bank area.bank is_area.has_bank

  within : (len : ℕ) → offset + len ≤ sector_size old area → IsWithin old area (place_of old area sector offset) len
  within len fits = place_within old area lawful is_area sector can.has_sector offset len (omega (arith, can.some, can.in_sector)) fits

  pub can_program : CanProgram old (place_of old area sector offset) bytes
  can_program = record {
    has_bank = is_area.has_bank;
    some = can.some;
    at_most = can.at_most;
    whole_units = can.whole_units;
    aligned = aligned (area.first + sector) (sector_size old area) (unit_of old area) offset bank_is.whole_units can.aligned;
    one_sector = omega (arith, can.in_sector, mod-mul-add (area.first + sector) (sector_size old area) offset (omega (arith, can.some, can.in_sector)));
    in_bank = omega (arith, can.in_sector, place_in_bank old area lawful is_area sector can.has_sector);
    erased = λ erasing.
        range_range (bytes_of old area.bank) ((area.first + sector) * sector_size old area) offset (sector_size old area) (length bytes) ((area.first + sector) * sector_size old area + offset) can.in_sector refl
        ∙ ap (λ (l : List ℕ). take (offset + length bytes - offset) (drop offset l)) (sym (sector_is old area lawful is_area sector can.has_sector))
        ∙ can.erased erasing;
  }

  pub touches_program : Programs old new (place_of old area sector offset) bytes → Touches (area ∷ []) old new false
  touches_program programs = touches_put old new area (place_of old area sector offset) bytes (length bytes / unit_of old area) (within (length bytes) can.in_sector) (some_units (length bytes) (unit_of old area) can.some can.whole_units) programs

  pub touches_lost : FailsToProgram old new (place_of old area sector offset) bytes → Touches (area ∷ []) old new true
  touches_lost fails = elim fails [
    | inl off ↦ touches_off old new (area ∷ []) off
    | inr cuts ↦ touches_cut old new area (place_of old area sector offset) bytes cuts.0 (within (length bytes) can.in_sector) (done_fits cuts.0 (length bytes) (unit_of old area) cuts.1) cuts.2
  ]

  pub writes_program : Programs old new (place_of old area sector offset) bytes → Writes old new area sector offset bytes
  writes_program programs = subst (λ (d : Device). Writes old d area sector offset bytes) (sym programs.is) (writes_put old area lawful is_area sector can.has_sector offset bytes (length bytes / unit_of old area) can.in_sector)

  pub writes_part : FailsToProgram old new (place_of old area sector offset) bytes → WritesPart old new area sector offset bytes
  writes_part fails = elim fails [
    | inl off ↦ (0, some_units (length bytes) (unit_of old area) can.some can.whole_units, subst (λ (d : Device). Writes old d area sector offset (take (0 * unit_of old area) bytes)) (sym off.is) (subst (λ (n : ℕ). Writes old old area sector offset (take n bytes)) nothing (unwritten old area sector offset)))
    | inr cuts ↦ (cuts.0, cuts.1, subst (λ (d : Device). Writes old d area sector offset (first_units old area.bank bytes cuts.0)) (sym cuts.2.is) (writes_put old area lawful is_area sector can.has_sector offset (first_units old area.bank bytes cuts.0) cuts.0 (fits cuts.0 cuts.1)))
  ]
    where
      nothing : 0 ≡ 0 * unit_of old area
      nothing = omega arith

      fits : (done : ℕ) → done < length bytes / unit_of old area → offset + length (first_units old area.bank bytes done) ≤ sector_size old area
      fits done below = omega (arith, can.in_sector, done_fits done (length bytes) (unit_of old area) below, length-take-le (done * unit_of old area) bytes (done_fits done (length bytes) (unit_of old area) below))

module _ (old new : Device) (area : Area) (lawful : IsLawful old.banks old.bytes) (is_area : IsLawfulArea old.banks area) (sector : ℕ) (has_sector : sector < area.sectors) where
  start_is : place_of old area sector 0 ≡ start_of old area.bank (area.first + sector)
  start_is = let same : (area.first + sector) * sector_size old area + 0 ≡ (area.first + sector) * sector_size old area = omega arith in ap (λ (n : ℕ). at_offset n) same
    where
      at_offset : ℕ → At
      at_offset n = record { bank = area.bank; offset = n }

  at_start : (len : ℕ) → len ≤ sector_size old area → IsWithin old area (start_of old area.bank (area.first + sector)) len
  at_start len fits = subst (λ (at : At). IsWithin old area at len) start_is (place_within old area lawful is_area sector has_sector 0 len (lawful.each_bank area.bank is_area.has_bank).sector (omega arith))

  pub touches_erase : Erases old new area.bank (area.first + sector) → Touches (area ∷ []) old new false
  touches_erase erases = touches_put old new area (start_of old area.bank (area.first + sector)) (replicate (sector_size old area) 255) 1 (at_start (length (replicate (sector_size old area) 255)) (omega (arith, length-replicate {A = ℕ} (sector_size old area) 255))) (omega arith) erases

  pub touches_lost_erase : FailsToErase old new area.bank (area.first + sector) → Touches (area ∷ []) old new true
  touches_lost_erase fails = elim fails [
    | inl off ↦ touches_off old new (area ∷ []) off
    | inr cuts ↦ touches_cut old new area (start_of old area.bank (area.first + sector)) [] 0 (at_start 0 (omega arith)) (omega arith) cuts
  ]

  pub erases_sector : Erases old new area.bank (area.first + sector) → sectors_of new area ≡ set (sectors_of old area) sector (replicate (sector_size old area) 255)
  erases_sector erases =
      let blank : List ℕ = replicate (sector_size old area) 255 in
      let len : length blank ≡ sector_size old area = length-replicate {A = ℕ} (sector_size old area) 255 in
      ap (λ (d : Device). sectors_of d area) erases.is
      ∙ ap (λ (at : At). sectors_of (put old at blank 1) area) (sym start_is)
      ∙ writes_put old area lawful is_area sector has_sector 0 blank 1 (omega arith)
      ∙ ap (λ (l : List ℕ). set (sectors_of old area) sector l) (overwritten_whole (sector_bytes old area sector) blank (len ∙ sym (length-sector old area lawful is_area sector has_sector)))

  pub fails_to_erase : FailsToErase old new area.bank (area.first + sector) → sectors_of new area ≡ sectors_of old area
  fails_to_erase fails = elim fails [
    | inl off ↦ ap (λ (d : Device). sectors_of d area) off.is
    | inr cuts ↦
        let nothing : 0 * unit_of old area ≡ 0 = omega arith in
        ap (λ (d : Device). sectors_of d area) cuts.is
        ∙ ap (λ (n : ℕ). sectors_of (put old (start_of old area.bank (area.first + sector)) (take n []) 0) area) nothing
        ∙ ap (λ (at : At). sectors_of (put old at [] 0) area) (sym start_is)
        ∙ writes_put old area lawful is_area sector has_sector 0 [] 0 (omega arith)
        ∙ sym (unwritten old area sector 0)
  ]
