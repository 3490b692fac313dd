-- A list of bytes, programmed piece by piece.
use Rattle.std.proofs.Common.{◌≡◌, ◌⊎◌, inl, inr, true, ℕ, ◌+◌, ◌*◌, ◌-◌, ◌/◌, ◌%◌, ◌<◌, ◌≤◌, ◌||◌, eqb, IsTrue, Result, Ok, Err, OnErr, false, List, [], ◌∷◌, length, set, take, drop, min, replicate, sym, ◌∙◌, ap, subst, arith, rules}
use Rattle.std.specs.Prelude.{slice_range}
use Rattle.std.proofs.Math.Nat.{mul-sub, mul-mod_left, mul-mod_right, mul-le-mul_left}
use Rattle.std.proofs.lemmas.Nat.{div-add-mod', le-div}
use Rattle.std.proofs.lemmas.List.{places, same_lists, take-take, length-take-le, length-drop, take-replicate, drop-replicate}
use Rattle.std.proofs.lemmas.Bool.Decides.{nat_tests}
use Rattle.std.proofs.lemmas.Bool.{cases_lt}
use Rattle.flash_sim.specs.Bank.{IsLawful, bank_at}
use Rattle.flash_sim.specs.declared.flash.Bank.{Bank}
use Rattle.flash_sim.specs.Device.{Device, overwritten, FailsToProgram}
use Rattle.flash_sim.specs.declared.flash.At.{At}
use Rattle.flash_map.specs.declared.area.Area.{Area}
use Rattle.flash_map.specs.Area.{IsLawfulArea, unit_of, sector_size, sectors_of, sector_bytes, CanProgramIn, Writes, WritesPart}
use Rattle.flash_map.specs.Touches.{Touches}
use Rattle.flash_map.proofs.Places.{length-sector}
use Rattle.flash_map.proofs.Sequence.{can_after, range_apart, sector_written, writes_twice, writes_then_part}
use Rattle.flash_map.proofs.WholeUnits.{unit_below}
use Rattle.flash_map.specs.Pieces.{CanProgramAll, LosesWithin}
use Rattle.flash_map.specs.Units.{IsUnit}

-- what holds, holds at an `Err`
pub on_err : {T E P : Type 0} (r : Result T E) → P → OnErr r P
on_err (Ok x) p = tt
on_err (Err e) p = p

-- Whole units.

whole_is : (n unit : ℕ) → n % unit ≡ 0 → n ≡ n / unit * unit
whole_is n unit whole = omega (arith, div-add-mod' n unit)

sub_by : (q r unit : ℕ) → (r * unit - q * unit) % unit ≡ 0
sub_by q r unit = let e : r * unit - q * unit ≡ unit * (r - q) = omega (arith, mul-sub unit r q) in ap (λ (n : ℕ). n % unit) e ∙ mul-mod_right unit (r - q)

pub sub_whole : (m n unit : ℕ) → m % unit ≡ 0 → n % unit ≡ 0 → (n - m) % unit ≡ 0
sub_whole m n unit first second =
    ap (λ (k : ℕ). (k - m) % unit) (whole_is n unit second) ∙ ap (λ (k : ℕ). (n / unit * unit - k) % unit) (whole_is m unit first) ∙ sub_by (m / unit) (n / unit) unit

add_by : (q r unit : ℕ) → (q * unit + r * unit) % unit ≡ 0
add_by q r unit = let e : q * unit + r * unit ≡ (q + r) * unit = omega arith in ap (λ (n : ℕ). n % unit) e ∙ mul-mod_left (q + r) unit

pub add_whole : (m n unit : ℕ) → m % unit ≡ 0 → n % unit ≡ 0 → (m + n) % unit ≡ 0
add_whole m n unit first second =
    ap (λ (k : ℕ). (m + k) % unit) (whole_is n unit second) ∙ ap (λ (k : ℕ). (k + n / unit * unit) % unit) (whole_is m unit first) ∙ add_by (m / unit) (n / unit) unit

pub piece_whole : (unit : ℕ) → IsTrue (eqb unit 4 || eqb unit 8 || eqb unit 16) → 400 % unit ≡ 0
piece_whole unit is = grind (arith, nat_tests)

pub min_whole : (m n unit : ℕ) → m % unit ≡ 0 → n % unit ≡ 0 → min m n % unit ≡ 0
min_whole m n unit first second = elim (cases_lt m n) [
  | inl below ↦ let is : min m n ≡ m = omega arith in ap (λ (k : ℕ). k % unit) is ∙ first
  | inr above ↦ let is : min m n ≡ n = omega arith in ap (λ (k : ℕ). k % unit) is ∙ second
]

-- there is room for the unit after those that are done
pub next_fits : (done n unit : ℕ) → done < n / unit → done * unit + unit ≤ n
next_fits done n unit below = let less : done + 1 ≤ n / unit = omega arith in omega (arith, mul-le-mul_left unit less, div-add-mod' n unit)

-- A write that goes on where another ended.

pub overwritten_more : (old : List ℕ) (at : ℕ) (bytes : List ℕ) (done m : ℕ) → at + length bytes ≤ length old → done + m ≤ length bytes → overwritten (overwritten old at (take done bytes)) (at + done) (take m (drop done bytes)) ≡ overwritten old at (take (done + m) bytes)
overwritten_more old at bytes done m fits inside = same_lists _ _ (search (rules, places)) (λ k d h. grind (arith, places))

-- a part of what is erased
pub erased_part : (old : List ℕ) (at len done end : ℕ) → at + len ≤ length old → done ≤ end → end ≤ len → slice_range old at (at + len) ≡ replicate len 255 → slice_range old (at + done) (at + done + (end - done)) ≡ replicate (end - done) 255
erased_part old at len done end fits from to erased =
    inner
    ∙ ap (λ (l : List ℕ). take (end - done) (drop done l)) erased
    ∙ ap (λ (l : List ℕ). take (end - done) l) (drop-replicate done len 255)
    ∙ take-replicate (end - done) (len - done) 255 (omega arith)
  where
    inner : slice_range old (at + done) (at + done + (end - done)) ≡ take (end - done) (drop done (slice_range old at (at + len)))
    inner = same_lists _ _ (search (rules, places)) (λ k d h. grind (arith, places))

-- the end of a piece is whole units too
pub end_whole : (a : Device) (area : Area) → IsLawful a.banks a.bytes → IsLawfulArea a.banks area → (sector offset : ℕ) (bytes : List ℕ) → CanProgramAll a area sector offset bytes → (done end : ℕ) → end ≡ min (length bytes) (done + 400) → done % unit_of a area ≡ 0 → end % unit_of a area ≡ 0
end_whole a area lawful is_area sector offset bytes can done end is done_whole =
    ap (λ (n : ℕ). n % unit_of a area) is
    ∙ min_whole (length bytes) (done + 400) (unit_of a area) can.whole_units (add_whole done 400 (unit_of a area) done_whole (piece_whole (unit_of a area) (lawful.each_bank area.bank is_area.has_bank).unit))

-- what could be programmed before a write elsewhere in the sector can be programmed after it
pub can_all_after : (old new : Device) (area : Area) (sector offset at : ℕ) (bytes written : List ℕ) → IsLawful old.banks old.bytes → IsLawfulArea old.banks area → new.banks ≡ old.banks → Writes old new area sector at written
    → at + length written ≤ sector_size old area → (offset + length bytes ≤ at) ⊎ (at + length written ≤ offset) → CanProgramAll old area sector offset bytes → CanProgramAll new area sector offset bytes
can_all_after old new area sector offset at bytes written lawful is_area banks writes fits apart can =
    let sector_is = sector_written old new area sector at written can.has_sector writes in
    let len = length-sector old area lawful is_area sector can.has_sector in
    let same : (bank_at new.banks area.bank) ≡ (bank_at old.banks area.bank) = ap (λ (l : List Bank). bank_at l area.bank) banks in
    record {
      has_sector = can.has_sector;
      whole_units = subst (λ (bank : Bank). length bytes % bank.unit ≡ 0) (sym same) can.whole_units;
      aligned = subst (λ (bank : Bank). offset % bank.unit ≡ 0) (sym same) can.aligned;
      in_sector = subst (λ (bank : Bank). offset + length bytes ≤ bank.sector) (sym same) can.in_sector;
      erased = λ erasing.
          ap (λ (l : List ℕ). slice_range l offset (offset + length bytes)) sector_is
          ∙ range_apart (sector_bytes old area sector) at written offset (offset + length bytes) (omega (arith, len)) (omega (arith, len, can.in_sector)) apart
          ∙ can.erased (ap (λ (bank : Bank). bank.kind) (sym same) ∙ erasing);
    }

pub piece_len-is : (bytes : List ℕ) (done end : ℕ) → end ≤ length bytes → length (take (end - done) (drop done bytes)) ≡ end - done
piece_len-is bytes done end inside = length-take-le (end - done) (drop done bytes) (omega (arith, length-drop done bytes))

-- The area after some of the bytes, and the piece that follows.

module _ (a b : Device) (area : Area) (lawful : IsLawful a.banks a.bytes) (is_area : IsLawfulArea a.banks area) (sector offset : ℕ) (bytes : List ℕ) (can : CanProgramAll a area sector offset bytes) (done end : ℕ) (some : done < end) (in_range : end ≤ length bytes) (done_whole : done % unit_of a area ≡ 0) (end_whole : end % unit_of a area ≡ 0) (touches : Touches (area ∷ []) a b false) (written : Writes a b area sector offset (take done bytes)) where
  abbrev piece : List ℕ
  piece = take (end - done) (drop done bytes)

  piece_len : length piece ≡ end - done
  piece_len = piece_len-is bytes done end in_range

  done_len : length (take done bytes) ≡ done
  done_len = length-take-le done bytes (omega arith)

  fits : offset + length bytes ≤ length (sector_bytes a area sector)
  fits = omega (arith, can.in_sector, length-sector a area lawful is_area sector can.has_sector)

  can_first : end - done ≤ 400 → CanProgramIn a area sector (offset + done) piece
  can_first at_most = record {
    has_sector = can.has_sector;
    some = omega (arith, piece_len);
    at_most = omega (arith, piece_len);
    whole_units = ap (λ (n : ℕ). n % unit_of a area) piece_len ∙ sub_whole done end (unit_of a area) done_whole end_whole;
    aligned = add_whole offset done (unit_of a area) can.aligned done_whole;
    in_sector = omega (arith, piece_len, can.in_sector);
    erased = λ erasing. subst (λ (n : ℕ). slice_range (sector_bytes a area sector) (offset + done) (offset + done + n) ≡ replicate n 255) (sym piece_len) (erased_part (sector_bytes a area sector) offset (length bytes) done end fits (omega arith) in_range (can.erased erasing));
  }

  pub can_piece : end - done ≤ 400 → CanProgramIn b area sector (offset + done) (take (end - done) (drop done bytes))
  can_piece at_most = can_after a b area sector (offset + done) offset piece (take done bytes) lawful is_area touches.banks written (omega (arith, done_len, can.in_sector)) (inr (omega (arith, done_len))) (can_first at_most)

  pub written_more : (c : Device) → Writes b c area sector (offset + done) (take (end - done) (drop done bytes)) → Writes a c area sector offset (take end bytes)
  written_more c more =
      let sum : done + (end - done) ≡ end = omega arith in
      writes_twice a b c area sector offset (offset + done) (take done bytes) (take (end - done) (drop done bytes)) can.has_sector written more
      ∙ ap (λ (l : List ℕ). set (sectors_of a area) sector l) (overwritten_more (sector_bytes a area sector) offset bytes done (end - done) fits (omega arith) ∙ ap (λ (n : ℕ). overwritten (sector_bytes a area sector) offset (take n bytes)) sum)

  pub part_more : (c : Device) → WritesPart b c area sector (offset + done) (take (end - done) (drop done bytes)) → WritesPart a c area sector offset bytes
  part_more c more =
      let part = writes_then_part a b c area sector offset (offset + done) (take done bytes) piece can.has_sector touches.banks written more in
      let unit_is = unit_below (unit_of a area) (lawful.each_bank area.bank is_area.has_bank).unit in
      let within : part.0 * unit_of a area + unit_of a area ≤ end - done = omega (arith, piece_len, next_fits part.0 (length piece) (unit_of a area) part.1) in
      let sum : done + part.0 * unit_of a area ≡ (done / unit_of a area + part.0) * unit_of a area = omega (arith, whole_is done (unit_of a area) done_whole) in
      let less : done / unit_of a area + part.0 < length bytes / unit_of a area = omega (arith, le-div (done / unit_of a area + part.0 + 1) (length bytes) (unit_of a area) unit_is.0 (omega arith)) in (
        done / unit_of a area + part.0,
        less,
        part.2
            ∙ ap (λ (l : List ℕ). set (sectors_of a area) sector l)
            (ap (λ (l : List ℕ). overwritten (overwritten (sector_bytes a area sector) offset (take done bytes)) (offset + done) l) (take-take (part.0 * unit_of a area) (end - done) (drop done bytes) (omega arith))
            ∙ overwritten_more (sector_bytes a area sector) offset bytes done (part.0 * unit_of a area) fits (omega arith)
            ∙ ap (λ (n : ℕ). overwritten (sector_bytes a area sector) offset (take n bytes)) sum),
      )

clash : false ≡ true → ⊥
clash p = search rules

-- Power that was lost in a call was lost in a call of its bytes.
pub loses_one : (most : ℕ) (old new : Device) (at : At) (bytes : List ℕ) → FailsToProgram old new at bytes → length bytes ≤ most → LosesWithin most old new
loses_one most old new at bytes fails short on =
    elim fails [
      | inl off ↦ absurd (clash (sym off.off ∙ on))
      | inr (done, few, cut) ↦ (record { at = at; want = record { items = bytes }; done = done }, ap (λ (d : Device). d.last_loss) cut.is, short)
    ]

-- So too where other calls went before.
pub within_then : (most : ℕ) (a b new : Device) (areas : List Area) → Touches areas a b false → LosesWithin most b new → LosesWithin most a new
within_then most a b new areas touches within on = within (touches.ends.on ∙ on)

pub loses_within : (most : ℕ) (a b new : Device) (areas : List Area) (at : At) (bytes : List ℕ) → Touches areas a b false → FailsToProgram b new at bytes → length bytes ≤ most → LosesWithin most a new
loses_within most a b new areas at bytes touches fails short = within_then most a b new areas touches (loses_one most b new at bytes fails short)

-- At most so many are at most more.
pub within_most : (few most : ℕ) (old new : Device) → few ≤ most → LosesWithin few old new → LosesWithin most old new
within_most few most old new less within on = let lost = within on in (lost.0, lost.1, omega (arith, lost.2, less))

pub unit-most : (unit : ℕ) → IsUnit unit → unit ≤ 16
unit-most unit (inl four) = omega (arith, four)
unit-most unit (inr (inl eight)) = omega (arith, eight)
unit-most unit (inr (inr sixteen)) = omega (arith, sixteen)
