-- Bytes that are programmed with FF behind them: the whole units first, and then the last one.
use Rattle.std.proofs.Common.{◌≡◌, ◌∷◌, false, ℕ, ◌+◌, ◌-◌, ◌*◌, ◌/◌, ◌%◌, ◌<◌, ◌≤◌, List, [], ◌++◌, length, take, drop, replicate, sym, ap, subst, ◌∙◌, arith}
use Rattle.std.proofs.Math.Seq.{take-append-add}
use Rattle.std.specs.Prelude.{slice_range}
use Rattle.std.proofs.lemmas.List.{length-append, length-replicate, length-drop, length-take-le, append-nil, take-append-le, take-take, take_all, drop-append-le, take-replicate}
use Rattle.flash_sim.specs.Bank.{IsLawful}
use Rattle.flash_sim.specs.Device.{Device}
use Rattle.flash_map.specs.declared.area.Area.{Area}
use Rattle.flash_map.specs.Area.{IsLawfulArea, unit_of, sector_bytes, CanProgramIn, Writes, WritesPart}
use Rattle.flash_map.specs.Pieces.{CanProgramAll}
use Rattle.flash_map.specs.Spending.{Spends, SpendsAtMost}
use Rattle.flash_map.specs.Touches.{Touches}
use Rattle.flash_map.specs.Units.{IsUnit, padded, padded_bytes}
use Rattle.flash_map.proofs.Places.{length-sector}
use Rattle.flash_map.proofs.WholeUnits.{done_fits}
use Rattle.flash_map.proofs.PieceLemmas.{erased_part, can_piece, written_more, part_more, piece_len-is}
use Rattle.flash_map.proofs.Rounding.{by_unit, is_unit, padding}
use Rattle.flash_map.proofs.SpendingLemmas.{units_le, most_weaker, piece_spends, piece_at_most}

-- ---- lists

pub length-padded_bytes : (unit : ℕ) (bytes : List ℕ) → IsUnit unit → length (padded_bytes unit bytes) ≡ padded unit (length bytes)
length-padded_bytes unit bytes is-unit =
    let long = (padding unit is-unit).no_less (length bytes) in
    omega (arith, length-append bytes (replicate (padded unit (length bytes) - length bytes) 0xFF), length-replicate {A = ℕ} (padded unit (length bytes) - length bytes) 0xFF)

-- the bytes themselves stand before the padding
pub take-padded_bytes : (unit : ℕ) (bytes : List ℕ) (n : ℕ) → n ≤ length bytes → take n (padded_bytes unit bytes) ≡ take n bytes
take-padded_bytes unit bytes n le = take-append-le n bytes (replicate (padded unit (length bytes) - length bytes) 255) le

pub record IsWholePart (unit n whole : ℕ) : Type 0 where
  pub no_more : whole ≤ n
  pub aligned : whole % unit ≡ 0
  pub exact : whole ≡ n → padded unit n ≡ n
  pub one_more : (whole ≡ n → ⊥) → padded unit n ≡ whole + unit
  pub short : n - whole ≤ unit

whole_part_at : (unit : ℕ) → IsUnit unit → (n : ℕ) → IsWholePart unit n (n / unit * unit)
unfolding padded
whole_part_at = by_unit (λ unit. (n : ℕ) → IsWholePart unit n (n / unit * unit))
    (λ n. record { no_more = omega arith; aligned = omega arith; exact = λ same. omega arith; one_more = λ apart. omega arith; short = omega arith })
    (λ n. record { no_more = omega arith; aligned = omega arith; exact = λ same. omega arith; one_more = λ apart. omega arith; short = omega arith })
    (λ n. record { no_more = omega arith; aligned = omega arith; exact = λ same. omega arith; one_more = λ apart. omega arith; short = omega arith })

prefix : (unit whole : ℕ) (bytes : List ℕ) → whole ≤ length bytes → take whole (padded_bytes unit bytes) ≡ take whole bytes
prefix unit whole bytes le = take-append-le whole bytes (replicate (padded unit (length bytes) - length bytes) 0xFF) le

all_whole : (unit : ℕ) (bytes : List ℕ) → padded unit (length bytes) ≡ length bytes → padded_bytes unit bytes ≡ bytes
all_whole unit bytes same =
    let none : padded unit (length bytes) - length bytes ≡ 0 = omega arith in
    ap (λ (n : ℕ). bytes ++ replicate n 0xFF) none ∙ append-nil bytes

-- the last unit, as the code makes it
last : (unit whole : ℕ) (bytes : List ℕ) → unit ≤ 16 → whole ≤ length bytes → length bytes - whole ≤ unit → padded unit (length bytes) ≡ whole + unit
    → take (padded unit (length bytes) - whole) (drop whole (padded_bytes unit bytes)) ≡ take unit (drop whole bytes ++ replicate (16 - length (drop whole bytes)) 0xFF)
last unit whole bytes small le short is =
    let rest = drop whole bytes in
    let len : length (drop whole bytes) ≡ length bytes - whole = length-drop whole bytes in
    let fill = padded unit (length bytes) - length bytes in
    let width : padded unit (length bytes) - whole ≡ unit = omega arith in
    let filled : unit - length (drop whole bytes) ≡ padded unit (length bytes) - length bytes = omega arith in
    let exact : length (drop whole bytes ++ replicate (padded unit (length bytes) - length bytes) 0xFF) ≡ unit =
    omega (arith, length-append (drop whole bytes) (replicate (padded unit (length bytes) - length bytes) 0xFF), length-replicate {A = ℕ} (padded unit (length bytes) - length bytes) 0xFF) in
    let more : 16 - length (drop whole bytes) ≡ padded unit (length bytes) - length bytes + (16 - unit) = omega arith in
    ap (λ (n : ℕ). take n (drop whole (padded_bytes unit bytes))) width
    ∙ ap (take unit) (drop-append-le whole bytes (replicate (padded unit (length bytes) - length bytes) 0xFF) le)
    ∙ take_all unit (drop whole bytes ++ replicate (padded unit (length bytes) - length bytes) 0xFF) (omega arith)
    ∙ sym (ap (λ (n : ℕ). take unit (drop whole bytes ++ replicate n 0xFF)) more ∙ split unit (drop whole bytes) (padded unit (length bytes) - length bytes) (16 - unit) (omega arith))
  where
    split : (unit : ℕ) (xs : List ℕ) (n m : ℕ) → unit ≡ length xs + n → take unit (xs ++ replicate (n + m) 0xFF) ≡ xs ++ replicate n 0xFF
    split unit xs n m is =
        ap (λ (k : ℕ). take k (xs ++ replicate (n + m) 0xFF)) is ∙ take-append-add xs (replicate (n + m) 0xFF) n
        ∙ ap (λ (ys : List ℕ). xs ++ ys) (take-replicate n (n + m) 0xFF (omega arith))

-- what the code programs last begins so
abbrev with_fill : List ℕ → List ℕ
with_fill bytes = bytes ++ replicate (16 - length bytes) 0xFF

-- ---- the area after the whole units, and after the last one

module _ (a b : Device) (area : Area) (lawful : IsLawful a.banks a.bytes) (is_area : IsLawfulArea a.banks area) (sector offset : ℕ) (bytes : List ℕ) (can : CanProgramAll a area sector offset (padded_bytes (unit_of a area) bytes)) (unit : ℕ) (unit-is : unit ≡ unit_of a area) where
  is-unit : IsUnit (unit_of a area)
  is-unit = is_unit (unit_of a area) (lawful.each_bank area.bank is_area.has_bank).unit

  part : IsWholePart (unit_of a area) (length bytes) (length bytes / unit * unit)
  part = subst (λ (u : ℕ). IsWholePart (unit_of a area) (length bytes) (length bytes / u * u)) (sym unit-is) (whole_part_at (unit_of a area) is-unit (length bytes))

  long : length (padded_bytes (unit_of a area) bytes) ≡ padded (unit_of a area) (length bytes)
  long = length-padded_bytes (unit_of a area) bytes is-unit

  prefix_is : take (length bytes / unit * unit) (padded_bytes (unit_of a area) bytes) ≡ take (length bytes / unit * unit) bytes
  prefix_is = prefix (unit_of a area) (length bytes / unit * unit) bytes part.no_more

  prefix_long : length (take (length bytes / unit * unit) bytes) ≡ length bytes / unit * unit
  prefix_long = length-take-le (length bytes / unit * unit) bytes part.no_more

  no_less : length bytes ≤ padded (unit_of a area) (length bytes)
  no_less = (padding (unit_of a area) is-unit).no_less (length bytes)

  fits : offset + length (padded_bytes (unit_of a area) bytes) ≤ length (sector_bytes a area sector)
  fits = omega (arith, can.in_sector, length-sector a area lawful is_area sector can.has_sector)

  pub can_prefix : CanProgramAll a area sector offset (take (length bytes / unit * unit) bytes)
  can_prefix = record {
    has_sector = can.has_sector;
    whole_units = ap (λ (n : ℕ). n % unit_of a area) prefix_long ∙ part.aligned;
    aligned = can.aligned;
    in_sector = let le = part.no_more in omega (arith, prefix_long, long, no_less, can.in_sector);
    erased = λ erasing.
        let at : offset + 0 ≡ offset = omega arith in
        let width : length bytes / unit * unit - 0 ≡ length (take (length bytes / unit * unit) bytes) = omega (arith, prefix_long) in
        let le = part.no_more in
        subst (λ (n : ℕ). slice_range (sector_bytes a area sector) offset (offset + n) ≡ replicate n 255) width
        (subst (λ (m : ℕ). slice_range (sector_bytes a area sector) m (m + (length bytes / unit * unit - 0)) ≡ replicate (length bytes / unit * unit - 0) 255) at
        (erased_part (sector_bytes a area sector) offset (length (padded_bytes (unit_of a area) bytes)) 0 (length bytes / unit * unit) fits (omega arith) (omega (arith, long, no_less)) (can.erased erasing)));
  }

  pub prefix_part : WritesPart a b area sector offset (take (length bytes / unit * unit) bytes) → WritesPart a b area sector offset (padded_bytes (unit_of a area) bytes)
  prefix_part cut =
      let below : cut.0 < length bytes / unit * unit / unit_of a area = subst (λ (n : ℕ). cut.0 < n / unit_of a area) prefix_long cut.1 in
      let le = part.no_more in
      let units : length bytes / unit * unit / unit_of a area ≤ length (padded_bytes (unit_of a area) bytes) / unit_of a area = units_le (unit_of a area) (length bytes / unit * unit) (length (padded_bytes (unit_of a area) bytes)) is-unit (omega (arith, long, no_less)) in
      let inside : cut.0 * unit_of a area ≤ length bytes / unit * unit = done_fits cut.0 (length bytes / unit * unit) (unit_of a area) below in
      let same : take (cut.0 * unit_of a area) (take (length bytes / unit * unit) bytes) ≡ take (cut.0 * unit_of a area) (padded_bytes (unit_of a area) bytes) =
      ap (take (cut.0 * unit_of a area)) (sym prefix_is) ∙ take-take (cut.0 * unit_of a area) (length bytes / unit * unit) (padded_bytes (unit_of a area) bytes) inside in
      (cut.0, omega arith, subst (λ (xs : List ℕ). Writes a b area sector offset xs) same cut.2)

  pub prefix_most : SpendsAtMost a b (length (take (length bytes / unit * unit) bytes) / unit_of a area) → SpendsAtMost a b (padded (unit_of a area) (length bytes) / unit_of a area)
  prefix_most spent =
      let le = part.no_more in
      most_weaker a b (length (take (length bytes / unit * unit) bytes) / unit_of a area) (padded (unit_of a area) (length bytes) / unit_of a area)
      (units_le (unit_of a area) (length (take (length bytes / unit * unit) bytes)) (padded (unit_of a area) (length bytes)) is-unit (omega (arith, prefix_long, no_less))) spent

  -- where no unit is left
  pub all_written : length bytes / unit * unit ≡ length bytes → Writes a b area sector offset (take (length bytes / unit * unit) bytes) → Writes a b area sector offset (padded_bytes (unit_of a area) bytes)
  all_written same writes =
      let whole : take (length bytes / unit * unit) bytes ≡ padded_bytes (unit_of a area) bytes =
      take_all (length bytes / unit * unit) bytes (omega arith) ∙ sym (all_whole (unit_of a area) bytes (part.exact same)) in
      subst (λ (xs : List ℕ). Writes a b area sector offset xs) whole writes

  pub all_spent : length bytes / unit * unit ≡ length bytes → Spends a b (length (take (length bytes / unit * unit) bytes) / unit_of a area) → Spends a b (padded (unit_of a area) (length bytes) / unit_of a area)
  all_spent same spent =
      let count : length (take (length bytes / unit * unit) bytes) ≡ padded (unit_of a area) (length bytes) = prefix_long ∙ same ∙ sym (part.exact same) in
      subst (λ (n : ℕ). Spends a b (n / unit_of a area)) count spent

  module _ (apart : length bytes / unit * unit ≡ length bytes → ⊥) (touches : Touches (area ∷ []) a b false) (writes : Writes a b area sector offset (take (length bytes / unit * unit) bytes)) (spends : Spends a b (length (take (length bytes / unit * unit) bytes) / unit_of a area)) (unit_bytes : List ℕ) (bytes_is : unit_bytes ≡ with_fill (take (length bytes - length bytes / unit * unit) (drop (length bytes / unit * unit) bytes))) where
    tail_is : take (padded (unit_of a area) (length bytes) - length bytes / unit * unit) (drop (length bytes / unit * unit) (padded_bytes (unit_of a area) bytes)) ≡ take unit unit_bytes
    tail_is =
        last (unit_of a area) (length bytes / unit * unit) bytes (padding (unit_of a area) is-unit).small part.no_more part.short (part.one_more apart)
        ∙ ap (λ (u : ℕ). take u (with_fill (drop (length bytes / unit * unit) bytes))) (sym unit-is)
        ∙ ap (λ (rest : List ℕ). take unit (with_fill rest)) (sym (take_all (length bytes - length bytes / unit * unit) (drop (length bytes / unit * unit) bytes) (omega (arith, length-drop (length bytes / unit * unit) bytes))))
        ∙ ap (take unit) (sym bytes_is)

    more : length bytes / unit * unit < padded (unit_of a area) (length bytes)
    more = let one = part.one_more apart in let positive = (padding (unit_of a area) is-unit).positive in omega arith

    writes_prefix : Writes a b area sector offset (take (length bytes / unit * unit) (padded_bytes (unit_of a area) bytes))
    writes_prefix = subst (λ (xs : List ℕ). Writes a b area sector offset xs) (sym prefix_is) writes

    end_aligned : padded (unit_of a area) (length bytes) % unit_of a area ≡ 0
    end_aligned = (padding (unit_of a area) is-unit).aligned (length bytes)

    pub can_last : CanProgramIn b area sector (offset + length bytes / unit * unit) (take unit unit_bytes)
    can_last =
        subst (λ (xs : List ℕ). CanProgramIn b area sector (offset + length bytes / unit * unit) xs) tail_is
        (can_piece a b area lawful is_area sector offset (padded_bytes (unit_of a area) bytes) can (length bytes / unit * unit) (padded (unit_of a area) (length bytes)) more (omega (arith, long)) part.aligned end_aligned touches writes_prefix
        (let one = part.one_more apart in let small = (padding (unit_of a area) is-unit).small in omega arith))

    pub last_written : (c : Device) → Writes b c area sector (offset + length bytes / unit * unit) (take unit unit_bytes) → Writes a c area sector offset (padded_bytes (unit_of a area) bytes)
    last_written c second =
        subst (λ (xs : List ℕ). Writes a c area sector offset xs) (take_all (padded (unit_of a area) (length bytes)) (padded_bytes (unit_of a area) bytes) (omega (arith, long)))
        (written_more a b area lawful is_area sector offset (padded_bytes (unit_of a area) bytes) can (length bytes / unit * unit) (padded (unit_of a area) (length bytes)) more (omega (arith, long)) part.aligned end_aligned touches writes_prefix c
        (subst (λ (xs : List ℕ). Writes b c area sector (offset + length bytes / unit * unit) xs) (sym tail_is) second))

    pub last_part : (c : Device) → WritesPart b c area sector (offset + length bytes / unit * unit) (take unit unit_bytes) → WritesPart a c area sector offset (padded_bytes (unit_of a area) bytes)
    last_part c second =
        part_more a b area lawful is_area sector offset (padded_bytes (unit_of a area) bytes) can (length bytes / unit * unit) (padded (unit_of a area) (length bytes)) more (omega (arith, long)) part.aligned end_aligned touches writes_prefix c
        (subst (λ (xs : List ℕ). WritesPart b c area sector (offset + length bytes / unit * unit) xs) (sym tail_is) second)

    tail_long : length (take unit unit_bytes) ≡ padded (unit_of a area) (length bytes) - length bytes / unit * unit
    tail_long = ap length (sym tail_is) ∙ piece_len-is (padded_bytes (unit_of a area) bytes) (length bytes / unit * unit) (padded (unit_of a area) (length bytes)) (omega (arith, long))

    so_far : Spends a b (length bytes / unit * unit / unit_of a area)
    so_far = subst (λ (n : ℕ). Spends a b (n / unit_of a area)) prefix_long spends

    pub last_spent : (c : Device) → Spends b c (length (take unit unit_bytes) / unit_of b area) → Spends a c (padded (unit_of a area) (length bytes) / unit_of a area)
    last_spent c second =
        piece_spends a b c area is-unit (length bytes / unit * unit) (padded (unit_of a area) (length bytes)) (take unit unit_bytes) tail_long part.aligned (omega (arith, more)) touches.banks so_far second

    pub last_most : (c : Device) → SpendsAtMost b c (length (take unit unit_bytes) / unit_of b area) → SpendsAtMost a c (padded (unit_of a area) (length bytes) / unit_of a area)
    last_most c second =
        piece_at_most a b c area is-unit (length bytes / unit * unit) (padded (unit_of a area) (length bytes)) (take unit unit_bytes) tail_long part.aligned (omega (arith, more)) touches.banks so_far
        (padded (unit_of a area) (length bytes)) (omega arith) second
