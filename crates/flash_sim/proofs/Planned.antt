-- What a program and an erase come to where a count says when power is lost.
use Rattle.std.proofs.Common.{◌≡◌, ℕ, zero, suc, ◌+◌, ◌-◌, ◌*◌, ◌/◌, ◌%◌, ◌<◌, ◌≤◌, ◌==◌, ◌||◌, min, IsTrue, true, inr, Option, Some, None, unwrap_or, List, [], ◌++◌, length, get_or, set, take, drop, map, replicate, Fits, w32, refl, sym, ◌∙◌, ap, subst, arith}
use Rattle.std.specs.Option.{MatchOption, IsSomeAnd}
use Rattle.std.proofs.Math.Nat.{div-mul-le_self, mul-le-mul_left, mul-le-mul_right, mod-eq-sub-div-mul}
use Rattle.std.proofs.Math.Seq.{take-nil}
use Rattle.std.proofs.lemmas.Bool.{false≢true}
use Rattle.std.proofs.lemmas.Option.{none-some, same_Some}
use Rattle.std.proofs.lemmas.List.{map-set, get_or-map, set-get_or, get_or_default, length-set, length-take-le, length-replicate, take_all, take-append-drop}
use Rattle.flash_sim.specs.declared.flash.At.{At}
use Rattle.flash_sim.specs.declared.flash.Bank.{Bank}
use Rattle.flash_sim.specs.declared.flash.Loss.{Loss}
use Rattle.flash_sim.specs.Bank.{no_bank, capacity, IsLawful}
use Rattle.flash_sim.specs.Device.{Plan, Unknown, Never, After, Device, counted, Lasts, LostAfter, lowered, dropped, bank_of, bytes_of, overwritten, units_in, first_units, put, cut, CanProgram, CanErase, Puts, FailsToProgram, start_of, Erases, FailsToErase}
use Rattle.flash_sim.specs.Sim.{plan_of}
use Rattle.flash_sim.proofs.Shown.{length-overwritten}

-- Counts and plans.

lasts : (plan : Option ℕ) (units done : ℕ) → done ≡ min units (unwrap_or plan units) → units ≤ done → Lasts (plan_of plan) units
lasts None units done is le = tt
lasts (Some left) units done is le = omega arith

lost : (plan : Option ℕ) (units done : ℕ) → done ≡ min units (unwrap_or plan units) → done < units → LostAfter (plan_of plan) done
lost None units done is lt = absurd (omega arith)
lost (Some left) units done is lt = omega arith

-- what is done is within the plan
pub planned : (plan : Option ℕ) (units done left : ℕ) → done ≡ min units (unwrap_or plan units) → plan ≡ Some left → done ≤ left
planned None units done left is e = absurd (none-some left e)
planned (Some x) units done left is e = let same = same_Some x left e in omega arith

-- the same of an erase, which was carried out
pub planned-erase : (plan : Option ℕ) (done left : ℕ) → done ≡ min 1 (unwrap_or plan 1) → 1 ≤ done → plan ≡ Some left → 1 ≤ left
planned-erase plan done left is some e = let le = planned plan 1 done left is e in omega arith

-- the plan after a call of `map` that lowers it
pub plan_after : (plan next : Option ℕ) (done : ℕ) (Q : ℕ → ℕ → Type 0) → MatchOption plan (next ≡ None) (λ x. IsSomeAnd next (Q x)) → ((x r : ℕ) → Q x r → r ≡ x - done) → plan_of next ≡ lowered (plan_of plan) done
plan_after None next done Q is lower = ap plan_of is
plan_after (Some x) None done Q is lower = absurd is
plan_after (Some x) (Some r) done Q is lower = ap After (lower x r is)

dropped-lowered : (plan : Plan) (n : ℕ) → dropped (lowered plan n) ≡ dropped plan
dropped-lowered Unknown n = refl
dropped-lowered Never n = refl
dropped-lowered (After left) n = refl

pub is-counted : (n more r : ℕ) → n < 18446744073709551616 → r ≡ min (n + more) 18446744073709551615 → r ≡ counted n more
is-counted n more r fits is = omega arith

pub none-least : (n : ℕ) → 0 ≤ n
none-least n = omega arith

-- no unit
none-counted : (n : ℕ) → n ≡ counted n 0
none-counted n = omega arith

-- what a call puts in the place of a device's bytes, count and plan
made_same : (d : Device) {b c : List (List ℕ)} {s t : ℕ} {p q : Plan} → b ≡ c → s ≡ t → p ≡ q → ◌≡◌ {A = Device} (record d { bytes = b; spent = s; plan = p }) (record d { bytes = c; spent = t; plan = q })
made_same d {b} {c} {s} {t} {p} {q} bytes spent plan =
    ap (λ (x : List (List ℕ)). record d { bytes = x; spent = s; plan = p }) bytes
    ∙ ap (λ (n : ℕ). record d { bytes = c; spent = n; plan = p }) spent
    ∙ ap (λ (x : Plan). record d { bytes = c; spent = t; plan = x }) plan

unwritten : (old : List ℕ) (at : ℕ) → overwritten old at [] ≡ old
unwritten old at = ap (λ (n : ℕ). take at old ++ drop n old) (let same : at + 0 ≡ at = omega arith in same) ∙ take-append-drop at old

-- Banks.

pub fits-32 : (n : ℕ) → n < 4294967296 → Fits w32 n
fits-32 n lt = omega arith

-- the sector of the bank that was read
pub has-size : (d : Device) (bank : ℕ) (read : Bank) → bank < length d.banks → read ≡ get_or d.banks bank read → read.sector ≡ (bank_of d bank).sector
has-size d bank read lt is = ap (λ (b : Bank). b.sector) (is ∙ get_or_default d.banks bank read no_bank lt)

unit-some : (unit : ℕ) → IsTrue (unit == 4 || unit == 8 || unit == 16) → 0 < unit
unit-some zero is = absurd (false≢true is)
unit-some (suc n) is = omega arith

-- the bytes of a bank in the place of as many
pub lawful_set : (banks : List Bank) (all : List (List ℕ)) → IsLawful banks all → (bank : ℕ) (new : List ℕ) → bank < length banks → length new ≡ length (get_or all bank []) → IsLawful banks (set all bank new)
lawful_set banks all lawful bank new lt same =
    let many = length-set all bank new in
    let count = lawful.count in
    let lengths : (i : ℕ) → i < length banks → length (get_or (set all bank new) i []) ≡ length (get_or all i []) = λ i below.
    sym (get_or-map length (set all bank new) i [] 0 (omega arith))
    ∙ ap (λ (l : List ℕ). get_or l i 0) (map-set length all bank new ∙ ap (λ (n : ℕ). set (map length all) bank n) (same ∙ sym (get_or-map length all bank [] 0 (omega arith))) ∙ set-get_or (map length all) bank 0)
    ∙ get_or-map length all i [] 0 (omega arith) in
    record { each_bank = lawful.each_bank; count = many ∙ count; lengths = λ i below. lengths i below ∙ lawful.lengths i below }

-- Programs.

module _ (d : Device) (at : At) (bytes : List ℕ) (bank : Bank) (lawful : IsLawful d.banks d.bytes) (can : CanProgram d at bytes) (read : bank ≡ get_or d.banks at.bank bank) where
  bank-is : bank ≡ bank_of d at.bank
  bank-is = read ∙ get_or_default d.banks at.bank bank no_bank can.has_bank

  pub has-unit : 0 < bank.unit
  has-unit = let b = unit-some (bank_of d at.bank).unit (lawful.each_bank at.bank can.has_bank).unit in subst (λ (b : Bank). 0 < b.unit) (sym bank-is) b

  pub has-place : at.offset < length (bytes_of d at.bank)
  has-place = let long = lawful.lengths at.bank can.has_bank in let some = can.some in let room = can.in_bank in omega arith

  module _ (plan : Option ℕ) (done : ℕ) (reported : d.plan ≡ plan_of plan) (is : done ≡ min (length bytes / bank.unit) (unwrap_or plan (length bytes / bank.unit))) where
    pub within : done * bank.unit ≤ length bytes
    within =
        let le : done ≤ length bytes / bank.unit = omega arith in
        let up = mul-le-mul_right bank.unit le in
        let down = div-mul-le_self (length bytes) bank.unit in
        omega arith

    pub length-taken : length (take (done * bank.unit) bytes) ≡ done * bank.unit
    length-taken = length-take-le (done * bank.unit) bytes within

    pub in-limit : done * bank.unit ≤ 2160
    in-limit = let fits = within in let most = can.at_most in omega arith

    pub few : done ≤ 2160
    few =
        let some = has-unit in
        let fits = in-limit in
        let more = mul-le-mul_left done some in
        omega arith

    pub one-sector : (size : ℕ) → size ≡ (bank_of d at.bank).sector → at.offset % size + length (take (done * bank.unit) bytes) ≤ size
    one-sector size same =
        let one : at.offset % size + length bytes ≤ size = subst (λ (n : ℕ). at.offset % n + length bytes ≤ n) (sym same) can.one_sector in
        let taken = length-taken in
        let fits = within in
        omega arith

    -- the bytes that are put are in the bank
    pub in-bank : at.offset + length (take (done * bank.unit) bytes) ≤ length (bytes_of d at.bank)
    in-bank =
        let taken = length-taken in
        let fits = within in
        let long = lawful.lengths at.bank can.has_bank in
        let room = can.in_bank in
        omega arith

    module _ (written : List (List ℕ)) (wrote : written ≡ set d.bytes at.bank (overwritten (bytes_of d at.bank) at.offset (take (done * bank.unit) bytes))) where
      pub still-lawful : IsLawful d.banks written
      still-lawful = subst (λ (all : List (List ℕ)). IsLawful d.banks all) (sym wrote) (lawful_set d.banks d.bytes lawful at.bank (overwritten (bytes_of d at.bank) at.offset (take (done * bank.unit) bytes)) can.has_bank
          (length-overwritten (bytes_of d at.bank) at.offset (take (done * bank.unit) bytes) in-bank))

      module _ (on : d.is_on ≡ true) (spent : ℕ) (fits : d.spent < 18446744073709551616) (more : spent ≡ min (d.spent + done) 18446744073709551615) where
        pub programs : (next : Plan) → next ≡ lowered d.plan done → length bytes / bank.unit ≤ done → Puts d (record d { bytes = written; spent = spent; plan = next }) at bytes (units_in d at.bank bytes)
        programs next lower le =
            let whole : length bytes % bank.unit ≡ 0 = subst (λ (b : Bank). length bytes % b.unit ≡ 0) (sym bank-is) can.whole_units in
            let rest = mod-eq-sub-div-mul (length bytes) bank.unit in
            let up = mul-le-mul_right bank.unit le in
            let all = take_all (done * bank.unit) bytes (omega arith) in
            let units : length bytes / bank.unit ≡ units_in d at.bank bytes = ap (λ (b : Bank). length bytes / b.unit) bank-is in
            let same : done ≡ length bytes / bank.unit = omega arith in
            record {
              on = on;
              lasts = subst (λ (p : Plan). Lasts p (units_in d at.bank bytes)) (sym reported) (subst (λ (n : ℕ). Lasts (plan_of plan) n) units (lasts plan (length bytes / bank.unit) done is le));
              is =
                  made_same d (wrote ∙ ap (λ (l : List ℕ). set d.bytes at.bank (overwritten (bytes_of d at.bank) at.offset l)) all) (is-counted d.spent done spent fits more) lower
                  ∙ ap (λ (n : ℕ). put d at bytes n) (same ∙ units);
            }

        pub fails : (new : Device) → done < length bytes / bank.unit → new ≡ cut (record d { bytes = written; spent = spent }) (record { at = at; want = record { items = bytes }; done = done }) → FailsToProgram d new at bytes
        fails new lt lose =
            let units : length bytes / bank.unit ≡ units_in d at.bank bytes = ap (λ (b : Bank). length bytes / b.unit) bank-is in
            let loss : Loss = record { at = at; want = record { items = bytes }; done = done } in
            inr (
              done,
              subst (λ (n : ℕ). done < n) units lt,
              record {
                on = on;
                lost = subst (λ (p : Plan). LostAfter p done) (sym reported) (lost plan (length bytes / bank.unit) done is lt);
                is =
                    lose
                    ∙ ap (λ (x : Device). cut x loss) (made_same d (wrote ∙ ap (λ (b : Bank). set d.bytes at.bank (overwritten (bytes_of d at.bank) at.offset (take (done * b.unit) bytes))) bank-is) (is-counted d.spent done spent fits more) refl)
                    ∙ ap (λ (p : Plan). record (cut (put d at (first_units d at.bank bytes done) done) loss) { plan = p }) (sym (dropped-lowered d.plan done));
              },
            )

-- Erases.

module _ (d : Device) (bank sector size : ℕ) (lawful : IsLawful d.banks d.bytes) (can : CanErase d bank sector) (same : size ≡ (bank_of d bank).sector) where
  -- the sector is in the bank
  pub in-capacity : sector * size + size ≤ capacity (bank_of d bank)
  in-capacity =
      let more : sector + 1 ≤ (bank_of d bank).count = let lt = can.has_sector in omega arith in
      let up = mul-le-mul_left (bank_of d bank).sector more in
      subst (λ (n : ℕ). sector * n + n ≤ capacity (bank_of d bank)) (sym same) (omega arith)

  pub in-bytes : sector * size + size ≤ length (bytes_of d bank)
  in-bytes = let long = lawful.lengths bank can.has_bank in let room = in-capacity in omega arith

  pub in-sectors : (sector + 1) * size ≤ length (bytes_of d bank)
  in-sectors = let room = in-bytes in omega arith

  pub addressed : sector * size < 4294967296
  addressed = let room = in-capacity in let few = (lawful.each_bank bank can.has_bank).addressable in omega arith

  module _ (plan : Option ℕ) (done : ℕ) (reported : d.plan ≡ plan_of plan) (on : d.is_on ≡ true) (is : done ≡ min 1 (unwrap_or plan 1)) where
    pub fails-erase : (new : Device) → done < 1 → new ≡ cut d (record { at = record { bank = bank; offset = sector * size }; want = record { items = [] }; done = 0 }) → FailsToErase d new bank sector
    fails-erase new lt lose =
        let none : first_units d bank [] 0 ≡ [] = take-nil (0 * (bank_of d bank).unit) in
        let start : At = start_of d bank sector in
        let loss : Loss = record { at = start; want = record { items = [] }; done = 0 } in
        inr (record {
          on = on;
          lost = subst (λ (p : Plan). LostAfter p 0) (sym reported) (lost plan 1 0 (omega arith) (omega arith));
          is =
              lose
              ∙ ap (λ (n : ℕ). cut d (record { at = record { bank = bank; offset = sector * n }; want = record { items = [] }; done = 0 })) same
              ∙ ap (λ (x : Device). cut x loss) (made_same d
              (sym (set-get_or d.bytes bank []) ∙ ap (λ (l : List ℕ). set d.bytes bank l) (sym (unwritten (bytes_of d bank) start.offset)) ∙ ap (λ (l : List ℕ). set d.bytes bank (overwritten (bytes_of d bank) start.offset l)) (sym none))
              (none-counted d.spent) refl)
              ∙ ap (λ (p : Plan). record (cut (put d start (first_units d bank [] 0) 0) loss) { plan = p }) (sym (dropped-lowered d.plan 0));
        })

    module _ (written : List (List ℕ)) (wrote : written ≡ set d.bytes bank (overwritten (bytes_of d bank) (sector * size) (replicate size 255))) where
      pub erased-lawful : IsLawful d.banks written
      erased-lawful =
          let blank : length (replicate size 255) ≡ size = length-replicate size 255 in
          subst (λ (all : List (List ℕ)). IsLawful d.banks all) (sym wrote) (lawful_set d.banks d.bytes lawful bank (overwritten (bytes_of d bank) (sector * size) (replicate size 255)) can.has_bank
          (length-overwritten (bytes_of d bank) (sector * size) (replicate size 255) (subst (λ (n : ℕ). sector * size + n ≤ length (bytes_of d bank)) (sym blank) in-bytes)))

      pub erases : (spent : ℕ) (next : Plan) → d.spent < 18446744073709551616 → spent ≡ min (d.spent + 1) 18446744073709551615 → next ≡ lowered d.plan 1 → 1 ≤ done
          → Erases d (record d { bytes = written; spent = spent; plan = next }) bank sector
      erases spent next fits more lower le = record {
        on = on;
        lasts = subst (λ (p : Plan). Lasts p 1) (sym reported) (lasts plan 1 done is le);
        is =
            made_same d (wrote ∙ ap (λ (n : ℕ). set d.bytes bank (overwritten (bytes_of d bank) (sector * n) (replicate n 255))) same) (is-counted d.spent 1 spent fits more) lower;
      }
