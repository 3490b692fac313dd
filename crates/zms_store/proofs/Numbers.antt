-- What the calls of a ZMS store spend, in numbers.
use Rattle.std.proofs.Common.{◌≡◌, ℕ, ◌+◌, ◌-◌, ◌*◌, ◌/◌, ◌%◌, ◌<◌, ◌≤◌, max, Bool, true, false, cond, eqb, List, length, Option, Some, None, Result, Ok, Err, refl, sym, subst, ◌∙◌, inl, inr, arith}
use Rattle.std.specs.FinMap.{get}
use Rattle.flash_sim.specs.Device.{Device}
use Rattle.flash_sim.specs.declared.flash.PowerLost.{PowerLost as Lost}
use Rattle.flash_map.specs.declared.area.Area.{Area}
use Rattle.flash_map.specs.declared.area.Geometry.{Geometry}
use Rattle.flash_map.specs.declared.area.Role.TheVariants.{Zms as ZmsRole}
use Rattle.flash_map.specs.declared.faults.MountFault.{MountFault}
use Rattle.flash_map.specs.declared.faults.MountFault.TheVariants.{Damaged as HasDamage, PowerLost as MountLost, NoMemory}
use Rattle.flash_map.specs.declared.faults.WriteFault.{WriteFault}
use Rattle.flash_map.specs.declared.faults.WriteFault.TheVariants.{NoSpace, TooLong, PowerLost}
use Rattle.flash_map.specs.Area.{geometry_of, sector_at, sector_size, sectors_of}
use Rattle.flash_map.specs.Spending.{SpendsBetween}
use Rattle.flash_map.proofs.SpendingBounds.{between_none, between_within}
use Rattle.item_laws.specs.Area.{next, open_sector}
use Rattle.item_laws.specs.Forms.{to_copy}
use Rattle.item_laws.specs.PairRounds.{copies_cost}
use Rattle.item_store.specs.Collecting.{redo_of}
use Rattle.item_store.specs.Collecting as collecting
use Rattle.item_store.specs.declared.entry.Redo.{Redo}
use Rattle.item_store.specs.declared.entry.Redo.TheVariants.{Nothing, ClearNext, CollectAgain}
use Rattle.item_store.specs.declared.store.Store.{Store}
use Rattle.item_store.specs.SectorFormat.{Range, SectorFormat}
use Rattle.item_store.specs.Spending.{none, both, copies, victim_units, again_with, again_units, ready_units, round_clear, round_units, has_victim}
use Rattle.item_store.specs.Standing.{SpendsIn, SpendsUpTo}
use Rattle.item_store.specs.Stands as stands
use Rattle.item_store.specs.Closing as closing
use Rattle.item_store.specs.Writing as writing
use Rattle.flash_sim.specs.declared.flash.Kind.{Kind as BankKind}
use Rattle.flash_sim.specs.declared.flash.Kind.TheVariants.{Erasing, Rewritable}
use Rattle.zms_cycle.specs.Changes.{closing_most}
use Rattle.zms_cycle.specs.Sector.{capacity, cost, free}
use Rattle.zms_format.specs.Area.{is_clean}
use Rattle.std.proofs.Math.Nat.{mul-le-mul_left}
use Rattle.zms_format.specs.Formats.{format_of, units_of, round_limit, ready_limit}
use Rattle.zms_format.proofs.FormatLemmas.{zms_is_format, copies_most, begin_lost, emptied_within, emptying_three, guard_one}
use Rattle.zms_store.specs.declared.sectors.ZmsOpen.{ZmsOpen}
use Rattle.zms_store.specs.Spending.{most_round, most_mount, WriteSpends}
use Rattle.zms_store.specs.Standing.{format_on, kept}

-- a step, cut or not, spends at most so much
pub record Within (r : Range) (n : ℕ) : Type 0 where
  pub most : r.most ≤ n
  pub lost : r.lost ≤ n

largest : (a b n : ℕ) → a ≤ n → b ≤ n → max a b ≤ n
largest a b n one other = omega arith

both_within : (r s : Range) (m n : ℕ) → Within r m → Within s n → Within (both r s) (m + n)
both_within r s m n one other =
    let first = one.most in
    let first_lost = one.lost in
    let second = other.most in
    let second_lost = other.lost in
    record { most = omega arith; lost = largest r.lost (r.most + s.lost) (m + n) (omega arith) (omega arith) }

either_within : (t : Bool) (r s : Range) (n : ℕ) → Within r n → Within s n → Within (cond t r s) n
either_within true r s n one other = one
either_within false r s n one other = other

none_within : (n : ℕ) → Within none n
none_within n = record { most = omega arith; lost = omega arith }

more_within : (r : Range) (m n : ℕ) → Within r m → m ≤ n → Within r n
more_within r m n w le =
    let most = w.most in
    let lost = w.lost in
    record { most = omega arith; lost = omega arith }

between_in : {old new : Device} (r : Range) (n : ℕ) → SpendsIn old new r → Within r n → SpendsBetween old new 0 n
between_in r n spends w = between_within spends 0 n (omega arith) w.most

between_up : {old new : Device} (r : Range) (n : ℕ) → SpendsUpTo old new r → Within r n → SpendsBetween old new 0 n
between_up r n spends w = between_within spends 0 n (omega arith) w.lost

pub between_same : (old new : Device) (n : ℕ) → new ≡ old → SpendsBetween old new 0 n
between_same old new n same = subst (λ (d : Device). SpendsBetween old d 0 n) (sym same) (between_within (between_none old) 0 n (omega arith) (omega arith))

-- the limits of both kinds of bank
round_nine : (bank : BankKind) (size : ℕ) → round_limit bank size ≤ 3 * (size / 16) + 9
round_nine Rewritable size = omega arith
round_nine Erasing size = omega arith

pub ready_four : (bank : BankKind) → ready_limit bank ≤ 4
ready_four Rewritable = omega arith
ready_four Erasing = omega arith

-- so many rounds and an entry
write_most : (bank : BankKind) (size rounds len : ℕ) → rounds * (units_of bank).round size + (units_of bank).entry len ≤ rounds * (3 * (size / 16) + 9) + cost len / 16 + 4
write_most bank size rounds len =
    let all : rounds * round_limit bank size ≤ rounds * (3 * (size / 16) + 9) = mul-le-mul_left rounds (round_nine bank size) in
    let four = ready_four bank in
    omega arith

closing_room : (bank : BankKind) (room : ℕ) → closing_most bank room ≤ room / 16 + 1
closing_room Rewritable room = omega arith
closing_room Erasing room = omega arith

module _ (u : Geometry) (sectors : List (List ℕ)) where
  abbrev k : SectorFormat
  k = format_of u

  -- what a collection copies, and the units of its copies
  abbrev copied : ℕ → ℕ
  copied place = copies_cost cost (to_copy k.reading sectors place)

  abbrev copy_units : ℕ → ℕ
  copy_units place = copies_cost (λ len. ((units_of u.kind).any_copy len).lost) (to_copy k.reading sectors place)

  ready_within : (place : ℕ) → Within (ready_units k sectors place) 3
  ready_within place =
      either_within (is_clean u.kind (sector_at sectors place)) (k.units.begin (sector_at sectors place)) (k.units.clear (sector_at sectors place)) 3
      (let covers = (zms_is_format u).units.begins (sector_at sectors place) in let three = begin_lost u.kind (sector_at sectors place) in record { most = omega arith; lost = omega arith })
      (let three = emptied_within u.kind (sector_at sectors place) in record { most = omega arith; lost = omega arith })

  cleared_within : (place : ℕ) → Within (k.units.clear (sector_at sectors place)) 3
  cleared_within place = let three = emptied_within u.kind (sector_at sectors place) in record { most = omega arith; lost = omega arith }

  -- a collection that ends with an emptying
  with_within : (place : ℕ) (emptying : Range) → Within emptying 3 → Within (again_with k sectors place emptying) (3 + (copy_units place + (2 + 3)))
  with_within place emptying three =
      let one = guard_one u.kind in
      both_within (ready_units k sectors place) _ 3 (copy_units place + (2 + 3)) (ready_within place)
      (both_within (copies k (to_copy k.reading sectors place)) (both k.units.any_done emptying) (copy_units place) (2 + 3) (record { most = omega arith; lost = omega arith })
      (both_within k.units.any_done emptying 2 3 (record { most = omega arith; lost = omega arith }) three))

  again_within : (place : ℕ) → Within (again_units k sectors place) (3 + (copy_units place + (2 + 3)))
  again_within place = with_within place (victim_units k sectors place) (cleared_within (next sectors place))

  closed_within : Within k.units.clear_closed 3
  closed_within =
      let three = emptying_three u.kind in
      let least = (zms_is_format u).units.closed_lost in
      record { most = omega arith; lost = omega arith }

  -- the victim of a round
  last_within : (place : ℕ) → Within (round_clear k sectors place) 3
  last_within place =
      let last : ℕ = next sectors (next sectors place) in
      either_within (eqb last place) k.units.clear_closed (k.units.clear (sector_at sectors last)) 3 closed_within (cleared_within last)

  -- a round, if so many units close the sector
  round_by : (place n : ℕ) → free u.kind (sector_at sectors place) / 16 + 1 ≤ n → Within (round_units k sectors place) (n + (3 + (copy_units (next sectors place) + (2 + 3))))
  round_by place n fits =
      let close = closing_room u.kind (free u.kind (sector_at sectors place)) in
      let ready = more_within (ready_units k sectors (next sectors place)) 3 (3 + (copy_units (next sectors place) + (2 + 3))) (ready_within (next sectors place)) (omega arith) in
      both_within (k.units.close (sector_at sectors place)) _ n (3 + (copy_units (next sectors place) + (2 + 3)))
      (more_within (k.units.close (sector_at sectors place)) (free u.kind (sector_at sectors place) / 16 + 1) n (record { most = close; lost = close }) fits)
      (either_within (has_victim k sectors place) (again_with k sectors (next sectors place) (round_clear k sectors place)) _ (3 + (copy_units (next sectors place) + (2 + 3))) (with_within (next sectors place) (round_clear k sectors place) (last_within place))
      (either_within k.opens_ready (ready_units k sectors (next sectors place)) none (3 + (copy_units (next sectors place) + (2 + 3))) ready (none_within (3 + (copy_units (next sectors place) + (2 + 3))))))

  round_within : (place : ℕ) → Within (round_units k sectors place) ((free u.kind (sector_at sectors place) + 2 * copied (next sectors place)) / 16 + 9)
  round_within place =
      let fewer = copies_most u.kind (to_copy k.reading sectors (next sectors place)) in
      more_within (round_units k sectors place) (free u.kind (sector_at sectors place) / 16 + 1 + (3 + (copy_units (next sectors place) + (2 + 3)))) ((free u.kind (sector_at sectors place) + 2 * copied (next sectors place)) / 16 + 9)
      (round_by place (free u.kind (sector_at sectors place) / 16 + 1) (omega arith)) (omega arith)

  -- one that begins with fewer than two slots free, in a sector of this size
  pub refill_within : (place size : ℕ) → 512 ≤ size → size % 64 ≡ 0 → free u.kind (sector_at sectors place) < 32 → copies_cost cost (to_copy k.reading sectors (next sectors place)) ≤ capacity size → Within (round_units k sectors place) (2 * (size / 16))
  refill_within place size large whole short small =
      let fewer = copies_most u.kind (to_copy k.reading sectors (next sectors place)) in
      more_within (round_units k sectors place) (2 + (3 + (copy_units (next sectors place) + (2 + 3)))) (2 * (size / 16)) (round_by place 2 (omega arith)) (omega arith)

  redo_within : (place : ℕ) (redo : Redo) → Within (collecting.redo_units k sectors place redo) (2 * copied place / 16 + 8)
  redo_within place Nothing = none_within (2 * copied place / 16 + 8)
  redo_within place ClearNext = let three = emptied_within u.kind (sector_at sectors (next sectors place)) in record { most = omega arith; lost = omega arith }
  redo_within place CollectAgain =
      let fewer = copies_most u.kind (to_copy k.reading sectors place) in
      more_within (again_units k sectors place) (3 + (copy_units place + (2 + 3))) (2 * copied place / 16 + 8) (again_within place) (omega arith)

  -- an entry, which may have to make its sector ready first
  pub entry_within : (b : List ℕ) (len : ℕ) → Within (both (k.units.begin b) (k.units.put b len)) (cost len / 16 + 4)
  entry_within b len =
      let is = zms_is_format u in
      let begins = is.units.begins b in
      let puts = is.units.puts b len in
      let all = is.entry b b len in
      let four = ready_four u.kind in
      record { most = omega arith; lost = largest (k.units.begin b).lost ((k.units.begin b).most + (k.units.put b len).lost) (cost len / 16 + 4) (omega arith) (omega arith) }

-- ---- rounds and mounts

pub round_spends : {T : Type 0} (old new : Device) (area : Area) (place : ℕ) (result : Result T Lost) → closing.RoundEnds (format_on old area) old new area place result → SpendsBetween old new 0 (most_round old area place)
round_spends old new area place (Ok done) ends =
    elim ends [
      | inl clean ↦ between_same old new (most_round old area place) clean.same
      | inr passes ↦ between_in (round_units (format_on old area) (sectors_of old area) place) (most_round old area place) passes.units (round_within (geometry_of old area) (sectors_of old area) place)
    ]
round_spends old new area place (Err fault) ends = between_up (round_units (format_on old area) (sectors_of old area) place) (most_round old area place) ends.bound (round_within (geometry_of old area) (sectors_of old area) place)

pub mount_spends : (old new : Device) (area : Area) (result : Result (Store ZmsOpen) MountFault) → stands.MountEnds ZmsRole format_of kept old new area result → SpendsBetween old new 0 (most_mount old area)
mount_spends old new area (Ok store) ends =
    let place : ℕ = open_sector (format_on old area).reading (sectors_of old area) in
    between_in (collecting.redo_units (format_on old area) (sectors_of old area) place (redo_of (format_on old area) (sectors_of old area) place)) (most_mount old area) ends.4 (redo_within (geometry_of old area) (sectors_of old area) place (redo_of (format_on old area) (sectors_of old area) place))
mount_spends old new area (Err (HasDamage damaged)) ends = between_same old new (most_mount old area) ends.1
mount_spends old new area (Err MountLost) ends =
    let place : ℕ = open_sector (format_on old area).reading (sectors_of old area) in
    between_up (collecting.redo_units (format_on old area) (sectors_of old area) place (redo_of (format_on old area) (sectors_of old area) place)) (most_mount old area) ends.2 (redo_within (geometry_of old area) (sectors_of old area) place (redo_of (format_on old area) (sectors_of old area) place))
mount_spends old new area (Err NoMemory) ends = between_same old new (most_mount old area) ends

-- ---- writes

pub write_spends : {T : Type 0} (old new : Device) (area : Area) (id : ℕ) (bytes : List ℕ) (result : Result T WriteFault) → writing.WriteEnds (format_on old area) old new area id bytes result → WriteSpends old new area id bytes result
write_spends old new area id bytes (Ok done) ends = record {
  equal = λ same. between_same old new 0 (ends.equal same);
  fitting = λ other room.
      let b : List ℕ = writing.open_at (format_on old area) old area in
      between_within (ends.fitting other room) (cost (length bytes) / 16) (cost (length bytes) / 16 + 4) (omega arith) (entry_within (geometry_of old area) (sectors_of old area) b (length bytes)).most;
  at_most = between_within ends.at_most 0 _ (omega arith) (write_most (geometry_of old area).kind (sector_size old area) (area.sectors - 1) (length bytes));
}
write_spends old new area id bytes (Err (NoSpace need live)) ends = record {
  fitting = λ room. absurd (no_room (sym ends.unfit ∙ room));
  at_most = between_within ends.at_most 0 _ (omega arith) (write_most (geometry_of old area).kind (sector_size old area) (area.sectors - 1) (length bytes));
}
  where
    no_room : false ≡ true → ⊥
    no_room h = cc
write_spends old new area id bytes (Err TooLong) ends = record {
  fitting = λ room. between_same old new _ ends.1;
  at_most = between_same old new _ ends.1;
}
write_spends old new area id bytes (Err PowerLost) ends = record {
  fitting = λ room. let four = ready_four (geometry_of old area).kind in between_within (ends.fitting room) 0 (cost (length bytes) / 16 + 4) (omega arith) (omega arith);
  at_most = between_within ends.at_most 0 _ (omega arith) (write_most (geometry_of old area).kind (sector_size old area) (area.sectors - 1) (length bytes));
}
