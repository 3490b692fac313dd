-- Commands that are carried out after others.
use Rattle.std.proofs.Common.{◌≡◌, ℕ, ◌+◌, ◌-◌, ◌^◌, ◌<◌, min, Bool, true, false, true≢false, List, [], ◌∷◌, ◌++◌, length, Option, None, Result, Ok, Err, refl, sym, ap, subst, ◌∙◌, arith, length-append}
use Rattle.std.proofs.lemmas.List.{append_assoc}
use Rattle.flash_sim.specs.Device.{Device}
use Rattle.flash_sim.specs.Bank.{bank_at}
use Rattle.flash_sim.specs.declared.flash.Bank.{Bank}
use Rattle.flash_sim.specs.declared.flash.Loss.{Loss}
use Rattle.flash_map.specs.declared.area.Area.{Area}
use Rattle.flash_map.specs.declared.area.Geometry.{Geometry}
use Rattle.flash_map.specs.declared.faults.Damaged.{Damaged}
use Rattle.flash_map.specs.Area.{geometry_of}
use Rattle.flash_map.specs.Spending.{SpendsAtMost}
use Rattle.flash_map.specs.Touches.{Touches}
use Rattle.flash_map.proofs.Touches.{untouched, then}
use Rattle.flash_map.proofs.Plans.{counted_counted}
use Rattle.flash_sim.specs.Device.{counted}
use Rattle.backend_api.specs.Commands.{Command, Put, applied, all_applied, StopsAt}
use Rattle.backend_api.specs.Ends.{SpendsSome}
use Rattle.backend_api.specs.Map.{Map}
use Rattle.flash_map.specs.On.{on, StandsOn}
use Rattle.backend_api.specs.Room.{Room}
use Rattle.settings_core.specs.declared.writing.SaveFault.{SaveFault}
use Rattle.settings_core.specs.declared.writing.SaveFault.TheVariants.{Off, NoSpace, TooManyNames, PowerLost}
use Rattle.settings_core.specs.Carrying.{due, due_units, AreFree, SplitsAt, Carries, CarryEnds, CarryEndsOn, save_lost}
use Rattle.settings_core.specs.Saving.{CarriesOn, more_pairs}
use Rattle.backend_api.proofs.CommandLemmas.{applied-more}
use Rattle.settings_core.proofs.CallLemmas.{spends_nothing}
use Rattle.settings_core.proofs.CarryLemmas.{due_same, due-append, none_due, same_fault}
use Rattle.settings_core.proofs.UnitLemmas.{due_then, due_more}

free-append : (room : Room) (settings : Map) (xs ys : List Command) → AreFree room settings xs → AreFree room (all_applied settings xs) ys → AreFree room settings (xs ++ ys)
unfolding AreFree all_applied
free-append room settings [] ys first second = second
free-append room settings (c ∷ xs) ys first second = (first.0, free-append room (applied settings c) xs ys first.1 second)

abbrev split_then : (xs ys : List Command) (count : ℕ) → SplitsAt ys count → SplitsAt (xs ++ ys) (length xs + count)
split_then xs ys count split = record {
  done = xs ++ split.done;
  at = split.at;
  left = split.left;
  is = ap (λ l. xs ++ l) split.is ∙ sym (append_assoc xs split.done (split.at ∷ split.left));
  count_is = omega (arith, split.count_is, length-append xs split.done);
}

abbrev split_more : (xs ys : List Command) (count : ℕ) → SplitsAt xs count → SplitsAt (xs ++ ys) count
split_more xs ys count split = record {
  done = split.done;
  at = split.at;
  left = split.left ++ ys;
  is = ap (λ l. l ++ ys) split.is ∙ append_assoc split.done (split.at ∷ split.left) ys;
  count_is = split.count_is;
}

spends_then : (old mid new : Device) → SpendsSome old mid → SpendsSome mid new → SpendsSome old new
spends_then old mid new (first, some, is) (second, more, then_is) = (first + second, omega (arith, some), then_is ∙ ap (λ n. counted n second) is ∙ counted_counted old.spent first second)

carries_then : (room : Room) (old mid new : Device) (before now after : Map) (xs ys : List Command) → Carries room old mid before now xs → Carries room mid new now after ys → Carries room old new before after (xs ++ ys)
carries_then room old mid new before now after xs ys first second = record {
  settings = second.settings ∙ ap (λ m. all_applied m ys) first.settings ∙ sym (applied-more before xs ys);
  free = free-append room before xs ys first.free (subst (λ m. AreFree room m ys) first.settings second.free);
  none = none xs ys first.none second.none;
  some = some xs ys first.none first.some second.none second.some;
}
  where
    none : (xs ys : List Command) → (xs ≡ [] → mid ≡ old) → (ys ≡ [] → new ≡ mid) → xs ++ ys ≡ [] → new ≡ old
    none [] ys first second is = second is ∙ first refl
    none (c ∷ xs) ys first second is = absurd (cc)

    some : (xs ys : List Command) → (xs ≡ [] → mid ≡ old) → (¬ (xs ≡ []) → SpendsSome old mid) → (ys ≡ [] → new ≡ mid) → (¬ (ys ≡ []) → SpendsSome mid new) → ¬ (xs ++ ys ≡ []) → SpendsSome old new
    some [] ys same spends then_same then_spends isnt = subst (λ d. SpendsSome d new) (same refl) (then_spends isnt)
    some (c ∷ xs) [] same spends then_same then_spends isnt = subst (λ d. SpendsSome old d) (sym (then_same refl)) (spends (λ is. absurd (cc)))
    some (c ∷ xs) (c' ∷ ys) same spends then_same then_spends isnt = spends_then old mid new (spends (λ is. absurd (cc))) (then_spends (λ is. absurd (cc)))

-- the commands up to one of them are free
free_then : (room : Room) (old mid : Device) (before now : Map) (xs done : List Command) (at : Command) → Carries room old mid before now xs → AreFree room now (done ++ at ∷ []) → AreFree room before ((xs ++ done) ++ at ∷ [])
free_then room old mid before now xs done at first free =
    subst (λ l. AreFree room before l) (sym (append_assoc xs done (at ∷ []))) (free-append room before xs (done ++ at ∷ []) first.free (subst (λ m. AreFree room m (done ++ at ∷ [])) first.settings free))

applied_then : (room : Room) (old mid : Device) (before now : Map) (xs done : List Command) → Carries room old mid before now xs → all_applied now done ≡ all_applied before (xs ++ done)
applied_then room old mid before now xs done first = ap (λ m. all_applied m done) first.settings ∙ sym (applied-more before xs done)

pub ends_then : {T : Type 0} (room : Room) (sectors : ℕ) (chance : Loss → Bool) (tears : Command → ℕ → Map → Map → Type 0) (old mid new : Device) (before now after : Map) (xs ys : List Command) (count : ℕ) (result : Result T SaveFault)
    → mid.is_on ≡ old.is_on → Carries room old mid before now xs → CarryEnds true room sectors chance tears mid new now after ys count result → CarryEnds true room sectors chance tears old new before after (xs ++ ys) (length xs + count) result
ends_then room sectors chance tears old mid new before now after xs ys count (Ok x) kept_on first second =
    (refl, ap (λ n. length xs + n) second.1 ∙ sym (length-append xs ys), carries_then room old mid new before now after xs ys first second.2)
ends_then room sectors chance tears old mid new before now after xs ys count (Err Off) kept_on first second = absurd (cc)
ends_then room sectors chance tears old mid new before now after xs ys count (Err (NoSpace need live)) kept_on first second =
    let part = second.1 in (
      refl,
      record {
        split = split_then xs ys count part.split;
        settings = part.settings ∙ applied_then room old mid before now xs part.split.done first;
        free = free_then room old mid before now xs part.split.done part.split.at first part.free;
        lacks = part.lacks;
      },
    )
ends_then room sectors chance tears old mid new before now after xs ys count (Err TooManyNames) kept_on first second =
    let part = second.1 in (
      refl,
      record { split = split_then xs ys count part.split; carried = carries_then room old mid new before now after xs part.split.done first part.carried; too_many = part.too_many },
    )
ends_then room sectors chance tears old mid new before now after xs ys count (Err PowerLost) kept_on first second =
    let part = second.1 in (
      refl,
      record {
        split = split_then xs ys count part.split;
        free = free_then room old mid before now xs part.split.done part.split.at first part.free;
        stops = λ was_on.
            subst (λ m. StopsAt chance (tears part.split.at) part.split.at new m after) (applied_then room old mid before now xs part.split.done first) (part.stops (kept_on ∙ was_on));
      },
    )

-- one that stopped does not come to those behind
pub ends_more : (T : Type 0) (room : Room) (sectors : ℕ) (chance : Loss → Bool) (tears : Command → ℕ → Map → Map → Type 0) (old new : Device) (before after : Map) (xs ys : List Command) (count : ℕ) (fault : SaveFault)
    → CarryEnds {T = T} true room sectors chance tears old new before after xs count (Err fault) → CarryEnds {T = T} true room sectors chance tears old new before after (xs ++ ys) count (Err fault)
ends_more T room sectors chance tears old new before after xs ys count Off ends = absurd (cc)
ends_more T room sectors chance tears old new before after xs ys count (NoSpace need live) ends =
    let part = ends.1 in (refl, record { split = split_more xs ys count part.split; settings = part.settings; free = part.free; lacks = part.lacks })
ends_more T room sectors chance tears old new before after xs ys count TooManyNames ends =
    let part = ends.1 in (refl, record { split = split_more xs ys count part.split; carried = part.carried; too_many = part.too_many })
ends_more T room sectors chance tears old new before after xs ys count PowerLost ends =
    let part = ends.1 in (refl, record { split = split_more xs ys count part.split; free = part.free; stops = part.stops })

same_geometry : (old new : Device) (area : Area) → new.banks ≡ old.banks → geometry_of new area ≡ geometry_of old area
same_geometry old new area same = ap (λ (banks : List Bank). record { unit = (bank_at banks area.bank).unit; sector = (bank_at banks area.bank).sector; sectors = area.sectors; kind = (bank_at banks area.bank).kind }) same

counts_then : (was first second : ℕ) → more_pairs (more_pairs was first) second ≡ more_pairs was (first + second)
counts_then was first second = omega arith

part_then : {T U : Type 0} (room : Area → Geometry → Room) (contents : Area → Geometry → List (List ℕ) → Map) (chance : Area → Geometry → List (List ℕ) → Loss → Bool) (tears : Area → Geometry → Command → ℕ → Map → Map → Type 0) (area : Area) (x : U) (old mid new : Device) (xs ys : List Command) (first second : ℕ) (result : Result T SaveFault) → mid.banks ≡ old.banks → mid.is_on ≡ old.is_on
    → CarryEndsOn room contents chance tears true area old mid xs first (Ok x) → CarryEndsOn room contents chance tears true area mid new ys second result
    → CarryEndsOn room contents chance tears true area old new (xs ++ ys) (first + second) result
part_then room contents chance tears area x old mid new xs ys first second result banks on_is done then_done =
    let before = on contents old area in
    let now = on contents mid area in
    let geometry = same_geometry old mid area banks in
    let now_is : now ≡ all_applied before xs = done.2.settings ∙ due_same before xs in
    subst (λ l. CarryEnds true (room area (geometry_of old area)) area.sectors (on chance new area) (tears area (geometry_of old area)) old new before (on contents new area) l (first + second) result)
    (ap (λ m. due before xs ++ due m ys) now_is ∙ sym (due-append before xs ys))
    (subst (λ n. CarryEnds true (room area (geometry_of old area)) area.sectors (on chance new area) (tears area (geometry_of old area)) old new before (on contents new area) (due before xs ++ due now ys) (n + second) result)
    (sym done.1)
    (ends_then (room area (geometry_of old area)) area.sectors (on chance new area) (tears area (geometry_of old area)) old mid new before now (on contents new area) (due before xs) (due now ys) second result on_is done.2
    (subst (λ g. CarryEnds true (room area g) area.sectors (on chance new area) (tears area g) mid new now (on contents new area) (due now ys) second result) geometry then_done)))

module _ {S : Type 0} {mounted_on : S → Area} {stands : S → Geometry → List (List ℕ) → Type 0} {runs : S → Bool} {damage : Area → Geometry → List (List ℕ) → Option Damaged}
    {room : Area → Geometry → Room} {contents : Area → Geometry → List (List ℕ) → Map} {chance : Area → Geometry → List (List ℕ) → Loss → Bool} {tears : Area → Geometry → Command → ℕ → Map → Map → Type 0} {area : Area} where
  pub no_carries : {T : Type 0} (x : T) (state : S) (d : Device) (was : ℕ) → mounted_on state ≡ area → on damage d area ≡ None → StandsOn mounted_on stands d state
      → CarriesOn mounted_on stands runs damage room contents chance tears area state d d [] was was (Ok x)
  unfolding AreFree all_applied due
  no_carries x state d was here sound there = record {
    area_is = here;
    touches = untouched (area ∷ []) d;
    count = 0;
    counts = omega arith;
    ends = (refl, refl, record { settings = refl; free = tt; none = λ is. refl; some = λ no. absurd (no refl) });
    at_most = spends_nothing d (due_units (geometry_of d area) (on contents d area) []);
    off = λ off. refl;
    sound = sound;
    goes_on = λ kept. there;
    down = λ lost. absurd (cc);
  }

  -- one part after another
  pub carries_on : {T U : Type 0} {x : U} {mid new : S} {old between last : Device} {xs ys : List Command} {was so_far now : ℕ} {result : Result T SaveFault}
      → CarriesOn mounted_on stands runs damage room contents chance tears area mid old between xs was so_far (Ok x)
      → CarriesOn mounted_on stands runs damage room contents chance tears (mounted_on mid) new between last ys so_far now result
      → CarriesOn mounted_on stands runs damage room contents chance tears area new old last (xs ++ ys) was now result
  carries_on {T} {U} {x} {mid} {new} {old} {between} {last} {xs} {ys} {was} {so_far} {now} {result} first second_there =
      let second = subst (λ a. CarriesOn mounted_on stands runs damage room contents chance tears a new between last ys so_far now result) first.area_is second_there in
      record {
        area_is = second.area_is;
        touches = then first.touches second.touches;
        count = first.count + second.count;
        counts = second.counts ∙ ap (λ n. more_pairs n second.count) first.counts ∙ counts_then was first.count second.count;
        ends = part_then room contents chance tears area x old between last xs ys first.count second.count result first.touches.banks first.touches.ends.on first.ends second.ends;
        at_most =
            due_then old between last (geometry_of old area) (geometry_of between area) (on contents old area) (on contents between area) xs ys (same_geometry old between area first.touches.banks) (first.ends.2.settings ∙ due_same (on contents old area) xs)
            first.at_most second.at_most;
        off = λ off. second.off (ap (λ (d : Device). d.is_on) (first.touches.off off) ∙ off) ∙ first.off off;
        sound = second.sound;
        goes_on = second.goes_on;
        down = second.down;
      }

  -- a part that stopped
  pub stops_more : {T : Type 0} {state : S} {old new : Device} {xs : List Command} {was now : ℕ} {fault : SaveFault} (ys : List Command)
      → CarriesOn {T = T} mounted_on stands runs damage room contents chance tears area state old new xs was now (Err fault)
      → CarriesOn {T = T} mounted_on stands runs damage room contents chance tears area state old new (xs ++ ys) was now (Err fault)
  stops_more {T} {state} {old} {new} {xs} {was} {now} {fault} ys part = record {
    area_is = part.area_is;
    touches = part.touches;
    count = part.count;
    counts = part.counts;
    ends =
        subst (λ l. CarryEnds {T = T} true (room area (geometry_of old area)) area.sectors (on chance new area) (tears area (geometry_of old area)) old new (on contents old area) (on contents new area) l part.count (Err fault))
        (sym (due-append (on contents old area) xs ys))
        (ends_more T (room area (geometry_of old area)) area.sectors (on chance new area) (tears area (geometry_of old area)) old new (on contents old area) (on contents new area) (due (on contents old area) xs) _ part.count fault part.ends);
    at_most = due_more old new (geometry_of old area) (on contents old area) xs ys part.at_most;
    off = part.off;
    sound = part.sound;
    goes_on = part.goes_on;
    down = part.down;
  }

pub lost_same : (T U : Type 0) (fault : SaveFault) → save_lost {T = T} (Err fault) ≡ save_lost {T = U} (Err fault)
lost_same T U Off = refl
lost_same T U (NoSpace need live) = refl
lost_same T U TooManyNames = refl
lost_same T U PowerLost = refl

-- a part of one put that was refused
pub put_refused : {S : Type 0} (mounted_on : S → Area) (stands : S → Geometry → List (List ℕ) → Type 0) (runs : S → Bool) (damage : Area → Geometry → List (List ℕ) → Option Damaged)
    (room : Area → Geometry → Room) (contents : Area → Geometry → List (List ℕ) → Map) (chance : Area → Geometry → List (List ℕ) → Loss → Bool) (tears : Area → Geometry → Command → ℕ → Map → Map → Type 0)
    (T U : Type 0) (area : Area) (state : S) (old new : Device) (name text value : List ℕ) (was : ℕ) (fault : SaveFault) → name ≡ text → mounted_on state ≡ area → Touches (area ∷ []) old new (save_lost {T = T} (Err fault))
    → CarryEndsOn {T = T} room contents chance tears true area old new (Put name value ∷ []) 0 (Err fault) → SpendsAtMost old new (due_units (geometry_of old area) (on contents old area) (Put name value ∷ [])) → on damage new area ≡ None → (save_lost {T = T} (Err fault) ≡ false → StandsOn mounted_on stands new state)
    → (save_lost {T = T} (Err fault) ≡ true → runs state ≡ false) → CarriesOn {T = U} mounted_on stands runs damage room contents chance tears area state old new (Put text value ∷ []) was was (Err fault)
put_refused mounted_on stands runs damage room contents chance tears T U area state old new name text value was fault same here touches ends at_most sound goes_on down = record {
  area_is = here;
  touches = subst (λ lost. Touches (area ∷ []) old new lost) (lost_same T U fault) touches;
  count = 0;
  counts = omega arith;
  ends =
      subst (λ (n : List ℕ). CarryEndsOn {T = U} room contents chance tears true area old new (Put n value ∷ []) 0 (Err fault)) same
      (same_fault T U true (room area (geometry_of old area)) area.sectors (on chance new area) (tears area (geometry_of old area)) old new (on contents old area) (on contents new area) (due (on contents old area) (Put name value ∷ [])) 0 fault ends);
  at_most = subst (λ (n : List ℕ). SpendsAtMost old new (due_units (geometry_of old area) (on contents old area) (Put n value ∷ []))) same at_most;
  off = λ off. refl;
  sound = sound;
  goes_on = λ kept. goes_on (lost_same T U fault ∙ kept);
  down = λ lost. down (lost_same T U fault ∙ lost);
}

-- the count after one pair more, and after none
pub one_more : (n : ℕ) → n < 2 ^ 32 → min (n + 1) (2 ^ 32 - 1) ≡ more_pairs n 1
one_more n few = omega arith

pub none_more : (n : ℕ) → n ≡ more_pairs n 0
none_more n = omega arith

-- a part of one put that was carried out
pub put_stored : {S : Type 0} (mounted_on : S → Area) (stands : S → Geometry → List (List ℕ) → Type 0) (runs : S → Bool) (damage : Area → Geometry → List (List ℕ) → Option Damaged)
    (room : Area → Geometry → Room) (contents : Area → Geometry → List (List ℕ) → Map) (chance : Area → Geometry → List (List ℕ) → Loss → Bool) (tears : Area → Geometry → Command → ℕ → Map → Map → Type 0)
    (T U : Type 0) (x : T) (y : U) (area : Area) (state : S) (old new : Device) (name text value : List ℕ) (was now count : ℕ) → name ≡ text → mounted_on state ≡ area → Touches (area ∷ []) old new false
    → CarryEndsOn {T = T} room contents chance tears true area old new (Put name value ∷ []) count (Ok x) → SpendsAtMost old new (due_units (geometry_of old area) (on contents old area) (Put name value ∷ [])) → on damage new area ≡ None → StandsOn mounted_on stands new state
    → now ≡ more_pairs was count → CarriesOn {T = U} mounted_on stands runs damage room contents chance tears area state old new (Put text value ∷ []) was now (Ok y)
put_stored mounted_on stands runs damage room contents chance tears T U x y area state old new name text value was now count same here touches ends at_most sound there counts = record {
  area_is = here;
  touches = touches;
  count = count;
  counts = counts;
  ends = subst (λ (n : List ℕ). CarryEndsOn {T = U} room contents chance tears true area old new (Put n value ∷ []) count (Ok y)) same ends;
  at_most = subst (λ (n : List ℕ). SpendsAtMost old new (due_units (geometry_of old area) (on contents old area) (Put n value ∷ []))) same at_most;
  off = λ off.
      let before = on contents old area in
      let stays : before ≡ all_applied before (Put name value ∷ []) = sym (ap (λ (d : Device). on contents d area) (touches.off off)) ∙ ends.2.settings ∙ due_same before (Put name value ∷ []) in
      counts ∙ ap (more_pairs was) (ends.1 ∙ ap length (none_due before name value stays)) ∙ sym (none_more was);
  sound = sound;
  goes_on = λ kept. there;
  down = λ lost. absurd (true≢false (sym lost));
}
