-- Collections that make no room: after one for each part, the settings fill all parts.
use Rattle.std.proofs.Common.{◌≡◌, ℕ, ◌+◌, ◌-◌, ◌*◌, ◌<◌, ◌≤◌, List, [], ◌++◌, length, sym, ap, subst, ◌∙◌, inl, inr, arith}
use Rattle.std.proofs.lemmas.Bool.{cases_lt}
use Rattle.std.proofs.lemmas.List.{map-append}
use Rattle.std.proofs.lemmas.List.Sums.{sum_by-append}
use Rattle.item_laws.specs.LivePairs.{live_pairs}
use Rattle.item_laws.specs.PairRounds.{joined}
use Rattle.item_laws.proofs.NoRoom.{AreRounds, no_room as never_room}
use Rattle.item_laws.proofs.RoundLemmas.{live-again}
use Rattle.fcb_ring.specs.Writing.{record_cost}
use Rattle.backend_api.specs.Map.{Map}
use Rattle.backend_api.specs.Room.{HasNoRoom}
use Rattle.record_settings.specs.Settings.{settings_of}
use Rattle.record_settings.specs.Live.{live_bodies}
use Rattle.record_settings.specs.Room.{cap, pair_cost, room}
use Rattle.record_settings.specs.Rounds.{bodies_cost, FindsNoRoom}
use Rattle.record_settings.proofs.Coded.{pairs_of, pairs-none, pairs-append, bodies_in, bodies-live, pairs-live}
use Rattle.record_settings.proofs.CopyCost.{room-cost}
use Rattle.record_settings.proofs.LiveLemmas.{copies-none}

-- ---- copies stay live behind the records that they were copied past

-- where all records are live, so are their pairs, and those have the bodies
module _ (limit : ℕ) (bodies : List (List ℕ)) (live : live_bodies limit bodies [] ≡ bodies) where
  pairs-all : live_pairs (pairs_of limit bodies) [] ≡ pairs_of limit bodies
  pairs-all = ap (live_pairs (pairs_of limit bodies)) (sym (pairs-none limit)) ∙ sym (pairs-live limit bodies []) ∙ ap (pairs_of limit) live

  bodies-all : bodies_in (pairs_of limit bodies) ≡ bodies
  bodies-all = ap bodies_in (sym pairs-all) ∙ ap (λ ps. bodies_in (live_pairs (pairs_of limit bodies) ps)) (sym (pairs-none limit)) ∙ sym (bodies-live limit bodies []) ∙ live

copies-again : (limit : ℕ) (victim prefix back : List (List ℕ)) → live_bodies limit back [] ≡ back → live_bodies limit (back ++ live_bodies limit victim (prefix ++ back)) [] ≡ back ++ live_bodies limit victim (prefix ++ back)
copies-again limit victim prefix back live =
    let copied : pairs_of limit (live_bodies limit victim (prefix ++ back)) ≡ live_pairs (pairs_of limit victim) (pairs_of limit prefix ++ pairs_of limit back) = pairs-live limit victim (prefix ++ back) ∙ ap (live_pairs (pairs_of limit victim)) (pairs-append limit prefix back) in
    let all : pairs_of limit (back ++ live_bodies limit victim (prefix ++ back)) ≡ pairs_of limit back ++ live_pairs (pairs_of limit victim) (pairs_of limit prefix ++ pairs_of limit back) = pairs-append limit back (live_bodies limit victim (prefix ++ back)) ∙ ap (λ ps. pairs_of limit back ++ ps) copied in
    let same : bodies_in (live_pairs (pairs_of limit victim) (pairs_of limit prefix ++ pairs_of limit back)) ≡ live_bodies limit victim (prefix ++ back) =
    ap (λ ps. bodies_in (live_pairs (pairs_of limit victim) ps)) (sym (pairs-append limit prefix back)) ∙ sym (bodies-live limit victim (prefix ++ back)) in
    bodies-live limit (back ++ live_bodies limit victim (prefix ++ back)) []
    ∙ ap (λ ps. bodies_in (live_pairs (pairs_of limit (back ++ live_bodies limit victim (prefix ++ back))) ps)) (pairs-none limit)
    ∙ ap (λ ps. bodies_in (live_pairs ps [])) all
    ∙ ap bodies_in (live-again (pairs_of limit victim) (pairs_of limit prefix) (pairs_of limit back) (pairs-all limit back live))
    ∙ map-append (λ (pair : ℕ × List ℕ). pair.1) (pairs_of limit back) (live_pairs (pairs_of limit victim) (pairs_of limit prefix ++ pairs_of limit back))
    ∙ ap (λ bodies. bodies ++ bodies_in (live_pairs (pairs_of limit victim) (pairs_of limit prefix ++ pairs_of limit back))) (bodies-all limit back live)
    ∙ ap (λ bodies. back ++ bodies) same

-- so collections of settings are rounds
pub settings_rounds : (limit unit : ℕ) → AreRounds (live_bodies limit) (bodies_cost unit)
settings_rounds limit unit = record { none = copies-none limit []; again = copies-again limit; sums = sum_by-append (λ (body : List ℕ). record_cost unit (length body)) }

-- ---- a round for each part

-- After a collection for each part, the settings leave no room for it in any sector.
no_room : (limit unit size need cap : ℕ) (start now : List (List (List ℕ))) → FindsNoRoom limit unit need cap start now (length start) → 0 < length start → need ≤ cap
    → length start * (cap - need) < (room unit size).cost (settings_of limit (joined now))
no_room limit unit size need cap start now finds some small =
    subst (λ (cost : ℕ). length start * (cap - need) < cost) (sym (room-cost limit unit size (joined now))) (never_room (live_bodies limit) (bodies_cost unit) (settings_rounds limit unit) need cap start now finds some small)

-- what a sector cannot hold at all
long-no_room : (unit size sectors : ℕ) (settings : Map) (name value : List ℕ) → cap unit size < pair_cost unit (name, value) → HasNoRoom (room unit size) sectors settings name value
long-no_room unit size sectors settings name value long =
    let nothing : (sectors - 1) * (cap unit size - pair_cost unit (name, value)) ≡ 0 = ap (λ (n : ℕ). (sectors - 1) * n) (let zero : cap unit size - pair_cost unit (name, value) ≡ 0 = omega arith in zero) ∙ omega arith in
    omega arith

-- The same of a put on an area of one sector more than there were parts.
pub rounds-no_room : (limit unit size sectors : ℕ) (start now : List (List (List ℕ))) (name value : List ℕ) → FindsNoRoom limit unit (pair_cost unit (name, value)) (cap unit size) start now (length start)
    → 0 < length start → sectors ≡ length start + 1 → HasNoRoom (room unit size) sectors (settings_of limit (joined now)) name value
rounds-no_room limit unit size sectors start now name value finds some count =
    elim (cases_lt (cap unit size) (pair_cost unit (name, value))) [
      | inl long ↦ long-no_room unit size sectors (settings_of limit (joined now)) name value long
      | inr small ↦
          let bound : length start * (cap unit size - pair_cost unit (name, value)) < (room unit size).cost (settings_of limit (joined now)) =
          no_room limit unit size (pair_cost unit (name, value)) (cap unit size) start now finds some small in
          let same : (sectors - 1) * (cap unit size - pair_cost unit (name, value)) ≡ length start * (cap unit size - pair_cost unit (name, value)) =
          ap (λ (n : ℕ). n * (cap unit size - pair_cost unit (name, value))) (let one : sectors - 1 ≡ length start = omega arith in one) in
          omega arith
    ]
