-- What the records cost that a collection copies, record by record.
use Rattle.std.proofs.Common.{◌≡◌, ℕ, ◌+◌, ◌≤◌, Bool, true, cond, List, [], ◌∷◌, ◌++◌, length, ap, ◌∙◌, inl, inr, arith}
use Rattle.std.specs.Prelude.{sum_by}
use Rattle.std.proofs.lemmas.Bool.{cases_Bool, cond-true, cond-false}
use Rattle.std.proofs.lemmas.List.Sums.{sum_by-cons}
use Rattle.fcb_ring.specs.Writing.{record_cost}
use Rattle.record_settings.specs.Settings.{settings_of}
use Rattle.record_settings.specs.Live.{is_live, live_bodies}
use Rattle.record_settings.specs.Room.{cost_by, put_cost, room}
use Rattle.record_settings.specs.Rounds.{bodies_cost}
use Rattle.record_settings.proofs.PrefixLemmas.{settings-cost}
use Rattle.record_settings.proofs.LiveLemmas.{live-says}

-- a live record costs what a put of its body does
pub put-live : (limit unit : ℕ) (body : List ℕ) (later : List (List ℕ)) → is_live limit body later ≡ true → put_cost limit unit body ≡ record_cost unit (length body)
put-live limit unit body later live =
    let says = live-says limit body later live in
    ap (cost_by unit (length body)) says.says ∙ ap (λ (t : Bool). cond t 0 (record_cost unit (length body))) says.bytes

-- What is copied costs at most what the puts of the victim do.
pub copies_cost-le : (limit unit : ℕ) (victim others : List (List ℕ)) → bodies_cost unit (live_bodies limit victim others) ≤ sum_by (put_cost limit unit) victim
unfolding live_bodies
copies_cost-le limit unit [] others = omega arith
copies_cost-le limit unit (body ∷ rest) others =
    let ih = copies_cost-le limit unit rest others in
    let all = sum_by-cons (put_cost limit unit) body rest in
    elim (cases_Bool (is_live limit body (rest ++ others))) [
      | inl live ↦
          let here : live_bodies limit (body ∷ rest) others ≡ body ∷ live_bodies limit rest others = cond-true (is_live limit body (rest ++ others)) (body ∷ live_bodies limit rest others) (live_bodies limit rest others) live in
          let e : bodies_cost unit (live_bodies limit (body ∷ rest) others) ≡ record_cost unit (length body) + bodies_cost unit (live_bodies limit rest others) =
          ap (bodies_cost unit) here ∙ sum_by-cons (λ b. record_cost unit (length b)) body (live_bodies limit rest others) in
          let one = put-live limit unit body (rest ++ others) live in
          omega arith
      | inr dead ↦
          let here : live_bodies limit (body ∷ rest) others ≡ live_bodies limit rest others = cond-false (is_live limit body (rest ++ others)) (body ∷ live_bodies limit rest others) (live_bodies limit rest others) dead in
          let e = ap (bodies_cost unit) here in
          omega arith
    ]

-- What a loop adds up over all records is what the settings cost.
pub room-cost : (limit unit size : ℕ) (bodies : List (List ℕ)) → (room unit size).cost (settings_of limit bodies) ≡ bodies_cost unit (live_bodies limit bodies [])
room-cost limit unit size bodies = settings-cost limit unit bodies
