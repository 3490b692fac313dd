-- Deliveries leave each handler's subtree and kind as they are.
use Rattle.std.proofs.Common.{◌≡◌, ℕ, List, [], ◌∷◌, map, get_or, Bool, true, false, cond, refl, sym, ap, ◌∙◌}
use Rattle.std.proofs.Math.ListN.{get_or-map}
use Rattle.std.proofs.Math.Seq.{map-set_same}
use Rattle.handlers.specs.declared.handler.HandlerKind.{HandlerKind}
use Rattle.handlers.specs.Held.{HandlerState, accepts, given}
use Rattle.handlers.specs.Registry.{Registered, subtrees, nobody, state_at}
use Rattle.settings_core.specs.Deliveries.{Delivery, offered, deliver, deliver_all, give, is_taken}

pub seat : Registered → List ℕ × HandlerKind
seat h = (h.subtree, h.state.kind)

kept : (b : Bool) (h : HandlerState) (rest value : List ℕ) → (cond b (given h rest value) h).kind ≡ h.kind
kept true h rest value = refl
kept false h rest value = refl

deliver-seats : (hs : List Registered) (d : Delivery) → map seat (deliver hs d) ≡ map seat hs
unfolding seat
deliver-seats hs d =
    map-set_same seat hs d.place (record (get_or hs d.place nobody) { state = offered (state_at hs d.place) d.rest d.value }) nobody
    (ap (λ k. ((get_or hs d.place nobody).subtree, k)) (kept (accepts (state_at hs d.place).kind d.value) (state_at hs d.place) d.rest d.value))

pub deliver_all-seats : (ds : List Delivery) (hs : List Registered) → map seat (deliver_all hs ds) ≡ map seat hs
deliver_all-seats [] hs = refl
deliver_all-seats (d ∷ ds) hs = deliver_all-seats ds (deliver hs d) ∙ deliver-seats hs d

subtrees-seats : (hs : List Registered) → subtrees hs ≡ map (λ s. s.0) (map seat hs)
unfolding seat
subtrees-seats [] = refl
subtrees-seats (h ∷ hs) = ap (λ l. h.subtree ∷ l) (subtrees-seats hs)

pub subtrees-same : (a b : List Registered) → map seat a ≡ map seat b → subtrees a ≡ subtrees b
subtrees-same a b same = subtrees-seats a ∙ ap (map (λ s. s.0)) same ∙ sym (subtrees-seats b)

seat-same : (a b : List Registered) (place : ℕ) → map seat a ≡ map seat b → seat (get_or a place nobody) ≡ seat (get_or b place nobody)
seat-same a b place same = sym (get_or-map seat a place nobody) ∙ ap (λ l. get_or l place (seat nobody)) same ∙ get_or-map seat b place nobody

pub give-same : (a b : List Registered) (d : Delivery) → map seat a ≡ map seat b → give a d ≡ give b d
unfolding seat
give-same a b d same = ap (λ s. record { subtree = s.0; rest = d.rest; value = d.value; taken = accepts s.1 d.value }) (seat-same a b d.place same)

pub taken-same : (a b : List Registered) (d : Delivery) → map seat a ≡ map seat b → is_taken a d ≡ is_taken b d
unfolding seat
taken-same a b d same = ap (λ s. accepts s.1 d.value) (seat-same a b d.place same)
