-- Laws on loads and saves.
use Rattle.std.proofs.Common.{◌≡◌, ℕ, ◌<◌, Bool, true, false, cond, List, [], ◌∷◌, ◌++◌, length, get_or, set, refl, sym, ap, subst, ◌∙◌, arith, inl, inr, ◌⊎◌}
use Rattle.std.specs.Prelude.{◌==◌, fold}
use Rattle.std.specs.List.{filter}
use Rattle.std.specs.FinMap.{insert}
use Rattle.std.proofs.lemmas.Bool.Decides.{Decides-eqb}
use Rattle.std.proofs.lemmas.List.{get_or-set_same, get_or-set_other, length-set}
use Rattle.backend_api.specs.Commands.{Command, applied, all_applied, IsPartApplied, CutMap}
use Rattle.backend_api.specs.Room.{Room}
use Rattle.backend_api.proofs.CommandLemmas.{follow, applied-more}
use Rattle.flash_sim.specs.Device.{Device}
use Rattle.flash_sim.specs.declared.flash.Loss.{Loss}
use Rattle.std.proofs.lemmas.List.{append_assoc}
use Rattle.backend_api.specs.Map.{Map}
use Rattle.handlers.specs.Held.{HandlerState, accepts, given}
use Rattle.handlers.specs.Registry.{Registered, nobody, state_at}
use Rattle.settings_core.specs.Carrying.{due, is_idle}
use Rattle.settings_core.specs.Deliveries.{Delivery, offered, deliver, deliver_all}
use Rattle.settings_core.specs.Laws.{DueCommands, OneCommand, LeavesPart, deliveries_at, offered_all, holds_all, IsDelivered}
use Rattle.settings_core.proofs.CarryLemmas.{due_same, due-append, due_none, due_one}

not_none : (done : List Command) (at : Command) (left : List Command) → [] ≡ done ++ at ∷ left → ⊥
not_none [] at left is = cc
not_none (d ∷ done) at left is = cc

due_changes : (settings : Map) (commands done : List Command) (at : Command) (left : List Command) → due settings commands ≡ done ++ at ∷ left → is_idle (all_applied settings done) at ≡ false
unfolding all_applied due
due_changes settings [] done at left is = absurd (not_none done at left is)
due_changes settings (c ∷ commands) done at left is =
    by (is_idle settings c) refl (λ it. due_changes settings commands done at left it) (λ behind it. due_changes (applied settings c) commands behind at left it) is
  where
    first : (c d : Command) (xs ys : List Command) → c ∷ xs ≡ d ∷ ys → c ≡ d
    first c d xs ys is = cc

    others : (c d : Command) (xs ys : List Command) → c ∷ xs ≡ d ∷ ys → xs ≡ ys
    others c d xs ys is = cc

    in_done : is_idle settings c ≡ false → ((behind : List Command) → due (applied settings c) commands ≡ behind ++ at ∷ left → is_idle (fold applied (applied settings c) behind) at ≡ false) → (done : List Command)
        → c ∷ due (applied settings c) commands ≡ done ++ at ∷ left → is_idle (fold applied settings done) at ≡ false
    in_done isnt rest [] is = subst (λ x. is_idle settings x ≡ false) (first c at (due (applied settings c) commands) left is) isnt
    in_done isnt rest (d ∷ done) is =
        subst (λ x. is_idle (fold applied (applied settings x) done) at ≡ false) (first c d (due (applied settings c) commands) (done ++ at ∷ left) is)
        (rest done (others c d (due (applied settings c) commands) (done ++ at ∷ left) is))

    by : (b : Bool) → is_idle settings c ≡ b → (due settings commands ≡ done ++ at ∷ left → is_idle (fold applied settings done) at ≡ false)
        → ((behind : List Command) → due (applied settings c) commands ≡ behind ++ at ∷ left → is_idle (fold applied (applied settings c) behind) at ≡ false)
        → cond b (due settings commands) (c ∷ due (applied settings c) commands) ≡ done ++ at ∷ left → is_idle (fold applied settings done) at ≡ false
    by true idle same rest is = same is
    by false isnt same rest is = in_done isnt rest done is

pub due_commands : (settings : Map) (commands : List Command) → DueCommands settings commands
due_commands settings commands = record { same = due_same settings commands; changes = due_changes settings commands; behind = due-append settings commands }

stops_at_one : (c : Command) (count : ℕ) (done : List Command) (at : Command) (left : List Command) → count ≡ length done → c ∷ [] ≡ done ++ at ∷ left → (count ≡ 0) × (done ≡ []) × (at ≡ c)
stops_at_one c count [] at left is same = (is, refl, same_head c at left same)
  where
    same_head : (c at : Command) (left : List Command) → c ∷ [] ≡ at ∷ left → at ≡ c
    same_head c at left same = cc
stops_at_one c count (d ∷ done) at left is same = absurd (not_none done at left (same_tail c d done at left same))
  where
    same_tail : (c d : Command) (done : List Command) (at : Command) (left : List Command) → c ∷ [] ≡ d ∷ (done ++ at ∷ left) → [] ≡ done ++ at ∷ left
    same_tail c d done at left same = cc

pub one_command : (settings : Map) (c : Command) → OneCommand settings c
one_command settings c = record {
  none = due_none settings c;
  one = due_one settings c;
  stops = λ count split. stops_at_one c count split.done split.at split.left split.count_is split.is;
}

pub leaves_part : (room : Room) (chance : Loss → Bool) (tears : Command → ℕ → Map → Map → Type 0) (old new : Device) (before after : Map) (commands : List Command) (count : ℕ) → LeavesPart room chance tears old new before after commands count
unfolding all_applied
leaves_part room chance tears old new before after commands count meets was_on none =
    let split = meets.split in
    let stops = meets.stops was_on in
    subst (λ cs. IsPartApplied before cs after) (sym split.is)
    (either split.done split.at split.left (subst (λ (b : Bool). CutMap b (tears split.at stops.loss.done) split.at (all_applied before split.done) after) (none stops.loss stops.last) stops.settings))
  where
    either : (done : List Command) (at : Command) (left : List Command) → (after ≡ all_applied before done) ⊎ (after ≡ applied (all_applied before done) at) → IsPartApplied before (done ++ at ∷ left) after
    either done at left (inl same) = subst (λ m. IsPartApplied before (done ++ at ∷ left) m) (sym same) ((follow before done).part_of_more (at ∷ left) (all_applied before done) (follow before done).all_done)
    either done at left (inr more) =
        let all = (follow before (done ++ at ∷ [])).part_of_more left (all_applied before (done ++ at ∷ [])) (follow before (done ++ at ∷ [])).all_done in
        subst (λ m. IsPartApplied before (done ++ at ∷ left) m) (applied-more before done (at ∷ []) ∙ sym more)
        (subst (λ cs. IsPartApplied before cs (all_applied before (done ++ at ∷ []))) (append_assoc done (at ∷ []) left) all)

-- ---- deliveries

-- one delivery, as the handler at a place sees it
deliver_there : (handlers : List Registered) (d : Delivery) (i : ℕ) → i < length handlers → (b : Bool) → (d.place == i) ≡ b
    → state_at (deliver handlers d) i ≡ cond b (offered (state_at handlers i) d.rest d.value) (state_at handlers i)
deliver_there handlers d i lt true is =
    let same : d.place ≡ i = (Decides-eqb d.place i).0 is in
    let next : Registered = record (get_or handlers d.place nobody) { state = offered (state_at handlers d.place) d.rest d.value } in
    ap (λ (h : Registered). h.state) (ap (λ k. get_or (set handlers d.place next) k nobody) (sym same) ∙ get_or-set_same handlers d.place next nobody (omega (arith, lt, same)))
    ∙ ap (λ k. offered (state_at handlers k) d.rest d.value) same
deliver_there handlers d i lt false is =
    let next : Registered = record (get_or handlers d.place nobody) { state = offered (state_at handlers d.place) d.rest d.value } in
    ap (λ (h : Registered). h.state) (get_or-set_other handlers d.place i next nobody (λ same. other (sym is ∙ (Decides-eqb d.place i).1 (sym same))))
  where
    other : false ≡ true → ⊥
    other is = cc

each_place : (deliveries : List Delivery) (handlers : List Registered) (i : ℕ) → i < length handlers → state_at (deliver_all handlers deliveries) i ≡ offered_all (state_at handlers i) (deliveries_at i deliveries)
each_place [] handlers i lt = refl
each_place (d ∷ deliveries) handlers i lt =
    each_place deliveries (deliver handlers d) i (omega (arith, lt, length-set handlers d.place (record (get_or handlers d.place nobody) { state = offered (state_at handlers d.place) d.rest d.value })))
    ∙ ap (λ s. offered_all s (deliveries_at i deliveries)) (deliver_there handlers d i lt (d.place == i) refl)
    ∙ by (d.place == i)
  where
    by : (b : Bool) → offered_all (cond b (offered (state_at handlers i) d.rest d.value) (state_at handlers i)) (deliveries_at i deliveries) ≡ offered_all (state_at handlers i) (cond b (d ∷ deliveries_at i deliveries) (deliveries_at i deliveries))
    by true = refl
    by false = refl

overlaid : (deliveries : List Delivery) (h : HandlerState) → offered_all h deliveries ≡ holds_all h deliveries
overlaid [] h = refl
overlaid (d ∷ deliveries) h = by (accepts h.kind d.value) (overlaid deliveries (given h d.rest d.value)) (overlaid deliveries h)
  where
    by : (b : Bool) → offered_all (given h d.rest d.value) deliveries ≡ holds_all (given h d.rest d.value) deliveries → offered_all h deliveries ≡ holds_all h deliveries
        → offered_all (cond b (given h d.rest d.value) h) deliveries
        ≡ record h { held = fold (λ m e. insert m e.rest e.value) h.held (cond b (d ∷ filter (λ e. accepts h.kind e.value) deliveries) (filter (λ e. accepts h.kind e.value) deliveries)) }
    by true taken passed = taken
    by false taken passed = passed

pub is_delivered : (handlers : List Registered) (deliveries : List Delivery) (i : ℕ) → IsDelivered handlers deliveries i
is_delivered handlers deliveries i lt = each_place deliveries handlers i lt ∙ overlaid (deliveries_at i deliveries) (state_at handlers i)
