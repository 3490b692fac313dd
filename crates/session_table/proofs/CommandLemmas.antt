-- Commands one after another.
use Rattle.std.proofs.Common.{◌≡◌, ℕ, ◌+◌, true, false, List, [], ◌∷◌, ◌++◌, length, take, refl, ap, subst, ◌∙◌, arith}
use Rattle.std.proofs.lemmas.Bool.{cond-true, cond-false, eq-eqb, ne_eqb}
use Rattle.std.proofs.lemmas.List.{length-append}
use Rattle.std.proofs.Math.Seq.{take-append_seam}
use Rattle.backend_api.specs.Commands.{Command, applied, all_applied}
use Rattle.backend_api.specs.Map.{Map}
use Rattle.backend_api.specs.Room.{Room}
use Rattle.settings_core.specs.Carrying.{is_too_many, AreFree}
use Rattle.session_table.specs.Commands.{StopsForNames}
use Rattle.session_table.specs.Plain.{free_count, all_free}

-- no command
pub none_applied : (settings : Map) → all_applied settings [] ≡ settings
unfolding all_applied
none_applied settings = refl

pub one_applied : (settings : Map) (command : Command) (commands : List Command) → all_applied settings (command ∷ commands) ≡ all_applied (applied settings command) commands
unfolding all_applied
one_applied settings command commands = refl

pub first_free : (room : Room) (settings : Map) (command : Command) (commands : List Command) → AreFree room settings (command ∷ commands)
    → (is_too_many room settings command ≡ false) × AreFree room (applied settings command) commands
unfolding AreFree
first_free room settings command commands free = free

-- all of them are counted where none puts a name too many
pub count_all : (room : Room) (settings : Map) (commands : List Command) → AreFree room settings commands → free_count room settings commands ≡ length commands
count_all room settings [] free = refl
count_all room settings (command ∷ commands) free =
    let parts = first_free room settings command commands free in
    let rest = count_all room (applied settings command) commands parts.1 in
    let head = cond-false (is_too_many room settings command) 0 (free_count room (applied settings command) commands + 1) parts.0 in
    head ∙ omega (arith, rest)

-- and else those before the first that does
count_prefix : (room : Room) (settings : Map) (prefix : List Command) (at : Command) (left : List Command) → AreFree room settings prefix → is_too_many room (all_applied settings prefix) at ≡ true
    → free_count room settings (prefix ++ at ∷ left) ≡ length prefix
count_prefix room settings [] at left free many =
    cond-true (is_too_many room settings at) 0 (free_count room (applied settings at) left + 1) (subst (λ (m : Map). is_too_many room m at ≡ true) (none_applied settings) many)
count_prefix room settings (command ∷ prefix) at left free many =
    let parts = first_free room settings command prefix free in
    let rest = count_prefix room (applied settings command) prefix at left parts.1 (subst (λ (m : Map). is_too_many room m at ≡ true) (one_applied settings command prefix) many) in
    let head = cond-false (is_too_many room settings command) 0 (free_count room (applied settings command) (prefix ++ at ∷ left) + 1) parts.0 in
    head ∙ omega (arith, rest)

pub all_are_free : (room : Room) (settings : Map) (commands : List Command) → AreFree room settings commands → all_free room settings commands ≡ true
all_are_free room settings commands free = eq-eqb (free_count room settings commands) (length commands) (count_all room settings commands free)

pub stops_at : (room : Room) (commands : List Command) (count : ℕ) (before now : Map) → (stops : StopsForNames room commands count before now) → free_count room before commands ≡ length stops.split.done
stops_at room commands count before now stops =
    ap (free_count room before) stops.split.is
    ∙ count_prefix room before stops.split.done stops.split.at stops.split.left stops.free (subst (λ (m : Map). is_too_many room m stops.split.at ≡ true) stops.settings stops.many)

pub not_all_free : (room : Room) (commands : List Command) (count : ℕ) (before now : Map) → StopsForNames room commands count before now → all_free room before commands ≡ false
not_all_free room commands count before now stops =
    let at = stops_at room commands count before now stops in
    let len : length commands ≡ length stops.split.done + length (stops.split.at ∷ stops.split.left) = ap length stops.split.is ∙ length-append stops.split.done (stops.split.at ∷ stops.split.left) in
    ne_eqb (free_count room before commands) (length commands) (λ (e : free_count room before commands ≡ length commands). omega (arith, at, len, e))

-- the commands before the one where it stopped
pub prefix_is : (room : Room) (commands : List Command) (count : ℕ) (before now : Map) → (stops : StopsForNames room commands count before now)
    → take (free_count room before commands) commands ≡ stops.split.done
prefix_is room commands count before now stops =
    ap (λ (n : ℕ). take n commands) (stops_at room commands count before now stops)
    ∙ ap (take (length stops.split.done)) stops.split.is
    ∙ take-append_seam stops.split.done (stops.split.at ∷ stops.split.left)
