use Rattle.std.proofs.Common.{◌≡◌, false, take}
use Rattle.std.specs.List.{list_any}
use Rattle.std.specs.Str.{bytes_eq}
use Rattle.handlers.specs.Registry.{registered, subtrees}
use Rattle.session.proofs.handling.is_registered.Given as goal

abbrev pub invariant-loop-i : goal.invariant-loop-i
invariant-loop-i g l =
    list_any (bytes_eq l.subtree) (take l.i (subtrees (registered (λ b. (goal.Handler-dyn g (b.vtable, b.value)).state b.value) l.registry))) ≡ false
