use Rattle.std.proofs.Common.{◌≡◌, ℕ, ◌+◌, ◌-◌, List, length, take, drop, sym, ◌∙◌, arith}
use Rattle.flash_map.specs.Area.{value_limit}
use Rattle.std.proofs.lemmas.List.{take_all, length-drop}
use Rattle.backend_fcb.proofs.BodyOf.{name-is, value-is, says-none, says-long, says-parts}
use Rattle.backend_fcb.proofs.record.parts_of.Goals as goal

value-of : (body : List ℕ) (place : ℕ) → take (length body - (place + 1)) (drop (place + 1) body) ≡ drop (place + 1) body
value-of body place = take_all (length body - (place + 1)) (drop (place + 1) body) (omega (arith, length-drop (place + 1) body))

pub returns-in_err-end : goal.returns-in_err-end
returns-in_err-end c = rw c.from_residual.ensures (says-none (value_limit c.args.ring.now.area) c.args.body.now (sym c.in_err-end.ensures.place))

pub returns-then-value-limit : goal.returns-then-value-limit
returns-then-value-limit c =
    let body : List ℕ = c.args.body.now in
    let place : ℕ = c.in_ok-end.end in
    let at = sym c.in_ok-end.ensures.place in
    says-long (value_limit c.args.ring.now.area) body (take (length body - (place + 1)) (drop (place + 1) body)) (value-of body place ∙ value-is body place at) (omega (arith, c.if-value-limit.true, c.value_limit-limit.ensures))

pub returns : goal.returns
returns c =
    let body : List ℕ = c.args.body.now in
    let place : ℕ = c.in_ok-end.end in
    let at = sym c.in_ok-end.ensures.place in
    says-parts (value_limit c.args.ring.now.area) body (take place body) (take (length body - (place + 1)) (drop (place + 1) body)) place at (name-is body place at)
    (value-of body place ∙ value-is body place at) (omega (arith, c.if-value-limit.false, c.value_limit-limit.ensures))
