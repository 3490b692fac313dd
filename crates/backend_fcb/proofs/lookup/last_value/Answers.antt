use Rattle.std.proofs.Common.{◌≡◌, ℕ, ◌+◌, ◌-◌, List, [], length, drop, Option, Some, sym, ap, ◌∙◌, arith}
use Rattle.flash_map.specs.Area.{value_limit}
use Rattle.std.proofs.lemmas.List.{take_all, length-drop}
use Rattle.fcb_ring.specs.declared.record.RecordAt.{RecordAt}
use Rattle.fcb_ring.specs.Standing.{entries_on, last_with}
use Rattle.record_settings.specs.Settings.{body_of}
use Rattle.record_settings.proofs.BodyLemmas.{length-body_of}
use Rattle.backend_fcb.proofs.Limits.{limit-most}
use Rattle.backend_fcb.proofs.LookupSteps.{last-found, last-absent, last-long}
use Rattle.backend_fcb.proofs.lookup.last_value.Goals as goal

-- what was found, in the words of the name
as-named : (list : List (RecordAt × List ℕ)) (prefix whole : List ℕ) (n limit : ℕ) (found : Option RecordAt) → prefix ≡ whole → n ≡ limit → found ≡ last_with prefix (length prefix + n) list → last_with whole (length whole + limit) list ≡ found
as-named list prefix whole n limit found same few is =
    sym (is ∙ ap (λ (p : List ℕ). last_with p (length p + n) list) same ∙ ap (λ (k : ℕ). last_with whole (length whole + k) list) few)

pub overflow_add-most : goal.overflow_add-most
overflow_add-most g c =
    let same : length c.as_slice-prefix.result.now ≡ length (body_of c.args.name.now []) = ap length (c.as_slice-prefix.ensures.value ∙ c.start_of-start.ensures.items) in
    let count = length-body_of c.args.name.now [] in
    let name = c.start_of-start.ensures.name.short in
    let limit = limit-most c.args.ring.now.area in
    omega (arith, same, count, name, limit, c.value_limit-limit.ensures)

pub body-body-requires-clause-record : goal.body-body-requires-clause-record
body-body-requires-clause-record g c = c.last_with.ensures.listed c.in-Some.entry c.in-Some.is

pub slice_bounds-value-start : goal.slice_bounds-value-start
slice_bounds-value-start g c =
    let list = entries_on (g.F.Flash.device c.args.flash.now) c.args.ring.now.area in
    let prefix = c.as_slice-prefix.ensures.value ∙ c.start_of-start.ensures.items in
    let found = as-named list c.as_slice-prefix.result.now (body_of c.args.name.now []) c.value_limit-limit.result (value_limit c.args.ring.now.area) c.last_with.result prefix c.value_limit-limit.ensures c.last_with.ensures.last in
    let long = last-long (value_limit c.args.ring.now.area) c.args.name.now c.start_of-start.ensures.name list c.in-Some.entry c.body-body.result.now (found ∙ c.in-Some.is) c.body-body.ensures.body in
    let same : length c.as_slice-prefix.result.now ≡ length (body_of c.args.name.now []) = ap length prefix in
    omega (arith, long, same)

pub slice_bounds-value-count : goal.slice_bounds-value-count
slice_bounds-value-count g c =
    let list = entries_on (g.F.Flash.device c.args.flash.now) c.args.ring.now.area in
    let prefix = c.as_slice-prefix.ensures.value ∙ c.start_of-start.ensures.items in
    let found = as-named list c.as_slice-prefix.result.now (body_of c.args.name.now []) c.value_limit-limit.result (value_limit c.args.ring.now.area) c.last_with.result prefix c.value_limit-limit.ensures c.last_with.ensures.last in
    let long = last-long (value_limit c.args.ring.now.area) c.args.name.now c.start_of-start.ensures.name list c.in-Some.entry c.body-body.result.now (found ∙ c.in-Some.is) c.body-body.ensures.body in
    let same : length c.as_slice-prefix.result.now ≡ length (body_of c.args.name.now []) = ap length prefix in
    omega (arith, long, same)

pub returns-in-Some : goal.returns-in-Some
returns-in-Some g c =
    let list = entries_on (g.F.Flash.device c.args.flash.now) c.args.ring.now.area in
    let bytes : List ℕ = c.body-body.result.now in
    let n : ℕ = length c.as_slice-prefix.result.now in
    let prefix = c.as_slice-prefix.ensures.value ∙ c.start_of-start.ensures.items in
    let found = as-named list c.as_slice-prefix.result.now (body_of c.args.name.now []) c.value_limit-limit.result (value_limit c.args.ring.now.area) c.last_with.result prefix c.value_limit-limit.ensures c.last_with.ensures.last in
    ap (λ (l : List ℕ). Some l) (take_all (length bytes - n) (drop n bytes) (omega (arith, length-drop n bytes)))
    ∙ ap (λ (p : List ℕ). Some (drop (length p) bytes)) prefix
    ∙ last-found (value_limit c.args.ring.now.area) c.args.name.now c.start_of-start.ensures.name list c.in-Some.entry c.body-body.result.now (found ∙ c.in-Some.is) c.body-body.ensures.body

pub returns-in-None : goal.returns-in-None
returns-in-None g c =
    let list = entries_on (g.F.Flash.device c.args.flash.now) c.args.ring.now.area in
    let prefix = c.as_slice-prefix.ensures.value ∙ c.start_of-start.ensures.items in
    let found = as-named list c.as_slice-prefix.result.now (body_of c.args.name.now []) c.value_limit-limit.result (value_limit c.args.ring.now.area) c.last_with.result prefix c.value_limit-limit.ensures c.last_with.ensures.last in
    last-absent (value_limit c.args.ring.now.area) c.args.name.now c.start_of-start.ensures.name list (found ∙ c.in-None.is)
