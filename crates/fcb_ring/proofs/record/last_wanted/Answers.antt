use Rattle.std.proofs.Common.{◌≡◌, ◌%◌, ◌∙◌, ℕ, Bool, true, false, cond, List, length, sym, ap, subst, Option, Some, None, arith}
use Rattle.std.specs.List.{last_or, filter}
use Rattle.std.specs.Option.{option_map}
use Rattle.std.proofs.lemmas.Option.{none-some}
use Rattle.flash_map.specs.Units.{IsUnit}
use Rattle.fcb_ring.specs.declared.record.Extent.{Extent}
use Rattle.fcb_ring.specs.declared.record.Record.{Record}
use Rattle.fcb_ring.specs.Records.{record_of, record_at, records, walk, is_wanted}
use Rattle.fcb_ring.proofs.Walks.{walk-next, walk-none}
use Rattle.fcb_ring.proofs.RecordLemmas.{advances, aligned_after, unit_there, header_fits, extent, no_extent}
use Rattle.fcb_ring.proofs.LastLemmas.{last-step, map-chosen}
use Rattle.fcb_ring.proofs.record.last_wanted.Goals as goal

pub loop-extent-init : goal.loop-extent-init
unfolding records
loop-extent-init c =
    let header = header_fits c.args.unit c.requires.is_unit in
    let is = c.padded-at.ensures.value in
    let step = record_at c.args.unit c.args.sector.now in
    let test = is_wanted c.args.sector.now c.args.prefix.now c.args.most c.args.checked in
    record {
      aligned = ap (λ (n : ℕ). n % c.args.unit) is ∙ header.0;
      at_most = omega (arith, is, header.2, c.requires.long);
      same = ap (λ (n : ℕ). last_or None (filter test (walk step (length c.args.sector.now) n))) is;
      reads = λ at e. absurd (none-some at e);
    }

pub extent_at-requires-clause-room : goal.extent_at-requires-clause-room
extent_at-requires-clause-room c = λ lt. unit_there c.args.unit c.requires.is_unit (length c.args.sector.now) c.loop-extent.at c.requires.whole c.loop-extent.invariant.aligned lt

pub is_wanted-requires-clause-extent : goal.is_wanted-requires-clause-extent
is_wanted-requires-clause-extent c = sym c.extent_at.ensures ∙ c.in-Some.is

pub loop-extent-smaller : goal.loop-extent-smaller
loop-extent-smaller c =
    let h = extent c.args.unit c.args.sector.now c.loop-extent.at c.in-Some.extent c.requires.is_unit (sym c.extent_at.ensures ∙ c.in-Some.is) in
    omega (arith, h.no_less, h.at_most)

pub loop-extent-smaller-then-is_wanted : goal.loop-extent-smaller-then-is_wanted
loop-extent-smaller-then-is_wanted c =
    let h = extent c.args.unit c.args.sector.now c.loop-extent.at c.in-Some.extent c.requires.is_unit (sym c.extent_at.ensures ∙ c.in-Some.is) in
    omega (arith, h.no_less, h.at_most)

-- what was found and what is left go together, after one record more
step : (unit : ℕ) (sector : List ℕ) (test : Record → Bool) (at end : ℕ) (found now : Option ℕ) → IsUnit unit → record_at unit sector at ≡ Some (record_of unit sector at) → (record_of unit sector at).end ≡ end → now ≡ cond (test (record_of unit sector at)) (Some at) found
    → last_or (option_map (record_of unit sector) now) (filter test (walk (record_at unit sector) (length sector) end)) ≡ last_or (option_map (record_of unit sector) found) (filter test (walk (record_at unit sector) (length sector) at))
step unit sector test at end found now is_unit some end-is chosen =
    let make : ℕ → Record = record_of unit sector in
    let r : Record = record_of unit sector at in
    let rest : ℕ → List Record = walk (record_at unit sector) (length sector) in
    ap (λ (o : Option ℕ). last_or (option_map make o) (filter test (rest end))) chosen
    ∙ ap (λ (n : ℕ). last_or (option_map make (cond (test r) (Some at) found)) (filter test (rest n))) (sym end-is)
    ∙ ap (λ (o : Option Record). last_or o (filter test (rest r.end))) (map-chosen make (test r) at found)
    ∙ sym (last-step test (option_map make found) r (rest r.end))
    ∙ sym (ap (λ (l : List Record). last_or (option_map make found) (filter test l)) (walk-next (record_at unit sector) (length sector) at r (advances unit sector is_unit) some))

some-same : (x y : ℕ) → Some x ≡ Some y → x ≡ y
some-same x y e = cc

pub loop-extent-preserved-then-is_wanted : goal.loop-extent-preserved-then-is_wanted
loop-extent-preserved-then-is_wanted c =
    let at : ℕ = c.loop-extent.at in
    let unit : ℕ = c.args.unit in
    let sector : List ℕ = c.args.sector.now in
    let test : (Record → Bool) = is_wanted c.args.sector.now c.args.prefix.now c.args.most c.args.checked in
    let h = extent unit sector at c.in-Some.extent c.requires.is_unit (sym c.extent_at.ensures ∙ c.in-Some.is) in
    let end : (record_of unit sector at).end ≡ c.in-Some.extent.end = ap (λ (q : Extent). q.end) h.same in
    let wanted : test (record_of unit sector at) ≡ true = sym c.is_wanted.ensures ∙ c.if-is_wanted.true in
    record {
      aligned = ap (λ (n : ℕ). n % unit) (sym end) ∙ aligned_after unit sector c.requires.is_unit at (record_of unit sector at) h.some c.loop-extent.invariant.aligned;
      at_most = h.at_most;
      same = step unit sector test at c.in-Some.extent.end c.loop-extent.found (Some at) c.requires.is_unit h.some end (sym (ap (λ (t : Bool). cond t (Some at) c.loop-extent.found) wanted)) ∙ c.loop-extent.invariant.same;
      reads = λ k e. subst (λ (n : ℕ). record_at unit sector n ≡ Some (record_of unit sector n)) (some-same at k e) h.some;
    }

pub loop-extent-preserved : goal.loop-extent-preserved
loop-extent-preserved c =
    let at : ℕ = c.loop-extent.at in
    let unit : ℕ = c.args.unit in
    let sector : List ℕ = c.args.sector.now in
    let test : (Record → Bool) = is_wanted c.args.sector.now c.args.prefix.now c.args.most c.args.checked in
    let h = extent unit sector at c.in-Some.extent c.requires.is_unit (sym c.extent_at.ensures ∙ c.in-Some.is) in
    let end : (record_of unit sector at).end ≡ c.in-Some.extent.end = ap (λ (q : Extent). q.end) h.same in
    let unwanted : test (record_of unit sector at) ≡ false = sym c.is_wanted.ensures ∙ c.if-is_wanted.false in
    record {
      aligned = ap (λ (n : ℕ). n % unit) (sym end) ∙ aligned_after unit sector c.requires.is_unit at (record_of unit sector at) h.some c.loop-extent.invariant.aligned;
      at_most = h.at_most;
      same = step unit sector test at c.in-Some.extent.end c.loop-extent.found c.loop-extent.found c.requires.is_unit h.some end (sym (ap (λ (t : Bool). cond t (Some at) c.loop-extent.found) unwanted)) ∙ c.loop-extent.invariant.same;
      reads = c.loop-extent.invariant.reads;
    }

pub returns : goal.returns
returns c =
    let step = record_at c.args.unit c.args.sector.now in
    let test = is_wanted c.args.sector.now c.args.prefix.now c.args.most c.args.checked in
    let make = record_of c.args.unit c.args.sector.now in
    let none = no_extent c.args.unit c.args.sector.now c.loop-extent.at (sym c.extent_at.ensures ∙ c.in_default.is) in
    record {
      last = sym (ap (λ (l : List Record). last_or (option_map make c.loop-extent.found) (filter test l)) (walk-none step (length c.args.sector.now) c.loop-extent.at none)) ∙ c.loop-extent.invariant.same;
      reads = c.loop-extent.invariant.reads;
    }
