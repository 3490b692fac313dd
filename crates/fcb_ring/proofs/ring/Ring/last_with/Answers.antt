use Rattle.std.proofs.Common.{◌≡◌, ◌+◌, ◌-◌, ◌<◌, ◌∙◌, ℕ, List, min, sym, ap, arith}
use Rattle.std.specs.List.{flat_map, range_with_len}
use Rattle.flash_map.specs.Area.{unit_of, sectors_of, sector_size}
use Rattle.fcb_ring.specs.Changing.{sector_list}
use Rattle.fcb_ring.specs.Rings.{turned, distance}
use Rattle.fcb_ring.specs.Standing.{entries_on, last_with, newest_to}
use Rattle.fcb_ring.proofs.AreaLemmas.{has_size, count-sectors}
use Rattle.fcb_ring.proofs.LastLemmas.{Entry, sectors-none, sectors-some, last-listed}
use Rattle.fcb_ring.proofs.ReadLemmas.{place-facts, entries-counted, some_from, is_none_from}
use Rattle.fcb_ring.proofs.RingLemmas.{distance-turned}
use Rattle.fcb_ring.proofs.ring.Ring.last_with.Goals as goal

pub loop-left-init : goal.loop-left-init
loop-left-init g c =
    let d = g.F.Flash.device c.args.flash.now in
    let ring = c.args.self.now in
    let f : ℕ → List Entry = λ k. sector_list d ring.area (turned ring.area.sectors ring.oldest k) in
    record {
      at_most = omega (arith, c.counted-left.ensures);
      same =
          ap (λ (n : ℕ). last_with c.args.prefix.now c.args.most (flat_map f (range_with_len 0 n))) c.counted-left.ensures
          ∙ sym (ap (last_with c.args.prefix.now c.args.most) (entries-counted (unit_of d ring.area) (sector_size d ring.area) (sectors_of d ring.area) (has_size d ring.area (g.met.F.Flash.is_lawful c.args.flash.now) c.requires.stands.area) ring c.requires.stands.sectors ring.area.sectors (sym (count-sectors d ring.area))));
      read = omega (arith, c.counted-left.ensures);
    }

pub place-requires-clause-oldest : goal.place-requires-clause-oldest
place-requires-clause-oldest g c =
    let d = g.F.Flash.device c.args.flash.now in
    let ring = c.args.self.now in
    (place-facts (unit_of d ring.area) (sector_size d ring.area) (sectors_of d ring.area) (has_size d ring.area (g.met.F.Flash.is_lawful c.args.flash.now) c.requires.stands.area) ring c.requires.stands.sectors ring.area.sectors (sym (count-sectors d ring.area))).0

pub place-requires-clause-further : goal.place-requires-clause-further
place-requires-clause-further g c = omega (arith, c.loop-left.invariant.at_most)

pub returns-then-is_some : goal.returns-then-is_some
returns-then-is_some g c =
    let d = g.F.Flash.device c.args.flash.now in
    let ring = c.args.self.now in
    let f : ℕ → List Entry = λ k. sector_list d ring.area (turned ring.area.sectors ring.oldest k) in
    let found = some_from c.last_in-found.result (sym c.is_some.ensures ∙ c.if-is_some.true) in
    let here = c.last_in-found.ensures.last ∙ ap (λ (p : ℕ). last_with c.args.prefix.now c.args.most (sector_list d ring.area p)) c.place.ensures.value in
    let left : c.loop-left.left ≡ c.loop-left.left - 1 + 1 = omega (arith, c.loop-left-test.true) in
    let is : c.last_in-found.result ≡ last_with c.args.prefix.now c.args.most (entries_on (g.F.Flash.device c.args.flash.now) c.args.self.now.area) =
    found.1 ∙ sectors-some c.args.prefix.now c.args.most f c.loop-left.left (c.loop-left.left - 1) found.0 left (sym here ∙ found.1) ∙ c.loop-left.invariant.same in
    let place = place-facts (unit_of d ring.area) (sector_size d ring.area) (sectors_of d ring.area) (has_size d ring.area (g.met.F.Flash.is_lawful c.args.flash.now) c.requires.stands.area) ring c.requires.stands.sectors ring.area.sectors (sym (count-sectors d ring.area)) in
    let oldest : ring.oldest < ring.area.sectors = place.0 in
    let at_most = c.loop-left.invariant.at_most in
    let some : 0 < c.loop-left.left = c.loop-left-test.true in
    let further : distance ring.area.sectors ring.oldest found.0.sector ≡ c.loop-left.left - 1 =
    ap (distance ring.area.sectors ring.oldest) (c.last_in-found.ensures.sector found.0 found.1 ∙ c.place.ensures.value)
    ∙ distance-turned ring.area.sectors ring.oldest (c.loop-left.left - 1) oldest (omega (arith, oldest, at_most, some)) in
    let looked : newest_to ring c.last_in-found.result ≡ min ring.used (ring.area.sectors - 1) - (c.loop-left.left - 1) =
    ap (newest_to ring) found.1 ∙ ap (λ (n : ℕ). min ring.used (ring.area.sectors - 1) - n) further in
    record {
      last = is;
      listed = λ r e. last-listed c.args.prefix.now c.args.most (entries_on d ring.area) r (sym is ∙ e);
      steps = omega (arith, looked, at_most, some, c.loop-left.invariant.read, c.last_in-found.ensures.step);
    }

pub loop-left-preserved : goal.loop-left-preserved
loop-left-preserved g c =
    let d = g.F.Flash.device c.args.flash.now in
    let ring = c.args.self.now in
    let f : ℕ → List Entry = λ k. sector_list d ring.area (turned ring.area.sectors ring.oldest k) in
    let none = is_none_from c.last_in-found.result (sym c.is_some.ensures ∙ c.if-is_some.false) in
    let here = c.last_in-found.ensures.last ∙ ap (λ (p : ℕ). last_with c.args.prefix.now c.args.most (sector_list d ring.area p)) c.place.ensures.value in
    let left : c.loop-left.left ≡ c.loop-left.left - 1 + 1 = omega (arith, c.loop-left-test.true) in
    record {
      at_most = omega (arith, c.loop-left.invariant.at_most);
      read = omega (arith, c.loop-left.invariant.read, c.loop-left.invariant.at_most, c.loop-left-test.true, c.last_in-found.ensures.step);
      same = sectors-none c.args.prefix.now c.args.most f c.loop-left.left (c.loop-left.left - 1) left (sym here ∙ none) ∙ c.loop-left.invariant.same;
    }

pub returns : goal.returns
returns g c =
    let d = g.F.Flash.device c.args.flash.now in
    let ring = c.args.self.now in
    let f : ℕ → List Entry = λ k. sector_list d ring.area (turned ring.area.sectors ring.oldest k) in
    let nothing : 0 ≡ c.loop-left.left = omega (arith, c.loop-left-test.false) in
    let is = ap (λ (n : ℕ). last_with c.args.prefix.now c.args.most (flat_map f (range_with_len 0 n))) nothing ∙ c.loop-left.invariant.same in
    record {
      last = is;
      listed = λ r e. last-listed c.args.prefix.now c.args.most (entries_on d ring.area) r (sym is ∙ e);
      steps = omega (arith, nothing, c.loop-left.invariant.read);
    }
