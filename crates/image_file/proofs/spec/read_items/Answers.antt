use Rattle.std.proofs.Common.{◌≡◌, inl, inr, ℕ, ◌+◌, ◌≤◌, List, [], ◌∷◌, length, refl, sym, ap, subst, ◌∙◌, arith}
use Rattle.std.proofs.lemmas.List.{length-map}
use Rattle.flash_sim.specs.declared.flash.Bank.{Bank}
use Rattle.flash_map.specs.declared.area.Area.{Area}
use Rattle.image_file.specs.Format.{plain_area}
use Rattle.text_parts.specs.Parts.{parts, parts_of}
use Rattle.image_file.specs.Spec.{Listed, listed, nothing_listed, Adds, AddsAll, FirstBad}
use Rattle.image_file.specs.Items.{IsListed}
use Rattle.image_file.specs.Lawful.{IsVersion}
use Rattle.image_file.proofs.SpecLemmas.{nothing_lawful, item_taken, item_refused, refused_more, adds_listed, adds_count, left, left_shorter, memory_exit}
use Rattle.image_file.proofs.spec.read_items.Goals as goal

version_small : (version : ℕ) → IsVersion version → version ≤ 2
version_small version (inl one) = omega arith
version_small version (inr two) = omega arith

pub loop-rest-init : goal.loop-rest-init
loop-rest-init c =
    let start : listed 1 c.new-banks.result.items c.new-areas.result ≡ nothing_listed = ap (λ (bs : List Bank). listed 1 bs c.new-areas.result) c.new-banks.ensures.items ∙ ap (λ (as' : List Area). listed 1 [] as') c.new-areas.ensures in
    record {
      found = λ end all. subst (λ (l : Listed). AddsAll l (parts 44 c.args.word.now) end) start all;
      refused = λ k bad. let same : k ≡ 0 + k = omega arith in subst (FirstBad nothing_listed (parts 44 c.args.word.now)) same (subst (λ (l : Listed). FirstBad l (parts 44 c.args.word.now) k) start bad);
      lawful = subst IsListed (sym start) nothing_lawful;
      count = omega (arith, ap length c.new-banks.ensures.items, ap length c.new-areas.ensures);
    }

pub overflow_add-count : goal.overflow_add-count
overflow_add-count c = let least = version_small c.loop-rest.version c.loop-rest.invariant.lawful.version in omega (arith, c.loop-rest.invariant.count, c.loop-rest.invariant.lawful.few_banks, c.loop-rest.invariant.lawful.few_areas, length-map c.loop-rest.areas plain_area)

pub returns-in_err-taken : goal.returns-in_err-taken
returns-in_err-taken c = memory_exit c.args.word.now c.from_residual.result c.in_err-taken.field-0.0 c.from_residual.ensures.1 c.in_err-taken.ensures

pub returns-then-not-taken : goal.returns-then-not-taken
returns-then-not-taken c =
    let old : Listed = listed c.loop-rest.version c.loop-rest.banks.items c.loop-rest.areas in
    let item : List ℕ = c.cut_at.result.0.now in
    let cut : parts_of 44 c.loop-rest.rest ≡ item ∷ parts_of 44 c.cut_at.result.1 = ap (parts_of 44) c.in-Some.is ∙ c.cut_at.ensures.first in
    c.loop-rest.invariant.refused 1 (subst (λ (items : List (List ℕ)). FirstBad old items 1) (sym cut) (inl (item_refused item old (listed c.take_item.new.version c.take_item.new.banks.items c.take_item.new.areas) c.in_ok-taken.taken c.if-not-taken.true c.in_ok-taken.ensures, refl)))

pub loop-rest-preserved : goal.loop-rest-preserved
loop-rest-preserved c =
    let all : List (List ℕ) = parts 44 c.args.word.now in
    let old : Listed = listed c.loop-rest.version c.loop-rest.banks.items c.loop-rest.areas in
    let mid : Listed = listed c.take_item.new.version c.take_item.new.banks.items c.take_item.new.areas in
    let item : List ℕ = c.cut_at.result.0.now in
    let items : List (List ℕ) = parts_of 44 c.cut_at.result.1 in
    let cut : parts_of 44 c.loop-rest.rest ≡ item ∷ items = ap (parts_of 44) c.in-Some.is ∙ c.cut_at.ensures.first in
    let adds : Adds old item mid = item_taken item old mid c.in_ok-taken.taken c.if-not-taken.false c.in_ok-taken.ensures in
    let count = adds_count old mid item adds in
    record {
      found = λ end more. c.loop-rest.invariant.found end (subst (λ (xs : List (List ℕ)). AddsAll old xs end) (sym cut) (mid, adds, more));
      refused = refused_more all items item old mid c.loop-rest.count adds (λ k bad. c.loop-rest.invariant.refused k (subst (λ (xs : List (List ℕ)). FirstBad old xs k) (sym cut) bad));
      lawful = adds_listed old mid item c.loop-rest.invariant.lawful adds;
      count = omega (arith, c.loop-rest.invariant.count, count, length-map c.loop-rest.areas plain_area, length-map c.take_item.new.areas plain_area);
    }

pub loop-rest-smaller : goal.loop-rest-smaller
loop-rest-smaller c = omega (arith, ap left c.in-Some.is, left_shorter c.cut_at.result.1 c.in-Some.items.now c.cut_at.ensures.shorter)

pub returns : goal.returns
returns c =
    let now : Listed = listed c.loop-rest.version c.loop-rest.banks.items c.loop-rest.areas in
    let none : parts_of 44 c.loop-rest.rest ≡ [] = ap (parts_of 44) c.in_default.is in
    record {
      lawful = c.loop-rest.invariant.lawful;
      items = c.loop-rest.invariant.found now (subst (λ (xs : List (List ℕ)). AddsAll now xs now) (sym none) refl);
      lacking = λ lacks. c.loop-rest.invariant.refused 1 (subst (λ (xs : List (List ℕ)). FirstBad now xs 1) (sym none) (lacks, refl));
      few = let least = version_small c.loop-rest.version c.loop-rest.invariant.lawful.version in omega (arith, c.loop-rest.invariant.count, c.loop-rest.invariant.lawful.few_banks, c.loop-rest.invariant.lawful.few_areas, length-map c.loop-rest.areas plain_area);
    }
