use Rattle.std.proofs.Common.{◌≡◌, ℕ, Some, ap, ◌∙◌, sym, arith}
use Rattle.std.specs.Option.{option_map}
use Rattle.nvs_store.specs.declared.scan.Found.{Found}
use Rattle.nvs_store.specs.Sector.{slot_at, counting_entry, is_wanted, last_found}
use Rattle.nvs_store.specs.Scans.{placed_at}
use Rattle.nvs_store.proofs.SlotReads.{slot_size_bounds}
use Rattle.item_laws.proofs.SlotWalks.{found_here}
use Rattle.nvs_store.specs.Geometry.{slot_size}
use Rattle.nvs_store.proofs.Lookups.{entries_to, used_inside, entries_to_within}
use Rattle.nvs_store.proofs.WantedSlots.{wanted_some, wanted_none}
use Rattle.nvs_store.proofs.sector.find_in.Goals as goal

pub loop-index-init : goal.loop-index-init
loop-index-init c = record {
  inside = omega arith;
  later = ap (last_found c.args.wanted) (entries_to_within c.args.unit c.args.bytes.now c.args.slots c.min-index.result (omega arith));
}

pub wanted_entry-requires-clause-inside : goal.wanted_entry-requires-clause-inside
wanted_entry-requires-clause-inside c =
    let size = slot_size_bounds c.args.unit c.requires.unit in
    used_inside c.args.unit c.args.bytes.now c.loop-index.index (omega arith) (omega arith) c.loop-index.invariant.inside

pub returns-in-Some : goal.returns-in-Some
returns-in-Some c =
    let found = wanted_some c.args.wanted (counting_entry c.args.unit (slot_at c.args.unit c.args.bytes.now c.loop-index.index)) c.in-Some.found c.in-Some.ensures in
    ap (λ (f : Found). Some f) c.at.ensures ∙ ap (option_map (placed_at c.args.place)) (found_here (counting_entry c.args.unit) 1 (slot_size c.args.unit) c.args.bytes.now (λ f. is_wanted c.args.wanted f.entry) c.loop-index.index c.loop-index.index c.loop-index-test.true (omega arith) c.in-Some.found _ found.0 found.1 c.loop-index.invariant.later)

pub loop-index-preserved : goal.loop-index-preserved
loop-index-preserved c = record {
  inside = omega arith;
  later = wanted_none c.args.unit c.args.bytes.now c.args.wanted c.loop-index.index _ c.loop-index-test.true (sym c.in_default.is ∙ c.wanted_entry.ensures) c.loop-index.invariant.later;
}

pub returns : goal.returns
returns c =
    let none : 0 ≡ c.loop-index.index = omega arith in
    ap (option_map (placed_at c.args.place)) (ap (λ (k : ℕ). last_found c.args.wanted (entries_to c.args.unit c.args.bytes.now k)) none ∙ c.loop-index.invariant.later)
