use Rattle.std.proofs.Common.{ℕ, ◌+◌, ◌<◌, ◌≤◌, List, Bor, ap, arith}
use Rattle.flash_map.specs.declared.area.Area.{Area}
use Rattle.flash_map.specs.On.{on}
use Rattle.item_laws.specs.Items.{Items}
use Rattle.backend_api.proofs.ListedPairs.{listed-settings}
use Rattle.named_items.specs.Numbering.{Numbering}
use Rattle.named_items.specs.Pairs.{settings_in}
use Rattle.named_items.proofs.LookupSteps.{at-known}
use Rattle.named_items.proofs.ListingSteps.{answer, answer-more, listed-none, listed-more, listed-all}
use Rattle.named_items.proofs.listing.all_settings.Goals as goal

pub loop-candidate-init : goal.loop-candidate-init
loop-candidate-init g c =
    let area : Area = g.S.ItemStore.mounted_on c.args.store.now in
    let n : Numbering = g.N.IdLayout.numbering area in
    let items : Items = on g.S.ItemStore.contents (g.F.Flash.device c.args.flash.now) area in
    let below : n.count_id < n.first = (g.met.N.IdLayout.is_numbering area).below in
    let first : n.first ≤ c.all_candidates-after.result.least = (c.all_candidates-after.ensures.ids area).from in
    let least : c.all_candidates-after.result.least < g.N.IdLayout.top = (c.all_candidates-after.ensures.ids area).least in
    let some : 0 < c.all_candidates-after.result.least = omega arith in
    record {
      listed = listed-none n items c.all_candidates-after.result (c.all_candidates-after.ensures.candidates area) some (answer c.new-found.result.entries)
          (λ q. ap (λ (pairs : List (List ℕ × Bor (List ℕ))). answer pairs q) c.new-found.ensures.empty);
      sorted = c.new-found.ensures.ordered;
      from = omega arith;
      known = omega arith;
    }

pub next_setting-requires-clause-from : goal.next_setting-requires-clause-from
next_setting-requires-clause-from g c = c.loop-candidate.invariant.from

pub loop-candidate-smaller : goal.loop-candidate-smaller
loop-candidate-smaller g c =
    let behind : c.loop-candidate.after < c.in-Some.candidate = c.in-Some.ensures.0 in
    let known : c.loop-candidate.after < g.N.IdLayout.top = c.loop-candidate.invariant.known in
    omega arith

pub loop-candidate-preserved : goal.loop-candidate-preserved
loop-candidate-preserved g c =
    let area : Area = g.S.ItemStore.mounted_on c.args.store.now in
    let n : Numbering = g.N.IdLayout.numbering area in
    let items : Items = on g.S.ItemStore.contents (g.F.Flash.device c.args.flash.now) area in
    let behind : c.loop-candidate.after < c.in-Some.candidate = c.in-Some.ensures.0 in
    let from : n.first ≤ c.loop-candidate.after + 1 = c.loop-candidate.invariant.from in
    let known : c.in-Some.candidate + n.step < g.N.IdLayout.top = at-known n items c.in-Some.name c.in-Some.candidate c.in-Some.ensures.1.at g.N.IdLayout.top (g.met.N.IdLayout.within area) in
    record {
      listed = listed-more n items (answer c.loop-candidate.found.entries) (answer c.insert.new.self.entries) c.loop-candidate.after c.in-Some.candidate c.in-Some.name c.in-Some.value.now
          c.in-Some.ensures.1 behind c.in-Some.ensures.2
          (answer-more c.loop-candidate.found.entries c.insert.new.self.entries c.in-Some.name c.in-Some.value c.in_ok-insert.ensures.updates.0)
          c.loop-candidate.invariant.listed;
      sorted = c.in_ok-insert.ensures.ordered;
      from = omega arith;
      known = omega arith;
    }

pub returns : goal.returns
returns g c =
    let area : Area = g.S.ItemStore.mounted_on c.args.store.now in
    let n : Numbering = g.N.IdLayout.numbering area in
    let items : Items = on g.S.ItemStore.contents (g.F.Flash.device c.args.flash.now) area in
    listed-settings (λ (bytes : Bor (List ℕ)). bytes.now) c.loop-candidate.found.entries c.loop-candidate.invariant.sorted (settings_in n items)
    (listed-all n items (g.met.N.IdLayout.is_numbering area) c.requires.clean (answer c.loop-candidate.found.entries) c.loop-candidate.after c.in_default.ensures c.loop-candidate.invariant.listed)
