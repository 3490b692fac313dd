use Rattle.std.proofs.Common.{◌+◌, ◌-◌, ◌<◌, ◌≤◌}
use Rattle.std.specs.List.Sorted.{IsStrictlySortedBy}
use Rattle.std.specs.Map.{keys_of}
use Rattle.std.specs.Ordering.{nat_cmp}
use Rattle.std.specs.Cmp.Lexicographic.{slice_cmp}
use Rattle.flash_map.specs.On.{on}
use Rattle.named_items.proofs.ListingSteps.{HasListed, answer}
use Rattle.named_items.proofs.listing.all_settings.Given as goal

abbrev pub invariant-loop-candidate : goal.invariant-loop-candidate
invariant-loop-candidate g l =
    let area = g.S.ItemStore.mounted_on l.initial.store in
    record {
      listed : HasListed (g.N.IdLayout.numbering area) (on g.S.ItemStore.contents (g.F.Flash.device l.initial.flash) area) (answer l.found.entries) l.after;
      sorted : IsStrictlySortedBy (slice_cmp nat_cmp) (keys_of l.found.entries);
      from : (g.N.IdLayout.numbering area).first ≤ l.after + 1;
      known : l.after < g.N.IdLayout.top;
    }

abbrev pub decreases-loop-candidate : goal.decreases-loop-candidate
decreases-loop-candidate g l = g.N.IdLayout.top - l.after
