-- An area without items.
use Rattle.std.proofs.Common.{◌≡◌, ℕ, ◌+◌, List, Some, None, sym, ap, ◌∙◌}
use Rattle.std.specs.FinMap as maps
use Rattle.std.specs.Cmp.Lexicographic.{slice_cmp}
use Rattle.std.specs.Ordering.{nat_cmp}
use Rattle.item_laws.specs.Items.{Items}
use Rattle.backend_api.proofs.MapLemmas.{same_settings}
use Rattle.named_items.specs.Numbering.{Numbering}
use Rattle.named_items.specs.Pairs.{settings_in}
use Rattle.named_items.proofs.NameLemmas.{get-nowhere}
use Rattle.named_items.proofs.PairLemmas.{pair-made}

some_none : (x : List ℕ) → Some x ≡ None → ⊥
some_none x e = cc

-- no items are no settings
pub no-settings : (n : Numbering) (items : Items) → items ≡ maps.empty → settings_in n items ≡ maps.empty
no-settings n items none = same_settings (settings_in n items) maps.empty (λ q.
    get-nowhere n items q (λ id inside has.
    let made = pair-made n id q (maps.get items id) (maps.get items (id + n.step)) has in
    some_none q (sym made.is_name ∙ ap (λ (m : Items). maps.get m id) none ∙ maps.get-empty nat_cmp id))
    ∙ sym (maps.get-empty (slice_cmp nat_cmp) q))
