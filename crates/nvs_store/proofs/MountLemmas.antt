-- What the code reads from sector to sector is what the definitions on the area say.
use Rattle.std.proofs.Common.{◌≡◌, ℕ, ◌+◌, ◌-◌, ◌≤◌, inl, inr, Bool, true, false, not, ◌&&◌, cond, eqb, List, length, Option, Some, None, sym, ap, zero-add, ◌∙◌}
use Rattle.std.specs.List.{find, list_all, range_with_len, slice_get}
use Rattle.std.specs.Option.{option_map, option_or}
use Rattle.flash_map.specs.declared.faults.Damaged.{Damaged}
use Rattle.flash_map.specs.declared.faults.Why.TheVariants.{AllClosed, TwoOpen, Dirty, NoFence, Overfull}
use Rattle.item_laws.specs.Area.{next, previous, places, is_closed_at, is_blank_at, follows_closed, openings, open_sector, counts_at, looked_at, first_of_kind, first_damage}
use Rattle.flash_map.specs.Area.{sector_at}
-- these stand for any store; here for the crates above
pub use Rattle.item_laws.proofs.AreaReads.{length-sectors, next_there, previous_there}
use Rattle.item_laws.proofs.AreaReads as ring
use Rattle.item_laws.proofs.Rings.{open-not_closed}
use Rattle.item_laws.proofs.Undamaged.{form-of}
use Rattle.item_laws.proofs.Searches.{second-filter, second-none, all-found, not_all-found}
use Rattle.nvs_store.specs.declared.places.Lookup.{Lookup}
use Rattle.nvs_store.specs.declared.places.Lookup.TheVariants as lookup
use Rattle.nvs_store.specs.declared.scan.Redo.TheVariants.{Nothing, EraseNext, CollectAgain}
use Rattle.nvs_store.specs.Scans.{reading, redo_of, damage_of}
use Rattle.nvs_store.specs.Sector.{has_gc_done, has_fence, is_overfull}
use Rattle.nvs_store.specs.Lookup.{is_match}

pub redo_is : (unit : ℕ) (sectors : List (List ℕ)) (place : ℕ) (closed done : Bool) → is_closed_at (reading unit) sectors (next sectors place) ≡ closed → has_gc_done unit (sector_at sectors place) ≡ done
    → redo_of unit sectors place ≡ cond closed (cond done EraseNext CollectAgain) Nothing
redo_is unit sectors place closed done c d =
    ap (λ (t : Bool). cond t (cond (has_gc_done unit (sector_at sectors place)) EraseNext CollectAgain) Nothing) c ∙ ap (λ (t : Bool). cond closed (cond t EraseNext CollectAgain) Nothing) d

pub counts_closed : (unit : ℕ) (sectors : List (List ℕ)) (place k ignored : ℕ) (done : Bool) → is_closed_at (reading unit) sectors (next sectors place) ≡ true → has_gc_done unit (sector_at sectors place) ≡ done → ignored ≡ cond done (next sectors place) place
    → not (eqb k ignored) ≡ counts_at (reading unit) sectors place k
counts_closed unit sectors place k ignored done c d is = ring.counts_closed (reading unit) sectors place k ignored done c d is

pub counts_open : (unit : ℕ) (sectors : List (List ℕ)) (place k : ℕ) → is_closed_at (reading unit) sectors (next sectors place) ≡ false → true ≡ counts_at (reading unit) sectors place k
counts_open unit sectors place k c = ring.counts_open (reading unit) sectors place k c

pub opening_is : (unit : ℕ) (sectors : List (List ℕ)) (place prev : ℕ) (what : Lookup) (before_closed : Bool) → what ≡ lookup.Opening → is_closed_at (reading unit) sectors place ≡ false → prev ≡ previous sectors place → before_closed ≡ is_closed_at (reading unit) sectors prev
    → before_closed ≡ is_match what unit sectors place
opening_is unit sectors place prev what before_closed is here at that =
    that ∙ ap (is_closed_at (reading unit) sectors) at
    ∙ sym (ap (λ (t : Bool). not t && is_closed_at (reading unit) sectors (previous sectors place)) here)
    ∙ ap (λ (x : Lookup). is_match x unit sectors place) (sym is)

-- ---- the second opening

pub second-opening : (unit : ℕ) (sectors : List (List ℕ)) (count all opening : ℕ) (o : Option ℕ) → count ≡ length sectors → all ≡ length sectors → Some opening ≡ find (is_match lookup.Opening unit sectors) (range_with_len 0 count)
    → o ≡ find (is_match lookup.Opening unit sectors) (range_with_len (opening + 1) (all - (opening + 1))) → o ≡ slice_get (openings (reading unit) sectors) 1
second-opening unit sectors count all opening o long whole at is =
    sym (second-filter (follows_closed (reading unit) sectors) 0 (length sectors) opening (sym (at ∙ ap (λ (n : ℕ). find (follows_closed (reading unit) sectors) (range_with_len 0 n)) long))
    ∙ ap (λ (n : ℕ). find (follows_closed (reading unit) sectors) (range_with_len (opening + 1) (n - (opening + 1)))) (zero-add (length sectors) ∙ sym whole) ∙ sym is)

pub no-opening : (unit : ℕ) (sectors : List (List ℕ)) (count : ℕ) → count ≡ length sectors → None ≡ find (is_match lookup.Opening unit sectors) (range_with_len 0 count) → None ≡ slice_get (openings (reading unit) sectors) 1
no-opening unit sectors count long none =
    sym (second-none (follows_closed (reading unit) sectors) (places sectors) (sym (none ∙ ap (λ (n : ℕ). find (follows_closed (reading unit) sectors) (range_with_len 0 n)) long)))

-- ---- the damage, row by row

-- the sectors from the first on
first_of : (unit : ℕ) (sectors : List (List ℕ)) (count : ℕ) (what : Lookup) (o : Option ℕ) → count ≡ length sectors → o ≡ find (is_match what unit sectors) (range_with_len 0 count) → find (is_match what unit sectors) (places sectors) ≡ o
first_of unit sectors count what o long is = sym (is ∙ ap (λ (n : ℕ). find (is_match what unit sectors) (range_with_len 0 n)) long)

module _ (unit : ℕ) (sectors : List (List ℕ)) (count current : ℕ) (long : count ≡ length sectors) (open-is : current ≡ open_sector (reading unit) sectors) where
  -- how `first_damage` goes on after each row
  abbrev overfull_row : ℕ → Option Damaged
  overfull_row place = first_of_kind Overfull (λ k. looked_at (reading unit) sectors place k && is_overfull unit (sector_at sectors k)) sectors

  abbrev fence_row : ℕ → Option Damaged
  fence_row place = option_or (first_of_kind NoFence (λ k. looked_at (reading unit) sectors place k && not (has_fence unit (sector_at sectors k))) sectors) (overfull_row place)

  abbrev dirty_row : ℕ → Option Damaged
  dirty_row place = option_or (first_of_kind Dirty (λ k. not (is_closed_at (reading unit) sectors k) && not (eqb k place) && not (is_blank_at (reading unit) sectors k)) sectors) (fence_row place)

  shift : first_damage (reading unit) sectors ≡ cond (list_all (is_closed_at (reading unit) sectors) (places sectors)) (Some (record { sector = 0; why = AllClosed })) (option_or (option_map (λ (p : ℕ). record { sector = p; why = TwoOpen }) (slice_get (openings (reading unit) sectors) 1)) (dirty_row current))
  unfolding first_damage
  shift = ap (λ (place : ℕ). cond (list_all (is_closed_at (reading unit) sectors) (places sectors)) (Some (record { sector = 0; why = AllClosed })) (option_or (option_map (λ (p : ℕ). record { sector = p; why = TwoOpen }) (slice_get (openings (reading unit) sectors) 1)) (dirty_row place))) (sym open-is)

  pub all_closed : None ≡ find (is_match lookup.NotClosed unit sectors) (range_with_len 0 count) → Some (record { sector = 0; why = AllClosed }) ≡ damage_of unit sectors
  all_closed none =
      sym (shift ∙ ap (λ (t : Bool). cond t (Some (record { sector = 0; why = AllClosed })) (option_or (option_map (λ (p : ℕ). record { sector = p; why = TwoOpen }) (slice_get (openings (reading unit) sectors) 1)) (dirty_row current)))
      (all-found (is_closed_at (reading unit) sectors) (places sectors) (first_of unit sectors count lookup.NotClosed None long none)))

  -- some sector is not closed
  module _ (some : ℕ) (is_open : Some some ≡ find (is_match lookup.NotClosed unit sectors) (range_with_len 0 count)) where
    after_closed : first_damage (reading unit) sectors ≡ option_or (option_map (λ (p : ℕ). record { sector = p; why = TwoOpen }) (slice_get (openings (reading unit) sectors) 1)) (dirty_row current)
    after_closed =
        shift ∙ ap (λ (t : Bool). cond t (Some (record { sector = 0; why = AllClosed })) (option_or (option_map (λ (p : ℕ). record { sector = p; why = TwoOpen }) (slice_get (openings (reading unit) sectors) 1)) (dirty_row current)))
        (not_all-found (is_closed_at (reading unit) sectors) (places sectors) some (first_of unit sectors count lookup.NotClosed (Some some) long is_open))

    pub two_open : (place : ℕ) → Some place ≡ slice_get (openings (reading unit) sectors) 1 → Some (record { sector = place; why = TwoOpen }) ≡ damage_of unit sectors
    two_open place is = sym (after_closed ∙ ap (λ (o : Option ℕ). option_or (option_map (λ (p : ℕ). record { sector = p; why = TwoOpen }) o) (dirty_row current)) (sym is))

    -- the last three rows
    module _ (one : slice_get (openings (reading unit) sectors) 1 ≡ None) where
      after_openings : first_damage (reading unit) sectors ≡ dirty_row current
      after_openings = after_closed ∙ ap (λ (o : Option ℕ). option_or (option_map (λ (p : ℕ). record { sector = p; why = TwoOpen }) o) (dirty_row current)) one

      pub dirty : (place : ℕ) → Some place ≡ find (is_match (lookup.Dirty current) unit sectors) (range_with_len 0 count) → Some (record { sector = place; why = Dirty }) ≡ damage_of unit sectors
      dirty place is =
          sym (after_openings ∙ ap (λ (o : Option ℕ). option_or (option_map (λ (p : ℕ). record { sector = p; why = Dirty }) o) (fence_row current)) (first_of unit sectors count (lookup.Dirty current) (Some place) long is))

      module _ (clean : None ≡ find (is_match (lookup.Dirty current) unit sectors) (range_with_len 0 count)) where
        after_dirty : first_damage (reading unit) sectors ≡ fence_row current
        after_dirty = after_openings ∙ ap (λ (o : Option ℕ). option_or (option_map (λ (p : ℕ). record { sector = p; why = Dirty }) o) (fence_row current)) (first_of unit sectors count (lookup.Dirty current) None long clean)

        pub unfenced : (place : ℕ) → Some place ≡ find (is_match (lookup.Unfenced current) unit sectors) (range_with_len 0 count) → Some (record { sector = place; why = NoFence }) ≡ damage_of unit sectors
        unfenced place is =
            sym (after_dirty ∙ ap (λ (o : Option ℕ). option_or (option_map (λ (p : ℕ). record { sector = p; why = NoFence }) o) (overfull_row current)) (first_of unit sectors count (lookup.Unfenced current) (Some place) long is))

        pub full : (o : Option ℕ) → None ≡ find (is_match (lookup.Unfenced current) unit sectors) (range_with_len 0 count) → o ≡ find (is_match (lookup.Full current) unit sectors) (range_with_len 0 count) → option_map (λ (p : ℕ). record { sector = p; why = Overfull }) o ≡ damage_of unit sectors
        full o fenced is =
            sym (after_dirty ∙ ap (λ (o : Option ℕ). option_or (option_map (λ (p : ℕ). record { sector = p; why = NoFence }) o) (overfull_row current)) (first_of unit sectors count (lookup.Unfenced current) None long fenced)
            ∙ ap (option_map (λ (p : ℕ). record { sector = p; why = Overfull })) (first_of unit sectors count (lookup.Full current) o long is))

-- ---- the open sector

-- In an area that is not damaged it is not closed.
pub open_not_closed : (unit : ℕ) (sectors : List (List ℕ)) → 2 ≤ length sectors → damage_of unit sectors ≡ None → is_closed_at (reading unit) sectors (open_sector (reading unit) sectors) ≡ false
open_not_closed unit sectors several none =
    let place = open_sector (reading unit) sectors in
    elim (form-of (reading unit) sectors several none) [
      | inl rest ↦ open-not_closed (reading unit) sectors place rest.blanks rest.ring
      | inr (inl collecting) ↦ open-not_closed (reading unit) sectors place 0 collecting.ring
      | inr (inr collected) ↦ open-not_closed (reading unit) sectors place 0 collected.ring
    ]
