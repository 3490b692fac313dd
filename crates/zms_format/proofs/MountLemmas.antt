-- What the code reads from sector to sector is what the definitions on the area say.
use Rattle.std.proofs.Common.{◌≡◌, ℕ, Bool, true, false, not, ◌&&◌, ◌||◌, cond, eqb, List, length, Option, Some, None, refl, sym, ap, ◌∙◌}
use Rattle.std.specs.List.{find, list_all, range_with_len}
use Rattle.std.specs.Option.{option_map, option_or}
use Rattle.std.specs.Prelude.{unwrap_or}
use Rattle.flash_map.specs.declared.faults.Damaged.{Damaged}
use Rattle.flash_map.specs.declared.faults.Why.TheVariants.{AllClosed, TwoOpen, Dirty, Overfull}
use Rattle.flash_sim.specs.declared.flash.Kind.{Kind}
use Rattle.flash_map.specs.Area.{sector_at}
use Rattle.item_laws.specs.Area.{next, previous, places, is_closed_at, is_blank_at, follows_closed, counts_at, first_of_kind}
pub use Rattle.item_laws.proofs.AreaReads.{length-sectors, next_there, previous_there}
use Rattle.item_laws.proofs.AreaReads as reads
use Rattle.item_laws.proofs.Searches.{all-found, not_all-found}
use Rattle.zms_cycle.specs.Sector.{has_gc_done, has_guard, holds_too_much}
use Rattle.zms_format.specs.declared.places.Lookup.{Lookup}
use Rattle.zms_format.specs.declared.places.Lookup.TheVariants as lookup
use Rattle.zms_format.specs.Area.{is_begun, plain, open_place, damage_of, is_second_open, is_dirty_at, is_overfull_at}
use Rattle.zms_format.specs.Lookup.{is_match}
use Rattle.zms_format.proofs.Sectors.{unused-is}

pub counts_closed : (sectors : List (List ℕ)) (place k ignored : ℕ) (done : Bool) → is_closed_at plain sectors (next sectors place) ≡ true → has_gc_done (sector_at sectors place) ≡ done → ignored ≡ cond done (next sectors place) place
    → not (eqb k ignored) ≡ counts_at plain sectors place k
counts_closed sectors place k ignored done c d is = reads.counts_closed plain sectors place k ignored done c d is

pub counts_open : (sectors : List (List ℕ)) (place k : ℕ) → is_closed_at plain sectors (next sectors place) ≡ false → true ≡ counts_at plain sectors place k
counts_open sectors place k c = reads.counts_open plain sectors place k c

-- What one sector is, row by row.

pub full_unused : (sectors : List (List ℕ)) (current place : ℕ) (begun closed used : Bool) → used ≡ (begun || closed) → begun ≡ is_begun (sector_at sectors place) → closed ≡ is_closed_at plain sectors place → used ≡ false → false ≡ is_overfull_at sectors current place
full_unused sectors current place begun closed used is b c none =
    let blank : not (is_blank_at plain sectors place) ≡ false = sym (unused-is (sector_at sectors place)) ∙ sym (ap (λ (t : Bool). t || is_closed_at plain sectors place) b) ∙ sym (ap (λ (t : Bool). begun || t) c) ∙ sym is ∙ none in
    sym (ap (λ (t : Bool). (counts_at plain sectors current place && t) && (not (has_guard (sector_at sectors place)) || holds_too_much (sector_at sectors place))) blank ∙ no_use (counts_at plain sectors current place) (not (has_guard (sector_at sectors place)) || holds_too_much (sector_at sectors place)))
  where
    no_use : (x y : Bool) → ((x && false) && y) ≡ false
    no_use true y = refl
    no_use false y = refl

in_use : (sectors : List (List ℕ)) (place : ℕ) (begun closed used : Bool) → used ≡ (begun || closed) → begun ≡ is_begun (sector_at sectors place) → closed ≡ is_closed_at plain sectors place → used ≡ true → not (is_blank_at plain sectors place) ≡ true
in_use sectors place begun closed used is b c some = sym (unused-is (sector_at sectors place)) ∙ sym (ap (λ (t : Bool). t || is_closed_at plain sectors place) b) ∙ sym (ap (λ (t : Bool). begun || t) c) ∙ sym is ∙ some

pub full_passed : (sectors : List (List ℕ)) (current place : ℕ) → counts_at plain sectors current place ≡ false → false ≡ is_overfull_at sectors current place
full_passed sectors current place none = sym (ap (λ (t : Bool). (t && not (is_blank_at plain sectors place)) && (not (has_guard (sector_at sectors place)) || holds_too_much (sector_at sectors place))) none)

pub full_counts : (sectors : List (List ℕ)) (current place : ℕ) (begun closed used : Bool) → used ≡ (begun || closed) → begun ≡ is_begun (sector_at sectors place) → closed ≡ is_closed_at plain sectors place → used ≡ true → counts_at plain sectors current place ≡ true
    → (guard full : Bool) → has_guard (sector_at sectors place) ≡ guard → holds_too_much (sector_at sectors place) ≡ full → (not guard || full) ≡ is_overfull_at sectors current place
full_counts sectors current place begun closed used is b c some counts guard full g f =
    sym (ap (λ (t : Bool). (t && not (is_blank_at plain sectors place)) && (not (has_guard (sector_at sectors place)) || holds_too_much (sector_at sectors place))) counts
    ∙ ap (λ (t : Bool). t && (not (has_guard (sector_at sectors place)) || holds_too_much (sector_at sectors place))) (in_use sectors place begun closed used is b c some)
    ∙ ap (λ (t : Bool). not t || holds_too_much (sector_at sectors place)) g ∙ ap (λ (t : Bool). not guard || t) f)

pub second_is : (sectors : List (List ℕ)) (current place : ℕ) (closed same begun before_closed : Bool) → is_closed_at plain sectors place ≡ closed → eqb place current ≡ same → is_begun (sector_at sectors place) ≡ begun → is_closed_at plain sectors (previous sectors place) ≡ before_closed
    → (not closed && (not same && (begun || before_closed))) ≡ is_second_open sectors current place
second_is sectors current place closed same begun before_closed c s b p =
    sym (ap (λ (t : Bool). not t && (not (eqb place current) && (is_begun (sector_at sectors place) || is_closed_at plain sectors (previous sectors place)))) c
    ∙ ap (λ (t : Bool). not closed && (not t && (is_begun (sector_at sectors place) || is_closed_at plain sectors (previous sectors place)))) s
    ∙ ap (λ (t : Bool). not closed && (not same && (t || is_closed_at plain sectors (previous sectors place)))) b
    ∙ ap (λ (t : Bool). not closed && (not same && (begun || t))) p)

pub opening_is : (sectors : List (List ℕ)) (place : ℕ) (closed before_closed : Bool) → is_closed_at plain sectors place ≡ closed → is_closed_at plain sectors (previous sectors place) ≡ before_closed → (not closed && before_closed) ≡ follows_closed plain sectors place
opening_is sectors place closed before_closed c p = sym (ap (λ (t : Bool). not t && is_closed_at plain sectors (previous sectors place)) c ∙ ap (λ (t : Bool). not closed && t) p)

-- the open sector

pub open-opening : (kind : Kind) (sectors : List (List ℕ)) (count place : ℕ) → count ≡ length sectors → Some place ≡ find (is_match lookup.Opening kind sectors) (range_with_len 0 count) → place ≡ open_place sectors
open-opening kind sectors count place long some = reads.open-opening plain sectors count place long some

pub open-blank : (kind : Kind) (sectors : List (List ℕ)) (count : ℕ) (o : Option ℕ) → count ≡ length sectors → None ≡ find (is_match lookup.Opening kind sectors) (range_with_len 0 count) → o ≡ find (is_match lookup.InUse kind sectors) (range_with_len 0 count)
    → unwrap_or o 0 ≡ open_place sectors
open-blank kind sectors count o long none found = reads.open-blank plain sectors count o long none found

-- the damage, row by row

-- the sectors from the first on
first_of : (kind : Kind) (sectors : List (List ℕ)) (count : ℕ) (what : Lookup) (o : Option ℕ) → count ≡ length sectors → o ≡ find (is_match what kind sectors) (range_with_len 0 count) → find (is_match what kind sectors) (places sectors) ≡ o
first_of kind sectors count what o long is = sym (is ∙ ap (λ (n : ℕ). find (is_match what kind sectors) (range_with_len 0 n)) long)

module _ (kind : Kind) (sectors : List (List ℕ)) (count current : ℕ) (long : count ≡ length sectors) (open-is : current ≡ open_place sectors) where
  rows : ℕ → Bool → Option Damaged
  rows place all = cond all (Some (record { sector = 0; why = AllClosed }))
      (option_or (first_of_kind TwoOpen (is_second_open sectors place) sectors) (option_or (first_of_kind Dirty (is_dirty_at kind sectors place) sectors) (first_of_kind Overfull (is_overfull_at sectors place) sectors)))

  shift : damage_of kind sectors ≡ rows current (list_all (is_closed_at plain sectors) (places sectors))
  unfolding damage_of rows
  shift = ap (λ (place : ℕ). rows place (list_all (is_closed_at plain sectors) (places sectors))) (sym open-is)

  pub all_closed : None ≡ find (is_match lookup.NotClosed kind sectors) (range_with_len 0 count) → Some (record { sector = 0; why = AllClosed }) ≡ damage_of kind sectors
  unfolding rows
  all_closed none = sym (shift ∙ ap (rows current) (all-found (is_closed_at plain sectors) (places sectors) (first_of kind sectors count lookup.NotClosed None long none)))

  -- some sector is not closed
  module _ (some : ℕ) (is_open : Some some ≡ find (is_match lookup.NotClosed kind sectors) (range_with_len 0 count)) where
    later : Option Damaged
    later = option_or (first_of_kind Dirty (is_dirty_at kind sectors current) sectors) (first_of_kind Overfull (is_overfull_at sectors current) sectors)

    after_closed : damage_of kind sectors ≡ option_or (first_of_kind TwoOpen (is_second_open sectors current) sectors) later
    unfolding rows later
    after_closed = shift ∙ ap (rows current) (not_all-found (is_closed_at plain sectors) (places sectors) some (first_of kind sectors count lookup.NotClosed (Some some) long is_open))

    pub two_open : (place : ℕ) → Some place ≡ find (is_match (lookup.SecondOpen current) kind sectors) (range_with_len 0 count) → Some (record { sector = place; why = TwoOpen }) ≡ damage_of kind sectors
    two_open place is =
        sym (after_closed ∙ ap (λ (o : Option ℕ). option_or (option_map (λ (p : ℕ). record { sector = p; why = TwoOpen }) o) later) (first_of kind sectors count (lookup.SecondOpen current) (Some place) long is))

    -- no second one is open
    module _ (one : None ≡ find (is_match (lookup.SecondOpen current) kind sectors) (range_with_len 0 count)) where
      after_open : damage_of kind sectors ≡ option_or (first_of_kind Dirty (is_dirty_at kind sectors current) sectors) (first_of_kind Overfull (is_overfull_at sectors current) sectors)
      unfolding later
      after_open = after_closed ∙ ap (λ (o : Option ℕ). option_or (option_map (λ (p : ℕ). record { sector = p; why = TwoOpen }) o) later) (first_of kind sectors count (lookup.SecondOpen current) None long one)

      pub dirty : (place : ℕ) → Some place ≡ find (is_match (lookup.NotClosable current) kind sectors) (range_with_len 0 count) → Some (record { sector = place; why = Dirty }) ≡ damage_of kind sectors
      dirty place is =
          sym (after_open ∙ ap (λ (o : Option ℕ). option_or (option_map (λ (p : ℕ). record { sector = p; why = Dirty }) o) (first_of_kind Overfull (is_overfull_at sectors current) sectors)) (first_of kind sectors count (lookup.NotClosable current) (Some place) long is))

      pub full : (o : Option ℕ) → None ≡ find (is_match (lookup.NotClosable current) kind sectors) (range_with_len 0 count) → o ≡ find (is_match (lookup.Full current) kind sectors) (range_with_len 0 count) → option_map (λ (p : ℕ). record { sector = p; why = Overfull }) o ≡ damage_of kind sectors
      full o clean is =
          sym (after_open ∙ ap (λ (o : Option ℕ). option_or (option_map (λ (p : ℕ). record { sector = p; why = Dirty }) o) (first_of_kind Overfull (is_overfull_at sectors current) sectors)) (first_of kind sectors count (lookup.NotClosable current) None long clean)
          ∙ ap (option_map (λ (p : ℕ). record { sector = p; why = Overfull })) (first_of kind sectors count (lookup.Full current) o long is))
