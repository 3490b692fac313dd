-- What a table of last entries says of the items of an area on which a store stands.
use Rattle.std.proofs.Common.{◌≡◌, ℕ, ◌<◌, Bool, cond, eqb, List, Option, Some, None, refl, sym, ap, subst, ◌∙◌, inl, inr, arith}
use Rattle.std.specs.Prelude.{IfSome}
use Rattle.std.specs.FinMap.{get}
use Rattle.std.specs.Option.{option_and_then}
use Rattle.std.proofs.lemmas.Bool.{cases_eq, eq-eqb, ne_eqb}
use Rattle.flash_sim.specs.Bank.{IsLawful}
use Rattle.flash_sim.specs.Device.{Device}
use Rattle.flash_map.specs.declared.area.Role.{Role}
use Rattle.flash_map.specs.declared.area.Geometry.{Geometry}
use Rattle.flash_map.specs.Area.{geometry_of, sectors_of}
use Rattle.item_laws.specs.Items.{value_of}
use Rattle.item_laws.specs.Live.{last_placed, bytes_of}
use Rattle.item_laws.specs.NextIds.{IsNextId}
use Rattle.item_laws.proofs.LiveLemmas.{some_none}
use Rattle.item_laws.proofs.Newest.{last-all}
use Rattle.item_store.specs.declared.entry.Placed.{Placed}
use Rattle.item_store.specs.declared.latest.LastSlots.{LastSlots}
use Rattle.item_store.specs.declared.store.Store.{Store}
use Rattle.item_store.specs.SectorFormat.{SectorFormat, IsSectorFormat, slots}
use Rattle.item_store.specs.Latest.{last_of_id, with_bytes, IsKnown, IsNextIn, KnowsOn}
use Rattle.item_store.specs.Listed.{IsPlaced, items_on, entries_on}
use Rattle.item_store.specs.Stands.{StandsOn}
use Rattle.item_store.proofs.LastTables.{covered-less}
use Rattle.item_store.proofs.ReadFacts.{last_placed_on, value_by, value_none, value_some}
use Rattle.item_store.proofs.TablePlaces.{held-entry}

module _ {T : Type 0} (role : Role) (format_of : Geometry → SectorFormat) (kept : Geometry → List ℕ → T) (d : Device) (store : Store T) (law : IsSectorFormat (format_of (geometry_of d store.area))) (lawful : IsLawful d.banks d.bytes) (on : StandsOn role format_of kept d store) (last : LastSlots) (knows : KnowsOn format_of d store.area last) where
  abbrev k : SectorFormat
  k = format_of (geometry_of d store.area)

  abbrev here : List (List ℕ)
  here = sectors_of d store.area

  abbrev value : Placed → Option (List ℕ)
  value p = value_of (bytes_of (slots (format_of (geometry_of d store.area))) (sectors_of d store.area) p)

  held-value : (o : Option Placed) → IfSome o (IsPlaced k here store.current) → option_and_then value (with_bytes o) ≡ option_and_then value o
  held-value None placed = refl
  held-value (Some p) placed =
      elim (cases_eq p.len 0) [
        | inl none ↦ ap (λ (t : Bool). option_and_then value (cond t None (Some p))) (eq-eqb p.len 0 none) ∙ sym (value_none role format_of kept d store law lawful on p placed none)
        | inr some ↦ ap (λ (t : Bool). option_and_then value (cond t None (Some p))) (ne_eqb p.len 0 some)
      ]

  -- the item of an id that the table knows
  pub covered-value : (id : ℕ) → IsKnown last.bound id
      → get (items_on format_of d store.area) id ≡ option_and_then (λ p. value_of (bytes_of (slots (format_of (geometry_of d store.area))) (sectors_of d store.area) p)) (last_of_id id last.entries.items)
  covered-value id covered =
      value_by role format_of kept d store law lawful on (last_placed (slots k) here id) id refl
      ∙ sym (ap (option_and_then value) (knows.below.covered id covered) ∙ held-value (last_placed (slots k) here id) (last_placed_on role format_of kept d store law lawful on (last_placed (slots k) here id) id refl))

  -- an entry of the table is the last one of its id
  module _ (p : Placed) (id : ℕ) (covered : IsKnown last.bound id) (is : last_of_id id last.entries.items ≡ Some p) where
    own-last : (last_placed (slots (format_of (geometry_of d store.area))) (sectors_of d store.area) id ≡ Some p) × (p.len ≡ 0 → ⊥)
    own-last = held-entry (last_placed (slots k) here id) p (sym (knows.below.covered id covered) ∙ is)

    pub covered-placed : IsPlaced (format_of (geometry_of d store.area)) (sectors_of d store.area) store.current p
    covered-placed = last_placed_on role format_of kept d store law lawful on (Some p) id (sym own-last.0)

    covered-some : get (items_on format_of d store.area) id ≡ None → ⊥
    covered-some none =
        some_none (bytes_of (slots k) here p)
        (sym (value_some role format_of kept d store law lawful on p covered-placed own-last.1) ∙ sym (covered-value id covered ∙ ap (option_and_then value) is) ∙ none)

    covered-known : p.id < (format_of (geometry_of d store.area)).ids
    covered-known =
        subst (λ (o : Option Placed). IfSome o (λ q. q.id < k.ids)) own-last.0
        (last-all (λ (q : Placed). eqb q.id id) (λ q. q.id < k.ids) (entries_on format_of d store.area) None tt knows.below.known)

  own-covered : (p : Placed) → last_of_id p.id last.entries.items ≡ Some p → IsKnown last.bound p.id
  own-covered p is =
      subst (λ (o : Option Placed). IfSome o (λ q. IsKnown last.bound q.id)) is
      (last-all (λ (q : Placed). eqb q.id p.id) (λ q. IsKnown last.bound q.id) last.entries.items None tt knows.below.within)

  -- ---- the next id with a value

  module _ (after : Option ℕ) where
    pub next-some : (p : Placed) → IsNextIn after last.entries.items (Some p) → IsNextId (items_on format_of d store.area) after (Some p.id)
    next-some p next = (
      next.0,
      covered-some p p.id (own-covered p next.1) next.1,
      λ id behind less.
          covered-value id (covered-less last.bound id p.id (omega arith) (own-covered p next.1)) ∙ ap (option_and_then value) (next.2 id behind less),
    )

    pub next-known : (p : Placed) → IsNextIn after last.entries.items (Some p) → p.id < (format_of (geometry_of d store.area)).ids
    next-known p next = covered-known p p.id (own-covered p next.1) next.1

    pub next-none : last.bound ≡ None → IsNextIn after last.entries.items None → IsNextId (items_on format_of d store.area) after None
    next-none all next = λ id behind. covered-value id (subst (λ (b : Option ℕ). IsKnown b id) (sym all) tt) ∙ ap (option_and_then value) (next id behind)

    -- an id that was found behind all of the table's is one that it does not know
    pub next-ungiven : (next : Option ℕ) → IsNextIn after last.entries.items None → IsNextId (items_on format_of d store.area) after next → IfSome next (λ id. IsKnown last.bound id → ⊥)
    next-ungiven None none is = tt
    next-ungiven (Some id) none is = λ covered. is.1 (covered-value id covered ∙ ap (option_and_then value) (none id is.0))
