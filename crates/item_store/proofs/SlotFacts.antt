-- One slot of the victim, in the words of the code.
use Rattle.std.proofs.Common.{◌≡◌, ℕ, ◌+◌, ◌-◌, ◌*◌, ◌^◌, ◌<◌, ◌≤◌, Bool, true, false, Option, List, [], ◌∷◌, length, sym, ap, subst, ◌∙◌, arith}
use Rattle.std.specs.Prelude.{is_some}
use Rattle.flash_sim.specs.Bank.{IsLawful}
use Rattle.flash_sim.specs.Device.{Device}
use Rattle.flash_map.specs.declared.area.Area.{Area}
use Rattle.flash_map.specs.declared.area.Geometry.{Geometry}
use Rattle.flash_map.specs.declared.area.Role.{Role}
use Rattle.flash_map.specs.Area.{geometry_of, sector_at, sectors_of, ChangesOnly}
use Rattle.flash_map.specs.Touches.{Touches}
use Rattle.item_laws.specs.Area.{next, open_sector, is_closed_at}
use Rattle.item_laws.specs.Forms.{Collecting, to_copy}
use Rattle.item_laws.specs.Reading.{is_sound}
use Rattle.item_laws.proofs.AreaReads.{length-sectors}
use Rattle.item_laws.proofs.Places.{after-within, after-apart}
use Rattle.item_laws.specs.Live.{live_in, cost_of}
use Rattle.item_store.specs.declared.entry.Placed.{Placed}
use Rattle.item_store.specs.SectorFormat.{Range, SectorFormat, IsSectorFormat, slots}
use Rattle.item_store.specs.Seen.{holds_live}
use Rattle.item_store.specs.Steps.{KeepsMarks}
use Rattle.item_store.specs.Spending.{copies}
use Rattle.item_store.specs.Standing.{IsStoreArea, SpendsIn, SpendsUpTo}
use Rattle.item_store.specs.Collecting.{StopsCopying, CopiesOne, copy_units}
use Rattle.item_store.proofs.Areas.{same_geometry, size_there, large_there}
use Rattle.item_store.proofs.CopyLoop.{IsCopying, open_there, closed_there, ring_there, victim_there, live_there, room_there, copying_more, copying_lost, copying_most}

pub current_within : (a : Device) (area : Area) (place : ℕ) → place < length (sectors_of a area) → place < area.sectors
current_within a area place within = omega (arith, length-sectors a area)

pub next_within : (a : Device) (area : Area) (place : ℕ) → place < length (sectors_of a area) → next (sectors_of a area) place < area.sectors
next_within a area place within = let next_in = after-within (length (sectors_of a area)) place within in omega (arith, length-sectors a area)

-- ---- the numbers of slots

pub none_yet : (first : ℕ) → first - first ≡ 0
none_yet first = omega arith

pub back_at : (own first slot : ℕ) → first ≡ own → first ≤ slot → own + (slot - first) ≡ slot
back_at own first slot is from = omega (arith, is, from)

pub slot_in : (first slot count : ℕ) → first ≤ slot → slot < first + count → slot - first < count
slot_in first slot count from more = omega (arith, from, more)

pub below_few : (first slot count : ℕ) → first ≤ slot → slot < first + count → count ≤ 2 ^ 15 → slot - first < 2 ^ 15
below_few first slot count from more few = omega (arith, from, more, few)

module _ (format_of : Geometry → SectorFormat) (role : Role) (a d : Device) (area : Area) (place victim first slot : ℕ) (law : IsSectorFormat (format_of (geometry_of a area))) (lawful : IsLawful a.banks a.bytes) (is : IsStoreArea role a.banks area) (form : Collecting (format_of (geometry_of a area)).reading (sectors_of a area) place) (at : victim ≡ next (sectors_of a area) place)
    (first_is : first ≡ (format_of (geometry_of a area)).first) (from : first ≤ slot) (so_far : IsCopying (format_of (geometry_of a area)) a d area place (slot - first)) where
  abbrev k : SectorFormat
  k = format_of (geometry_of a area)

  abbrev old : List (List ℕ)
  old = sectors_of a area

  abbrev n : ℕ
  n = slot - first

  geometry : geometry_of d area ≡ geometry_of a area
  geometry = same_geometry a d area so_far.touches.banks

  pub large : 512 ≤ length (sector_at (sectors_of a area) (next (sectors_of a area) place))
  large = large_there role a area lawful is (next old place) (next_within a area place form.ring.within)

  pub same_long : length (sector_at (sectors_of a area) (next (sectors_of a area) place)) ≡ length (sector_at (sectors_of a area) place)
  same_long = size_there role a area lawful is (next old place) (next_within a area place form.ring.within) ∙ sym (size_there role a area lawful is place (current_within a area place form.ring.within))

  back : n + k.first ≡ slot
  back = omega arith

  listed : slot < first + k.count (sector_at old (next old place)) → n < k.count (sector_at old (next old place))
  listed more = omega arith

  pub inside : victim < area.sectors
  inside = let within = next_within a area place form.ring.within in omega arith

  pub apart : victim ≡ place → ⊥
  apart e = after-apart (length old) place form.ring.within form.ring.several (sym at ∙ e)

  pub opens : place ≡ open_sector (format_of (geometry_of d area)).reading (sectors_of d area)
  opens = subst (λ (u : Geometry). place ≡ open_sector (format_of u).reading (sectors_of d area)) (sym geometry) (open_there k law a d area place n form large same_long so_far)

  pub closed : is_closed_at (format_of (geometry_of d area)).reading (sectors_of d area) (next (sectors_of d area) place) ≡ true
  closed = subst (λ (u : Geometry). is_closed_at (format_of u).reading (sectors_of d area) (next (sectors_of d area) place) ≡ true) (sym geometry) (closed_there k law a d area place n form large same_long so_far)

  pub ready : (format_of (geometry_of d area)).is_ready (sector_at (sectors_of d area) place) ≡ true
  ready = subst (λ (u : Geometry). (format_of u).is_ready (sector_at (sectors_of d area) place) ≡ true) (sym geometry) so_far.has.ready

  pub not_done : (format_of (geometry_of d area)).reading.has_gc_done (sector_at (sectors_of d area) place) ≡ false
  not_done = subst (λ (u : Geometry). (format_of u).reading.has_gc_done (sector_at (sectors_of d area) place) ≡ false) (sym geometry) so_far.has.gc_done

  pub source : is_sound (format_of (geometry_of d area)).reading (sector_at (sectors_of d area) victim) ≡ true
  source =
      subst (λ (v : ℕ). is_sound (format_of (geometry_of d area)).reading (sector_at (sectors_of d area) v) ≡ true) (sym at)
      (subst (λ (u : Geometry). is_sound (format_of u).reading (sector_at (sectors_of d area) (next old place)) ≡ true) (sym geometry) (ring_there k law a d area place n form large same_long so_far))

  pub within : (format_of (geometry_of d area)).within (sector_at (sectors_of d area) victim) ≡ true
  within =
      let there = victim_there k law a d area place n form large same_long so_far in
      let own = law.sound (sector_at old (next old place)) large (ap (λ (b : List ℕ). is_sound k.reading b) (sym there) ∙ ring_there k law a d area place n form large same_long so_far) in
      subst (λ (v : ℕ). (format_of (geometry_of d area)).within (sector_at (sectors_of d area) v) ≡ true) (sym at)
      (subst (λ (u : Geometry). (format_of u).within (sector_at (sectors_of d area) (next old place)) ≡ true) (sym geometry) (ap k.within there ∙ own))

  pub listed_there : slot < first + k.count (sector_at (sectors_of a area) (next (sectors_of a area) place)) → ((format_of (geometry_of d area)).first ≤ slot) × (slot < (format_of (geometry_of d area)).first + (format_of (geometry_of d area)).count (sector_at (sectors_of d area) victim))
  listed_there more =
      let there = victim_there k law a d area place n form large same_long so_far in
      let same : k.count (sector_at (sectors_of d area) (next old place)) ≡ k.count (sector_at old (next old place)) = ap k.count there in
      let low : k.first ≤ slot = omega arith in
      let high : slot < k.first + k.count (sector_at (sectors_of d area) (next old place)) = omega arith in
      subst (λ (v : ℕ). ((format_of (geometry_of d area)).first ≤ slot) × (slot < (format_of (geometry_of d area)).first + (format_of (geometry_of d area)).count (sector_at (sectors_of d area) v))) (sym at)
      (subst (λ (u : Geometry). ((format_of u).first ≤ slot) × (slot < (format_of u).first + (format_of u).count (sector_at (sectors_of d area) (next old place)))) (sym geometry) (low, high))

  pub room : slot < first + k.count (sector_at (sectors_of a area) (next (sectors_of a area) place))
      → cost_of (slots (format_of (geometry_of d area))) (live_in (slots (format_of (geometry_of d area))) (sectors_of d area) victim slot) + 3 * (format_of (geometry_of d area)).slot ≤ (format_of (geometry_of d area)).free (sector_at (sectors_of d area) place)
  room more =
      let there = room_there k law a d area place n form large same_long so_far (listed more) in
      subst (λ (u : Geometry). cost_of (slots (format_of u)) (live_in (slots (format_of u)) (sectors_of d area) victim slot) + 3 * (format_of u).slot ≤ (format_of u).free (sector_at (sectors_of d area) place)) (sym geometry)
      (subst (λ (v : ℕ). cost_of (slots k) (live_in (slots k) (sectors_of d area) v slot) + 3 * k.slot ≤ k.free (sector_at (sectors_of d area) place)) (sym at)
      (subst (λ (s : ℕ). cost_of (slots k) (live_in (slots k) (sectors_of d area) (next old place) s) + 3 * k.slot ≤ k.free (sector_at (sectors_of d area) place)) back there))

  one_at : (e : Device) → CopiesOne (format_of (geometry_of d area)) (sectors_of d area) (sectors_of e area) place (live_in (slots (format_of (geometry_of d area))) (sectors_of d area) victim slot) → CopiesOne k (sectors_of d area) (sectors_of e area) place (live_in (slots k) (sectors_of d area) (next old place) (n + k.first))
  one_at e one =
      subst (λ (s : ℕ). CopiesOne k (sectors_of d area) (sectors_of e area) place (live_in (slots k) (sectors_of d area) (next old place) s)) (sym back)
      (subst (λ (v : ℕ). CopiesOne k (sectors_of d area) (sectors_of e area) place (live_in (slots k) (sectors_of d area) v slot)) at
      (subst (λ (u : Geometry). CopiesOne (format_of u) (sectors_of d area) (sectors_of e area) place (live_in (slots (format_of u)) (sectors_of d area) victim slot)) geometry one))

  units_at : copy_units (format_of (geometry_of d area)) (live_in (slots (format_of (geometry_of d area))) (sectors_of d area) victim slot) ≡ copy_units k (live_in (slots k) (sectors_of d area) (next old place) (n + k.first))
  units_at =
      ap (λ (u : Geometry). copy_units (format_of u) (live_in (slots (format_of u)) (sectors_of d area) victim slot)) geometry
      ∙ ap (λ (v : ℕ). copy_units k (live_in (slots k) (sectors_of d area) v slot)) at
      ∙ ap (λ (s : ℕ). copy_units k (live_in (slots k) (sectors_of d area) (next old place) s)) (sym back)

  pub one_more : (e : Device) → slot < first + k.count (sector_at (sectors_of a area) (next (sectors_of a area) place)) → Touches (area ∷ []) d e false → CopiesOne (format_of (geometry_of d area)) (sectors_of d area) (sectors_of e area) place (live_in (slots (format_of (geometry_of d area))) (sectors_of d area) victim slot)
      → SpendsIn d e (copy_units (format_of (geometry_of d area)) (live_in (slots (format_of (geometry_of d area))) (sectors_of d area) victim slot)) → IsCopying (format_of (geometry_of a area)) a e area place (slot + 1 - first)
  one_more e more touches one spent =
      let m : n + 1 ≡ slot + 1 - first = omega arith in
      subst (λ (m : ℕ). IsCopying k a e area place m) m
      (copying_more k law a d area place n form large same_long so_far e (listed more) touches (one_at e one) (subst (λ (r : Range). SpendsIn d e r) units_at spent))

  pub one_lost : (e : Device) → ChangesOnly (sectors_of d area) (sectors_of e area) place → KeepsMarks (format_of (geometry_of d area)) (sector_at (sectors_of d area) place) (sector_at (sectors_of e area) place) → StopsCopying (format_of (geometry_of a area)) (sectors_of a area) (sectors_of e area) place
  one_lost e only keeps = copying_lost k law a d area place n form large same_long so_far e only (subst (λ (u : Geometry). KeepsMarks (format_of u) (sector_at (sectors_of d area) place) (sector_at (sectors_of e area) place)) geometry keeps)

  pub one_most : (e : Device) → slot < first + k.count (sector_at (sectors_of a area) (next (sectors_of a area) place)) → SpendsUpTo d e (copy_units (format_of (geometry_of d area)) (live_in (slots (format_of (geometry_of d area))) (sectors_of d area) victim slot))
      → SpendsUpTo a e (copies (format_of (geometry_of a area)) (to_copy (format_of (geometry_of a area)).reading (sectors_of a area) place))
  one_most e more spends = copying_most k law a d area place n form large same_long so_far e (listed more) (subst (λ (r : Range). SpendsUpTo d e r) units_at spends)

  pub kept_there : {S : Type 0} (kept : Geometry → List ℕ → S) (s : S) → s ≡ kept (geometry_of a area) (sector_at (sectors_of d area) place) → s ≡ kept (geometry_of d area) (sector_at (sectors_of d area) place)
  kept_there kept s same = same ∙ ap (λ (u : Geometry). kept u (sector_at (sectors_of d area) place)) (sym geometry)

  pub kept_after : {S : Type 0} (kept : Geometry → List ℕ → S) (s : S) (e : Device) → s ≡ kept (geometry_of d area) (sector_at (sectors_of e area) place) → s ≡ kept (geometry_of a area) (sector_at (sectors_of e area) place)
  kept_after kept s e same = same ∙ ap (λ (u : Geometry). kept u (sector_at (sectors_of e area) place)) geometry

  -- what was live before the copies is so still
  pub live_flag : (t : Bool) → t ≡ holds_live (format_of (geometry_of a area)) (sectors_of a area) victim slot → t ≡ holds_live (format_of (geometry_of d area)) (sectors_of d area) victim slot
  live_flag t before =
      before
      ∙ ap (λ (v : ℕ). holds_live k old v slot) at
      ∙ ap (λ (o : Option Placed). is_some o) (sym (live_there k law a d area place n form large same_long so_far slot))
      ∙ ap (λ (v : ℕ). holds_live k (sectors_of d area) v slot) (sym at)
      ∙ ap (λ (u : Geometry). holds_live (format_of u) (sectors_of d area) victim slot) (sym geometry)
