-- What a mount spends at most.
use Rattle.std.proofs.Common.{◌≡◌, ℕ, ◌<◌, ◌≤◌, true, List, [], length, None, refl, sym, subst, ◌∙◌, arith}
use Rattle.flash_sim.specs.Bank.{IsLawful}
use Rattle.flash_sim.specs.Device.{Device}
use Rattle.flash_map.specs.declared.area.Area.{Area}
use Rattle.flash_map.specs.declared.area.Role.{Role}
use Rattle.flash_map.specs.Area.{sector_at, sector_size, sectors_of}
use Rattle.flash_map.specs.Spending.{SpendsBetween}
use Rattle.flash_map.proofs.SpendingBounds.{between_none, between_within}
use Rattle.item_laws.specs.PairRounds.{copies_cost}
use Rattle.item_laws.specs.Area.{next, open_sector}
use Rattle.item_laws.specs.Forms.{Collecting, IsForm, to_copy}
use Rattle.item_laws.proofs.AreaReads.{length-sectors}
use Rattle.item_laws.proofs.Places.{after-within}
use Rattle.item_store.specs.declared.entry.Redo.{Redo}
use Rattle.item_store.specs.declared.entry.Redo.TheVariants.{Nothing, ClearNext, CollectAgain}
use Rattle.item_store.specs.SectorFormat.{SectorFormat, IsSectorFormat, fits}
use Rattle.item_store.specs.Room.{has_room}
use Rattle.item_store.specs.Collecting.{CollectsAt, redo_of, redo_units}
use Rattle.item_store.specs.Standing.{IsStoreArea, SpendsIn, SpendsUpTo}
use Rattle.item_store.proofs.Areas.{size_there, large_there, form_here, copied-le}
use Rattle.item_store.proofs.CollectSteps.{collecting_from}
use Rattle.item_store.proofs.Ranges.{again-lost, redo-covers}
use Rattle.item_store.proofs.RoundSteps.{collected-room}

module _ (k : SectorFormat) (law : IsSectorFormat k) (role : Role) (a : Device) (area : Area) (lawful : IsLawful a.banks a.bytes) (own : IsStoreArea role a.banks area) (undamaged : k.damage (sectors_of a area) ≡ None) (place : ℕ) (is : place ≡ open_sector k.reading (sectors_of a area)) where
  count : length (sectors_of a area) ≡ area.sectors
  count = length-sectors a area

  form : IsForm k.reading (sectors_of a area) place
  form = form_here k law (sectors_of a area) place (omega (arith, own.lawful.several, count)) undamaged is

  clear_most : (k.units.clear (sector_at (sectors_of a area) (next (sectors_of a area) place))).lost ≤ k.units.mount (sector_size a area)
  clear_most =
      let none : copies_cost k.cost [] ≤ k.cap (sector_size a area) = omega arith in
      let all = law.mount (sector_size a area) (sector_at (sectors_of a area) place) [] own.lawful.at_least none in
      let wide = law.units.clear_lost (sector_at (sectors_of a area) (next (sectors_of a area) place)) in
      omega arith

  redo_most : (redo : Redo) → redo_of k (sectors_of a area) place ≡ redo → (redo_units k (sectors_of a area) place redo).lost ≤ k.units.mount (sector_size a area)
  redo_most Nothing nothing = omega arith
  redo_most ClearNext clears = clear_most
  redo_most CollectAgain again =
      let collecting = collecting_from k law (sectors_of a area) place form again in
      let victim : next (sectors_of a area) place < area.sectors = subst (λ (n : ℕ). next (sectors_of a area) place < n) count (after-within (length (sectors_of a area)) place collecting.ring.within) in
      let long = size_there role a area lawful own (next (sectors_of a area) place) victim in
      let large = large_there role a area lawful own (next (sectors_of a area) place) victim in
      let few : copies_cost k.cost (to_copy k.reading (sectors_of a area) place) ≤ k.cap (sector_size a area) = subst (λ (n : ℕ). copies_cost k.cost (to_copy k.reading (sectors_of a area) place) ≤ k.cap n) long (copied-le k law (sectors_of a area) place collecting large) in
      let all = law.mount (sector_size a area) (sector_at (sectors_of a area) place) (to_copy k.reading (sectors_of a area) place) own.lawful.at_least few in
      let parts = again-lost k law (sectors_of a area) place in
      omega arith

  -- where a collection was begun again, a delete fits
  pub mount-room : (new : List (List ℕ)) → redo_of k (sectors_of a area) place ≡ CollectAgain → (Collecting k.reading (sectors_of a area) place → CollectsAt k (sectors_of a area) new place)
      → open_sector k.reading new ≡ place → has_room k new 0 ≡ true
  mount-room new again collects opened =
      let collecting = collecting_from k law (sectors_of a area) place form again in
      let did = collects collecting in
      let within : place < area.sectors = subst (λ (n : ℕ). place < n) count collecting.ring.within in
      let victim : next (sectors_of a area) place < area.sectors = subst (λ (n : ℕ). next (sectors_of a area) place < n) count (after-within (length (sectors_of a area)) place collecting.ring.within) in
      let long = size_there role a area lawful own (next (sectors_of a area) place) victim in
      let here = size_there role a area lawful own place within in
      let large = large_there role a area lawful own (next (sectors_of a area) place) victim in
      let few : copies_cost k.cost (to_copy k.reading (sectors_of a area) place) ≤ k.cap (length (sector_at (sectors_of a area) place)) =
      subst (λ (n : ℕ). copies_cost k.cost (to_copy k.reading (sectors_of a area) place) ≤ k.cap n) (long ∙ sym here) (copied-le k law (sectors_of a area) place collecting large) in
      let room = collected-room k law (sector_at new place) (length (sector_at (sectors_of a area) place)) (copies_cost k.cost (to_copy k.reading (sectors_of a area) place)) did.gc_done did.room few in
      subst (λ (p : ℕ). fits k (sector_at new p) 0 ≡ true) (sym opened) room.delete

  pub mount-most : (d : Device) → SpendsIn a d (redo_units k (sectors_of a area) place (redo_of k (sectors_of a area) place)) → SpendsBetween a d 0 (k.units.mount (sector_size a area))
  mount-most d spent =
      let most = redo_most (redo_of k (sectors_of a area) place) refl in
      let covers = redo-covers k law (sectors_of a area) place (redo_of k (sectors_of a area) place) in
      between_within spent 0 (k.units.mount (sector_size a area)) (omega arith) (omega arith)

  pub mount-most_lost : (d : Device) → SpendsUpTo a d (redo_units k (sectors_of a area) place (redo_of k (sectors_of a area) place)) → SpendsBetween a d 0 (k.units.mount (sector_size a area))
  mount-most_lost d spent = let most = redo_most (redo_of k (sectors_of a area) place) refl in between_within spent 0 (k.units.mount (sector_size a area)) (omega arith) most

-- nothing was spent
pub mount-nothing : (a : Device) (most : ℕ) → SpendsBetween a a 0 most
mount-nothing a most = between_within (between_none a) 0 most (omega arith) (omega arith)
