-- What each step of a collection leaves of an area: its form, its items, its room.
use Rattle.std.proofs.Common.{◌≡◌, ℕ, ◌+◌, ◌*◌, ◌<◌, ◌≤◌, true, List, [], ◌∷◌, ◌++◌, length, set, None, refl, sym, ap, subst, ◌∙◌, inl, inr, arith}
use Rattle.std.specs.List.{flat_map}
use Rattle.std.proofs.lemmas.List.{length-set, set-set, set-get_or}
use Rattle.std.proofs.lemmas.List.Sums.{sum_by_push}
use Rattle.flash_sim.specs.Bank.{IsLawful}
use Rattle.flash_sim.specs.Device.{Device}
use Rattle.flash_sim.specs.declared.flash.Bank.{Bank}
use Rattle.flash_sim.specs.Bank.{bank_at}
use Rattle.flash_map.specs.declared.area.Area.{Area}
use Rattle.flash_map.specs.declared.area.Role.{Role}
use Rattle.flash_map.specs.Area.{unit_of, geometry_of, sector_at, sector_size, sectors_of, ChangesOnly}
use Rattle.flash_map.specs.Lawful.{IsLawfulFor}
use Rattle.flash_map.proofs.Places.{length-sector}
use Rattle.item_laws.specs.Items.{items_of}
use Rattle.item_laws.proofs.ItemLemmas as maps
use Rattle.item_laws.specs.Area.{next, area_pairs, open_sector}
use Rattle.item_laws.specs.Forms.{Collecting, Collected, IsForm, pairs_at, rest, to_copy}
use Rattle.item_laws.specs.Reading.{Reading, is_sound}
use Rattle.item_laws.specs.PairRounds.{copies_cost, stored_cost}
use Rattle.item_laws.specs.Rounds.{Collects}
use Rattle.item_laws.proofs.AreaReads.{length-sectors}
use Rattle.item_laws.proofs.Collects.{put_copy, put_victim}
use Rattle.item_laws.proofs.Lists.{elsewhere}
use Rattle.item_laws.proofs.LiveCost.{live-le, stored-le}
use Rattle.item_laws.proofs.Places.{after, after-apart, after-within}
use Rattle.item_laws.proofs.Rings.{next-closed}
use Rattle.item_laws.proofs.RingSteps.{reads}
use Rattle.item_laws.proofs.Stays.{open_within}
use Rattle.flash_map.specs.Units.{IsUnit}
use Rattle.flash_map.proofs.Rounding.{is_unit}
use Rattle.item_laws.proofs.Rounding.{marked_copies, collection}
use Rattle.item_laws.proofs.Undamaged.{form-of}
use Rattle.item_store.specs.SectorFormat.{SectorFormat, IsSectorFormat}
use Rattle.item_store.specs.Steps.{KeepsMarks, Adds, Marks}
use Rattle.item_store.specs.Standing.{IsStoreArea, list_of, KeepsItems}
use Rattle.item_store.specs.Collecting.{HasCopied, StopsCopying, EmptiesVictim, CollectsAt}
use Rattle.item_store.specs.Versions.{KeepsVersions}
use Rattle.item_store.proofs.VersionLemmas.{versions-items, keeps_all, keeps_more}
use Rattle.item_store.proofs.VersionSteps.{marked-versions, collects-versions}

-- An area of a role on two devices with the same banks.

pub same_geometry : (a d : Device) (area : Area) → d.banks ≡ a.banks → geometry_of d area ≡ geometry_of a area
same_geometry a d area banks = ap (λ (l : List Bank). record { unit = (bank_at l area.bank).unit; sector = (bank_at l area.bank).sector; sectors = area.sectors; kind = (bank_at l area.bank).kind }) banks

pub same_size : (a d : Device) (area : Area) → d.banks ≡ a.banks → sector_size d area ≡ sector_size a area
same_size a d area banks = ap (λ (l : List Bank). (bank_at l area.bank).sector) banks

pub still_area : (role : Role) (a d : Device) (area : Area) → d.banks ≡ a.banks → IsStoreArea role a.banks area → IsStoreArea role d.banks area
still_area role a d area banks is = subst (λ (bs : List Bank). IsStoreArea role bs area) (sym banks) is

pub size_there : (role : Role) (d : Device) (area : Area) → IsLawful d.banks d.bytes → IsStoreArea role d.banks area → (place : ℕ) → place < area.sectors → length (sector_at (sectors_of d area) place) ≡ sector_size d area
size_there role d area lawful is place within = length-sector d area lawful is.lawful.in_bank place within

pub large_there : (role : Role) (d : Device) (area : Area) → IsLawful d.banks d.bytes → IsStoreArea role d.banks area → (place : ℕ) → place < area.sectors → 512 ≤ length (sector_at (sectors_of d area) place)
large_there role d area lawful is place within = let least = is.lawful.at_least in let size = size_there role d area lawful is place within in omega arith

-- the open sector is one of the area
pub open_inside : (k : SectorFormat) (d : Device) (area : Area) (current : ℕ) → IsLawfulFor d.banks area → current ≡ open_sector k.reading (sectors_of d area) → current < area.sectors
open_inside k d area current lawful at =
    let count = length-sectors d area in
    let inside : open_sector k.reading (sectors_of d area) < length (sectors_of d area) = open_within k.reading (sectors_of d area) (omega (arith, lawful.several)) in
    omega arith

pub unit_is : (d : Device) (area : Area) → IsLawful d.banks d.bytes → IsLawfulFor d.banks area → IsUnit (unit_of d area)
unit_is d area lawful is = is_unit (unit_of d area) (lawful.each_bank area.bank is.in_bank.has_bank).unit

-- One sector changes.

pub only_then : (a b c : List (List ℕ)) (place : ℕ) → ChangesOnly a b place → ChangesOnly b c place → ChangesOnly a c place
only_then a b c place one two = two ∙ ap (λ (s : List (List ℕ)). set s place (sector_at c place)) one ∙ set-set a place (sector_at b place) (sector_at c place)

pub only_none : (a b : List (List ℕ)) (place : ℕ) → b ≡ a → ChangesOnly a b place
only_none a b place same = same ∙ sym (set-get_or a place []) ∙ ap (λ (s : List (List ℕ)). set a place (sector_at s place)) (sym same)

pub only_length : (a b : List (List ℕ)) (place : ℕ) → ChangesOnly a b place → length b ≡ length a
only_length a b place only = ap length only ∙ length-set a place (sector_at b place)

pub only_same : (a b : List (List ℕ)) (place : ℕ) → ChangesOnly a b place → sector_at b place ≡ sector_at a place → b ≡ a
only_same a b place only same = only ∙ ap (set a place) same ∙ set-get_or a place []

pub only_else : (a b : List (List ℕ)) (place j : ℕ) → ChangesOnly a b place → (j ≡ place → ⊥) → sector_at b j ≡ sector_at a j
only_else a b place j only apart = ap (λ (s : List (List ℕ)). sector_at s j) only ∙ elsewhere a place (sector_at b place) j apart

-- nothing changed
pub keeps_none : (k : SectorFormat) (sectors : List (List ℕ)) → k.damage sectors ≡ None → KeepsItems k sectors sectors
keeps_none k sectors undamaged = record { items = refl; versions = keeps_all (list_of k sectors) (list_of k sectors) refl; undamaged = undamaged }

-- the list stays
pub keeps_list : (k : SectorFormat) (old new : List (List ℕ)) → list_of k new ≡ list_of k old → k.damage new ≡ None → KeepsItems k old new
keeps_list k old new same undamaged = record { items = ap items_of same; versions = keeps_all (list_of k old) (list_of k new) same; undamaged = undamaged }

module _ (k : SectorFormat) (law : IsSectorFormat k) where
  abbrev R : Reading
  R = k.reading

  -- Forms and damages.

  pub form_undamaged : (sectors : List (List ℕ)) (place : ℕ) → IsForm k.reading sectors place → (open_sector k.reading sectors ≡ place) × (k.damage sectors ≡ None)
  form_undamaged sectors place form = let r = reads R sectors place form in (r.0, law.undamaged sectors r.1)

  pub form_here : (sectors : List (List ℕ)) (place : ℕ) → 2 ≤ length sectors → k.damage sectors ≡ None → place ≡ open_sector k.reading sectors → IsForm k.reading sectors place
  form_here sectors place several none is = subst (λ (p : ℕ). IsForm R sectors p) (sym is) (form-of R sectors several (law.damaged sectors none))

  -- two forms with the same items
  pub keeps-by : (old new : List (List ℕ)) (place new_place : ℕ) → IsForm k.reading old place → IsForm k.reading new new_place → KeepsVersions (area_pairs k.reading old place) (area_pairs k.reading new new_place) → KeepsItems k old new
  keeps-by old new place new_place old_form new_form keeps =
      let before = (reads R old place old_form).0 in
      let after_is = form_undamaged new new_place new_form in
      record {
        items = ap (λ (p : ℕ). items_of (area_pairs R new p)) after_is.0 ∙ maps.same_map (area_pairs R new new_place) (area_pairs R old place) (versions-items (area_pairs R old place) (area_pairs R new new_place) keeps) ∙ ap (λ (p : ℕ). items_of (area_pairs R old p)) (sym before);
        versions = subst (λ (p : ℕ). KeepsVersions (area_pairs R old p) (area_pairs R new (open_sector R new))) (sym before) (subst (λ (p : ℕ). KeepsVersions (area_pairs R old place) (area_pairs R new p)) (sym after_is.0) keeps);
        undamaged = after_is.1;
      }

  pub keeps_then : (a b c : List (List ℕ)) → KeepsItems k a b → KeepsItems k b c → KeepsItems k a c
  keeps_then a b c first second = record { items = second.items ∙ first.items; versions = keeps_more (list_of k a) (list_of k b) (list_of k c) first.versions second.versions; undamaged = second.undamaged }

  -- Copying.

  -- none is copied yet
  pub none_copied : (old : List (List ℕ)) (place : ℕ) → k.is_clean (sector_at old place) ≡ true → k.is_ready (sector_at old place) ≡ true → 512 ≤ length (sector_at old place) → HasCopied k old old place []
  none_copied old place clean ready long =
      let blank = law.clean (sector_at old place) clean in
      let room = law.room (sector_at old place) long clean in
      record {
        only = only_none old old place refl;
        ready = ready;
        list = law.reads.pairs (sector_at old place) blank;
        closed = law.reads.closed (sector_at old place) blank;
        gc_done = law.reads.gc_done (sector_at old place) blank;
        long = refl;
        room = omega arith;
      }

  pub stopped : (old new : List (List ℕ)) (place : ℕ) → Collecting k.reading old place → StopsCopying k old new place → Collecting k.reading new place × (area_pairs k.reading new place ≡ area_pairs k.reading old place)
  stopped old new place form stops =
      let step = put_copy R old place (sector_at new place) form stops.closed stops.gc_done in
      (subst (λ (s : List (List ℕ)). Collecting R s place) (sym stops.only) step.0, ap (λ (s : List (List ℕ)). area_pairs R s place) stops.only ∙ step.1)

  -- a cut collection keeps the items
  pub stopped-keeps : (old new : List (List ℕ)) (place : ℕ) → Collecting k.reading old place → StopsCopying k old new place → KeepsItems k old new
  stopped-keeps old new place form stops =
      let step = stopped old new place form stops in
      keeps-by old new place place (inr (inl form)) (inr (inl step.0)) (keeps_all (area_pairs R old place) (area_pairs R new place) step.1)

  pub has_stopped : (old new : List (List ℕ)) (place : ℕ) (copies : List (ℕ × List ℕ)) → HasCopied k old new place copies → StopsCopying k old new place
  has_stopped old new place copies has = record { only = has.only; closed = has.closed; gc_done = has.gc_done }

  pub marks_stopped : (old mid new : List (List ℕ)) (place : ℕ) → StopsCopying k old mid place → ChangesOnly mid new place → KeepsMarks k (sector_at mid place) (sector_at new place) → StopsCopying k old new place
  marks_stopped old mid new place has only keeps = record { only = only_then old mid new place has.only only; closed = keeps.closed ∙ has.closed; gc_done = keeps.gc_done ∙ has.gc_done }

  -- one more is
  pub one_copied : (old mid new : List (List ℕ)) (place id : ℕ) (bytes : List ℕ) (copies : List (ℕ × List ℕ)) → HasCopied k old mid place copies → ChangesOnly mid new place → Adds k (sector_at mid place) (sector_at new place) id bytes → HasCopied k old new place (copies ++ (id, bytes) ∷ [])
  one_copied old mid new place id bytes copies has only adds =
      let room = has.room in
      let free = adds.free in
      let costs : copies_cost k.cost (copies ++ (id, bytes) ∷ []) ≡ copies_cost k.cost copies + k.cost (length bytes) = sum_by_push (λ (p : ℕ × List ℕ). k.cost (length p.1)) copies (id, bytes) in
      record {
        only = only_then old mid new place has.only only;
        ready = adds.ready;
        list = adds.list.list ∙ ap (λ ps. ps ++ (id, bytes) ∷ []) has.list;
        closed = adds.list.closed ∙ has.closed;
        gc_done = adds.list.gc_done ∙ has.gc_done;
        long = adds.long ∙ has.long;
        room = omega arith;
      }

  -- from the area in which the open sector was not ready yet
  pub from_start : (old start new : List (List ℕ)) (place : ℕ) (copies : List (ℕ × List ℕ)) → ChangesOnly old start place → length (sector_at start place) ≡ length (sector_at old place) → HasCopied k start new place copies → HasCopied k old new place copies
  from_start old start new place copies only long has =
      let room = has.room in
      let cap : k.cap (length (sector_at start place)) ≡ k.cap (length (sector_at old place)) = ap k.cap long in
      record {
        only = only_then old start new place only has.only;
        ready = has.ready;
        list = has.list;
        closed = has.closed;
        gc_done = has.gc_done;
        long = has.long ∙ long;
        room = omega arith;
      }

  -- The copies cost no more than a sector has for them, since the victim is not overfull.

  pub victim-ring : (sectors : List (List ℕ)) (place : ℕ) → Collecting k.reading sectors place → is_sound k.reading (sector_at sectors (next sectors place)) ≡ true
  victim-ring sectors place form = let ring = form.ring in form.sound (next sectors place) (after-within (length sectors) place ring.within) (after-apart (length sectors) place ring.within ring.several)

  pub copied-le : (sectors : List (List ℕ)) (place : ℕ) → Collecting k.reading sectors place → 512 ≤ length (sector_at sectors (next sectors place)) → copies_cost k.cost (to_copy k.reading sectors place) ≤ k.cap (length (sector_at sectors (next sectors place)))
  copied-le sectors place form long =
      let live = live-le k.cost (pairs_at R sectors (next sectors place)) (flat_map (pairs_at R sectors) (rest (length sectors) place)) in
      let costs = law.costs (sector_at sectors (next sectors place)) long (victim-ring sectors place form) in
      omega arith

  -- gc-done stands behind all copies
  pub record HasMarked (old new : List (List ℕ)) (place : ℕ) : Type 0 where
    pub only : ChangesOnly old new place
    pub form : Collected k.reading new place
    pub versions : KeepsVersions (area_pairs k.reading old place) (area_pairs k.reading new place)
    pub list : k.reading.pairs (sector_at new place) ≡ to_copy k.reading old place
    pub gc_done : k.reading.has_gc_done (sector_at new place) ≡ true
    pub long : length (sector_at new place) ≡ length (sector_at old place)
    pub room : k.free (sector_at new place) + copies_cost k.cost (to_copy k.reading old place) ≡ k.cap (length (sector_at old place)) + 2 * k.slot

  module _ (old mid new : List (List ℕ)) (place : ℕ) (form : Collecting k.reading old place) (long : 512 ≤ length (sector_at old (next old place))) (same_long : length (sector_at old (next old place)) ≡ length (sector_at old place))
      (has : HasCopied k old mid place (to_copy k.reading old place)) (changes : ChangesOnly mid new place) (marks : Marks k (sector_at mid place) (sector_at new place)) where
    marked_sound : is_sound R (sector_at new place) ≡ true
    marked_sound =
        let le = copied-le old place form long in
        let stored = stored-le k.cost (to_copy R old place) in
        let same : stored_cost k.cost (R.pairs (sector_at mid place)) ≡ stored_cost k.cost (to_copy R old place) = ap (stored_cost k.cost) has.list in
        let cap : k.cap (length (sector_at mid place)) ≡ k.cap (length (sector_at old (next old place))) = ap k.cap (has.long ∙ sym same_long) in
        marks.sound (omega arith)

    pub one_marked : HasMarked old new place
    one_marked =
        let room = has.room in
        let free = marks.free in
        let only = only_then old mid new place has.only changes in
        let done = marked_copies R old place (sector_at mid place) (sector_at new place) form has.closed has.gc_done has.list marks.list marked_sound in
        let stands : Collected R new place = subst (λ (s : List (List ℕ)). Collected R s place) (sym only) done.0 in
        record {
          only = only;
          form = stands;
          versions = marked-versions R old new place form stands only (marks.list.list ∙ has.list);
          list = marks.list.list ∙ has.list;
          gc_done = marks.list.gc_done;
          long = marks.long ∙ has.long;
          room = omega arith;
        }

    pub marked-keeps : KeepsItems k old new
    marked-keeps = keeps-by old new place place (inr (inl form)) (inr (inr one_marked.form)) one_marked.versions

    -- an emptying of the victim that was cut
    pub cut_stands : (last_sectors : List (List ℕ)) → ChangesOnly new last_sectors (next old place) → k.reading.is_closed (sector_at last_sectors (next old place)) ≡ k.reading.is_closed (sector_at new (next old place))
        → Collected k.reading last_sectors place × (area_pairs k.reading last_sectors place ≡ area_pairs k.reading new place)
    cut_stands last_sectors only shut =
        let m = one_marked in
        let at : next new place ≡ next old place = ap (λ (n : ℕ). after n place) (only_length old new place m.only) in
        let closed : R.is_closed (sector_at last_sectors (next old place)) ≡ true =
        shut ∙ ap (λ (j : ℕ). R.is_closed (sector_at new j)) (sym at) ∙ next-closed R new place 0 m.form.ring ∙ refl in
        let step = put_victim R new place (sector_at last_sectors (next old place)) m.form closed in
        let is : last_sectors ≡ set new (next new place) (sector_at last_sectors (next old place)) = only ∙ ap (λ (j : ℕ). set new j (sector_at last_sectors (next old place))) (sym at) in
        (subst (λ (s : List (List ℕ)). Collected R s place) (sym is) step.0, ap (λ (s : List (List ℕ)). area_pairs R s place) is ∙ step.1)

    pub victim_cut : (last_sectors : List (List ℕ)) → ChangesOnly new last_sectors (next old place) → k.reading.is_closed (sector_at last_sectors (next old place)) ≡ k.reading.is_closed (sector_at new (next old place)) → KeepsItems k old last_sectors
    victim_cut last_sectors only shut =
        let m = one_marked in
        let cut = cut_stands last_sectors only shut in
        keeps-by old last_sectors place place (inr (inl form)) (inr (inr cut.0))
        (keeps_more (area_pairs R old place) (area_pairs R new place) (area_pairs R last_sectors place) m.versions (keeps_all (area_pairs R new place) (area_pairs R last_sectors place) cut.1))

    -- the victim is emptied: the collection is whole
    -- its emptying may have been cut behind the last byte that it takes away
    pub collects_cut : (last_sectors : List (List ℕ)) → ChangesOnly new last_sectors (next old place) → k.reading.is_blank (sector_at last_sectors (next old place)) ≡ true → Collects k.reading old place last_sectors
    collects_cut last_sectors only unused =
        let blank = sector_at last_sectors (next old place) in
        let all = collection R law.reads old place (sector_at mid place) (sector_at new place) (sector_at last_sectors (next old place)) form has.closed has.gc_done has.list marks.list marked_sound unused in
        let same : last_sectors ≡ set (set old place (sector_at new place)) (next old place) (sector_at last_sectors (next old place)) = only ∙ ap (λ (s : List (List ℕ)). set s (next old place) (sector_at last_sectors (next old place))) one_marked.only in
        subst (Collects R old place) (sym same) all

    pub collected_at : (last_sectors : List (List ℕ)) → ChangesOnly new last_sectors (next old place) → k.reading.is_blank (sector_at last_sectors (next old place)) ≡ true → EmptiesVictim k old last_sectors place → CollectsAt k old last_sectors place
    collected_at last_sectors only unused empties =
        let ring = form.ring in
        let m = one_marked in
        let other : place ≡ next old place → ⊥ = λ (e : place ≡ next old place). after-apart (length old) place ring.within ring.several (sym e) in
        let here : sector_at last_sectors place ≡ sector_at new place = ap (λ (s : List (List ℕ)). sector_at s place) only ∙ elsewhere new (next old place) (sector_at last_sectors (next old place)) place other in
        let room = m.room in
        let free : k.free (sector_at last_sectors place) ≡ k.free (sector_at new place) = ap k.free here in
        record {
          collects = collects_cut last_sectors only unused;
          list = ap R.pairs here ∙ m.list;
          gc_done = ap R.has_gc_done here ∙ m.gc_done;
          empties = empties;
          long = ap length here ∙ m.long;
          room = omega arith;
          others = λ j apart off. only_else new last_sectors (next old place) j only off ∙ only_else old new place j m.only apart;
        }

  -- a collection keeps the items
  pub collects-keeps : (old new : List (List ℕ)) (place : ℕ) → Collecting k.reading old place → Collects k.reading old place new → KeepsItems k old new
  collects-keeps old new place form collects = keeps-by old new place place (inr (inl form)) (inl collects.form) (collects-versions R old new place law.reads form collects)
