-- A whole collection, from the ring before it to the one after it.
use Rattle.std.proofs.Common.{◌≡◌, ◌≢◌, ℕ, zero, suc, ◌+◌, ◌-◌, ◌*◌, ◌/◌, ◌<◌, ◌≤◌, min, List, [], ◌∷◌, ◌++◌, length, map, None, refl, sym, ap, subst, ◌∙◌, arith}
use Rattle.std.specs.List.{range_with_len, flat_map, sum_by, All}
use Rattle.std.proofs.lemmas.List.Elements.{All-nil, All-cons, All-head, All-tail, All-append}
use Rattle.flash_sim.specs.Bank.{IsLawful}
use Rattle.flash_sim.specs.Device.{Device}
use Rattle.flash_map.specs.Area.{OthersStay, value_limit, unit_of, sector_size, sectors_of, sector_bytes}
use Rattle.flash_map.specs.declared.area.Area.{Area}
use Rattle.flash_map.specs.Spending.{Spends, SpendsAtMost}
use Rattle.flash_map.specs.Units.{IsUnit, padded}
use Rattle.flash_map.proofs.Rounding.{by_unit}
use Rattle.flash_map.proofs.SpendingLemmas.{spends_then, most_weaker}
use Rattle.fcb_ring.specs.declared.ring.Ring.{Ring}
use Rattle.fcb_ring.specs.declared.ring.Stage.TheVariants.{Ready, Collecting}
use Rattle.fcb_ring.specs.Changing.{Begun, newest_place, next_place, sector_list}
use Rattle.fcb_ring.specs.Entries.{bodies, sector_entries, HasEntries}
use Rattle.fcb_ring.specs.Rings.{turned}
use Rattle.fcb_ring.specs.Standing.{StandsOn as RingStandsOn, KeepsEntries, entries_on}
use Rattle.fcb_ring.specs.Writing.{record_cost}
use Rattle.fcb_ring.proofs.AppendLemmas.{unit-after, size-after}
use Rattle.fcb_ring.proofs.AreaLemmas.{has_size}
use Rattle.fcb_ring.proofs.CollectLemmas.{collecting-used, turned-next}
use Rattle.fcb_ring.proofs.OthersLemmas.{others_at}
use Rattle.fcb_ring.proofs.PlaceLemmas.{All-range, range-append, flat_map-agree}
use Rattle.fcb_ring.proofs.RingLemmas.{turned-zero}
use Rattle.backend_fcb.specs.Changing.{Copies, CopiesLive, Collects, StopsCopying, parts_on, collect_units}
use Rattle.record_settings.specs.Live.{live_bodies}
use Rattle.record_settings.specs.Room.{cap, reserve, put_cost}
use Rattle.item_laws.specs.PairRounds.{joined}
use Rattle.item_laws.proofs.NoRoom.{joined-push}
use Rattle.record_settings.specs.Rounds.{bodies_cost}
use Rattle.record_settings.specs.Settings.{settings_of}
use Rattle.backend_fcb.specs.Standing.{damage_on, settings_on, IsReady}
use Rattle.record_settings.proofs.Coded.{settings-collected}
use Rattle.record_settings.proofs.CopyCost.{copies_cost-le}
use Rattle.backend_fcb.proofs.CopySteps.{kept-same}
use Rattle.backend_fcb.proofs.PartLists.{FitsOne, joined-bodies, joined-on, parts-fit, fit-parts}
use Rattle.backend_fcb.proofs.PutsCosts.{CostsFit, costs-on, undamaged-after, undamaged-kept, put-le}
use Rattle.backend_fcb.proofs.RingLists.{part_at, oldest-first, ready-none, collecting-none, within, end-within, place-apart}
use Rattle.backend_fcb.proofs.SectorLists.{sum-less}
use Rattle.backend_fcb.proofs.WalkLemmas.{Entry}

-- a call that keeps the records keeps the settings
pub settings-kept : (old new : Device) (area : Area) → KeepsEntries old new area → settings_on new area ≡ settings_on old area
settings-kept old new area kept = ap (λ (l : List Entry). settings_of (value_limit area) (bodies l)) kept.are

pub list-same : (old new : Device) (area : Area) (place : ℕ) → new.banks ≡ old.banks → sector_bytes new area place ≡ sector_bytes old area place → sector_list new area place ≡ sector_list old area place
list-same old new area place banks same =
    ap (λ (u : ℕ). sector_entries u place (sector_bytes new area place)) (unit-after old new area area banks refl) ∙ ap (sector_entries (unit_of old area) place) same

-- the live records were copied
pub record Copied (b c : Device) (ring now : Ring) : Type 0 where
  pub banks : c.banks ≡ b.banks
  pub list : KeepsEntries b c ring.area
  pub others : OthersStay b c ring.area (newest_place ring)
  pub area : now.area ≡ ring.area
  pub reserve : now.reserve ≡ ring.reserve
  pub copies : CopiesLive b c ring now

-- the oldest sector was erased
pub record Ended (c e : Device) (now after : Ring) : Type 0 where
  pub banks : e.banks ≡ c.banks
  pub others : OthersStay c e now.area now.oldest
  pub area : after.area ≡ now.area
  pub reserve : after.reserve ≡ now.reserve
  pub stands : RingStandsOn e after
  pub ready : after.stage ≡ Ready
  pub end : after.end ≡ now.end
  pub oldest : after.oldest ≡ turned now.area.sectors now.oldest 1
  pub used : after.used + 1 ≡ now.used

module _ (a b : Device) (before ring : Ring) (begun : Begun a b before ring) where
  pub begun-undamaged : IsLawful a.banks a.bytes → IsLawful b.banks b.bytes → IsReady a before → damage_on b ring.area ≡ None
  begun-undamaged lawful-a lawful-b ready =
      subst (λ (x : Area). damage_on b x ≡ None) (sym begun.area) (undamaged-kept a b before.area lawful-a lawful-b ready.stands.area begun.banks begun.list ready.undamaged)

  pub begun-end : ring.end ≡ padded (unit_of b ring.area) 8
  begun-end = begun.end ∙ ap (λ (u : ℕ). padded u 8) (sym (unit-after a b before.area ring.area begun.banks begun.area))

  pub begun-fresh : sector_list b ring.area (newest_place ring) ≡ []
  begun-fresh = subst (λ (x : Area). sector_list b x (newest_place ring) ≡ []) (sym begun.area) begun.fresh

-- ---- the parts

shift-map : {X : Type 0} (f g : ℕ → X) (k m : ℕ) → ((j : ℕ) → k ≤ j → j < k + m → f j ≡ g (j + 1)) → map f (range_with_len k m) ≡ map g (range_with_len (k + 1) m)
shift-map f g k zero same = refl
shift-map f g k (suc m) same = ap (λ x. x ∷ map f (range_with_len (k + 1) m)) (same k (omega arith) (omega arith)) ∙ ap (λ l. g (k + 1) ∷ l) (shift-map f g (k + 1) m (λ j from below. same j (omega arith) (omega arith)))

map-append : {X : Type 0} (f : ℕ → X) (xs ys : List ℕ) → map f (xs ++ ys) ≡ map f xs ++ map f ys
map-append f [] ys = refl
map-append f (x ∷ xs) ys = ap (λ l. f x ∷ l) (map-append f xs ys)

module _ (a b c e : Device) (before ring now after : Ring) (ready : IsReady a before) (left : before.used + 1 ≡ before.area.sectors) (lawful : IsLawful a.banks a.bytes) (begun : Begun a b before ring) (copied : Copied b c ring now) (ended : Ended c e now after) where
  oldest-in : before.oldest < before.area.sectors
  oldest-in = within a before ready.stands (ready-none before ready.ready)

  several : 2 ≤ before.area.sectors
  several = ready.stands.area.lawful.several

  abbrev place : ℕ → ℕ
  place k = turned before.area.sectors before.oldest k

  -- other sectors stay through the three calls
  same-b : (k : ℕ) → k < before.used → sector_list b before.area (turned before.area.sectors before.oldest k) ≡ sector_list a before.area (turned before.area.sectors before.oldest k)
  same-b k lt = list-same a b before.area (turned before.area.sectors before.oldest k) begun.banks (others_at a b before.area (next_place before) begun.others (turned before.area.sectors before.oldest k) (place-apart a before ready.stands (ready-none before ready.ready) k before.used (omega arith) (omega arith) (λ (e : k ≡ before.used). omega arith)))

  newest-is : newest_place ring ≡ turned before.area.sectors before.oldest before.used
  newest-is =
      let back : ring.used - 1 ≡ before.used = omega (arith, begun.goes_on.used) in
      ap (λ (x : Area). turned x.sectors ring.oldest (ring.used - 1)) begun.area ∙ ap (λ (o : ℕ). turned before.area.sectors o (ring.used - 1)) begun.goes_on.oldest ∙ ap (turned before.area.sectors before.oldest) back

  same-c : (k : ℕ) → k < before.used → sector_list c before.area (turned before.area.sectors before.oldest k) ≡ sector_list b before.area (turned before.area.sectors before.oldest k)
  same-c k lt =
      let others : OthersStay b c before.area (turned before.area.sectors before.oldest before.used) = subst (λ (p : ℕ). OthersStay b c before.area p) newest-is (subst (λ (x : Area). OthersStay b c x (newest_place ring)) begun.area copied.others) in
      list-same b c before.area (turned before.area.sectors before.oldest k) copied.banks (others_at b c before.area (turned before.area.sectors before.oldest before.used) others (turned before.area.sectors before.oldest k) (place-apart a before ready.stands (ready-none before ready.ready) k before.used (omega arith) (omega arith) (λ (e : k ≡ before.used). omega arith)))

  -- what is to be copied
  abbrev victim : List (List ℕ)
  victim = bodies (part_at a before 0)

  abbrev others : List (List (List ℕ))
  others = map (λ k. bodies (part_at a before k)) (range_with_len 1 (before.used - 1))

  copies-are : Copies b c ring now (live_bodies (value_limit before.area) (bodies (part_at a before 0)) (joined (map (λ k. bodies (part_at a before k)) (range_with_len 1 (before.used - 1)))))
  copies-are =
      let none = collecting-none ring begun.stage in
      let all = collecting-used b ring begun.stands begun.stage in
      let count : ring.area.sectors ≡ before.area.sectors = ap (λ (x : Area). x.sectors) begun.area in
      let m : min ring.used (ring.area.sectors - 1) - 1 ≡ before.used - 1 = omega arith in
      let some : 0 < min ring.used (ring.area.sectors - 1) = omega (arith, several) in
      let first = oldest-first b ring begun.stands none some in
      let one : (k : ℕ) → part_at b ring k ≡ sector_list b before.area (turned before.area.sectors before.oldest k) =
      λ (k : ℕ). ap (λ (x : Area). sector_list b x (turned x.sectors ring.oldest k)) begun.area ∙ ap (λ (o : ℕ). sector_list b before.area (turned before.area.sectors o k)) begun.goes_on.oldest in
      let v : bodies (sector_list b ring.area ring.oldest) ≡ bodies (part_at a before 0) =
      ap bodies (ap (λ (x : Area). sector_list b x ring.oldest) begun.area ∙ ap (sector_list b before.area) (begun.goes_on.oldest ∙ sym (turned-zero before.area.sectors before.oldest oldest-in)) ∙ same-b 0 (omega (arith, several))) in
      let o : bodies (flat_map (part_at b ring) (range_with_len 1 (min ring.used (ring.area.sectors - 1) - 1))) ≡ joined (map (λ k. bodies (part_at a before k)) (range_with_len 1 (before.used - 1))) =
      ap (λ (i : ℕ). bodies (flat_map (part_at b ring) (range_with_len 1 i))) m
      ∙ ap bodies (flat_map-agree (part_at b ring) (part_at a before) (range_with_len 1 (before.used - 1)) (All-range (λ k. part_at b ring k ≡ part_at a before k) 1 (before.used - 1) (λ k from below. one k ∙ same-b k (omega arith))))
      ∙ sym (joined-bodies (part_at a before) (range_with_len 1 (before.used - 1))) in
      let live : live_bodies (value_limit before.area) (bodies (sector_list b ring.area ring.oldest)) (bodies (flat_map (part_at b ring) (range_with_len 1 (min ring.used (ring.area.sectors - 1) - 1)))) ≡ live_bodies (value_limit before.area) (bodies (part_at a before 0)) (joined (map (λ k. bodies (part_at a before k)) (range_with_len 1 (before.used - 1)))) =
      ap (λ (x : List (List ℕ)). live_bodies (value_limit before.area) x (bodies (flat_map (part_at b ring) (range_with_len 1 (min ring.used (ring.area.sectors - 1) - 1))))) v ∙ ap (live_bodies (value_limit before.area) (bodies (part_at a before 0))) o in
      subst (Copies b c ring now) live
      (subst (λ (x : Area). Copies b c ring now (live_bodies (value_limit x) (bodies (sector_list b ring.area ring.oldest)) (bodies (flat_map (part_at b ring) (range_with_len 1 (min ring.used (ring.area.sectors - 1) - 1)))))) begun.area
      (copied.copies (flat_map (part_at b ring) (range_with_len 1 (min ring.used (ring.area.sectors - 1) - 1))) first))

  abbrev live : List (List ℕ)
  live = live_bodies (value_limit before.area) victim (joined others)

  now-oldest : now.oldest ≡ before.oldest
  now-oldest = copies-are.oldest ∙ begun.goes_on.oldest

  now-area : now.area ≡ before.area
  now-area = copied.area ∙ begun.area

  pub after-area : after.area ≡ before.area
  after-area = ended.area ∙ now-area

  pub after-used : after.used ≡ before.used
  after-used = omega (arith, ended.used, copies-are.used, begun.goes_on.used)

  after-oldest : after.oldest ≡ turned before.area.sectors before.oldest 1
  after-oldest = ended.oldest ∙ ap (λ (x : Area). turned x.sectors now.oldest 1) now-area ∙ ap (λ (o : ℕ). turned before.area.sectors o 1) now-oldest

  same-e : (k : ℕ) → k + 1 < before.area.sectors → sector_list e before.area (turned before.area.sectors before.oldest (k + 1)) ≡ sector_list c before.area (turned before.area.sectors before.oldest (k + 1))
  same-e k lt =
      let kept : OthersStay c e before.area before.oldest = subst (λ (p : ℕ). OthersStay c e before.area p) now-oldest (subst (λ (x : Area). OthersStay c e x now.oldest) now-area ended.others) in
      let apart : turned before.area.sectors before.oldest (k + 1) ≢ before.oldest =
      λ (same : turned before.area.sectors before.oldest (k + 1) ≡ before.oldest). place-apart a before ready.stands (ready-none before ready.ready) (k + 1) 0 lt (omega arith) (λ (z : k + 1 ≡ 0). omega arith) (same ∙ sym (turned-zero before.area.sectors before.oldest oldest-in)) in
      list-same c e before.area (turned before.area.sectors before.oldest (k + 1)) ended.banks (others_at c e before.area before.oldest kept (turned before.area.sectors before.oldest (k + 1)) apart)

  part-e : (k : ℕ) → k + 1 < before.area.sectors → part_at e after k ≡ sector_list c before.area (turned before.area.sectors before.oldest (k + 1))
  part-e k lt =
      ap (λ (x : Area). sector_list e x (turned x.sectors after.oldest k)) after-area
      ∙ ap (λ (o : ℕ). sector_list e before.area (turned before.area.sectors o k)) after-oldest
      ∙ ap (sector_list e before.area) (turned-next before.area.sectors before.oldest k oldest-in lt)
      ∙ same-e k lt

  old-is : parts_on a before ≡ victim ∷ others
  old-is =
      let m : before.used ≡ suc (before.used - 1) = omega (arith, several) in
      ap (λ (i : ℕ). map (λ k. bodies (part_at a before k)) (range_with_len 0 i)) m

  new-is : parts_on e after ≡ others ++ live ∷ []
  new-is =
      let m : after.used ≡ before.used - 1 + 1 = omega (arith, after-used, several) in
      let f : ℕ → List (List ℕ) = λ k. bodies (part_at e after k) in
      let last : bodies (part_at e after (before.used - 1)) ≡ live =
      ap bodies (part-e (before.used - 1) (omega (arith, several)))
      ∙ ap (λ (k : ℕ). bodies (sector_list c before.area (turned before.area.sectors before.oldest k))) (omega (arith, several))
      ∙ sym (ap (λ (x : Area). bodies (sector_list c x (newest_place ring))) begun.area ∙ ap (λ (p : ℕ). bodies (sector_list c before.area p)) newest-is)
      ∙ copies-are.scratch ∙ ap (λ (l : List Entry). bodies l ++ live) (begun-fresh a b before ring begun) in
      ap (λ (i : ℕ). map (λ k. bodies (part_at e after k)) (range_with_len 0 i)) m
      ∙ ap (map (λ k. bodies (part_at e after k))) (range-append 0 (before.used - 1) 1)
      ∙ map-append (λ k. bodies (part_at e after k)) (range_with_len 0 (before.used - 1)) (range_with_len (0 + (before.used - 1)) 1)
      ∙ ap (λ (l : List (List (List ℕ))). l ++ bodies (part_at e after (0 + (before.used - 1))) ∷ [])
      (shift-map (λ k. bodies (part_at e after k)) (λ k. bodies (part_at a before k)) 0 (before.used - 1) (λ k from below. ap bodies (part-e k (omega arith) ∙ same-c (k + 1) (omega arith) ∙ same-b (k + 1) (omega arith))))
      ∙ ap (λ (k : ℕ). others ++ bodies (part_at e after k) ∷ []) (omega arith)
      ∙ ap (λ (x : List (List ℕ)). others ++ x ∷ []) last

  old-fit : All (FitsOne (value_limit before.area) (unit_of a before.area) (sector_size a before.area)) (victim ∷ others)
  old-fit =
      subst (All (FitsOne (value_limit before.area) (unit_of a before.area) (sector_size a before.area))) old-is
      (parts-fit a before ready.stands (ready-none before ready.ready) (omega arith) (unit_of a before.area) (sector_size a before.area) (costs-on a before.area lawful ready.stands.area ready.undamaged))

  live-within : bodies_cost (unit_of a before.area) live ≤ cap (unit_of a before.area) (sector_size a before.area)
  live-within =
      let one : sum_by (put_cost (value_limit before.area) (unit_of a before.area)) victim ≤ cap (unit_of a before.area) (sector_size a before.area) = All-head (FitsOne (value_limit before.area) (unit_of a before.area) (sector_size a before.area)) victim others old-fit in
      let two = copies_cost-le (value_limit before.area) (unit_of a before.area) victim (joined others) in
      omega arith

  pub collected : Collects a e before after
  collected = record {
    victim = victim;
    others = others;
    old_parts = old-is;
    new_parts = new-is;
    end =
        let cost : bodies_cost (unit_of b ring.area) live ≡ bodies_cost (unit_of a before.area) live = ap (λ (u : ℕ). bodies_cost u live) (unit-after a b before.area ring.area begun.banks begun.area) in
        omega (arith, ended.end, copies-are.end, begun.end);
    within = live-within;
  }

  new-fit : All (FitsOne (value_limit before.area) (unit_of a before.area) (sector_size a before.area)) (others ++ live ∷ [])
  new-fit =
      let one : sum_by (put_cost (value_limit before.area) (unit_of a before.area)) live ≤ cap (unit_of a before.area) (sector_size a before.area) =
      (let le = sum-less (put_cost (value_limit before.area) (unit_of a before.area)) (λ (body : List ℕ). record_cost (unit_of a before.area) (length body)) live (put-le (value_limit before.area) (unit_of a before.area)) in let most = live-within in omega arith) in
      All-append (FitsOne (value_limit before.area) (unit_of a before.area) (sector_size a before.area)) others (live ∷ []) (All-tail (FitsOne (value_limit before.area) (unit_of a before.area) (sector_size a before.area)) victim others old-fit)
      (All-cons (FitsOne (value_limit before.area) (unit_of a before.area) (sector_size a before.area)) live [] one (All-nil (FitsOne (value_limit before.area) (unit_of a before.area) (sector_size a before.area))))

  banks-e : e.banks ≡ a.banks
  banks-e = ended.banks ∙ copied.banks ∙ begun.banks

  free-after : after.used < after.area.sectors
  free-after = let count : after.area.sectors ≡ before.area.sectors = ap (λ (x : Area). x.sectors) after-area in omega (arith, after-used)

  pub collected-undamaged : IsLawful e.banks e.bytes → damage_on e before.area ≡ None
  collected-undamaged lawful-e =
      let fit = fit-parts e after ended.stands (ready-none after ended.ready) free-after (unit_of a before.area) (sector_size a before.area)
      (subst (λ (x : Area). All (FitsOne (value_limit x) (unit_of a before.area) (sector_size a before.area)) (parts_on e after)) (sym after-area) (subst (All (FitsOne (value_limit before.area) (unit_of a before.area) (sector_size a before.area))) (sym new-is) new-fit)) in
      let has = kept-same e after lawful-e ended.stands in
      undamaged-after a e before.area lawful-e ready.stands.area banks-e (entries_on e after.area)
      (subst (λ (x : Area). HasEntries (unit_of e x) (sectors_of e x) (entries_on e after.area)) after-area has)
      (subst (λ (x : Area). CostsFit (value_limit x) (unit_of a before.area) (sector_size a before.area) (entries_on e after.area) x.sectors) after-area fit)

  pub collected-ready : IsLawful e.banks e.bytes → IsReady e after
  collected-ready lawful-e = record {
    stands = ended.stands;
    ready = ended.ready;
    reserve = ended.reserve ∙ copied.reserve ∙ begun.reserve ∙ ready.reserve ∙ ap reserve (sym (unit-after a e before.area after.area banks-e after-area));
    undamaged = subst (λ (x : Area). damage_on e x ≡ None) (sym after-area) (collected-undamaged lawful-e);
  }

  pub collected-settings : settings_on e before.area ≡ settings_on a before.area
  collected-settings =
      ap (λ (x : Area). settings_on e x) (sym after-area)
      ∙ ap (λ (x : Area). settings_of (value_limit x) (bodies (entries_on e after.area))) after-area
      ∙ ap (settings_of (value_limit before.area)) (sym (joined-on e after ended.stands (ready-none after ended.ready) free-after) ∙ ap joined new-is ∙ joined-push others live)
      ∙ settings-collected (value_limit before.area) victim (joined others)
      ∙ ap (settings_of (value_limit before.area)) (ap joined (sym old-is) ∙ joined-on a before ready.stands (ready-none before ready.ready) (omega arith))

-- ---- units

header-units : (unit : ℕ) → IsUnit unit → padded unit 8 / unit ≤ 2
unfolding padded
header-units = by_unit (λ (unit : ℕ). padded unit 8 / unit ≤ 2) (omega arith) (omega arith) (omega arith)

le-div : (unit k size : ℕ) → IsUnit unit → k * unit ≤ size → k ≤ size / unit
le-div unit k size is = by_unit (λ (u : ℕ). k * u ≤ size → k ≤ size / u) (λ le. omega arith) (λ le. omega arith) (λ le. omega arith) unit is

pub begin-units : (a b : Device) (ring : Ring) → IsLawful a.banks a.bytes → RingStandsOn a ring → SpendsAtMost a b (padded (unit_of a ring.area) 8 / unit_of a ring.area) → SpendsAtMost a b (collect_units a ring)
begin-units a b ring lawful on most =
    let le = header-units (unit_of a ring.area) (has_size a ring.area lawful on.area).is_unit in
    most_weaker a b (padded (unit_of a ring.area) 8 / unit_of a ring.area) (collect_units a ring) (omega arith) most

module _ (a b : Device) (before ring : Ring) (lawful : IsLawful a.banks a.bytes) (on : RingStandsOn a before) (begun : Begun a b before ring) (first : Spends a b (padded (unit_of a before.area) 8 / unit_of a before.area)) where
  unit-b : unit_of b ring.area ≡ unit_of a before.area
  unit-b = unit-after a b before.area ring.area begun.banks begun.area

  size-b : sector_size b ring.area ≡ sector_size a before.area
  size-b = size-after a b before.area ring.area begun.banks begun.area

  fewer : (units : ℕ) → units * unit_of b ring.area + ring.end ≤ sector_size b ring.area → padded (unit_of a before.area) 8 / unit_of a before.area + units + 1 ≤ collect_units a before
  fewer units bound =
      let is = (has_size a before.area lawful on.area).is_unit in
      let one : units * unit_of a before.area + ring.end ≤ sector_size b ring.area = subst (λ (u : ℕ). units * u + ring.end ≤ sector_size b ring.area) unit-b bound in
      let two = header-units (unit_of a before.area) is in
      let three = le-div (unit_of a before.area) units (sector_size a before.area) is (omega (arith, size-b)) in
      omega arith

  pub stop-units : (c : Device) (now : Ring) → StopsCopying b c ring now → SpendsAtMost a c (collect_units a before)
  stop-units c now stops =
      let le = fewer stops.units stops.bound in
      (padded (unit_of a before.area) 8 / unit_of a before.area + stops.units, omega arith, spends_then a b c (padded (unit_of a before.area) 8 / unit_of a before.area) stops.units first stops.spent)

  pub end-units : (c e : Device) (now : Ring) (copies : List (List ℕ)) → IsLawful c.banks c.bytes → c.banks ≡ b.banks → now.area ≡ ring.area → Copies b c ring now copies → SpendsAtMost c e 1 → SpendsAtMost a e (collect_units a before)
  end-units c e now copies lawful-c banks area copied (last, most, spent) =
      let all = collecting-used c now copied.stands copied.stage in
      let size : sector_size c now.area ≡ sector_size b ring.area = size-after b c ring.area now.area banks area in
      let within = end-within c now copied.stands (collecting-none now copied.stage) lawful-c (omega (arith, copied.stands.area.lawful.several)) (omega arith) in
      let le = fewer copied.units (omega (arith, copied.bound)) in
      let both = spends_then a b c (padded (unit_of a before.area) 8 / unit_of a before.area) copied.units first copied.spent in
      (padded (unit_of a before.area) 8 / unit_of a before.area + copied.units + last, omega arith, spends_then a c e (padded (unit_of a before.area) 8 / unit_of a before.area + copied.units) last both spent)

-- what was copied, once the list is split into the records of the oldest sector and the others
pub copied-now : (b c : Device) (ring now : Ring) → RingStandsOn b ring → ring.stage ≡ Collecting → CopiesLive b c ring now → (copies : List (List ℕ)) × Copies b c ring now copies
copied-now b c ring now on stage copies =
    let none = collecting-none ring stage in
    let all = collecting-used b ring on stage in
    (live_bodies (value_limit ring.area) (bodies (sector_list b ring.area ring.oldest)) (bodies (flat_map (part_at b ring) (range_with_len 1 (min ring.used (ring.area.sectors - 1) - 1)))), copies (flat_map (part_at b ring) (range_with_len 1 (min ring.used (ring.area.sectors - 1) - 1))) (oldest-first b ring on none (omega (arith, on.area.lawful.several))))
