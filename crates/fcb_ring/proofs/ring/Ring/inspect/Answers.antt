use Rattle.std.proofs.Common.{◌≡◌, ℕ, ◌-◌, ◌<◌, ◌≤◌, min, eqb, List, length, refl, sym, ap, subst, ◌∙◌, arith}
use Rattle.flash_map.specs.Area.{unit_of, sector_size, sectors_of}
use Rattle.fcb_ring.specs.declared.ring.Ring.{Ring}
use Rattle.fcb_ring.specs.declared.ring.Stage.TheVariants.{Inspected}
use Rattle.fcb_ring.specs.declared.sector.SectorState.{SectorState}
use Rattle.fcb_ring.specs.Entries.{states}
use Rattle.fcb_ring.specs.Rings.{first_damage as damage_of}
use Rattle.fcb_ring.specs.Standing.{states_on}
use Rattle.fcb_ring.proofs.AreaLemmas.{HasSize, has_size, length-states}
use Rattle.fcb_ring.proofs.StandLemmas.{IsSurvey, survey_stands}
use Rattle.fcb_ring.proofs.ring.Ring.inspect.Goals as goal

states-several : (unit size : ℕ) (sectors : List (List ℕ)) (xs : List SectorState) → HasSize unit size sectors → xs ≡ states unit sectors → 2 ≤ length xs
states-several unit size sectors xs has is = subst (λ (n : ℕ). 2 ≤ n) (sym (ap length is ∙ length-states unit sectors)) has.several

some-of : (n : ℕ) → 2 ≤ n → 0 < n
some-of n several = omega (arith, several)

within-all : (used all n : ℕ) → used ≡ min all (n - 1) → used ≤ n
within-all used all n is = omega (arith, is)

fits-few : (m n : ℕ) → m ≤ n → n ≤ 64 → m < 4294967296
fits-few m n below few = omega (arith, below, few)

fits-few-below : (m n : ℕ) → m < n → n ≤ 64 → m < 4294967296
fits-few-below m n below few = omega (arith, below, few)

pub returns-clause-ok : goal.returns-clause-ok
returns-clause-ok g c =
    let d = g.F.Flash.device c.args.flash.now in
    let size = has_size d c.args.area (g.met.F.Flash.is_lawful c.args.flash.now) c.requires in
    let is : c.as_slice-states.result.now ≡ states_on (g.F.Flash.device c.args.flash.now) c.args.area = c.as_slice-states.ensures.value ∙ c.read_states-found.ensures in
    let ring : Ring = record {
      area = c.args.area;
      reserve = c.args.reserve;
      oldest = c.oldest_place-oldest.result;
      used = c.min-used.result;
      id = c.newest_state-newest.result.id;
      end = c.newest_state-newest.result.end;
      stage = Inspected (eqb c.used_from-all_used.result (length c.as_slice-states.result.now));
    } in
    record {
      area = c.requires;
      sectors = survey_stands (unit_of d c.args.area) (sectors_of d c.args.area) ring c.used_from-all_used.result c.newest_state-newest.result
          (subst (λ (xs : List SectorState). IsSurvey xs ring c.used_from-all_used.result c.newest_state-newest.result) is (record {
            several = states-several (unit_of d c.args.area) (sector_size d c.args.area) (sectors_of d c.args.area) c.as_slice-states.result.now size is;
            few = c.as_slice-states.ensures.fits;
            none = sym c.first_damage.ensures ∙ c.in_default.is;
            oldest = c.oldest_place-oldest.ensures.value;
            most = c.used_from-all_used.ensures.at_most;
            used_ones = c.used_from-all_used.ensures.used;
            stops = c.used_from-all_used.ensures.free;
            counted = c.min-used.ensures;
            last = c.newest_state-newest.ensures;
            end = refl;
            id = refl;
            stage = refl;
          }));
    }

pub read_states-found-requires : goal.read_states-found-requires
read_states-found-requires g c = c.requires

pub first_damage-requires-clause-some : goal.first_damage-requires-clause-some
first_damage-requires-clause-some g c =
    let d = g.F.Flash.device c.args.flash.now in
    let size = has_size d c.args.area (g.met.F.Flash.is_lawful c.args.flash.now) c.requires in
    some-of (length c.as_slice-states.result.now) (states-several (unit_of d c.args.area) (sector_size d c.args.area) (sectors_of d c.args.area) c.as_slice-states.result.now size (c.as_slice-states.ensures.value ∙ c.read_states-found.ensures))

pub first_damage-requires-clause-few : goal.first_damage-requires-clause-few
first_damage-requires-clause-few g c = c.as_slice-states.ensures.fits

pub oldest_place-oldest-requires : goal.oldest_place-oldest-requires
oldest_place-oldest-requires g c =
    let d = g.F.Flash.device c.args.flash.now in
    let size = has_size d c.args.area (g.met.F.Flash.is_lawful c.args.flash.now) c.requires in
    some-of (length c.as_slice-states.result.now) (states-several (unit_of d c.args.area) (sector_size d c.args.area) (sectors_of d c.args.area) c.as_slice-states.result.now size (c.as_slice-states.ensures.value ∙ c.read_states-found.ensures))

pub overflow_sub-count : goal.overflow_sub-count
overflow_sub-count g c =
    let d = g.F.Flash.device c.args.flash.now in
    let size = has_size d c.args.area (g.met.F.Flash.is_lawful c.args.flash.now) c.requires in
    some-of (length c.as_slice-states.result.now) (states-several (unit_of d c.args.area) (sector_size d c.args.area) (sectors_of d c.args.area) c.as_slice-states.result.now size (c.as_slice-states.ensures.value ∙ c.read_states-found.ensures))

pub used_from-all_used-requires-clause-oldest : goal.used_from-all_used-requires-clause-oldest
used_from-all_used-requires-clause-oldest g c = c.oldest_place-oldest.ensures.within

pub used_from-all_used-requires-clause-few : goal.used_from-all_used-requires-clause-few
used_from-all_used-requires-clause-few g c = c.as_slice-states.ensures.fits

pub newest_state-newest-requires-clause-oldest : goal.newest_state-newest-requires-clause-oldest
newest_state-newest-requires-clause-oldest g c = c.oldest_place-oldest.ensures.within

pub newest_state-newest-requires-clause-used : goal.newest_state-newest-requires-clause-used
newest_state-newest-requires-clause-used g c = within-all c.min-used.result c.used_from-all_used.result (length c.as_slice-states.result.now) c.min-used.ensures

pub newest_state-newest-requires-clause-few : goal.newest_state-newest-requires-clause-few
newest_state-newest-requires-clause-few g c = c.as_slice-states.ensures.fits

pub overflow_cast-result : goal.overflow_cast-result
overflow_cast-result g c = record { fits = fits-few-below c.oldest_place-oldest.result (length c.as_slice-states.result.now) c.oldest_place-oldest.ensures.within c.as_slice-states.ensures.fits }

pub overflow_cast-result-2 : goal.overflow_cast-result-2
overflow_cast-result-2 g c = record { fits = fits-few c.min-used.result (length c.as_slice-states.result.now) (within-all c.min-used.result c.used_from-all_used.result (length c.as_slice-states.result.now) c.min-used.ensures) c.as_slice-states.ensures.fits }

pub returns-clause-ring : goal.returns-clause-ring
returns-clause-ring g c = (refl, refl, refl, refl)

pub returns-clause-damaged : goal.returns-clause-damaged
returns-clause-damaged g c = ap damage_of (sym (c.as_slice-states.ensures.value ∙ c.read_states-found.ensures)) ∙ sym c.first_damage.ensures ∙ c.in_default.is

pub returns-in-Some-clause-ok : goal.returns-in-Some-clause-ok
returns-in-Some-clause-ok g c = tt

pub returns-in-Some-clause-ring : goal.returns-in-Some-clause-ring
returns-in-Some-clause-ring g c = tt

pub returns-in-Some-clause-damaged : goal.returns-in-Some-clause-damaged
returns-in-Some-clause-damaged g c = ap damage_of (sym (c.as_slice-states.ensures.value ∙ c.read_states-found.ensures)) ∙ sym c.first_damage.ensures ∙ c.in-Some.is
