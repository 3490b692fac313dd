use Rattle.std.proofs.Common.{◌≡◌, ◌∙◌, ◌∷◌, [], true, false, Result, Ok, Err, OnOk, ℕ, List, length, cond, inl, inr, refl, sym, ap, subst, arith}
use Rattle.std.specs.Prelude.{count_by}
use Rattle.flash_sim.specs.Device.{counted}
use Rattle.flash_map.specs.Area.{unit_of, sector_size, sectors_of}
use Rattle.std.specs.Result.{IsErr}
use Rattle.flash_map.specs.Touches.{Touches}
use Rattle.flash_map.proofs.Touches.{then}
use Rattle.flash_map.proofs.Plans.{counted_counted}
use Rattle.fcb_ring.specs.SectorStates.{is_torn}
use Rattle.fcb_ring.specs.declared.ring.Stage.TheVariants.{Ready}
use Rattle.fcb_ring.specs.Entries.{HasEntries}
use Rattle.fcb_ring.specs.Standing.{Stands, entries_on, states_on, erases_due}
use Rattle.fcb_ring.proofs.AreaLemmas.{has_size, count-sectors, area_after}
use Rattle.flash_map.proofs.FormatLemmas.{on_err, spends_then}
use Rattle.fcb_ring.proofs.MountLemmas.{mends_all, not-due}
use Rattle.fcb_ring.proofs.CollectLemmas.{erase-lost}
use Rattle.fcb_ring.proofs.AppendLemmas.{is_err_by}
use Rattle.fcb_ring.proofs.FinishLemmas.{with_unit, after_erases, place-within, mended-has, finished, mounted-is, due-is, newest-place}
use Rattle.fcb_ring.specs.Rings.{turned}
use Rattle.fcb_ring.proofs.ring.Ring.finish.Goals as goal

not_ok : {T E : Type 0} (P : Type 0) (r : Result T E) → IsErr r → OnOk r P
not_ok P (Ok x) e = absurd (clash e)
  where
    clash : false ≡ true → ⊥
    clash e = cc
not_ok P (Err e) is = tt

pub returns-in_err-erase_torn-clause-touches : goal.returns-in_err-erase_torn-clause-touches
returns-in_err-erase_torn-clause-touches g c =
    is_err_by c.from_residual.result (Touches (c.args.self.now.area ∷ []) (g.F.Flash.device c.args.flash.now) (g.F.Flash.device c.erase_torn.new.flash)) c.from_residual.ensures.0
    c.in_err-erase_torn.ensures.touches

pub returns-in_err-erase_torn-clause-stopped : goal.returns-in_err-erase_torn-clause-stopped
returns-in_err-erase_torn-clause-stopped g c =
    let part = c.in_err-erase_torn.ensures.part in
    let a = g.F.Flash.device c.args.flash.now in
    let ring = c.args.self.now in
    let due = due-is (unit_of a ring.area) (sector_size a ring.area) (sectors_of a ring.area) (has_size a ring.area (g.met.F.Flash.is_lawful c.args.flash.now) c.requires.stands.area) ring c.requires.stands.sectors c.requires.not_finished c.is_uncounted-is_full.result c.is_uncounted-is_full.ensures in
    let bound = c.in_err-erase_torn.ensures.bound in
    on_err c.from_residual.result (record {
      ring = record {
        area = refl;
        reserve = refl;
        down = refl;
      };
      part = record { done = part.0; sectors = part.1; place = part.0; which = inl refl; lost = part.2 };
      bound = (bound.0, omega (arith, bound.1), bound.2);
    })

pub returns-in_err-erase_torn-clause-finished : goal.returns-in_err-erase_torn-clause-finished
returns-in_err-erase_torn-clause-finished g c = not_ok _ c.from_residual.result c.from_residual.ensures.0

pub returns-in_err-erase_if-clause-touches : goal.returns-in_err-erase_if-clause-touches
returns-in_err-erase_if-clause-touches g c =
    is_err_by c.from_residual-in_err-erase_if.result (Touches (c.args.self.now.area ∷ []) (g.F.Flash.device c.args.flash.now) (g.F.Flash.device c.erase_if.new.flash)) c.from_residual-in_err-erase_if.ensures.0
    (then c.in_ok-erase_torn.ensures.touches c.in_err-erase_if.ensures.touches)

pub returns-in_err-erase_if-clause-stopped : goal.returns-in_err-erase_if-clause-stopped
returns-in_err-erase_if-clause-stopped g c =
    let a = g.F.Flash.device c.args.flash.now in
    let ring = c.args.self.now in
    let full = sym c.is_uncounted-is_full.ensures ∙ c.in_err-erase_if.ensures.due in
    let newest = newest-place (unit_of a ring.area) (sector_size a ring.area) (sectors_of a ring.area) (has_size a ring.area (g.met.F.Flash.is_lawful c.args.flash.now) c.requires.stands.area) ring c.requires.stands.sectors c.requires.not_finished full in
    let due = due-is (unit_of a ring.area) (sector_size a ring.area) (sectors_of a ring.area) (has_size a ring.area (g.met.F.Flash.is_lawful c.args.flash.now) c.requires.stands.area) ring c.requires.stands.sectors c.requires.not_finished c.is_uncounted-is_full.result c.is_uncounted-is_full.ensures in
    on_err c.from_residual-in_err-erase_if.result (record {
      ring = record {
        area = refl;
        reserve = refl;
        down = refl;
      };
      part =
          record {
            done = ring.area.sectors;
            sectors = c.in_err-erase_if.ensures.same ∙ c.in_ok-erase_torn.ensures.mended ∙ sym (mends_all (sectors_of a ring.area) ring.area.sectors (omega (arith, count-sectors a ring.area)));
            place = c.place-newest.result;
            which = inr (refl, c.place-newest.ensures.value ∙ sym (newest ∙ ap (λ (n : ℕ). turned n ring.oldest ring.used) (count-sectors a ring.area)));
            lost = λ on. erase-lost (g.F.Flash.device c.erase_torn.new.flash) (g.F.Flash.device c.erase_if.new.flash) ring.area c.place-newest.result c.in_err-erase_if.ensures.touches.banks c.in_err-erase_if.ensures.lost (c.in_ok-erase_torn.ensures.touches.ends.on ∙ on);
          };
      bound = spends_then a (g.F.Flash.device c.erase_torn.new.flash) (g.F.Flash.device c.erase_if.new.flash) (count_by is_torn (sectors_of a ring.area)) 0 (erases_due (states_on a ring.area)) c.in_ok-erase_torn.ensures.units c.in_err-erase_if.ensures.bound (omega arith);
    })

pub returns-in_err-erase_if-clause-finished : goal.returns-in_err-erase_if-clause-finished
returns-in_err-erase_if-clause-finished g c = not_ok _ c.from_residual-in_err-erase_if.result c.from_residual-in_err-erase_if.ensures.0

pub returns-clause-touches : goal.returns-clause-touches
returns-clause-touches g c = then c.in_ok-erase_torn.ensures.touches c.in_ok-erase_if.ensures.touches

pub returns-clause-finished : goal.returns-clause-finished
returns-clause-finished g c =
    let a = g.F.Flash.device c.args.flash.now in
    let b = g.F.Flash.device c.erase_torn.new.flash in
    let d = g.F.Flash.device c.erase_if.new.flash in
    let ring = c.args.self.now in
    let banks = c.in_ok-erase_if.ensures.touches.banks ∙ c.in_ok-erase_torn.ensures.touches.banks in
    let after = after_erases a b d ring.area c.place-newest.result ring.oldest ring.used c.place-newest.ensures.value c.is_uncounted-is_full.result c.in_ok-erase_torn.ensures.touches.banks c.in_ok-erase_torn.ensures.mended c.in_ok-erase_if.ensures.erased in
    let done = finished (unit_of a ring.area) (sector_size a ring.area) (sectors_of a ring.area) (has_size a ring.area (g.met.F.Flash.is_lawful c.args.flash.now) c.requires.stands.area) ring c.requires.stands.sectors c.requires.not_finished (sectors_of d ring.area) c.is_uncounted-is_full.result c.is_uncounted-is_full.ensures after in
    let due = due-is (unit_of a ring.area) (sector_size a ring.area) (sectors_of a ring.area) (has_size a ring.area (g.met.F.Flash.is_lawful c.args.flash.now) c.requires.stands.area) ring c.requires.stands.sectors c.requires.not_finished c.is_uncounted-is_full.result c.is_uncounted-is_full.ensures in
    record {
      area = refl;
      reserve = refl;
      stands =
          record {
            area = area_after a d ring.area (c.in_ok-erase_if.ensures.touches.banks ∙ c.in_ok-erase_torn.ensures.touches.banks) c.requires.stands.area;
            sectors = with_unit (λ (unit : ℕ). Stands unit (sectors_of d ring.area) (record ring { stage = Ready })) a d ring.area (c.in_ok-erase_if.ensures.touches.banks ∙ c.in_ok-erase_torn.ensures.touches.banks) done.0;
          };
      ready = refl;
      erased = mounted-is (unit_of a ring.area) (sector_size a ring.area) (sectors_of a ring.area) (has_size a ring.area (g.met.F.Flash.is_lawful c.args.flash.now) c.requires.stands.area) ring c.requires.stands.sectors c.requires.not_finished (sectors_of d ring.area) c.is_uncounted-is_full.result c.is_uncounted-is_full.ensures after;
      units =
          c.in_ok-erase_if.ensures.units ∙ ap (λ (n : ℕ). counted n (cond c.is_uncounted-is_full.result 1 0)) c.in_ok-erase_torn.ensures.units
          ∙ counted_counted a.spent (count_by is_torn (sectors_of a ring.area)) (cond c.is_uncounted-is_full.result 1 0) ∙ ap (counted a.spent) (sym due);
    }

pub erase_torn-requires : goal.erase_torn-requires
erase_torn-requires g c = c.requires.stands.area

pub place-newest-requires-clause-area : goal.place-newest-requires-clause-area
place-newest-requires-clause-area g c = c.requires.stands.area.lawful.few

pub place-newest-requires-clause-oldest : goal.place-newest-requires-clause-oldest
place-newest-requires-clause-oldest g c =
    let a = g.F.Flash.device c.args.flash.now in
    let ring = c.args.self.now in
    let within = place-within (unit_of a ring.area) (sector_size a ring.area) (sectors_of a ring.area) (has_size a ring.area (g.met.F.Flash.is_lawful c.args.flash.now) c.requires.stands.area) ring c.requires.stands.sectors c.requires.not_finished in
    omega (arith, count-sectors a ring.area)

pub place-newest-requires-clause-further : goal.place-newest-requires-clause-further
place-newest-requires-clause-further g c =
    let a = g.F.Flash.device c.args.flash.now in
    let ring = c.args.self.now in
    let within = place-within (unit_of a ring.area) (sector_size a ring.area) (sectors_of a ring.area) (has_size a ring.area (g.met.F.Flash.is_lawful c.args.flash.now) c.requires.stands.area) ring c.requires.stands.sectors c.requires.not_finished in
    omega (arith, count-sectors a ring.area)

pub returns-in_err-erase_torn-clause-list : goal.returns-in_err-erase_torn-clause-list
returns-in_err-erase_torn-clause-list g c =
    let a = g.F.Flash.device c.args.flash.now in
    let b = g.F.Flash.device c.erase_torn.new.flash in
    let ring = c.args.self.now in
    let part = c.in_err-erase_torn.ensures.part in
    let has = mended-has (unit_of a ring.area) (sector_size a ring.area) (sectors_of a ring.area) (has_size a ring.area (g.met.F.Flash.is_lawful c.args.flash.now) c.requires.stands.area) ring c.requires.stands.sectors c.requires.not_finished part.0 in
    with_unit (λ (unit : ℕ). HasEntries unit (sectors_of b ring.area) (entries_on a ring.area)) a b ring.area c.in_err-erase_torn.ensures.touches.banks
    (subst (λ (l : List (List ℕ)). HasEntries (unit_of a ring.area) l (entries_on a ring.area)) (sym part.1) has)

pub returns-in_err-erase_if-clause-list : goal.returns-in_err-erase_if-clause-list
returns-in_err-erase_if-clause-list g c =
    let a = g.F.Flash.device c.args.flash.now in
    let d = g.F.Flash.device c.erase_if.new.flash in
    let ring = c.args.self.now in
    let is = mends_all (sectors_of a ring.area) (length (sectors_of a ring.area)) (omega arith) in
    let has = mended-has (unit_of a ring.area) (sector_size a ring.area) (sectors_of a ring.area) (has_size a ring.area (g.met.F.Flash.is_lawful c.args.flash.now) c.requires.stands.area) ring c.requires.stands.sectors c.requires.not_finished (length (sectors_of a ring.area)) in
    with_unit (λ (unit : ℕ). HasEntries unit (sectors_of d ring.area) (entries_on a ring.area)) a d ring.area (c.in_err-erase_if.ensures.touches.banks ∙ c.in_ok-erase_torn.ensures.touches.banks)
    (subst (λ (l : List (List ℕ)). HasEntries (unit_of a ring.area) l (entries_on a ring.area)) (is ∙ sym c.in_ok-erase_torn.ensures.mended ∙ sym c.in_err-erase_if.ensures.same) has)

pub returns-clause-list : goal.returns-clause-list
returns-clause-list g c =
    let a = g.F.Flash.device c.args.flash.now in
    let b = g.F.Flash.device c.erase_torn.new.flash in
    let d = g.F.Flash.device c.erase_if.new.flash in
    let ring = c.args.self.now in
    let after = after_erases a b d ring.area c.place-newest.result ring.oldest ring.used c.place-newest.ensures.value c.is_uncounted-is_full.result c.in_ok-erase_torn.ensures.touches.banks c.in_ok-erase_torn.ensures.mended c.in_ok-erase_if.ensures.erased in
    let done = finished (unit_of a ring.area) (sector_size a ring.area) (sectors_of a ring.area) (has_size a ring.area (g.met.F.Flash.is_lawful c.args.flash.now) c.requires.stands.area) ring c.requires.stands.sectors c.requires.not_finished (sectors_of d ring.area) c.is_uncounted-is_full.result c.is_uncounted-is_full.ensures after in
    with_unit (λ (unit : ℕ). HasEntries unit (sectors_of d ring.area) (entries_on a ring.area)) a d ring.area (c.in_ok-erase_if.ensures.touches.banks ∙ c.in_ok-erase_torn.ensures.touches.banks) done.1

pub returns-in_err-erase_torn-clause-idle : goal.returns-in_err-erase_torn-clause-idle
returns-in_err-erase_torn-clause-idle g c none =
    let a = g.F.Flash.device c.args.flash.now in
    let ring = c.args.self.now in
    let due = due-is (unit_of a ring.area) (sector_size a ring.area) (sectors_of a ring.area) (has_size a ring.area (g.met.F.Flash.is_lawful c.args.flash.now) c.requires.stands.area) ring c.requires.stands.sectors c.requires.not_finished c.is_uncounted-is_full.result c.is_uncounted-is_full.ensures in
    c.in_err-erase_torn.ensures.idle (omega arith)

pub returns-in_err-erase_if-clause-idle : goal.returns-in_err-erase_if-clause-idle
returns-in_err-erase_if-clause-idle g c none =
    let a = g.F.Flash.device c.args.flash.now in
    let ring = c.args.self.now in
    let due = due-is (unit_of a ring.area) (sector_size a ring.area) (sectors_of a ring.area) (has_size a ring.area (g.met.F.Flash.is_lawful c.args.flash.now) c.requires.stands.area) ring c.requires.stands.sectors c.requires.not_finished c.is_uncounted-is_full.result c.is_uncounted-is_full.ensures in
    c.in_err-erase_if.ensures.idle (not-due c.is_uncounted-is_full.result (count_by is_torn (sectors_of a ring.area)) (sym due ∙ none)) ∙ c.in_ok-erase_torn.ensures.idle (omega arith)

pub returns-clause-idle : goal.returns-clause-idle
returns-clause-idle g c none =
    let a = g.F.Flash.device c.args.flash.now in
    let ring = c.args.self.now in
    let due = due-is (unit_of a ring.area) (sector_size a ring.area) (sectors_of a ring.area) (has_size a ring.area (g.met.F.Flash.is_lawful c.args.flash.now) c.requires.stands.area) ring c.requires.stands.sectors c.requires.not_finished c.is_uncounted-is_full.result c.is_uncounted-is_full.ensures in
    c.in_ok-erase_if.ensures.idle (not-due c.is_uncounted-is_full.result (count_by is_torn (sectors_of a ring.area)) (sym due ∙ none)) ∙ c.in_ok-erase_torn.ensures.idle (omega arith)

pub returns-clause-stopped : goal.returns-clause-stopped
returns-clause-stopped g c = tt
