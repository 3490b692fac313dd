-- What power that is lost in a put leaves.
use Rattle.std.proofs.Common.{◌≡◌, ℕ, ◌≤◌, Bool, true, false, cond, eqb, List, [], ◌∷◌, length, Option, Some, None, inl, inr, refl, sym, ap, subst, ◌∙◌, arith}
use Rattle.flash_sim.specs.Device.{Device}
use Rattle.flash_map.specs.Area.{value_limit, unit_of, sectors_of, geometry_of}
use Rattle.flash_map.specs.declared.area.Area.{Area}
use Rattle.flash_map.specs.Touches.{Touches}
use Rattle.fcb_ring.specs.Chance.{chance_on, HasNoChance}
use Rattle.fcb_ring.specs.Changing.{newest_place, IsRecordLoss}
use Rattle.fcb_ring.specs.Rings.{is_full}
use Rattle.fcb_ring.specs.Standing.{states_on}
use Rattle.fcb_ring.specs.Writing.{record_cost}
use Rattle.fcb_ring.specs.declared.ring.Ring.{Ring}
use Rattle.fcb_ring.proofs.AppendLemmas.{unit-after}
use Rattle.fcb_ring.proofs.ChanceLemmas.{chance-full}
use Rattle.backend_api.specs.Commands.{Command, applied, CutMap, StopsAt}
use Rattle.backend_api.specs.Map.{Map}
use Rattle.record_settings.specs.Room.{cost_by, put_cost}
use Rattle.record_settings.specs.Settings.{setting_of, with_setting}
use Rattle.record_settings.specs.Torn.{torn_body, IsTornOf}
use Rattle.record_settings.proofs.TornLemmas.{torn-long, torn-setting}
use Rattle.backend_fcb.specs.Changing.{StopsDown}
use Rattle.backend_fcb.specs.Standing.{damage_on, settings_on}
use Rattle.backend_fcb.specs.Tearing.{body_for, Tears, CutSettings, StopsPutting}
use Rattle.fcb_ring.specs.Standing.{erases_on}

-- ---- one call after another

-- a copy that was cut stands in a sector that is ignored, while no sector is free
pub copy-lost : (a e : Device) (area : Area) (ring : Ring) (body : List ℕ) → is_full (states_on e area) ≡ true → (a.is_on ≡ true → (done : ℕ) × IsRecordLoss e area (newest_place ring) ring.end body done) → a.is_on ≡ true → HasNoChance e area
copy-lost a e area ring body full lost on = let at = lost on in (_, at.1.loss, chance-full area (geometry_of e area) (sectors_of e area) _ full)

pub lost-then : (a d e : Device) (area other : Area) → Touches (area ∷ []) a d false → other ≡ area → (d.is_on ≡ true → HasNoChance e other) → a.is_on ≡ true → HasNoChance e area
lost-then a d e area other touches same lost on = subst (λ (x : Area). HasNoChance e x) same (lost (touches.ends.on ∙ on))

-- a loss that is none of a record leaves the settings
pub no-record-stops : (a e : Device) (area : Area) (body : List ℕ) → settings_on e area ≡ settings_on a area → HasNoChance e area → StopsPutting a e area body
no-record-stops a e area body same (loss, last, none) = record {
  loss = loss;
  last = last;
  settings = subst (λ (b : Bool). CutSettings (value_limit area) b (unit_of a area) body loss.done (settings_on a area) (settings_on e area)) (sym none) (inl same);
}

pub stops-then : (a d e : Device) (area other : Area) (body : List ℕ) → Touches (area ∷ []) a d false → other ≡ area → settings_on d area ≡ settings_on a area → (d.is_on ≡ true → StopsPutting d e other body) → a.is_on ≡ true → StopsPutting a e area body
stops-then a d e area other body touches same settings stops on =
    let at : StopsPutting d e area body = subst (λ (x : Area). StopsPutting d e x body) same (stops (touches.ends.on ∙ on)) in
    record {
      loss = at.loss;
      last = at.last;
      settings = subst (λ (m : Map). CutSettings (value_limit area) (chance_on e area at.loss) (unit_of a area) body at.loss.done m (settings_on e area)) settings
          (subst (λ (u : ℕ). CutSettings (value_limit area) (chance_on e area at.loss) u body at.loss.done (settings_on d area) (settings_on e area)) (unit-after a d area area touches.banks refl) at.settings);
    }

pub down-then : (a d e : Device) (before now after : Ring) (body : List ℕ) → Touches (before.area ∷ []) a d false → now.area ≡ before.area → settings_on d before.area ≡ settings_on a before.area → StopsDown d e now after body → StopsDown a e before after body
down-then a d e before now after body touches same settings stops = record {
  down = stops.down;
  undamaged = subst (λ (x : Area). damage_on e x ≡ None) same stops.undamaged;
  due = subst (λ (x : Area). erases_on e x ≤ 1) same stops.due;
  stops = stops-then a d e before.area now.area body touches same settings stops.stops;
}

-- ---- as the trait says it

cut-map : (limit : ℕ) (b : Bool) (unit done : ℕ) (body : List ℕ) (command : Command) (before after : Map) → body ≡ body_for command → with_setting before (setting_of limit (body_for command)) ≡ applied before command → CutSettings limit b unit body done before after
    → CutMap b (Tears limit unit (body_for command) done) command before after
cut-map limit true unit done body command before after is puts cut = subst (λ (l : List ℕ). Tears limit unit l done before after) is cut
cut-map limit false unit done body command before after is puts (inl same) = inl same
cut-map limit false unit done body command before after is puts (inr new) = inr (new ∙ ap (λ (l : List ℕ). with_setting before (setting_of limit l)) is ∙ puts)

pub stops-at : (a e : Device) (area : Area) (body : List ℕ) (command : Command) → body ≡ body_for command → with_setting (settings_on a area) (setting_of (value_limit area) (body_for command)) ≡ applied (settings_on a area) command → StopsPutting a e area body
    → StopsAt (chance_on e area) (λ done before after. Tears (value_limit area) (unit_of a area) (body_for command) done before after) command e (settings_on a area) (settings_on e area)
stops-at a e area body command is puts stops = record {
  loss = stops.loss;
  last = stops.last;
  settings = cut-map (value_limit area) (chance_on e area stops.loss) (unit_of a area) stops.loss.done body command (settings_on a area) (settings_on e area) is puts stops.settings;
}

-- ---- costs

cost-torn : (unit len : ℕ) (s t : Option (List ℕ × List ℕ)) → IsTornOf s t → cost_by unit len t ≤ cost_by unit len s
cost-torn unit len s None torn = omega arith
cost-torn unit len None (Some x) torn = absurd torn
cost-torn unit len (Some (name, value)) (Some (other, put)) (same, long) =
    let e : cost_by unit len (Some (other, put)) ≡ cost_by unit len (Some (name, value)) = ap (λ (n : ℕ). cond (eqb n 0) 0 (record_cost unit len)) long in omega arith

-- a torn record puts no more than the record
pub put-cost_torn : (limit unit : ℕ) (body : List ℕ) (put : ℕ) → put_cost limit unit (torn_body body put) ≤ put_cost limit unit body
put-cost_torn limit unit body put =
    let le = cost-torn unit (length body) (setting_of limit body) (setting_of limit (torn_body body put)) (torn-setting limit body put) in
    let long : put_cost limit unit (torn_body body put) ≡ cost_by unit (length body) (setting_of limit (torn_body body put)) = ap (λ (n : ℕ). cost_by unit n (setting_of limit (torn_body body put))) (torn-long body put) in
    omega arith
