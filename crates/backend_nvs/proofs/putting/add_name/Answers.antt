use Rattle.std.proofs.Common.{◌≡◌, ◌+◌, ◌<◌, ◌≤◌, ◌∷◌, [], ℕ, List, length, true, false, Some, None, Err, refl, sym, ap, subst, ◌∙◌, inl, inr, arith}
use Rattle.std.specs.Prelude.{◌==◌}
use Rattle.std.specs.FinMap.{get, insert}
use Rattle.std.proofs.lemmas.Bool.{false≢true}
use Rattle.flash_sim.specs.Device.{Device}
use Rattle.flash_map.specs.declared.area.Area.{Area}
use Rattle.flash_map.specs.declared.area.Geometry.{Geometry}
use Rattle.flash_map.specs.declared.faults.WriteFault.{WriteFault}
use Rattle.flash_map.specs.Area.{geometry_of, sectors_of, value_limit}
use Rattle.flash_map.specs.Faults.{write_lost}
use Rattle.item_laws.specs.Items.{Items}
use Rattle.backend_api.specs.declared.backend.SetFault.{SetFault}
use Rattle.backend_api.specs.Ends.{SetEnds, set_lost}
use Rattle.backend_api.specs.Map.{Map}
use Rattle.flash_map.specs.On.{on}
use Rattle.named_items.specs.StoreEnds as ends
use Rattle.named_items.specs.Pairs.{count_in, settings_in, HasNoOrphans, IsInside, IsIdOfName}
use Rattle.flash_map.specs.Touches.{Touches}
use Rattle.named_items.specs.Ends.{IsFree}
use Rattle.named_items.specs.Putting.{IsPut, IsStorable}
use Rattle.named_items.proofs.ChangeSteps.{moved-clean, moved-lawful, moved-cost}
use Rattle.named_items.specs.Leaving.{pair_at_id, MakesPuts, SetLeavesItems}
use Rattle.named_items.proofs.LeavingSteps.{count-cut, raised-leave}
use Rattle.named_items.proofs.NewSteps.{not-stored, set-after}
use Rattle.named_items.proofs.SpendSteps.{spends-some, one-call, spends-both, calls-within, geometry-stays}
use Rattle.backend_nvs.specs.IdLayout.{count_bytes, count_of, is_count, numbering_of, settings_of, nvs_counted, nvs_room, nvs-counts, nvs-numbering, too_many}
use Rattle.backend_nvs.proofs.CountSteps.{few-free, count-differs, count-leaves, count-refused, raised-same, raised-kept, raised-inside, raised-free}
use Rattle.flash_map.proofs.Touches.{then}
use Rattle.named_items.specs.Limits.{limit-least}
use Rattle.named_items.proofs.NameLemmas.{get-nowhere, nowhere-none}
use Rattle.named_items.specs.Orphans.{HasOrphans}
use Rattle.named_items.proofs.OrphanUnits.{no-orphans}
use Rattle.backend_nvs.proofs.putting.add_name.Goals as goal

-- the count before is another
pub write_changed-requires-clause-differs : goal.write_changed-requires-clause-differs
write_changed-requires-clause-differs g c =
    let own : Area = g.S.ItemStore.mounted_on c.args.store.now in
    let before : Items = on g.S.ItemStore.contents (g.F.Flash.device c.args.flash.now) own in
    let bytes : List ℕ = c.bytes_of_count-bytes.result in
    let more : count_of (Some bytes) ≡ count_in (numbering_of own) before + 1 = c.bytes_of_count-bytes.ensures.counts ∙ ap (λ (x : ℕ). x + 1) c.requires.counted in
    λ same. count-differs (value_limit own) before bytes more same

pub put_new-requires-clause-here : goal.put_new-requires-clause-here
put_new-requires-clause-here g c =
    let d : Device = g.F.Flash.device c.args.flash.now in
    let b : Device = g.F.Flash.device c.write_changed.new.flash in
    let own : Area = g.S.ItemStore.mounted_on c.args.store.now in
    let other : Area = g.S.ItemStore.mounted_on c.write_changed.new.self in
    let k : Geometry = geometry_of d own in
    let before : Items = on g.S.ItemStore.contents d own in
    let mid : Items = on g.S.ItemStore.contents b own in
    let bytes : List ℕ = c.bytes_of_count-bytes.result in
    let more : count_of (Some bytes) ≡ count_in (numbering_of own) before + 1 = c.bytes_of_count-bytes.ensures.counts ∙ ap (λ (x : ℕ). x + 1) c.requires.counted in
    let is : mid ≡ insert before 0x8000 bytes = c.in-Ok.ensures.ends.items in
    let same : settings_in (numbering_of own) mid ≡ settings_in (numbering_of own) before = ap (settings_in (numbering_of own)) is ∙ raised-same (value_limit own) before c.requires.here.clean bytes c.bytes_of_count-bytes.ensures.two more in
    record {
      lawful = moved-lawful own other c.write_changed.ensures.area d b c.write_changed.ensures.touches.banks c.requires.here.lawful;
      up = c.in-Ok.ensures.stands refl;
      clean = moved-clean numbering_of nvs_counted too_many g.S.ItemStore.contents own other c.in-Ok.ensures.area b (subst (HasNoOrphans (numbering_of own)) (sym is) (raised-kept (value_limit own) before c.requires.here.clean bytes c.bytes_of_count-bytes.ensures.two more));
    }

pub put_new-requires-clause-value : goal.put_new-requires-clause-value
put_new-requires-clause-value g c = subst (λ (x : Area). IsStorable (value_limit x) c.args.value.now) (sym c.write_changed.ensures.area) c.requires.value

pub put_new-requires-clause-candidate : goal.put_new-requires-clause-candidate
put_new-requires-clause-candidate g c =
    let d : Device = g.F.Flash.device c.args.flash.now in
    let b : Device = g.F.Flash.device c.write_changed.new.flash in
    let own : Area = g.S.ItemStore.mounted_on c.args.store.now in
    let other : Area = g.S.ItemStore.mounted_on c.write_changed.new.self in
    let k : Geometry = geometry_of d own in
    let before : Items = on g.S.ItemStore.contents d own in
    let mid : Items = on g.S.ItemStore.contents b own in
    let bytes : List ℕ = c.bytes_of_count-bytes.result in
    let more : count_of (Some bytes) ≡ count_in (numbering_of own) before + 1 = c.bytes_of_count-bytes.ensures.counts ∙ ap (λ (x : ℕ). x + 1) c.requires.counted in
    let is : mid ≡ insert before 0x8000 bytes = c.in-Ok.ensures.ends.items in
    let same : settings_in (numbering_of own) mid ≡ settings_in (numbering_of own) before = ap (settings_in (numbering_of own)) is ∙ raised-same (value_limit own) before c.requires.here.clean bytes c.bytes_of_count-bytes.ensures.two more in
    let few : count_in (numbering_of own) before < 511 = subst (λ (x : ℕ). x < 511) c.requires.counted c.requires.few in
    record {
      absent = subst (λ (x : Area). IsIdOfName (numbering_of x) (on g.S.ItemStore.contents b x) c.args.name.now None) (sym c.in-Ok.ensures.area) (nowhere-none (numbering_of own) mid c.args.name.now (ap (λ (m : Map). get m c.args.name.now) same ∙ get-nowhere (numbering_of own) before c.args.name.now c.requires.absent));
      few = subst (λ (x : Area). too_many (settings_of x (on g.S.ItemStore.contents b x)) c.args.name.now ≡ false) (sym c.in-Ok.ensures.area) (subst (λ (m : Map). too_many m c.args.name.now ≡ false) (sym same) (few-free (settings_of own before) c.args.name.now (count-leaves (value_limit own) before c.requires.here.clean few)));
      inside = subst (λ (x : Area). IsInside (numbering_of x) (on g.S.ItemStore.contents b x) (0x8001 + c.args.count)) (sym c.in-Ok.ensures.area) (subst (λ (m : Items). IsInside (numbering_of own) m (0x8001 + c.args.count)) (sym is) (subst (λ (x : ℕ). IsInside (numbering_of own) (insert before 0x8000 bytes) (0x8001 + x)) (sym c.requires.counted) (raised-inside (value_limit own) before c.requires.here.clean bytes c.bytes_of_count-bytes.ensures.two more)));
      candidate = refl;
      free = subst (λ (x : Area). IsFree (on g.S.ItemStore.contents b x) (0x8001 + c.args.count) (0x8001 + c.args.count + 0x4000)) (sym c.in-Ok.ensures.area) (subst (λ (m : Items). IsFree m (0x8001 + c.args.count) (0x8001 + c.args.count + 0x4000)) (sym is) (subst (λ (x : ℕ). IsFree (insert before 0x8000 bytes) (0x8001 + x) (0x8001 + x + 0x4000)) (sym c.requires.counted) (raised-free (value_limit own) before c.requires.here.clean bytes c.bytes_of_count-bytes.ensures.two more)));
    }

pub refused-requires-clause-here : goal.refused-requires-clause-here
refused-requires-clause-here g c =
    let d : Device = g.F.Flash.device c.args.flash.now in
    let b : Device = g.F.Flash.device c.write_changed.new.flash in
    let own : Area = g.S.ItemStore.mounted_on c.args.store.now in
    let other : Area = g.S.ItemStore.mounted_on c.write_changed.new.self in
    let k : Geometry = geometry_of d own in
    let before : Items = on g.S.ItemStore.contents d own in
    let mid : Items = on g.S.ItemStore.contents b own in
    let bytes : List ℕ = c.bytes_of_count-bytes.result in
    let more : count_of (Some bytes) ≡ count_in (numbering_of own) before + 1 = c.bytes_of_count-bytes.ensures.counts ∙ ap (λ (x : ℕ). x + 1) c.requires.counted in
    let ended = subst (λ (w : WriteFault). ends.WriteEnds {T = Unit {0}} (g.S.ItemStore.price k) (g.S.ItemStore.cap k) own.sectors d b (on g.S.ItemStore.contents d own) (on g.S.ItemStore.contents b own) 0x8000 c.bytes_of_count-bytes.result (Err w)) c.in-Err-NoSpace.field-0-is c.in-Err-NoSpace.ensures.ends in
    record {
      lawful = moved-lawful own other c.write_changed.ensures.area d b c.write_changed.ensures.touches.banks c.requires.here.lawful;
      up = c.in-Err-NoSpace.ensures.stands (ap (λ (w : WriteFault). write_lost {T = Unit {0}} (Err w)) c.in-Err-NoSpace.field-0-is);
      clean = moved-clean numbering_of nvs_counted too_many g.S.ItemStore.contents own other c.in-Err-NoSpace.ensures.area b (subst (HasNoOrphans (numbering_of own)) (sym ended.items) c.requires.here.clean);
    }

pub returns-in-Ok-clause-touches : goal.returns-in-Ok-clause-touches
returns-in-Ok-clause-touches g c =
    let d : Device = g.F.Flash.device c.args.flash.now in
    let b : Device = g.F.Flash.device c.write_changed.new.flash in
    let own : Area = g.S.ItemStore.mounted_on c.args.store.now in
    let other : Area = g.S.ItemStore.mounted_on c.write_changed.new.self in
    let k : Geometry = geometry_of d own in
    let before : Items = on g.S.ItemStore.contents d own in
    let mid : Items = on g.S.ItemStore.contents b own in
    let bytes : List ℕ = c.bytes_of_count-bytes.result in
    let more : count_of (Some bytes) ≡ count_in (numbering_of own) before + 1 = c.bytes_of_count-bytes.ensures.counts ∙ ap (λ (x : ℕ). x + 1) c.requires.counted in
    let e : Device = g.F.Flash.device c.put_new.new.flash in
    let after : Items = on g.S.ItemStore.contents e own in
    then c.in-Ok.ensures.touches (subst (λ (x : Area). Touches (x ∷ []) b e (set_lost c.put_new.result)) c.in-Ok.ensures.area c.put_new.ensures.touches)

pub returns-in-Ok-clause-at_most : goal.returns-in-Ok-clause-at_most
returns-in-Ok-clause-at_most g c =
    let d : Device = g.F.Flash.device c.args.flash.now in
    let b : Device = g.F.Flash.device c.write_changed.new.flash in
    let own : Area = g.S.ItemStore.mounted_on c.args.store.now in
    let other : Area = g.S.ItemStore.mounted_on c.write_changed.new.self in
    let k : Geometry = geometry_of d own in
    let before : Items = on g.S.ItemStore.contents d own in
    let mid : Items = on g.S.ItemStore.contents b own in
    let bytes : List ℕ = c.bytes_of_count-bytes.result in
    let more : count_of (Some bytes) ≡ count_in (numbering_of own) before + 1 = c.bytes_of_count-bytes.ensures.counts ∙ ap (λ (x : ℕ). x + 1) c.requires.counted in
    let e : Device = g.F.Flash.device c.put_new.new.flash in
    let after : Items = on g.S.ItemStore.contents e own in
    calls-within d e 4 k (omega arith) (spends-both d b e own other 1 3 c.in-Ok.ensures.touches.banks c.in-Ok.ensures.area (one-call d b (ends.item_units (geometry_of d own)) c.in-Ok.ensures.at_most) c.put_new.ensures.at_most)

pub returns-in-Ok-clause-store : goal.returns-in-Ok-clause-store
returns-in-Ok-clause-store g c =
    let d : Device = g.F.Flash.device c.args.flash.now in
    let b : Device = g.F.Flash.device c.write_changed.new.flash in
    let own : Area = g.S.ItemStore.mounted_on c.args.store.now in
    let e : Device = g.F.Flash.device c.put_new.new.flash in
    record {
      area = c.put_new.ensures.store.area ∙ c.write_changed.ensures.area;
      sound = subst (λ (x : Area). on g.S.ItemStore.damage e x ≡ None) c.write_changed.ensures.area c.put_new.ensures.store.sound;
      up = λ kept. c.put_new.ensures.store.up kept;
      down = λ lost. c.put_new.ensures.store.down lost;
    }

pub returns-in-Ok-clause-ends : goal.returns-in-Ok-clause-ends
returns-in-Ok-clause-ends g c =
    let d : Device = g.F.Flash.device c.args.flash.now in
    let b : Device = g.F.Flash.device c.write_changed.new.flash in
    let own : Area = g.S.ItemStore.mounted_on c.args.store.now in
    let other : Area = g.S.ItemStore.mounted_on c.write_changed.new.self in
    let k : Geometry = geometry_of d own in
    let before : Items = on g.S.ItemStore.contents d own in
    let mid : Items = on g.S.ItemStore.contents b own in
    let bytes : List ℕ = c.bytes_of_count-bytes.result in
    let more : count_of (Some bytes) ≡ count_in (numbering_of own) before + 1 = c.bytes_of_count-bytes.ensures.counts ∙ ap (λ (x : ℕ). x + 1) c.requires.counted in
    let e : Device = g.F.Flash.device c.put_new.new.flash in
    let after : Items = on g.S.ItemStore.contents e own in
    let is : mid ≡ insert before 0x8000 bytes = c.in-Ok.ensures.ends.items in
    let same : settings_in (numbering_of own) mid ≡ settings_in (numbering_of own) before = ap (settings_in (numbering_of own)) is ∙ raised-same (value_limit own) before c.requires.here.clean bytes c.bytes_of_count-bytes.ensures.two more in
    let few : count_in (numbering_of own) before < 511 = subst (λ (x : ℕ). x < 511) c.requires.counted c.requires.few in
    let all : Touches (own ∷ []) d e (set_lost c.put_new.result) = then c.in-Ok.ensures.touches (subst (λ (x : Area). Touches (x ∷ []) b e (set_lost c.put_new.result)) c.in-Ok.ensures.area c.put_new.ensures.touches) in
    let first : SetEnds (nvs_room g.S.ItemStore.price g.S.ItemStore.cap (geometry_of b own)) own.sectors b e (settings_of own (on g.S.ItemStore.contents b own)) (settings_of own (on g.S.ItemStore.contents e own)) c.args.name.now c.args.value.now c.put_new.result =
    subst (λ (x : Area). SetEnds (nvs_room g.S.ItemStore.price g.S.ItemStore.cap (geometry_of b x)) x.sectors b e (settings_of x (on g.S.ItemStore.contents b x)) (settings_of x (on g.S.ItemStore.contents e x)) c.args.name.now c.args.value.now c.put_new.result) c.in-Ok.ensures.area c.put_new.ensures.ends.ends in
    let second : SetEnds (nvs_room g.S.ItemStore.price g.S.ItemStore.cap k) own.sectors b e (settings_of own (on g.S.ItemStore.contents b own)) (settings_of own (on g.S.ItemStore.contents e own)) c.args.name.now c.args.value.now c.put_new.result =
    subst (λ (x : Geometry). SetEnds (nvs_room g.S.ItemStore.price g.S.ItemStore.cap x) own.sectors b e (settings_of own (on g.S.ItemStore.contents b own)) (settings_of own (on g.S.ItemStore.contents e own)) c.args.name.now c.args.value.now c.put_new.result) (geometry-stays d b own c.in-Ok.ensures.touches.banks) first in
    record {
      ends = set-after (Unit {0}) (nvs_room g.S.ItemStore.price g.S.ItemStore.cap k) own.sectors d b e (settings_of own before) (settings_of own after) c.args.name.now c.args.value.now c.put_new.result (few-free (settings_of own before) c.args.name.now (count-leaves (value_limit own) before c.requires.here.clean few)) (not-stored (numbering_of own) (nvs-numbering (value_limit own)) nvs_counted too_many (nvs-counts (value_limit own)) before c.requires.here.clean c.args.name.now c.args.value.now c.requires.absent) (λ changed. spends-some g.S.ItemStore.contents d e own (own ∷ []) (set_lost c.put_new.result) all (λ same. changed (ap (settings_in (numbering_of own)) same))) (subst (λ (m : Map). SetEnds (nvs_room g.S.ItemStore.price g.S.ItemStore.cap k) own.sectors b e m (settings_of own (on g.S.ItemStore.contents e own)) c.args.name.now c.args.value.now c.put_new.result) same second);
      cut = λ given. subst (λ (m : Map). IsPut m (settings_of own (on g.S.ItemStore.contents e own)) c.args.name.now c.args.value.now) same (subst (λ (x : Area). IsPut (settings_of x (on g.S.ItemStore.contents b x)) (settings_of x (on g.S.ItemStore.contents e x)) c.args.name.now c.args.value.now) c.in-Ok.ensures.area (c.put_new.ensures.ends.cut given));
      few = λ given. subst (λ (x : Area). HasOrphans (numbering_of x) (on g.S.ItemStore.contents e x) 1) c.in-Ok.ensures.area (c.put_new.ensures.ends.few given);
      clean = λ given. subst (λ (x : Area). HasNoOrphans (numbering_of x) (on g.S.ItemStore.contents e x)) c.in-Ok.ensures.area (c.put_new.ensures.ends.clean given);
    }

pub returns-in-Err-PowerLost-clause-store : goal.returns-in-Err-PowerLost-clause-store
returns-in-Err-PowerLost-clause-store g c = record {
  area = c.write_changed.ensures.area;
  sound = c.write_changed.ensures.sound;
  up = λ kept. absurd (false≢true (sym kept));
  down = λ lost. c.in-Err-PowerLost.ensures.down (ap (λ (w : WriteFault). write_lost {T = Unit {0}} (Err w)) c.in-Err-PowerLost.field-0-is);
}

pub returns-in-Err-PowerLost-clause-ends : goal.returns-in-Err-PowerLost-clause-ends
returns-in-Err-PowerLost-clause-ends g c =
    let d : Device = g.F.Flash.device c.args.flash.now in
    let b : Device = g.F.Flash.device c.write_changed.new.flash in
    let own : Area = g.S.ItemStore.mounted_on c.args.store.now in
    let other : Area = g.S.ItemStore.mounted_on c.write_changed.new.self in
    let k : Geometry = geometry_of d own in
    let before : Items = on g.S.ItemStore.contents d own in
    let mid : Items = on g.S.ItemStore.contents b own in
    let bytes : List ℕ = c.bytes_of_count-bytes.result in
    let more : count_of (Some bytes) ≡ count_in (numbering_of own) before + 1 = c.bytes_of_count-bytes.ensures.counts ∙ ap (λ (x : ℕ). x + 1) c.requires.counted in
    let few : count_in (numbering_of own) before < 511 = subst (λ (x : ℕ). x < 511) c.requires.counted c.requires.few in
    let ended = subst (λ (w : WriteFault). ends.WriteEnds {T = Unit {0}} (g.S.ItemStore.price k) (g.S.ItemStore.cap k) own.sectors d b (on g.S.ItemStore.contents d own) (on g.S.ItemStore.contents b own) 0x8000 c.bytes_of_count-bytes.result (Err w)) c.in-Err-PowerLost.field-0-is c.in-Err-PowerLost.ensures.ends in
    record {
      ends = (few-free (settings_of own before) c.args.name.now (count-leaves (value_limit own) before c.requires.here.clean few), not-stored (numbering_of own) (nvs-numbering (value_limit own)) nvs_counted too_many (nvs-counts (value_limit own)) before c.requires.here.clean c.args.name.now c.args.value.now c.requires.absent);
      cut = λ given. elim ended.items [ inl none ↦ inl (ap (settings_in (numbering_of own)) none) | inr put ↦ inl (ap (settings_in (numbering_of own)) put ∙ raised-same (value_limit own) before c.requires.here.clean bytes c.bytes_of_count-bytes.ensures.two more) ];
      few = λ given. elim ended.items [ inl none ↦ no-orphans (numbering_of own) mid 1 (subst (HasNoOrphans (numbering_of own)) (sym none) c.requires.here.clean) | inr put ↦ no-orphans (numbering_of own) mid 1 (subst (HasNoOrphans (numbering_of own)) (sym put) (raised-kept (value_limit own) before c.requires.here.clean bytes c.bytes_of_count-bytes.ensures.two more)) ];
      clean = λ kept. absurd {A = HasNoOrphans (numbering_of own) mid} (false≢true (sym kept));
    }

pub returns-in-Err-NoSpace-clause-store : goal.returns-in-Err-NoSpace-clause-store
returns-in-Err-NoSpace-clause-store g c =
    let still : set_lost {T = Unit {0}} (Err c.refused.result) ≡ false = ap (λ (w : SetFault). set_lost {T = Unit {0}} (Err w)) c.refused.ensures in
    record {
      area = c.write_changed.ensures.area;
      sound = c.write_changed.ensures.sound;
      up = λ kept. c.in-Err-NoSpace.ensures.stands (ap (λ (w : WriteFault). write_lost {T = Unit {0}} (Err w)) c.in-Err-NoSpace.field-0-is);
      down = λ lost. absurd (false≢true (sym still ∙ lost));
    }

pub returns-in-Err-NoSpace-clause-ends : goal.returns-in-Err-NoSpace-clause-ends
returns-in-Err-NoSpace-clause-ends g c =
    let d : Device = g.F.Flash.device c.args.flash.now in
    let b : Device = g.F.Flash.device c.write_changed.new.flash in
    let own : Area = g.S.ItemStore.mounted_on c.args.store.now in
    let other : Area = g.S.ItemStore.mounted_on c.write_changed.new.self in
    let k : Geometry = geometry_of d own in
    let before : Items = on g.S.ItemStore.contents d own in
    let mid : Items = on g.S.ItemStore.contents b own in
    let bytes : List ℕ = c.bytes_of_count-bytes.result in
    let more : count_of (Some bytes) ≡ count_in (numbering_of own) before + 1 = c.bytes_of_count-bytes.ensures.counts ∙ ap (λ (x : ℕ). x + 1) c.requires.counted in
    let few : count_in (numbering_of own) before < 511 = subst (λ (x : ℕ). x < 511) c.requires.counted c.requires.few in
    let ended = subst (λ (w : WriteFault). ends.WriteEnds {T = Unit {0}} (g.S.ItemStore.price k) (g.S.ItemStore.cap k) own.sectors d b (on g.S.ItemStore.contents d own) (on g.S.ItemStore.contents b own) 0x8000 c.bytes_of_count-bytes.result (Err w)) c.in-Err-NoSpace.field-0-is c.in-Err-NoSpace.ensures.ends in
    let still : set_lost {T = Unit {0}} (Err c.refused.result) ≡ false = ap (λ (w : SetFault). set_lost {T = Unit {0}} (Err w)) c.refused.ensures in
    record {
      ends = subst (λ (w : SetFault). SetEnds {T = Unit {0}} (nvs_room g.S.ItemStore.price g.S.ItemStore.cap k) own.sectors d b (settings_of own (on g.S.ItemStore.contents d own)) (settings_of own (on g.S.ItemStore.contents b own)) c.args.name.now c.args.value.now (Err w)) (sym c.refused.ensures) (count-refused (value_limit own) before c.requires.here.clean c.args.name.now c.args.value.now c.requires.absent (g.S.ItemStore.price k) (g.S.ItemStore.cap k) own.sectors bytes mid c.in-Err-NoSpace.field-0-0 c.in-Err-NoSpace.field-0-1 c.bytes_of_count-bytes.ensures.two (count-leaves (value_limit own) before c.requires.here.clean few) ended c.price_of_pair-need.result ((nvs_room g.S.ItemStore.price g.S.ItemStore.cap (geometry_of b other)).cost (settings_of other (on g.S.ItemStore.contents b other))) c.price_of_pair-need.ensures.value (moved-cost numbering_of nvs_counted too_many g.S.ItemStore.contents own other c.in-Err-NoSpace.ensures.area g.S.ItemStore.price g.S.ItemStore.cap d b (settings_of own before) c.in-Err-NoSpace.ensures.touches.banks (ap (settings_in (numbering_of own)) ended.items)));
      cut = λ lost. absurd {A = IsPut (settings_of own before) (settings_of own mid) c.args.name.now c.args.value.now} (false≢true (sym still ∙ lost));
      few = λ lost. absurd {A = HasOrphans (numbering_of own) mid 1} (false≢true (sym still ∙ lost));
      clean = λ kept. subst (HasNoOrphans (numbering_of own)) (sym ended.items) c.requires.here.clean;
    }

-- the count is raised, and the pair is put behind the last one
pub returns-in-Ok-clause-items : goal.returns-in-Ok-clause-items
returns-in-Ok-clause-items g c =
    let d : Device = g.F.Flash.device c.args.flash.now in
    let b : Device = g.F.Flash.device c.write_changed.new.flash in
    let own : Area = g.S.ItemStore.mounted_on c.args.store.now in
    let e : Device = g.F.Flash.device c.put_new.new.flash in
    let before : Items = on g.S.ItemStore.contents d own in
    let mid : Items = on g.S.ItemStore.contents b own in
    let bytes : List ℕ = c.bytes_of_count-bytes.result in
    let spelled : bytes ≡ count_bytes (count_in (numbering_of own) before + 1) = c.bytes_of_count-bytes.ensures.spelled ∙ ap (λ (x : ℕ). count_bytes (x + 1)) c.requires.counted in
    let counts : is_count (Some bytes) ≡ true = ap (λ (x : ℕ). x == 2) c.bytes_of_count-bytes.ensures.two in
    let more : count_of (Some bytes) ≡ count_in (numbering_of own) before + 1 = c.bytes_of_count-bytes.ensures.counts ∙ ap (λ (x : ℕ). x + 1) c.requires.counted in
    raised-leave (numbering_of own) before c.args.name.now c.args.value.now c.requires.absent c.requires.full bytes counts more spelled mid (on g.S.ItemStore.contents e own) (0x8001 + c.args.count) c.put_new.result c.in-Ok.ensures.ends.items
    (ap (λ (x : ℕ). 0x8001 + x) c.requires.counted)
    (subst (λ (x : Area). MakesPuts (on g.S.ItemStore.contents b x) (on g.S.ItemStore.contents e x) (pair_at_id (numbering_of x) (0x8001 + c.args.count) c.args.name.now c.args.value.now) c.put_new.result) c.in-Ok.ensures.area c.put_new.ensures.items)

pub returns-in-Err-PowerLost-clause-items : goal.returns-in-Err-PowerLost-clause-items
returns-in-Err-PowerLost-clause-items g c =
    let d : Device = g.F.Flash.device c.args.flash.now in
    let b : Device = g.F.Flash.device c.write_changed.new.flash in
    let own : Area = g.S.ItemStore.mounted_on c.args.store.now in
    let before : Items = on g.S.ItemStore.contents d own in
    let mid : Items = on g.S.ItemStore.contents b own in
    let bytes : List ℕ = c.bytes_of_count-bytes.result in
    let spelled : bytes ≡ count_bytes (count_in (numbering_of own) before + 1) = c.bytes_of_count-bytes.ensures.spelled ∙ ap (λ (x : ℕ). count_bytes (x + 1)) c.requires.counted in
    let counts : is_count (Some bytes) ≡ true = ap (λ (x : ℕ). x == 2) c.bytes_of_count-bytes.ensures.two in
    let more : count_of (Some bytes) ≡ count_in (numbering_of own) before + 1 = c.bytes_of_count-bytes.ensures.counts ∙ ap (λ (x : ℕ). x + 1) c.requires.counted in
    let k : Geometry = geometry_of d own in
    let ended = subst (λ (w : WriteFault). ends.WriteEnds {T = Unit {0}} (g.S.ItemStore.price k) (g.S.ItemStore.cap k) own.sectors d b before mid 0x8000 bytes (Err w)) c.in-Err-PowerLost.field-0-is c.in-Err-PowerLost.ensures.ends in
    count-cut (numbering_of own) before c.args.name.now c.args.value.now c.requires.absent c.requires.full bytes counts more spelled (Unit {0}) mid ended.items

pub returns-in-Err-NoSpace-clause-items : goal.returns-in-Err-NoSpace-clause-items
returns-in-Err-NoSpace-clause-items g c =
    let d : Device = g.F.Flash.device c.args.flash.now in
    let b : Device = g.F.Flash.device c.write_changed.new.flash in
    let own : Area = g.S.ItemStore.mounted_on c.args.store.now in
    let before : Items = on g.S.ItemStore.contents d own in
    let mid : Items = on g.S.ItemStore.contents b own in
    let bytes : List ℕ = c.bytes_of_count-bytes.result in
    let k : Geometry = geometry_of d own in
    let ended = subst (λ (w : WriteFault). ends.WriteEnds {T = Unit {0}} (g.S.ItemStore.price k) (g.S.ItemStore.cap k) own.sectors d b before mid 0x8000 bytes (Err w)) c.in-Err-NoSpace.field-0-is c.in-Err-NoSpace.ensures.ends in
    subst (λ (w : SetFault). SetLeavesItems {T = Unit {0}} (numbering_of own) before mid c.args.name.now c.args.value.now (Err w)) (sym c.refused.ensures) (inl ended.items)

-- a count fits a sector
pub unreachable-requires : goal.unreachable-requires
unreachable-requires g c =
    let d : Device = g.F.Flash.device c.args.flash.now in
    let b : Device = g.F.Flash.device c.write_changed.new.flash in
    let own : Area = g.S.ItemStore.mounted_on c.args.store.now in
    let k : Geometry = geometry_of d own in
    let bytes : List ℕ = c.bytes_of_count-bytes.result in
    let ended = subst (λ (w : WriteFault). ends.WriteEnds {T = Unit {0}} (g.S.ItemStore.price k) (g.S.ItemStore.cap k) own.sectors d b (on g.S.ItemStore.contents d own) (on g.S.ItemStore.contents b own) 0x8000 bytes (Err w)) c.in-Err-TooLong.field-0-is c.in-Err-TooLong.ensures.ends in
    let two : length bytes ≡ 2 = c.bytes_of_count-bytes.ensures.two in
    let least : 256 ≤ value_limit own = limit-least own in
    let short : length bytes ≤ value_limit own = omega arith in
    let serves = g.met.S.ItemStore.stands_serves c.args.store.now k (sectors_of d own) c.requires.here.up in
    let fits : g.S.ItemStore.price k (length bytes) ≤ g.S.ItemStore.cap k = g.met.S.ItemStore.fits d own (length bytes) c.requires.here.lawful serves short in
    let long : g.S.ItemStore.cap k < g.S.ItemStore.price k (length bytes) = ended.0 in
    omega arith
