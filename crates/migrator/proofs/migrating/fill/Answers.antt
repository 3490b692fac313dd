use Rattle.std.proofs.Common.{◌≡◌, ℕ, [], ◌∷◌, All, List, length, map, refl, sym, ap, subst, ◌∙◌}
use Rattle.std.specs.FinMap as maps
use Rattle.std.proofs.lemmas.List.{length-map}
use Rattle.flash_sim.specs.Device.{Device}
use Rattle.flash_sim.specs.declared.flash.Bank.{Bank}
use Rattle.flash_map.specs.Area.{geometry_of, value_limit}
use Rattle.flash_map.specs.Lawful.{IsLawfulFor}
use Rattle.flash_map.specs.Touches.{Touches}
use Rattle.flash_map.specs.declared.area.Area.{Area}
use Rattle.flash_map.proofs.Apart.{same_apart}
use Rattle.flash_map.proofs.Touches.{untouched}
use Rattle.flash_map.specs.On.{on, StandsOn}
use Rattle.backend_api.specs.Map.{Map, IsValue}
use Rattle.migrator.specs.Copying.{pair_of}
use Rattle.migrator.specs.Migrating.{migrate_lost, Fills, fill_units}
use Rattle.migrator.specs.declared.copying.Setting.{Setting}
use Rattle.migrator.proofs.Moving.{blank-ends, fill-ends, fill-touches, filled-if}
use Rattle.migrator.proofs.Spent.{filled-between, filled-most, most_none, on-ok, opened-first}
use Rattle.migrator.proofs.Values.{limit-same}
use Rattle.migrator.proofs.migrating.fill.Goals as goal

pub returns-in_default : goal.returns-in_default
returns-in_default g c =
    let a : Device = g.F.Flash.device c.args.flash.now in
    record {
      touches = untouched (c.args.area ∷ []) a;
      source = refl;
      ends = tt;
      on = tt;
      stands = tt;
      spends = (most_none a a (fill_units (geometry_of a c.args.area) (maps.len (on g.K.Backend.contents a (g.K.Backend.mounted_on c.args.from.now)))) refl, tt);
    }

pub returns-in-Err : goal.returns-in-Err
returns-in-Err g c =
    let a : Device = g.F.Flash.device c.args.flash.now in
    let b : Device = g.F.Flash.device c.open_blank-opened.new.flash in
    record {
      touches = c.in-Err.ensures.touches;
      source = same_apart (g.met.F.Flash.is_lawful c.args.flash.now) (g.met.F.Flash.is_lawful c.open_blank-opened.new.flash) c.requires.lawful_from.in_bank c.requires.apart c.in-Err.ensures.touches;
      ends = blank-ends g.row.K.Denot (g.K.Backend.room c.args.area (geometry_of a c.args.area)) c.args.area.sectors (on g.K.Backend.contents a (g.K.Backend.mounted_on c.args.from.now)) (on g.K.Backend.contents b c.args.area) c.in-Err.fault c.in-Err.ensures.ends;
      on = tt;
      stands = tt;
      spends = (opened-first a b c.args.area (maps.len (on g.K.Backend.contents a (g.K.Backend.mounted_on c.args.from.now))) c.open_blank-opened.ensures.at_most, tt);
    }

pub put_all-copied-requires : goal.put_all-copied-requires
put_all-copied-requires g c =
    let b : Device = g.F.Flash.device c.open_blank-opened.new.flash in
    let there : g.K.Backend.mounted_on c.in-Ok-opened.to ≡ c.args.area = c.in-Ok-opened.ensures.on in
    let limit : value_limit (g.K.Backend.mounted_on c.in-Ok-opened.to) ≡ value_limit (g.K.Backend.mounted_on c.args.from.now) =
    limit-same (g.K.Backend.mounted_on c.in-Ok-opened.to) (g.K.Backend.mounted_on c.args.from.now) (ap (λ (x : Area). x.version) there ∙ c.requires.version) in
    let lawful : IsLawfulFor b.banks c.args.area = subst (λ (banks : List Bank). IsLawfulFor banks c.args.area) (sym c.open_blank-opened.ensures.touches.banks) c.requires.lawful in
    let values : All (λ (setting : Setting). IsValue (value_limit (g.K.Backend.mounted_on c.args.from.now)) setting.value.items) c.deref.result.now =
    subst (λ (settings : List Setting). All (λ setting. IsValue (value_limit (g.K.Backend.mounted_on c.args.from.now)) setting.value.items) settings) (sym c.deref.ensures.value) c.in-Ok.ensures.values in
    record {
      lawful = subst (λ (x : Area). IsLawfulFor b.banks x) (sym there) lawful;
      stands = c.in-Ok-opened.ensures.stands;
      empty = ap (on g.K.Backend.contents b) there ∙ c.in-Ok-opened.ensures.ends;
      values = subst (λ (n : ℕ). All (λ setting. IsValue n setting.value.items) c.deref.result.now) (sym limit) values;
    }

pub returns : goal.returns
returns g c =
    let a : Device = g.F.Flash.device c.args.flash.now in
    let b : Device = g.F.Flash.device c.open_blank-opened.new.flash in
    let e : Device = g.F.Flash.device c.put_all-copied.new.flash in
    let m : Map = on g.K.Backend.contents a (g.K.Backend.mounted_on c.args.from.now) in
    let banks : b.banks ≡ a.banks = c.open_blank-opened.ensures.touches.banks in
    let there : g.K.Backend.mounted_on c.in-Ok-opened.to ≡ c.args.area = c.in-Ok-opened.ensures.on in
    let pairs : map pair_of c.deref.result.now ≡ maps.entries m = ap (map pair_of) c.deref.ensures.value ∙ c.in-Ok.ensures.pairs in
    let names : length c.deref.result.now ≡ maps.len m = sym (length-map c.deref.result.now pair_of) ∙ ap length pairs ∙ sym (maps.len-entries m) in
    let touches : Touches (c.args.area ∷ []) a e (migrate_lost c.filled_as.result) =
    fill-touches g.K.Backend.mounted_on g.K.Backend.contents g.K.Backend.room a b e c.args.area c.in-Ok-opened.to c.put_all-copied.new.to c.put_all-copied.result c.filled_as.result there c.in-Ok-opened.ensures.touches c.put_all-copied.ensures.touches c.filled_as.ensures in
    record {
      touches = touches;
      source = same_apart (g.met.F.Flash.is_lawful c.args.flash.now) (g.met.F.Flash.is_lawful c.put_all-copied.new.flash) c.requires.lawful_from.in_bank c.requires.apart touches;
      ends = fill-ends g.K.Backend.mounted_on g.K.Backend.contents g.K.Backend.room a b e c.args.area m c.in-Ok-opened.to c.put_all-copied.new.to c.put_all-copied.result c.filled_as.result banks there (c.put_all-copied.ensures.ends m pairs) c.filled_as.ensures;
      on = filled-if (λ state. g.K.Backend.mounted_on state ≡ c.args.area) c.put_all-copied.new.to c.put_all-copied.result c.filled_as.result c.filled_as.ensures (λ kept. c.put_all-copied.ensures.area ∙ there);
      stands = filled-if (λ state. StandsOn g.K.Backend.mounted_on g.K.Backend.stands e state) c.put_all-copied.new.to c.put_all-copied.result c.filled_as.result c.filled_as.ensures c.put_all-copied.ensures.stands;
      spends = (
        filled-most a b e c.args.area (g.K.Backend.mounted_on c.in-Ok-opened.to) (length c.deref.result.now) (maps.len m) banks there names c.open_blank-opened.ensures.at_most c.put_all-copied.ensures.at_most,
        on-ok c.filled_as.result (Fills a e c.args.area (maps.len m))
            (filled-between a b e c.args.area (g.K.Backend.mounted_on c.in-Ok-opened.to) (length c.deref.result.now) (maps.len m) banks there names c.in-Ok-opened.ensures.erased c.put_all-copied.ensures.at_most),
      );
    }
