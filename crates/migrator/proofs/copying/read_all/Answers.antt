use Rattle.std.proofs.Common.{◌≡◌, map, sym, ap, ◌∙◌}
use Rattle.std.specs.FinMap as maps
use Rattle.std.proofs.lemmas.List.{map-id}
use Rattle.std.proofs.lemmas.Map.Iter.{iter_end}
use Rattle.flash_sim.specs.Device.{Device}
use Rattle.flash_map.specs.Area.{sectors_of, geometry_of, value_limit}
use Rattle.flash_map.specs.On.{on}
use Rattle.backend_api.specs.Map.{Map, IsValue}
use Rattle.migrator.specs.Copying.{pair_of}
use Rattle.migrator.proofs.Values.{values-of}
use Rattle.migrator.proofs.ErrLemmas.{not-ok}
use Rattle.migrator.proofs.copying.read_all.Goals as goal

pub returns : goal.returns
returns g c =
    let d : Device = g.F.Flash.device c.args.flash.now in
    let area = g.K.Backend.mounted_on c.args.from.now in
    let m : Map = on g.K.Backend.contents d area in
    let lawful = g.met.K.Backend.reads_settings d area (g.met.F.Flash.is_lawful c.args.flash.now) c.requires.lawful
    (g.met.K.Backend.stands_serves c.args.from.now (geometry_of d area) (sectors_of d area) c.requires.stands) (g.met.K.Backend.stands_reads c.args.from.now (geometry_of d area) (sectors_of d area) c.requires.stands) in
    let whole = (iter_end (λ x. x) c.in_ok-found.found.entries c.loop-name.yielded c.into_iter-name-iterator.result c.loop-name.name-iterator c.next.new.self c.next.result c.into_iter-name-iterator.ensures.into_iter_gives.0 c.loop-name.yielded_by c.in-None.is c.next.ensures.steps).0 in
    let pairs : map pair_of c.loop-name.all.items ≡ maps.entries m =
    c.loop-name.invariant ∙ ap (map (λ pair. (pair.0, pair.1.now))) (sym (map-id c.loop-name.yielded) ∙ whole) ∙ c.in_ok-found.ensures in
    record {
      pairs = pairs;
      values = values-of (IsValue (value_limit area)) m c.loop-name.all.items pairs lawful.values;
    }

pub settings-requires-clause-lawful : goal.settings-requires-clause-lawful
settings-requires-clause-lawful g c = c.requires.lawful

pub settings-requires-clause-stands : goal.settings-requires-clause-stands
settings-requires-clause-stands g c = c.requires.stands

pub returns-in_err-found : goal.returns-in_err-found
returns-in_err-found g c = record { pairs = not-ok _ c.from_residual.result c.from_residual.ensures.0; values = not-ok _ c.from_residual.result c.from_residual.ensures.0 }

pub returns-in_err-value : goal.returns-in_err-value
returns-in_err-value g c = record {
  pairs = not-ok _ c.from_residual-in_err-value.result c.from_residual-in_err-value.ensures.0;
  values = not-ok _ c.from_residual-in_err-value.result c.from_residual-in_err-value.ensures.0;
}

pub returns-in_err-push : goal.returns-in_err-push
returns-in_err-push g c = record {
  pairs = not-ok _ c.from_residual-in_err-push.result c.from_residual-in_err-push.ensures.0;
  values = not-ok _ c.from_residual-in_err-push.result c.from_residual-in_err-push.ensures.0;
}
