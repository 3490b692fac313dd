use Rattle.std.proofs.Common.{◌≡◌, ◌∙◌, true, ◌∷◌, None, sym, ap, subst}
use Rattle.std.specs.Prelude.{All, OnOk}
use Rattle.std.proofs.lemmas.Bool.{false≢true}
use Rattle.flash_map.specs.declared.area.Role.{Role}
use Rattle.flash_map.specs.Area.{geometry_of, value_limit}
use Rattle.item_session.specs.Line.{ids_end}
use Rattle.item_session.specs.declared.line.Line.TheVariants.{Mount}
use Rattle.item_session.specs.Device.{IsServed, RestsOn}
use Rattle.item_session.specs.Owing.{OwesOn, boot_units}
use Rattle.item_session.specs.Running.{RunEnds}
use Rattle.item_session.specs.Standing.{damage_on}
use Rattle.item_session.proofs.ValueLemmas.{nvs_takes_values, zms_takes_values}
use Rattle.item_store.specs.Standing.{IsStoreArea}
use Rattle.session_jobs.specs.ItemInputs.{has_items, ids_of}
use Rattle.session_jobs.specs.ItemJobs.{role_format}
use Rattle.session_jobs.proofs.item_running.run_by_role.Goals as goal

pub run-requires-clause-area : goal.run-requires-clause-area
run-requires-clause-area g c =
    subst (λ (r : Role). IsStoreArea r (g.B.Flash.device c.args.bench.now).banks c.args.area.now) c.in-Nvs.is c.requires.serves.is_area

pub run-requires-clause-values : goal.run-requires-clause-values
run-requires-clause-values g c =
    nvs_takes_values (g.B.Flash.device c.args.bench.now) c.args.area.now
    (subst (λ (r : Role). IsStoreArea r (g.B.Flash.device c.args.bench.now).banks c.args.area.now) c.in-Nvs.is c.requires.serves.is_area)

pub run-requires-clause-lines : goal.run-requires-clause-lines
run-requires-clause-lines g c =
    subst (λ (r : Role). All (IsServed (ids_end (ids_of r)) (value_limit c.args.area.now)) c.args.lines.now) c.in-Nvs.is c.requires.lines

pub returns-in-Nvs-clause-ends : goal.returns-in-Nvs-clause-ends
returns-in-Nvs-clause-ends g c =
    subst (λ (r : Role). RunEnds (role_format r) c.args.area.now (Mount ∷ c.args.lines.now) (g.B.Flash.device c.args.bench.now) (g.B.Flash.device c.run.new.bench) c.run.result) (sym c.in-Nvs.is) c.run.ensures.ends

pub returns-in-Nvs-clause-undamaged : goal.returns-in-Nvs-clause-undamaged
returns-in-Nvs-clause-undamaged g c =
    subst (λ (r : Role). damage_on (role_format r) (g.B.Flash.device c.args.bench.now) c.args.area.now ≡ None → damage_on (role_format r) (g.B.Flash.device c.run.new.bench) c.args.area.now ≡ None) (sym c.in-Nvs.is) c.run.ensures.undamaged

pub returns-in-Nvs-clause-left : goal.returns-in-Nvs-clause-left
returns-in-Nvs-clause-left g c =
    let d = g.B.Flash.device c.args.bench.now in
    let e = g.B.Flash.device c.run.new.bench in
    subst (λ (r : Role). damage_on (role_format r) d c.args.area.now ≡ None → OwesOn (role_format r) e c.args.area.now (boot_units (role_format r) (geometry_of d c.args.area.now))) (sym c.in-Nvs.is) c.run.ensures.left

pub returns-in-Nvs-clause-rests : goal.returns-in-Nvs-clause-rests
returns-in-Nvs-clause-rests g c =
    subst (λ (r : Role). OnOk c.run.result ((g.B.Flash.device c.run.new.bench).is_on ≡ true → RestsOn (role_format r) (g.B.Flash.device c.run.new.bench) c.args.area.now)) (sym c.in-Nvs.is) c.run.ensures.rests

pub run-requires-in-Zms-clause-area : goal.run-requires-in-Zms-clause-area
run-requires-in-Zms-clause-area g c =
    subst (λ (r : Role). IsStoreArea r (g.B.Flash.device c.args.bench.now).banks c.args.area.now) c.in-Zms.is c.requires.serves.is_area

pub run-requires-in-Zms-clause-values : goal.run-requires-in-Zms-clause-values
run-requires-in-Zms-clause-values g c =
    zms_takes_values (g.B.Flash.device c.args.bench.now) c.args.area.now
    (subst (λ (r : Role). IsStoreArea r (g.B.Flash.device c.args.bench.now).banks c.args.area.now) c.in-Zms.is c.requires.serves.is_area)

pub run-requires-in-Zms-clause-lines : goal.run-requires-in-Zms-clause-lines
run-requires-in-Zms-clause-lines g c =
    subst (λ (r : Role). All (IsServed (ids_end (ids_of r)) (value_limit c.args.area.now)) c.args.lines.now) c.in-Zms.is c.requires.lines

pub returns-in-Zms-clause-ends : goal.returns-in-Zms-clause-ends
returns-in-Zms-clause-ends g c =
    subst (λ (r : Role). RunEnds (role_format r) c.args.area.now (Mount ∷ c.args.lines.now) (g.B.Flash.device c.args.bench.now) (g.B.Flash.device c.run-in-Zms.new.bench) c.run-in-Zms.result) (sym c.in-Zms.is) c.run-in-Zms.ensures.ends

pub returns-in-Zms-clause-undamaged : goal.returns-in-Zms-clause-undamaged
returns-in-Zms-clause-undamaged g c =
    subst (λ (r : Role). damage_on (role_format r) (g.B.Flash.device c.args.bench.now) c.args.area.now ≡ None → damage_on (role_format r) (g.B.Flash.device c.run-in-Zms.new.bench) c.args.area.now ≡ None) (sym c.in-Zms.is) c.run-in-Zms.ensures.undamaged

pub returns-in-Zms-clause-left : goal.returns-in-Zms-clause-left
returns-in-Zms-clause-left g c =
    let d = g.B.Flash.device c.args.bench.now in
    let e = g.B.Flash.device c.run-in-Zms.new.bench in
    subst (λ (r : Role). damage_on (role_format r) d c.args.area.now ≡ None → OwesOn (role_format r) e c.args.area.now (boot_units (role_format r) (geometry_of d c.args.area.now))) (sym c.in-Zms.is) c.run-in-Zms.ensures.left

pub returns-in-Zms-clause-rests : goal.returns-in-Zms-clause-rests
returns-in-Zms-clause-rests g c =
    subst (λ (r : Role). OnOk c.run-in-Zms.result ((g.B.Flash.device c.run-in-Zms.new.bench).is_on ≡ true → RestsOn (role_format r) (g.B.Flash.device c.run-in-Zms.new.bench) c.args.area.now)) (sym c.in-Zms.is) c.run-in-Zms.ensures.rests

pub unreachable-requires : goal.unreachable-requires
unreachable-requires g c = false≢true (sym (ap has_items c.in-Fcb.is) ∙ c.requires.serves.has)

pub unreachable-requires-in-Sel : goal.unreachable-requires-in-Sel
unreachable-requires-in-Sel g c = false≢true (sym (ap has_items c.in-Sel.is) ∙ c.requires.serves.has)
