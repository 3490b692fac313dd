use Rattle.std.proofs.Common.{◌≡◌, ◌++◌, ℕ, List, length, Option, Some, None, sym, ap, ◌∙◌, arith}
use Rattle.std.proofs.lemmas.List.{append-nil}
use Rattle.flash_sim.specs.Device.{Device}
use Rattle.flash_map.specs.Area.{value_limit}
use Rattle.flash_map.specs.declared.area.Area.{Area}
use Rattle.fcb_ring.specs.Changing.{body_at}
use Rattle.record_settings.specs.Settings.{setting_of}
use Rattle.record_settings.proofs.BodyLemmas.{setting-says}
use Rattle.backend_fcb.specs.Compaction.{is_kept_of, struck_by, noted_by}
use Rattle.backend_fcb.specs.declared.compaction.Kept.{Kept}
use Rattle.backend_fcb.proofs.TableLaws.{without-long}
use Rattle.backend_fcb.proofs.compaction.replace.Goals as goal

pub prefix_of-prefix-requires : goal.prefix_of-prefix-requires
prefix_of-prefix-requires g c =
    (c.in-Some.setting.value.now, (setting-says (value_limit c.args.ring.now.area) c.body-body.result.now c.in-Some.setting.name.now c.in-Some.setting.value.now (sym c.in-Some.ensures)).is)

pub note-requires : goal.note-requires
note-requires g c =
    let d : Device = g.F.Flash.device c.args.flash.now in
    let area : Area = c.args.ring.now.area in
    let same = ap length c.strike_name.ensures in
    let few = without-long (is_kept_of d area c.in-Some.setting.name.now) c.args.table.now.items in
    omega (arith, same, few, c.requires.room)

pub returns-in-Some : goal.returns-in-Some
returns-in-Some g c =
    let d : Device = g.F.Flash.device c.args.flash.now in
    let area : Area = c.args.ring.now.area in
    let says : setting_of (value_limit area) (body_at d area c.args.at) ≡ Some (c.in-Some.setting.name.now, c.in-Some.setting.value.now) = ap (setting_of (value_limit area)) (sym c.body-body.ensures.bytes) ∙ sym c.in-Some.ensures in
    c.note.ensures
    ∙ ap (λ (l : List Kept). l ++ noted_by c.args.at (Some (c.in-Some.setting.name.now, c.in-Some.setting.value.now))) c.strike_name.ensures
    ∙ ap (λ (s : Option (List ℕ × List ℕ)). struck_by d area s c.args.table.now.items ++ noted_by c.args.at s) (sym says)

pub returns-in-None : goal.returns-in-None
returns-in-None g c =
    let d : Device = g.F.Flash.device c.args.flash.now in
    let area : Area = c.args.ring.now.area in
    let says : setting_of (value_limit area) (body_at d area c.args.at) ≡ None = ap (setting_of (value_limit area)) (sym c.body-body.ensures.bytes) ∙ sym c.in-None.ensures in
    sym (append-nil c.args.table.now.items)
    ∙ ap (λ (s : Option (List ℕ × List ℕ)). struck_by d area s c.args.table.now.items ++ noted_by c.args.at s) (sym says)
