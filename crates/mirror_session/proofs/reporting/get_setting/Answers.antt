-- the name has a setting, or none
use Rattle.std.proofs.Common.{◌∙◌, ap, rules}
use Rattle.std.specs.FinMap.{get}
use Rattle.flash_map.specs.On.{on}
use Rattle.backend_api.specs.Map.{IsAbsent, IsStored, Map}
use Rattle.mirror_session.specs.Bench.{meanings}
use Rattle.mirror_session.proofs.HeldLemmas.{settings_are}
use Rattle.mirror_session.proofs.QuietLemmas.{found, missing}
use Rattle.mirror_session.proofs.reporting.get_setting.Goals as goal

pub returns-in_ok-value-in-Some : goal.returns-in_ok-value-in-Some
returns-in_ok-value-in-Some g c =
    let K = g.K.Backend in
    let m = meanings K.damage K.contents K.rests K.room g.K.Priced.prices K.owes in
    let d = g.B.Flash.device c.args.bench.now in
    let stored : IsStored (on K.contents d c.args.mirror.now.trusted.area) c.args.name.now c.in_ok-value-in-Some.value = search rules in
    found m c.args.map.now d c.args.name.now c.in_ok-value-in-Some.value c.requires.on
    (ap (λ (x : Map). get x c.args.name.now) (settings_are K.mounted_on K.stands m K.serves c.args.map.now d c.args.mirror.now c.requires.map c.requires.held c.requires.on) ∙ stored)

pub returns-in-None : goal.returns-in-None
returns-in-None g c =
    let K = g.K.Backend in
    let m = meanings K.damage K.contents K.rests K.room g.K.Priced.prices K.owes in
    let d = g.B.Flash.device c.args.bench.now in
    let absent : IsAbsent (on K.contents d c.args.mirror.now.trusted.area) c.args.name.now = search rules in
    missing m c.args.map.now d c.args.name.now c.requires.on
    (ap (λ (x : Map). get x c.args.name.now) (settings_are K.mounted_on K.stands m K.serves c.args.map.now d c.args.mirror.now c.requires.map c.requires.held c.requires.on) ∙ absent)
