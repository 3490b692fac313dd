-- the label of the trusted area, and all settings
use Rattle.std.proofs.Common.{◌≡◌, ◌∙◌, ◌<◌, ℕ, length, map, ap, rules, subst, sym}
use Rattle.std.specs.FinMap.{entries}
use Rattle.flash_map.specs.declared.area.Area.{Area}
use Rattle.backend_api.specs.Map.{Map}
use Rattle.session_table.specs.Bench.{area_at}
use Rattle.session_table.specs.Step.{as_pair}
use Rattle.migrator.specs.Active.{active_on}
use Rattle.migrator.proofs.AreaLemmas.{store-within}
use Rattle.session.proofs.ActiveAreas.{area_there}
use Rattle.mirror_session.specs.Bench.{meanings}
use Rattle.mirror_session.proofs.HeldLemmas.{at_here, settings_are}
use Rattle.mirror_session.proofs.QuietLemmas.{names}
use Rattle.mirror_session.proofs.reporting.report_all.Goals as goal

pub area_at-area-requires : goal.area_at-area-requires
area_at-area-requires g c =
    let K = g.K.Backend in
    let m = meanings K.damage K.contents K.rests K.room g.K.Priced.prices K.owes in
    let at = at_here K.mounted_on K.stands m K.serves c.args.map.now (g.B.Flash.device c.args.bench.now) c.args.mirror.now c.requires.map c.requires.held in
    subst (λ (n : ℕ). n < length c.args.map.now) (sym c.trusted.ensures) (store-within c.args.map.now c.args.mirror.now.trusted.place at)

pub returns : goal.returns
returns g c =
    let K = g.K.Backend in
    let m = meanings K.damage K.contents K.rests K.room g.K.Priced.prices K.owes in
    let d = g.B.Flash.device c.args.bench.now in
    let place : c.trusted.result ≡ active_on c.args.map.now d = c.trusted.ensures ∙ c.requires.held.named in
    let area : c.area_at-area.result ≡ area_at c.args.map.now (active_on c.args.map.now d) =
    sym (area_there c.args.map.now c.trusted.result c.area_at-area.result c.area_at-area.ensures) ∙ ap (area_at c.args.map.now) place in
    let label : c.in_ok-active.active ≡ c.area_at-area.result.label.bytes = search rules in
    names m c.args.map.now d c.in_ok-active.active c.in_ok-pairs.pairs c.requires.on
    (label ∙ ap (λ (a : Area). a.label.bytes) area)
    (c.in_ok-pairs.ensures ∙ ap (λ (x : Map). map as_pair (entries x)) (sym (settings_are K.mounted_on K.stands m K.serves c.args.map.now d c.args.mirror.now c.requires.map c.requires.held c.requires.on)))
    (c.requires.held.read c.requires.on)
