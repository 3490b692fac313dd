use Rattle.std.proofs.Common.{◌≡◌, ℕ, List, Option, Some, None, sym, ap, subst, ◌∙◌}
use Rattle.flash_map.specs.Area.{value_limit}
use Rattle.std.specs.Option.{option_map, option_or}
use Rattle.fcb_ring.specs.declared.record.RecordAt.{RecordAt}
use Rattle.fcb_ring.specs.Standing.{entries_on}
use Rattle.record_settings.specs.Settings.{setting_of}
use Rattle.backend_fcb.specs.Walking.{setting_between}
use Rattle.backend_fcb.specs.declared.record.Setting.{Setting}
use Rattle.backend_fcb.proofs.LookupSteps.{map-or}
use Rattle.backend_fcb.proofs.NameSteps.{Leasts, Pair, said, name_of, name-said, leasts-start, leasts-step, leasts-end, lasts-end}
use Rattle.backend_fcb.proofs.WalkLemmas.{at-listed, for-listed, at-smaller}
use Rattle.backend_fcb.proofs.names.least_setting.Goals as goal

pub loop-at-init : goal.loop-at-init
loop-at-init g c = leasts-start (value_limit c.args.ring.now.area) (entries_on (g.F.Flash.device c.args.flash.now) c.args.ring.now.area) (option_map (λ other. other.now) c.args.after) c.next-at.result c.next-at.ensures.next

pub body-requires-clause-record : goal.body-requires-clause-record
body-requires-clause-record g c =
    let so_far = c.loop-at.invariant in
    at-listed (entries_on (g.F.Flash.device c.args.flash.now) c.args.ring.now.area) c.loop-at.at so_far.done so_far.later c.in-Some.entry so_far.at c.in-Some.is

pub next-at-requires-in-Some-clause-after : goal.next-at-requires-in-Some-clause-after
next-at-requires-in-Some-clause-after g c =
    let so_far = c.loop-at.invariant in
    let list = entries_on (g.F.Flash.device c.args.flash.now) c.args.ring.now.area in
    for-listed list c.in-Some.entry (at-listed list c.loop-at.at so_far.done so_far.later c.in-Some.entry so_far.at c.in-Some.is)

pub loop-at-smaller : goal.loop-at-smaller
loop-at-smaller g c =
    let so_far = c.loop-at.invariant in
    let list = entries_on (g.F.Flash.device c.args.flash.now) c.args.ring.now.area in
    at-smaller list c.loop-at.at c.in-Some.entry c.next-at-in-Some.result c.in-Some.is (at-listed list c.loop-at.at so_far.done so_far.later c.in-Some.entry so_far.at c.in-Some.is) c.next-at-in-Some.ensures.next

pub loop-at-preserved : goal.loop-at-preserved
loop-at-preserved g c =
    let list = entries_on (g.F.Flash.device c.args.flash.now) c.args.ring.now.area in
    let so_far : Leasts (value_limit c.args.ring.now.area) (entries_on (g.F.Flash.device c.args.flash.now) c.args.ring.now.area) (option_map (λ other. other.now) c.args.after) (Some c.in-Some.entry) (said c.loop-at.least) =
    subst (λ (o : Option RecordAt). Leasts (value_limit c.args.ring.now.area) (entries_on (g.F.Flash.device c.args.flash.now) c.args.ring.now.area) (option_map (λ other. other.now) c.args.after) o (said c.loop-at.least)) c.in-Some.is c.loop-at.invariant in
    let setting : said c.setting_between-setting.result ≡ setting_between (option_map (λ other. other.now) c.args.after) (name_of (said c.loop-at.least)) (setting_of (value_limit c.args.ring.now.area) c.body.result.now) =
    c.setting_between-setting.ensures ∙ ap (λ (o : Option (List ℕ)). setting_between (option_map (λ other. other.now) c.args.after) o (setting_of (value_limit c.args.ring.now.area) c.body.result.now)) (name-said c.loop-at.least) in
    let least : said c.or-least.result ≡ option_or (said c.setting_between-setting.result) (said c.loop-at.least) =
    ap said c.or-least.ensures ∙ map-or (λ (s : Setting). (s.name.now, s.value.now)) c.setting_between-setting.result c.loop-at.least in
    subst (λ (o : Option Pair). Leasts (value_limit c.args.ring.now.area) (entries_on (g.F.Flash.device c.args.flash.now) c.args.ring.now.area) (option_map (λ other. other.now) c.args.after) c.next-at-in-Some.result o) (sym least)
    (leasts-step (value_limit c.args.ring.now.area) list (option_map (λ other. other.now) c.args.after) c.in-Some.entry (said c.loop-at.least) so_far c.body.result.now c.body.ensures.body c.next-at-in-Some.result c.next-at-in-Some.ensures.next (said c.setting_between-setting.result) setting)

pub returns : goal.returns
returns g c =
    let limit = value_limit c.args.ring.now.area in
    let list = entries_on (g.F.Flash.device c.args.flash.now) c.args.ring.now.area in
    let so_far : Leasts (value_limit c.args.ring.now.area) (entries_on (g.F.Flash.device c.args.flash.now) c.args.ring.now.area) (option_map (λ other. other.now) c.args.after) None (said c.loop-at.least) =
    subst (λ (o : Option RecordAt). Leasts (value_limit c.args.ring.now.area) (entries_on (g.F.Flash.device c.args.flash.now) c.args.ring.now.area) (option_map (λ other. other.now) c.args.after) o (said c.loop-at.least)) c.in_default.is c.loop-at.invariant in
    record {
      least = leasts-end limit list (option_map (λ other. other.now) c.args.after) c.loop-at.least so_far;
      last = lasts-end limit list (option_map (λ other. other.now) c.args.after) c.loop-at.least so_far;
    }
