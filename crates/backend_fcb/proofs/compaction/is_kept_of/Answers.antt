use Rattle.std.proofs.Common.{◌≡◌, false, ℕ, List, sym, ap, ◌∙◌}
use Rattle.std.specs.Prelude.{nat_eq}
use Rattle.std.specs.List.{starts_with}
use Rattle.flash_map.specs.Area.{value_limit}
use Rattle.fcb_ring.specs.Changing.{body_at}
use Rattle.record_settings.specs.Live.{has_name}
use Rattle.record_settings.specs.Settings.{setting_of}
use Rattle.backend_fcb.proofs.PrefixNames.{other-name}
use Rattle.backend_fcb.proofs.compaction.is_kept_of.Goals as goal

pub returns-else-starts_with : goal.returns-else-starts_with
returns-else-starts_with g c =
    let d = g.F.Flash.device c.args.flash.now in
    let bytes : c.body-body.result.now ≡ body_at (g.F.Flash.device c.args.flash.now) c.args.ring.now.area c.args.kept.now.at = c.body-body.ensures.bytes in
    let other : starts_with nat_eq c.body-body.result.now c.args.prefix.now ≡ false = sym c.starts_with.ensures.value ∙ c.if-starts_with.false in
    c.if-starts_with.false
    ∙ sym (ap (λ (b : List ℕ). has_name c.args.name.now (setting_of (value_limit c.args.ring.now.area) b)) (sym bytes)
    ∙ other-name (value_limit c.args.ring.now.area) c.args.name.now c.body-body.result.now (ap (λ (prefix : List ℕ). starts_with nat_eq c.body-body.result.now prefix) (sym c.requires.prefix) ∙ other))
