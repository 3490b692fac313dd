-- The most of a mount of items, by the role of its area.
use Rattle.std.proofs.Common.{◌≡◌, ℕ, ◌*◌, ◌/◌, refl, ap}
use Rattle.flash_sim.specs.declared.flash.Kind.{Kind as BankKind}
use Rattle.zms_format.specs.Formats.{mount_limit}
use Rattle.session_jobs.specs.ItemJobs.{ErasingItemBoots, NvsItemBoots, RewritableItemBoots}

pub nvs-boots : NvsItemBoots
nvs-boots geometry = refl

pub erasing-boots : ErasingItemBoots
erasing-boots geometry is = ap (λ (kind : BankKind). mount_limit kind geometry.sector) is

pub rewritable-boots : RewritableItemBoots
rewritable-boots geometry is = ap (λ (kind : BankKind). mount_limit kind geometry.sector) is
