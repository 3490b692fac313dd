use Rattle.std.proofs.Common.{refl, sym, ◌∙◌}
use Rattle.flash_map.specs.Area.{geometry_of, sectors_of}
use Rattle.flash_map.specs.On.{on}
use Rattle.settings_core.proofs.DirectLemmas.{direct_of_pairs, reports_none}
use Rattle.settings_core.proofs.ListedLemmas.{few_pairs}
use Rattle.settings_core.proofs.settings.Settings.load_direct.Goals as goal

pub returns-then-not-is_up : goal.returns-then-not-is_up
returns-then-not-is_up g c = (sym c.is_up.ensures ∙ c.if-not-is_up.true, refl)

pub settings-requires-clause-lawful : goal.settings-requires-clause-lawful
settings-requires-clause-lawful g c = c.requires.lawful

pub settings-requires-clause-stands : goal.settings-requires-clause-stands
settings-requires-clause-stands g c = c.requires.stands (sym c.is_up.ensures ∙ c.if-not-is_up.false)

pub give_all-requires : goal.give_all-requires
give_all-requires g c =
    let area = g.K.Backend.mounted_on c.args.self.now.backend in
    let d = g.F.Flash.device c.args.flash.now in
    let stands = c.requires.stands (sym c.is_up.ensures ∙ c.if-not-is_up.false) in
    let serves = g.met.K.Backend.stands_serves c.args.self.now.backend (geometry_of d area) (sectors_of d area) stands in
    let reads = g.met.K.Backend.stands_reads c.args.self.now.backend (geometry_of d area) (sectors_of d area) stands in
    let is_settings = g.met.K.Backend.reads_settings d area (g.met.F.Flash.is_lawful c.args.flash.now) c.requires.lawful serves reads in
    record { few = few_pairs (on g.K.Backend.contents d area) _ c.in-Ok.ensures is_settings.few }

pub returns-in-Ok : goal.returns-in-Ok
returns-in-Ok g c = direct_of_pairs _ _ _ _ _ _ _ (sym c.is_up.ensures ∙ c.if-not-is_up.false) c.in-Ok.ensures c.give_all.ensures

pub returns-in-Err : goal.returns-in-Err
returns-in-Err g c = (sym c.is_up.ensures ∙ c.if-not-is_up.false, reports_none _ _ _)
