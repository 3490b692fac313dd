-- A job on a blank area keeps the whole history of each id, for areas of NVS and of ZMS.
use Rattle.std.proofs.Common.{◌≡◌, true, List}
use Rattle.std.proofs.lemmas.Bool.{false≢true}
use Rattle.flash_sim.specs.Bank.{IsLawful}
use Rattle.flash_sim.specs.Device.{Device}
use Rattle.flash_map.specs.declared.area.Area.{Area}
use Rattle.flash_map.specs.declared.area.Role.{Role}
use Rattle.flash_map.specs.declared.area.Role.TheVariants.{Nvs, Zms, Fcb, Sel}
use Rattle.flash_map.specs.Area.{geometry_of, unit_of}
use Rattle.item_session.specs.declared.line.Line.{Line}
use Rattle.item_session.specs.declared.answer.Answer.{Answer}
use Rattle.item_session.specs.Running.{Ran}
use Rattle.item_session.specs.Whole.{IsBlankOn, KeepsWhole}
use Rattle.item_session.proofs.BlankLemmas.{nvs_blank_is_fresh, zms_blank_is_fresh}
use Rattle.item_session.proofs.WholeLemmas.{history_stays_whole}
use Rattle.nvs_format.specs.Formats as nvs
use Rattle.nvs_format.proofs.FormatLemmas.{nvs_is_format}
use Rattle.item_store.specs.Standing.{IsStoreArea}
use Rattle.item_store.proofs.Areas.{unit_is}
use Rattle.zms_format.specs.Formats as zms
use Rattle.zms_format.proofs.FormatLemmas.{zms_is_format}
use Rattle.session_jobs.specs.ItemInputs.{has_items}
use Rattle.session_jobs.specs.ItemJobs.{ServesItems, role_format}

module _ (area : Area) (lines : List Line) (answers : List Answer) (old new : Device) (lawful : IsLawful old.banks old.bytes) (blank : IsBlankOn old area) where
  by_role : (role : Role) → IsStoreArea role old.banks area → has_items role ≡ true → Ran (role_format role) area lines answers old new → KeepsWhole (role_format role) area lines answers old new
  by_role Nvs is has ran = history_stays_whole nvs.format_of area lines answers old new (nvs_is_format (unit_of old area) (unit_is old area lawful is.lawful)) (nvs_blank_is_fresh old area lawful is blank) ran.in_turn
  by_role Zms is has ran = history_stays_whole zms.format_of area lines answers old new (zms_is_format (geometry_of old area)) (zms_blank_is_fresh old area lawful is blank) ran.in_turn
  by_role Fcb is has ran = absurd (false≢true has)
  by_role Sel is has ran = absurd (false≢true has)

  pub stays_whole : ServesItems old area → Ran (role_format area.role) area lines answers old new → KeepsWhole (role_format area.role) area lines answers old new
  stays_whole serves ran = by_role area.role serves.is_area serves.has ran
