-- The law on what a lawful area without damage reads as.
use Rattle.std.specs.Prelude.{◌≡◌, None}
use Rattle.std.proofs.Common.{inl}
use Rattle.flash_sim.specs.Bank.{IsLawful}
use Rattle.flash_sim.specs.Device.{Device}
use Rattle.flash_map.specs.Area.{value_limit}
use Rattle.flash_map.specs.declared.area.Area.{Area}
use Rattle.flash_map.specs.declared.area.Role.TheVariants.{Fcb as FcbRole}
use Rattle.flash_map.specs.Lawful.{IsLawfulFor}
use Rattle.fcb_ring.proofs.FewLemmas.{few-on}
use Rattle.backend_api.specs.Map.{IsSettings}
use Rattle.record_settings.proofs.PrefixLemmas.{is-settings}
use Rattle.backend_fcb.specs.Standing.{damage_on, settings_on, bodies_on}

-- lawful names and values throughout, and fewer than 2^32
pub reads_settings : (d : Device) (area : Area) → IsLawful d.banks d.bytes → IsLawfulFor d.banks area
    → area.role ≡ FcbRole → damage_on d area ≡ None → IsSettings (value_limit area) (settings_on d area)
reads_settings d area lawful for role undamaged =
    is-settings (value_limit area) (bodies_on d area)
    (few-on d area lawful (record { lawful = for; role = inl role }))
