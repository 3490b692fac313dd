-- What a lawful area without damage reads as.
use Rattle.std.specs.Prelude.{◌≡◌, None}
use Rattle.std.proofs.Common.{refl}
use Rattle.flash_sim.specs.Bank.{IsLawful}
use Rattle.flash_sim.specs.Device.{Device}
use Rattle.flash_map.specs.Area.{geometry_of, value_limit}
use Rattle.flash_map.specs.Lawful.{IsLawfulFor}
use Rattle.flash_map.specs.On.{on}
use Rattle.flash_map.specs.declared.area.Area.{Area}
use Rattle.flash_map.specs.declared.area.Role.{Role}
use Rattle.flash_map.specs.declared.area.Role.TheVariants.{Nvs, Zms, Fcb, Sel}
use Rattle.backend_api.specs.Map.{IsSettings}
use Rattle.backend_nvs.specs.Standing.{reads_settings as nvs-reads}
use Rattle.backend_zms.specs.Standing.{reads_settings as zms-reads}
use Rattle.backend_fcb.specs.Laws.{reads_settings as fcb-reads}
use Rattle.any_backend.specs.ByRole.{serves_as, damage_as, contents_as, any_serves, any_damage, any_contents}

reads-as : (role : Role) (d : Device) (area : Area) → area.role ≡ role → IsLawful d.banks d.bytes
    → IsLawfulFor d.banks area → serves_as role → on (damage_as role) d area ≡ None
    → IsSettings (value_limit area) (on (contents_as role) d area)
reads-as Nvs d area role lawful for serves undamaged = nvs-reads d area lawful for role undamaged
reads-as Zms d area role lawful for serves undamaged = zms-reads d area lawful for role undamaged
reads-as Fcb d area role lawful for serves undamaged = fcb-reads d area lawful for role undamaged
reads-as Sel d area role lawful for serves undamaged = absurd serves

-- The area reads as settings with lawful names and values, fewer than 2^32 of them.
pub reads_settings : (d : Device) (area : Area) → IsLawful d.banks d.bytes → IsLawfulFor d.banks area
    → any_serves area (geometry_of d area) → on any_damage d area ≡ None
    → IsSettings (value_limit area) (on any_contents d area)
reads_settings d area lawful for serves undamaged = reads-as area.role d area refl lawful for serves undamaged
