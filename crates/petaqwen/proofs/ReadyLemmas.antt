-- What keeps settings ready for the next call.
use Rattle.std.proofs.Common.{◌≡◌, ℕ, ◌+◌, ◌≤◌, true, false, Bool, List, [], ◌∷◌, Option, None, refl, sym, ap, subst, arith}
use Rattle.std.specs.Prelude.{Result, Ok, Err}
use Rattle.std.specs.FinMap.{entries}
use Rattle.flash_sim.specs.Bank.{IsLawful}
use Rattle.flash_sim.specs.Device.{Device, Plan}
use Rattle.flash_sim.specs.declared.flash.Bank.{Bank}
use Rattle.flash_map.specs.Area.{geometry_of, sectors_of, value_limit}
use Rattle.flash_map.specs.Lawful.{IsLawfulFor}
use Rattle.flash_map.specs.On.{on, StandsOn}
use Rattle.flash_map.specs.declared.area.Area.{Area}
use Rattle.backend_api.specs.Map.{Map, IsSettings}
use Rattle.any_backend.specs.ByRole.{any_contents}
use Rattle.any_backend.specs.Laws.{reads_settings}
use Rattle.any_backend.specs.Standing.{area_of, Stands, is_up, stands-serves, stands-reads}
use Rattle.any_backend.specs.declared.backend.AnyBackend.{AnyBackend}
use Rattle.handlers.specs.Registry.{Registered}
use Rattle.settings_core.specs.Deliveries.{Give}
use Rattle.settings_core.specs.Loading.{LoadEnds}
use Rattle.settings_core.specs.Saving.{AreLawful}
use Rattle.settings_core.specs.declared.loading.Loaded.{Loaded}
use Rattle.settings_core.specs.declared.loading.LoadFault.{LoadFault}
use Rattle.settings_core.specs.declared.loading.LoadFault.TheVariants.{Off, NoMemory}
use Rattle.settings_core.proofs.LawfulLemmas.{stays_lawful}
use Rattle.petaqwen.specs.Ready.{AreServed, IsReady}

-- a call on the flash that keeps the banks and the partition
pub stays_ready : (old new : Device) (areas : List Area) (before after : AnyBackend) (handlers : List Registered) → IsReady old areas before handlers → new.banks ≡ old.banks → area_of after ≡ area_of before
    → (is_up after ≡ true → StandsOn area_of Stands new after) → IsReady new areas after handlers
stays_ready old new areas before after handlers ready banks area stands = record {
  sound = subst (λ (bs : List Bank). AreServed bs areas) (sym banks) ready.sound;
  lawful = subst (λ (bs : List Bank). IsLawfulFor bs (area_of after)) (sym banks) (subst (λ (a : Area). IsLawfulFor old.banks a) (sym area) ready.lawful);
  stands = stands;
  holds = subst (λ (a : Area). AreLawful (value_limit a) handlers) (sym area) ready.holds;
}

-- a call on the handlers alone
pub others_ready : (d : Device) (areas : List Area) (backend : AnyBackend) (handlers after : List Registered) → IsReady d areas backend handlers → AreLawful (value_limit (area_of backend)) after → IsReady d areas backend after
others_ready d areas backend handlers after ready holds = record { sound = ready.sound; lawful = ready.lawful; stands = ready.stands; holds = holds }

-- a plan of a power loss
pub planned_ready : (old new : Device) (plan : Plan) (areas : List Area) (backend : AnyBackend) (handlers : List Registered) → new ≡ record old { plan = plan } → IsReady old areas backend handlers → IsReady new areas backend handlers
planned_ready old new plan areas backend handlers is ready =
    subst (λ (d : Device). IsReady d areas backend handlers) (sym is) (record { sound = ready.sound; lawful = ready.lawful; stands = ready.stands; holds = ready.holds })

-- settings that were mounted, with no handlers
pub opened_ready : (old new : Device) (areas : List Area) (backend : AnyBackend) (area : Area) (handlers : List Registered) → AreServed old.banks areas → IsLawfulFor old.banks area → new.banks ≡ old.banks
    → area_of backend ≡ area → StandsOn area_of Stands new backend → handlers ≡ [] → IsReady new areas backend handlers
opened_ready old new areas backend area handlers sound lawful banks at stands none = record {
  sound = subst (λ (bs : List Bank). AreServed bs areas) (sym banks) sound;
  lawful = subst (λ (bs : List Bank). IsLawfulFor bs (area_of backend)) (sym banks) (subst (λ (a : Area). IsLawfulFor old.banks a) (sym at) lawful);
  stands = λ up. stands;
  holds = subst (λ (hs : List Registered). AreLawful (value_limit (area_of backend)) hs) (sym none) (λ k d lt. absurd (omega arith));
}

-- ---- what a load gives

load_lawful : (limit : ℕ) (handlers after : List Registered) (up : Bool) (old new : Option (List Give)) (subtree : Option (List ℕ)) (settings : Map) (result : Result Loaded LoadFault)
    → AreLawful limit handlers → (up ≡ true → IsSettings limit settings) → LoadEnds up handlers after old new subtree (entries settings) result → AreLawful limit after
load_lawful limit handlers after true old new subtree settings result lawful is ends =
    (stays_lawful limit handlers lawful).load_ends true after old new subtree settings result (is refl) ends
load_lawful limit handlers after false old new subtree settings (Ok loaded) lawful is ends = absurd (let no_one : false ≡ true = ends.0 in cc)
load_lawful limit handlers after false old new subtree settings (Err Off) lawful is ends = subst (AreLawful limit) (sym ends.1) lawful
load_lawful limit handlers after false old new subtree settings (Err NoMemory) lawful is ends = absurd (let no_one : false ≡ true = ends.0 in cc)

pub loads_lawful : (d : Device) (backend : AnyBackend) (handlers after : List Registered) (old new : Option (List Give)) (subtree : Option (List ℕ)) (result : Result Loaded LoadFault) → IsLawful d.banks d.bytes
    → IsLawfulFor d.banks (area_of backend) → (is_up backend ≡ true → StandsOn area_of Stands d backend) → AreLawful (value_limit (area_of backend)) handlers
    → LoadEnds (is_up backend) handlers after old new subtree (entries (on any_contents d (area_of backend))) result → AreLawful (value_limit (area_of backend)) after
loads_lawful d backend handlers after old new subtree result device lawful stands holds ends =
    let area = area_of backend in
    load_lawful (value_limit area) handlers after (is_up backend) old new subtree (on any_contents d area) result holds
    (λ up. reads_settings d area device lawful (stands-serves backend (geometry_of d area) (sectors_of d area) (stands up)) (stands-reads backend (geometry_of d area) (sectors_of d area) (stands up))) ends
