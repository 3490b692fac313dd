use Rattle.std.proofs.Common.{rules, ◌≡◌, ◌+◌, ◌/◌, ◌^◌, ◌≤◌, ℕ, List, length, Option, sym, ap, subst, ◌∙◌, arith}
use Rattle.std.specs.Option.{option_map_or}
use Rattle.flash_sim.specs.Device.{Device}
use Rattle.flash_map.specs.declared.area.Area.{Area}
use Rattle.flash_map.specs.declared.area.Geometry.{Geometry}
use Rattle.flash_map.specs.Area.{geometry_of, sectors_of, sector_at, sector_size}
use Rattle.flash_map.specs.Spending.{SpendsBetween}
use Rattle.flash_map.proofs.PieceLemmas.{on_err}
use Rattle.flash_map.proofs.SpendingBounds.{between_within}
use Rattle.item_store.proofs.Areas.{large_there, size_there}
use Rattle.zms_cycle.specs.declared.reading.SlotEntry.{SlotEntry}
use Rattle.zms_cycle.specs.OnArea.{next_guard}
use Rattle.zms_cycle.specs.Sector.{cost, free, entry_len, pair_at}
use Rattle.zms_format.proofs.Roomy.{roomy_of}
use Rattle.zms_format.specs.Formats.{entry_units}
use Rattle.zms_format.proofs.StepLemmas.{is_there, ready_may, ready_cycle, ready_spends, adds_copy, copied_len}
use Rattle.flash_map.specs.declared.area.Role.TheVariants.{Zms as zms_role}
use Rattle.zms_store.proofs.OpenLemmas.{ready_sound, kept_some, kept_opened, cost_above, kept_few, end_room, kept_added}
use Rattle.zms_store.proofs.sectors.ZmsOpenSlotSectors.copy.Goals as goal

pub copy_entry_at-requires-clause-takes : goal.copy_entry_at-requires-clause-takes
copy_entry_at-requires-clause-takes g c = record {
  zms = record { lawful = c.requires.here.area.lawful; role = c.requires.here.area.role_is; has_sector = c.requires.here.inside };
  sound =
      let a : Device = g.F.Flash.device c.args.flash.now in
      let area : Area = c.args.area.now in
      ready_sound (geometry_of a area).kind (sector_at (sectors_of a area) c.args.place) c.requires.here.ready;
  source = record {
    from_zms = search rules;
    from_sound =
        let a : Device = g.F.Flash.device c.args.flash.now in
        let area : Area = c.args.area.now in
        let u : Geometry = geometry_of a area in
        let b : List ℕ = sector_at (sectors_of a area) c.args.place in
        let wide = large_there zms_role a area (g.met.F.Flash.is_lawful c.args.flash.now) c.requires.here.area c.args.place c.requires.here.inside in
        let there = large_there zms_role a area (g.met.F.Flash.is_lawful c.args.flash.now) c.requires.here.area c.args.from.now.sector c.requires.source.has_source in (roomy_of u.kind (sector_at (sectors_of a area) c.args.from.now.sector) (omega arith) c.requires.source.source).sound;
    other = search rules;
    from = search rules;
    listed = search rules;
    some = search rules;
  };
  room =
      let a : Device = g.F.Flash.device c.args.flash.now in
      let area : Area = c.args.area.now in
      let there = is_there (sector_at (sectors_of a area) c.args.from.now.sector) c.args.from.now c.requires.source.there in
      let len : entry_len (sector_at (sectors_of a area) c.args.from.now.sector) c.args.from.now.slot ≡ c.args.from.now.len = ap (λ (o : Option SlotEntry). option_map_or (λ f. f.entry.len) o 0) there.read ∙ sym there.len in
      subst (λ (n : ℕ). cost n + 48 ≤ free (geometry_of a area).kind (sector_at (sectors_of a area) c.args.place)) (sym len) c.requires.room;
}

pub returns-clause-adds : goal.returns-clause-adds
returns-clause-adds g c =
    let a : Device = g.F.Flash.device c.args.flash.now in
    let area : Area = c.args.area.now in
    let u : Geometry = geometry_of a area in
    let b : List ℕ = sector_at (sectors_of a area) c.args.place in
    let wide = large_there zms_role a area (g.met.F.Flash.is_lawful c.args.flash.now) c.requires.here.area c.args.place c.requires.here.inside in
    let e : Device = g.F.Flash.device c.copy_entry_at.new.flash in
    let there = large_there zms_role a area (g.met.F.Flash.is_lawful c.args.flash.now) c.requires.here.area c.args.from.now.sector c.requires.source.has_source in
    let sound = (roomy_of u.kind (sector_at (sectors_of a area) c.args.from.now.sector) (omega arith) c.requires.source.source).sound in
    let listed = c.requires.source.listed in
    adds_copy u (sector_at (sectors_of a area) c.args.place) (sector_at (sectors_of e area) c.args.place) (sector_at (sectors_of a area) c.args.from.now.sector) c.args.from.now wide sound listed.0 listed.1 c.requires.source.there (ready_may u.kind (sector_at (sectors_of a area) c.args.place) c.requires.here.ready) c.requires.room c.in_ok-copy_entry_at.ensures.ok

pub overflow_cast-from : goal.overflow_cast-from
overflow_cast-from g c =
    let a : Device = g.F.Flash.device c.args.flash.now in
    let area : Area = c.args.area.now in
    let u : Geometry = geometry_of a area in
    let size : length (sector_at (sectors_of a area) c.args.place) ≡ sector_size a area = size_there zms_role a area (g.met.F.Flash.is_lawful c.args.flash.now) c.requires.here.area c.args.place c.requires.here.inside in
    let room : cost (c.args.from.now.len) ≤ free u.kind (sector_at (sectors_of a area) c.args.place) = omega (arith, c.requires.room) in
    let above : c.args.from.now.len ≤ cost (c.args.from.now.len) = cost_above (c.args.from.now.len) in
    omega (arith, c.requires.here.area.lawful.at_most)

pub overflow_add-self : goal.overflow_add-self
overflow_add-self g c =
    let a : Device = g.F.Flash.device c.args.flash.now in
    let area : Area = c.args.area.now in
    let u : Geometry = geometry_of a area in
    let size : length (sector_at (sectors_of a area) c.args.place) ≡ sector_size a area = size_there zms_role a area (g.met.F.Flash.is_lawful c.args.flash.now) c.requires.here.area c.args.place c.requires.here.inside in
    let few : c.args.self.now.slots ≤ length (sector_at (sectors_of a area) c.args.place) = kept_few u (sector_at (sectors_of a area) c.args.place) c.args.self.now c.requires.here.kept in
    omega (arith, c.requires.here.area.lawful.at_most)

pub overflow_sub-self : goal.overflow_sub-self
overflow_sub-self g c =
    let price = c.cost.ensures.value in
    omega arith

pub overflow_add-self-2 : goal.overflow_add-self-2
overflow_add-self-2 g c =
    let a : Device = g.F.Flash.device c.args.flash.now in
    let area : Area = c.args.area.now in
    let u : Geometry = geometry_of a area in
    let size : length (sector_at (sectors_of a area) c.args.place) ≡ sector_size a area = size_there zms_role a area (g.met.F.Flash.is_lawful c.args.flash.now) c.requires.here.area c.args.place c.requires.here.inside in
    let small : length (sector_at (sectors_of a area) c.args.place) ≤ 2 ^ 15 = omega (arith, c.requires.here.area.lawful.at_most) in
    let room : cost (c.args.from.now.len) ≤ free u.kind (sector_at (sectors_of a area) c.args.place) = omega (arith, c.requires.room) in
    let price = c.cost.ensures.value in
    let end : c.args.self.now.data_end + cost (c.args.from.now.len) ≤ length (sector_at (sectors_of a area) c.args.place) = end_room u (sector_at (sectors_of a area) c.args.place) c.args.self.now c.requires.here.kept small (cost (c.args.from.now.len)) (omega arith) room in
    omega arith

pub returns-clause-kept : goal.returns-clause-kept
returns-clause-kept g c =
    let a : Device = g.F.Flash.device c.args.flash.now in
    let area : Area = c.args.area.now in
    let u : Geometry = geometry_of a area in
    let size : length (sector_at (sectors_of a area) c.args.place) ≡ sector_size a area = size_there zms_role a area (g.met.F.Flash.is_lawful c.args.flash.now) c.requires.here.area c.args.place c.requires.here.inside in
    let wide = large_there zms_role a area (g.met.F.Flash.is_lawful c.args.flash.now) c.requires.here.area c.args.place c.requires.here.inside in
    let small : length (sector_at (sectors_of a area) c.args.place) ≤ 2 ^ 15 = omega (arith, c.requires.here.area.lawful.at_most) in
    let e : Device = g.F.Flash.device c.copy_entry_at.new.flash in
    let room : cost (c.args.from.now.len) ≤ free u.kind (sector_at (sectors_of a area) c.args.place) = omega (arith, c.requires.room) in
    let there = large_there zms_role a area (g.met.F.Flash.is_lawful c.args.flash.now) c.requires.here.area c.args.from.now.sector c.requires.source.has_source in
    let sound = (roomy_of u.kind (sector_at (sectors_of a area) c.args.from.now.sector) (omega arith) c.requires.source.source).sound in
    let listed = c.requires.source.listed in
    let long : length (pair_at (sector_at (sectors_of a area) c.args.from.now.sector) c.args.from.now.slot).1 ≡ c.args.from.now.len = copied_len (sector_at (sectors_of a area) c.args.from.now.sector) c.args.from.now sound listed.0 listed.1 c.requires.source.there in
    let price : c.cost.result ≡ cost (length (pair_at (sector_at (sectors_of a area) c.args.from.now.sector) c.args.from.now.slot).1) = c.cost.ensures.value ∙ ap cost (sym long) in
    kept_added u (sector_at (sectors_of a area) c.args.place) c.args.self.now c.requires.here.kept (sector_at (sectors_of e area) c.args.place) wide small (pair_at (sector_at (sectors_of a area) c.args.from.now.sector) c.args.from.now.slot).0 (pair_at (sector_at (sectors_of a area) c.args.from.now.sector) c.args.from.now.slot).1 c.cost.result price (omega arith) c.in_ok-copy_entry_at.ensures.ok

pub returns-in_err-copy_entry_at-clause-spends_lost : goal.returns-in_err-copy_entry_at-clause-spends_lost
returns-in_err-copy_entry_at-clause-spends_lost g c =
    let a : Device = g.F.Flash.device c.args.flash.now in
    let area : Area = c.args.area.now in
    let u : Geometry = geometry_of a area in
    let there = is_there (sector_at (sectors_of a area) c.args.from.now.sector) c.args.from.now c.requires.source.there in
    let len : entry_len (sector_at (sectors_of a area) c.args.from.now.sector) c.args.from.now.slot ≡ c.args.from.now.len = ap (λ (o : Option SlotEntry). option_map_or (λ f. f.entry.len) o 0) there.read ∙ sym there.len in
    let units : cost (entry_len (sector_at (sectors_of a area) c.args.from.now.sector) c.args.from.now.slot) / 16 ≡ cost c.args.from.now.len / 16 = ap (λ (n : ℕ). cost n / 16) len in
    on_err c.from_residual.result
    (between_within c.in_err-copy_entry_at.ensures.ends.spends_lost 0 (entry_units u.kind (sector_at (sectors_of a area) c.args.place) (cost c.args.from.now.len / 16)).lost (omega arith) (omega arith))

pub returns-clause-spends : goal.returns-clause-spends
returns-clause-spends g c =
    let a : Device = g.F.Flash.device c.args.flash.now in
    let area : Area = c.args.area.now in
    let u : Geometry = geometry_of a area in
    let e : Device = g.F.Flash.device c.copy_entry_at.new.flash in
    let there = is_there (sector_at (sectors_of a area) c.args.from.now.sector) c.args.from.now c.requires.source.there in
    let len : entry_len (sector_at (sectors_of a area) c.args.from.now.sector) c.args.from.now.slot ≡ c.args.from.now.len = ap (λ (o : Option SlotEntry). option_map_or (λ f. f.entry.len) o 0) there.read ∙ sym there.len in
    ready_spends u.kind (sector_at (sectors_of a area) c.args.place) c.requires.here.ready a e (cost c.args.from.now.len / 16)
    (subst (λ (n : ℕ). SpendsBetween a e (cost n / 16 + next_guard a area c.args.place) (cost n / 16 + next_guard a area c.args.place)) len c.in_ok-copy_entry_at.ensures.ends.guards)

pub opened-opened-requires : goal.opened-opened-requires
opened-opened-requires g c =
    let a : Device = g.F.Flash.device c.args.flash.now in
    let area : Area = c.args.area.now in
    let u : Geometry = geometry_of a area in
    kept_some u (sector_at (sectors_of a area) c.args.place) c.args.self.now c.requires.here.kept (ready_cycle u.kind (sector_at (sectors_of a area) c.args.place) c.requires.here.ready)

pub copy_entry_at-requires-clause-opened : goal.copy_entry_at-requires-clause-opened
copy_entry_at-requires-clause-opened g c =
    let a : Device = g.F.Flash.device c.args.flash.now in
    let area : Area = c.args.area.now in
    let u : Geometry = geometry_of a area in
    kept_opened u (sector_at (sectors_of a area) c.args.place) c.args.self.now c.requires.here.kept c.opened-opened.result c.opened-opened.ensures.cycle c.opened-opened.ensures.slots c.opened-opened.ensures.data_end
