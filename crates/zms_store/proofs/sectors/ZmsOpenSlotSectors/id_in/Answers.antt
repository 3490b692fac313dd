use Rattle.std.proofs.Common.{◌≡◌, ℕ, ◌+◌, ◌*◌, ◌≤◌, List, length, sym, subst, arith}
use Rattle.std.specs.Prelude.{IfSome}
use Rattle.std.specs.Option.{option_map}
use Rattle.flash_sim.specs.Device.{Device}
use Rattle.flash_map.specs.Area.{sectors_of, sector_at}
use Rattle.zms_cycle.specs.Sector.{slot_of, entry_in}
use Rattle.zms_format.specs.Formats.{entry_of}
use Rattle.zms_format.proofs.Sectors.{read_room}
use Rattle.zms_store.proofs.sectors.ZmsOpenSlotSectors.id_in.Goals as goal

pub named_id-requires-clause-inside : goal.named_id-requires-clause-inside
named_id-requires-clause-inside g c =
    let d : Device = g.F.Flash.device c.args.flash.now in
    let b : List ℕ = sector_at (sectors_of d c.args.area.now) c.args.place in
    let listed = c.requires.listed.1 in
    let inside : (c.args.slot + 1) * 16 ≤ length b = read_room b c.args.slot c.requires.listed.0 (omega (arith, listed)) in
    subst (λ (x : List ℕ). (c.args.slot + 1) * 16 ≤ length x) (sym c.sector_view.ensures.bytes) inside

pub returns-clause-id : goal.returns-clause-id
returns-clause-id g c =
    subst (λ (x : List ℕ). IfSome (option_map entry_of (entry_in (slot_of x c.args.slot))) (λ e. e.id ≡ c.named_id.result)) c.sector_view.ensures.bytes c.named_id.ensures

pub returns-clause-small : goal.returns-clause-small
returns-clause-small g c =
    λ few. absurd (omega arith)
