use Rattle.std.proofs.Common.{◌≡◌, ◌+◌, ◌<◌, ◌≤◌, ℕ, true, List, Some, sym, subst, ◌∙◌, ◌∷◌, []}
use Rattle.std.specs.Option.{option_map}
use Rattle.std.specs.Prelude.{Option, OnOk, OnErr}
use Rattle.std.proofs.lemmas.Result.{on_ok_weaker, on_err_weaker}
use Rattle.flash_sim.specs.Device.{Device}
use Rattle.flash_map.specs.Area.{geometry_of, sectors_of, sector_at}
use Rattle.flash_map.proofs.PieceLemmas.{on_err}
use Rattle.item_laws.specs.Live.{live_in}
use Rattle.item_laws.specs.Reading.{is_sound}
use Rattle.item_store.specs.SectorFormat.{SectorFormat, IsSectorFormat, placed_at, slots}
use Rattle.item_store.specs.declared.entry.Placed.{Placed}
use Rattle.item_store.specs.Collecting.{CopiesOne, copy_units}
use Rattle.item_store.specs.Standing.{SpendsIn, SpendsUpTo}
use Rattle.item_store.proofs.Areas.{unit_is}
use Rattle.item_store.proofs.Ranges.{within-in, within-lost}
use Rattle.item_store.proofs.CopyLoop.{live-bytes}
use Rattle.flash_map.proofs.Touches.{untouched}
use Rattle.item_store.proofs.collecting.copy_slot.Goals as goal

pub live_in-requires : goal.live_in-requires
live_in-requires g c =
    record {
      area = c.requires.here.area;
      inside = c.requires.victim.inside;
      listed = c.requires.victim.listed;
      live = c.requires.live;
    }

pub copy-requires-clause-source : goal.copy-requires-clause-source
copy-requires-clause-source g c =
    let d : Device = g.F.Flash.device c.args.flash.now in
    let k : SectorFormat = g.T.SlotSectors.format_of (geometry_of d c.args.area.now) in
    let law : IsSectorFormat (g.T.SlotSectors.format_of (geometry_of d c.args.area.now)) = g.met.T.SlotSectors.lawful (geometry_of d c.args.area.now) (unit_is d c.args.area.now (g.met.F.Flash.is_lawful c.args.flash.now) c.requires.here.area.lawful) in
    let listed = c.requires.victim.listed in
    let l = live-bytes k law (sectors_of d c.args.area.now) c.args.victim c.args.slot c.in-Some.placed c.requires.victim.within listed.0 listed.1 (sym c.live_in.ensures.entry ∙ c.in-Some.is) in
    record {
      has_source = subst (λ (v : ℕ). v < c.args.area.now.sectors) (sym l.sector) c.requires.victim.inside;
      other = λ same. c.requires.victim.other (sym l.sector ∙ same);
      source = subst (λ (v : ℕ). is_sound k.reading (sector_at (sectors_of d c.args.area.now) v) ≡ true) (sym l.sector) c.requires.victim.source;
      listed =
          subst (λ (v : ℕ). (k.first ≤ c.in-Some.placed.slot) × (c.in-Some.placed.slot < k.first + k.count (sector_at (sectors_of d c.args.area.now) v))) (sym l.sector)
          (subst (λ (s : ℕ). (k.first ≤ s) × (s < k.first + k.count (sector_at (sectors_of d c.args.area.now) c.args.victim))) (sym l.slot_is) listed);
      there =
          subst (λ (v : ℕ). option_map (placed_at v) (k.in_slot (sector_at (sectors_of d c.args.area.now) v) c.in-Some.placed.slot) ≡ Some c.in-Some.placed) (sym l.sector)
          (subst (λ (s : ℕ). option_map (placed_at c.args.victim) (k.in_slot (sector_at (sectors_of d c.args.area.now) c.args.victim) s) ≡ Some c.in-Some.placed) (sym l.slot_is) l.read);
      some = l.some;
    }

pub returns-in-Some : goal.returns-in-Some
returns-in-Some g c =
    let d : Device = g.F.Flash.device c.args.flash.now in
    let e : Device = g.F.Flash.device c.copy.new.flash in
    let old : List (List ℕ) = sectors_of d c.args.area.now in
    let k : SectorFormat = g.T.SlotSectors.format_of (geometry_of d c.args.area.now) in
    let law : IsSectorFormat (g.T.SlotSectors.format_of (geometry_of d c.args.area.now)) = g.met.T.SlotSectors.lawful (geometry_of d c.args.area.now) (unit_is d c.args.area.now (g.met.F.Flash.is_lawful c.args.flash.now) c.requires.here.area.lawful) in
    let b : List ℕ = sector_at old c.args.current in
    let len : ℕ = c.in-Some.placed.len in
    let entry : Some c.in-Some.placed ≡ live_in (slots k) old c.args.victim c.args.slot = sym (sym c.live_in.ensures.entry ∙ c.in-Some.is) in
    record {
      touches = c.copy.ensures.touches;
      ends = record {
        copies =
            subst (λ (o : Option Placed). OnOk c.copy.result (CopiesOne k old (sectors_of e c.args.area.now) c.args.current o)) entry
            (on_ok_weaker c.copy.result (λ adds. (c.copy.ensures.only, adds)) c.copy.ensures.adds);
        kept = c.copy.ensures.kept;
        only = on_err c.copy.result c.copy.ensures.only;
        lost = c.copy.ensures.lost;
        spends =
            subst (λ (o : Option Placed). OnOk c.copy.result (SpendsIn d e (copy_units k o))) entry
            (on_ok_weaker c.copy.result (λ s. within-in d e (k.units.copy b len) (k.units.any_copy len) (law.units.copy_in b len) s) c.copy.ensures.spends);
        spends_lost =
            subst (λ (o : Option Placed). OnErr c.copy.result (SpendsUpTo d e (copy_units k o))) entry
            (on_err_weaker c.copy.result (λ s. within-lost d e (k.units.copy b len) (k.units.any_copy len) (law.units.copy_in b len) s) c.copy.ensures.spends_lost);
      };
    }

pub returns-in-None-clause-touches : goal.returns-in-None-clause-touches
returns-in-None-clause-touches g c = untouched (c.args.area.now ∷ []) (g.F.Flash.device c.args.flash.now)
