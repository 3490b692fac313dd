use Rattle.std.proofs.Common.{◌≡◌, ◌∷◌, [], ◌++◌, List, ◌∙◌, length, map, take, sym, ap, arith}
use Rattle.flash_map.specs.Area.{unit_of, sectors_of}
use Rattle.std.proofs.lemmas.List.{map_more, take_all, length-map, length-take-le}
use Rattle.fcb_ring.proofs.AreaLemmas.{count-sectors}
use Rattle.fcb_ring.specs.declared.sector.SectorState.{SectorState}
use Rattle.fcb_ring.specs.SectorStates.{state_of}
use Rattle.fcb_ring.proofs.ring.read_states.Goals as goal

pub push-requires : goal.push-requires
push-requires g c =
    let sectors = sectors_of (g.F.Flash.device c.args.flash.now) c.args.area.now in
    let unit = unit_of (g.F.Flash.device c.args.flash.now) c.args.area.now in
    let count = count-sectors (g.F.Flash.device c.args.flash.now) c.args.area.now in
    let long : length c.loop-sector.states.items ≡ c.loop-sector.sector =
    ap length c.loop-sector.invariant.so_far ∙ length-map (take c.loop-sector.sector sectors) (state_of unit) ∙ length-take-le c.loop-sector.sector sectors (omega arith) in
    (omega arith, omega (arith, long, c.requires.lawful.few))

pub loop-sector-preserved : goal.loop-sector-preserved
loop-sector-preserved g c =
    let sectors = sectors_of (g.F.Flash.device c.args.flash.now) c.args.area.now in
    let unit = unit_of (g.F.Flash.device c.args.flash.now) c.args.area.now in
    let count = count-sectors (g.F.Flash.device c.args.flash.now) c.args.area.now in
    record {
      within = omega arith;
      so_far =
          c.push.ensures.items ∙ ap (λ (xs : List SectorState). xs ++ c.look.result ∷ []) c.loop-sector.invariant.so_far
          ∙ ap (λ (x : SectorState). map (state_of unit) (take c.loop-sector.sector sectors) ++ x ∷ []) c.look.ensures
          ∙ sym (map_more (state_of unit) sectors c.loop-sector.sector [] (omega arith));
    }

pub returns : goal.returns
returns g c =
    let sectors = sectors_of (g.F.Flash.device c.args.flash.now) c.args.area.now in
    let unit = unit_of (g.F.Flash.device c.args.flash.now) c.args.area.now in
    let count = count-sectors (g.F.Flash.device c.args.flash.now) c.args.area.now in
    c.loop-sector.invariant.so_far ∙ ap (map (state_of unit)) (take_all c.loop-sector.sector sectors (omega arith))
