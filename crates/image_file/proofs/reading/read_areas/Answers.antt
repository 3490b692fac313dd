use Rattle.std.proofs.Common.{◌≡◌, List, map, ap, ◌∙◌, arith, below_more}
use Rattle.flash_map.specs.declared.area.Area.{Area}
use Rattle.image_file.specs.Format.{plain_area}
use Rattle.image_file.specs.Said.{areas_said}
use Rattle.image_file.specs.Table.{AreaAt, AllHold, FirstFault, Departs, rows_of}
use Rattle.image_file.proofs.ReadingLemmas.{exit}
use Rattle.image_file.proofs.RowLemmas.{first_row, all_rows}
use Rattle.image_file.proofs.reading.read_areas.Goals as goal

pub returns-in_err-read_area : goal.returns-in_err-read_area
returns-in_err-read_area c =
    exit (λ (areas : List Area). (map plain_area areas ≡ areas_said c.args.bytes.now c.args.count) × AllHold c.args.bytes.now (rows_of AreaAt c.args.count))
    (Departs c.args.bytes.now (AreaAt c.loop-i.i)) (FirstFault c.args.bytes.now (rows_of AreaAt c.args.count))
    c.from_residual.result c.in_err-read_area.field-0.0 c.from_residual.ensures.1
    (λ at why departs. first_row c.args.bytes.now AreaAt c.args.count c.loop-i.i at why (omega arith) c.loop-i.invariant.holds departs) c.in_err-read_area.ensures

pub returns : goal.returns
returns c =
    let end : c.loop-i.i ≡ c.args.count = omega arith in
    (c.loop-i.invariant.said ∙ ap (areas_said c.args.bytes.now) end, all_rows c.args.bytes.now AreaAt c.args.count (λ k below. c.loop-i.invariant.holds k (omega arith)))

pub read_area-requires-clause-version : goal.read_area-requires-clause-version
read_area-requires-clause-version c = c.requires.version

pub read_area-requires-clause-few_banks : goal.read_area-requires-clause-few_banks
read_area-requires-clause-few_banks c = c.requires.few_banks

pub read_area-requires-clause-banks : goal.read_area-requires-clause-banks
read_area-requires-clause-banks c = c.requires.banks

pub read_area-requires-clause-areas : goal.read_area-requires-clause-areas
read_area-requires-clause-areas c = c.loop-i.invariant.said

pub read_area-requires-clause-there : goal.read_area-requires-clause-there
read_area-requires-clause-there c = c.loop-i.invariant.there

pub loop-i-preserved : goal.loop-i-preserved
loop-i-preserved c =
    let here = c.in_ok-read_area.ensures in
    record { said = here.0; holds = below_more _ _ c.loop-i.invariant.holds here.1; there = omega (arith, here.1.whole) }
