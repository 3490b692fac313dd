use Rattle.std.proofs.Common.{◌≡◌, ◌-◌, ℕ, List, length, sym, ◌∙◌, arith}
use Rattle.flash_sim.specs.declared.flash.Kind.{Kind}
use Rattle.zms_cycle.specs.Areas.{kind_on}
use Rattle.flash_sim.specs.Device.{Device}
use Rattle.flash_map.specs.Area.{sectors_of}
use Rattle.zms_format.proofs.MountLemmas.{length-sectors, open-opening, open-blank}
use Rattle.zms_format.proofs.mounting.open_place.Goals as goal

pub returns-in-Some-clause-value : goal.returns-in-Some-clause-value
returns-in-Some-clause-value g c =
    let d : Device = g.F.Flash.device c.args.flash.now in
    let kind : Kind = kind_on d c.args.area.now in
    let sectors : List (List ℕ) = sectors_of d c.args.area.now in
    let whole : c.args.area.now.sectors ≡ length sectors = sym (length-sectors d c.args.area.now) in
    let long : c.args.area.now.sectors - 0 ≡ length sectors = omega arith in
    open-opening kind sectors (c.args.area.now.sectors - 0) c.in-Some.place long (sym c.in-Some.is ∙ c.first.ensures.value)

pub returns-clause-value : goal.returns-clause-value
returns-clause-value g c =
    let d : Device = g.F.Flash.device c.args.flash.now in
    let kind : Kind = kind_on d c.args.area.now in
    let sectors : List (List ℕ) = sectors_of d c.args.area.now in
    let whole : c.args.area.now.sectors ≡ length sectors = sym (length-sectors d c.args.area.now) in
    let long : c.args.area.now.sectors - 0 ≡ length sectors = omega arith in
    c.unwrap_or.ensures ∙ open-blank kind sectors (c.args.area.now.sectors - 0) c.first-2.result long (sym c.in_default.is ∙ c.first.ensures.value) c.first-2.ensures.value
