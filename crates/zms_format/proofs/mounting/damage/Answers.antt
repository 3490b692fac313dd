use Rattle.std.proofs.Common.{◌≡◌, ◌-◌, ℕ, List, Some, None, length, sym, ap, ◌∙◌, arith}
use Rattle.flash_sim.specs.declared.flash.Kind.{Kind}
use Rattle.zms_cycle.specs.Areas.{kind_on}
use Rattle.flash_sim.specs.Device.{Device}
use Rattle.flash_map.specs.Area.{sectors_of}
use Rattle.std.specs.List.{find, range_with_len}
use Rattle.std.specs.Option.{option_map}
use Rattle.flash_map.specs.declared.faults.Why.TheVariants.{Overfull}
use Rattle.zms_format.specs.declared.places.Lookup.TheVariants as lookup
use Rattle.zms_format.specs.Lookup.{is_match}
use Rattle.zms_format.proofs.MountLemmas.{length-sectors, all_closed, two_open, dirty, full}
use Rattle.zms_format.proofs.mounting.damage.Goals as goal

pub returns-in_default : goal.returns-in_default
returns-in_default g c =
    let d : Device = g.F.Flash.device c.args.flash.now in
    let kind : Kind = kind_on d c.args.area.now in
    let sectors : List (List ℕ) = sectors_of d c.args.area.now in
    let whole : c.args.area.now.sectors ≡ length sectors = sym (length-sectors d c.args.area.now) in
    let long : c.args.area.now.sectors - 0 ≡ length sectors = omega arith in
    all_closed kind sectors (c.args.area.now.sectors - 0) c.args.current long c.requires.current (sym c.in_default.is ∙ c.first.ensures.value)

pub returns-in-Some-first : goal.returns-in-Some-first
returns-in-Some-first g c =
    let d : Device = g.F.Flash.device c.args.flash.now in
    let kind : Kind = kind_on d c.args.area.now in
    let sectors : List (List ℕ) = sectors_of d c.args.area.now in
    let whole : c.args.area.now.sectors ≡ length sectors = sym (length-sectors d c.args.area.now) in
    let long : c.args.area.now.sectors - 0 ≡ length sectors = omega arith in
    let some : Some c.in-Some.field-0 ≡ find (is_match lookup.NotClosed kind sectors) (range_with_len 0 (c.args.area.now.sectors - 0)) = sym c.in-Some.is ∙ c.first.ensures.value in
    two_open kind sectors (c.args.area.now.sectors - 0) c.args.current long c.requires.current c.in-Some.field-0 some c.in-Some-first.sector (sym c.in-Some-first.is ∙ c.first-2.ensures.value)

pub returns-in-Some-first-2 : goal.returns-in-Some-first-2
returns-in-Some-first-2 g c =
    let d : Device = g.F.Flash.device c.args.flash.now in
    let kind : Kind = kind_on d c.args.area.now in
    let sectors : List (List ℕ) = sectors_of d c.args.area.now in
    let whole : c.args.area.now.sectors ≡ length sectors = sym (length-sectors d c.args.area.now) in
    let long : c.args.area.now.sectors - 0 ≡ length sectors = omega arith in
    let some : Some c.in-Some.field-0 ≡ find (is_match lookup.NotClosed kind sectors) (range_with_len 0 (c.args.area.now.sectors - 0)) = sym c.in-Some.is ∙ c.first.ensures.value in
    let one : None ≡ find (is_match (lookup.SecondOpen c.args.current) kind sectors) (range_with_len 0 (c.args.area.now.sectors - 0)) = sym c.in_default-first.is ∙ c.first-2.ensures.value in
    dirty kind sectors (c.args.area.now.sectors - 0) c.args.current long c.requires.current c.in-Some.field-0 some one c.in-Some-first-2.sector (sym c.in-Some-first-2.is ∙ c.first-3.ensures.value)

pub returns-in_err-sector : goal.returns-in_err-sector
returns-in_err-sector g c =
    let d : Device = g.F.Flash.device c.args.flash.now in
    let kind : Kind = kind_on d c.args.area.now in
    let sectors : List (List ℕ) = sectors_of d c.args.area.now in
    let whole : c.args.area.now.sectors ≡ length sectors = sym (length-sectors d c.args.area.now) in
    let long : c.args.area.now.sectors - 0 ≡ length sectors = omega arith in
    let some : Some c.in-Some.field-0 ≡ find (is_match lookup.NotClosed kind sectors) (range_with_len 0 (c.args.area.now.sectors - 0)) = sym c.in-Some.is ∙ c.first.ensures.value in
    let one : None ≡ find (is_match (lookup.SecondOpen c.args.current) kind sectors) (range_with_len 0 (c.args.area.now.sectors - 0)) = sym c.in_default-first.is ∙ c.first-2.ensures.value in
    let clean : None ≡ find (is_match (lookup.NotClosable c.args.current) kind sectors) (range_with_len 0 (c.args.area.now.sectors - 0)) = sym c.in_default-first-2.is ∙ c.first-3.ensures.value in
    c.from_residual.ensures ∙ ap (option_map (λ (p : ℕ). record { sector = p; why = Overfull })) (sym c.in_err-sector.was) ∙ full kind sectors (c.args.area.now.sectors - 0) c.args.current long c.requires.current c.in-Some.field-0 some one c.first-4.result clean c.first-4.ensures.value

pub returns : goal.returns
returns g c =
    let d : Device = g.F.Flash.device c.args.flash.now in
    let kind : Kind = kind_on d c.args.area.now in
    let sectors : List (List ℕ) = sectors_of d c.args.area.now in
    let whole : c.args.area.now.sectors ≡ length sectors = sym (length-sectors d c.args.area.now) in
    let long : c.args.area.now.sectors - 0 ≡ length sectors = omega arith in
    let some : Some c.in-Some.field-0 ≡ find (is_match lookup.NotClosed kind sectors) (range_with_len 0 (c.args.area.now.sectors - 0)) = sym c.in-Some.is ∙ c.first.ensures.value in
    let one : None ≡ find (is_match (lookup.SecondOpen c.args.current) kind sectors) (range_with_len 0 (c.args.area.now.sectors - 0)) = sym c.in_default-first.is ∙ c.first-2.ensures.value in
    let clean : None ≡ find (is_match (lookup.NotClosable c.args.current) kind sectors) (range_with_len 0 (c.args.area.now.sectors - 0)) = sym c.in_default-first-2.is ∙ c.first-3.ensures.value in
    ap (option_map (λ (p : ℕ). record { sector = p; why = Overfull })) (sym c.in_ok-sector.was) ∙ full kind sectors (c.args.area.now.sectors - 0) c.args.current long c.requires.current c.in-Some.field-0 some one c.first-4.result clean c.first-4.ensures.value
