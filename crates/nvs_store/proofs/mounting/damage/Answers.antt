use Rattle.std.proofs.Common.{◌≡◌, ◌-◌, ℕ, List, Some, None, length, sym, ap, ◌∙◌, arith}
use Rattle.flash_sim.specs.Device.{Device}
use Rattle.flash_map.specs.Area.{unit_of, sectors_of}
use Rattle.std.specs.List.{find, range_with_len, slice_get}
use Rattle.std.specs.Option.{option_map}
use Rattle.flash_map.specs.declared.faults.Why.TheVariants.{Overfull}
use Rattle.item_laws.specs.Area.{openings}
use Rattle.nvs_store.specs.declared.places.Lookup.TheVariants as lookup
use Rattle.nvs_store.specs.Scans.{reading}
use Rattle.nvs_store.specs.Lookup.{is_match}
use Rattle.item_laws.proofs.AreaReads.{length-sectors}
use Rattle.nvs_store.proofs.MountLemmas.{all_closed, two_open, dirty, unfenced, full}
use Rattle.nvs_store.proofs.mounting.damage.Goals as goal

pub returns-in_default : goal.returns-in_default
returns-in_default g c =
    let d : Device = g.F.Flash.device c.args.flash.now in
    let unit : ℕ = unit_of d c.args.area.now in
    let sectors : List (List ℕ) = sectors_of d c.args.area.now in
    let whole : c.args.area.now.sectors ≡ length sectors = sym (length-sectors d c.args.area.now) in
    let long : c.args.area.now.sectors - 0 ≡ length sectors = omega arith in
    all_closed unit sectors (c.args.area.now.sectors - 0) c.args.current long c.requires.current (sym c.in_default.is ∙ c.first.ensures.value)

pub returns-in-Some-second_opening : goal.returns-in-Some-second_opening
returns-in-Some-second_opening g c =
    let d : Device = g.F.Flash.device c.args.flash.now in
    let unit : ℕ = unit_of d c.args.area.now in
    let sectors : List (List ℕ) = sectors_of d c.args.area.now in
    let whole : c.args.area.now.sectors ≡ length sectors = sym (length-sectors d c.args.area.now) in
    let long : c.args.area.now.sectors - 0 ≡ length sectors = omega arith in
    let some : Some c.in-Some.field-0 ≡ find (is_match lookup.NotClosed unit sectors) (range_with_len 0 (c.args.area.now.sectors - 0)) = sym c.in-Some.is ∙ c.first.ensures.value in
    two_open unit sectors (c.args.area.now.sectors - 0) c.args.current long c.requires.current c.in-Some.field-0 some c.in-Some-second_opening.sector (sym c.in-Some-second_opening.is ∙ c.second_opening.ensures)

pub returns-in-Some-first : goal.returns-in-Some-first
returns-in-Some-first g c =
    let d : Device = g.F.Flash.device c.args.flash.now in
    let unit : ℕ = unit_of d c.args.area.now in
    let sectors : List (List ℕ) = sectors_of d c.args.area.now in
    let whole : c.args.area.now.sectors ≡ length sectors = sym (length-sectors d c.args.area.now) in
    let long : c.args.area.now.sectors - 0 ≡ length sectors = omega arith in
    let some : Some c.in-Some.field-0 ≡ find (is_match lookup.NotClosed unit sectors) (range_with_len 0 (c.args.area.now.sectors - 0)) = sym c.in-Some.is ∙ c.first.ensures.value in
    let one : slice_get (openings (reading unit) sectors) 1 ≡ None = sym c.second_opening.ensures ∙ c.in_default-second_opening.is in
    dirty unit sectors (c.args.area.now.sectors - 0) c.args.current long c.requires.current c.in-Some.field-0 some one c.in-Some-first.sector (sym c.in-Some-first.is ∙ c.first-2.ensures.value)

pub returns-in-Some-first-2 : goal.returns-in-Some-first-2
returns-in-Some-first-2 g c =
    let d : Device = g.F.Flash.device c.args.flash.now in
    let unit : ℕ = unit_of d c.args.area.now in
    let sectors : List (List ℕ) = sectors_of d c.args.area.now in
    let whole : c.args.area.now.sectors ≡ length sectors = sym (length-sectors d c.args.area.now) in
    let long : c.args.area.now.sectors - 0 ≡ length sectors = omega arith in
    let some : Some c.in-Some.field-0 ≡ find (is_match lookup.NotClosed unit sectors) (range_with_len 0 (c.args.area.now.sectors - 0)) = sym c.in-Some.is ∙ c.first.ensures.value in
    let one : slice_get (openings (reading unit) sectors) 1 ≡ None = sym c.second_opening.ensures ∙ c.in_default-second_opening.is in
    let clean : None ≡ find (is_match (lookup.Dirty c.args.current) unit sectors) (range_with_len 0 (c.args.area.now.sectors - 0)) = sym c.in_default-first.is ∙ c.first-2.ensures.value in
    unfenced unit sectors (c.args.area.now.sectors - 0) c.args.current long c.requires.current c.in-Some.field-0 some one clean c.in-Some-first-2.sector (sym c.in-Some-first-2.is ∙ c.first-3.ensures.value)

pub returns-in_err-sector : goal.returns-in_err-sector
returns-in_err-sector g c =
    let d : Device = g.F.Flash.device c.args.flash.now in
    let unit : ℕ = unit_of d c.args.area.now in
    let sectors : List (List ℕ) = sectors_of d c.args.area.now in
    let whole : c.args.area.now.sectors ≡ length sectors = sym (length-sectors d c.args.area.now) in
    let long : c.args.area.now.sectors - 0 ≡ length sectors = omega arith in
    let some : Some c.in-Some.field-0 ≡ find (is_match lookup.NotClosed unit sectors) (range_with_len 0 (c.args.area.now.sectors - 0)) = sym c.in-Some.is ∙ c.first.ensures.value in
    let one : slice_get (openings (reading unit) sectors) 1 ≡ None = sym c.second_opening.ensures ∙ c.in_default-second_opening.is in
    let clean : None ≡ find (is_match (lookup.Dirty c.args.current) unit sectors) (range_with_len 0 (c.args.area.now.sectors - 0)) = sym c.in_default-first.is ∙ c.first-2.ensures.value in
    let fenced : None ≡ find (is_match (lookup.Unfenced c.args.current) unit sectors) (range_with_len 0 (c.args.area.now.sectors - 0)) = sym c.in_default-first-2.is ∙ c.first-3.ensures.value in
    c.from_residual.ensures ∙ ap (option_map (λ (p : ℕ). record { sector = p; why = Overfull })) (sym c.in_err-sector.was) ∙ full unit sectors (c.args.area.now.sectors - 0) c.args.current long c.requires.current c.in-Some.field-0 some one clean c.first-4.result fenced c.first-4.ensures.value

pub returns : goal.returns
returns g c =
    let d : Device = g.F.Flash.device c.args.flash.now in
    let unit : ℕ = unit_of d c.args.area.now in
    let sectors : List (List ℕ) = sectors_of d c.args.area.now in
    let whole : c.args.area.now.sectors ≡ length sectors = sym (length-sectors d c.args.area.now) in
    let long : c.args.area.now.sectors - 0 ≡ length sectors = omega arith in
    let some : Some c.in-Some.field-0 ≡ find (is_match lookup.NotClosed unit sectors) (range_with_len 0 (c.args.area.now.sectors - 0)) = sym c.in-Some.is ∙ c.first.ensures.value in
    let one : slice_get (openings (reading unit) sectors) 1 ≡ None = sym c.second_opening.ensures ∙ c.in_default-second_opening.is in
    let clean : None ≡ find (is_match (lookup.Dirty c.args.current) unit sectors) (range_with_len 0 (c.args.area.now.sectors - 0)) = sym c.in_default-first.is ∙ c.first-2.ensures.value in
    let fenced : None ≡ find (is_match (lookup.Unfenced c.args.current) unit sectors) (range_with_len 0 (c.args.area.now.sectors - 0)) = sym c.in_default-first-2.is ∙ c.first-3.ensures.value in
    ap (option_map (λ (p : ℕ). record { sector = p; why = Overfull })) (sym c.in_ok-sector.was) ∙ full unit sectors (c.args.area.now.sectors - 0) c.args.current long c.requires.current c.in-Some.field-0 some one clean c.first-4.result fenced c.first-4.ensures.value
