-- What a step of ZMS that was cut leaves free.
use Rattle.std.proofs.Common.{◌≡◌, ℕ, ◌+◌, ◌≤◌, List, arith}
use Rattle.flash_sim.specs.declared.flash.Kind.{Kind as BankKind}
use Rattle.flash_sim.specs.declared.flash.Kind.TheVariants.{Erasing, Rewritable}
use Rattle.item_store.specs.Steps.{LeavesRoom}
use Rattle.zms_cycle.specs.Changes.{KeepsList, left_over}
use Rattle.zms_cycle.specs.Sector.{data_len, cost, low, data_end}
use Rattle.flash_map.specs.declared.area.Geometry.{Geometry}
use Rattle.zms_format.specs.Formats.{format_of}

-- what may be left of a value takes up no more than the value and its entry
left_within : (bank : BankKind) (len : ℕ) → left_over bank (data_len len) ≤ cost len
left_within Rewritable len = omega arith
left_within Erasing len = omega arith

-- where the slots stay, no more is gone than what is left of a value
pub put_room : (geometry : Geometry) (b e : List ℕ) (len : ℕ) → KeepsList geometry.kind (left_over geometry.kind (data_len len)) b e → LeavesRoom (format_of geometry) b e (cost len)
put_room geometry b e len h =
    let lower : low e ≡ low b = h.kept.lower in
    let to : data_end geometry.kind e ≤ data_end geometry.kind b + left_over geometry.kind (data_len len) = h.end_to in
    let within = left_within geometry.kind len in
    omega arith
