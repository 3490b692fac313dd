use Rattle.std.proofs.Common.{◌≡◌, ℕ, ◌-◌, List, [], ◌∷◌, ◌++◌, length, replicate, ap, ◌∙◌, arith}
use Rattle.std.specs.Int.{w16, to_le_bytes}
use Rattle.flash_map.specs.declared.area.Area.{Area}
use Rattle.image_file.specs.Format.{role_byte}
use Rattle.image_file.proofs.WritingLemmas.{appended, six_parts}
use Rattle.image_file.proofs.writing.put_area.Goals as goal

pub overflow_cast-area : goal.overflow_cast-area
overflow_cast-area c = omega (arith, c.requires.bank)

pub overflow_cast-area-2 : goal.overflow_cast-area-2
overflow_cast-area-2 c = omega (arith, c.requires.first)

pub overflow_cast-area-3 : goal.overflow_cast-area-3
overflow_cast-area-3 c = omega (arith, c.requires.sectors)

pub returns : goal.returns
returns c =
    let old : List ℕ = c.args.file.now.items in
    let area : Area = c.args.area.now in
    let label : List ℕ = area.label.bytes in
    let same : c.as_bytes-label.result.now ≡ label = c.as_bytes-label.ensures.value ∙ c.as_str.ensures.value in
    let head : List ℕ = role_byte area.role ∷ area.bank ∷ [] in
    let first : List ℕ = to_le_bytes w16 area.first in
    let sectors : List ℕ = to_le_bytes w16 area.sectors in
    let zeros : List ℕ = replicate (8 - length label) 0 in
    let one : c.extend_from_slice.new.self.items ≡ old ++ head = c.in_ok-extend_from_slice.ensures.items ∙ ap (λ (k : ℕ). old ++ k ∷ area.bank ∷ []) c.role_byte.ensures in
    let two : c.extend_from_slice-2.new.self.items ≡ c.extend_from_slice.new.self.items ++ first = c.in_ok-extend_from_slice-2.ensures.items ∙ ap (λ (l : List ℕ). c.extend_from_slice.new.self.items ++ l) c.to_le_bytes.ensures in
    let three : c.extend_from_slice-3.new.self.items ≡ c.extend_from_slice-2.new.self.items ++ sectors = c.in_ok-extend_from_slice-3.ensures.items ∙ ap (λ (l : List ℕ). c.extend_from_slice-2.new.self.items ++ l) c.to_le_bytes-2.ensures in
    let four : c.extend_from_slice-4.new.self.items ≡ c.extend_from_slice-3.new.self.items ++ length label ∷ 0 ∷ [] = c.in_ok-extend_from_slice-4.ensures.items ∙ ap (λ (l : List ℕ). c.extend_from_slice-3.new.self.items ++ length l ∷ 0 ∷ []) same in
    let five : c.extend_from_slice-5.new.self.items ≡ c.extend_from_slice-4.new.self.items ++ label = c.in_ok-extend_from_slice-5.ensures.items ∙ ap (λ (l : List ℕ). c.extend_from_slice-4.new.self.items ++ l) same in
    let six : c.extend_from_slice-5.new.self.items ++ c.zeros.result.now ≡ c.extend_from_slice-5.new.self.items ++ zeros = ap (λ (l : List ℕ). c.extend_from_slice-5.new.self.items ++ l) (c.zeros.ensures ∙ ap (λ (l : List ℕ). replicate (8 - length l) 0) same) in
    appended c.extend_from_slice-6.result c.extend_from_slice-6.new.self.items (c.extend_from_slice-5.new.self.items ++ c.zeros.result.now) c.extend_from_slice-5.new.self.items (old ++ (head ++ (first ++ (sectors ++ (length label ∷ 0 ∷ (label ++ zeros)))))) c.extend_from_slice-6.ensures.items
    (six ∙ six_parts old head first sectors (length label ∷ 0 ∷ []) label zeros c.extend_from_slice.new.self.items c.extend_from_slice-2.new.self.items c.extend_from_slice-3.new.self.items c.extend_from_slice-4.new.self.items c.extend_from_slice-5.new.self.items one two three four five)
