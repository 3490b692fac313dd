-- A text with a fault is no name.
use Rattle.std.proofs.Common.{◌≡◌, ℕ, Bool, true, false, not, List, get_or, Some, Result, Ok, Err, IsOk, refl, ◌∙◌, ap, subst, arith}
use Rattle.std.proofs.lemmas.List.Quantifiers.{position-Some}
use Rattle.setting_name.specs.Name.{IsName, HasNameBytes, is_name_byte}
use Rattle.setting_name.specs.NameFault.{IsFault, Reads, first_bad_byte}
use Rattle.setting_name.specs.declared.name.NameFault.{NameFault}
use Rattle.setting_name.specs.declared.name.NameFault.TheVariants.{Empty, TooLong, BadByte, EmptyPart, TooDeep}
use Rattle.setting_name.specs.Match.{joined_text, matched_rest}
use Rattle.std.specs.Result.{IfOk}
use Rattle.setting_name.proofs.MatchLemmas.{matched_rest-joined_text}
use Rattle.setting_name.proofs.Lacks.{lack_breaks, lacks_within}

not_both : (b : Bool) → not b ≡ true → b ≡ true → ⊥
not_both true fails passes = let same : false ≡ true = fails in cc
not_both false fails passes = let same : false ≡ true = passes in cc

pub bad_byte_breaks : (text : List ℕ) (place : ℕ) → first_bad_byte text ≡ Some place → HasNameBytes text → ⊥
bad_byte_breaks text place found lawful =
    let at = position-Some (λ byte. not (is_name_byte byte)) text place 0 found in
    not_both (is_name_byte (get_or text place 0)) at.1 (lawful place 0 at.0)

fault_breaks : (text : List ℕ) (fault : NameFault) → IsFault text fault → IsName text → ⊥
fault_breaks text Empty fault name = omega (arith, name.some)
fault_breaks text TooLong fault name = omega (arith, name.short)
fault_breaks text (BadByte place) fault name = bad_byte_breaks text place fault.1 name.bytes
fault_breaks text (EmptyPart place) fault name =
    lack_breaks text place (lacks_within text place fault.2.0) fault.2.0 name.whole
fault_breaks text TooDeep fault name = omega (arith, name.few, fault.3)

-- a text reads as a name exactly where it is one
pub names_by_reads : (text : List ℕ) (answer : Result (List ℕ) NameFault) → Reads text answer → (IsOk answer → IsName text) × (IsName text → IsOk answer)
names_by_reads text (Ok name) reads = (λ is. reads.1, λ name'. refl)
names_by_reads text (Err fault) reads = (λ is. absurd (let same : false ≡ true = is in cc), λ name. absurd (fault_breaks text fault reads name))

pub reads_along : (text same : List ℕ) (answer : Result (List ℕ) NameFault) → text ≡ same → Reads text answer → Reads same answer
reads_along text same answer along reads = subst (λ t. Reads t answer) along reads

pub match_by_reads : (key rest : List ℕ) (answer : Result (List ℕ) NameFault) → Reads (joined_text key rest) answer → IfOk answer (λ name. matched_rest name key ≡ Some rest)
match_by_reads key rest (Ok name) reads = ap (λ text. matched_rest text key) reads.0 ∙ matched_rest-joined_text key rest
match_by_reads key rest (Err fault) reads = tt
