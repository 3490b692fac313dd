-- Keys that one name matches.
use Rattle.std.proofs.Common.{◌≡◌, ◌≢◌, ℕ, ◌+◌, ◌<◌, ◌≤◌, true, List, [], ◌∷◌, ◌++◌, length, drop, take, Some, ◌⊎◌, inl, inr, length-append, refl, sym, ◌∙◌, ap, arith}
use Rattle.std.specs.List.{All, join_with_byte}
use Rattle.std.proofs.lemmas.List.{take-append-drop, take-append-le, append-nil}
use Rattle.std.proofs.lemmas.Bool.Decides.{nat_tests}
use Rattle.std.proofs.Math.Seq.{take-append_seam}
use Rattle.setting_name.specs.Name.{parts_of, is_name_byte, HasNameBytes}
use Rattle.setting_name.specs.Match.{matched_rest}
use Rattle.setting_name.proofs.Joins.{join-parts_of}
use Rattle.setting_name.proofs.MatchLemmas.{Matches-matched_rest, text_of_parts}

-- the parts of the key with fewer are the first of the other's
nested : (name key other : List (List ℕ)) (rest left : List (List ℕ)) → name ≡ key ++ rest → name ≡ other ++ left → length key ≤ length other
    → other ≡ key ++ drop (length key) other
nested name key other rest left first second fewer =
    let prefix : take (length key) other ≡ key =
    sym (take-append-le (length key) other left fewer) ∙ ap (take (length key)) (sym second ∙ first) ∙ take-append_seam key rest in
    sym (take-append-drop (length key) other) ∙ ap (λ parts. parts ++ drop (length key) other) prefix

shorter_text : (key other : List ℕ) (others : List (List ℕ)) → length (parts_of other) ≡ length (parts_of key) + length others
    → ((other ≡ key) × (others ≡ [])) ⊎ (other ≡ key ++ 0x2F ∷ join_with_byte 0x2F others) → length (parts_of key) < length (parts_of other) → length key < length other
shorter_text key other others count (inl same) fewer = absurd (omega (arith, ap length same.1))
shorter_text key other others count (inr longer) fewer = omega (arith, ap length longer, length-append key (0x2F ∷ join_with_byte 0x2F others))

between : (name key other rest left : List ℕ) → matched_rest name key ≡ Some rest → matched_rest name other ≡ Some left → length (parts_of key) ≤ length (parts_of other)
    → parts_of other ≡ parts_of key ++ drop (length (parts_of key)) (parts_of other)
between name key other rest left found second fewer =
    let m = Matches-matched_rest name key rest found in
    let n = Matches-matched_rest name other left second in
    nested (parts_of name) (parts_of key) (parts_of other) m.others n.others m.parts n.parts fewer

pub longer_key : (name key other rest left : List ℕ) → matched_rest name key ≡ Some rest → matched_rest name other ≡ Some left
    → length (parts_of key) < length (parts_of other) → length key < length other
longer_key name key other rest left found second fewer =
    let more = drop (length (parts_of key)) (parts_of other) in
    let parts : parts_of other ≡ parts_of key ++ more = between name key other rest left found second (omega arith) in
    shorter_text key other more (ap length parts ∙ length-append (parts_of key) more) (text_of_parts other key more parts) fewer

no_more : (xs : List (List ℕ)) → length xs ≡ 0 → xs ≡ []
no_more [] none = refl
no_more (x ∷ xs) none = absurd (omega arith)

same_text : (key other : List ℕ) (others : List (List ℕ)) → others ≡ [] → parts_of other ≡ parts_of key ++ others → key ≡ other
same_text key other others none parts =
    sym (join-parts_of key) ∙ ap (join_with_byte 0x2F) (sym (append-nil (parts_of key)) ∙ ap (λ more. parts_of key ++ more) (sym none) ∙ sym parts) ∙ join-parts_of other

pub same_key : (name key other rest left : List ℕ) → matched_rest name key ≡ Some rest → matched_rest name other ≡ Some left
    → length (parts_of key) ≡ length (parts_of other) → key ≡ other
same_key name key other rest left found second equal =
    let more = drop (length (parts_of key)) (parts_of other) in
    let parts : parts_of other ≡ parts_of key ++ more = between name key other rest left found second (omega arith) in
    same_text key other more (no_more more (omega (arith, ap length parts, length-append (parts_of key) more))) parts

byte_facts : (byte : ℕ) → is_name_byte byte ≡ true → (0x21 ≤ byte) × (byte ≤ 0x7E) × (byte ≢ 0x3D)
byte_facts byte lawful = grind (arith, nat_tests)

pub name_bytes : (text : List ℕ) → HasNameBytes text → All (λ byte. (0x21 ≤ byte) × (byte ≤ 0x7E) × (byte ≢ 0x3D)) text
name_bytes text lawful k d below = byte_facts _ (lawful k d below)
