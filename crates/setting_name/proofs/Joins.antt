-- The parts of two texts with a slash between them.
use Rattle.std.proofs.Common.{◌≡◌, ℕ, ◌≤◌, Bool, true, false, cond, eqb, List, [], ◌∷◌, ◌++◌, length, refl, sym, ◌∙◌, ap, arith, append_assoc}
use Rattle.std.specs.List.{onto_first, join_with_byte}
use Rattle.std.proofs.lemmas.List.Splits.{length-slice_split, join_with_byte-slice_split}
use Rattle.setting_name.specs.Name.{is_slash, parts_of}

pub length-parts_of : (text : List ℕ) → 1 ≤ length (parts_of text)
length-parts_of text = omega (arith, length-slice_split is_slash text)

onto_first-append : (x : ℕ) (parts others : List (List ℕ)) → 1 ≤ length parts → onto_first x (parts ++ others) ≡ onto_first x parts ++ others
onto_first-append x [] others some = absurd (omega arith)
onto_first-append x (part ∷ parts) others some = refl

more_parts : (x : ℕ) (b : Bool) (parts others : List (List ℕ)) → 1 ≤ length parts
    → cond b ([] ∷ (parts ++ others)) (onto_first x (parts ++ others)) ≡ cond b ([] ∷ parts) (onto_first x parts) ++ others
more_parts x true parts others some = refl
more_parts x false parts others some = onto_first-append x parts others some

-- the parts of both, one after the other
pub parts_of-joined : (prefix back : List ℕ) → parts_of (prefix ++ 0x2F ∷ back) ≡ parts_of prefix ++ parts_of back
parts_of-joined [] back = refl
parts_of-joined (x ∷ prefix) back =
    ap (λ parts. cond (eqb x 0x2F) ([] ∷ parts) (onto_first x parts)) (parts_of-joined prefix back)
    ∙ more_parts x (eqb x 0x2F) (parts_of prefix) (parts_of back) (length-parts_of prefix)

pub join_with_byte-append : (prefixes : List (List ℕ)) (part : List ℕ) (parts : List (List ℕ)) → 1 ≤ length prefixes
    → join_with_byte 0x2F (prefixes ++ part ∷ parts) ≡ join_with_byte 0x2F prefixes ++ 0x2F ∷ join_with_byte 0x2F (part ∷ parts)
join_with_byte-append [] part parts some = absurd (omega arith)
join_with_byte-append (x ∷ []) part parts some = refl
join_with_byte-append (x ∷ y ∷ prefixes) part parts some =
    ap (λ text. x ++ 0x2F ∷ text) (join_with_byte-append (y ∷ prefixes) part parts (omega arith))
    ∙ sym (append_assoc x (0x2F ∷ join_with_byte 0x2F (y ∷ prefixes)) (0x2F ∷ join_with_byte 0x2F (part ∷ parts)))

pub join-parts_of : (text : List ℕ) → join_with_byte 0x2F (parts_of text) ≡ text
join-parts_of text = join_with_byte-slice_split 0x2F text
