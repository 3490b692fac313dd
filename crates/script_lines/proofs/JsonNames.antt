-- The object of all names shows the label and the pairs.
use Rattle.std.proofs.Common.{◌≡◌, ◌⊎◌, inl, inr, ℕ, ◌==◌, ◌<◌, nat_lt, Bool, true, false, cond, List, [], ◌∷◌, ◌++◌, codes, Ok, append_assoc, refl, sym, ◌∙◌, ap, arith}
use Rattle.std.specs.List.{All}
use Rattle.std.proofs.lemmas.List.Elements.{All-nil, All-cons, All-head, All-tail, All-append}
use Rattle.std.proofs.lemmas.Bool.Decides.{nat_tests}
use Rattle.hex.specs.Hex.{encode_lower, decode_of, IsBytes}
use Rattle.hex.proofs.HexLemmas.{decode_of-encode_lower}
use Rattle.json.specs.Print.{escape_byte, escape, quoted}
use Rattle.serde_json.specs.Written.{compact_text, members_text}
use Rattle.script_lines.specs.declared.lists.Pair.{Pair}
use Rattle.image_file.specs.Lawful.{IsLabel}
use Rattle.script_lines.specs.Answer.{names_members, names_object}
use Rattle.script_lines.specs.Transcript.{IsWord, IsReportedPair}
use Rattle.script_lines.proofs.Tokens.{not_byte}
use Rattle.script_lines.proofs.WordTexts.{literal, hex_word, name_word, label_word}

escape_plain : (b : ℕ) → 32 < b → (b == 34) ≡ false → (b == 92) ≡ false → escape_byte b ≡ b ∷ []
unfolding escape_byte
escape_plain b above quote backslash =
    rw (quote, backslash, not_byte 8 b (omega arith) above, not_byte 12 b (omega arith) above, not_byte 10 b (omega arith) above, not_byte 13 b (omega arith) above, not_byte 9 b (omega arith) above, no_control b above) refl where
      no_control : (b : ℕ) → 32 < b → nat_lt b 32 ≡ false
      no_control b above = grind (arith, nat_tests)

is_byte : (b c : ℕ) → (b == c) ≡ true → b ≡ c
is_byte b c is = grind (arith, nat_tests)

-- a quote or a backslash, or what stands for itself
kind_of : (b : ℕ) → 32 < b → ((b ≡ 34) ⊎ (b ≡ 92)) ⊎ (((b == 34) ≡ false) × ((b == 92) ≡ false))
kind_of b above = by_tests (b == 34) (b == 92) (λ is. is_byte b 34 is) (λ is. is_byte b 92 is) where
  by_tests : {Q S : Type 0} (x y : Bool) → (x ≡ true → Q) → (y ≡ true → S) → (Q ⊎ S) ⊎ ((x ≡ false) × (y ≡ false))
  by_tests true y quote backslash = inl (inl (quote refl))
  by_tests false true quote backslash = inl (inr (backslash refl))
  by_tests false false quote backslash = inr (refl, refl)

escape_quote : escape_byte 34 ≡ 92 ∷ 34 ∷ []
unfolding escape_byte
escape_quote = refl

escape_backslash : escape_byte 92 ≡ 92 ∷ 92 ∷ []
unfolding escape_byte
escape_backslash = refl

put_byte : ℕ → List ℕ × List ℕ → List ℕ × List ℕ
put_byte x read = (x ∷ read.0, read.1)

-- the text before the closing quote, and what stands behind it
read_from : Bool → List ℕ → List ℕ × List ℕ
read_from escaped [] = ([], [])
read_from true (x ∷ xs) = put_byte x (read_from false xs)
read_from false (x ∷ xs) = cond (x == 34) ([], xs) (cond (x == 92) (read_from true xs) (put_byte x (read_from false xs)))

by_kind : (b : ℕ) (text rest : List ℕ) → 32 < b → ((b ≡ 34) ⊎ (b ≡ 92)) ⊎ (((b == 34) ≡ false) × ((b == 92) ≡ false)) → read_from false (escape text ++ 34 ∷ rest) ≡ (text, rest)
    → read_from false ((escape_byte b ++ escape text) ++ 34 ∷ rest) ≡ (b ∷ text, rest)
unfolding read_from put_byte
by_kind b text rest above (inl (inl quote)) tail = rw (quote, escape_quote) (ap (put_byte 34) tail)
by_kind b text rest above (inl (inr backslash)) tail = rw (backslash, escape_backslash) (ap (put_byte 92) tail)
by_kind b text rest above (inr plain) tail = rw (escape_plain b above plain.0 plain.1, plain.0, plain.1) (ap (put_byte b) tail)

read_back : (text rest : List ℕ) → IsWord text → read_from false (escape text ++ 34 ∷ rest) ≡ (text, rest)
unfolding read_from put_byte
read_back [] rest is = refl
read_back (b ∷ text) rest is =
    let tail : read_from false (escape text ++ 34 ∷ rest) ≡ (text, rest) = read_back text rest (All-tail (λ b. 32 < b) b text is) in
    by_kind b text rest (All-head (λ b. 32 < b) b text is) (kind_of b (All-head (λ b. 32 < b) b text is)) tail

pub quoted_prefix : (s t r u : List ℕ) → IsWord s → IsWord t → quoted s ++ r ≡ quoted t ++ u → (s ≡ t) × (r ≡ u)
quoted_prefix s t r u one other same =
    let inner : escape s ++ 34 ∷ r ≡ escape t ++ 34 ∷ u = sym (append_assoc (escape s) (34 ∷ []) r) ∙ tail_of (escape s ++ 34 ∷ []) (escape t ++ 34 ∷ []) r u same ∙ append_assoc (escape t) (34 ∷ []) u in
    let both : (s, r) ≡ (t, u) = sym (read_back s r one) ∙ ap (read_from false) inner ∙ read_back t u other in
    (ap (λ (p : List ℕ × List ℕ). p.0) both, ap (λ (p : List ℕ × List ℕ). p.1) both) where
      tail_of : (a b r u : List ℕ) → 34 ∷ (a ++ r) ≡ 34 ∷ (b ++ u) → a ++ r ≡ b ++ u
      tail_of a b r u e = cc

behind : (x y : ℕ) (xs ys : List ℕ) → x ∷ xs ≡ y ∷ ys → xs ≡ ys
behind x y xs ys e = cc

same_hex : (v w : List ℕ) → IsBytes v → IsBytes w → encode_lower v ≡ encode_lower w → v ≡ w
same_hex v w one other same =
    let both : Ok v ≡ Ok w = sym (decode_of-encode_lower v one) ∙ ap decode_of same ∙ decode_of-encode_lower w other in cc

same_pair : (p q : Pair) → p.name ≡ q.name → p.value ≡ q.value → p ≡ q
same_pair p q name value = ap (λ (n : List ℕ). pair n p.value) name ∙ ap (λ (v : List ℕ). pair q.name v) value where
  pair : List ℕ → List ℕ → Pair
  pair n v = record { name = n; value = v }

both_more : (p q : Pair) (ps qs : List Pair) → p ≡ q → ps ≡ qs → p ∷ ps ≡ q ∷ qs
both_more p q ps qs first rest = cc

abbrev member_text : Pair → List Pair → List ℕ
member_text p ps = quoted p.name ++ 58 ∷ (quoted (encode_lower p.value) ++ members_text true (names_members ps))

same_first : (p q : Pair) (ps qs : List Pair) (r u : List ℕ) → All IsReportedPair (p ∷ ps) → All IsReportedPair (q ∷ qs) → member_text p ps ++ r ≡ member_text q qs ++ u
    → (members_text true (names_members ps) ++ r ≡ members_text true (names_members qs) ++ u → ps ≡ qs) → p ∷ ps ≡ q ∷ qs
same_first p q ps qs r u one other same next =
    let a = All-head IsReportedPair p ps one in
    let b = All-head IsReportedPair q qs other in
    let first = quoted_prefix p.name q.name _ _ (name_word p.name a.name) (name_word q.name b.name) (sym (append_assoc (quoted p.name) _ r) ∙ same ∙ append_assoc (quoted q.name) _ u) in
    let second = quoted_prefix (encode_lower p.value) (encode_lower q.value) _ _ (hex_word p.value a.value) (hex_word q.value b.value)
    (sym (append_assoc (quoted (encode_lower p.value)) _ r) ∙ behind _ _ _ _ first.1 ∙ append_assoc (quoted (encode_lower q.value)) _ u) in
    both_more p q ps qs (same_pair p q first.0 (same_hex p.value q.value a.value b.value second.0)) (next second.1)

-- the members behind an opening brace, or behind others
same_members : (later : Bool) (ps qs : List Pair) (r u : List ℕ) → All IsReportedPair ps → All IsReportedPair qs → members_text later (names_members ps) ++ r ≡ members_text later (names_members qs) ++ u → ps ≡ qs
same_members later [] [] r u one other same = refl
same_members true [] (q ∷ qs) r u one other same = cc
same_members false [] (q ∷ qs) r u one other same = cc
same_members true (p ∷ ps) [] r u one other same = cc
same_members false (p ∷ ps) [] r u one other same = cc
same_members true (p ∷ ps) (q ∷ qs) r u one other same = same_first p q ps qs r u one other (behind _ _ _ _ same) (λ rest. same_members true ps qs r u (All-tail IsReportedPair p ps one) (All-tail IsReportedPair q qs other) rest)
same_members false (p ∷ ps) (q ∷ qs) r u one other same = same_first p q ps qs r u one other same (λ rest. same_members true ps qs r u (All-tail IsReportedPair p ps one) (All-tail IsReportedPair q qs other) rest)

pub same_object : (l m : List ℕ) (ps qs : List Pair) → IsLabel l → IsLabel m → All IsReportedPair ps → All IsReportedPair qs → compact_text (names_object l ps) ≡ compact_text (names_object m qs) → (l ≡ m) × (ps ≡ qs)
same_object l m ps qs one other are be same =
    let active : IsWord (codes "active") = literal (codes "active") refl in
    let names : IsWord (codes "names") = literal (codes "names") refl in
    let first = quoted_prefix (codes "active") (codes "active") _ _ active active (behind _ _ _ _ same) in
    let second = quoted_prefix l m _ _ (label_word l one) (label_word m other) (behind _ _ _ _ first.1) in
    let third = quoted_prefix (codes "names") (codes "names") _ _ names names (behind _ _ _ _ second.1) in
    (second.0, same_members false ps qs _ _ are be (behind _ _ _ _ (behind _ _ _ _ third.1)))

-- Its text is one word.

escape_word : (text : List ℕ) → IsWord text → IsWord (escape text)
escape_word [] is = All-nil (λ b. 32 < b)
escape_word (b ∷ text) is =
    All-append (λ b. 32 < b) (escape_byte b) (escape text) (byte_word b (All-head (λ b. 32 < b) b text is) (kind_of b (All-head (λ b. 32 < b) b text is))) (escape_word text (All-tail (λ b. 32 < b) b text is)) where
      byte_word : (b : ℕ) → 32 < b → ((b ≡ 34) ⊎ (b ≡ 92)) ⊎ (((b == 34) ≡ false) × ((b == 92) ≡ false)) → IsWord (escape_byte b)
      byte_word b above (inl (inl quote)) = rw (quote, escape_quote) (literal (92 ∷ 34 ∷ []) refl)
      byte_word b above (inl (inr backslash)) = rw (backslash, escape_backslash) (literal (92 ∷ 92 ∷ []) refl)
      byte_word b above (inr plain) = rw (escape_plain b above plain.0 plain.1) (All-cons (λ b. 32 < b) b [] above (All-nil (λ b. 32 < b)))

quoted_word : (text : List ℕ) → IsWord text → IsWord (quoted text)
quoted_word text is = All-cons (λ b. 32 < b) 34 (escape text ++ 34 ∷ []) (omega arith) (All-append (λ b. 32 < b) (escape text) (34 ∷ []) (escape_word text is) (literal (34 ∷ []) refl))

record IsText (text : List ℕ) : Type 0 where
  word : IsWord text

text : (prefix back : List ℕ) → IsWord prefix → IsText back → IsText (prefix ++ back)
text prefix back is are = record { word = All-append (λ b. 32 < b) prefix back is are.word }

byte : (b : ℕ) (back : List ℕ) → 32 < b → IsText back → IsText (b ∷ back)
byte b back above are = record { word = All-cons (λ b. 32 < b) b back above are.word }

end : (word : List ℕ) → IsWord word → IsText word
end word is = record { word = is }

member_word : (p : Pair) (ps : List Pair) → IsReportedPair p → IsText (members_text true (names_members ps)) → IsText (member_text p ps)
member_word p ps is rest =
    text (quoted p.name) _ (quoted_word p.name (name_word p.name is.name)) (byte 58 _ (omega arith) (text (quoted (encode_lower p.value)) _ (quoted_word (encode_lower p.value) (hex_word p.value is.value)) rest))

members_word : (later : Bool) (ps : List Pair) → All IsReportedPair ps → IsText (members_text later (names_members ps))
members_word later [] are = end (125 ∷ []) (literal (125 ∷ []) refl)
members_word true (p ∷ ps) are = byte 44 _ (omega arith) (member_word p ps (All-head IsReportedPair p ps are) (members_word true ps (All-tail IsReportedPair p ps are)))
members_word false (p ∷ ps) are = member_word p ps (All-head IsReportedPair p ps are) (members_word true ps (All-tail IsReportedPair p ps are))

pub object_word : (l : List ℕ) (ps : List Pair) → IsLabel l → All IsReportedPair ps → IsWord (compact_text (names_object l ps))
object_word l ps is are = whole.word where
  active : IsWord (quoted (codes "active"))
  active = quoted_word (codes "active") (literal (codes "active") refl)

  names : IsWord (quoted (codes "names"))
  names = quoted_word (codes "names") (literal (codes "names") refl)

  whole : IsText (compact_text (names_object l ps))
  whole = byte 123 _ (omega arith) (text (quoted (codes "active")) _ active (byte 58 _ (omega arith) (text (quoted l) _ (quoted_word l (label_word l is)) (byte 44 _ (omega arith) (text (quoted (codes "names")) _ names
      (byte 58 _ (omega arith) (byte 123 _ (omega arith) (text (members_text false (names_members ps)) _ (members_word false ps are).word (end (125 ∷ []) (literal (125 ∷ []) refl))))))))))
