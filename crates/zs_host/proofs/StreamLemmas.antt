-- Bytes that are written, or read, one piece after another.
use Rattle.std.proofs.Common.{◌≡◌, ℕ, ◌+◌, ◌-◌, ◌<◌, List, [], ◌++◌, length, take, drop, Option, Some, None, IfSome, ◌∙◌, sym, ap, subst, append_assoc, append-nil, length-append, length-drop, arith}
use Rattle.std.proofs.lemmas.List.{take_all}
use Rattle.std.proofs.Math.Seq.{take-add}
use Rattle.std.specs.Io.KnownBytes.{Appends, Consumes, IsAtEnd}

appended : (xs ys zs one two : List ℕ) → ys ≡ xs ++ one → zs ≡ ys ++ two → zs ≡ xs ++ (one ++ two)
appended xs ys zs one two first second = second ∙ ap (λ (w : List ℕ). w ++ two) first ∙ append_assoc xs one two

-- two pieces are one
pub appends_both : (a b c : Option (List ℕ)) (one two : List ℕ) → Appends a b one → Appends b c two → Appends a c (one ++ two)
appends_both None b c one two first second = tt
appends_both (Some xs) None c one two first second = absurd first
appends_both (Some xs) (Some ys) None one two first second = absurd second
appends_both (Some xs) (Some ys) (Some zs) one two first second = appended xs ys zs one two first second

-- the piece from `at` on, and how much of it a write took
pub piece_of : (bytes : List ℕ) (at count : ℕ) → take count (take (length bytes - at) (drop at bytes)) ≡ take count (drop at bytes)
piece_of bytes at count = ap (take count) (take_all (length bytes - at) (drop at bytes) (omega (arith, length-drop at bytes)))

pub appends_more : (a b c : Option (List ℕ)) (bytes : List ℕ) (at count : ℕ) → Appends a b (take at bytes) → Appends b c (take count (take (length bytes - at) (drop at bytes))) → Appends a c (take (at + count) bytes)
appends_more a b c bytes at count first second =
    rw (take-add at count bytes) (appends_both a b c (take at bytes) (take count (drop at bytes)) first (rw (piece_of bytes at count) at second))

-- two pieces that were read are one
consumes_both : (a b c : Option (List ℕ)) (one two : List ℕ) → Consumes a b one → Consumes b c two → Consumes a c (one ++ two)
consumes_both None b c one two first second = tt
consumes_both (Some xs) None c one two first second = absurd first
consumes_both (Some xs) (Some ys) None one two first second = absurd second
consumes_both (Some xs) (Some ys) (Some zs) one two first second = first ∙ ap (λ (w : List ℕ). one ++ w) second ∙ sym (append_assoc one two zs)

pub consumes_more : (a b c : Option (List ℕ)) (one two all : List ℕ) → Consumes a b one → Consumes b c two → all ≡ one ++ two → Consumes a c all
consumes_more a b c one two all first second is = subst (Consumes a c) (sym is) (consumes_both a b c one two first second)

-- what was read is all, where the last read gave nothing
pub consumes_all : (a b c : Option (List ℕ)) (bytes buffer : List ℕ) (count : ℕ) → Consumes a b bytes → Consumes b c (take count buffer) → count ≡ 0 → IsAtEnd c → IfSome a (λ all. bytes ≡ all)
consumes_all None b c bytes buffer count first last none end = tt
consumes_all (Some xs) None c bytes buffer count first last none end = absurd first
consumes_all (Some xs) (Some ys) None bytes buffer count first last none end = absurd last
consumes_all (Some xs) (Some ys) (Some zs) bytes buffer count first last none end =
    let left : ys ≡ [] = last ∙ ap (λ (n : ℕ). take n buffer ++ zs) none ∙ end in
    sym (first ∙ ap (λ (w : List ℕ). bytes ++ w) left ∙ append-nil bytes)

-- a file that has more than the limit
pub consumes_many : (a b : Option (List ℕ)) (bytes : List ℕ) (limit : ℕ) → Consumes a b bytes → limit < length bytes → IfSome a (λ all. limit < length all)
consumes_many None b bytes limit read lt = tt
consumes_many (Some xs) None bytes limit read lt = absurd read
consumes_many (Some xs) (Some ys) bytes limit read lt = let long : length xs ≡ length (bytes ++ ys) = ap length read in omega (arith, length-append bytes ys)
