-- Texts of lines.
use Rattle.std.proofs.Common.{String, Global, string_bytes, IfOk, Result, Ok, Err, ◌≡◌, ℕ, ◌+◌, ◌<◌, ◌≤◌, List, [], ◌∷◌, ◌++◌, length, map, take, get_or, append_assoc, refl, sym, ◌∙◌, ap, subst, arith}
use Rattle.std.specs.List.{join_with_byte}
use Rattle.std.proofs.lemmas.List.{map_more}
use Rattle.std.proofs.Math.Seq.{take-length}
use Rattle.std.specs.Global.{Vec}
use Rattle.std.proofs.lemmas.Result.{IfOk-weaker}
use Rattle.script_lines.specs.Answer.{lines_text, AreBytesOf}

pub lines_text-append : (prefix back : List (List (List ℕ))) → lines_text (prefix ++ back) ≡ lines_text prefix ++ lines_text back
lines_text-append [] back = refl
lines_text-append (words ∷ prefix) back = rw (lines_text-append prefix back) (sym (append_assoc (join_with_byte 32 words) (10 ∷ lines_text prefix) (lines_text back)))

-- one line more
pub lines_more : {A : Type 0} (f : A → List (List ℕ)) (xs : List A) (i : ℕ) (x : A) (old new : List ℕ) → i < length xs → x ≡ get_or xs i x → old ≡ lines_text (map f (take i xs)) → new ≡ old ++ lines_text (f x ∷ []) → new ≡ lines_text (map f (take (i + 1) xs))
lines_more f xs i x old new within at so_far more =
    let this : f (get_or xs i x) ∷ [] ≡ f x ∷ [] = ap (λ y. f y ∷ []) (sym at) in
    more ∙ ap (λ (text : List ℕ). text ++ lines_text (f x ∷ [])) so_far ∙ sym (lines_text-append (map f (take i xs)) (f x ∷ []))
    ∙ ap lines_text (ap (λ (lines : List (List (List ℕ))). map f (take i xs) ++ lines) (sym this) ∙ sym (map_more f xs i x within))

pub lines_whole : {A : Type 0} (f : A → List (List ℕ)) (xs : List A) (i : ℕ) (text : List ℕ) → length xs ≤ i → i ≤ length xs → text ≡ lines_text (map f (take i xs)) → text ≡ lines_text (map f xs)
lines_whole f xs i text past within so_far =
    let e : i ≡ length xs = omega arith in
    so_far ∙ ap (λ (n : ℕ). lines_text (map f (take n xs))) e ∙ ap (λ ys. lines_text (map f ys)) (take-length xs)

pub lines_joined : (prefix back : List (List (List ℕ))) (old added new : List ℕ) → new ≡ old ++ added → old ≡ lines_text prefix → added ≡ lines_text back → new ≡ lines_text (prefix ++ back)
lines_joined prefix back old added new joins first then = joins ∙ ap (λ (text : List ℕ). text ++ added) first ∙ ap (λ (text : List ℕ). lines_text prefix ++ text) then ∙ sym (lines_text-append prefix back)

-- the bytes of a text that was made
pub bytes_made : {E : Type 0} (text : Result (String Global) E) (made : Result (Vec ℕ) E) (have want : List ℕ) → AreBytesOf text made → IfOk text (λ t. string_bytes t ≡ have) → have ≡ want → IfOk made (λ v. v.items ≡ want)
bytes_made (Ok text) made have want are is same = IfOk-weaker made (λ v. v.items ≡ string_bytes text) (λ v. v.items ≡ want) (λ v e. e ∙ is ∙ same) are
bytes_made (Err e) made have want are is same = rw are tt

pub same_text : {E : Type 0} (made : Result (Vec ℕ) E) (have want : List ℕ) → IfOk made (λ v. v.items ≡ have) → have ≡ want → IfOk made (λ v. v.items ≡ want)
same_text made have want is same = subst (λ (text : List ℕ). IfOk made (λ v. v.items ≡ text)) same is
