use Rattle.std.proofs.Common.{◌≡◌, ℕ, ◌+◌, ◌-◌, ◌≤◌, List, [], ◌∷◌, ◌++◌, length, take, get_or, set, refl, sym, ap, ◌∙◌, arith}
use Rattle.std.proofs.lemmas.List.{take_more, take-set-le, take_at, get_or-set_same, length-set, length-append, length-drop, append_assoc}
use Rattle.std.proofs.lemmas.Slice.{take-put_mid}
use borrow.Rule.Slice.PartMut.{put_mid, post_of}
use Rattle.record_settings.specs.Settings.{body_of}
use Rattle.backend_fcb.proofs.record.write_body.Goals as goal

-- what the start of the buffer is once all three are written
written : (name value buffer first : List ℕ) (n k : ℕ) → first ≡ name → n ≡ length name → n + 1 + length value ≤ length buffer
    → take (n + 1 + length value) (put_mid (n + 1) k (set (first ++ post_of 0 n buffer) n 61) value) ≡ body_of name value
written name value buffer first n k same len fits =
    let rest : List ℕ = post_of 0 n buffer in
    let xs : List ℕ = set (first ++ rest) n 61 in
    let left : n + length rest ≡ length buffer = omega (arith, length-drop n buffer, fits) in
    let long : length first ≡ n = ap length same ∙ sym len in
    let all : length (first ++ rest) ≡ length buffer = length-append first rest ∙ omega (arith, left, long) in
    let all-set : length xs ≡ length buffer = length-set (first ++ rest) n 61 ∙ all in
    let front : take (n + 1) xs ≡ first ++ 61 ∷ [] =
    take_more xs n 0 (omega (arith, all-set, fits))
    ∙ ap (λ (l : List ℕ). l ++ get_or xs n 0 ∷ []) (take-set-le n (first ++ rest) n 61 (omega arith) ∙ take_at first rest n long)
    ∙ ap (λ (v : ℕ). first ++ v ∷ []) (get_or-set_same (first ++ rest) n 61 0 (omega (arith, all, fits))) in
    take-put_mid (n + 1) k xs value (n + 1 + length value) refl (omega (arith, all-set, fits))
    ∙ ap (λ (l : List ℕ). l ++ value) front
    ∙ append_assoc first (61 ∷ []) value
    ∙ ap (λ (l : List ℕ). l ++ 61 ∷ value) same

pub returns-clause-body : goal.returns-clause-body
returns-clause-body c =
    let n : ℕ = length c.bytes-end.result.now in
    let value : List ℕ = c.args.value.now in
    let len : n ≡ length c.args.name.now = ap length c.bytes-end.ensures.value in
    let fits : n + 1 + length value ≤ length c.args.buffer.now = omega (arith, len, c.requires.room) in
    ap (λ (ys : List ℕ). take (n + 1 + length value) (put_mid (n + 1) (n + 1 + length value - (n + 1)) (set (c.copy_from_slice.new.self ++ post_of 0 n c.args.buffer.now) n 61) ys)) c.copy_from_slice-2.ensures.after
    ∙ written c.args.name.now value c.args.buffer.now c.copy_from_slice.new.self n (n + 1 + length value - (n + 1)) (c.copy_from_slice.ensures.after ∙ c.bytes.ensures.value) len fits
