use Rattle.std.proofs.Common.{◌≡◌, ℕ, List, ◌∷◌, [], ◌++◌, append_assoc, ap, ◌∙◌}
use Rattle.std.proofs.lemmas.Result.{on_ok_weaker}
use Rattle.hex.specs.Hex.{encode_lower}
use Rattle.script_lines.specs.Answer.{dashed, lines_text, taken_word}
use Rattle.script_lines.proofs.answer.add_give.Goals as goal

-- the texts after each call
five-words : (start one two three digits space end first second other third fourth fifth written : List ℕ) → one ≡ start ++ first ++ 32 ∷ [] → two ≡ one ++ second ++ 32 ∷ [] → three ≡ two ++ other ++ 32 ∷ [] → other ≡ third → digits ≡ three ++ fourth → space ≡ digits ++ 32 ∷ [] → end ≡ space ++ written ++ 10 ∷ [] → written ≡ fifth
    → end ≡ start ++ lines_text ((first ∷ second ∷ third ∷ fourth ∷ fifth ∷ []) ∷ [])
five-words start one two three digits space end first second other third fourth fifth written by-one by-two by-three is-third by-digits by-space by-end is-fifth =
    by-end ∙ ap (λ (w : List ℕ). space ++ w ++ 10 ∷ []) is-fifth
    ∙ ap (λ (t : List ℕ). t ++ fifth ++ 10 ∷ []) (by-space ∙ ap (λ (t : List ℕ). t ++ 32 ∷ []) (by-digits ∙ ap (λ (t : List ℕ). t ++ fourth) (by-three ∙ ap (λ (w : List ℕ). two ++ w ++ 32 ∷ []) is-third ∙ ap (λ (t : List ℕ). t ++ third ++ 32 ∷ []) (by-two ∙ ap (λ (t : List ℕ). t ++ second ++ 32 ∷ []) by-one))))
    ∙ simp append_assoc

pub returns : goal.returns
returns c =
    on_ok_weaker c.add_last.result (λ is. five-words c.args.text.now.items c.add_word.new.text.items c.add_word-2.new.text.items c.add_word-3.new.text.items c.add_digits.new.text.items c.add.new.text.items c.add_last.new.text.items
    (103 ∷ 105 ∷ 118 ∷ 101 ∷ []) c.args.give.now.subtree c.rest_or_dash.result.now (dashed c.args.give.now.rest) (encode_lower c.args.give.now.value) (taken_word c.args.give.now.taken) c.taken_or_rejected.result.now
    c.in_ok-add_word.ensures (c.in_ok-add_word-2.ensures ∙ ap (λ (w : List ℕ). c.add_word.new.text.items ++ w ++ 32 ∷ []) c.bytes.ensures.value) c.in_ok-add_word-3.ensures
    (c.rest_or_dash.ensures ∙ ap dashed c.as_slice.ensures)
    (c.in_ok-add_digits.ensures ∙ ap (λ (w : List ℕ). c.add_word-3.new.text.items ++ encode_lower w) c.as_slice-2.ensures) c.in_ok-add.ensures is c.taken_or_rejected.ensures) c.add_last.ensures
