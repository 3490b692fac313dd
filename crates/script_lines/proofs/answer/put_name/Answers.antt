use Rattle.std.proofs.Common.{◌≡◌, ℕ, List, sym, ap, subst, ◌∙◌}
use Rattle.std.proofs.lemmas.Result.{on_ok_weaker}
use Rattle.std.specs.Str.{IsUtf8}
use Rattle.hex.specs.Hex.{encode_lower}
use Rattle.serde_json.specs.Data.{Data, string, put}
use Rattle.serde_json.specs.View.{view, members_view}
use Rattle.serde_json.specs.declared.value.Value as value
use Rattle.script_lines.proofs.NameTexts.{name_is_text, view-String}
use Rattle.script_lines.proofs.answer.put_name.Goals as goal

pub returns : goal.returns
returns c =
    let pair = c.args.pair.now in
    let old = members_view c.args.names.now.entries in
    let name : c.as_str.result.now ≡ pair.name = c.as_str.ensures.value ∙ c.in_ok-name.ensures.ok (subst IsUtf8 (sym c.bytes.ensures.value) (name_is_text pair.name c.bytes.ensures.name)) ∙ c.bytes.ensures.value in
    let digits : view (value.String c.in_ok-digits.digits) ≡ string (encode_lower pair.value) = view-String c.in_ok-digits.digits ∙ ap string (c.in_ok-digits.ensures ∙ ap encode_lower c.as_slice.ensures) in
    on_ok_weaker c.put.result (λ puts. puts ∙ ap (λ (text : List ℕ). put text (view (value.String c.in_ok-digits.digits)) old) name ∙ ap (λ (d : Data). put pair.name d old) digits) c.put.ensures.ok
