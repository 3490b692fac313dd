use Rattle.std.proofs.Common.{ℕ, List, string_bytes, codes, ap, ◌∙◌}
use Rattle.serde_json.specs.Data.{Data, string, put}
use Rattle.serde_json.specs.View.{view, members_view}
use Rattle.serde_json.specs.declared.value.Value as value
use Rattle.serde_json.proofs.Views.{view-Object}
use Rattle.script_lines.proofs.NameTexts.{whole_object, reported_object, label_is_text, view-String}
use Rattle.script_lines.proofs.answer.names_text.Goals as goal

pub returns : goal.returns
returns c =
    let active = c.args.active.now in
    let pairs = c.args.pairs.now in
    let label : List ℕ = string_bytes c.in_ok-label.label in
    let first = members_view c.put.new.map.entries in
    let second = members_view c.put-2.new.map.entries in
    let members = whole_object active label pairs (members_view c.in_ok-names.names.entries) first second (view (value.Object c.in_ok-names.names))
    (c.in_ok-label.ensures.ok (label_is_text active c.requires.label)) c.in_ok-names.ensures (view-Object c.in_ok-names.names)
    (c.in_ok-put.ensures.ok ∙ ap (λ (d : Data). put (codes "active") d (members_view c.new-members.result.entries)) (view-String c.in_ok-label.label) ∙ ap (λ es. put (codes "active") (string label) (members_view es)) c.new-members.ensures.empty)
    c.in_ok-put-2.ensures.ok in
    reported_object active pairs second c.object_text.result members c.object_text.ensures
