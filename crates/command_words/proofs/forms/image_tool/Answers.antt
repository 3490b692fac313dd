use Rattle.std.proofs.Common.{rules}
use Rattle.command_words.proofs.FormTable.{reported_all, reported_forms, reported_more}
use Rattle.command_words.proofs.forms.image_tool.Goals as goal

pub loop-name-init : goal.loop-name-init
loop-name-init c = (reported_forms c.form_rows-name-items.result.now c.form_rows-name-items.ensures, search rules)

pub loop-name-preserved : goal.loop-name-preserved
loop-name-preserved c = (
  c.loop-name.invariant.0,
  reported_more _ c.loop-name.name-index _ c.loop-name.tool c.in_ok-form.field-0 c.in_ok-tool.tool c.loop-name-test.true c.loop-name.invariant.1
      c.in_ok-form.ensures.shape c.in_ok-form.ensures.local c.in_ok-tool.ensures,
)

pub returns : goal.returns
returns c = reported_all _ c.loop-name.name-index c.loop-name.tool c.loop-name-test.false c.loop-name.invariant.0 c.loop-name.invariant.1
