-- the settings change, or are only read
use Rattle.mirror_session.proofs.carrying.with_power.Goals as goal

pub returns-in-Set-clause-left : goal.returns-in-Set-clause-left
returns-in-Set-clause-left g c = c.change_setting.ensures.left

pub returns-in-Del-clause-left : goal.returns-in-Del-clause-left
returns-in-Del-clause-left g c = c.delete_setting.ensures.left

pub returns-in-Get-clause-left : goal.returns-in-Get-clause-left
returns-in-Get-clause-left g c due most some within owes = owes

pub returns-in-Names-clause-left : goal.returns-in-Names-clause-left
returns-in-Names-clause-left g c due most some within owes = owes
