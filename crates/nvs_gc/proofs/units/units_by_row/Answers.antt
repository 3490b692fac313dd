use Rattle.nvs_gc.proofs.RowLemmas.{round-row, mount-row, write-row, delete-row}
use Rattle.nvs_gc.proofs.units.units_by_row.Goals as goal

pub returns-clause-round : goal.returns-clause-round
returns-clause-round c = λ old new nvs result lawful on ends. round-row old nvs lawful on new result ends

pub returns-clause-mount : goal.returns-clause-mount
returns-clause-mount c = λ old new area result lawful is ends. mount-row old area lawful is new result ends

pub returns-clause-write : goal.returns-clause-write
returns-clause-write c = λ old new area id bytes result ends. write-row old new area id bytes result ends

pub returns-clause-delete : goal.returns-clause-delete
returns-clause-delete c = λ old new area id result lawful is ends. delete-row old new area id result lawful is ends
