use Rattle.std.proofs.Common.{refl}
use Rattle.script_lines.proofs.reading.line_alone.Goals as goal

pub returns-in-Commit : goal.returns-in-Commit
returns-in-Commit c = rw c.in-Commit.is refl

pub returns-in-Names : goal.returns-in-Names
returns-in-Names c = rw c.in-Names.is refl

pub returns-in-Mount : goal.returns-in-Mount
returns-in-Mount c = rw c.in-Mount.is refl

pub returns-in-Uncut : goal.returns-in-Uncut
returns-in-Uncut c = rw c.in-Uncut.is refl

pub returns-in-Migrate : goal.returns-in-Migrate
returns-in-Migrate c = rw c.in-Migrate.is refl
