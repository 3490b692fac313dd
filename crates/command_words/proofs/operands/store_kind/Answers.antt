use Rattle.command_words.proofs.operands.store_kind.Goals as goal

pub returns-in-nvs : goal.returns-in-nvs
returns-in-nvs c = c.in-nvs.is

pub returns-in-zms : goal.returns-in-zms
returns-in-zms c = c.in-zms.is

pub returns-in-fcb : goal.returns-in-fcb
returns-in-fcb c = c.in-fcb.is
