use Rattle.std.proofs.Common.{◌∙◌, Some, ap, sym}
use Rattle.zms_cycle.specs.declared.entry.ZEntry.{ZEntry}
use Rattle.zms_cycle.specs.Entries.{entry_of}
use Rattle.zms_cycle.proofs.SlotSearch.{listed_decodes, listed_inside}
use Rattle.zms_cycle.proofs.reading.listed_at.Goals as goal

pub slot_of-requires : goal.slot_of-requires
slot_of-requires c = listed_inside c.args.sector.now c.args.slot c.requires.from c.requires.listed

pub returns : goal.returns
returns c =
    listed_decodes c.args.sector.now c.args.slot c.requires.from c.requires.listed
    ∙ ap (λ (e : ZEntry). Some e) (ap entry_of (sym c.slot_of.ensures.bytes) ∙ sym c.zentry_fields.ensures)
