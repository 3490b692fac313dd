-- The entries of ZMS, as the laws on live items ask for them.
use Rattle.std.proofs.Common.{refl, ◌∙◌, arith}
use Rattle.flash_sim.specs.declared.flash.Kind.{Kind}
use Rattle.item_laws.proofs.SlotLemmas.{index-slot_at}
use Rattle.item_laws.specs.Entries.{AreEntries}
use Rattle.item_laws.proofs.SlotEntries.{read-slots}
use Rattle.zms_cycle.specs.Sector.{slot_of, is_valid, cycle_of, entry_in}
use Rattle.zms_format.specs.Area.{zms}
use Rattle.zms_cycle.proofs.EntryReads.{is_read, bytes_len}
use Rattle.zms_format.proofs.Sectors.{read_room}

pub are_zms : (kind : Kind) → AreEntries (zms kind)
are_zms kind = record {
  listed = λ b. read-slots entry_in (is_valid (cycle_of b)) 2 16 b;
  sector = λ place e. refl;
  slot = λ b place n e some. (is_read (slot_of b n) e some).slot_is ∙ index-slot_at 16 b n;
  pairs = λ b place. refl;
  long = λ b place n e sound from listed some. bytes_len b n e sound from (omega arith) (read_room b n from (omega arith)) some;
}
