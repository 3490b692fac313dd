-- What the first entry of a sector spends.
use Rattle.std.specs.Prelude.{◌≡◌, ℕ, List, None}
use Rattle.flash_sim.specs.declared.flash.Kind.{Kind as BankKind}
use Rattle.zms_cycle.specs.Sector.{cycle_of}
use Rattle.zms_cycle.specs.Changes.{Empties}
use Rattle.zms_format.specs.Formats.{units_of}

-- What a put, a copy or gc-done spends in a sector without a cycle is what it spends after the
-- sector is emptied.
pub record EmptyingKeepsUnits (kind : BankKind) (b e : List ℕ) : Type 0 where
  pub put : (len : ℕ) → (units_of kind).put e len ≡ (units_of kind).put b len
  pub copy : (len : ℕ) → (units_of kind).copy e len ≡ (units_of kind).copy b len
  pub done : (units_of kind).done e ≡ (units_of kind).done b

abbrev pub FirstEntryIsKnown : Type 0
FirstEntryIsKnown =
    (kind : BankKind) (b e : List ℕ) → cycle_of b ≡ None → Empties kind b e → EmptyingKeepsUnits kind b e
