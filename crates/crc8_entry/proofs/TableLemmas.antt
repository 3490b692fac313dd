-- The entries of the table are the remainders of their indexes, by computation.
use Rattle.std.proofs.Common.{◌≡◌, ℕ, ◌<◌, List, [], ◌∷◌, get_or, map, replicate, refl, sym, ap, ◌∙◌, lit<, arith}
use Rattle.std.specs.Prelude.{fold}
use Rattle.std.specs.List.{range_with_len}
use Rattle.crc8_entry.specs.Crc.{extended, crc}
use Rattle.crc8_entry.specs.declared.table.TheConstants.{TABLE}
use Rattle.std.specs.Int.Bits.{xor_zero_r}
use Rattle.std.proofs.lemmas.Nat.{xor_comm}
use Rattle.std.proofs.lemmas.List.FromFn.{get_or-map-range_with_len}
use Rattle.crc8_entry.specs.Laws.{HasRemainders}
use Rattle.crc8_entry.proofs.Bytes.{zeros, by_bytes, crc-by_bytes}
use Rattle.crc8_entry.proofs.Division.{crc-IsCrc}

table-is : TABLE ≡ map zeros (range_with_len 0 256)
unfolding zeros extended
table-is = refl

pub entry-is : (byte : ℕ) → byte < 256 → get_or TABLE byte 0 ≡ fold extended byte (replicate 8 0)
unfolding zeros
entry-is byte lt = ap (λ (t : List ℕ). get_or t byte 0) table-is ∙ get_or-map-range_with_len zeros 0 256 byte byte 0 lt (omega arith)

byte-crc : (byte : ℕ) → byte < 256 → crc 0 (byte ∷ []) ≡ fold extended byte (replicate 8 0)
unfolding by_bytes zeros
byte-crc byte lt = crc-by_bytes 0 (byte ∷ []) (lit< tt) (lt, tt) ∙ ap zeros (xor_comm 0 byte ∙ xor_zero_r byte)

pub has_remainders : HasRemainders TABLE
has_remainders = record {
  entries = refl;
  each = λ byte lt. crc-IsCrc 0 (byte ∷ []) (get_or TABLE byte 0) (entry-is byte lt ∙ sym (byte-crc byte lt));
}
