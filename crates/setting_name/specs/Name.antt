-- Which texts are names of settings.
use Rattle.std.specs.Prelude.{ℕ, ◌≤◌, Bool, ◌&&◌, not, nat_le, ◌==◌, IsTrue, List, length, All}
use Rattle.std.specs.List.{list_all, slice_split}

abbrev pub is_slash : ℕ → Bool
is_slash byte = byte == 0x2F

-- what stands before, between and behind the slashes of a text
abbrev pub parts_of : List ℕ → List (List ℕ)
parts_of text = slice_split is_slash text

-- a printable byte other than the space and `=`
abbrev pub is_name_byte : ℕ → Bool
is_name_byte byte = nat_le 0x21 byte && nat_le byte 0x7E && not (byte == 0x3D)

abbrev pub HasNameBytes : List ℕ → Type 0
HasNameBytes text = All (λ byte. IsTrue (is_name_byte byte)) text

-- no part of the text is empty
abbrev pub HasWholeParts : List ℕ → Type 0
HasWholeParts text = All (λ part. 1 ≤ length part) (parts_of text)

-- the most bytes of a name
abbrev pub name_limit : ℕ
name_limit = 64

-- 1 to 64 bytes, and 1 to 8 parts, of which none is empty
pub record IsName (text : List ℕ) : Type 0 where
  pub some : 1 ≤ length text
  pub short : length text ≤ name_limit
  pub bytes : HasNameBytes text
  pub whole : HasWholeParts text
  pub few : length (parts_of text) ≤ 8

-- whether a text is a name
unfoldable pub is_name : List ℕ → Bool
is_name text =
    nat_le 1 (length text) && nat_le (length text) name_limit && list_all is_name_byte text
    && list_all (λ part. nat_le 1 (length part)) (parts_of text) && nat_le (length (parts_of text)) 8
