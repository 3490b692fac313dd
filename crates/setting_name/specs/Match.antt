-- How a name matches a key, and how a key and a rest are joined.
use Rattle.std.specs.Prelude.{◌≡◌, ℕ, ◌==◌, List, [], ◌∷◌, ◌++◌, length, drop, Option, Some, None, if◌then◌else◌}
use Rattle.std.specs.List.{starts_with, join_with_byte}
use Rattle.std.specs.Str.{bytes_eq}
use Rattle.setting_name.specs.Name.{parts_of, is_slash}

-- The parts of the key are the first parts of the name, and the others with a slash between each
-- two are the rest. If there are no others, the rest is empty.
pub record Matches (name key rest : List ℕ) : Type 0 where
  pub others : List (List ℕ)
  pub parts : parts_of name ≡ parts_of key ++ others
  pub joined : rest ≡ join_with_byte 0x2F others

-- the rest of a name that matches the key
unfoldable pub matched_rest : List ℕ → List ℕ → Option (List ℕ)
matched_rest name key =
    if starts_with bytes_eq (parts_of name) (parts_of key)
    then Some (join_with_byte 0x2F (drop (length (parts_of key)) (parts_of name)))
    else None

-- the subtree, a slash and the rest; the subtree itself if the rest is empty
unfoldable pub joined_text : List ℕ → List ℕ → List ℕ
joined_text subtree rest = if length rest == 0 then subtree else subtree ++ 0x2F ∷ rest

-- what is left of a name's bytes behind those of a key, if the key's last part ends there
abbrev pub rest_behind : List ℕ → Option (List ℕ)
rest_behind [] = Some []
rest_behind (byte ∷ rest) = if is_slash byte then Some rest else None
