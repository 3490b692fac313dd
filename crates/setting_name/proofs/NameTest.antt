-- The test of a name says just where a text is one.
use Rattle.std.proofs.Common.{◌≡◌, ℕ, ◌≤◌, true, List, length, arith}
use Rattle.std.specs.Prelude.{nat_le}
use Rattle.std.specs.List.{list_all}
use Rattle.std.proofs.lemmas.Bool.{and_parts, and_from}
use Rattle.std.proofs.lemmas.Bool.Decides.{nat_tests}
use Rattle.std.proofs.lemmas.List.Sums.{AllPass-from_list_all, list_all-from_AllPass}
use Rattle.setting_name.specs.Name.{IsName, is_name, is_name_byte, parts_of}

at_most : (n m : ℕ) → nat_le n m ≡ true → n ≤ m
at_most n m is = grind (arith, nat_tests)

tested : (n m : ℕ) → n ≤ m → nat_le n m ≡ true
tested n m le = grind (arith, nat_tests)

pub is_name-sound : (text : List ℕ) → is_name text ≡ true → IsName text
unfolding is_name
is_name-sound text is =
    let last = and_parts _ (nat_le (length (parts_of text)) 8) is in
    let third = and_parts _ (list_all (λ part. nat_le 1 (length part)) (parts_of text)) last.0 in
    let second = and_parts _ (list_all is_name_byte text) third.0 in
    let first = and_parts (nat_le 1 (length text)) (nat_le (length text) 64) second.0 in
    record {
      some = at_most 1 (length text) first.0;
      short = at_most (length text) 64 first.1;
      bytes = AllPass-from_list_all is_name_byte text second.1;
      whole = λ k d lt. at_most 1 _ (AllPass-from_list_all (λ part. nat_le 1 (length part)) (parts_of text) third.1 k d lt);
      few = at_most (length (parts_of text)) 8 last.1;
    }

pub is_name-complete : (text : List ℕ) → IsName text → is_name text ≡ true
unfolding is_name
is_name-complete text is =
    and_from _ _
    (and_from _ _
    (and_from _ _
    (and_from _ _ (tested 1 (length text) is.some) (tested (length text) 64 is.short))
    (list_all-from_AllPass is_name_byte text is.bytes))
    (list_all-from_AllPass (λ part. nat_le 1 (length part)) (parts_of text) (λ k d lt. tested 1 _ (is.whole k d lt))))
    (tested (length (parts_of text)) 8 is.few)
