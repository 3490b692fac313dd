-- Commands one after another, and the walk over the names of a map.
use Rattle.std.proofs.Common.{◌≡◌, ℕ, suc, ◌+◌, true, List, [], ◌∷◌, ◌++◌, length, length-append, take, refl, sym, ap, ◌∙◌, arith}
use Rattle.std.specs.Prelude.{find, fold}
use Rattle.std.specs.FinMap as maps
use Rattle.std.specs.FinMap.{slice_cmp-IsAntisymmetric, nat_cmp-IsAntisymmetric}
use Rattle.std.specs.List.{slice_get}
use Rattle.std.specs.Cmp.Lexicographic.{nat_list_cmp_total}
use Rattle.std.proofs.lemmas.List.{take_all, take-append-le}
use Rattle.std.proofs.lemmas.List.Sums.{fold-append}
use Rattle.backend_api.specs.Commands.{Command, applied, all_applied, puts_of}
use Rattle.backend_api.specs.Laws.{WalksKeys, IsRebuilt, Follow}
use Rattle.backend_api.specs.Map.{Map}
use Rattle.backend_api.proofs.KeyLemmas.{walks, with_pairs, rebuilt}

pub walks-keys : (settings : Map) → WalksKeys settings
walks-keys settings = record {
  first = first (maps.keys settings);
  next = λ i name at. walks nat_list_cmp_total (maps.entries settings) (maps.entries_sorted settings) i name at;
}
  where
    first : (names : List (List ℕ)) → find (λ name. true) names ≡ slice_get names 0
    first [] = refl
    first (name ∷ rest) = refl

-- the puts of some pairs are their inserts
puts-are : (pairs : List (List ℕ × List ℕ)) (settings : Map) → fold applied settings (puts_of pairs) ≡ with_pairs nat_list_cmp_total settings pairs
puts-are [] settings = refl
puts-are (pair ∷ rest) settings = puts-are rest (maps.insert settings pair.0 pair.1)

pub is-rebuilt : (settings : Map) → IsRebuilt settings
unfolding all_applied
is-rebuilt settings = puts-are (maps.entries settings) maps.empty ∙ rebuilt nat_list_cmp_total (slice_cmp-IsAntisymmetric nat_cmp-IsAntisymmetric) settings

pub applied-more : (before : Map) (commands others : List Command) → all_applied before (commands ++ others) ≡ all_applied (all_applied before commands) others
unfolding all_applied
applied-more before commands others = fold-append applied before commands others

take_behind : (commands others : List Command) (n : ℕ) → take (length commands + n) (commands ++ others) ≡ commands ++ take n others
take_behind [] others n = let e : 0 + n ≡ n = omega arith in ap (λ (k : ℕ). take k others) e
take_behind (c ∷ rest) others n =
    let e : length (c ∷ rest) + n ≡ suc (length rest + n) = omega arith in
    ap (λ (k : ℕ). take k (c ∷ (rest ++ others))) e ∙ ap (λ (l : List Command). c ∷ l) (take_behind rest others n)

applied-none : (before : Map) → all_applied before [] ≡ before
unfolding all_applied
applied-none before = refl

applied-one : (before : Map) (c : Command) (commands : List Command) → all_applied before (c ∷ commands) ≡ all_applied (applied before c) commands
unfolding all_applied
applied-one before c commands = refl

pub follow : (before : Map) (commands : List Command) → Follow before commands
follow before commands = record {
  none = applied-none before;
  one = λ c. applied-one before c commands;
  more = applied-more before commands;
  nothing_done = record { done = 0; within = omega arith; settings = sym (applied-none before) };
  all_done = record { done = length commands; within = omega arith; settings = sym (ap (all_applied before) (take_all (length commands) commands (omega arith))) };
  one_done = λ c after part. record {
    done = suc part.done;
    within = (let le = part.within in omega arith);
    settings = part.settings ∙ sym (applied-one before c (take part.done commands));
  };
  part_of_more = λ others after part. record {
    done = part.done;
    within = (let le = part.within in let sum = length-append commands others in omega arith);
    settings = part.settings ∙ ap (all_applied before) (sym (take-append-le part.done commands others part.within));
  };
  part_behind = λ others after part. record {
    done = length commands + part.done;
    within = (let le = part.within in let sum = length-append commands others in omega arith);
    settings = part.settings ∙ sym (applied-more before commands (take part.done others)) ∙ sym (ap (all_applied before) (take_behind commands others part.done));
  };
}
