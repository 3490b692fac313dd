use Rattle.std.proofs.Common.{◌≡◌, inl, inr, ℕ, ◌+◌, ◌<◌, List, [], ◌∷◌, ◌++◌, length, sym, ap, ◌∙◌, refl, arith, rules, below_more}
use Rattle.std.specs.Global.{Vec}
use Rattle.std.proofs.lemmas.List.{map_push}
use Rattle.flash_sim.specs.declared.flash.Bank.{Bank}
use Rattle.flash_sim.specs.Bank.{bank_at, capacity}
use Rattle.flash_sim.specs.Contents.{contents}
use Rattle.image_file.specs.declared.image.ImageWhy.{ImageWhy}
use Rattle.image_file.specs.declared.image.ImageWhy.TheVariants.{Short}
use Rattle.image_file.specs.Said.{contents_said, contents_place, contents_size, bank_count, field_at}
use Rattle.image_file.specs.Table.{ContentsAt, End, AllHold, FirstFault, contents_rows, rows_of}
use Rattle.image_file.proofs.ReadingLemmas.{exit, ends, length-all_banks, contents_more, contents_next}
use Rattle.image_file.proofs.RowLemmas.{first_row, all_rows, prefix_fault, later_fault, AllHold-append}
use Rattle.image_file.proofs.reading.read_contents.Goals as goal

pub returns-in_err-text : goal.returns-in_err-text
returns-in_err-text c =
    let bytes : List ℕ = c.args.bytes.now in
    let i : ℕ = c.loop-bank.bank-index in
    let here : c.capacity.result ≡ capacity (bank_at c.args.banks.now i) = search rules in
    let size : c.capacity.result ≡ contents_size bytes i = here ∙ ap (λ (bs : List Bank). capacity (bank_at bs i)) c.requires.banks in
    exit (λ (copies : Vec (Vec ℕ)). (contents copies.items ≡ contents_said bytes (bank_count bytes)) × AllHold bytes (contents_rows bytes))
    (λ (p : ℕ) (why : ImageWhy). (length bytes < c.loop-bank.at + c.capacity.result) × (p ≡ length bytes) × (why ≡ Short)) (FirstFault bytes (contents_rows bytes))
    c.from_residual.result c.in_err-text.field-0.0 c.from_residual.ensures.1
    (λ p why short. prefix_fault bytes (rows_of ContentsAt (bank_count bytes)) (End ∷ []) p why (first_row bytes ContentsAt (bank_count bytes) i p why (omega (arith, ap length c.requires.banks, length-all_banks bytes)) c.loop-bank.invariant.holds (ends bytes (ContentsAt i) c.loop-bank.at c.capacity.result p why c.loop-bank.invariant.place size short))) c.in_err-text.ensures

pub loop-bank-preserved : goal.loop-bank-preserved
loop-bank-preserved c =
    let bytes : List ℕ = c.args.bytes.now in
    let i : ℕ = c.loop-bank.bank-index in
    let here : c.capacity.result ≡ capacity (bank_at c.args.banks.now i) = search rules in
    let size : c.capacity.result ≡ contents_size bytes i = here ∙ ap (λ (bs : List Bank). capacity (bank_at bs i)) c.requires.banks in
    let text : c.in_ok-text.text.now ≡ field_at bytes (contents_place bytes i) (contents_size bytes i) = c.in_ok-text.ensures.1 ∙ ap (λ (n : ℕ). field_at bytes c.loop-bank.at n) size ∙ ap (λ (p : ℕ). field_at bytes p (contents_size bytes i)) c.loop-bank.invariant.place in
    let next = contents_next bytes i (omega (arith, ap length c.requires.banks, length-all_banks bytes)) in
    record {
      said = ap contents c.in_ok-push.ensures.items ∙ map_push (λ (v : Vec ℕ). v.items) c.loop-bank.copies.items c.in_ok-copy.copy ∙ ap (λ (l : List (List ℕ)). l ++ c.in_ok-copy.copy.items ∷ []) c.loop-bank.invariant.said ∙ ap (λ (t : List ℕ). contents_said bytes i ++ t ∷ []) (c.in_ok-copy.ensures.items ∙ text) ∙ sym (contents_more bytes i);
      holds = below_more _ _ c.loop-bank.invariant.holds (record { whole = omega (arith, c.in_ok-text.ensures.0, size, c.loop-bank.invariant.place); rule = tt });
      place = omega (arith, c.in_ok-text.ensures.2, size, c.loop-bank.invariant.place, next);
      there = omega (arith, c.in_ok-text.ensures.0, c.in_ok-text.ensures.2);
    }

pub returns-then-at-bytes : goal.returns-then-at-bytes
returns-then-at-bytes c =
    let bytes : List ℕ = c.args.bytes.now in
    let end : c.loop-bank.bank-index ≡ bank_count bytes = omega (arith, ap length c.requires.banks, length-all_banks bytes) in
    let at : c.loop-bank.at ≡ contents_place bytes (bank_count bytes) = c.loop-bank.invariant.place ∙ ap (contents_place bytes) end in
    later_fault bytes (rows_of ContentsAt (bank_count bytes)) (End ∷ []) c.loop-bank.at _ (all_rows bytes ContentsAt (bank_count bytes) (λ k below. c.loop-bank.invariant.holds k (omega arith)))
    (inl (inr (record { whole = omega (arith, at, c.loop-bank.invariant.there); broken = λ is. omega (arith, at, is); place = at; cause = refl })))

pub returns : goal.returns
returns c =
    let bytes : List ℕ = c.args.bytes.now in
    let end : c.loop-bank.bank-index ≡ bank_count bytes = omega (arith, ap length c.requires.banks, length-all_banks bytes) in
    let at : c.loop-bank.at ≡ contents_place bytes (bank_count bytes) = c.loop-bank.invariant.place ∙ ap (contents_place bytes) end in
    (c.loop-bank.invariant.said ∙ ap (contents_said bytes) end, AllHold-append bytes (rows_of ContentsAt (bank_count bytes)) (End ∷ []) (all_rows bytes ContentsAt (bank_count bytes) (λ k below. c.loop-bank.invariant.holds k (omega arith))) (record { whole = omega (arith, at, c.loop-bank.invariant.there); rule = omega (arith, at, c.loop-bank.invariant.there) }, tt))
