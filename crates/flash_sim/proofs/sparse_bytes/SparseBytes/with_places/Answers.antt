use Rattle.std.proofs.Common.{◌≡◌, ℕ, ◌+◌, ◌*◌, ◌<◌, ◌≤◌, ◌++◌, [], ◌∷◌, List, length, take, drop, get_or, replicate, Fits, w64, refl, sym, ap, subst, ◌∙◌, arith, length-append}
use Rattle.std.proofs.Math.Seq.{take-length}
use Rattle.std.proofs.Math.Nat.{mul-le-mul_right}
use Rattle.flash_sim.specs.Sparse.{shown}
use Rattle.flash_sim.proofs.Shaped.{pushed-bytes, pushed-own, made-shaped, next-place}
use Rattle.flash_sim.proofs.Vecs.{fits-within}
use Rattle.flash_sim.proofs.sparse_bytes.SparseBytes.with_places.Goals as goal

-- the buffer is the shared sector and the bytes behind it
filled : (size : ℕ) (bytes made grown : List ℕ) → made ≡ replicate size 255 → grown ≡ made ++ bytes → grown ≡ replicate size 255 ++ bytes
filled size bytes made grown blank more = more ∙ ap (λ (l : List ℕ). l ++ bytes) blank

same-count : (n count : ℕ) → n ≤ count → count ≤ n → n ≡ count
same-count n count le ge = omega arith

more-fits : (n count : ℕ) → n < count → count < 18446744073709551616 → Fits w64 (n + 1)
more-fits n count lt fits = omega arith

prefix_of_sum : (a b n : ℕ) → a + b ≤ n → a ≤ n
prefix_of_sum a b n le = omega arith

no-starts : (size : ℕ) (l : List ℕ) → l ≡ [] → (s : ℕ) → s < length l → (get_or l s 0 ≡ 0 → ⊥) → get_or l s 0 ≡ (s + 1) * size
no-starts size l is s lt other = let none : length l ≡ 0 = ap (λ (l : List ℕ). length l) is in absurd (omega arith)

none-taken : (size : ℕ) (bytes : List ℕ) → [] ≡ take (0 * size) bytes
none-taken size bytes = let none : 0 ≡ 0 * size = omega arith in ap (λ (n : ℕ). take n bytes) none

pub loop-sector-init : goal.loop-sector-init
loop-sector-init c =
    let none = c.new-starts.ensures.items in
    record {
      count = ap (λ (l : List ℕ). length l) none;
      bytes = ap (shown c.args.size c.extend_from_slice.new.self.items) none ∙ none-taken c.args.size c.args.bytes.now;
      own = no-starts c.args.size c.new-starts.result.items none;
    }

pub overflow_add-sector : goal.overflow_add-sector
overflow_add-sector c = more-fits c.loop-sector.sector c.args.count c.loop-sector-test.true c.ranges.count.fits

pub overflow_mul-sector : goal.overflow_mul-sector
overflow_mul-sector c =
    let buffer = filled c.args.size c.args.bytes.now c.in_ok-buffer.buffer.items c.extend_from_slice.new.self.items (c.in_ok-buffer.ensures.items_if_clones_equal (λ y h. h)) c.in_ok-extend_from_slice.ensures.items in
    let room = next-place c.args.size c.args.count c.loop-sector.sector c.args.bytes.now c.extend_from_slice.new.self.items c.requires.whole buffer c.loop-sector-test.true in
    fits-within c.extend_from_slice.new.self ((c.loop-sector.sector + 1) * c.args.size) (prefix_of_sum ((c.loop-sector.sector + 1) * c.args.size) c.args.size (length c.extend_from_slice.new.self.items) room)

pub start_in-requires : goal.start_in-requires
start_in-requires c =
    let buffer = filled c.args.size c.args.bytes.now c.in_ok-buffer.buffer.items c.extend_from_slice.new.self.items (c.in_ok-buffer.ensures.items_if_clones_equal (λ y h. h)) c.in_ok-extend_from_slice.ensures.items in
    next-place c.args.size c.args.count c.loop-sector.sector c.args.bytes.now c.deref.result.now c.requires.whole (c.deref.ensures.value ∙ buffer) c.loop-sector-test.true

pub invariant_of-result : goal.invariant_of-result
invariant_of-result c =
    let buffer = filled c.args.size c.args.bytes.now c.in_ok-buffer.buffer.items c.extend_from_slice.new.self.items (c.in_ok-buffer.ensures.items_if_clones_equal (λ y h. h)) c.in_ok-extend_from_slice.ensures.items in
    let count = c.loop-sector.invariant.count ∙ same-count c.loop-sector.sector c.args.count c.loop-sector.auto.sector-end c.loop-sector-test.false in
    record { shaped = made-shaped c.args.size c.args.count c.args.bytes.now c.extend_from_slice.new.self.items c.loop-sector.starts.items c.requires.some c.requires.whole count buffer c.loop-sector.invariant.own }

pub returns : goal.returns
returns c =
    let end = same-count c.loop-sector.sector c.args.count c.loop-sector.auto.sector-end c.loop-sector-test.false in
    (c.loop-sector.invariant.bytes ∙ ap (λ (n : ℕ). take (n * c.args.size) c.args.bytes.now) end ∙ ap (λ (n : ℕ). take n c.args.bytes.now) (sym c.requires.whole) ∙ take-length c.args.bytes.now, refl)

sectors-fit : (size count i n : ℕ) → i < count → n ≡ count * size → (i + 1) * size ≤ n
sectors-fit size count i n lt whole = let more : i + 1 ≤ count = omega arith in omega (arith, mul-le-mul_right size more)

fits : (c : goal.In_ok-push) → (c.loop-sector.sector + 1) * c.args.size ≤ length c.args.bytes.now
fits c = sectors-fit c.args.size c.args.count c.loop-sector.sector (length c.args.bytes.now) c.loop-sector-test.true c.requires.whole

pub loop-sector-preserved : goal.loop-sector-preserved
loop-sector-preserved c =
    let i : ℕ = c.loop-sector.sector in
    let starts : List ℕ = c.loop-sector.starts.items in
    let start : ℕ = c.start_in.result in
    let pushed : c.push.new.self.items ≡ starts ++ start ∷ [] = c.in_ok-push.ensures.items in
    let buffer = filled c.args.size c.args.bytes.now c.in_ok-buffer.buffer.items c.extend_from_slice.new.self.items (c.in_ok-buffer.ensures.items_if_clones_equal (λ y h. h)) c.in_ok-extend_from_slice.ensures.items in
    let bytes = pushed-bytes c.args.size i c.args.bytes.now starts start c.requires.some c.loop-sector.invariant.count (fits c) c.start_in.ensures.own
    c.extend_from_slice.new.self.items buffer c.loop-sector.invariant.bytes
    (λ none other. sym (ap (λ (l : List ℕ). take c.args.size (drop ((i + 1) * c.args.size) l)) c.deref.ensures.value) ∙ c.start_in.ensures.shared none other) in
    let own = pushed-own c.args.size i c.args.bytes.now starts start c.requires.some c.loop-sector.invariant.count (fits c) c.start_in.ensures.own c.loop-sector.invariant.own in
    record {
      count = ap (λ (l : List ℕ). length l) pushed ∙ length-append starts (start ∷ []) ∙ ap (λ (n : ℕ). n + 1) c.loop-sector.invariant.count;
      bytes = ap (shown c.args.size c.extend_from_slice.new.self.items) pushed ∙ bytes;
      own = subst (λ (l : List ℕ). (s : ℕ) → s < length l → (get_or l s 0 ≡ 0 → ⊥) → get_or l s 0 ≡ (s + 1) * c.args.size) (sym pushed) own;
    }
