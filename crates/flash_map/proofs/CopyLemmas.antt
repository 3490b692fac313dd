-- Bytes of one sector, copied piece by piece to another.
use Rattle.std.proofs.Common.{◌≡◌, ◌⊎◌, inl, inr, true, ℕ, ◌+◌, ◌-◌, ◌/◌, ◌%◌, ◌<◌, ◌≤◌, Result, Ok, Err, List, [], ◌++◌, length, get_or, set, take, drop, replicate, min, refl, sym, ap, subst, ◌∙◌, arith}
use Rattle.std.specs.Prelude.{slice_range, is_err}
use Rattle.std.proofs.lemmas.List.{take_all, take-append-le, drop-append-le, length-take-le, length-drop, get_or-set_other, take-replicate}
use Rattle.std.proofs.Math.Seq.{take-append-add}
use Rattle.std.proofs.lemmas.Bool.{cases_lt, false≢true}
use Rattle.flash_sim.specs.Device.{Device, overwritten}
use Rattle.flash_map.specs.declared.area.Area.{Area}
use Rattle.flash_map.specs.declared.copies.Source.{Source}
use Rattle.flash_map.specs.Area.{sectors_of, sector_bytes, Writes}
use Rattle.flash_map.specs.Copies.{source, pieces_of, TakesViews}
use Rattle.flash_map.specs.Units.{IsUnit, padded, padded_bytes}
use Rattle.flash_map.specs.Spending.{Spends, SpendsAtMost, SpendsOrLoses}
use Rattle.flash_map.proofs.Places.{range_range}
use Rattle.flash_map.proofs.Sectors.{overwritten_nil}
use Rattle.flash_map.proofs.SpendingLemmas.{spends_none}
use Rattle.std.proofs.Math.Nat.{zero-div}
use Rattle.std.proofs.lemmas.List.{set-get_or}
use Rattle.std.proofs.lemmas.List.Edits.{length-between}
use Rattle.flash_map.proofs.Rounding.{by_unit}

-- how a piece stands in the whole
pub record IsPiece (unit n done end len : ℕ) : Type 0 where
  pub before : done < n
  pub within : done + len ≤ n
  pub short : len ≤ 32
  pub last : ((len ≡ 32) × (end ≡ done + 32)) ⊎ (done + len ≡ n)
  pub more : done < end
  pub narrow : end ≤ done + 32
  pub inside : end ≤ padded unit n
  pub no_less : n ≤ padded unit n
  pub aligned : end % unit ≡ 0
  pub covers : done + len ≤ end

which : (n done end : ℕ) → done < n → (32 ≤ n - done → end ≡ done + 32) → ((min 32 (n - done) ≡ 32) × (end ≡ done + 32)) ⊎ (done + min 32 (n - done) ≡ n)
which n done end lt full =
    elim (cases_lt (n - done) 32) [
      | inl short ↦ inr (omega arith)
      | inr le ↦ inl (omega arith, full le)
    ]

pub piece_at : (unit : ℕ) → IsUnit unit → (n done : ℕ) → done % unit ≡ 0 → done < padded unit n → IsPiece unit n done (min (padded unit n) (done + 32)) (min 32 (n - done))
unfolding padded
piece_at = by_unit (λ unit. (n done : ℕ) → done % unit ≡ 0 → done < padded unit n → IsPiece unit n done (min (padded unit n) (done + 32)) (min 32 (n - done)))
    (λ n done whole below. record { before = omega arith; within = omega arith; short = omega arith; last = which n done _ (omega arith) (λ le. omega arith); more = omega arith; narrow = omega arith; inside = omega arith; no_less = omega arith; aligned = omega arith; covers = omega arith })
    (λ n done whole below. record { before = omega arith; within = omega arith; short = omega arith; last = which n done _ (omega arith) (λ le. omega arith); more = omega arith; narrow = omega arith; inside = omega arith; no_less = omega arith; aligned = omega arith; covers = omega arith })
    (λ n done whole below. record { before = omega arith; within = omega arith; short = omega arith; last = which n done _ (omega arith) (λ le. omega arith); more = omega arith; narrow = omega arith; inside = omega arith; no_less = omega arith; aligned = omega arith; covers = omega arith })

-- the code's buffer begins as the whole goes on
pub piece_is : (unit : ℕ) (p : List ℕ) (done end len : ℕ) → IsPiece unit (length p) done end len
    → take (end - done) (take len (drop done p) ++ replicate (32 - len) 0xFF) ≡ take (end - done) (drop done (padded_bytes unit p))
piece_is unit p done end len is =
    let fill = padded unit (length p) - length p in
    let before = is.before in
    let tail : drop done (padded_bytes unit p) ≡ drop done p ++ replicate (padded unit (length p) - length p) 0xFF = drop-append-le done p (replicate (padded unit (length p) - length p) 0xFF) (omega arith) in
    let long : length (drop done p) ≡ length p - done = length-drop done p in
    let narrow = is.narrow in
    let inside = is.inside in
    let no_less = is.no_less in
    let within = is.within in
    let covers = is.covers in
    elim is.last [
      | inl (full, at) ↦
          let width : end - done ≡ 32 = omega arith in
          let prefix : length (take len (drop done p)) ≡ 32 = length-take-le len (drop done p) (omega arith) ∙ full in
          ap (λ (n : ℕ). take n (take len (drop done p) ++ replicate (32 - len) 0xFF)) width
          ∙ take-append-le 32 (take len (drop done p)) (replicate (32 - len) 0xFF) (omega arith)
          ∙ take_all 32 (take len (drop done p)) (omega arith)
          ∙ ap (λ (n : ℕ). take n (drop done p)) full
          ∙ sym (take-append-le 32 (drop done p) (replicate (padded unit (length p) - length p) 0xFF) (omega arith))
          ∙ ap (take 32) (sym tail) ∙ ap (λ (n : ℕ). take n (drop done (padded_bytes unit p))) (sym width)
      | inr all ↦
          let whole : take len (drop done p) ≡ drop done p = take_all len (drop done p) (omega arith) in
          let width : end - done ≡ length (drop done p) + (end - done - len) = omega arith in
          ap (λ (xs : List ℕ). take (end - done) (xs ++ replicate (32 - len) 0xFF)) whole
          ∙ filled (drop done p) (end - done) (end - done - len) (32 - len) width (omega arith)
          ∙ sym (ap (take (end - done)) tail ∙ filled (drop done p) (end - done) (end - done - len) (padded unit (length p) - length p) width (omega arith))
    ]
  where
    filled : (xs : List ℕ) (n some all : ℕ) → n ≡ length xs + some → some ≤ all → take n (xs ++ replicate all 0xFF) ≡ xs ++ replicate some 0xFF
    filled xs n some all is le =
        ap (λ (k : ℕ). take k (xs ++ replicate all 0xFF)) is ∙ take-append-add xs (replicate all 0xFF) some ∙ ap (λ (ys : List ℕ). xs ++ ys) (take-replicate some all 0xFF le)

-- what the source reads, piece by piece, while another sector is written
pub source_part : (a b : Device) (area : Area) (sector offset : ℕ) (bytes : List ℕ) (from : Source) (done len : ℕ) → (from.sector ≡ sector → ⊥) → Writes a b area sector offset bytes → done + len ≤ from.len
    → source b area (record from { offset = from.offset + done; len = len }) ≡ take len (drop done (source a area from))
source_part a b area sector offset bytes from done len other writes within =
    let same : sector_bytes b area from.sector ≡ sector_bytes a area from.sector =
    ap (λ (l : List (List ℕ)). get_or l from.sector []) writes ∙ get_or-set_other (sectors_of a area) sector from.sector (overwritten (sector_bytes a area sector) offset bytes) [] other in
    let width : done + len - done ≡ len = omega arith in
    let whole : from.len ≡ from.offset + from.len - from.offset = omega arith in
    ap (λ (s : List ℕ). slice_range s (from.offset + done) (from.offset + done + len)) same
    ∙ range_range (sector_bytes a area from.sector) from.offset done from.len len (from.offset + done) within refl
    ∙ ap (λ (n : ℕ). take n (drop done (take from.len (drop from.offset (sector_bytes a area from.sector))))) width
    ∙ ap (λ (n : ℕ). take len (drop done (take n (drop from.offset (sector_bytes a area from.sector))))) whole

pub piece_there : (unit n done end len all size : ℕ) → IsUnit unit → done % unit ≡ 0 → done < all → all ≡ padded unit n → size ≡ n → end ≡ min all (done + 32) → len ≡ min 32 (size - done) → IsPiece unit n done end len
piece_there unit n done end len all size is-unit whole below all-is size-is end-is len-is =
    let e : end ≡ min (padded unit n) (done + 32) = end-is ∙ ap (λ (k : ℕ). min k (done + 32)) all-is in
    let l : len ≡ min 32 (n - done) = len-is ∙ ap (λ (k : ℕ). min 32 (k - done)) size-is in
    subst (λ (x : ℕ). IsPiece unit n done x len) (sym e) (subst (λ (y : ℕ). IsPiece unit n done (min (padded unit n) (done + 32)) y) (sym l) (piece_at unit is-unit n done whole (omega (arith, all-is))))

pub length-source : (d : Device) (area : Area) (from : Source) → from.offset + from.len ≤ length (sector_bytes d area from.sector) → length (source d area from) ≡ from.len
length-source d area from inside =
    let width : from.offset + from.len - from.offset ≡ from.len = omega arith in
    length-between (sector_bytes d area from.sector) from.offset (from.offset + from.len) inside ∙ width

pub writes_nothing : (d : Device) (area : Area) (sector offset : ℕ) (bytes : List ℕ) → Writes d d area sector offset (take 0 bytes)
writes_nothing d area sector offset bytes =
    sym (ap (λ (l : List ℕ). set (sectors_of d area) sector l) (overwritten_nil (sector_bytes d area sector) offset) ∙ set-get_or (sectors_of d area) sector [])

pub spends_nothing : (d : Device) (unit : ℕ) → Spends d d (0 / unit)
spends_nothing d unit = subst (λ (n : ℕ). Spends d d n) (sym (zero-div unit)) (spends_none d)

-- ---- its views

-- a piece more is done
pub record IsNextPiece (done end all : ℕ) : Type 0 where
  pub whole : end < all → end % 32 ≡ 0
  pub one_more : pieces_of end ≡ pieces_of done + 1
  pub few : pieces_of end ≤ pieces_of all

pub next_piece : (done end all : ℕ) → done < all → done % 32 ≡ 0 → end ≡ min all (done + 32) → IsNextPiece done end all
next_piece done end all below whole is = record { whole = λ less. omega arith; one_more = omega arith; few = omega arith }

-- whole units have as many pieces as the bytes in them
pub pieces_padded : (unit : ℕ) → IsUnit unit → (n : ℕ) → pieces_of (padded unit n) ≡ pieces_of n
unfolding padded
pieces_padded = by_unit (λ unit. (n : ℕ) → pieces_of (padded unit n) ≡ pieces_of n) (λ n. omega arith) (λ n. omega arith) (λ n. omega arith)

-- a call that took just so many, cut or not
pub viewed : {X E : Type 0} (views before after : ℕ) (result : Result X E) → after ≡ before + views → TakesViews views before after result
viewed views before after (Ok x) is = record { whole = is; cut = tt }
viewed views before after (Err e) is = let le : after ≤ before + views = omega (arith, is) in record { whole = tt; cut = le }

-- one that was cut
pub viewed_lost : {X E : Type 0} (views before after : ℕ) (result : Result X E) → is_err result ≡ true → after ≤ before + views → TakesViews views before after result
viewed_lost views before after (Ok x) is le = absurd (false≢true is)
viewed_lost views before after (Err e) is le = record { whole = tt; cut = le }

-- what a cut copy spent
pub spent_lost : {X E : Type 0} (old new : Device) (units : ℕ) (result : Result X E) → is_err result ≡ true → SpendsAtMost old new units → SpendsOrLoses old new units result
spent_lost old new units (Ok x) is most = absurd (false≢true is)
spent_lost old new units (Err e) is most = record { whole = tt; cut = most }
