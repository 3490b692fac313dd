-- The items that a call did not name stay, however it ends.
use Rattle.std.proofs.Common.{◌≡◌, ℕ, List, Result, Ok, Err, ap, ◌∙◌, inl, inr}
use Rattle.std.specs.FinMap.{get, insert, remove}
use Rattle.flash_sim.specs.Device.{Device}
use Rattle.flash_map.specs.declared.faults.WriteFault.{WriteFault}
use Rattle.flash_map.specs.declared.faults.WriteFault.TheVariants.{NoSpace, TooLong, PowerLost}
use Rattle.item_laws.specs.Items.{Items}
use Rattle.named_items.specs.Pairs.{AltersOnly}
use Rattle.named_items.proofs.CostLemmas.{get-put_other, get-cut_other}
use Rattle.named_items.specs.StoreEnds.{WriteEnds}
use Rattle.named_items.specs.Ends.{AltersTwo, DeletesPair, PutsPair}

same-get : (a b : Items) (id : ℕ) → b ≡ a → get b id ≡ get a id
same-get a b id is = ap (λ (m : Items). get m id) is

-- one write
pub write-alters : {T : Type 0} (price : ℕ → ℕ) (cap sectors : ℕ) (d e : Device) (before after : Items) (id : ℕ) (bytes : List ℕ) (r : Result T WriteFault) → (e ≡ d → after ≡ before) → WriteEnds price cap sectors d e before after id bytes r → AltersOnly before after id
write-alters price cap sectors d e before after id bytes (Ok x) idle ends other apart = same-get (insert before id bytes) after other ends.items ∙ get-put_other before id bytes other apart
write-alters price cap sectors d e before after id bytes (Err (NoSpace need live)) idle ends other apart = same-get before after other ends.items
write-alters price cap sectors d e before after id bytes (Err TooLong) idle ends other apart = same-get before after other (idle ends.1)
write-alters price cap sectors d e before after id bytes (Err PowerLost) idle ends other apart = elim ends.items [
  | inl same ↦ same-get before after other same
  | inr put ↦ same-get (insert before id bytes) after other put ∙ get-put_other before id bytes other apart
]

module _ (before : Items) (first second id : ℕ) (one : ¬ (id ≡ first)) (two : ¬ (id ≡ second)) where
  put-both : (name value : List ℕ) → get (insert (insert before second value) first name) id ≡ get before id
  put-both name value = get-put_other (insert before second value) first name id one ∙ get-put_other before second value id two

  cut-both : get (remove (remove before first) second) id ≡ get before id
  cut-both = get-cut_other (remove before first) second id two ∙ get-cut_other before first id one

-- both writes
pub puts-alters : {T : Type 0} (price : ℕ → ℕ) (cap sectors : ℕ) (before after : Items) (first second : ℕ) (name value : List ℕ) (r : Result T WriteFault) → PutsPair price cap sectors before after first second name value r → AltersTwo before after first second
puts-alters price cap sectors before after first second name value (Ok x) ends id one two = same-get (insert (insert before second value) first name) after id ends ∙ put-both before first second id one two name value
puts-alters price cap sectors before after first second name value (Err (NoSpace need live)) ends id one two = same-get before after id ends.0
puts-alters price cap sectors before after first second name value (Err TooLong) ends id one two = same-get before after id ends.0
puts-alters price cap sectors before after first second name value (Err PowerLost) ends id one two = elim ends [
  | inl same ↦ same-get before after id same
  | inr more ↦ elim more [
    | inl put ↦ same-get (insert before second value) after id put ∙ get-put_other before second value id two
    | inr all ↦ same-get (insert (insert before second value) first name) after id all ∙ put-both before first second id one two name value
  ]
]

-- both deletes
pub deletes-alters : {T E : Type 0} (before after : Items) (first second : ℕ) (r : Result T E) → DeletesPair before after first second r → AltersTwo before after first second
deletes-alters before after first second (Ok x) ends id one two = same-get (remove (remove before first) second) after id ends ∙ cut-both before first second id one two
deletes-alters before after first second (Err lost) ends id one two = elim ends [
  | inl same ↦ same-get before after id same
  | inr more ↦ elim more [
    | inl cut ↦ same-get (remove before first) after id cut ∙ get-cut_other before first id one
    | inr all ↦ same-get (remove (remove before first) second) after id all ∙ cut-both before first second id one two
  ]
]
