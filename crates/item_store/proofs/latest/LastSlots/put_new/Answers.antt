-- The exits: there is room; it is full, and the entry is behind all of it, or the entry of the greatest id went out.
use Rattle.std.proofs.Common.{◌≡◌, ◌<◌, Some, refl, sym, ◌∙◌, arith}
use Rattle.std.specs.Prelude.{length}
use Rattle.std.proofs.lemmas.Bool.{eqb-false, eqb-true}
use Rattle.item_store.specs.declared.latest.LastSlots.{LastSlots}
use Rattle.item_store.proofs.LastTables.{still-full}
use Rattle.item_store.proofs.TablePlaces.{put-between, put-behind, put-full}
use Rattle.item_store.proofs.latest.LastSlots.put_new.Goals as goal

pub returns-then-not-is_full : goal.returns-then-not-is_full
returns-then-not-is_full c =
    λ limit before small some low high covered knows.
    let old : LastSlots = c.args.self.now in
    let new : LastSlots = record { entries = c.insert.new.self; bound = c.args.self.now.bound } in
    let most = knows.below.few in
    let apart = eqb-false (length old.entries.items) 1024 (sym c.is_full.ensures.value ∙ c.if-not-is_full.true) in
    still-full limit old new before c.args.placed.now knows refl
    (put-between limit old new before c.args.placed.now c.args.at small covered knows.below low high c.requires.inside some c.insert.ensures.items refl (omega arith))

pub returns-then-at-len : goal.returns-then-at-len
returns-then-at-len c =
    λ limit before small some low high covered knows.
    let old : LastSlots = c.args.self.now in
    let new : LastSlots = record { entries = c.args.self.now.entries; bound = Some c.args.placed.now.id } in
    let whole : length old.entries.items ≡ 1024 = eqb-true (length old.entries.items) 1024 (sym c.is_full.ensures.value ∙ c.if-not-is_full.false) in
    put-behind limit old new before c.args.placed.now c.args.at small covered knows.below low high c.requires.inside some whole (c.if-at-len.true ∙ c.len.ensures.value) refl refl

pub returns : goal.returns
returns c =
    λ limit before small some low high covered knows.
    let old : LastSlots = c.args.self.now in
    let mid : LastSlots = c.drop_greatest.new.self in
    let new : LastSlots = record { entries = c.insert-2.new.self; bound = c.drop_greatest.new.self.bound } in
    let inside : c.args.at < length old.entries.items = omega (arith, c.requires.inside, c.if-at-len.false, c.len.ensures.value) in
    let whole : length old.entries.items ≡ 1024 = eqb-true (length old.entries.items) 1024 (sym c.is_full.ensures.value ∙ c.if-not-is_full.false) in
    put-full limit old mid new before c.args.placed.now c.args.at small knows.below c.drop_greatest.ensures low high inside whole some c.insert-2.ensures.items refl
