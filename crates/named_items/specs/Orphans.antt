-- The removal of items that belong to no setting, in rising order of their ids.
use Rattle.std.specs.Prelude.{◌≡◌, ◌⊎◌, ℕ, zero, suc, ◌+◌, ◌*◌, ◌<◌, ◌≤◌, Bool, true, false, None, Result, Ok, Err}
use Rattle.std.specs.FinMap.{get, len}
use Rattle.flash_sim.specs.Device.{Device}
use Rattle.flash_map.specs.Spending.{Spends, SpendsAtMost}
use Rattle.item_laws.specs.Items.{Items}
use Rattle.named_items.specs.Numbering.{Numbering}
use Rattle.named_items.specs.Pairs.{settings_in, AltersOnly, HasNoOrphans, IsKept}
use Rattle.named_items.specs.StoreEnds.{DeleteUnits, next_delete}

-- each item that is kept has the bytes that it had
abbrev pub KeepsEach : Numbering → Items → Items → Type 0
KeepsEach n before after = (id : ℕ) → IsKept n before id → get after id ≡ get before id

-- each item that is kept stays one that is kept
abbrev pub StaysKept : Numbering → Items → Items → Type 0
StaysKept n before after = (id : ℕ) → IsKept n before id → IsKept n after id

-- no item is new or has other bytes: each id reads as before, or has no item
abbrev pub OnlyRemoves : Items → Items → Type 0
OnlyRemoves before after = (id : ℕ) → (get after id ≡ None) ⊎ (get after id ≡ get before id)

-- no orphan is left below this id
abbrev pub IsCleanBelow : Numbering → Items → ℕ → Type 0
IsCleanBelow n items id = (other : ℕ) → other < id → (get items other ≡ None) ⊎ IsKept n items other

-- The removal came as far as this id: no orphan is left below it, and each item above
-- it is as before.
pub record StopsAt (n : Numbering) (before after : Items) (id : ℕ) : Type 0 where
  pub below : IsCleanBelow n after id
  pub above : (other : ℕ) → id < other → get after other ≡ get before other

-- One id was looked at, and has no orphan any more. All other items stay, and those that are
-- kept stay kept.
pub record Removes (n : Numbering) (before after : Items) (id : ℕ) : Type 0 where
  pub done : (get after id ≡ None) ⊎ IsKept n after id
  pub others : (other : ℕ) → ¬ (other ≡ id) → get after other ≡ get before other
  pub kept : (other : ℕ) → ¬ (other ≡ id) → IsKept n before other → IsKept n after other

-- at most `most` units and erases were spent for each item that is gone
pub record SpendsPerItem (most : ℕ) (old new : Device) (before after : Items) : Type 0 where
  pub units : ℕ
  pub at_most : units + len after * most ≤ len before * most
  pub spent : Spends old new units

-- The removal deletes orphans alone: the settings and each item that is kept stay, and stays kept; no
-- item is new or has other bytes.
pub record KeepsSettings (n : Numbering) (before after : Items) : Type 0 where
  pub settings : settings_in n after ≡ settings_in n before
  pub kept : KeepsEach n before after
  pub still : StaysKept n before after
  pub gone : OnlyRemoves before after

-- One id was looked at, and its item deleted if it is an orphan. If the item is kept, or if no item
-- is an orphan, nothing is programmed. Power is lost only if the id has an item.
pub record LooksAt (n : Numbering) (old new : Device) (before after : Items) (id : ℕ) (lost : Bool) : Type 0
  where
    pub others : AltersOnly before after id
    pub still : StaysKept n before after
    pub idle : IsKept n before id → new ≡ old
    pub absent : get before id ≡ None → new ≡ old
    pub rests : HasNoOrphans n before → new ≡ old
    pub present : lost ≡ true → ¬ (get before id ≡ None)
    pub removes : lost ≡ false → Removes n before after id

-- it spent at most `most` units and erases, and none if the item stays; and at most those of a delete
pub record SpendsOnOne (most : ℕ) (costs : DeleteUnits) (old new : Device) (before after : Items)
    (lost : Bool) : Type 0 where
  pub at_most : SpendsAtMost old new most
  pub one : SpendsAtMost old new costs.any
  pub next : SpendsAtMost old new (next_delete costs)
  pub per_item : lost ≡ false → SpendsPerItem most old new before after

-- The removal passed one id: the settings and each item that is kept stay, the id has no orphan any
-- more, and at most `most` units and erases were spent.
pub record PassesOne (n : Numbering) (most : ℕ) (costs : DeleteUnits) (old new : Device)
    (before after : Items) (id : ℕ) (lost : Bool) : Type 0 where
  pub keeps : KeepsSettings n before after
  pub ends : LooksAt n old new before after id lost
  pub units : SpendsOnOne most costs old new before after lost

-- no orphan is left; or power was lost, and the removal came as far as one id
abbrev pub RemovalEnds : {T E : Type 0} → Numbering → Items → Items → Result T E → Type 0
RemovalEnds n before after (Ok x) = HasNoOrphans n after
RemovalEnds n before after (Err lost) = (id : ℕ) × StopsAt n before after id

-- what a mount leaves: each item of a setting and the count; orphans go in rising order of ids
pub record MountLeavesItems {T E : Type 0} (n : Numbering) (before after : Items)
    (result : Result T E) : Type 0 where
  pub keeps : KeepsSettings n before after
  pub ends : RemovalEnds n before after result

-- ---- how many there are

-- each item that is neither the count nor a part of a setting in effect has an id of one of these
abbrev pub OrphansIn : Numbering → Items → Items → Type 0
OrphansIn n items some = (id : ℕ) → (get items id ≡ None) ⊎ IsKept n items id ⊎ ¬ (get some id ≡ None)

-- at most so many items are orphans
pub record HasOrphans (n : Numbering) (items : Items) (most : ℕ) : Type 0 where
  pub orphans : Items
  pub only : OrphansIn n items orphans
  pub few : len orphans ≤ most

-- ---- what their removal spends

-- Some of these orphans are gone: the first for at most `first` units and erases, and each other one
-- for at most `any`.
pub record RemovesSome (n : Numbering) (first any : ℕ) (old new : Device) (after orphans : Items) : Type 0
  where
    pub left : Items
    pub only : OrphansIn n after left
    pub units : ℕ
    pub at_most : units + len left * any + any ≤ len orphans * any + first
    pub spent : Spends old new units

-- none is gone yet, or some are
abbrev pub MayRemove : Numbering → ℕ → ℕ → Device → Device → Items → Items → Type 0
MayRemove n first any old new after orphans = (new ≡ old) ⊎ RemovesSome n first any old new after orphans

-- The removal of orphans spends at most `most` units and erases for each item that there is. For
-- `more + 1` orphans it spends at most those of one next delete and of `more` others.
pub record SpendsRemoving (n : Numbering) (most : ℕ) (costs : DeleteUnits) (old new : Device) (before : Items)
    : Type 0 where
  pub at_most : SpendsAtMost old new (len before * most)
  pub few : (some : Items) → OrphansIn n before some → (more : ℕ) → len some ≤ more + 1
      → SpendsAtMost old new (next_delete costs + more * costs.any)

-- The most of a mount that finds so many orphans. Without any it does again what was left undone. With
-- some it ends a garbage collection, and deletes each.
abbrev pub boot_of : ℕ → ℕ → ℕ → ℕ → ℕ
boot_of redo clear removal zero = redo
boot_of redo clear removal (suc n) = clear + suc n * removal

-- What a mount of settings spends: at most so much by the geometry alone, and at most what the orphans
-- of the area ask for.
pub record SpendsBooting (n : Numbering) (most redo clear removal : ℕ) (old new : Device) (before : Items)
    : Type 0 where
  pub at_most : SpendsAtMost old new most
  pub boot : (some : Items) → OrphansIn n before some
      → SpendsAtMost old new (boot_of redo clear removal (len some))

-- ---- what an area owes

-- Some items are orphans: a mount that finds them spends at most so many units and erases.
pub record Owing (n : Numbering) (items : Items) (boot : ℕ → ℕ) (most : ℕ) : Type 0 where
  pub orphans : Items
  pub only : OrphansIn n items orphans
  pub within : boot (len orphans) ≤ most
