-- An area whose bytes are all FF shows no damage and holds no items.
use Rattle.std.specs.Prelude.{◌≡◌, ℕ, ◌≤◌, ◌<◌, List, length, replicate, None}
use Rattle.std.specs.FinMap.{empty}
use Rattle.std.proofs.Common.{true, false, [], refl, ap, ◌∙◌, arith}
use Rattle.std.proofs.lemmas.List.{length-replicate, get_or-replicate}
use Rattle.flash_map.specs.Area.{sector_at}
use Rattle.flash_map.specs.Units.{is_erased}
use Rattle.flash_map.proofs.ErasedBytes.{erased_from}
use Rattle.item_laws.specs.Items.{items_of}
use Rattle.item_laws.specs.Area.{next, is_closed_at, open_sector}
use Rattle.item_laws.specs.Reading.{Reading, IsReading}
use Rattle.item_laws.proofs.Places.{after-within}
use Rattle.item_laws.proofs.Stays.{open_within}
use Rattle.nvs_store.specs.Scans as nvs
use Rattle.nvs_store.proofs.Blank.{reads-blank}
use Rattle.item_store.proofs.BlankAreas.{blank-undamaged, blank-empty}
use Rattle.flash_sim.specs.declared.flash.Kind.{Kind as BankKind}
use Rattle.zms_format.specs.Area as zms
use Rattle.zms_format.specs.Area.{is_unused}
use Rattle.zms_format.proofs.Damages.{undamaged_ring}
use Rattle.zms_format.proofs.Erased.{erased-unused}
use Rattle.zms_format.proofs.Sectors.{laws}

pub items-none : items_of [] ≡ empty
unfolding items_of
items-none = refl

module _ (n size : ℕ) (several : 2 ≤ n) where
  abbrev blanks : List (List ℕ)
  blanks = replicate n (replicate size 0xFF)

  count : length blanks ≡ n
  count = length-replicate {A = List ℕ} n (replicate {A = ℕ} size 255)

  each : (k : ℕ) → k < length blanks → sector_at blanks k ≡ replicate size 255
  each k lt = let c = count in get_or-replicate {A = List ℕ} n k (replicate {A = ℕ} size 255) [] (omega arith)

  several-too : 2 ≤ length blanks
  several-too = let c = count in omega arith

  erased-each : (k : ℕ) → k < length blanks → is_erased (sector_at blanks k) ≡ true
  erased-each k lt = ap is_erased (each k lt) ∙ erased_from size

  -- read as NVS
  pub nvs-undamaged : (unit : ℕ) → nvs.damage_of unit (replicate n (replicate size 0xFF)) ≡ None
  nvs-undamaged unit = blank-undamaged (nvs.reading unit) (reads-blank unit) blanks several-too erased-each

  pub nvs-empty : (unit : ℕ) → items_of (nvs.list_of unit (replicate n (replicate size 0xFF))) ≡ empty
  nvs-empty unit =
      ap items_of (blank-empty (nvs.reading unit) (reads-blank unit) blanks several-too erased-each) ∙
      items-none

  -- no sector is closed
  next-open : (reading : Reading) → IsReading reading
      → ((k : ℕ) → k < length blanks → reading.is_blank (sector_at blanks k) ≡ true)
      → is_closed_at reading blanks (next blanks (open_sector reading blanks)) ≡ false
  next-open reading lawful blank =
      let some : 0 < length blanks = let c = count in omega arith in
      let place = next blanks (open_sector reading blanks) in
      let opened = open_sector reading blanks in
      let within = after-within (length blanks) opened (open_within reading blanks some) in
      lawful.closed (sector_at blanks place) (blank place within)

  pub nvs-next_open : (unit : ℕ)
      → is_closed_at (nvs.reading unit) blanks (next blanks (open_sector (nvs.reading unit) blanks)) ≡ false
  nvs-next_open unit = next-open (nvs.reading unit) (reads-blank unit) erased-each

  -- and as ZMS, on a bank of either kind
  unused-each : (kind : BankKind) (k : ℕ) → k < length blanks → is_unused kind (sector_at blanks k) ≡ true
  unused-each kind k lt = erased-unused kind (sector_at blanks k) (erased-each k lt)

  pub zms-undamaged : (kind : BankKind) → zms.damage_of kind (replicate n (replicate size 0xFF)) ≡ None
  zms-undamaged kind =
      undamaged_ring kind blanks
      (blank-undamaged (zms.reading kind) (laws kind) blanks several-too (unused-each kind))

  pub zms-empty : (kind : BankKind) → items_of (zms.list_of kind (replicate n (replicate size 0xFF))) ≡ empty
  zms-empty kind =
      ap items_of (blank-empty (zms.reading kind) (laws kind) blanks several-too (unused-each kind)) ∙
      items-none

  pub zms-next_open : (kind : BankKind)
      → is_closed_at (zms.reading kind) blanks (next blanks (open_sector (zms.reading kind) blanks)) ≡ false
  zms-next_open kind = next-open (zms.reading kind) (laws kind) (unused-each kind)
