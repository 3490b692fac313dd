-- Which sector is ignored, by what a scan says is left to do.
use Rattle.std.proofs.Common.{◌≡◌, ℕ, Bool, true, false, not, cond, eqb, List, refl, sym, ap}
use Rattle.flash_map.specs.Area.{sector_at}
use Rattle.item_laws.specs.Area.{next, is_closed_at, counts_at}
use Rattle.nvs_store.specs.declared.scan.Redo.{Redo}
use Rattle.nvs_store.specs.declared.scan.Redo.TheVariants.{Nothing, EraseNext, CollectAgain}
use Rattle.nvs_store.specs.declared.scan.Scan.{Scan}
use Rattle.nvs_store.specs.Sector.{has_gc_done}
use Rattle.nvs_store.specs.Scans.{reading, redo_of, scan_of}
use Rattle.nvs_store.proofs.Appending.{scan_there, next_open}
use Rattle.nvs_store.proofs.MountLemmas.{counts_closed, counts_open}

redo_reports : (unit : ℕ) (sectors : List (List ℕ)) (scan : Scan) → scan ≡ scan_of unit sectors → scan.redo ≡ redo_of unit sectors scan.current
redo_reports unit sectors scan is = ap (λ (s : Scan). s.redo) (scan_there unit sectors scan is)

erases_by : (closed done : Bool) (redo : Redo) → redo ≡ EraseNext → redo ≡ cond closed (cond done EraseNext CollectAgain) Nothing → (closed ≡ true) × (done ≡ true)
erases_by true true redo is reports = (refl, refl)
erases_by true false redo is reports = absurd (cc)
erases_by false done redo is reports = absurd (cc)

collects_by : (closed done : Bool) (redo : Redo) → redo ≡ CollectAgain → redo ≡ cond closed (cond done EraseNext CollectAgain) Nothing → (closed ≡ true) × (done ≡ false)
collects_by true false redo is reports = (refl, refl)
collects_by true true redo is reports = absurd (cc)
collects_by false done redo is reports = absurd (cc)

pub counts_all : (unit : ℕ) (sectors : List (List ℕ)) (scan : Scan) (place : ℕ) → scan ≡ scan_of unit sectors → scan.redo ≡ Nothing → counts_at (reading unit) sectors scan.current place ≡ true
counts_all unit sectors scan place is redo = sym (counts_open unit sectors scan.current place (next_open unit sectors scan is redo))

pub counts_but_victim : (unit : ℕ) (sectors : List (List ℕ)) (scan : Scan) (place ignored : ℕ) → scan ≡ scan_of unit sectors → scan.redo ≡ EraseNext → ignored ≡ next sectors scan.current → counts_at (reading unit) sectors scan.current place ≡ not (eqb place ignored)
counts_but_victim unit sectors scan place ignored is redo at =
    let shut = erases_by (is_closed_at (reading unit) sectors (next sectors scan.current)) (has_gc_done unit (sector_at sectors scan.current)) scan.redo redo (redo_reports unit sectors scan is) in
    sym (counts_closed unit sectors scan.current place ignored true shut.0 shut.1 at)

pub counts_but_open : (unit : ℕ) (sectors : List (List ℕ)) (scan : Scan) (place : ℕ) → scan ≡ scan_of unit sectors → scan.redo ≡ CollectAgain → counts_at (reading unit) sectors scan.current place ≡ not (eqb place scan.current)
counts_but_open unit sectors scan place is redo =
    let shut = collects_by (is_closed_at (reading unit) sectors (next sectors scan.current)) (has_gc_done unit (sector_at sectors scan.current)) scan.redo redo (redo_reports unit sectors scan is) in
    sym (counts_closed unit sectors scan.current place scan.current false shut.0 shut.1 refl)
