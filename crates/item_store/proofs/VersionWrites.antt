-- What a pair that is put behind rounds leaves of the versions of each id, whole or cut.
use Rattle.std.proofs.Common.{◌≡◌, ◌⊎◌, ℕ, List, [], ◌∷◌, ◌++◌, length, sym, subst, inl, inr}
use Rattle.flash_sim.specs.Device.{Device}
use Rattle.flash_map.specs.declared.area.Area.{Area}
use Rattle.flash_map.specs.Area.{sectors_of}
use Rattle.item_store.specs.SectorFormat.{SectorFormat}
use Rattle.item_store.specs.Room.{MakesRoom}
use Rattle.item_store.specs.Standing.{list_of}
use Rattle.item_store.specs.Versions.{KeepsVersions, AddsVersion}
use Rattle.item_store.specs.Writing.{Appends, StopsAppending}
use Rattle.item_store.proofs.VersionLemmas.{newest-pushed, keeps_all, keeps_more, keeps-push}

module _ (k : SectorFormat) (old new : Device) (area : Area) (id : ℕ) (bytes : List ℕ) where
  behind : (mid : Device) → MakesRoom k old mid area (length bytes) → list_of k (sectors_of new area) ≡ list_of k (sectors_of mid area) ++ (id, bytes) ∷ [] → AddsVersion (list_of k (sectors_of old area)) (list_of k (sectors_of new area)) id bytes
  behind mid makes list =
      subst (λ pairs. AddsVersion (list_of k (sectors_of old area)) pairs id bytes) (sym list)
      (record { newest = newest-pushed (list_of k (sectors_of mid area)) id bytes; keeps = keeps-push (list_of k (sectors_of old area)) (list_of k (sectors_of mid area)) (id, bytes) makes.items.versions })

  pub appends-versions : Appends k old new area id bytes → AddsVersion (list_of k (sectors_of old area)) (list_of k (sectors_of new area)) id bytes
  appends-versions h = behind h.mid h.makes h.puts.list

  pub stops-versions : StopsAppending k old new area id bytes
      → KeepsVersions (list_of k (sectors_of old area)) (list_of k (sectors_of new area)) ⊎ AddsVersion (list_of k (sectors_of old area)) (list_of k (sectors_of new area)) id bytes
  stops-versions (inl rounds) = inl rounds.items.versions
  stops-versions (inr entry) =
      elim entry.stops.list [
        | inl same ↦ inl (keeps_more (list_of k (sectors_of old area)) (list_of k (sectors_of entry.mid area)) (list_of k (sectors_of new area)) entry.makes.items.versions (keeps_all (list_of k (sectors_of entry.mid area)) (list_of k (sectors_of new area)) same))
        | inr more ↦ inr (behind entry.mid entry.makes more)
      ]
