-- The numbers of room of a backend.
use Rattle.std.specs.Prelude.{ℕ, ◌+◌, ◌-◌, ◌*◌, ◌/◌, ◌<◌, Bool, List}
use Rattle.flash_map.specs.declared.area.Geometry.{Geometry}
use Rattle.backend_api.specs.Map.{Map}

-- in bytes
pub record Room : Type 0 where
  -- what one sector has for data
  pub cap : ℕ
  -- what all settings cost
  pub cost : Map → ℕ
  -- what a put of this name and value needs
  pub need : Map → List ℕ → List ℕ → ℕ
  -- and the greatest cost of one write of it
  pub largest : Map → List ℕ → List ℕ → ℕ
  -- the name would be one too many
  pub too_many : Map → List ℕ → Bool

-- One of the sectors is kept free. The others could be so full that the put finds no place in any
-- of them.
abbrev pub HasNoRoom : Room → ℕ → Map → List ℕ → List ℕ → Type 0
HasNoRoom room sectors settings name value =
    (sectors - 1) * (room.cap - room.largest settings name value)
    < room.cost settings + room.need settings name value

-- the most units and erases of one command
abbrev pub command_units : Geometry → ℕ
command_units geometry = 12 * geometry.sectors * (geometry.sector / geometry.unit + 3)

-- the most units and erases of deleting one item: those of one garbage collection and of one entry
abbrev pub removal_units : Geometry → ℕ
removal_units geometry = 6 * (geometry.sector / geometry.unit + 3)

-- The most units and erases of a mount of a foreign image, whatever its bytes: it completes what a
-- cut command left, and deletes the orphans, of which an area has at most one for every 8 bytes.
abbrev pub foreign_units : Geometry → ℕ
foreign_units geometry =
    command_units geometry + geometry.sectors * (geometry.sector / 8) * removal_units geometry
