-- Rounds that make room and the entry behind them, in the words of the code.
use Rattle.std.proofs.Common.{◌≡◌, ℕ, ◌<◌, true, List, [], ◌∷◌, ◌++◌, length, None, ap, ◌∙◌, inr}
use Rattle.flash_sim.specs.Bank.{IsLawful}
use Rattle.flash_sim.specs.Device.{Device}
use Rattle.flash_map.specs.declared.area.Area.{Area}
use Rattle.flash_map.specs.declared.area.Geometry.{Geometry}
use Rattle.flash_map.specs.declared.area.Role.{Role}
use Rattle.flash_map.specs.Area.{geometry_of, sector_size, sectors_of}
use Rattle.flash_map.proofs.SpendingBounds.{between_then}
use Rattle.item_laws.specs.PairRounds.{joined}
use Rattle.item_laws.specs.Area.{open_sector}
use Rattle.item_laws.specs.Forms.{AtRest}
use Rattle.item_laws.proofs.Parts.{parts-list}
use Rattle.item_store.specs.SectorFormat.{SectorFormat, IsSectorFormat}
use Rattle.item_store.specs.Room.{has_room, parts_of, collected, MakesRoom}
use Rattle.item_store.specs.Standing.{list_of}
use Rattle.item_store.specs.Stands.{StandsAt}
use Rattle.item_store.specs.Writing.{PutsPair, StopsPutting, Appends, StopsAppending}
use Rattle.item_store.proofs.CallFacts.{to_geometry, from_geometry}
use Rattle.item_store.proofs.RoomFacts.{rest_open}
use Rattle.item_store.proofs.RoomSteps.{rounds-rest}

module _ {T : Type 0} (role : Role) (format_of : Geometry → SectorFormat) (kept : Geometry → List ℕ → T) (a d : Device) (area : Area) (current : ℕ) (opened : T) (law : IsSectorFormat (format_of (geometry_of a area))) (lawful : IsLawful a.banks a.bytes) (on : StandsAt role format_of kept a area current opened)
    (id : ℕ) (bytes : List ℕ) (banks : d.banks ≡ a.banks) (makes : MakesRoom (format_of (geometry_of a area)) a d area (length bytes)) (room : has_room (format_of (geometry_of a area)) (sectors_of d area) (length bytes) ≡ true) where
  abbrev k : SectorFormat
  k = format_of (geometry_of a area)

  pub then_ordinary : id < (format_of (geometry_of a area)).ids → id < (format_of (geometry_of d area)).ids
  then_ordinary small = from_geometry (λ u. id < (format_of u).ids) a d area banks small

  pub then_room : has_room (format_of (geometry_of d area)) (sectors_of d area) (length bytes) ≡ true
  then_room = from_geometry (λ u. has_room (format_of u) (sectors_of d area) (length bytes) ≡ true) a d area banks room

  pub appends : (e : Device) → PutsPair (format_of (geometry_of d area)) d e area id bytes → Appends (format_of (geometry_of a area)) a e area id bytes
  appends e did =
      let puts : PutsPair k d e area id bytes = to_geometry (λ u. PutsPair (format_of u) d e area id bytes) a d area banks did in
      let rested : AtRest k.reading (sectors_of d area) (open_sector k.reading (sectors_of d area)) =
      rounds-rest k law (sector_size a area) (length bytes) (sectors_of a area) makes.before (sectors_of d area) (rest_open role format_of kept a area current opened law lawful on) makes.rounds in
      let list : list_of k (sectors_of d area) ≡ joined (collected (length makes.before) (parts_of k (sectors_of a area))) =
      parts-list k.reading law.reads (sectors_of d area) (open_sector k.reading (sectors_of d area)) rested ∙ ap joined makes.parts in
      record {
        mid = d;
        makes = makes;
        room = room;
        puts = puts;
        list = puts.list ∙ ap (λ ps. ps ++ (id, bytes) ∷ []) list;
        spends = between_then makes.spends puts.entry;
      }

  pub stops_in_entry : (e : Device) → StopsPutting (format_of (geometry_of d area)) d e area id bytes → StopsAppending (format_of (geometry_of a area)) a e area id bytes
  stops_in_entry e did = inr (record { mid = d; makes = makes; room = room; stops = to_geometry (λ u. StopsPutting (format_of u) d e area id bytes) a d area banks did })

  pub still_undamaged : (e : Device) → (format_of (geometry_of d area)).damage (sectors_of e area) ≡ None → (format_of (geometry_of a area)).damage (sectors_of e area) ≡ None
  still_undamaged e none = to_geometry (λ u. (format_of u).damage (sectors_of e area) ≡ None) a d area banks none
