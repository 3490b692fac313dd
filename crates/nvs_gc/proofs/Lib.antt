mod NotedSlots
mod OpenLemmas
mod Places
mod RoomLemmas
mod RowLemmas
