mod DeleteUnits
mod Holding
mod Numbers
mod OpenLemmas
mod Places
mod RoomLemmas
