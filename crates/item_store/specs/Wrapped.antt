-- The result of a call, of a type that holds a store.
use Rattle.std.specs.Prelude.{Result, Ok, Err}
use Rattle.item_store.specs.declared.store.Store.{Store}

-- the store that is held, or the fault
abbrev pub store_in : {S T E : Type 0} → (S → Store T) → Result S E → Result (Store T) E
store_in held (Ok s) = Ok (held s)
store_in held (Err fault) = Err fault
