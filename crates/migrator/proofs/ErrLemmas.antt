-- What is said of an `Ok` holds at an `Err`.
use Rattle.std.proofs.Common.{Result, Ok, Err}
use Rattle.std.specs.Result.{IsErr, IfOk}
use Rattle.std.proofs.lemmas.Bool.{false≢true}

pub not-ok : {T E : Type 0} (P : T → Type 0) (r : Result T E) → IsErr r → IfOk r P
not-ok P (Ok x) is = absurd (false≢true is)
not-ok P (Err e) is = tt
