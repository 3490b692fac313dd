-- What a `?` returns: an `Err`.
use Rattle.std.proofs.Common.{◌≡◌, true, Result, Ok, Err, OnOk, is_err}
use Rattle.std.proofs.lemmas.Bool.{false≢true}

-- nothing is said at `Ok` of a result that is an `Err`
pub not_ok : {X E : Type 0} (P : Type 0) (result : Result X E) → is_err result ≡ true → OnOk result P
not_ok P (Ok x) is = absurd (false≢true is)
not_ok P (Err e) is = tt
