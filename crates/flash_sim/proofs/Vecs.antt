-- Places in a vector, and that they fit the machine.
use Rattle.std.proofs.Common.{ℕ, ◌+◌, ◌<◌, ◌≤◌, length, vec_len, Fits, w64, arith}
use Rattle.std.specs.Global.{Vec}

module _ {A : Type 0} (v : Vec A) where
  pub in_vec : (i : ℕ) → i < length v.items → i < vec_len v
  in_vec i lt = omega (arith, v.ok.0)

  pub within_vec : (n : ℕ) → n ≤ length v.items → n ≤ vec_len v
  within_vec n le = omega (arith, v.ok.0)

  pub after-fits : (i : ℕ) → i < length v.items → Fits w64 (i + 1)
  after-fits i lt = omega (arith, v.ok.0, v.small)

  pub fits-within : (n : ℕ) → n ≤ length v.items → Fits w64 n
  fits-within n le = omega (arith, v.ok.0, v.small)
