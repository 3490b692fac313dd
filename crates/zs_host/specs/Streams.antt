-- What reading the rest of a file answers.
use Rattle.std.specs.Prelude.{◌≡◌, ℕ, ◌<◌, ◌≤◌, ⊤, Option, IfSome, Result, Ok, Err, List, length}
use Rattle.std.specs.Global.{Vec}
use Rattle.zs_host.specs.declared.host.HostFault.{HostFault}
use Rattle.zs_host.specs.declared.host.HostFault.TheVariants.{Missing, Failed, TooLong, NoMemory}

-- `left` is what the file has left, if that is known
abbrev pub ReadsToEnd : Option (List ℕ) → ℕ → Result (Vec ℕ) HostFault → Type 0
ReadsToEnd left limit (Ok bytes) = IfSome left (λ all. bytes.items ≡ all) × (length bytes.items ≤ limit)
ReadsToEnd left limit (Err TooLong) = IfSome left (λ all. limit < length all)
ReadsToEnd left limit (Err Failed) = ⊤
ReadsToEnd left limit (Err NoMemory) = ⊤
ReadsToEnd left limit (Err Missing) = ⊥
