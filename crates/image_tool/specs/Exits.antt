-- The exit code of the process.
use Rattle.std.specs.Prelude.{◌≡◌, ℕ, true, None, Result, Ok, Err, List, [], ◌∷◌, drop, map}
use Rattle.std.specs.Global.{Global}
use Rattle.std.specs.IoError.{error_kind}
use Rattle.std.specs.String.{string_bytes}
use Rattle.std.specs.Vec.Iter.{into_iter_items}
use Rattle.std.specs.declared.alloc.AllocError.{AllocError}
use Rattle.std.specs.declared.io.Error.{Error}
use Rattle.std.specs.declared.io.ErrorKind.TheVariants.{InvalidData}
use Rattle.std.specs.declared.string.String.{String}
use Rattle.std.specs.declared.vec.IntoIter.{IntoIter}
use Rattle.flash_sim.specs.Device.{Device, Never}
use Rattle.zs_host.specs.Outside.{Outside}
use Rattle.handlers.specs.declared.handler.HandlerKind.{HandlerKind}
use Rattle.handlers.specs.declared.handler.HandlerKind.TheVariants.{Table, Counter, Level}
use Rattle.handlers.specs.Registry.{Registered}
use Rattle.image_tool.specs.declared.status.Status.{Status}
use Rattle.image_tool.specs.declared.status.Status.TheVariants as status
use Rattle.image_tool.specs.Tool.{NoCommandEnds, ToolEnds, any_stores, exit_code}
use Rattle.image_tool.specs.Worlds.{world}

-- the handlers of the program: four tables, two counters and two levels
abbrev pub program_kinds : List HandlerKind
program_kinds = Table ∷ Table ∷ Table ∷ Table ∷ Counter ∷ Counter ∷ Level ∷ Level ∷ []

-- The code is that of the status with which the words end. The handlers are those of the program,
-- and none is registered.
abbrev pub Exits : List (List ℕ) → Outside → Outside → Device → Device → ℕ → Type 0
Exits words host host' old new code =
    (ends : Status) × (left : List Registered) × (code ≡ exit_code ends)
    × ToolEnds any_stores program_kinds words (world host old []) (world host' new left) ends

-- the words ended so, or memory ran out before they were read
abbrev pub ExitsOr : List (List ℕ) → Outside → Outside → Device → Device → Result ℕ AllocError → Type 0
ExitsOr words host host' old new (Ok code) = Exits words host host' old new code
ExitsOr words host host' old new (Err e) = (host' ≡ host) × (new ≡ old)

-- the real host before its first fault: it shows nothing of files and print
abbrev pub real_host : Outside
real_host = record { files = None; printed = None; faults = 0 }

-- a flash with no bank, and with power on
abbrev pub no_flash : Device
no_flash =
    record {
      banks = [];
      bytes = [];
      is_on = true;
      losses = 0;
      spent = 0;
      loads = 0;
      last_loss = None;
      plan = Never;
    }

-- What the system gave as arguments, or why it gave none.
abbrev pub Given : Type 0
Given = Result (IntoIter (String Global) Global) Error

-- the words behind the first one, which is the program's name
abbrev pub words_in : IntoIter (String Global) Global → List (List ℕ)
words_in given = map string_bytes (drop 1 (into_iter_items given))

-- The arguments are no text, and so no command.
abbrev pub TextExits : Outside → Outside → ℕ → Type 0
TextExits host host' code = (ends : Status) × (code ≡ exit_code ends) × NoCommandEnds host host' ends

-- The system gave no arguments: they are no text, or memory ran out before they were read.
pub record NoneExits (error : Error) (host host' : Outside) (old new : Device) (code : ℕ) : Type 0 where
  pub text : error_kind error ≡ InvalidData → TextExits host host' code
  pub memory : ¬ (error_kind error ≡ InvalidData) → (code ≡ exit_code status.NoMemory) × (host' ≡ host)
  pub bench : new ≡ old

-- The exit code, for what the system gave: all words behind the program's name ended so.
abbrev pub GivenExits : Given → Outside → Outside → Device → Device → ℕ → Type 0
GivenExits (Ok given) host host' old new code = Exits (words_in given) host host' old new code
GivenExits (Err error) host host' old new code = NoneExits error host host' old new code

-- The exit code of the process, for what the system gave: that of the real host, with a flash that
-- has no bank.
abbrev pub ProcessExits : Given → ℕ → Type 0
ProcessExits given code =
    (host' : Outside) × (new : Device) × GivenExits given real_host host' no_flash new code
