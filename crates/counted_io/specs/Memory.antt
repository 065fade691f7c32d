-- Which errors are for want of memory.
use Rattle.std.specs.Prelude.{◌≡◌, None}
use Rattle.std.specs.IoError.{error_kind, raw_os_error}
use Rattle.std.specs.declared.io.Error.{Error}
use Rattle.std.specs.declared.io.ErrorKind.TheVariants.{OutOfMemory}

-- the allocator had no memory: where the system had none, the error has a number
abbrev pub LacksMemory : Error → Type 0
LacksMemory error = (error_kind error ≡ OutOfMemory) × (raw_os_error error ≡ None)

-- the fault that an error is: one for want of memory where the allocator had none, and else another
pub record IsUnlessNoMemory {F : Type 0} (error : Error) (memory other fault : F) : Type 0 where
  pub lacking : LacksMemory error → fault ≡ memory
  pub device : (LacksMemory error → ⊥) → fault ≡ other
