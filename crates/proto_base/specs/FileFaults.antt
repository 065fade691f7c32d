-- What a pass over files tells of one of them that is wrong.
use Rattle.std.specs.Prelude.{◌≡◌, ℕ, ◌<◌, ◌⊎◌}
use Rattle.proto_base.specs.declared.file_fault.FileError.{FileError}
use Rattle.proto_base.specs.declared.file_fault.FileError.TheVariants as errors
use Rattle.proto_base.specs.declared.file_fault.FileFault.{FileFault}
use Rattle.proto_base.specs.declared.spot.Spot.{Spot}
use Rattle.proto_base.specs.Least.{AtMost, Precedes}

-- what is wrong at a spot, as a step of the pass finds it
abbrev pub at_step : ℕ → Spot → FileFault
at_step step x = record { step = step; spot = x }

-- f comes no later than g: by step, then by place and by the kind's number
abbrev pub IsNoLater : FileFault → FileFault → Type 0
IsNoLater f g = (f.step < g.step) ⊎ ((f.step ≡ g.step) × AtMost f.spot g.spot)

-- f comes before g
abbrev pub IsEarlier : FileFault → FileFault → Type 0
IsEarlier f g = (f.step < g.step) ⊎ ((f.step ≡ g.step) × Precedes f.spot g.spot)

-- the error is for want of memory, or tells a fault that is so
abbrev pub TellsFirst : (FileFault → Type 0) → FileError → Type 0
TellsFirst P (errors.First f) = P f
TellsFirst P errors.NoMemory = Unit {0}
