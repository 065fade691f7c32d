-- Words for the contracts of the private functions: what their errors tell, and where files stand.
use Rattle.std.specs.Prelude.{◌≡◌, ℕ, ◌<◌, List, length, ◌≢◌, ◌+◌, IsPermutation}
use Rattle.proto_compile.specs.FaultSet.{SourceFault, TellsOf}
use Rattle.proto_compile.specs.declared.error.CompileError.{CompileError}
use Rattle.proto_compile.specs.declared.source.Source.{Source}
use Rattle.std.specs.Cmp.Lexicographic.{slice_cmp}
use Rattle.std.specs.Ordering.{nat_cmp}
use Rattle.std.specs.declared.cmp.Ordering.TheVariants.{Greater}
use Rattle.proto_compile.specs.Sources.{name_at}

-- the error is for want of memory, or tells this fault
abbrev pub Tells : SourceFault → CompileError → Type 0
Tells x = TellsOf (λ y. y ≡ x)

-- the same sources, none behind one of a greater name
pub record AreSorted (sources files : List Source) : Type 0 where
  pub all : IsPermutation sources files
  pub rises : (k : ℕ) → k + 1 < length files → slice_cmp nat_cmp (name_at files k) (name_at files (k + 1)) ≢ Greater

-- of sorted sources, the first of which the next one has the name
pub record IsFirstRepeated (files : List Source) (k : ℕ) : Type 0 where
  pub below : k + 1 < length files
  pub same : name_at files k ≡ name_at files (k + 1)
  pub first : (j : ℕ) → j < k → name_at files j ≢ name_at files (j + 1)
