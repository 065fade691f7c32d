-- The order of faults.
use Rattle.std.specs.Prelude.{ℕ, List}
use Rattle.std.specs.declared.cmp.Ordering.{Ordering}
use Rattle.std.specs.Ordering.{nat_cmp, ordering_then}
use Rattle.std.specs.Cmp.Lexicographic.{slice_cmp}

-- a fault, with its file's name as bytes and its kind as a number
pub record Found : Type 0 where
  pub pass : ℕ
  pub file : List ℕ
  pub step : ℕ
  pub place : ℕ
  pub number : ℕ

-- by the pass, then by the file's name, byte for byte, then by the step, the place and the kind's number
abbrev pub found_cmp : Found → Found → Ordering
found_cmp a b = ordering_then (nat_cmp a.pass b.pass)
    (ordering_then (slice_cmp nat_cmp a.file b.file)
    (ordering_then (nat_cmp a.step b.step) (ordering_then (nat_cmp a.place b.place) (nat_cmp a.number b.number))))
