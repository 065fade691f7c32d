-- What a reader and a writer did, call by call.
use Rattle.std.specs.Prelude.{ℕ, List, Option}

-- what one call of a reader did: the bytes that it had room for, and how many it gave, unless it failed
pub record Call : Type 0 where
  pub room : ℕ
  pub given : Option ℕ

-- what a reader did so far: the bytes that it gave, its calls, and how many of them failed; and what it has left, where
-- that is known
pub record Reads : Type 0 where
  pub bytes : List ℕ
  pub calls : List Call
  pub failures : ℕ
  pub left : Option (List ℕ)

-- what a writer did so far: the bytes that it took, those of them that were not flushed, and how many of its calls
-- failed; and what it holds, where that is known
pub record Writes : Type 0 where
  pub bytes : List ℕ
  pub unflushed : List ℕ
  pub failures : ℕ
  pub contents : Option (List ℕ)
