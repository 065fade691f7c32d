-- A name of a source, by its bytes, and where it stands.
use Rattle.std.specs.Prelude.{ℕ, List}
use Rattle.proto_base.specs.declared.place.Span.{Span}

pub record Identifier : Type 0 where
  pub text : List ℕ
  pub span : Span
