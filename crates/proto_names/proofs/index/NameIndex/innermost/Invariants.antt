use Rattle.proto_names.proofs.Common.{ℕ, ◌<◌, SeenBy, Decides}
use Rattle.proto_names.specs.Around.{scope_at, texts_of}
use Rattle.proto_names.proofs.index.NameIndex.innermost.Given as goal

abbrev pub invariant-loop-scope : goal.invariant-loop-scope
invariant-loop-scope l = (k : ℕ) → k < l.scope-index
    → Decides l.self.occurrences (SeenBy l.links l.file) (scope_at (texts_of l.scopes) k) l.spelled.text.now → ⊥
