-- Words of private contracts: the scope before a name that is read from its end on.
use Rattle.std.specs.Prelude.{◌≢◌, List, [], ℕ, ⊤}
use Rattle.proto_names.specs.Runs.{at}
use Rattle.proto_names.specs.declared.scope_before.ScopeBefore.{ScopeBefore}
use Rattle.proto_names.specs.declared.scope_before.ScopeBefore.TheVariants as before

-- the full name of the scope; of none it is empty
abbrev pub scope_text : ScopeBefore → List ℕ
scope_text before.Nothing = []
scope_text (before.Text text) = text.now
scope_text (before.Entry entries position) = (at entries.now position).name

-- a scope that is there has a name that is not empty
abbrev pub IsNamed : ScopeBefore → Type 0
IsNamed before.Nothing = ⊤
IsNamed (before.Text text) = text.now ≢ []
IsNamed (before.Entry entries position) = (at entries.now position).name ≢ []
