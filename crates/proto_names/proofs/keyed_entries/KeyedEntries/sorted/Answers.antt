use Rattle.proto_names.proofs.Common.{◌≡◌, ◌∙◌, ◌++◌, ap, drop, length, take, IsPermutation, All-permutation, IsPermutation-map, AreKeysAmong, IsKeyAmong, at_key}
use Rattle.digraph.proofs.Rows.{written}
use Rattle.proto_names.proofs.Searching.{sorted_found}
use Rattle.proto_names.proofs.keyed_entries.KeyedEntries.sorted.Goals as goal

moved : (c : goal.In_ok-sort_keys) → IsPermutation c.self.inside.keys.items c.sort_keys.new.keys
moved c = rw c.deref_mut.ensures.value at c.sort_keys.ensures.all

among : (c : goal.In_ok-sort_keys) → AreKeysAmong c.self.inside.collected.value c.sort_keys.new.keys
among c = All-permutation (IsKeyAmong c.self.inside.collected.value) _ _ (moved c) c.self.invariant

-- what the keys are afterwards
items : (c : goal.In_ok-sort_keys) → take c.self.inside.keys.len (c.sort_keys.new.keys
    ++ drop (length c.sort_keys.new.keys) c.self.inside.keys.items) ≡ c.sort_keys.new.keys
items c = written c.sort_keys.new.keys c.self.inside.keys.items c.self.inside.keys.len c.self.inside.keys.ok.0
    (c.sort_keys.ensures.len ∙ ap length c.deref_mut.ensures.value)

pub invariant_of-result : goal.invariant_of-result
invariant_of-result c = rw (items c) (among c)

pub returns-clause-all : goal.returns-clause-all
returns-clause-all c = rw (items c, ← c.self.view_is)
    (IsPermutation-map (at_key c.self.inside.collected.value) _ _ (moved c))

pub returns-clause-order : goal.returns-clause-order
returns-clause-order c = rw (items c) (sorted_found _ _ (among c)
    (rw c.deref.ensures at c.in_ok-sort_keys.ensures.order))
