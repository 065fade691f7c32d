use Rattle.proto_names.proofs.Common.{◌≡◌, ◌++◌, ◌∙◌, refl, sym, string_bytes, ap, length, map, package_occurrence, prefixes}
use Rattle.proto_names.proofs.EntryLemmas.{entries_more, package_scope, told_length, told_more}
use Rattle.proto_names.proofs.entries.Entries.push_package.Goals as goal
use Rattle.proto_names.proofs.entries.Entries.push_package.Goals.{After-as_scope}

pub invariant_of-self-in_err-put_prefixes : goal.invariant_of-self-in_err-put_prefixes
invariant_of-self-in_err-put_prefixes c =
    let text = c.self.inside.text.bytes in
    rw c.in_ok-push_str.ensures.bytes (c.in_err-put_prefixes.ensures.kept text.items
    (c.in_ok-start.ensures.same ∙ c.len.ensures ∙ text.ok.0) (entries_more _ _ _ c.self.invariant))

-- ---- the entries of a package

start : (c : After-as_scope) → c.in_ok-start.start ≡ length c.self.inside.text.bytes.items
start c = c.in_ok-start.ensures.same ∙ c.len.ensures ∙ c.self.inside.text.bytes.ok.0

pub invariant_of-self-2 : goal.invariant_of-self-2
invariant_of-self-2 c =
    rw c.in_ok-push_str.ensures.bytes (c.in_ok-put_prefixes.ensures.kept c.self.inside.text.bytes.items (start c)
    (entries_more _ _ _ c.self.invariant))

pub returns-clause-put : goal.returns-clause-put
returns-clause-put c =
    let text = c.self.inside.text.bytes.items in
    let occurs = package_occurrence c.args.location.file c.args.location.place in
    rw (c.in_ok-push_str.ensures.bytes, ← c.self.view_is)
    (c.in_ok-put_prefixes.ensures.put text (start c) (entries_more _ _ _ c.self.invariant)
    ∙ ap (λ os. os ++ map occurs (prefixes c.args.name.now))
    (told_more text c.args.name.now c.self.inside.entries.items c.self.invariant))

size : (c : After-as_scope) → c.self.inside.entries.len ≡ length c.args.self.now
size c = c.self.inside.entries.ok.0
    ∙ sym (told_length (string_bytes c.self.inside.text) c.self.inside.entries.items) ∙ ap length c.self.view_is

pub returns-clause-scope : goal.returns-clause-scope
returns-clause-scope c =
    rw (returns-clause-put c) (package_scope c.args.self.now c.args.name.now c.args.location _ c.as_scope.result refl
    (rw (c.in_ok-position.ensures.same ∙ c.len-2.ensures ∙ size c) at c.as_scope.ensures)).1

pub returns-clause-named : goal.returns-clause-named
returns-clause-named c =
    rw (returns-clause-put c) (package_scope c.args.self.now c.args.name.now c.args.location _ c.as_scope.result refl
    (rw (c.in_ok-position.ensures.same ∙ c.len-2.ensures ∙ size c) at c.as_scope.ensures)).0
