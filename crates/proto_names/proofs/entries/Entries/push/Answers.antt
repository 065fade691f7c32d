use Rattle.proto_names.proofs.Common.{◌≡◌, ◌≤◌, ◌∙◌, arith, length, MatchOption}
use Rattle.proto_names.specs.declared.entry.Entry.{Entry}
use Rattle.proto_names.proofs.EntryLemmas.{entries_more, entries_push, placed_by, scope_push, told_push}
use Rattle.proto_names.proofs.entries.Entries.push.Goals as goal

pub invariant_of-self-in_err-push : goal.invariant_of-self-in_err-push
invariant_of-self-in_err-push c =
    rw (c.in_err-push.ensures.items, c.in_ok-push_str.ensures.bytes) (entries_more _ _ _ c.self.invariant)

-- ---- an entry more

start : (c : goal.In_ok-push) → c.in_ok-start.start ≡ length c.self.inside.text.bytes.items
start c = c.in_ok-start.ensures.same ∙ c.len.ensures ∙ c.self.inside.text.bytes.ok.0

position : (c : goal.In_ok-push) → c.in_ok-position.position ≡ length c.self.inside.entries.items
position c = c.in_ok-position.ensures.same ∙ c.len-2.ensures ∙ c.self.inside.entries.ok.0

abbrev entry : goal.In_ok-push → Entry
entry c = record {
  start = c.in_ok-start.start;
  len = c.in_ok-len.len;
  scope = c.unwrap_or.result;
  location = c.args.location;
  rolling = c.with_text-rolling.result;
  kind = c.args.kind;
}

placed : (c : goal.In_ok-push) → MatchOption c.args.scope (length c.self.inside.entries.items ≤ c.unwrap_or.result)
    (λ s. c.unwrap_or.result ≡ s)
placed c = placed_by c.args.scope (length c.self.inside.entries.items) 4294967295 c.unwrap_or.result
    (omega (arith, position c, c.in_ok-position.ensures.same, c.in_ok-position.ensures.fits)) c.unwrap_or.ensures

pub invariant_of-self-2 : goal.invariant_of-self-2
invariant_of-self-2 c =
    rw (c.in_ok-push.ensures.items, c.in_ok-push_str.ensures.bytes)
    (entries_push _ _ _ _ c.args.scope c.self.invariant (start c) c.in_ok-len.ensures.same (placed c) (rw (← c.self.view_is) at c.requires)
    c.utf8.name
    (c.with_text-rolling.ensures ∙ rw (← c.self.view_is) at (c.hash_before_name.ensures c.args.name.now)))

pub returns-clause-put : goal.returns-clause-put
returns-clause-put c =
    rw (c.in_ok-push.ensures.items, c.in_ok-push_str.ensures.bytes, ← c.self.view_is)
    (told_push _ _ _ _ c.args.scope c.self.invariant (start c) c.in_ok-len.ensures.same (placed c) (rw (← c.self.view_is) at c.requires))

pub returns-clause-scope : goal.returns-clause-scope
returns-clause-scope c =
    rw (returns-clause-put c, ← c.self.view_is)
    (scope_push _ _ _ (entry c) c.args.scope c.self.invariant (start c) c.in_ok-len.ensures.same (placed c)
    (rw (← c.self.view_is) at c.requires)
    c.as_scope-inside.result (rw (position c) at c.as_scope-inside.ensures)).1

pub returns-clause-named : goal.returns-clause-named
returns-clause-named c =
    rw (returns-clause-put c, ← c.self.view_is)
    (scope_push _ _ _ (entry c) c.args.scope c.self.invariant (start c) c.in_ok-len.ensures.same (placed c)
    (rw (← c.self.view_is) at c.requires)
    c.as_scope-inside.result (rw (position c) at c.as_scope-inside.ensures)).0
