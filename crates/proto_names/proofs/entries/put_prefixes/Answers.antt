use Rattle.proto_names.proofs.Common.{◌≤◌, ◌++◌, ◌∷◌, ◌∙◌, [], length, ap, append_assoc, arith, common_steps, map, package_occurrence, prefixes, rules}
use Rattle.proto_names.proofs.EntryLemmas.{front_front, prefix_entries, prefix_told}
use Rattle.proto_names.specs.Entries.{occurrences_of_entries}
use Rattle.proto_names.proofs.entries.put_prefixes.Goals as goal

pub returns-in_err-push-clause-kept : goal.returns-in_err-push-clause-kept
returns-in_err-push-clause-kept c old start of =
    rw c.in_err-push.ensures.items (c.loop-len.invariant.kept old start of)

pub returns-in_default-clause-kept : goal.returns-in_default-clause-kept
returns-in_default-clause-kept c old start of =
    let is = c.loop-len.invariant in
    let few : length c.loop-len.entries.items ≤ 4294967295 = omega (arith, c.in_ok-narrow.ensures.fits) in
    rw c.in_ok-push.ensures.items
    (prefix_entries old _ _ _ _ (is.kept old start of) start c.in_ok-len.ensures.same is.front few is.utf8 is.hashed)

pub returns-in_default-clause-put : goal.returns-in_default-clause-put
returns-in_default-clause-put c old start of =
    let is = c.loop-len.invariant in
    let few : length c.loop-len.entries.items ≤ 4294967295 = omega (arith, c.in_ok-narrow.ensures.fits) in
    ap (occurrences_of_entries (old ++ c.args.name.now)) c.in_ok-push.ensures.items
    ∙ prefix_told old _ _ _ _ (is.kept old start of) start c.in_ok-len.ensures.same is.front few
    ∙ rw (rw c.in_default.is at c.shorter_prefix.ensures) at (is.put old start of)

pub loop-len-preserved : goal.loop-len-preserved
loop-len-preserved c =
    let is = c.loop-len.invariant in
    let (all, less, split) = c.in-Some.ensures in
    let occurs = package_occurrence c.args.location.file c.args.location.place in
    let few : length c.loop-len.entries.items ≤ 4294967295 = omega (arith, c.in_ok-narrow.ensures.fits) in
    record {
      utf8 = search rules;
      hashed = grind (arith, common_steps, c.hash_before-rolling.ensures c.in-Some.shorter.now);
      front = front_front c.args.name.now c.loop-len.prefix.now c.in-Some.shorter.now is.front less split;
      kept = λ old start of. rw c.in_ok-push.ensures.items (prefix_entries old _ _ _ _ (is.kept old start of) start
          c.in_ok-len.ensures.same is.front few is.utf8 is.hashed);
      put = λ old start of. rw (ap (occurrences_of_entries (old ++ c.args.name.now)) c.in_ok-push.ensures.items
          ∙ prefix_told old _ _ _ _ (is.kept old start of) start c.in_ok-len.ensures.same is.front few)
          (append_assoc (occurrences_of_entries (old ++ c.args.name.now) c.loop-len.entries.items)
          (occurs c.loop-len.prefix.now ∷ []) (map occurs (prefixes c.in-Some.shorter.now))
          ∙ rw all at (is.put old start of));
    }
