use Rattle.proto_names.proofs.Common.{◌≡◌, ◌∙◌, ap, refl, length, map, IsPermutation, MatchOption, Option, None, Some, occurrences, all_of, table_of}
use Rattle.proto_names.proofs.Built.{below_files}
use Rattle.proto_names.proofs.Tabled.{all_services, all_shares, first_twice_of, in_shares, none_twice}
use Rattle.proto_names.proofs.index.NameIndex.build_by.Goals as goal

pub returns-in-Some-first_of-clause-twice : goal.returns-in-Some-first_of-clause-twice
returns-in-Some-first_of-clause-twice g c file place e =
    let are = rw c.in-Some.is at c.in_ok-shares.ensures.shares in
    let location = c.in-Some-first_of.location in
    let first = rw (c.deref.ensures.value, c.in-Some-first_of.is) at c.first_of.ensures in
    let same : (location.file ≡ file) × (location.place ≡ place) = (cc, cc) in
    record {
      within = rw c.get-limit.ensures.value at (rw c.in-Some.is at c.in_ok-shares.ensures.within);
      twice = rw (← same.0, ← same.1) (first_twice_of _ c.in-Some.shares.items are location first);
    }

pub new-requires-clause-shares : goal.new-requires-clause-shares
new-requires-clause-shares g c =
    rw c.in_ok-tables.ensures.tables
    (in_shares (occurrences c.args.files.now) c.in-Some.shares.items (rw c.in-Some.is at c.in_ok-shares.ensures.shares))

not_some : {X : Type 0} {A : Type 0} (B : X → Type 0) (r : Option X) → ((x : X) → r ≡ Some x → ⊥)
    → MatchOption r A B → A
not_some B None h a = a
not_some B (Some x) h b = absurd (h x refl)

pub returns-clause-indexed : goal.returns-clause-indexed
returns-clause-indexed g c =
    let shares = c.in-Some.shares.items in
    let files = c.args.files.now in
    let are = rw c.in-Some.is at c.in_ok-shares.ensures.shares in
    let kept : c.new.result ≡ all_of (map table_of shares) = c.new.ensures ∙ ap all_of c.in_ok-tables.ensures.tables in
    let moved : IsPermutation (occurrences files) c.new.result = rw kept (all_shares (occurrences files) shares are) in
    record {
      files = refl;
      within = rw c.get-limit.ensures.value at (rw c.in-Some.is at c.in_ok-shares.ensures.within);
      once = none_twice (occurrences files) shares are (rw c.deref.ensures.value
          at (not_some _ c.first_of.result c.in_default-first_of.not-Some c.first_of.ensures));
      all = moved;
      sound = record {
        inside = below_files files c.new.result moved;
        order = c.in_ok-tables.ensures.order;
        services = rw (kept, ← all_services (occurrences files) shares are) c.in_ok-tables.ensures.services;
      };
    }

pub invariant_of-result : goal.invariant_of-result
invariant_of-result g c =
    let it = returns-clause-indexed g c in (it.sound, (length c.args.files.now, occurrences c.args.files.now, c.args.limits.now, it))
