use Rattle.proto_names.proofs.Common.{◌≡◌, ◌∙◌, ap, arith, refl, map, IsPermutation, IsPermutation-sym, MatchOption, Option, None, Some, All-contains, Contains-permutation, Occurrence, all_of, table_of, ◌<◌}
use Rattle.proto_names.proofs.Tabled.{all_services, all_shares, first_twice_of, in_shares, none_twice}
use Rattle.proto_names.proofs.index.NameIndex.of_names.Goals as goal

pub returns-in-Some-clause-twice : goal.returns-in-Some-clause-twice
returns-in-Some-clause-twice c file place e =
    let are = c.in_ok-shares.ensures in
    let location = c.in-Some.location in
    let first = rw (c.deref.ensures.value, c.in-Some.is) at c.first_of.ensures in
    let same : (location.file ≡ file) × (location.place ≡ place) = (cc, cc) in
    record {
      within = omega arith;
      twice = rw (← same.0, ← same.1) (first_twice_of _ c.in_ok-shares.shares.items are location first);
    }

pub new-requires-clause-shares : goal.new-requires-clause-shares
new-requires-clause-shares c =
    rw c.in_ok-tables.ensures.tables (in_shares c.args.names c.in_ok-shares.shares.items c.in_ok-shares.ensures)

not_some : {X : Type 0} {A : Type 0} (B : X → Type 0) (r : Option X) → ((x : X) → r ≡ Some x → ⊥)
    → MatchOption r A B → A
not_some B None h a = a
not_some B (Some x) h b = absurd (h x refl)

pub returns-clause-indexed : goal.returns-clause-indexed
returns-clause-indexed c =
    let shares = c.in_ok-shares.shares.items in
    let names = c.args.names in
    let are = c.in_ok-shares.ensures in
    let kept : c.new.result ≡ all_of (map table_of shares) = c.new.ensures ∙ ap all_of c.in_ok-tables.ensures.tables in
    let moved : IsPermutation names c.new.result = rw kept (all_shares names shares are) in
    record {
      files = refl;
      within = omega arith;
      once = none_twice names shares are (rw c.deref.ensures.value
          at (not_some _ c.first_of.result c.in_default.not-Some c.first_of.ensures));
      all = moved;
      sound = record {
        inside = λ o within. All-contains (λ (o : Occurrence). o.file < c.args.files) names o c.requires
            (Contains-permutation c.new.result names o (IsPermutation-sym names c.new.result moved) within);
        order = c.in_ok-tables.ensures.order;
        services = rw (kept, ← all_services names shares are) c.in_ok-tables.ensures.services;
      };
    }

pub invariant_of-result : goal.invariant_of-result
invariant_of-result c =
    let it = returns-clause-indexed c in (it.sound, (c.args.files, c.args.names, c.args.limits.now, it))
