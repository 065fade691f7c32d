use Rattle.proto_names.proofs.Common.{arith, ◌<◌, ℕ, List, IsPermutation, Bits, All-filter, All-permutation, Contains-permutation, IsPermutation-sym, length_permutation, Occurrence, TellsScopes}
use Rattle.std.proofs.lemmas.List.Sums.{count_by-le-length, length-filter}
use Rattle.proto_names.proofs.sorted.sort_share.Goals as goal

pub among-requires : goal.among-requires
among-requires c = grind (arith, count_by-le-length, length-filter)

-- scopes are told of in any order
told : (os moved : List Occurrence) (bits : Bits) (slots : ℕ) → IsPermutation os moved → TellsScopes os bits slots
    → TellsScopes moved bits slots
told os moved bits slots same tells o within is =
    tells o (Contains-permutation moved os o (IsPermutation-sym os moved same) within) is

pub listed_services-requires : goal.listed_services-requires
listed_services-requires c =
    let scopes = rw c.names.ensures at c.in_ok-scopes.ensures in
    rw c.names-3.ensures (told _ _ c.in_ok-scopes.scopes.bits _ c.in_ok-entries.ensures.all scopes)

pub new-requires-clause-many : goal.new-requires-clause-many
new-requires-clause-many c = grind (arith, length_permutation, count_by-le-length, length-filter)

pub new-requires-clause-scopes : goal.new-requires-clause-scopes
new-requires-clause-scopes c =
    told _ _ c.in_ok-scopes.scopes.bits _ c.in_ok-entries.ensures.all (rw c.names.ensures at c.in_ok-scopes.ensures)

pub new-requires-clause-files : goal.new-requires-clause-files
new-requires-clause-files c = All-permutation (λ (o : Occurrence). o.file < c.args.files) c.in_ok-keyed.keyed
    c.in_ok-entries.entries c.in_ok-entries.ensures.all
    (rw c.in_ok-keyed.ensures (All-filter _ (λ (o : Occurrence). o.file < c.args.files) _ c.requires.files))

pub returns : goal.returns
returns c =
    record {
      all = rw c.in_ok-table.ensures (rw c.in_ok-keyed.ensures at c.in_ok-entries.ensures.all);
      services = rw (c.in_ok-table.ensures, ← c.names-3.ensures) c.in_ok-services.ensures;
      twice = rw (c.in_ok-table.ensures, ← c.names-2.ensures) c.first_twice-twice.ensures;
    }
