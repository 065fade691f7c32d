use Rattle.std.proofs.Common.{◌≡◌, ◌∙◌, ◌≤◌, arith, string_bytes, sym, subst, vec_len}
use Rattle.std.proofs.lemmas.Bool.{false≢true}
use Rattle.std.proofs.lemmas.List.Sorted.{length_permutation}
use Rattle.source_folder.specs.Ordered.{HaveTwins, path_of}
use Rattle.proto_base.specs.NameOrder.{NamesRise}
use Rattle.source_folder.proofs.Named.{as_many}
use Rattle.source_folder.proofs.Neighbours.{rising}
use Rattle.source_folder.proofs.folder.source_names_below.Goals as goal

pub returns-clause-order : goal.returns-clause-order
returns-clause-order g c =
    subst NamesRise (sym c.in_ok-names_of_entries.ensures.names)
    (rising c.sort_by_path.new.sources.items c.sort_by_path.ensures.order
    (λ twins. false≢true (sym c.if-have_twins.false
    ∙ c.have_twins.ensures.1 (subst HaveTwins (sym c.deref.ensures.value) twins))))

pub returns-clause-few : goal.returns-clause-few
returns-clause-few g c =
    let found = c.in_ok-sources.sources in
    let sorted = c.sort_by_path.new.sources in
    let names = c.in_ok-names_of_entries.field-0 in
    let few : vec_len found ≤ 1048576 = c.in_ok-sources.ensures in
    let same = length_permutation found.items sorted.items c.sort_by_path.ensures.same in
    let many : vec_len names ≡ vec_len sorted =
    as_many string_bytes path_of names sorted c.in_ok-names_of_entries.ensures.names in
    omega (arith, many, same, few, found.ok, sorted.ok)
