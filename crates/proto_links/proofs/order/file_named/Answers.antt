use Rattle.proto_links.proofs.Common.{rules, nat_cmp, slice_cmp, name_of}
use Rattle.std.proofs.lemmas.Cmp.{nat_list_cmp_total}
use Rattle.std.proofs.lemmas.List.Sorted.{searchable_from_sorted}
use Rattle.std.proofs.lemmas.Fn.{always_returns_same}
use Rattle.proto_links.proofs.NameRows.{found_name, no_name, sorted_names}
use Rattle.proto_links.proofs.order.file_named.Goals as goal

pub returns-in-Ok : goal.returns-in-Ok
returns-in-Ok c =
    let found =
    rw c.in-Ok.is at (c.binary_search_by.ensures.position (λ f. slice_cmp nat_cmp (name_of f) c.args.name.now)
    (always_returns_same _ _ _ (λ a r g called. search rules))) in
    found_name _ _ _ c.in-Ok.ensures.bound found

pub returns-in-Err : goal.returns-in-Err
returns-in-Err c =
    let found =
    rw c.in-Err.is at (c.binary_search_by.ensures.position (λ f. slice_cmp nat_cmp (name_of f) c.args.name.now)
    (always_returns_same _ _ _ (λ a r g called. search rules))) in
    let split = found
    (searchable_from_sorted nat_list_cmp_total name_of c.args.files.now c.args.name.now (sorted_names _ c.requires)) in
    no_name _ _ _ split.0 split.1
