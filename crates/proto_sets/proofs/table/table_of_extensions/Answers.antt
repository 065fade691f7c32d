use Rattle.std.proofs.Common.{◌≡◌, arith, get_or, length, map}
use Rattle.std.proofs.lemmas.List.{get_or-map, length-map}
use Rattle.std.proofs.lemmas.List.Sorted.{IsPermutation-map, length_permutation}
use Rattle.std.proofs.lemmas.Result.{IfOk-weaker}
use Rattle.proto_compilation.specs.Parts.{declared_extension}
use Rattle.proto_sets.specs.Extensions.{AreTabled}
use Rattle.proto_sets.specs.SaysSteps.{extension_of}
use Rattle.proto_sets.specs.TableSteps.{named_by, names_of}
use Rattle.proto_sets.proofs.Tables.{named_in_order, tabled}
use Rattle.proto_sets.proofs.table.table_of_extensions.Goals as goal

pub first_of_each-requires : goal.first_of_each-requires
first_of_each-requires c = rw c.deref.ensures.value (named_in_order _ c.sort_unstable.ensures.sorted)

pub returns : goal.returns
returns c =
    let sorted = c.sort_unstable.new.self.items in
    IfOk-weaker c.first_of_each.result _ _
    (λ table is. tabled (map extension_of c.args.extensions.now) (names_of c.in_ok-sorted.sorted.items) (names_of sorted)
    (map declared_extension table.items) c.in_ok-sorted.ensures.named
    (omega (
      arith,
      c.in_ok-sorted.ensures.few,
      length-map c.in_ok-sorted.sorted.items named_by,
      length-map c.args.extensions.now extension_of,
    ))
    (IsPermutation-map named_by c.in_ok-sorted.sorted.items sorted c.sort_unstable.ensures.permutation) is)
    (rw c.deref.ensures.value at c.first_of_each.ensures)
