use Rattle.proto_names.proofs.Common.{List, Contains, Index, Occurrence, ap, subst, sym}
use Rattle.proto_names.specs.SeenAlike.{IsSeen}
use Rattle.proto_names.proofs.Parting.{first_part_plain}
use Rattle.proto_names.proofs.Unique.{first_visible}
use Rattle.proto_names.proofs.index.NameIndex.may_decide.Goals as goal

pub may_be_scope-requires : goal.may_be_scope-requires
may_be_scope-requires c = rw c.args.spelled.parted (first_part_plain c.args.spelled.text.now)

pub returns : goal.returns
returns c seen decides =
    let (o, within, name, scope) = first_visible c.args.self.now.occurrences (IsSeen seen) c.args.scope.text.now
    c.args.spelled.text.now _ decides in
    let same = ap (λ (index : Index). index.occurrences) c.self.view_is in
    c.may_be_scope.ensures o (subst (λ (os : List Occurrence). Contains os o) (sym same) within)
    (rw c.args.spelled.parted name) scope
