use Rattle.proto_names.proofs.Common.{sym, subst, List, [], Contains, Occurrence, scoped}
use Rattle.proto_names.proofs.Parting.{parted_scoped}
use Rattle.proto_names.specs.ScopeParts.{IsParted}
use Rattle.proto_names.proofs.tables.Tables.may_be_part.Goals as goal

pub returns-in-Some : goal.returns-in-Some
returns-in-Some c o within name scope =
    let told = rw c.in-Some.is at c.self.invariant.1 in
    let text = c.args.scope.text.now in
    let part = c.args.name.text.now in
    let there = subst (λ (os : List Occurrence). Contains os o) (sym c.self.view_is) within in
    let parted : IsParted o.name (scoped text []) part = rw name (parted_scoped text part c.requires) in
    rw c.tells.ensures (told o (scoped text []) part there scope parted)
