use Rattle.proto_checks.proofs.Common.{map, GainsTo, IsReservedName, name_mark}
use Rattle.proto_checks.proofs.reserved_names.put_members_reserved.Given as goal

abbrev pub invariant-loop-member : goal.invariant-loop-member
invariant-loop-member g l = GainsTo (map (name_mark g.D.Declares.declared) l.members) (IsReservedName l.fn.reserved)
    l.member-index l.initial.faults.items l.faults.items
