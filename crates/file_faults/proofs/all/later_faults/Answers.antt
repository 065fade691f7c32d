use Rattle.std.proofs.Common.{◌∙◌, ap, arith, map, refl, subst, sym}
use Rattle.std.proofs.lemmas.Result.{IfOk-weaker}
use Rattle.proto_compile.specs.Descriptions.{Describe}
use Rattle.proto_compile.proofs.OneTyping.{same_names}
use Rattle.proto_compile.specs.FaultSet.{told_by}
use Rattle.file_faults.specs.FaultSpots.{fault_at}
use Rattle.file_faults.specs.PassFaults.{AreFaultsFrom}
use Rattle.file_faults.proofs.Later.{later_from, many_from, none_by_itself}
use Rattle.file_faults.proofs.all.later_faults.Goals as goal

pub returns-in-Err-First : goal.returns-in-Err-First
returns-in-Err-First g c sources few order least later = absurd (none_by_itself c.args.limits.now sources
    (told_by c.args.first) least c.args.files.now order later c.in-Err-First.field-0 c.in-Err-First.fault
    c.in-Err-First.field-0-is c.in-Err-First.ensures.own)

pub spots_of-requires-after_bounds : goal.spots_of-requires-after_bounds
spots_of-requires-after_bounds g c κs h = grind (arith, same_names)

pub returns-in-Some : goal.returns-in-Some
returns-in-Some g c sources few order least later =
    let limits = c.args.limits.now in
    let descs = c.in-Ok.descs.items in
    let d : Describe limits sources c.args.files.now descs =
    record { few = few; by_name = order; each = c.in-Ok.ensures.described } in
    let are = rw (c.in-Some.is, c.deref.ensures.value) at c.in_ok-spots.ensures.spots in
    let within = rw (c.in-Some.is, c.deref.ensures.value) at c.in_ok-spots.ensures.within in
    let pass = c.args.first.pass in
    IfOk-weaker c.named_spots.result _ _ (λ faults is.
    subst (AreFaultsFrom limits sources (told_by c.args.first))
    (sym (is ∙ ap (λ ds. map (fault_at pass ds) c.deref-in-Some-2.result.now) c.deref-in-Some.ensures.value
    ∙ ap (map (fault_at pass descs)) c.deref-in-Some-2.ensures.value))
    (later_from limits sources (told_by c.args.first) least d pass c.in-Some.spots.items refl are within))
    c.named_spots.ensures

pub returns-in_ok-vec-in-None : goal.returns-in_ok-vec-in-None
returns-in_ok-vec-in-None g c sources few order least later =
    let limits = c.args.limits.now in
    let first = told_by c.args.first in
    let d : Describe limits sources c.args.files.now c.in-Ok.descs.items =
    record { few = few; by_name = order; each = c.in-Ok.ensures.described } in
    let none = rw (c.in-None.is, c.deref.ensures.value) at c.in_ok-spots.ensures.spots in
    subst (λ fs. AreFaultsFrom limits sources first (map told_by fs)) (sym c.in_ok-vec-in-None.ensures.items)
    (many_from limits sources first least d later none)
