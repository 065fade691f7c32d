use Rattle.proto_names.proofs.Common.{◌≡◌, ◌<◌, ◌∙◌, ◌-◌, [], ap, sym, arith, drop, hash_step, length, length-drop, rolling_hash, scoped, take_all}
use Rattle.std.proofs.lemmas.List.Sums.{fold-append}
use Rattle.proto_names.proofs.Starting.{around_prefix, dotted_hash}
use Rattle.proto_names.proofs.scope.Scope.inside.Goals as goal

pub invariant_of-result-2 : goal.invariant_of-result-2
invariant_of-result-2 c =
    let outer = c.args.self.text.now in
    let s = c.args.text.now in
    let longer : length outer < length s = omega (arith, c.if-text-self.false) in
    let before = scoped outer [] in
    let bytes = c.as_bytes.result.now in
    let k = c.start_inside-start.result in
    let cut = take_all (length bytes - k) (drop k bytes) (omega (arith, length-drop k bytes)) in
    let rolling : c.with_bytes-rolling.result ≡ rolling_hash s =
    rw (cut, c.start_inside-start.ensures, c.args.self.hashed, c.as_bytes.ensures.value) at c.with_bytes-rolling.ensures
    ∙ sym (fold-append hash_step 0 before (drop (length before) s))
    ∙ ap rolling_hash (around_prefix outer s c.requires longer) in
    record {
      hashed = c.with_byte.ensures ∙ ap (λ h. hash_step h 46) rolling ∙ sym (dotted_hash s (omega (arith, longer)));
    }
