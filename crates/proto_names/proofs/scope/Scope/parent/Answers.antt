use Rattle.proto_names.proofs.Common.{◌≡◌, ◌∙◌, ◌++◌, ◌-◌, [], ap, sym, arith, length, length-drop, drop, take, take_all, scoped, rolling_hash}
use Rattle.proto_names.proofs.Starting.{around_prefix, dotted_hash, rolling_below}
use Rattle.proto_names.proofs.scope.Scope.parent.Goals as goal

pub invariant_of-result : goal.invariant_of-result
invariant_of-result c =
    let s = c.args.self.text.now in
    let outer = c.parent-text.result.now in
    let bytes = c.as_bytes.result.now in
    let k = c.start_inside.result in
    let cut = take_all (length bytes - k) (drop k bytes) (omega (arith, length-drop k bytes)) in
    let whole : scoped outer [] ++ take (length bytes - k) (drop k bytes) ≡ s =
    rw (cut, c.start_inside.ensures, c.as_bytes.ensures.value)
    (around_prefix outer s c.parent-text.ensures.candidate c.parent-text.ensures.shorter) in
    let rolling = c.without_byte-rolling.ensures (rolling_hash s) (rolling_below s)
    (c.args.self.hashed ∙ dotted_hash s c.requires) in
    record { hashed = c.hash_before-before_name.ensures (scoped outer []) (rolling ∙ ap rolling_hash (sym whole)) }
