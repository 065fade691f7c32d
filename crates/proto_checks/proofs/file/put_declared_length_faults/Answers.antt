use Rattle.proto_checks.proofs.Common.{each_append, gains_as, gains_last, gains_same, gains_union, file_scope}
use Rattle.proto_checks.proofs.file.put_declared_length_faults.Goals as goal

pub returns : goal.returns
returns c =
    let scope = file_scope c.args.desc.now.«package» in
    let len = c.scope_len-len.ensures in
    let messages = rw c.as_slice.ensures at (c.in_ok-put_long_names.ensures scope len) in
    let enums = rw c.as_slice-2.ensures at (c.in_ok-put_long_names-2.ensures scope len) in
    let services = rw c.as_slice-3.ensures at (c.put_long_names-3.ensures scope len) in
    let types = gains_same (gains_union messages enums) (each_append _ _ _) in
    gains_as _ _ _ (gains_last _ _ _ types services) (each_append _ _ _)
