use Rattle.std.proofs.Common.{refl}
use Rattle.proto_lower.proofs.file.lower.Goals as goal

pub returns : goal.returns
returns c = rw (c.borrowed.ensures, c.from_vec.ensures, c.in_ok-put_declared.ensures.imports, c.new.ensures.items)
    (rw (c.from_vec-2.ensures, c.in_ok-put_declared.ensures.messages, c.new-2.ensures.items)
    (rw (c.from_vec-3.ensures, c.in_ok-put_declared.ensures.enums, c.new-3.ensures.items)
    (rw (c.from_vec-4.ensures, c.in_ok-put_declared.ensures.services, c.new-4.ensures.items)
    (rw (c.in_ok-options.ensures, c.in_ok-package.ensures, c.as_slice-statements.ensures) refl))))
