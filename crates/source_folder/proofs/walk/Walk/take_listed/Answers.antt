use Rattle.std.proofs.Common.{Result, OnOk, arith, string_bytes}
use Rattle.source_folder.proofs.Taking.{taken_counts, taken_falls}
use Rattle.source_folder.proofs.walk.Walk.take_listed.Goals as goal

on_ok : {X E : Type 0} (r : Result X E) (P Q : Type 0) → OnOk r P → (P → Q) → OnOk r Q
on_ok r P Q p f = grind arith

pub returns-clause-ends : goal.returns-clause-ends
returns-clause-ends g c =
    on_ok _ _ _ c.take_entry.ensures.ok (λ taken. taken_falls (string_bytes c.in_ok-path.path) c.args.folder.now.depth
    taken.0 c.args.self.now c.take_entry.new.self taken.1)

pub returns-clause-counted : goal.returns-clause-counted
returns-clause-counted g c =
    on_ok _ _ _ c.take_entry.ensures.ok (λ taken. taken_counts (string_bytes c.in_ok-path.path) c.args.folder.now.depth
    taken.0 c.args.self.now c.take_entry.new.self taken.1)
