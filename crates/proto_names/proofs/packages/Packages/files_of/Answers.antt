use Rattle.proto_names.proofs.Common.{◌≡◌, ◌∙◌, sym, ap, rules, nat_cmp, get_or_default, exact_unsigned, run_at}
use Rattle.std.proofs.lemmas.Fn.{always_returns_same}
use Rattle.proto_names.specs.declared.packages.PackageRun.{PackageRun}
use Rattle.proto_names.proofs.packages.Packages.files_of.Goals as goal

pub returns-in-Ok : goal.returns-in-Ok
returns-in-Ok c os are =
    let runs = c.args.self.now.runs.items in
    let row = c.in-Ok.row in
    let found =
    rw c.in-Ok.is at (c.binary_search_by-found.ensures.position (λ (run : PackageRun). nat_cmp run.start c.args.start)
    (always_returns_same _ _ _ (λ a r g called. search rules))) in
    let inside = rw c.deref.ensures.value at c.in-Ok.ensures.bound in
    let first : PackageRun = record { start = 0; len = 0 } in
    let at = c.index.ensures ∙ get_or_default runs row c.index.result.now first inside in
    let start : (run_at runs row).start ≡ c.args.start =
    exact_unsigned _ _ (rw c.deref.ensures.value at (found first)) in
    let len : (run_at runs row).len ≡ c.args.len = sym (ap (λ (run : PackageRun). run.len) at) ∙ c.if-index-len.true in
    rw (start, len) at (are.each row inside)
