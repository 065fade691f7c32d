use Rattle.proto_names.proofs.Common.{common_steps, ◌≡◌, ap, refl, ℕ, ◌+◌, ◌<◌, ◌≤◌, List, length, take, drop, inl, inr, arith, length-drop, length-take-le, cases_lt, get_or_append_left, get_or_push, length_push, Bits, has, columns_of, Occurrence, ArePackagesOf, HasPackagePut, IsPackageOf, occurrences_in, run_at}
use Rattle.proto_names.specs.declared.packages.PackageRun.{PackageRun}
use Rattle.proto_names.proofs.packages.Packages.among.Goals as goal
use Rattle.proto_names.proofs.packages.Packages.among.Goals.{then-len-gt-FEW+then-are_packages+in_ok-push, else-len-gt-FEW}

-- a package's row in a matrix with one row more
same_package : (os : List Occurrence) (old new : Bits) (k : ℕ) → old.rows ≤ new.rows → new.width ≡ old.width
    → ((c : ℕ) → c < columns_of old → has new k c ≡ has old k c) → IsPackageOf os old k → IsPackageOf os new k
same_package os old new k more width kept is = grind (arith, common_steps)

module _ (os : List Occurrence) (start len : ℕ) (runs new_runs : List PackageRun) (old new : Bits)
    (within : start + len ≤ length os)
    (are : ArePackagesOf os runs old) (put : HasPackagePut (take len (drop start os)) start runs old new_runs new) where
  each : (k : ℕ) → k < length new_runs → IsPackageOf (occurrences_in os (run_at new_runs k)) new k
  each k h = elim (cases_lt k (length runs)) [
    | inl before ↦ rw (put.longer, get_or_append_left runs _ _ k before)
        (same_package _ old new k (omega arith) put.width (λ c. put.kept k c (omega arith)) (are.each k before))
    | inr last ↦
        let size = ap length put.longer in
        let at : k ≡ length runs = omega (arith, size, length_push {X = PackageRun}) in
        let named = length-take-le len (drop start os) (omega (arith, length-drop start os)) in
        rw (at, put.longer, get_or_push runs _ _ (length runs) refl, named, ← are.rows) put.put
  ]

  packages_more : ArePackagesOf os new_runs new
  packages_more = record { rows = rw put.longer (omega (arith, length_push {X = PackageRun})); each = each }

pub loop-start-preserved : goal.loop-start-preserved
loop-start-preserved c =
    let os = c.args.names.now in
    let start = c.loop-start.start in
    let n = c.count_alike.result in
    let named : c.take-named.result ≡ take n (drop start os) = rw c.skip.ensures at c.take-named.ensures in
    let size = length-take-le n (drop start os) (omega (arith, c.count_alike.ensures.within, length-drop start os)) in
    let ends : start + c.len-start.result ≤ length os =
    omega (arith, c.count_alike.ensures.within, size, ap length named, c.len-start.ensures) in
    elim c.if-len-gt-FEW.branch [
      | then-len-gt-FEW+then-are_packages+in_ok-push w ↦
          let put = rw named at w.in_ok-push.ensures in
          rw w.packages-is (
            packages_more os start n _ _ _ _ c.count_alike.ensures.within c.loop-start.invariant.0 put,
            omega (arith, put.width, c.loop-start.invariant.1),
            ends,
          )
      | else-len-gt-FEW w ↦ rw w.packages-is (c.loop-start.invariant.0, c.loop-start.invariant.1, ends)
    ]
