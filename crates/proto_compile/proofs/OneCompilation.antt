-- Sources are compiled to one list of files, in one set order.
use Rattle.proto_compile.proofs.Common.{◌≡◌, List, [], ◌∷◌, length, map, ap, refl, arith, Limits, Compilation, CompiledFile, IsCompiled, IsWritten, file_bytes, file_name, set_of, Source}
use Rattle.proto_links.proofs.Unique.{one_set_order}
use Rattle.proto_compile.proofs.OneTyping.{one_analysed, one_resolved}

one_file : (f g : CompiledFile) → file_name f ≡ file_name g → file_bytes f ≡ file_bytes g → f ≡ g
one_file f g name bytes = λ i. record { name = name i; bytes = bytes i }

one_list : (fs gs : List CompiledFile) → map file_name fs ≡ map file_name gs → map file_bytes fs ≡ map file_bytes gs
    → fs ≡ gs
one_list [] [] names bytes = refl
one_list (f ∷ fs) (g ∷ gs) names bytes = grind (arith, one_file, one_list fs gs (cc) (cc))
one_list fs gs names bytes = let n = ap length names in absurd (omega (arith, n))

module _ {limits : Limits} {sources : List Source} {c d : Compilation} where
  pub one_written : IsWritten limits sources c → IsWritten limits sources d
      → (c.files ≡ d.files) × (c.links.set_order ≡ d.links.set_order)
  one_written first second =
      let r = first.resolved in
      let same = one_resolved r second.resolved in
      let also = one_analysed r.analysed second.resolved.analysed in (
        one_list c.files d.files (cc (same.0, first.names, second.names)) (cc (same.1, first.bytes, second.bytes)),
        one_set_order r.descs c.links d.links r.analysed.linked also.2.linked,
      )

  -- and one set
  pub one_set : IsWritten limits sources c → IsWritten limits sources d
      → set_of c.files c.links ≡ set_of d.files d.links
  one_set first second = let same = one_written first second in rw (same.0, same.1) refl

pub one_compilation : (limits : Limits) (sources : List Source) (c d : Compilation) → IsCompiled limits sources c
    → IsCompiled limits sources d → (c.files ≡ d.files) × (c.links.set_order ≡ d.links.set_order)
one_compilation limits sources c d first second = one_written first.written second.written
