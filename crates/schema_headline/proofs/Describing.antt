-- One source by itself.
use Rattle.std.proofs.Common.{◌≡◌, ◌∙◌, sym, ap, refl, ℕ, zero, suc, ◌<◌, List, [], ◌∷◌, map, length, get_or, arith, Contains, IsPermutation}
use Rattle.std.proofs.lemmas.List.{length-map}
use Rattle.std.proofs.lemmas.List.Sorted.{Contains-permutation, length_permutation}
use Rattle.proto_links.specs.Linked.{count_of}
use Rattle.proto_base.specs.declared.limits.Limits.{Limits}
use Rattle.proto_compilation.specs.Compilation.{Compilation, IsNamed, bytes_at, file_name}
use Rattle.proto_compile.specs.Compiled.{IsCompiled}
use Rattle.proto_compile.specs.Sources.{name_of}
use Rattle.proto_compile.specs.declared.source.Source.{Source}
use Rattle.proto_compile.proofs.Making.{counts}
use Rattle.schema_headline.specs.Describe.{IsDescribedBy}

only_one : (x s : Source) → Contains (x ∷ []) s → x ≡ s
only_one x s (zero, below, is) = is
only_one x s (suc k, below, is) = absurd (omega (arith, below))

-- one source has one order
only_source : (s : Source) (sorted : List Source) → IsPermutation (s ∷ []) sorted → sorted ≡ s ∷ []
only_source s [] same = absurd (omega (arith, length_permutation (s ∷ []) [] same))
only_source s (x ∷ []) same = ap (λ y. y ∷ [])
    (only_one x s (Contains-permutation (s ∷ []) (x ∷ []) s same (0, omega arith, refl)))
only_source s (x ∷ y ∷ rest) same = absurd (omega (arith, length_permutation (s ∷ []) (x ∷ y ∷ rest) same))

one_name : (limits : Limits) (s : Source) (c : Compilation) → IsCompiled limits (s ∷ []) c
    → map file_name c.files ≡ name_of s ∷ []
one_name limits s c is = is.written.names
    ∙ ap (map name_of) (only_source s is.written.sorted is.written.resolved.analysed.described.by_name.all)

-- there is one file
pub only_file : (limits : Limits) (s : Source) (c : Compilation) → IsCompiled limits (s ∷ []) c → length c.files ≡ 1
only_file limits s c is = sym (length-map c.files file_name) ∙ ap length (one_name limits s c is)

-- which has the source's name
pub first_file : (limits : Limits) (s : Source) (c : Compilation) → IsCompiled limits (s ∷ []) c
    → IsNamed c.files (name_of s) 0
first_file limits s c is = (
  let one = only_file limits s c is in
      omega (arith, one),
  ap (λ (ns : List (List ℕ)). get_or ns 0 []) (one_name limits s c is),
)

pub is_linked : (limits : Limits) (s : Source) (c : Compilation) → IsCompiled limits (s ∷ []) c → 0 < count_of c.links
is_linked limits s c is =
    let w = is.written in
    let counted = counts limits (s ∷ []) w.sorted w.descs c.links c.index c.files w.resolved w.names in
    let named = first_file limits s c is in
    omega (arith, counted.0, named.0)

pub described : (limits : Limits) (s : Source) (c : Compilation) (bytes : List ℕ) → IsCompiled limits (s ∷ []) c
    → bytes ≡ bytes_at c.files 0
    → IsDescribedBy limits s bytes
described limits s c bytes is at = (c, is, 0, first_file limits s c is, at)
