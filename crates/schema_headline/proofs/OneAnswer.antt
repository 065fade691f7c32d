-- Sources have one set, a source one descriptor, and a body one response.
use Rattle.std.proofs.Common.{◌≡◌, ◌∙◌, sym, ap, ℕ, List, [], ◌∷◌, arith, flat_map}
use Rattle.first_reach.specs.declared.mode.Mode.{Mode}
use Rattle.proto_base.specs.declared.limits.Limits.{Limits}
use Rattle.proto_compilation.specs.Compilation.{Compilation, CompiledFile, bytes_at}
use Rattle.proto_compile.specs.Compiled.{IsCompiled}
use Rattle.proto_compile.specs.declared.source.Source.{Source}
use Rattle.proto_compile.proofs.OneCompilation.{one_compilation}
use Rattle.proto_compile.proofs.Alike.{alike}
use Rattle.proto_compile.proofs.Making.{sound}
use Rattle.reflect_core.proofs.OneResponse.{one_response}
use Rattle.schema_headline.specs.Describe.{IsDescribedBy}
use Rattle.schema_headline.specs.Headline.{IsResponseOf, IsSetOf}
use Rattle.schema_headline.proofs.Describing.{only_file}
use Rattle.wire_format.specs.Field.{bytes_field}

pub one_descriptor : (limits : Limits) (s : Source) (a b : List ℕ) → IsDescribedBy limits s a
    → IsDescribedBy limits s b → a ≡ b
one_descriptor limits s a b (c, is, i, named, at) (d, is', j, named', at') =
    let same = (one_compilation limits (s ∷ []) c d is is').0 in
    let one = only_file limits s c is in
    let one' = only_file limits s d is' in
    let position : i ≡ j = omega (arith, named.0, named'.0, one, one') in
    at ∙ ap (bytes_at c.files) position ∙ ap (λ (files : List CompiledFile). bytes_at files j) same ∙ sym at'

pub one_set : (limits : Limits) (sources : List Source) (a b : List ℕ) → IsSetOf limits sources a
    → IsSetOf limits sources b → a ≡ b
one_set limits sources a b (c, is, at) (d, is', at') =
    let same = one_compilation limits sources c d is is' in
    at ∙ (λ i. flat_map (λ f. bytes_field 1 (bytes_at (same.0 i) f)) (same.1 i)) ∙ sym at'

pub one_response_of : (mode : Mode) (limits : Limits) (sources : List Source) (body a b : List ℕ)
    → IsResponseOf mode limits sources body a
    → IsResponseOf mode limits sources body b → a ≡ b
one_response_of mode limits sources body a b (c, is, at) (d, is', at') =
    one_response c d (sound limits sources c is) (alike limits sources c d is is') mode body a b at at'

-- what is given is of sources that are compiled
pub described_from : (limits : Limits) (s : Source) (a : List ℕ) → IsDescribedBy limits s a
    → (c : Compilation) × IsCompiled limits (s ∷ []) c
described_from limits s a w = (w.0, w.1)

pub set_from : (limits : Limits) (sources : List Source) (a : List ℕ) → IsSetOf limits sources a
    → (c : Compilation) × IsCompiled limits sources c
set_from limits sources a w = (w.0, w.1)

pub response_from : (mode : Mode) (limits : Limits) (sources : List Source) (body a : List ℕ)
    → IsResponseOf mode limits sources body a
    → (c : Compilation) × IsCompiled limits sources c
response_from mode limits sources body a w = (w.0, w.1)
