-- The files of a set as they are named one after the other.
use Rattle.std.proofs.Common.{◌≡◌, ◌≢◌, ◌∙◌, sym, ap, ℕ, ◌+◌, ◌<◌, List, [], ◌∷◌, ◌++◌, length, get_or, get_or-take, length-take, take, slice_get, Some, map, refl, arith, All}
use Rattle.std.specs.Borrow.{Bor}
use Rattle.std.proofs.lemmas.List.{get_or-map, length-map, map_push, take_more}
use Rattle.std.proofs.lemmas.Option.{get_or_from_slice_get, slice_get-get_or, slice_get_within}
use Rattle.proto_compilation.specs.Compilation.{CompiledFile, file_bytes}
use Rattle.proto_sets.specs.SetSteps.{file_of, files_of}
use Rattle.proto_sets.specs.Sets.{HasName, IsNamedFile}
use Rattle.proto_sets.specs.declared.files.NamedBytes.{NamedBytes}

abbrev pub text_by : Bor (List ℕ) → List ℕ
text_by t = t.now

-- where some files have names, each of the texts has one that is a file's
pub named_text : (fs : List CompiledFile) (texts : List (List ℕ)) (n : ℕ) → map file_bytes fs ≡ take n texts
    → All IsNamedFile fs → (j : ℕ) (text : List ℕ) → j < n → slice_get texts j ≡ Some text
    → (name : List ℕ) × HasName text name × (name ≢ [])
named_text fs texts n bytes all j text less stands =
    let none : CompiledFile = record { name = []; bytes = [] } in
    let inside : j < length texts = slice_get_within texts j text stands in
    let below : j < length fs =
    omega (arith, ap length bytes, length-map fs file_bytes, length-take n texts, less, inside) in
    let file = get_or fs j none in
    let same : file.bytes ≡ text = sym (get_or-map file_bytes fs j none [] below)
    ∙ ap (λ (ts : List (List ℕ)). get_or ts j []) bytes ∙ get_or-take n texts j [] less
    ∙ get_or_from_slice_get texts j text [] stands in
    let named = all j none below in
    (file.name, rw same at named.has, named.named)

-- one more
pub named_more : (fs : List NamedBytes) (f : NamedBytes) (texts : List (Bor (List ℕ))) (k : ℕ) (d : Bor (List ℕ))
    → k < length texts → map file_bytes (files_of fs) ≡ take k (map text_by texts)
    → f.bytes.now ≡ (get_or texts k d).now
    → map file_bytes (files_of (fs ++ f ∷ [])) ≡ take (k + 1) (map text_by texts)
named_more fs f texts k d below so same =
    let size : k < length (map text_by texts) = omega (arith, below, length-map texts text_by) in
    rw (
      map_push file_of fs f,
      map_push file_bytes (files_of fs) (file_of f),
      so,
      same,
      take_more (map text_by texts) k (text_by d) size,
      get_or-map text_by texts k d (text_by d) below,
    ) refl

pub text_at : (texts : List (Bor (List ℕ))) (k : ℕ) (d : Bor (List ℕ)) → k < length texts
    → slice_get (map text_by texts) k ≡ Some (get_or texts k d).now
text_at texts k d below =
    let size : k < length (map text_by texts) = omega (arith, below, length-map texts text_by) in
    slice_get-get_or (map text_by texts) k (text_by d) size ∙ ap Some (get_or-map text_by texts k d (text_by d) below)
