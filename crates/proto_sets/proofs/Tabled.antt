-- The table of files, one after the other.
use Rattle.std.proofs.Common.{◌≡◌, ◌∙◌, sym, ap, ℕ, ◌+◌, ◌<◌, List, [], ◌∷◌, ◌++◌, length, length-take, get_or, get_or-take, map, take, arith, refl}
use Rattle.std.proofs.lemmas.List.{get_or-map, length-map, take_more}
use Rattle.proto_base.specs.NameOrder.{NamesRise}
use Rattle.proto_compilation.specs.Compilation.{CompiledFile, IsNamed, file_name}
use Rattle.proto_links.proofs.NameRows.{names_differ}
use Rattle.proto_sets.specs.SetSteps.{file_of, files_of}
use Rattle.proto_sets.specs.declared.files.NamedBytes.{NamedBytes}
use Rattle.proto_sets.proofs.Sorting.{name_by, name_is}

-- none of those before a file has its name
pub named_differs : (items : List NamedBytes) (k : ℕ) (d : NamedBytes) → NamesRise (map file_name (files_of items))
    → k < length items → (a : ℕ) → IsNamed (take k (files_of items)) (get_or items k d).name.now a → ⊥
named_differs items k d rises below a (inside, same) =
    let files = files_of items in
    let none = file_of d in
    let size : k < length files = omega (arith, below, length-map items file_of) in
    let less : a < k = omega (arith, inside, length-take k files, size) in
    let here = name_by file_of items k d below in
    let there = name_is files a none (omega (arith, less, size)) ∙ ap file_name (sym (get_or-take k files a none less))
    ∙ sym (name_is (take k files) a none inside) in
    names_differ (map file_name files) rises a k less (omega (arith, size, length-map files file_name))
    (there ∙ same ∙ sym here)

pub table_more : (items : List NamedBytes) (k : ℕ) (d : NamedBytes) (table : List CompiledFile) → k < length items
    → table ≡ take k (files_of items) → table ++ file_of (get_or items k d) ∷ [] ≡ take (k + 1) (files_of items)
table_more items k d table below so =
    let files = files_of items in
    let size : k < length files = omega (arith, below, length-map items file_of) in
    rw (so, take_more files k (file_of d) size, get_or-map file_of items k d (file_of d) below) refl
