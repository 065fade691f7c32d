-- Where the set of sources is read, each source has a name.
use Rattle.std.proofs.Common.{◌≡◌, sym, ap, subst, List, [], ◌∷◌, length, map, All, arith}
use Rattle.std.proofs.lemmas.List.Elements.{All-cons, All-head, All-nil, All-tail}
use Rattle.std.proofs.lemmas.List.Sorted.{All-permutation, IsPermutation-sym}
use Rattle.proto_base.specs.declared.limits.Limits.{Limits}
use Rattle.proto_compilation.specs.Compilation.{Compilation, CompiledFile, file_name, set_of}
use Rattle.proto_compile.specs.Compiled.{IsCompiled}
use Rattle.proto_compile.specs.Sources.{name_of}
use Rattle.proto_compile.specs.declared.source.Source.{Source}
use Rattle.proto_sets.specs.Sets.{IsNamedFile, IsOfSet}
use Rattle.set_round_trip.specs.Fits.{IsName}
use Rattle.set_round_trip.specs.Readable.{HasName}
use Rattle.set_round_trip.proofs.CompiledFiles.{files_read}

named_file : (f : CompiledFile) (s : Source) → f.name ≡ name_of s → IsNamedFile f → HasName s
named_file f s same is = subst IsName same (record { some = is.named; utf8 = is.has.utf8 })

named_each : (files : List CompiledFile) (sources : List Source) → map file_name files ≡ map name_of sources
    → All IsNamedFile files → All HasName sources
named_each [] [] names all = All-nil HasName
named_each (f ∷ files) (s ∷ sources) names all =
    let name : f.name ≡ name_of s = cc in
    let others : map file_name files ≡ map name_of sources = cc in
    All-cons HasName s sources (named_file f s name (All-head IsNamedFile f files all))
    (named_each files sources others (All-tail IsNamedFile f files all))
named_each files sources names all = let n = ap length names in absurd (omega (arith, n))

pub read_named : (limits reader : Limits) (sources : List Source) (c d : Compilation) → IsCompiled limits sources c
    → IsOfSet reader (set_of c.files c.links) d → All HasName sources
read_named limits reader sources c d first second =
    let w = first.written in
    let by_name = second.says.by_name in
    let same = files_read limits sources c first reader d.files by_name in
    let named = All-permutation IsNamedFile by_name.placed d.files by_name.all by_name.are.each in
    let sorted = named_each c.files w.sorted w.names (subst (λ fs. All IsNamedFile fs) (sym same) named) in
    All-permutation HasName w.sorted sources
    (IsPermutation-sym sources w.sorted w.resolved.analysed.described.by_name.all) sorted
