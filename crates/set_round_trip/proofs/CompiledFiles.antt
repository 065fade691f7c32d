-- The files of compiled sources: each is that of a descriptor, and all are in the set's order. What the set is read as
-- has these files.
use Rattle.std.proofs.Common.{◌≡◌, ◌∙◌, sym, ℕ, ◌<◌, ◌↔◌, List, length, Contains, arith}
use Rattle.std.specs.List.{AllZip}
use Rattle.proto_base.specs.declared.limits.Limits.{Limits}
use Rattle.proto_compilation.specs.Compilation.{Compilation, CompiledFile, set_of}
use Rattle.proto_compile.proofs.Alike.{described_count}
use Rattle.proto_compile.proofs.Making.{sound}
use Rattle.proto_compile.proofs.OneTyping.{resolved_names}
use Rattle.proto_compile.specs.Compiled.{IsCompiled}
use Rattle.proto_compile.specs.declared.source.Source.{Source}
use Rattle.proto_links.proofs.Whole.{whole_of}
use Rattle.proto_sets.specs.Sets.{AreByName}
use Rattle.set_round_trip.proofs.SameFiles.{IsFileOf, files_of, same_files}

module _ (limits : Limits) (sources : List Source) (c : Compilation) (is : IsCompiled limits sources c) where
  pub files_are : AllZip IsFileOf c.files is.written.descs
  files_are =
      let w = is.written in files_of c.files w.descs (w.names ∙ sym (resolved_names w.resolved)) w.bytes

  pub every_file : (a : ℕ) → Contains c.links.set_order a ↔ (a < length c.files)
  every_file a =
      let r = is.written.resolved in
      let linked = r.analysed.linked in
      let count = described_count limits sources c is in
      let every = (whole_of r.descs c.links linked).every a in (
        λ has. omega (arith, every.0 has, linked.count, count),
        λ below. every.1 (omega (arith, below, linked.count, count)),
      )

  pub files_read : (reader : Limits) (read : List CompiledFile) → AreByName reader (set_of c.files c.links) read
      → c.files ≡ read
  files_read reader read by_name = same_files reader c.files is.written.descs files_are
      (sound limits sources c is).coherent.rises c.links every_file read by_name
