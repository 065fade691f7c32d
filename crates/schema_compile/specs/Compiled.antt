-- What texts that were read are compiled to.
use Rattle.std.specs.Prelude.{List}
use Rattle.proto_base.specs.declared.limits.Limits.{Limits}
use Rattle.proto_compilation.specs.Compilation.{Compilation}
use Rattle.proto_compile.specs.Compiled.{IsCompiled}
use Rattle.proto_compile.specs.declared.source.Source.{Source}
use Rattle.schema_compile.specs.Sources.{AreSourcesOf}
use Rattle.schema_sources.specs.Texts.{AreTextsOf, KnownSources}
use Rattle.source_folder.specs.declared.folder.NamedText.{NamedText}

-- sources of these texts are compiled to this
abbrev pub AreCompiledTo : Limits → List NamedText → Compilation → Type 0
AreCompiledTo limits texts c = (sources : List Source) × AreSourcesOf texts sources × IsCompiled limits sources c

abbrev pub IsCompiledTo : Limits → KnownSources → Compilation → Type 0
IsCompiledTo limits known c = (texts : List NamedText) × AreTextsOf limits known texts × AreCompiledTo limits texts c
