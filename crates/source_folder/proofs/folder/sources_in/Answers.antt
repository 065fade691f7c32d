use Rattle.std.proofs.Common.{◌≡◌, ◌≤◌, Global, Vec, All, IsTrue, arith, map, string_bytes, subst, sym, vec_len}
use Rattle.std.proofs.lemmas.Result.{IfOk-weaker}
use Rattle.source_folder.specs.Folder.{name_of, names_of}
use Rattle.source_folder.specs.Paths.{ends_in_proto}
use Rattle.proto_base.specs.NameOrder.{NamesRise}
use Rattle.source_folder.specs.declared.folder.NamedText.{NamedText}
use Rattle.source_folder.proofs.Named.{as_many, proto_texts}
use Rattle.source_folder.proofs.folder.sources_in.Goals as goal

pub returns-clause-order : goal.returns-clause-order
returns-clause-order g c =
    let names = c.in_ok-names.names.items in
    IfOk-weaker c.read_sources.result (λ (texts : Vec NamedText Global). names_of texts.items ≡ map string_bytes names)
    (λ texts. NamesRise (names_of texts.items))
    (λ texts same. subst NamesRise (sym same) c.in_ok-names.ensures.order) c.read_sources.ensures.names

pub returns-clause-proto : goal.returns-clause-proto
returns-clause-proto g c =
    let names = c.in_ok-names.names.items in
    IfOk-weaker c.read_sources.result (λ (texts : Vec NamedText Global). names_of texts.items ≡ map string_bytes names)
    (λ texts. All (λ t. IsTrue (ends_in_proto (name_of t))) texts.items)
    (λ texts same. proto_texts texts.items names same c.in_ok-names.ensures.proto) c.read_sources.ensures.names

pub returns-clause-few : goal.returns-clause-few
returns-clause-few g c =
    let names = c.in_ok-names.names in
    let few : vec_len names ≤ 1048576 = c.in_ok-names.ensures.few in
    IfOk-weaker c.read_sources.result
    (λ (texts : Vec NamedText Global). names_of texts.items ≡ map string_bytes names.items)
    (λ texts. vec_len texts ≤ 1048576)
    (λ texts same. omega (arith, as_many name_of string_bytes texts names same, few)) c.read_sources.ensures.names
