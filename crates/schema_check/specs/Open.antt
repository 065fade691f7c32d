-- Words of private contracts: a file that is open while its faults are told.
use Rattle.std.specs.Prelude.{◌≡◌, ℕ, List, Option, None, Some, bytes_eq}
use Rattle.std.specs.Borrow.{Bor}
use Rattle.std.specs.HashMap.{HashMap, get_by}
use Rattle.std.specs.declared.hash.BuildHasherDefault.{BuildHasherDefault}
use Rattle.std.specs.declared.hash.FoldHasher.{FoldHasher}
use Rattle.fault_report.specs.Tokens.{AreTokens}
use Rattle.fault_report.specs.declared.form.Form.{Form}
use Rattle.fault_report.specs.declared.form.Form.TheVariants.{Text, Gcc, Github, Json}
use Rattle.proto_base.specs.Limits.{limit_of}
use Rattle.proto_base.specs.declared.limits.Limit.TheVariants.{FileBytes}
use Rattle.proto_base.specs.declared.limits.Limits.{Limits}
use Rattle.proto_compile.specs.Sources.{text_of}
use Rattle.proto_compile.specs.declared.source.Source.{Source}
use Rattle.proto_tokens.specs.declared.token.Tokens.{Tokens}
use Rattle.schema_check.specs.declared.pages.OpenFile.{OpenFile}
use Rattle.schema_check.specs.declared.pages.Page.{Page}
use Rattle.schema_compile.specs.Placed.{source_named}
use Rattle.schema_sources.specs.Places.{folder_in}
use Rattle.schema_sources.specs.declared.places.Places.{Places}

abbrev pub Named : Type 0
Named = HashMap (Bor (List ℕ)) Source (BuildHasherDefault FoldHasher)

-- of each name it has the first source
abbrev pub FindsSources : List Source → Named → Type 0
FindsSources sources named = (name : List ℕ) → get_by (λ k. bytes_eq name k.now) named ≡ source_named sources name

-- the tokens of a text, where its rows are shown
abbrev pub HasTokens : Form → Limits → List ℕ → Option Tokens → Type 0
HasTokens Text limits text tokens = AreTokens (limit_of limits FileBytes) text tokens
HasTokens Gcc limits text tokens = Unit {0}
HasTokens Github limits text tokens = Unit {0}
HasTokens Json limits text tokens = Unit {0}

pub record IsPageOf (form : Form) (limits : Limits) (s : Source) (page : Page) : Type 0 where
  pub text : page.lines.text.now ≡ text_of s
  pub tokens : HasTokens form limits (text_of s) page.tokens

abbrev pub IsPageIf : Form → Limits → Option Source → Option Page → Type 0
IsPageIf form limits None None = Unit {0}
IsPageIf form limits (Some s) (Some page) = IsPageOf form limits s page
IsPageIf form limits s page = ⊥

-- the file of this name, as it is open
pub record IsOpen (form : Form) (limits : Limits) (places : Places) (sources : List Source) (name : List ℕ)
    (file : OpenFile) : Type 0 where
  pub name_is : file.name.now ≡ name
  pub folder_is : file.folder.now ≡ folder_in places name
  pub page_is : IsPageIf form limits (source_named sources name) file.page
