-- The texts of a folder that compiles stay where custom options are skipped, and lose no import.
use Rattle.std.proofs.Common.{◌≡◌, ℕ, zero, suc, ◌<◌, Bool, true, false, ◌||◌, cond, List, [], ◌∷◌, ◌++◌, map, flat_map, length, Contains, Some, get_or, refl, sym, ap, ◌∙◌, arith, bytes_eq, subst, IsPermutation}
use Rattle.std.proofs.lemmas.Bool.{both_ways}
use Rattle.std.proofs.lemmas.List.{get_or-map, get_or_default, length-map}
use Rattle.std.proofs.lemmas.List.Sorted.{Contains-permutation, IsPermutation-map, IsPermutation-sym}
use Rattle.std.proofs.lemmas.Slice.Eq.{bytes_eq-Decides}
use Rattle.std.specs.List.{AllByRecursion, AllZip}
use Rattle.proto_base.specs.Sets.{StandsAt}
use Rattle.proto_base.specs.declared.kind.Kind.TheVariants as kind
use Rattle.proto_base.specs.declared.limits.Limits.{Limits}
use Rattle.proto_compilation.specs.Compilation.{Compilation}
use Rattle.proto_compile.proofs.OneTyping.{same_names}
use Rattle.proto_compile.specs.Compiled.{IsCompiled}
use Rattle.proto_compile.specs.Descriptions.{Describe, SourceDescribes}
use Rattle.proto_compile.specs.Sources.{name_of, text_of}
use Rattle.proto_compile.specs.declared.source.Source.{Source}
use Rattle.proto_desc.specs.declared.file.FileDesc.{FileDesc}
use Rattle.proto_desc.specs.declared.file.ImportDescriptor.{ImportDescriptor}
use Rattle.proto_file.proofs.PlacesWithin.{each_map}
use Rattle.proto_file.specs.Local.{IsFile}
use Rattle.proto_links.specs.Imports.{IsNamed, NoneBad, imports_at, imports_of, missing, name_at}
use Rattle.proto_links.specs.Imports as imports
use Rattle.proto_lower.specs.Files.{import_of}
use Rattle.proto_syntax.proofs.Faults.{only_tree}
use Rattle.proto_syntax.proofs.SameFiles.{same_file}
use Rattle.proto_syntax.specs.Grammar.{among, flatten}
use Rattle.proto_syntax.specs.Trees.{file_tree, import_tree}
use Rattle.proto_tokens.proofs.Unique.{tokens_one}
use Rattle.proto_tokens.specs.Token.{Spelled}
use Rattle.proto_tree.specs.Text.{joined}
use Rattle.proto_tree.specs.declared.file.FileTree.{FileTree}
use Rattle.proto_tree.specs.declared.file.Statement.{Statement}
use Rattle.proto_tree.specs.declared.file.Statement.TheVariants as statement
use Rattle.schema_sources.specs.Texts.{AreTextsBy, taken_source}
use Rattle.skipped_sources.specs.Lost.{AreWithoutLost, IsWithoutLost, Loses, a_file, no_file, lost_of}
use Rattle.skipped_sources.specs.declared.options.CustomOptions.TheVariants.{Skip}
use Rattle.source_folder.specs.Folder.{NamedBytes, named_bytes}
use Rattle.source_folder.specs.declared.folder.NamedText.{NamedText}
use Rattle.source_search.specs.Wanted.{name_in}
use Rattle.source_skip.proofs.Blanks.{without_none}
use Rattle.source_skip.specs.Skipped.{skipped, without}
use Rattle.skipping_laws.proofs.Files.{file_stays}
use Rattle.skipping_laws.specs.Listed.{source_bytes}

-- ---- a text is one file

one_file : (limits : Limits) (text : List ℕ) (f g : FileTree) → IsFile limits text f → IsFile limits text g → f ≡ g
one_file limits text f g (ts, is, tree) (us, is', tree') =
    let other = rw (tokens_one _ text us ts is' is) at tree' in
    same_file f g (only_tree _ ts (file_tree f) (file_tree g) tree other)

-- ---- names of a list

or_right : (p q : Bool) → q ≡ true → (p || q) ≡ true
or_right true q h = refl
or_right false q h = h

among_at : (name : List ℕ) (names : List (List ℕ)) (k : ℕ) → StandsAt names k name → among name names ≡ true
among_at name [] k at = absurd (omega (arith, at.0))
among_at name (n ∷ names) zero at = rw ((bytes_eq-Decides name n).1 (sym at.1)) refl
among_at name (n ∷ names) (suc k) at =
    or_right (bytes_eq name n) (among name names) (among_at name names k (omega (arith, at.0), at.1))

-- ---- imports are kept

abbrev Keeps : List (List ℕ) → List Statement → Type 0
Keeps names ss = flat_map (lost_of names) ss ≡ []

-- each path is a name
abbrev IsKept : List (List ℕ) → ImportDescriptor → Type 0
IsKept names i = among i.path names ≡ true

kept_none : (b : Bool) (ts us : List Spelled) → b ≡ true → us ≡ [] → cond b [] ts ++ us ≡ []
kept_none true ts us h k = k
kept_none false ts us h k = cc

keeps : (names : List (List ℕ)) (ss : List Statement) → AllByRecursion (IsKept names) (flat_map import_of ss)
    → Keeps names ss
keeps names [] all = refl
keeps names (statement.Import i ∷ ss) all = kept_none (among (joined i.path) names) (flatten (import_tree i))
    (flat_map (lost_of names) ss) all.0 (keeps names ss all.1)
keeps names (statement.Package p ∷ ss) all = keeps names ss all
keeps names (statement.Option o ∷ ss) all = keeps names ss all
keeps names (statement.Message m ∷ ss) all = keeps names ss all
keeps names (statement.Enum e ∷ ss) all = keeps names ss all
keeps names (statement.Service s ∷ ss) all = keeps names ss all
keeps names (statement.Empty s ∷ ss) all = keeps names ss all

all_of : {X : Type 0} (P : X → Type 0) (xs : List X) → ((x : X) → Contains xs x → P x) → AllByRecursion P xs
all_of P [] h = tt
all_of P (x ∷ xs) h =
    (h x (0, omega arith, refl), all_of P xs (λ y (k, below, at). h y (suc k, omega (arith, below), at)))

true_unless : (b : Bool) → (b ≡ false → ⊥) → b ≡ true
true_unless true h = refl
true_unless false h = absurd (h refl)

-- of files of which no import is bad, each is of a file's name
AreNames : List FileDesc → List (List ℕ) → Type 0
AreNames files names = (b : ℕ) → b < length files → among (name_at files b) names ≡ true

imports_here : (files : List FileDesc) (a : ℕ) (desc : FileDesc) → StandsAt files a desc
    → desc.imports ≡ imports_at files a
imports_here files a desc at = sym (get_or-map imports_of files a desc [] at.0 ∙ ap imports_of at.1)

contained_along : {X : Type 0} (xs ys : List X) (x : X) → xs ≡ ys → Contains xs x → Contains ys x
contained_along xs ys x e has = subst (λ zs. Contains zs x) e has

no_name : (name path : List ℕ) (names : List (List ℕ)) → name ≡ path → among name names ≡ true
    → among path names ≡ false → ⊥
no_name name path names e on off = both_ways (among path names) off (ap (λ n. among n names) (sym e) ∙ on)

imports_kept : (files : List FileDesc) (names : List (List ℕ)) → NoneBad files → AreNames files names
    → (a : ℕ) (desc : FileDesc) → StandsAt files a desc → AllByRecursion (IsKept names) desc.imports
unfolding AreNames
imports_kept files names none are a desc at = all_of (IsKept names) desc.imports
    (λ i has. true_unless (among i.path names) (λ off. none a i.place kind.ImportMissing (
      i,
      contained_along _ _ i (imports_here files a desc at) has,
      refl,
      missing (λ b named. no_name (name_at files b) i.path names named.1 (are b named.0) off),
    )))

-- ---- a source

record Stays (limits : Limits) (names : List (List ℕ)) (source : NamedBytes) : Type 0 where
  text : skipped source.1 ≡ source.1
  imports : (gone : List Spelled) → Loses limits names source.1 gone → gone ≡ []

lost_none : (limits : Limits) (names : List (List ℕ)) (text : List ℕ) (file : FileTree) → IsFile limits text file
    → Keeps names file.statements → (gone : List Spelled) → Loses limits names text gone → gone ≡ []
lost_none limits names text file is keeps _ (a_file g also) =
    subst (λ f. Keeps names f.statements) (one_file limits text file g is also) keeps
lost_none limits names text file is keeps _ (no_file none) = refl

described_stays : (limits : Limits) (names : List (List ℕ)) (s : Source) (desc : FileDesc)
    → SourceDescribes limits s desc → AllByRecursion (IsKept names) desc.imports
    → Stays limits names (source_bytes s)
described_stays limits names s desc (file, is, unbroken, same) kept = record {
  text = file_stays limits (name_of s) (text_of s) desc (file, is, unbroken, same);
  imports = lost_none limits names (text_of s) file is (keeps names file.statements
      (subst (λ d. AllByRecursion (IsKept names) d.imports) same kept));
}

zipped : {X Y : Type 0} (R : X → Y → Type 0) (xs : List X) (ys : List Y) (k : ℕ) (x : X) → AllZip R xs ys
    → StandsAt xs k x → (y : Y) × R x y × StandsAt ys k y
zipped R [] ys k x all at = absurd (omega (arith, at.0))
zipped R (a ∷ xs) [] k x all at = absurd all
zipped R (a ∷ xs) (b ∷ ys) zero x all at = (b, rw (← at.1) all.0, (omega arith, refl))
zipped R (a ∷ xs) (b ∷ ys) (suc k) x all at =
    let (y, is, stands) = zipped R xs ys k x all.1 (omega (arith, at.0), at.1) in
    (y, is, (omega (arith, stands.0), stands.1))

-- ---- all sources

name_stands : (xs ys : List (List ℕ)) (b n : ℕ) → xs ≡ ys → length xs ≡ n → b < n
    → Contains ys (get_or xs b [])
name_stands xs ys b n same len below = subst (λ zs. Contains zs (get_or xs b [])) same
    (b, omega (arith, len, below), get_or_default xs b (get_or xs b []) [] (omega (arith, len, below)))

name_among : (xs ys zs : List (List ℕ)) (b n : ℕ) → xs ≡ ys → length xs ≡ n → IsPermutation ys zs → b < n
    → among (get_or xs b []) zs ≡ true
name_among xs ys zs b n same len order below =
    let (k, inside, at) = Contains-permutation ys zs (get_or xs b []) order (name_stands xs ys b n same len below) in
    among_at (get_or xs b []) zs k (inside, at)

module _ (limits : Limits) (sources files : List Source) (descs : List FileDesc)
    (d : Describe limits sources files descs) (none : NoneBad descs) where
  named : AreNames descs (map name_of sources)
  unfolding AreNames
  named b below = name_among (map imports.name_of descs) (map name_of files) (map name_of sources) b (length descs)
      (same_names limits files descs d.each) (length-map descs imports.name_of)
      (IsPermutation-map name_of files sources (IsPermutation-sym sources files d.by_name.all)) below

  each_stays : (s : Source) → Contains sources s → Stays limits (map name_of sources) (source_bytes s)
  each_stays s inside =
      let (b, below, at) = Contains-permutation sources files s d.by_name.all inside in
      let (desc, is, stands) = zipped (SourceDescribes limits) files descs b s d.each (below, at) in
      described_stays limits (map name_of sources) s desc is
      (imports_kept descs (map name_of sources) none named b desc stands)

  all_stay : AllByRecursion (Stays limits (map name_of sources)) (map source_bytes sources)
  all_stay = each_map (Stays limits (map name_of sources)) source_bytes sources
      (all_of (λ s. Stays limits (map name_of sources) (source_bytes s)) sources each_stays)

-- ---- texts

taken_stay : (limits : Limits) (names : List (List ℕ)) (listed : List NamedBytes)
    → AllByRecursion (Stays limits names) listed → map (taken_source Skip) listed ≡ listed
taken_stay limits names [] all = refl
taken_stay limits names (n ∷ listed) all =
    let rest = taken_stay limits names listed all.1 in λ i. (n.0, all.0.text i) ∷ rest i

text_same : (old now : List ℕ) (gone : List Spelled) → now ≡ without 0 gone old → gone ≡ [] → now ≡ old
text_same old now gone e h = e ∙ rw h (without_none 0 old)

texts_stay : (limits : Limits) (names : List (List ℕ)) (old now : List NamedBytes)
    → AllByRecursion (Stays limits names) old
    → AllZip (λ old now. (now.0 ≡ old.0) × IsWithoutLost limits names old.1 now.1) old now → now ≡ old
texts_stay limits names [] [] all zip = refl
texts_stay limits names [] (n ∷ now) all zip = absurd zip
texts_stay limits names (o ∷ old) [] all zip = absurd zip
texts_stay limits names (o ∷ old) (n ∷ now) all zip =
    let (name, (gone, loses, same)) = zip.0 in
    let text : n.1 ≡ o.1 = text_same o.1 n.1 gone same (all.0.imports gone loses) in
    let rest = texts_stay limits names old now all.1 zip.1 in
    λ i. (name i, text i) ∷ rest i

listed_stay : (limits : Limits) (names : List (List ℕ)) (listed now whole : List NamedBytes)
    → AllByRecursion (Stays limits names) listed → map name_in listed ≡ names → whole ≡ map (taken_source Skip) listed
    → AreWithoutLost limits whole now → now ≡ listed
listed_stay limits names listed now whole all names_are taken without =
    let same : whole ≡ listed = taken ∙ taken_stay limits names listed all in
    let is : AreWithoutLost limits listed now = subst (λ xs. AreWithoutLost limits xs now) same without in
    texts_stay limits (map name_in listed) listed now
    (subst (λ ns. AllByRecursion (Stays limits ns) listed) (sym names_are) all) is

names_same : (sources : List Source) → map name_in (map source_bytes sources) ≡ map name_of sources
names_same [] = refl
names_same (s ∷ sources) = ap (λ names. name_of s ∷ names) (names_same sources)

pub sources_stay : (limits : Limits) (listed : List NamedBytes) (sources : List Source) (c : Compilation)
    → map source_bytes sources ≡ listed → IsCompiled limits sources c → (texts : List NamedText)
    → AreTextsBy limits Skip (Some listed) texts → map named_bytes texts ≡ listed
sources_stay limits listed sources c same compiled texts (whole, taken, without) =
    let r = compiled.written.resolved in
    listed_stay limits (map name_of sources) listed (map named_bytes texts) whole
    (subst (AllByRecursion (Stays limits (map name_of sources))) same
    (all_stay limits sources compiled.written.sorted r.descs r.analysed.described r.analysed.linked.whole))
    (ap (map name_in) (sym same) ∙ names_same sources) taken without
