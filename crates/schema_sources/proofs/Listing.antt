-- Laws of sources that are read under the names of a folder.
use Rattle.std.proofs.Common.{◌≡◌, ◌∙◌, sym, ap, refl, subst, ℕ, ◌+◌, ◌<◌, All, Global, List, String, [], ◌∷◌, ◌++◌, arith, drop, get_or, inr, length, map, string_bytes, take, Ok, Err, Some, None, Contains, Option, take-append-drop}
use Rattle.std.specs.List.{AllZip}
use Rattle.std.proofs.lemmas.List.{drop_more, map-append}
use Rattle.std.proofs.lemmas.List.Elements.{All-contains, All-head, All-tail, Contains-get_or}
use Rattle.share_work.proofs.Giving.{all_of_gives}
use Rattle.share_work.specs.Shares.{GivesItems}
use Rattle.source_folder.specs.Folder.{NamedBytes, name_of, named_bytes, names_of}
use Rattle.source_folder.specs.declared.trouble.FolderTrouble.{FolderTrouble}
use Rattle.source_folder.specs.declared.folder.NamedText.{NamedText}
use Rattle.skipped_sources.specs.Options.{taken}
use Rattle.skipped_sources.specs.declared.options.CustomOptions.{CustomOptions}
use Rattle.schema_sources.specs.Reading.{AreTakenOf, IsFirstTrouble, IsReadUnder, Outcome}
use Rattle.schema_sources.specs.Texts.{AreNamesOf, KnownSources, bytes_of, taken_source}

-- ---- outcomes

-- one more without a trouble
pub well_more : (texts : List NamedText) (outcomes : List Outcome) (t : NamedText) (o : Outcome)
    → map Ok texts ≡ outcomes → o ≡ Ok t → map Ok (texts ++ t ∷ []) ≡ outcomes ++ o ∷ []
well_more texts outcomes t o so_far is =
    map-append Ok texts (t ∷ []) ∙ ap (λ (os : List Outcome). os ++ Ok t ∷ []) so_far
    ∙ ap (λ (p : Outcome). outcomes ++ p ∷ []) (sym is)

-- a trouble behind sources alone
pub trouble_behind : (outcomes : List Outcome) (k : ℕ) (texts : List NamedText) (o : Outcome) (trouble : FolderTrouble)
    → map Ok texts ≡ take k outcomes → k < length outcomes → o ≡ get_or outcomes k o → o ≡ Err trouble
    → IsFirstTrouble outcomes trouble
trouble_behind outcomes k texts o trouble before h at is =
    let rest = drop (k + 1) outcomes in
    let here : drop k outcomes ≡ Err trouble ∷ rest =
    drop_more outcomes k o h ∙ ap (λ (p : Outcome). p ∷ rest) (sym at ∙ is) in
    inr (
      texts,
      rest,
      sym (take-append-drop k outcomes) ∙ ap (λ (os : List Outcome). os ++ drop k outcomes) (sym before)
          ∙ ap (λ (os : List Outcome). map Ok texts ++ os) here,
    )

-- ---- the sources of a folder

abbrev pub Under : KnownSources → String Global → Outcome → Type 0
Under known name = IsReadUnder known (string_bytes name)

names_read : (known : KnownSources) (names : List (String Global)) (texts : List NamedText)
    → AllZip (Under known) names (map Ok texts) → names_of texts ≡ map string_bytes names
names_read known [] [] all = refl
names_read known [] (t ∷ texts) all = absurd all
names_read known (n ∷ names) [] all = absurd all
names_read known (n ∷ names) (t ∷ texts) all =
    ap (λ m. m ∷ names_of texts) all.0.0
    ∙ ap (λ (ms : List (List ℕ)). string_bytes n ∷ ms) (names_read known names texts all.1)

abbrev known_by : CustomOptions → List NamedBytes → KnownSources
known_by options all = record { texts = Some all; custom_options = options }

texts_read : (options : CustomOptions) (all rest : List NamedBytes) (names : List (String Global))
    (texts : List NamedText)
    → All (Contains all) rest → map string_bytes names ≡ map (λ (source : NamedBytes). source.0) rest
    → AllZip (Under (known_by options all)) names (map Ok texts)
    → map named_bytes texts ≡ map (taken_source options) rest
texts_read options all [] [] [] inside same zip = refl
texts_read options all [] [] (t ∷ texts) inside same zip = absurd zip
texts_read options all [] (n ∷ names) texts inside same zip = absurd (omega (arith, ap length same))
texts_read options all (s ∷ rest) [] texts inside same zip = absurd (omega (arith, ap length same))
texts_read options all (s ∷ rest) (n ∷ names) [] inside same zip = absurd zip
texts_read options all (s ∷ rest) (n ∷ names) (t ∷ texts) inside same zip =
    let head : string_bytes n ≡ s.0 = ap (λ (ns : List (List ℕ)). get_or ns 0 []) same in
    let name : name_of t ≡ s.0 = zip.0.0 ∙ head in
    let bytes : bytes_of t ≡ taken options s.1 = All-contains (λ (source : NamedBytes). source.0 ≡ string_bytes n
    → bytes_of t ≡ taken options source.1) all s zip.0.1 (All-head (Contains all) s rest inside) (sym head) in
    let pair : named_bytes t ≡ taken_source options s = ap (λ m. (m, bytes_of t)) name ∙ ap (λ b. (s.0, b)) bytes in
    let names_left = ap (λ (ns : List (List ℕ)). drop 1 ns) same in
    let rest_inside = All-tail (Contains all) s rest inside in
    ap (λ (p : NamedBytes). p ∷ map named_bytes texts) pair
    ∙ ap (λ (ps : List NamedBytes). taken_source options s ∷ ps)
    (texts_read options all rest names texts rest_inside names_left zip.1)

texts_where_known : (options : CustomOptions) (known : Option (List NamedBytes)) (names : List (String Global))
    (texts : List NamedText) → AreNamesOf (record { texts = known; custom_options = options }) names
    → AllZip (Under (record { texts = known; custom_options = options })) names (map Ok texts)
    → AreTakenOf (record { texts = known; custom_options = options }) texts
texts_where_known options None names texts same zip = tt
texts_where_known options (Some all) names texts same zip =
    texts_read options all all names texts (λ k d h. Contains-get_or all k d h) same zip

well : (known : KnownSources) (names : List (String Global)) (texts : List NamedText) (outcomes : List Outcome)
    → GivesItems (λ k. Under known) 0 names outcomes → outcomes ≡ map Ok texts
    → AllZip (Under known) names (map Ok texts)
well known names texts outcomes gives read =
    subst (AllZip (Under known) names) read (all_of_gives (Under known) 0 names outcomes gives)

pub are_texts : (known : KnownSources) (names : List (String Global)) (texts : List NamedText) (outcomes : List Outcome)
    → AreNamesOf known names → GivesItems (λ k. Under known) 0 names outcomes → outcomes ≡ map Ok texts
    → AreTakenOf known texts
are_texts known names texts outcomes same gives read =
    texts_where_known known.custom_options known.texts names texts same (well known names texts outcomes gives read)

pub same_names : (known : KnownSources) (names : List (String Global)) (texts : List NamedText)
    (outcomes : List Outcome) → GivesItems (λ k. Under known) 0 names outcomes → outcomes ≡ map Ok texts
    → names_of texts ≡ map string_bytes names
same_names known names texts outcomes gives read =
    names_read known names texts (well known names texts outcomes gives read)
