-- Files that are open while their faults are told.
use Rattle.std.proofs.Common.{◌≡◌, ◌∙◌, sym, refl, ℕ, ◌+◌, ◌<◌, ◌≤◌, zero, suc, Bool, true, false, cond, List, [], ◌∷◌, ◌++◌, Option, Some, None, Result, Ok, Err, IfOk, Contains, ap, subst, arith, get_or, length, string_bytes, take}
use Rattle.std.specs.Prelude.{IfSome, bytes_eq, codes}
use Rattle.std.specs.Fmt.{decimal}
use Rattle.std.specs.HashMap.{get_by}
use Rattle.std.specs.Option.{is_some, option_or}
use Rattle.std.proofs.lemmas.List.{take_more}
use Rattle.std.proofs.lemmas.List.Folds.{find-append}
use Rattle.std.proofs.lemmas.Slice.Eq.{bytes_eq-Decides}
use Rattle.fault_report.specs.Excerpts.{IsExcerpt}
use Rattle.fault_report.specs.Tokens.{AreTokens}
use Rattle.fault_report.specs.declared.excerpt.Excerpt.{Excerpt}
use Rattle.fault_report.specs.declared.form.Form.{Form}
use Rattle.fault_report.specs.declared.form.Form.TheVariants.{Text, Gcc, Github, Json}
use Rattle.proto_base.specs.Kind as kinds
use Rattle.proto_base.specs.Limits.{limit_of}
use Rattle.proto_base.specs.Lines.{column_at, line_at}
use Rattle.proto_base.specs.declared.fault.Fault.{Fault}
use Rattle.proto_base.specs.declared.limits.Limit.TheVariants.{FileBytes}
use Rattle.proto_base.specs.declared.limits.Limits.{Limits}
use Rattle.proto_compile.specs.Sources.{name_of, text_of}
use Rattle.proto_compile.specs.declared.source.Source.{Source}
use Rattle.schema_check.specs.Escapes.{json_text, message_text}
use Rattle.schema_check.specs.Open.{FindsSources, IsOpen, IsPageIf, IsPageOf, Named}
use Rattle.schema_check.specs.Reports.{IsHeadOf, IsListText, IsPlaceOf, gcc_text, github_text, json_row, place_text, slash_behind}
use Rattle.schema_check.specs.Told.{LiesWithin}
use Rattle.schema_check.specs.declared.pages.OpenFile.{OpenFile}
use Rattle.schema_check.specs.declared.pages.Page.{Page}
use Rattle.schema_compile.specs.Placed.{source_named}
use Rattle.schema_failure.specs.Lines.{shown_name}
use Rattle.schema_sources.specs.Places.{folder_in}
use Rattle.schema_sources.specs.declared.places.Places.{Places}

-- ---- sources by their names

abbrev pub no_source : Source
no_source = record { name = record { ref_ptr = (0, 0); now = [] }; text = record { ref_ptr = (0, 0); now = [] } }

same_bytes : (xs ys : List ℕ) → bytes_eq xs ys ≡ true → xs ≡ ys
same_bytes xs ys = (bytes_eq-Decides xs ys).0

-- what is found is one of the sources, and has the name
found_first : (b : Bool) (t : Source) (sources : List Source) (name : List ℕ) (s : Source)
    → b ≡ bytes_eq (name_of t) name → cond b (Some t) (source_named sources name) ≡ Some s
    → ((u : Source) → source_named sources name ≡ Some u → Contains sources u × (name_of u ≡ name))
    → Contains (t ∷ sources) s × (name_of s ≡ name)
found_first true t sources name s test is rest =
    let here : t ≡ s = cc in ((zero, omega arith, here), ap name_of (sym here) ∙ same_bytes (name_of t) name (sym test))
found_first false t sources name s test is rest =
    let ((k, h, at), named) = rest s is in ((suc k, omega arith, at), named)

found_in : (sources : List Source) (name : List ℕ) (s : Source) → source_named sources name ≡ Some s
    → Contains sources s × (name_of s ≡ name)
found_in [] name s is = cc
found_in (t ∷ sources) name s is =
    found_first (bytes_eq (name_of t) name) t sources name s refl is (found_in sources name)

-- what is found among one more
module _ (sources : List Source) (k : ℕ) (d : Source) (h : k < length sources) where
  found_more : (name : List ℕ) → source_named (take (k + 1) sources) name
      ≡ option_or (source_named (take k sources) name) (cond (bytes_eq (name_of (get_or sources k d)) name)
      (Some (get_or sources k d)) None)
  found_more name = rw (take_more sources k d h) (find-append (λ t. bytes_eq (name_of t) name) (take k sources) _)

-- a name that is there already
skip_by : (found : Option Source) (b : Bool) (s : Source) → (b ≡ true → is_some found ≡ true)
    → found ≡ option_or found (cond b (Some s) None)
skip_by (Some t) b s there = refl
skip_by None true s there = let clash : false ≡ true = there refl in cc
skip_by None false s there = refl

pub named_skip : (sources : List Source) (k : ℕ) (d : Source) (named : Named) → k < length sources
    → FindsSources (take k sources) named
    → is_some (get_by (λ q. bytes_eq (name_of (get_or sources k d)) q.now) named) ≡ true
    → FindsSources (take (k + 1) sources) named
named_skip sources k d named h finds there name =
    let s = get_or sources k d in
    let P : List ℕ → Type 0 = λ xs. is_some (source_named (take k sources) xs) ≡ true in
    let at : P (name_of s) = subst (λ (o : Option Source). is_some o ≡ true) (finds (name_of s)) there in
    finds name ∙ skip_by (source_named (take k sources) name) (bytes_eq (name_of s) name) s
    (λ same. subst P (same_bytes (name_of s) name same) at) ∙ sym (found_more sources k d h name)

-- and one that is put
put_by : (found : Option Source) (b : Bool) (s : Source) → (b ≡ true → is_some found ≡ false)
    → cond b (Some s) found ≡ option_or found (cond b (Some s) None)
put_by (Some t) true s lacks = let clash : true ≡ false = lacks refl in cc
put_by (Some t) false s lacks = refl
put_by None true s lacks = refl
put_by None false s lacks = refl

pub named_more : (sources : List Source) (k : ℕ) (d : Source) (old new : Named) → k < length sources
    → FindsSources (take k sources) old
    → is_some (get_by (λ q. bytes_eq (name_of (get_or sources k d)) q.now) old) ≡ false
    → ((name : List ℕ) → get_by (λ q. bytes_eq name q.now) new ≡ cond (bytes_eq (name_of (get_or sources k d)) name)
    (Some (get_or sources k d)) (get_by (λ q. bytes_eq name q.now) old))
    → FindsSources (take (k + 1) sources) new
named_more sources k d old new h finds lacks put name =
    let s = get_or sources k d in
    let P : List ℕ → Type 0 = λ xs. is_some (source_named (take k sources) xs) ≡ false in
    let at : P (name_of s) = subst (λ (o : Option Source). is_some o ≡ false) (finds (name_of s)) lacks in
    put name ∙ ap (λ (o : Option Source). cond (bytes_eq (name_of s) name) (Some s) o) (finds name)
    ∙ put_by (source_named (take k sources) name) (bytes_eq (name_of s) name) s
    (λ same. subst P (same_bytes (name_of s) name same) at) ∙ sym (found_more sources k d h name)

-- ---- a page, and what is said of a fault on it

within_page : (form : Form) (limits : Limits) (found : Option Source) (page : Option Page) (place : ℕ)
    → IsPageIf form limits found page → ((s : Source) → found ≡ Some s → place ≤ length (text_of s))
    → IfSome page (λ p. place ≤ length p.lines.text.now)
within_page form limits None None place is within = tt
within_page form limits None (Some page) place is within = absurd is
within_page form limits (Some s) None place is within = absurd is
within_page form limits (Some s) (Some page) place is within = rw is.text (within s refl)

-- a fault that lies within its source lies on the page
pub open_within : (form : Form) (limits : Limits) (places : Places) (sources : List Source) (f : Fault)
    (file : OpenFile) → IsOpen form limits places sources (string_bytes f.file) file → LiesWithin sources f
    → IfSome file.page (λ p. f.place.offset ≤ length p.lines.text.now)
open_within form limits places sources f file is lies =
    within_page form limits (source_named sources (string_bytes f.file)) file.page f.place.offset is.page_is
    (λ s found. let (among, named) = found_in sources (string_bytes f.file) s found in lies.within s among named)

module _ {T E : Type 0} (bytes : T → List ℕ) (form : Form) (limits : Limits) (places : Places) (f : Fault) where
  pub head_in : (found : Option Source) (page : Page) (r : Result T E) → IsPageIf form limits found (Some page)
      → ((s : Source) → IsPageOf form limits s page → IfOk r (λ t. IsPlaceOf form limits places f s (bytes t)))
      → IfOk r (λ t. IsHeadOf form limits places f found (bytes t))
  head_in None page r is told = absurd is
  head_in (Some s) page r is told = told s is

  pub head_out : (found : Option Source) (r : Result T E) → IsPageIf form limits found None
      → IfOk r (λ t. IsListText form places.root.now f (bytes t))
      → IfOk r (λ t. IsHeadOf form limits places f found (bytes t))
  head_out None r is listed = listed
  head_out (Some s) r is listed = absurd is

-- a file that is open as its fault asks
module _ {T E : Type 0} (bytes : T → List ℕ) (limits : Limits) (places : Places) (f : Fault) (s : Source)
    (file : OpenFile) (page : Page) (name : file.name.now ≡ string_bytes f.file)
    (folder : file.folder.now ≡ folder_in places (string_bytes f.file)) where
  pub placed_text : (about : List ℕ) (e : Excerpt) (r : Result T E) → IsPageOf Text limits s page
      → ((limit : ℕ) → AreTokens limit page.lines.text.now page.tokens
      → IsExcerpt limit page.lines.text.now f.place.offset e)
      → IfOk r (λ t. bytes t ≡ place_text (shown_name file.folder.now) (slash_behind file.folder.now)
      (shown_name file.name.now) f.kind about e)
      → IfOk r (λ t. IsPlaceOf Text limits places f s (bytes t))
  placed_text about e (Ok t) are excerpt is =
      let told = excerpt (limit_of limits FileBytes) (rw are.text are.tokens) in
      (about, e, rw are.text at told, rw (name, folder) at is)
  placed_text about e (Err x) are excerpt is = tt

  pub placed_gcc : (line column : ℕ) (message : List ℕ) (r : Result T E) → IsPageOf Gcc limits s page
      → line ≡ line_at page.lines.text.now f.place.offset → column ≡ column_at page.lines.text.now f.place.offset
      → IfOk r (λ t. bytes t ≡ gcc_text (shown_name file.folder.now) (slash_behind file.folder.now)
      (shown_name file.name.now) line column message f.kind)
      → IfOk r (λ t. IsPlaceOf Gcc limits places f s (bytes t))
  placed_gcc line column message (Ok t) are at_line at_column is =
      (message, rw (name, folder, at_line, at_column, are.text) at is)
  placed_gcc line column message (Err x) are at_line at_column is = tt

  pub placed_github : (line column : ℕ) (message : List ℕ) (r : Result T E) → IsPageOf Github limits s page
      → line ≡ line_at page.lines.text.now f.place.offset → column ≡ column_at page.lines.text.now f.place.offset
      → IfOk r (λ t. bytes t ≡ github_text file.folder.now (slash_behind file.folder.now) file.name.now line column
      message f.kind)
      → IfOk r (λ t. IsPlaceOf Github limits places f s (bytes t))
  placed_github line column message (Ok t) are at_line at_column is =
      (message, rw (name, folder, at_line, at_column, are.text) at is)
  placed_github line column message (Err x) are at_line at_column is = tt

  pub placed_json : (line column : ℕ) (message more : List ℕ) (r : Result T E) → IsPageOf Json limits s page
      → line ≡ line_at page.lines.text.now f.place.offset → column ≡ column_at page.lines.text.now f.place.offset
      → IfOk r (λ t. bytes t ≡ json_row file.folder.now (slash_behind file.folder.now) file.name.now line column
      message f more)
      → IfOk r (λ t. IsPlaceOf Json limits places f s (bytes t))
  placed_json line column message more (Ok t) are at_line at_column is =
      (message, more, rw (name, folder, at_line, at_column, are.text) at is)
  placed_json line column message more (Err x) are at_line at_column is = tt

-- ---- one of the whole list

module _ {T E : Type 0} (bytes : T → List ℕ) (root : List ℕ) (f : Fault) (message : List ℕ) where
  pub listed_github : (r : Result T E)
      → IfOk r (λ t. bytes t
      ≡ codes "::error title=" ++ (kinds.name_of f.kind ++ (codes "::" ++ (message_text message ++ 10 ∷ []))))
      → IfOk r (λ t. IsListText Github root f (bytes t))
  listed_github (Ok t) is = (message, is)
  listed_github (Err e) is = tt

  pub listed_json : (r : Result T E)
      → IfOk r (λ t. bytes t ≡ codes "{\"file\":null,\"path\":\"" ++ (json_text root ++ (codes "\",\"pass\":"
      ++ (decimal f.pass ++ (codes ",\"kind\":\"" ++ (kinds.name_of f.kind ++ (codes "\",\"number\":"
      ++ (decimal (kinds.number_of f.kind) ++ (codes ",\"message\":\"" ++ (json_text message ++ codes "\"}\n"))))))))))
      → IfOk r (λ t. IsListText Json root f (bytes t))
  listed_json (Ok t) is = (message, is)
  listed_json (Err e) is = tt
