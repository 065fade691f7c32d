-- What is said of faults, in each form.
use Rattle.std.specs.Prelude.{◌≡◌, ◌==◌, ℕ, zero, suc, List, [], ◌∷◌, ◌++◌, Option, None, Some, codes, length, nat_eq, string_bytes, if◌then◌else◌}
use Rattle.std.specs.Fmt.{decimal}
use Rattle.std.specs.List.{AllZip, concat, ends_with}
use Rattle.fault_report.specs.Excerpts.{IsExcerpt, rows_of}
use Rattle.fault_report.specs.declared.excerpt.Excerpt.{Excerpt}
use Rattle.fault_report.specs.declared.form.Form.{Form}
use Rattle.fault_report.specs.declared.form.Form.TheVariants.{Text, Gcc, Github, Json}
use Rattle.proto_base.specs.Kind.{name_of, number_of}
use Rattle.proto_base.specs.Limits.{limit_of}
use Rattle.proto_base.specs.Lines.{column_at, line_at}
use Rattle.proto_base.specs.declared.fault.Fault.{Fault}
use Rattle.proto_base.specs.declared.kind.Kind.{Kind}
use Rattle.proto_base.specs.declared.limits.Limit.TheVariants.{FileBytes}
use Rattle.proto_base.specs.declared.limits.Limits.{Limits}
use Rattle.proto_compile.specs.Sources.{text_of}
use Rattle.proto_compile.specs.declared.source.Source.{Source}
use Rattle.schema_check.specs.Escapes.{json_text, message_text, property_text}
use Rattle.schema_failure.specs.Lines.{shown_name}
use Rattle.schema_compile.specs.Placed.{source_named}
use Rattle.schema_sources.specs.Places.{folder_in}
use Rattle.schema_sources.specs.declared.places.Places.{Places}

-- ---- one fault in a file

-- what parts a root from the name of a file below it
abbrev pub slash_behind : List ℕ → List ℕ
slash_behind root = if ends_with nat_eq root (47 ∷ []) then [] else 47 ∷ []

-- ROOT/FILE:LINE:COLUMN: KIND
abbrev pub place_line : (root slash file : List ℕ) → Kind → Excerpt → List ℕ
place_line root slash file kind e = root ++ (slash ++ (file ++ (codes ":" ++ (decimal e.number ++ (codes ":"
    ++ (decimal e.column ++ (codes ": " ++ (name_of kind ++ codes "\n"))))))))

-- this line, what the fault is about, and the rows of the text around the place
abbrev pub place_text : (root slash file : List ℕ) → Kind → (about : List ℕ) → Excerpt → List ℕ
place_text root slash file kind about e = place_line root slash file kind e ++ (about ++ (rows_of e ++ codes "\n"))

-- ROOT/FILE:LINE:COLUMN: error: MESSAGE [KIND]
abbrev pub gcc_text : (root slash file : List ℕ) → (line column : ℕ) → (message : List ℕ) → Kind → List ℕ
gcc_text root slash file line column message kind = root ++ (slash ++ (file ++ (codes ":" ++ (decimal line ++ (codes ":"
    ++ (decimal column ++ (codes ": error: " ++ (message ++ (codes " [" ++ (name_of kind ++ codes "]\n"))))))))))

-- ::error file=ROOT/FILE,line=LINE,col=COLUMN,title=KIND::MESSAGE
abbrev pub github_text : (root slash file : List ℕ) → (line column : ℕ) → (message : List ℕ) → Kind → List ℕ
github_text root slash file line column message kind = codes "::error file=" ++ (property_text root ++ (slash
    ++ (property_text file ++ (codes ",line=" ++ (decimal line ++ (codes ",col=" ++ (decimal column ++ (codes ",title="
    ++ (name_of kind ++ (codes "::" ++ (message_text message ++ 10 ∷ [])))))))))))

-- the members that say where a fault stands
abbrev pub json_place : (root slash file : List ℕ) → (line column : ℕ) → List ℕ
json_place root slash file line column = codes "\"file\":\"" ++ (json_text file ++ (codes "\",\"path\":\""
    ++ (json_text root ++ (slash ++ (json_text file ++ (codes "\",\"line\":" ++ (decimal line ++ (codes ",\"column\":"
    ++ decimal column))))))))

-- and those that say what it is
abbrev pub json_fault : Fault → List ℕ
json_fault f = codes "\"place\":" ++ (decimal f.place.offset ++ (codes ",\"pass\":" ++ (decimal f.pass
    ++ (codes ",\"kind\":\"" ++ (name_of f.kind ++ (codes "\",\"number\":" ++ decimal (number_of f.kind)))))))

-- an object of these members; the last ones are the column in characters, and the places of what else it is about
abbrev pub json_row : (root slash file : List ℕ) → (line column : ℕ) → (message : List ℕ) → Fault → (more : List ℕ)
    → List ℕ
json_row root slash file line column message f more = codes "{" ++ (json_place root slash file line column ++ (codes ","
    ++ (json_fault f ++ (codes ",\"message\":\"" ++ (json_text message ++ (codes "\"" ++ (more ++ codes "}\n")))))))

-- what is said of a fault in a file, below the folder in which this lies
abbrev pub IsPlaceOf : Form → Limits → Places → Fault → Source → List ℕ → Type 0
IsPlaceOf Text limits places f s said = let folder = folder_in places (string_bytes f.file) in
    (about : List ℕ) × (e : Excerpt) × IsExcerpt (limit_of limits FileBytes) (text_of s) f.place.offset e
    × (said ≡ place_text (shown_name folder) (slash_behind folder) (shown_name (string_bytes f.file)) f.kind about e)
IsPlaceOf Gcc limits places f s said = let folder = folder_in places (string_bytes f.file) in
    (message : List ℕ) × (said ≡ gcc_text (shown_name folder) (slash_behind folder) (shown_name (string_bytes f.file))
    (line_at (text_of s) f.place.offset) (column_at (text_of s) f.place.offset) message f.kind)
IsPlaceOf Github limits places f s said = let folder = folder_in places (string_bytes f.file) in
    (message : List ℕ) × (said ≡ github_text folder (slash_behind folder) (string_bytes f.file)
    (line_at (text_of s) f.place.offset) (column_at (text_of s) f.place.offset) message f.kind)
IsPlaceOf Json limits places f s said = let folder = folder_in places (string_bytes f.file) in
    (message more : List ℕ) × (said ≡ json_row folder (slash_behind folder) (string_bytes f.file)
    (line_at (text_of s) f.place.offset) (column_at (text_of s) f.place.offset) message f more)

-- ---- one of the whole list

-- ROOT: KIND, and what it is about
abbrev pub IsListText : Form → List ℕ → Fault → List ℕ → Type 0
IsListText Text root f said = (about : List ℕ)
    × (said ≡ shown_name root ++ (codes ": " ++ (name_of f.kind ++ (codes "\n" ++ about))))
IsListText Gcc root f said = (message : List ℕ)
    × (said ≡ shown_name root ++ (codes ": error: " ++ (message ++ (codes " [" ++ (name_of f.kind ++ codes "]\n")))))
IsListText Github root f said = (message : List ℕ)
    × (said ≡ codes "::error title=" ++ (name_of f.kind ++ (codes "::" ++ (message_text message ++ 10 ∷ []))))
IsListText Json root f said = (message : List ℕ)
    × (said ≡ codes "{\"file\":null,\"path\":\"" ++ (json_text root ++ (codes "\",\"pass\":" ++ (decimal f.pass
    ++ (codes ",\"kind\":\"" ++ (name_of f.kind ++ (codes "\",\"number\":" ++ (decimal (number_of f.kind)
    ++ (codes ",\"message\":\"" ++ (json_text message ++ codes "\"}\n"))))))))))

abbrev pub IsHeadOf : Form → Limits → Places → Fault → Option Source → List ℕ → Type 0
IsHeadOf form limits places f None said = IsListText form places.root.now f said
IsHeadOf form limits places f (Some s) said = IsPlaceOf form limits places f s said

-- so much, and for people perhaps what its kind means and how it is cured
abbrev pub IsMore : Form → List ℕ → Type 0
IsMore Text more = Unit {0}
IsMore Gcc more = more ≡ []
IsMore Github more = more ≡ []
IsMore Json more = more ≡ []

abbrev pub IsBlock : Form → Limits → Places → List Source → Fault → List ℕ → Type 0
IsBlock form limits places sources f said = (head more : List ℕ)
    × IsHeadOf form limits places f (source_named sources (string_bytes f.file)) head × IsMore form more
    × (said ≡ head ++ more)

-- ---- all of them

abbrev pub plural : ℕ → List ℕ
plural n = if n == 1 then [] else codes "s"

-- N files, no fault
abbrev pub sound_text : (files : ℕ) → (more : List ℕ) → List ℕ
sound_text files more = decimal files ++ (codes " file" ++ (more ++ (codes ", no fault" ++ 10 ∷ [])))

-- N faults in M files
abbrev pub faulty_text : (faults : ℕ) → (more_faults : List ℕ) → (files : ℕ) → (more_files : List ℕ) → List ℕ
faulty_text faults more_faults files more_files = decimal faults ++ (codes " fault" ++ (more_faults
    ++ (codes " in " ++ (decimal files ++ (codes " file" ++ (more_files ++ 10 ∷ []))))))

-- no file that ends in .proto below ROOT
abbrev pub empty_text : List ℕ → List ℕ
empty_text root = codes "no file that ends in .proto below " ++ (root ++ 10 ∷ [])

-- how many faults there are, in how many files
abbrev pub summary_of : List ℕ → ℕ → ℕ → List ℕ
summary_of root zero zero = empty_text (shown_name root)
summary_of root zero (suc files) = sound_text (suc files) (plural (suc files))
summary_of root (suc faults) files = faulty_text (suc faults) (plural (suc faults)) files (plural files)

-- what the passes behind that of the first fault look at
abbrev pub unseen_text : ℕ → List ℕ
unseen_text pass = if pass == 1 then codes "imports, names and types are looked at when these are mended\n"
    else (if pass == 2 then codes "names and types are looked at when these are mended\n"
    else (if pass == 3 then codes "types are looked at when these are mended\n" else []))

abbrev pub unseen_behind : List Fault → List ℕ
unseen_behind [] = []
unseen_behind (f ∷ faults) = unseen_text f.pass

-- the last lines, which only people read
abbrev pub end_of : Form → List ℕ → List Fault → ℕ → List ℕ
end_of Text root faults files = summary_of root (length faults) files ++ unseen_behind faults
end_of Gcc root faults files = []
end_of Github root faults files = []
end_of Json root faults files = []

-- what is said of each, in their order, and the last lines
abbrev pub IsReport : Form → Limits → Places → List Source → List Fault → List ℕ → Type 0
IsReport form limits places sources faults report =
    (blocks : List (List ℕ)) × AllZip (IsBlock form limits places sources) faults blocks
    × (report ≡ concat blocks ++ end_of form places.root.now faults (length sources))
