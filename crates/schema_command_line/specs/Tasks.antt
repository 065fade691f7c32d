-- What a command asks for, by what the parser found in the words after its name.
use Rattle.std.specs.Prelude.{◌≡◌, ℕ, ◌<◌, ◌≤◌, ◌^◌, List, [], Option, Some, None, bytes_eq, codes, if◌then◌else◌, map, option_map, unwrap_or}
use Rattle.std.specs.Fmt.{decimal}
use Rattle.clap.specs.Matches.{first_value, matched_of, one_text, raw_values, subcommand_name_of}
use Rattle.clap.specs.Simple.{subcommand_rows_of}
use Rattle.clap.specs.Walk.{rows_of}
use Rattle.clap.specs.declared.parser.matches.ArgMatches.{ArgMatches}
use Rattle.clap.specs.declared.parser.matches.Found.{Found}
use Rattle.fault_report.specs.declared.form.Form.{Form}
use Rattle.fault_report.specs.declared.form.Form.TheVariants as form
use Rattle.first_reach.specs.declared.mode.Mode.{Mode}
use Rattle.first_reach.specs.declared.mode.Mode.TheVariants as mode
use Rattle.share_work.specs.declared.plan.Plan.{Plan}
use Rattle.skipped_sources.specs.declared.options.CustomOptions.{CustomOptions}
use Rattle.skipped_sources.specs.declared.options.CustomOptions.TheVariants as options
use Rattle.schema_command_line.specs.declared.task.Asked.{Asked}
use Rattle.schema_command_line.specs.declared.task.Origin.{Origin}
use Rattle.schema_command_line.specs.declared.task.Origin.TheVariants as origin
use Rattle.schema_command_line.specs.declared.task.Selection.{Selection}
use Rattle.schema_command_line.specs.declared.task.Service.{Service}
use Rattle.schema_command_line.specs.declared.task.Task.{Task}
use Rattle.schema_command_line.specs.declared.task.Task.TheVariants as task
use Rattle.schema_command_line.specs.declared.task.Verbosity.{Verbosity}
use Rattle.schema_command_line.specs.declared.task.Verbosity.TheVariants as verbosity

-- the first value of an argument, and all of them
abbrev pub value_of : Found → List ℕ → List ℕ
value_of found name = unwrap_or (first_value found name) []

abbrev pub values_of : Found → List ℕ → List (List ℕ)
values_of found name = unwrap_or (option_map raw_values (matched_of found name)) []

-- custom options are skipped where the words have --skip-custom-options, and else refused
pub record AreCustomOptions (found : Found) (o : CustomOptions) : Type 0 where
  pub skipped : one_text found (codes "skip-custom-options") ≡ Some (codes "true") → o ≡ options.Skip
  pub refused : one_text found (codes "skip-custom-options") ≡ Some (codes "false") → o ≡ options.Refuse

-- the root, the folders of --include and --exclude, the named files and what is done about custom options are those of
-- the words
pub record IsSelection (found : Found) (selection : Selection) : Type 0 where
  pub root : selection.root.now ≡ value_of found (codes "root")
  pub includes : map (λ s. s.now) selection.includes.items ≡ values_of found (codes "include")
  pub excludes : map (λ s. s.now) selection.excludes.items ≡ values_of found (codes "exclude")
  pub files : map (λ s. s.now) selection.files.items ≡ values_of found (codes "files")
  pub custom_options : AreCustomOptions found selection.custom_options

-- what is answered from is the set of the words or, where they have none, their sources
abbrev pub IsOrigin : Found → Origin → Type 0
IsOrigin found (origin.Sources selection) = (first_value found (codes "set") ≡ None) × IsSelection found selection
IsOrigin found (origin.Set path) = first_value found (codes "set") ≡ Some path.now

-- an argument is this number, in decimal digits
abbrev pub HasNumber : Found → List ℕ → ℕ → Type 0
HasNumber found name n = one_text found name ≡ Some (decimal n)

-- the plan has as many workers, and files in a piece, as the words say
abbrev pub IsPlan : Found → Plan → Type 0
IsPlan found plan = (workers cut : ℕ) → HasNumber found (codes "workers") workers → HasNumber found (codes "cut") cut
    → 1 ≤ workers → workers ≤ 64 → 1 ≤ cut → cut ≤ 4096 → (plan.workers ≡ workers) × (plan.cut ≡ cut)

-- the mode is Repeat where the words have --repeat, and else Once
pub record IsMode (found : Found) (m : Mode) : Type 0 where
  pub repeated : one_text found (codes "repeat") ≡ Some (codes "true") → m ≡ mode.Repeat
  pub once : one_text found (codes "repeat") ≡ Some (codes "false") → m ≡ mode.Once

-- a run is verbose where the words have --verbose, and else brief
pub record IsVerbosity (found : Found) (v : Verbosity) : Type 0 where
  pub verbose : one_text found (codes "verbose") ≡ Some (codes "true") → v ≡ verbosity.Verbose
  pub brief : one_text found (codes "verbose") ≡ Some (codes "false") → v ≡ verbosity.Brief

-- the file of --output, of which `-` is none
abbrev pub file_of : Option (List ℕ) → Option (List ℕ)
file_of None = None
file_of (Some path) = if bytes_eq path (codes "-") then None else Some path

-- the form of --format, for people where there is none
abbrev pub form_named : Option (List ℕ) → Form
form_named None = form.Text
form_named (Some name) = if bytes_eq name (codes "gcc") then form.Gcc else (if bytes_eq name (codes "github")
    then form.Github else (if bytes_eq name (codes "json") then form.Json else form.Text))

-- the number of an argument, which has so many bits, and without the argument none
pub record IsCount (found : Found) (name : List ℕ) (bits : ℕ) (count : Option ℕ) : Type 0 where
  pub counted : (n : ℕ) → n < 2 ^ bits → HasNumber found name n → count ≡ Some n
  pub endless : one_text found name ≡ None → count ≡ None

-- the address is that of the words, and so are the connections, the clients at once and the seconds of each
pub record IsService (found : Found) (service : Service) : Type 0 where
  pub listen : service.listen.now ≡ value_of found (codes "listen")
  pub connections : IsCount found (codes "connections") 64 service.connections
  pub clients : (n : ℕ) → n < 2 ^ 32 → HasNumber found (codes "clients") n → service.clients ≡ n
  pub client_seconds : IsCount found (codes "client-seconds") 32 service.client_seconds

-- the task of the command of this name
abbrev pub IsTaskNamed : List ℕ → Found → Task → Type 0
IsTaskNamed name found (task.Compile selection plan file dependencies) =
    (name ≡ codes "compile") × IsSelection found selection × IsPlan found plan
    × (option_map (λ s. s.now) file ≡ file_of (first_value found (codes "output")))
    × (option_map (λ s. s.now) dependencies ≡ first_value found (codes "dependency_out"))
IsTaskNamed name found (task.Check selection plan shape) =
    (name ≡ codes "check") × IsSelection found selection × IsPlan found plan
    × (shape ≡ form_named (first_value found (codes "format")))
IsTaskNamed name found (task.Serve from service plan m) =
    (name ≡ codes "serve") × IsOrigin found from × IsService found service × IsPlan found plan × IsMode found m
IsTaskNamed name found (task.Answer from plan m) =
    (name ≡ codes "answer") × IsOrigin found from × IsPlan found plan × IsMode found m
IsTaskNamed name found (task.Describe described) =
    (name ≡ codes "describe") × (described.now ≡ value_of found (codes "name"))
IsTaskNamed name found (task.Explain topic) = name ≡ codes "explain"

-- the task of the command that the parser found, and how much is told, by what it found after the command's name
pub record IsAsked (matches : ArgMatches) (asked : Asked) : Type 0 where
  pub name : List ℕ
  pub found : Found
  pub called : subcommand_name_of matches ≡ Some name
  pub rows : option_map (λ r. r.1) (subcommand_rows_of matches) ≡ Some (rows_of found)
  pub task : IsTaskNamed name found asked.task
  pub verbosity : IsVerbosity found asked.verbosity
