-- What `explain` prints.
use Rattle.std.specs.Prelude.{ℕ, ◌-◌, ◌^◌, List, ◌∷◌, [], ◌++◌, Option, Some, None, codes, flat_map}
use Rattle.std.specs.Fmt.{format_spec, padded}
use Rattle.schema_explanation.specs.Table.{text_of, topics}
use Rattle.schema_explanation.specs.Topics.{meaning_of, name_of}
use Rattle.schema_explanation.specs.declared.topic.Topic.{Topic}

-- a text with blanks behind it, up to 20 characters
abbrev pub column : List ℕ → List ℕ
column text = padded (format_spec 32 1 0 20 (2 ^ 64 - 1)) text

-- the line of a topic in the list of all: its name, and what it means
abbrev pub line_of : Topic → List ℕ
line_of t = column (name_of t) ++ (meaning_of t ++ 10 ∷ [])

-- all that is said of a topic, below its name and an empty line; or a line for each topic
abbrev pub page_of : Option Topic → List ℕ
page_of (Some t) = name_of t ++ (codes "\n\n" ++ (text_of t ++ 10 ∷ []))
page_of None = flat_map line_of topics
