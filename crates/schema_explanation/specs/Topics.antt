-- What is said of a topic, in parts, and which topic a text names.
use Rattle.std.specs.Prelude.{ℕ, Bool, List, Option, codes, ◌==◌, find}
use Rattle.std.specs.List.{after_last, before_first}
use Rattle.std.specs.Str.{str_eq_ignore_ascii_case}
use Rattle.proto_base.specs.Kind.{name_of as name_of_kind}
use Rattle.schema_explanation.specs.Table.{text_of, topics}
use Rattle.schema_explanation.specs.declared.topic.Topic.{Topic}
use Rattle.schema_explanation.specs.declared.topic.Topic.TheVariants as topic

-- the name of the kind, or the line
abbrev pub name_of : Topic → List ℕ
name_of (topic.Kind kind) = name_of_kind kind
name_of topic.MalformedSet = codes "MalformedSet"
name_of topic.MalformedFile = codes "MalformedFile"
name_of topic.FileWithoutName = codes "FileWithoutName"
name_of topic.MalformedContents = codes "MalformedContents"
name_of topic.Folder = codes "device: folder"
name_of topic.Set = codes "device: set"
name_of topic.Listen = codes "device: listen"
name_of topic.Input = codes "device: input"
name_of topic.Output = codes "device: output"
name_of topic.Accept = codes "device: accept"
name_of topic.Memory = codes "out of memory"

-- what it means: the first line of what is said
abbrev pub meaning_of : Topic → List ℕ
meaning_of t = before_first (λ b. b == 10) (text_of t)

-- how it is cured: the last line
abbrev pub cure_of : Topic → List ℕ
cure_of t = after_last (λ b. b == 10) (text_of t)

-- what stands behind the last blank of a text, or all of it
abbrev pub last_word : List ℕ → List ℕ
last_word text = after_last (λ b. b == 32) text

-- whether a text names a topic: their last words are the same but for the case of ASCII letters
abbrev pub is_named_by : List ℕ → Topic → Bool
is_named_by text t = str_eq_ignore_ascii_case (last_word text) (last_word (name_of t))

-- the first topic that a text names
abbrev pub named_by : List ℕ → Option Topic
named_by text = find (is_named_by text) topics
