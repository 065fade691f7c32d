-- The line of a failure, as users see it (README.md, "Commands").
use Rattle.std.specs.Prelude.{ℕ, List, [], ◌++◌, Option, None, Some, codes, false, if◌then◌else◌, string_bytes}
use Rattle.std.specs.Char.{encode_utf8, is_ascii_control}
use Rattle.std.specs.Fmt.{decimal, digits}
use Rattle.std.specs.List.{flat_map}
use Rattle.std.specs.Str.{chars}
use Rattle.proto_base.specs.Kind.{name_of}
use Rattle.proto_sets.specs.SetKinds as sets
use Rattle.schema_failure.specs.declared.failure.Device.{Device}
use Rattle.schema_failure.specs.declared.failure.Device.TheVariants as device
use Rattle.schema_failure.specs.declared.failure.Failure.{Failure}
use Rattle.schema_failure.specs.declared.failure.Failure.TheVariants as failure
use Rattle.source_folder.specs.Reasons.{words_of}

-- a character of a file's name: a control character by its number in hexadecimal digits, and any other as it is
abbrev pub shown_char : ℕ → List ℕ
shown_char c = if is_ascii_control c then codes "\\u{" ++ (digits 16 false c ++ codes "}") else encode_utf8 c

abbrev pub shown_name : List ℕ → List ℕ
shown_name name = flat_map shown_char (chars name)

-- a device in a line
abbrev pub device_name : Device → List ℕ
device_name device.Input = codes "input"
device_name device.Output = codes "output"
device_name device.Dependencies = codes "output"
device_name device.Set = codes "set"
device_name device.Listen = codes "listen"
device_name device.Accept = codes "accept"

-- FILE:LINE:COLUMN: KIND of a fault of a source, FILE: KIND of one of a set, or what failed
abbrev pub line_of : Failure → List ℕ
line_of (failure.Source file line column kind) =
    shown_name (string_bytes file)
    ++ (codes ":" ++ (decimal line ++ (codes ":" ++ (decimal column ++ (codes ": " ++ name_of kind)))))
line_of (failure.Set file kind) = shown_name (string_bytes file) ++ (codes ": " ++ sets.name_of kind)
line_of (failure.Folder entry) = codes "device: folder"
line_of (failure.Device failed error) = codes "device: " ++ device_name failed
line_of failure.NoMemory = codes "out of memory"

-- the line beside it, where it is known: the entry of a folder that was the trouble, and why. What the system says of another
-- device is not
abbrev pub detail_of : Failure → Option (List ℕ)
detail_of (failure.Folder (Some entry)) =
    Some (shown_name (string_bytes entry.path) ++ (codes ": " ++ (words_of entry.reason ++ codes "\n")))
detail_of (failure.Device failed (Some error)) = None
detail_of other = Some []
