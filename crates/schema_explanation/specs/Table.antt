-- What is said of each topic. docs/explanations writes this file from docs/FAULTS.md.
use Rattle.std.specs.Prelude.{ℕ, List, [], ◌∷◌, codes, encode_utf8_all}
use Prim.Native.String.{◌++◌}
use Rattle.proto_base.specs.declared.kind.Kind.{Kind}
use Rattle.proto_base.specs.declared.kind.Kind.TheVariants as kind
use Rattle.schema_explanation.specs.declared.topic.Topic.{Topic}
use Rattle.schema_explanation.specs.declared.topic.Topic.TheVariants as topic

-- all topics, in the order of the page
unfoldable pub topics : List Topic
topics =
    topic.Kind kind.TooManyFiles ∷
    topic.Kind kind.FileNameTwice ∷
    topic.Kind kind.NotUtf8 ∷
    topic.Kind kind.BadByte ∷
    topic.Kind kind.BadNumber ∷
    topic.Kind kind.NumberTooBig ∷
    topic.Kind kind.BadEscape ∷
    topic.Kind kind.UnclosedString ∷
    topic.Kind kind.UnclosedComment ∷
    topic.Kind kind.FileTooLong ∷
    topic.Kind kind.Unexpected ∷
    topic.Kind kind.CustomOption ∷
    topic.Kind kind.LeftOut ∷
    topic.Kind kind.TooDeep ∷
    topic.Kind kind.UnexpectedEnd ∷
    topic.Kind kind.NotProto3Syntax ∷
    topic.Kind kind.PackageTwice ∷
    topic.Kind kind.ImportTwice ∷
    topic.Kind kind.UnknownOption ∷
    topic.Kind kind.OptionTwice ∷
    topic.Kind kind.BadOptionValue ∷
    topic.Kind kind.FieldNumberRange ∷
    topic.Kind kind.FieldNumberTwice ∷
    topic.Kind kind.ReservedNumberUsed ∷
    topic.Kind kind.ReservedNameUsed ∷
    topic.Kind kind.ReservedOverlap ∷
    topic.Kind kind.ReservedNameTwice ∷
    topic.Kind kind.ReservedBackwards ∷
    topic.Kind kind.JsonNameTwice ∷
    topic.Kind kind.PackedOnWrongKind ∷
    topic.Kind kind.JstypeOnWrongKind ∷
    topic.Kind kind.EnumEmpty ∷
    topic.Kind kind.EnumFirstNotZero ∷
    topic.Kind kind.EnumNumberRange ∷
    topic.Kind kind.EnumNumberTwice ∷
    topic.Kind kind.OneofEmpty ∷
    topic.Kind kind.NameTooLong ∷
    topic.Kind kind.ImportMissing ∷
    topic.Kind kind.ImportCycle ∷
    topic.Kind kind.NameTwice ∷
    topic.Kind kind.TooManyNames ∷
    topic.Kind kind.TypeNotFound ∷
    topic.Kind kind.TypeNotMessage ∷
    topic.Kind kind.PackedOnMessage ∷
    topic.Kind kind.DescriptorTooLong ∷
    topic.Kind kind.SetTooLong ∷
    topic.MalformedSet ∷
    topic.MalformedFile ∷
    topic.FileWithoutName ∷
    topic.MalformedContents ∷
    topic.Folder ∷
    topic.Set ∷
    topic.Listen ∷
    topic.Input ∷
    topic.Output ∷
    topic.Accept ∷
    topic.Memory ∷
    []

-- what is said of a kind
abbrev pub text_of_kind : Kind → List ℕ
text_of_kind kind.TooManyFiles = codes (
    "There are more than 16,384 files below the root, or in the set.\n\n" ++
    "Where: no file, and line 1, column 1.\n\n" ++
    "    for i in $(seq 16385); do : > $i.proto; done\n\n" ++
    "    :1:1: TooManyFiles\n\n" ++
    "Cure: Compile a folder further below.")
text_of_kind kind.FileNameTwice = codes (
    "Two sources have one name, or two files of a set. A folder has no two such files: it is met only " ++
    "where sources come from elsewhere, and where two sets were joined.\n\n" ++
    "Where: the start of the file.\n\n" ++
    "Cure: Give each source a name of its own. Make one set of all sources, in place of joining two.")
text_of_kind kind.NotUtf8 = codes (
    "The file holds bytes that are no UTF-8, at the first byte that belongs to no whole character. " ++
    "Comments and strings count.\n\n" ++
    "Where: that byte.\n\n" ++
    "    printf 'syntax = \"proto3\";\\n// caf\\351\\n' > a.proto\n\n" ++
    "    a.proto:2:7: NotUtf8\n\n" ++
    "Cure: Save the file as UTF-8 (`iconv -f latin1 -t utf-8`).")
text_of_kind kind.BadByte = encode_utf8_all (codes (
    "A byte outside comments and strings that begins no token: a control character, or one beyond " ++
    "ASCII.\n\n" ++
    "Where: that byte.\n\n" ++
    "    syntax = \"proto3\";\n" ++
    "    message é {}\n\n" ++
    "    a.proto:2:9: BadByte\n\n" ++
    "Cure: Names are ASCII letters, digits and `_`. An invisible character, such as a no-break space, is " ++
    "often what stands there."))
text_of_kind kind.BadNumber = codes (
    "No digit follows `0x`, or a letter, a digit, `_` or `.` follows a number directly. Floating-point " ++
    "numbers are no tokens here.\n\n" ++
    "Where: the number's first digit.\n\n" ++
    "    syntax = \"proto3\";\n" ++
    "    message A { int32 x = 08; }\n\n" ++
    "    a.proto:2:23: BadNumber\n\n" ++
    "Cure: A number that begins with 0 is octal: write `8`. A default or an option with a floating-point " ++
    "value is not part of this language.")
text_of_kind kind.NumberTooBig = codes (
    "A number is over 18,446,744,073,709,551,615.\n\n" ++
    "Where: the number's first digit.\n\n" ++
    "    syntax = \"proto3\";\n" ++
    "    message A { int32 x = 18446744073709551616; }\n\n" ++
    "    a.proto:2:23: NumberTooBig\n\n" ++
    "Cure: Field numbers go to 536,870,911, enum numbers to 2,147,483,647.")
text_of_kind kind.BadEscape = codes (
    "A backslash in a string that begins no escape, or whose digits are missing or name no character.\n\n" ++
    "Where: the backslash, or the opening quote where each escape is one and the value of the whole " ++
    "string is no UTF-8.\n\n" ++
    "    syntax = \"proto3\";\n" ++
    "    option java_package = \"a\\q\";\n\n" ++
    "    a.proto:2:25: BadEscape\n\n" ++
    "Cure: Write `\\\\` for a backslash. The escapes are those of the specification; a pair of surrogates " ++
    "is not taken as one character.")
text_of_kind kind.UnclosedString = codes (
    "A string ends at the end of its line or of the file, without its quote.\n\n" ++
    "Where: its opening quote.\n\n" ++
    "    syntax = \"proto3\";\n" ++
    "    option java_package = \"a;\n\n" ++
    "    a.proto:2:23: UnclosedString\n\n" ++
    "Cure: Close the quote on the same line. Adjacent strings join, so a long text can stand on several " ++
    "lines.")
text_of_kind kind.UnclosedComment = codes (
    "A comment that `/*` begins has no `*/`.\n\n" ++
    "Where: its `/`.\n\n" ++
    "    syntax = \"proto3\";\n" ++
    "    /* message A {}\n\n" ++
    "    a.proto:2:1: UnclosedComment\n\n" ++
    "Cure: Close it. Comments do not nest: the first `*/` ends one.")
text_of_kind kind.FileTooLong = codes (
    "The file has more than 4,194,304 bytes.\n\n" ++
    "Where: the start of the file.\n\n" ++
    "    { echo 'syntax = \"proto3\";'; head -c 4194304 /dev/zero | tr '\\0' ' '; } > a.proto\n\n" ++
    "    a.proto:1:1: FileTooLong\n\n" ++
    "Cure: Split the file.")
text_of_kind kind.Unexpected = codes (
    "This token cannot stand here.\n\n" ++
    "Where: that token.\n\n" ++
    "    syntax = \"proto3\";\n" ++
    "    message A { int32 x }\n\n" ++
    "    a.proto:2:21: Unexpected\n\n" ++
    "Cure: Look at what stands before it: most often a `;`, a `=` or a type is missing. Where it is the " ++
    "first of the file, `syntax = \"proto3\";` is missing, or `edition` stands for it. A map has no label, " ++
    "and its key is an integer, a `bool` or a `string`. A member of a oneof has no label, and is no map. " ++
    "In a method the word is `returns`, not `return`.")
text_of_kind kind.CustomOption = codes (
    "An option's name begins with `(`: an option that somebody declared with `extend`. Custom options " ++
    "are left out of this language.\n\n" ++
    "Where: the `(`.\n\n" ++
    "    syntax = \"proto3\";\n" ++
    "    message A { option (mine) = 1; }\n\n" ++
    "    a.proto:2:20: CustomOption\n\n" ++
    "Cure: `--skip-custom-options` compiles the sources as if such options were not there. With them, " ++
    "protoc or buf compile the sources, and `--set` serves what these write.")
text_of_kind kind.LeftOut = codes (
    "A word of proto2 or of editions where it would begin a statement: `extend`, `extensions`, `group`, " ++
    "`required`, `weak`.\n\n" ++
    "Where: that word.\n\n" ++
    "    syntax = \"proto3\";\n" ++
    "    message A { required int32 x = 1; }\n\n" ++
    "    a.proto:2:13: LeftOut\n\n" ++
    "Cure: `--skip-custom-options` compiles the sources as if `extend`, and `weak` after `import`, were " ++
    "not there. Leave out `required`; turn a `group` into a message and a field. `extensions` is of " ++
    "proto2, whose files are for protoc; `--set` serves what it writes.")
text_of_kind kind.TooDeep = codes (
    "Messages stand in one another more than 64 deep.\n\n" ++
    "Where: the first token too deep.\n\n" ++
    "    { echo 'syntax = \"proto3\";'; for i in $(seq 65); do printf 'message A {'; done; } > a.proto\n\n" ++
    "    a.proto:2:705: TooDeep\n\n" ++
    "Cure: Move inner messages to the top, and name them from there.")
text_of_kind kind.UnexpectedEnd = codes (
    "The file ends in the middle of a statement.\n\n" ++
    "Where: after the last byte.\n\n" ++
    "    syntax = \"proto3\";\n" ++
    "    message A {\n\n" ++
    "    a.proto:3:1: UnexpectedEnd\n\n" ++
    "Cure: Close the last brace, or end the last statement with `;`.")
text_of_kind kind.NotProto3Syntax = codes (
    "The file names another syntax than proto3.\n\n" ++
    "Where: the syntax's string.\n\n" ++
    "    syntax = \"proto2\";\n\n" ++
    "    a.proto:1:10: NotProto3Syntax\n\n" ++
    "Cure: Write `syntax = \"proto3\";`, and mend what proto3 has no longer; or leave the file to protoc.")
text_of_kind kind.PackageTwice = codes (
    "There is a second package statement.\n\n" ++
    "Where: the second `package`.\n\n" ++
    "    syntax = \"proto3\";\n" ++
    "    package a; package b;\n\n" ++
    "    a.proto:2:12: PackageTwice\n\n" ++
    "Cure: A file has one package.")
text_of_kind kind.ImportTwice = codes (
    "An import that an earlier one equals.\n\n" ++
    "Where: the later import's string.\n\n" ++
    "    syntax = \"proto3\";\n" ++
    "    import \"a\"; import \"a\";\n\n" ++
    "    a.proto:2:20: ImportTwice\n\n" ++
    "Cure: Leave one of them out.")
text_of_kind kind.UnknownOption = codes (
    "The element may not have an option of this name. The options of each element are listed in " ++
    "docs/LANGUAGE.md.\n\n" ++
    "Where: the first token of the option's name.\n\n" ++
    "    syntax = \"proto3\";\n" ++
    "    option x = 1;\n\n" ++
    "    a.proto:2:8: UnknownOption\n\n" ++
    "Cure: Look for a spelling mistake. `default` is of proto2: in proto3 a field that is not set has 0, " ++
    "false, or nothing in it. Of descriptor.proto's options twelve are not in the list, as `lazy` and " ++
    "`cc_generic_services`: `--skip-custom-options` compiles the sources as if they were not there, and " ++
    "`--set` serves what protoc writes.")
text_of_kind kind.OptionTwice = codes (
    "The element set this option before.\n\n" ++
    "Where: the first token of the option's name.\n\n" ++
    "    syntax = \"proto3\";\n" ++
    "    option deprecated = true; option deprecated = true;\n\n" ++
    "    a.proto:2:34: OptionTwice\n\n" ++
    "Cure: Leave one of them out.")
text_of_kind kind.BadOptionValue = codes (
    "The option takes a value of another kind: a string, a number, `true` or `false`, or one of its " ++
    "words.\n\n" ++
    "Where: the first token of the value.\n\n" ++
    "    syntax = \"proto3\";\n" ++
    "    option go_package = 1;\n\n" ++
    "    a.proto:2:21: BadOptionValue\n\n" ++
    "Cure: Look the option up in docs/LANGUAGE.md.")
text_of_kind kind.FieldNumberRange = codes (
    "A field number or a bound of a reserved range that is not 1 to 536,870,911. Or a field number from " ++
    "19,000 to 19,999: these are kept for implementations.\n\n" ++
    "Where: the number.\n\n" ++
    "    syntax = \"proto3\";\n" ++
    "    message A { int32 x = 19000; }\n\n" ++
    "    a.proto:2:23: FieldNumberRange\n\n" ++
    "Cure: Take another number.")
text_of_kind kind.FieldNumberTwice = codes (
    "An earlier field of the message has this number. Members of oneofs are fields of the message.\n\n" ++
    "Where: the later field's number.\n\n" ++
    "    syntax = \"proto3\";\n" ++
    "    message A { int32 x = 1; int32 y = 1; }\n\n" ++
    "    a.proto:2:36: FieldNumberTwice\n\n" ++
    "Cure: Give the new field a number that none had before.")
text_of_kind kind.ReservedNumberUsed = codes (
    "The number of a field or of an enum's value is reserved.\n\n" ++
    "Where: the number, or its `-`.\n\n" ++
    "    syntax = \"proto3\";\n" ++
    "    message A { reserved 5; int32 x = 5; }\n\n" ++
    "    a.proto:2:35: ReservedNumberUsed\n\n" ++
    "Cure: Take another number: what was reserved was in use once, and old data may hold it.")
text_of_kind kind.ReservedNameUsed = codes (
    "The name of a field or of an enum's value is reserved.\n\n" ++
    "Where: the name.\n\n" ++
    "    syntax = \"proto3\";\n" ++
    "    message A { reserved \"x\"; int32 x = 1; }\n\n" ++
    "    a.proto:2:33: ReservedNameUsed\n\n" ++
    "Cure: Take another name.")
text_of_kind kind.ReservedOverlap = codes (
    "A reserved range shares a number with an earlier one.\n\n" ++
    "Where: the later range's first token.\n\n" ++
    "    syntax = \"proto3\";\n" ++
    "    message A { reserved 1 to 3, 3; }\n\n" ++
    "    a.proto:2:30: ReservedOverlap\n\n" ++
    "Cure: Make one range of both.")
text_of_kind kind.ReservedNameTwice = codes (
    "A name is reserved twice.\n\n" ++
    "Where: the later name's string.\n\n" ++
    "    syntax = \"proto3\";\n" ++
    "    message A { reserved \"x\", \"x\"; }\n\n" ++
    "    a.proto:2:27: ReservedNameTwice\n\n" ++
    "Cure: Leave one of them out.")
text_of_kind kind.ReservedBackwards = codes (
    "A reserved range ends before it begins.\n\n" ++
    "Where: the range's first token.\n\n" ++
    "    syntax = \"proto3\";\n" ++
    "    message A { reserved 3 to 1; }\n\n" ++
    "    a.proto:2:22: ReservedBackwards\n\n" ++
    "Cure: Exchange its bounds.")
text_of_kind kind.JsonNameTwice = codes (
    "Two fields of a message have one name in JSON. `a_b` is `aB` there, unless `json_name` says " ++
    "something else.\n\n" ++
    "Where: the later field's name.\n\n" ++
    "    syntax = \"proto3\";\n" ++
    "    message A { int32 a_b = 1; int32 aB = 2; }\n\n" ++
    "    a.proto:2:34: JsonNameTwice\n\n" ++
    "Cure: Rename one of them, or give it a `json_name`. Two fields of the same name have one name in " ++
    "JSON, too.")
text_of_kind kind.PackedOnWrongKind = codes (
    "`packed = true` on a field that is not repeated, is a string or bytes, or is a map.\n\n" ++
    "Where: the option's name.\n\n" ++
    "    syntax = \"proto3\";\n" ++
    "    message A { int32 x = 1 [packed = true]; }\n\n" ++
    "    a.proto:2:26: PackedOnWrongKind\n\n" ++
    "Cure: Leave the option out: repeated numbers are packed in proto3 anyway.")
text_of_kind kind.JstypeOnWrongKind = codes (
    "`jstype` says string or number on a field whose type is no integer of 64 bits.\n\n" ++
    "Where: the option's name.\n\n" ++
    "    syntax = \"proto3\";\n" ++
    "    message A { int32 x = 1 [jstype = JS_STRING]; }\n\n" ++
    "    a.proto:2:26: JstypeOnWrongKind\n\n" ++
    "Cure: Leave the option out.")
text_of_kind kind.EnumEmpty = codes (
    "An enum has no value.\n\n" ++
    "Where: the enum's name.\n\n" ++
    "    syntax = \"proto3\";\n" ++
    "    enum E {}\n\n" ++
    "    a.proto:2:6: EnumEmpty\n\n" ++
    "Cure: Give it a value of the number 0.")
text_of_kind kind.EnumFirstNotZero = codes (
    "The first value of an enum is not 0, which a field has that is not set.\n\n" ++
    "Where: the number, or its `-`.\n\n" ++
    "    syntax = \"proto3\";\n" ++
    "    enum E { A = 1; }\n\n" ++
    "    a.proto:2:14: EnumFirstNotZero\n\n" ++
    "Cure: Begin with a value of the number 0, as `E_UNSPECIFIED = 0;`.")
text_of_kind kind.EnumNumberRange = codes (
    "An enum's number or a bound of its reserved range that does not fit 32 bits with a sign.\n\n" ++
    "Where: the number, or its `-`.\n\n" ++
    "    syntax = \"proto3\";\n" ++
    "    enum E { A = 0; B = 2147483648; }\n\n" ++
    "    a.proto:2:21: EnumNumberRange\n\n" ++
    "Cure: Take another number.")
text_of_kind kind.EnumNumberTwice = codes (
    "An earlier value has this number.\n\n" ++
    "Where: the later value's number, or its `-`.\n\n" ++
    "    syntax = \"proto3\";\n" ++
    "    enum E { A = 0; B = 0; }\n\n" ++
    "    a.proto:2:21: EnumNumberTwice\n\n" ++
    "Cure: Take another number, or write `option allow_alias = true;` in the enum.")
text_of_kind kind.OneofEmpty = codes (
    "A oneof has no member.\n\n" ++
    "Where: the oneof's name.\n\n" ++
    "    syntax = \"proto3\";\n" ++
    "    message A { oneof o {} }\n\n" ++
    "    a.proto:2:19: OneofEmpty\n\n" ++
    "Cure: Give it a field, or leave it out.")
text_of_kind kind.NameTooLong = codes (
    "A name has more than 255 bytes, or a full name, with its package and the messages around it, more " ++
    "than 1,023.\n\n" ++
    "Where: the name; for a made one its field's name; for a package its first part.\n\n" ++
    "    printf 'syntax = \"proto3\";\\nmessage %s {}\\n' \"$(head -c 256 /dev/zero | tr '\\0' a)\" > a.proto\n\n" ++
    "    a.proto:2:9: NameTooLong\n\n" ++
    "Cure: Shorten it.")
text_of_kind kind.ImportMissing = codes (
    "No file of this name is below the root or below an `--include` folder. A name is the path from " ++
    "there, with `/`.\n\n" ++
    "Where: the import's string.\n\n" ++
    "    syntax = \"proto3\";\n" ++
    "    import \"b.proto\";\n\n" ++
    "    a.proto:2:8: ImportMissing\n\n" ++
    "Cure: Set `--root` to the folder from which imports are written, or name another one by " ++
    "`--include`. Nothing is bundled: `--include /usr/include` takes what is imported from an installed " ++
    "protobuf. `--skip-custom-options` leaves out imports of what is no source. `describe` reads one " ++
    "file alone: a file with imports is for `compile`. In a set no file has this name: `protoc " ++
    "--include_imports`, and `buf build`, write a set with all that its files import.")
text_of_kind kind.ImportCycle = codes (
    "The file imports itself, or a file that reaches it.\n\n" ++
    "Where: the import's string.\n\n" ++
    "    printf 'syntax = \"proto3\";\\nimport \"b.proto\";\\n' > a.proto\n" ++
    "    printf 'syntax = \"proto3\";\\nimport \"a.proto\";\\n' > b.proto\n\n" ++
    "    a.proto:2:8: ImportCycle\n\n" ++
    "Cure: Move what both need to a third file.")
text_of_kind kind.NameTwice = codes (
    "Another element of these files has this full name. Values of an enum are named beside it, not " ++
    "within it. A package may stand in many files; an element may not have a package's name.\n\n" ++
    "Where: the later name; for a made one its field's name; for a package its first part.\n\n" ++
    "    syntax = \"proto3\";\n" ++
    "    message A {}\n" ++
    "    message A {}\n\n" ++
    "    a.proto:3:9: NameTwice\n\n" ++
    "Cure: Rename one of them, or put it in another package; values of enums are often given the enum's " ++
    "name in front.")
text_of_kind kind.TooManyNames = codes (
    "All files together declare more than 1,048,576 names.\n\n" ++
    "Where: no file, and line 1, column 1.\n\n" ++
    "    for f in 1 2 3 4 5 6 7 8; do\n" ++
    "        awk -v f=$f 'BEGIN { printf \"syntax = \\\"proto3\\\"; enum E%d { option allow_alias = true;\", f\n" ++
    "            for (i = 0; i < 131072; i++) printf \"%c%d=0;\", 96 + f, i; print \"}\" }' > $f.proto\n" ++
    "    done\n\n" ++
    "    :1:1: TooManyNames\n\n" ++
    "Cure: Compile fewer files at once.")
text_of_kind kind.TypeNotFound = codes (
    "No message and no enum that this file sees has this name. A file sees itself, what it imports, and " ++
    "what these import publicly. Of a compound name the innermost scope that has its first part " ++
    "decides.\n\n" ++
    "Where: the type's first token.\n\n" ++
    "    syntax = \"proto3\";\n" ++
    "    message A { X x = 1; }\n\n" ++
    "    a.proto:2:13: TypeNotFound\n\n" ++
    "Cure: Import the file that declares it. If a nearer scope has the first part of the name, write it " ++
    "from its package on, or with a leading `.`.")
text_of_kind kind.TypeNotMessage = codes (
    "The type of a method is an enum.\n\n" ++
    "Where: the type's first token.\n\n" ++
    "    syntax = \"proto3\";\n" ++
    "    enum E { Z = 0; }\n" ++
    "    service S { rpc R(E) returns (E); }\n\n" ++
    "    a.proto:3:19: TypeNotMessage\n\n" ++
    "Cure: Put the enum in a message.")
text_of_kind kind.PackedOnMessage = codes (
    "`packed = true` on a field whose type is a message.\n\n" ++
    "Where: the option's name.\n\n" ++
    "    syntax = \"proto3\";\n" ++
    "    message A { repeated A x = 1 [packed = true]; }\n\n" ++
    "    a.proto:2:31: PackedOnMessage\n\n" ++
    "Cure: Leave the option out.")
text_of_kind kind.DescriptorTooLong = codes (
    "The descriptor of one file has more than 16,777,216 bytes.\n\n" ++
    "Where: the start of the file.\n\n" ++
    "Cure: Split the file.")
text_of_kind kind.SetTooLong = codes (
    "The descriptors of all files have more than 1,073,741,824 bytes together.\n\n" ++
    "Where: no file, and line 1, column 1.\n\n" ++
    "Cure: Compile a folder further below.")

-- what is said of a topic: its first line says what it means, its last how it is cured
abbrev pub text_of : Topic → List ℕ
text_of (topic.Kind k) = text_of_kind k
text_of topic.MalformedSet = codes (
    "The bytes are no `FileDescriptorSet`: they are no row of fields, as the encoding of Protocol " ++
    "Buffers has them.\n\n" ++
    "Where: the set.\n\n" ++
    "    printf 'syntax = \"proto3\";\\n' > a.pb\n\n" ++
    "    a.pb: MalformedSet\n\n" ++
    "Cure: Give the set that `protoc --include_imports --descriptor_set_out=FILE`, `buf build " ++
    "--as-file-descriptor-set -o FILE` or `compile` wrote. Sources are for `--root`.")
text_of topic.MalformedFile = codes (
    "A file of the set is no row of fields, or its name is no UTF-8.\n\n" ++
    "Where: the file, by its position in the set.\n\n" ++
    "    printf '\\n\\3\\n\\5a' > a.pb\n\n" ++
    "    a.pb, file[0]: MalformedFile\n\n" ++
    "Cure: Write the set again: it was cut short or changed.")
text_of topic.FileWithoutName = codes (
    "A file of the set has no name, or an empty one.\n\n" ++
    "Where: the file, by its position in the set.\n\n" ++
    "    printf '\\n\\3\\22\\1p' > a.pb\n\n" ++
    "    a.pb, file[0]: FileWithoutName\n\n" ++
    "Cure: Give each file the name by which others import it.")
text_of topic.MalformedContents = codes (
    "An element of a file is no row of fields, or more than 66 stand in one another, or a name in it is " ++
    "no UTF-8.\n\n" ++
    "Where: the file.\n\n" ++
    "    printf '\\n\\16\\n\\7a.proto\"\\3\\n\\5A' > a.pb\n\n" ++
    "    a.proto: MalformedContents\n\n" ++
    "Cure: Write the set again: it was cut short or changed.")
text_of topic.Folder = codes (
    "A folder of sources, or what stands below it, could not be listed or read.\n\n" ++
    "Where: one of these, and the line that finds it below `DIR`:\n\n" ++
    "- `DIR` is not there, or is a file: `ls -d DIR/`\n" ++
    "- a folder that may not be listed, or a file that may not be read: `find -L DIR ! -readable`\n" ++
    "- a name that is no UTF-8: `find DIR | LC_ALL=C.UTF-8 grep -naxv '.*'`\n" ++
    "- a folder more than 64 folders below: `find -L DIR -mindepth 65 -type d`\n" ++
    "- a link that leads to a folder in which it lies: `find -L DIR -name ''`\n" ++
    "- a link that leads nowhere, a pipe or a device, whose name ends in `.proto`: `find -L DIR -name " ++
    "'*.proto' ! -type f ! -type d`\n" ++
    "- more than 1,048,576 files and folders: `find -L DIR | wc -l`\n" ++
    "- a file that the command line names, and that is not there\n\n" ++
    "Cure: `--verbose` names the entry and says what is wrong with it, and so does `check`. Mend it, or " ++
    "take it out of the folder.")
text_of topic.Set = codes (
    "The file that `--set` names could not be read.\n\n" ++
    "Where: it is not there, is a folder, or may not be read: `ls -l FILE`.\n\n" ++
    "Cure: Name the file by its path. `/dev/stdin` reads the set of `serve` from standard input.")
text_of topic.Listen = codes (
    "The service cannot listen at the address and the port that it was given.\n\n" ++
    "Where: one of these:\n\n" ++
    "- a name in place of an address: `localhost:8080`\n" ++
    "- no port, or one over 65,535\n" ++
    "- the port is taken: `ss -ltnp` tells by whom\n" ++
    "- an address that is none of this machine's: `ip address` lists those\n" ++
    "- a port below 1,024, which needs a privilege\n\n" ++
    "Cure: Write an address and a port that are free, as `127.0.0.1:8080` or `[::1]:8080`. Port 0 takes " ++
    "any free one, which the first line of the output then tells.")
text_of topic.Input = codes (
    "Standard input could not be read.\n\n" ++
    "Where: `describe` reads a source there, and `answer` a request body. A folder is no input.\n\n" ++
    "Cure: Give the file itself, as `schema_server describe a.proto < a.proto`.")
text_of topic.Output = codes (
    "What was to be written could not be written whole.\n\n" ++
    "Where: standard output, or the file that `--output` names. There is no room, or a reader went away; " ++
    "or the file may not be written, or is a folder.\n\n" ++
    "Cure: See `df` for the room, and `ls -ld` for who may write there. What stood in the file stands " ++
    "there still, but where README says that it is written over.")
text_of topic.Accept = codes (
    "The service could not go on: the system takes no more connections for it, or starts no thread.\n\n" ++
    "Where: the listener.\n\n" ++
    "Cure: Start it again. See `ulimit -n` for the files that it may have open, and `ulimit -u` for its " ++
    "threads.")
text_of topic.Memory = codes (
    "The allocator had no memory, or no thread could be started for want of it.\n\n" ++
    "Where: anywhere. No part of a file that `--output` names has changed.\n\n" ++
    "Cure: Give the run more memory, or fewer workers: `--workers 1`. docs/GUIDE.md says how much a " ++
    "service takes.")
