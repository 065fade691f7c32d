-- The kinds of fault.
use Rattle.std.specs.Prelude.{ℕ, List, codes}
use Rattle.proto_base.specs.declared.kind.Kind.{Kind}
use Rattle.proto_base.specs.declared.kind.Kind.TheVariants.{NotUtf8, BadByte, BadNumber, NumberTooBig, BadEscape, UnclosedString, UnclosedComment, FileTooLong, Unexpected, CustomOption, LeftOut, TooDeep, UnexpectedEnd, NotProto3Syntax, PackageTwice, ImportTwice, UnknownOption, OptionTwice, BadOptionValue, FieldNumberRange, FieldNumberTwice, ReservedNumberUsed, ReservedNameUsed, ReservedOverlap, ReservedNameTwice, ReservedBackwards, JsonNameTwice, PackedOnWrongKind, JstypeOnWrongKind, EnumEmpty, EnumFirstNotZero, EnumNumberRange, EnumNumberTwice, OneofEmpty, NameTooLong, ImportMissing, ImportCycle, NameTwice, TooManyNames, TooManyFiles, FileNameTwice, TypeNotFound, TypeNotMessage, PackedOnMessage, DescriptorTooLong, SetTooLong}

-- the number of a kind, by which kinds at one place are ordered, and its name, as users read it
abbrev pub row_of : Kind → ℕ × List ℕ
row_of NotUtf8 = (1, codes "NotUtf8")
row_of BadByte = (2, codes "BadByte")
row_of BadNumber = (3, codes "BadNumber")
row_of NumberTooBig = (4, codes "NumberTooBig")
row_of BadEscape = (5, codes "BadEscape")
row_of UnclosedString = (6, codes "UnclosedString")
row_of UnclosedComment = (7, codes "UnclosedComment")
row_of FileTooLong = (8, codes "FileTooLong")
row_of Unexpected = (10, codes "Unexpected")
row_of CustomOption = (11, codes "CustomOption")
row_of LeftOut = (12, codes "LeftOut")
row_of TooDeep = (13, codes "TooDeep")
row_of UnexpectedEnd = (14, codes "UnexpectedEnd")
row_of NotProto3Syntax = (20, codes "NotProto3Syntax")
row_of PackageTwice = (21, codes "PackageTwice")
row_of ImportTwice = (22, codes "ImportTwice")
row_of UnknownOption = (23, codes "UnknownOption")
row_of OptionTwice = (24, codes "OptionTwice")
row_of BadOptionValue = (25, codes "BadOptionValue")
row_of FieldNumberRange = (26, codes "FieldNumberRange")
row_of FieldNumberTwice = (27, codes "FieldNumberTwice")
row_of ReservedNumberUsed = (28, codes "ReservedNumberUsed")
row_of ReservedNameUsed = (29, codes "ReservedNameUsed")
row_of ReservedOverlap = (30, codes "ReservedOverlap")
row_of ReservedNameTwice = (31, codes "ReservedNameTwice")
row_of ReservedBackwards = (32, codes "ReservedBackwards")
row_of JsonNameTwice = (33, codes "JsonNameTwice")
row_of PackedOnWrongKind = (34, codes "PackedOnWrongKind")
row_of JstypeOnWrongKind = (35, codes "JstypeOnWrongKind")
row_of EnumEmpty = (36, codes "EnumEmpty")
row_of EnumFirstNotZero = (37, codes "EnumFirstNotZero")
row_of EnumNumberRange = (38, codes "EnumNumberRange")
row_of EnumNumberTwice = (39, codes "EnumNumberTwice")
row_of OneofEmpty = (40, codes "OneofEmpty")
row_of NameTooLong = (41, codes "NameTooLong")
row_of ImportMissing = (50, codes "ImportMissing")
row_of ImportCycle = (51, codes "ImportCycle")
row_of NameTwice = (60, codes "NameTwice")
row_of TooManyNames = (61, codes "TooManyNames")
row_of TooManyFiles = (62, codes "TooManyFiles")
row_of FileNameTwice = (63, codes "FileNameTwice")
row_of TypeNotFound = (70, codes "TypeNotFound")
row_of TypeNotMessage = (71, codes "TypeNotMessage")
row_of PackedOnMessage = (72, codes "PackedOnMessage")
row_of DescriptorTooLong = (73, codes "DescriptorTooLong")
row_of SetTooLong = (74, codes "SetTooLong")

abbrev pub number_of : Kind → ℕ
number_of k = (row_of k).0

abbrev pub name_of : Kind → List ℕ
name_of k = (row_of k).1
