-- docs/explanations writes this file from docs/FAULTS.md.
use Rattle.std.proofs.Common.{sym, ap}
use lib.Utf8.{encode}
use Rattle.schema_explanation.specs.Table.{text_of_kind}
use Rattle.schema_explanation.proofs.table.text_of_kind.Goals as goal

pub returns-in-TooManyFiles : goal.returns-in-TooManyFiles
returns-in-TooManyFiles c = sym (ap text_of_kind c.in-TooManyFiles.is)

pub returns-in-FileNameTwice : goal.returns-in-FileNameTwice
returns-in-FileNameTwice c = sym (ap text_of_kind c.in-FileNameTwice.is)

pub returns-in-NotUtf8 : goal.returns-in-NotUtf8
returns-in-NotUtf8 c = sym (ap text_of_kind c.in-NotUtf8.is)

pub returns-in-BadByte : goal.returns-in-BadByte
unfolding encode
returns-in-BadByte c = sym (ap text_of_kind c.in-BadByte.is)

pub returns-in-BadNumber : goal.returns-in-BadNumber
returns-in-BadNumber c = sym (ap text_of_kind c.in-BadNumber.is)

pub returns-in-NumberTooBig : goal.returns-in-NumberTooBig
returns-in-NumberTooBig c = sym (ap text_of_kind c.in-NumberTooBig.is)

pub returns-in-BadEscape : goal.returns-in-BadEscape
returns-in-BadEscape c = sym (ap text_of_kind c.in-BadEscape.is)

pub returns-in-UnclosedString : goal.returns-in-UnclosedString
returns-in-UnclosedString c = sym (ap text_of_kind c.in-UnclosedString.is)

pub returns-in-UnclosedComment : goal.returns-in-UnclosedComment
returns-in-UnclosedComment c = sym (ap text_of_kind c.in-UnclosedComment.is)

pub returns-in-FileTooLong : goal.returns-in-FileTooLong
returns-in-FileTooLong c = sym (ap text_of_kind c.in-FileTooLong.is)

pub returns-in-Unexpected : goal.returns-in-Unexpected
returns-in-Unexpected c = sym (ap text_of_kind c.in-Unexpected.is)

pub returns-in-CustomOption : goal.returns-in-CustomOption
returns-in-CustomOption c = sym (ap text_of_kind c.in-CustomOption.is)

pub returns-in-LeftOut : goal.returns-in-LeftOut
returns-in-LeftOut c = sym (ap text_of_kind c.in-LeftOut.is)

pub returns-in-TooDeep : goal.returns-in-TooDeep
returns-in-TooDeep c = sym (ap text_of_kind c.in-TooDeep.is)

pub returns-in-UnexpectedEnd : goal.returns-in-UnexpectedEnd
returns-in-UnexpectedEnd c = sym (ap text_of_kind c.in-UnexpectedEnd.is)

pub returns-in-NotProto3Syntax : goal.returns-in-NotProto3Syntax
returns-in-NotProto3Syntax c = sym (ap text_of_kind c.in-NotProto3Syntax.is)

pub returns-in-PackageTwice : goal.returns-in-PackageTwice
returns-in-PackageTwice c = sym (ap text_of_kind c.in-PackageTwice.is)

pub returns-in-ImportTwice : goal.returns-in-ImportTwice
returns-in-ImportTwice c = sym (ap text_of_kind c.in-ImportTwice.is)

pub returns-in-UnknownOption : goal.returns-in-UnknownOption
returns-in-UnknownOption c = sym (ap text_of_kind c.in-UnknownOption.is)

pub returns-in-OptionTwice : goal.returns-in-OptionTwice
returns-in-OptionTwice c = sym (ap text_of_kind c.in-OptionTwice.is)

pub returns-in-BadOptionValue : goal.returns-in-BadOptionValue
returns-in-BadOptionValue c = sym (ap text_of_kind c.in-BadOptionValue.is)

pub returns-in-FieldNumberRange : goal.returns-in-FieldNumberRange
returns-in-FieldNumberRange c = sym (ap text_of_kind c.in-FieldNumberRange.is)

pub returns-in-FieldNumberTwice : goal.returns-in-FieldNumberTwice
returns-in-FieldNumberTwice c = sym (ap text_of_kind c.in-FieldNumberTwice.is)

pub returns-in-ReservedNumberUsed : goal.returns-in-ReservedNumberUsed
returns-in-ReservedNumberUsed c = sym (ap text_of_kind c.in-ReservedNumberUsed.is)

pub returns-in-ReservedNameUsed : goal.returns-in-ReservedNameUsed
returns-in-ReservedNameUsed c = sym (ap text_of_kind c.in-ReservedNameUsed.is)

pub returns-in-ReservedOverlap : goal.returns-in-ReservedOverlap
returns-in-ReservedOverlap c = sym (ap text_of_kind c.in-ReservedOverlap.is)

pub returns-in-ReservedNameTwice : goal.returns-in-ReservedNameTwice
returns-in-ReservedNameTwice c = sym (ap text_of_kind c.in-ReservedNameTwice.is)

pub returns-in-ReservedBackwards : goal.returns-in-ReservedBackwards
returns-in-ReservedBackwards c = sym (ap text_of_kind c.in-ReservedBackwards.is)

pub returns-in-JsonNameTwice : goal.returns-in-JsonNameTwice
returns-in-JsonNameTwice c = sym (ap text_of_kind c.in-JsonNameTwice.is)

pub returns-in-PackedOnWrongKind : goal.returns-in-PackedOnWrongKind
returns-in-PackedOnWrongKind c = sym (ap text_of_kind c.in-PackedOnWrongKind.is)

pub returns-in-JstypeOnWrongKind : goal.returns-in-JstypeOnWrongKind
returns-in-JstypeOnWrongKind c = sym (ap text_of_kind c.in-JstypeOnWrongKind.is)

pub returns-in-EnumEmpty : goal.returns-in-EnumEmpty
returns-in-EnumEmpty c = sym (ap text_of_kind c.in-EnumEmpty.is)

pub returns-in-EnumFirstNotZero : goal.returns-in-EnumFirstNotZero
returns-in-EnumFirstNotZero c = sym (ap text_of_kind c.in-EnumFirstNotZero.is)

pub returns-in-EnumNumberRange : goal.returns-in-EnumNumberRange
returns-in-EnumNumberRange c = sym (ap text_of_kind c.in-EnumNumberRange.is)

pub returns-in-EnumNumberTwice : goal.returns-in-EnumNumberTwice
returns-in-EnumNumberTwice c = sym (ap text_of_kind c.in-EnumNumberTwice.is)

pub returns-in-OneofEmpty : goal.returns-in-OneofEmpty
returns-in-OneofEmpty c = sym (ap text_of_kind c.in-OneofEmpty.is)

pub returns-in-NameTooLong : goal.returns-in-NameTooLong
returns-in-NameTooLong c = sym (ap text_of_kind c.in-NameTooLong.is)

pub returns-in-ImportMissing : goal.returns-in-ImportMissing
returns-in-ImportMissing c = sym (ap text_of_kind c.in-ImportMissing.is)

pub returns-in-ImportCycle : goal.returns-in-ImportCycle
returns-in-ImportCycle c = sym (ap text_of_kind c.in-ImportCycle.is)

pub returns-in-NameTwice : goal.returns-in-NameTwice
returns-in-NameTwice c = sym (ap text_of_kind c.in-NameTwice.is)

pub returns-in-TooManyNames : goal.returns-in-TooManyNames
returns-in-TooManyNames c = sym (ap text_of_kind c.in-TooManyNames.is)

pub returns-in-TypeNotFound : goal.returns-in-TypeNotFound
returns-in-TypeNotFound c = sym (ap text_of_kind c.in-TypeNotFound.is)

pub returns-in-TypeNotMessage : goal.returns-in-TypeNotMessage
returns-in-TypeNotMessage c = sym (ap text_of_kind c.in-TypeNotMessage.is)

pub returns-in-PackedOnMessage : goal.returns-in-PackedOnMessage
returns-in-PackedOnMessage c = sym (ap text_of_kind c.in-PackedOnMessage.is)

pub returns-in-DescriptorTooLong : goal.returns-in-DescriptorTooLong
returns-in-DescriptorTooLong c = sym (ap text_of_kind c.in-DescriptorTooLong.is)

pub returns-in-SetTooLong : goal.returns-in-SetTooLong
returns-in-SetTooLong c = sym (ap text_of_kind c.in-SetTooLong.is)
