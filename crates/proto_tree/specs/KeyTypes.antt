-- The type of a map's keys as the type of a field.
use Rattle.proto_base.specs.declared.scalar_type.KeyType.{KeyType}
use Rattle.proto_base.specs.declared.scalar_type.KeyType.TheVariants as key
use Rattle.proto_base.specs.declared.scalar_type.ScalarType.{ScalarType}
use Rattle.proto_base.specs.declared.scalar_type.ScalarType.TheVariants as scalar

abbrev pub scalar_of_key : KeyType → ScalarType
scalar_of_key key.Int32 = scalar.Int32
scalar_of_key key.Int64 = scalar.Int64
scalar_of_key key.Uint32 = scalar.Uint32
scalar_of_key key.Uint64 = scalar.Uint64
scalar_of_key key.Sint32 = scalar.Sint32
scalar_of_key key.Sint64 = scalar.Sint64
scalar_of_key key.Fixed32 = scalar.Fixed32
scalar_of_key key.Fixed64 = scalar.Fixed64
scalar_of_key key.Sfixed32 = scalar.Sfixed32
scalar_of_key key.Sfixed64 = scalar.Sfixed64
scalar_of_key key.Bool = scalar.Bool
scalar_of_key key.String = scalar.String
