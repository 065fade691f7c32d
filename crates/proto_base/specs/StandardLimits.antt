-- The greatest values of the limits.
use Rattle.std.specs.Prelude.{ℕ}
use Rattle.proto_base.specs.declared.limits.Limit.{Limit}
use Rattle.proto_base.specs.declared.limits.Limit.TheVariants as limit

-- the greatest value of a limit
abbrev pub standard_of : Limit → ℕ
standard_of limit.FileBytes = 4194304
standard_of limit.Files = 16384
standard_of limit.Depth = 64
standard_of limit.NameBytes = 255
standard_of limit.FullNameBytes = 1023
standard_of limit.Names = 1048576
standard_of limit.DescriptorBytes = 16777216
standard_of limit.SetBytes = 1073741824
standard_of limit.BodyBytes = 1048576
standard_of limit.MessageBytes = 65536
standard_of limit.Requests = 16384
