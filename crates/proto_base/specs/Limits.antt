-- What the limits are.
use Rattle.std.specs.Prelude.{ℕ}
use Rattle.proto_base.specs.declared.limits.Limit.{Limit}
use Rattle.proto_base.specs.declared.limits.Limit.TheVariants as limit
use Rattle.proto_base.specs.declared.limits.Limits.{Limits}

-- the value of a limit
abbrev pub limit_of : Limits → Limit → ℕ
limit_of l limit.FileBytes = l.file_bytes
limit_of l limit.Files = l.files
limit_of l limit.Depth = l.depth
limit_of l limit.NameBytes = l.name_bytes
limit_of l limit.FullNameBytes = l.full_name_bytes
limit_of l limit.Names = l.names
limit_of l limit.DescriptorBytes = l.descriptor_bytes
limit_of l limit.SetBytes = l.set_bytes
limit_of l limit.BodyBytes = l.body_bytes
limit_of l limit.MessageBytes = l.message_bytes
limit_of l limit.Requests = l.requests
