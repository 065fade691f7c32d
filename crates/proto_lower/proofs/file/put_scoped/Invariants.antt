use Rattle.proto_lower.proofs.Common.{◌≡◌, ◌++◌, take, map, flat_map, file_message, file_enum, file_service, lowered_enum, lowered_message}
use Rattle.proto_lower.specs.Files.{import_of}
use Rattle.proto_lower.specs.Services.{lowered_service}
use Rattle.proto_lower.proofs.file.put_scoped.Given as goal

abbrev pub invariant-loop-statement : goal.invariant-loop-statement
invariant-loop-statement l = record {
  same : l.shared ≡ l.scope;
  imports : l.out.imports.items ≡ l.initial.out.imports.items
      ++ flat_map import_of (take l.statement-index l.statements);
  messages : l.out.messages.items ≡ l.initial.out.messages.items
      ++ map (lowered_message l.scope) (flat_map file_message (take l.statement-index l.statements));
  enums : l.out.enums.items ≡ l.initial.out.enums.items
      ++ map lowered_enum (flat_map file_enum (take l.statement-index l.statements));
  services : l.out.services.items ≡ l.initial.out.services.items
      ++ map lowered_service (flat_map file_service (take l.statement-index l.statements));
}
