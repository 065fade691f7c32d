-- Services and methods.
use Rattle.std.specs.Prelude.{map, flat_map}
use Rattle.std.specs.Option.{is_some}
use Rattle.proto_tree.specs.declared.service.Rpc.{Rpc}
use Rattle.proto_tree.specs.declared.service.Service.{Service}
use Rattle.proto_desc.specs.declared.rules.Element.TheVariants as element
use Rattle.proto_desc.specs.declared.service.MethodDesc.{MethodDesc}
use Rattle.proto_desc.specs.declared.service.ServiceDesc.{ServiceDesc}
use Rattle.proto_lower.specs.Fields.{reference_of}
use Rattle.proto_options.specs.Options.{rpc_setting, service_setting}
use Rattle.proto_lower.specs.Options.{options_of}
use Rattle.proto_options.specs.Statements.{rpc_items, service_rpc}

abbrev pub method_desc : Rpc → MethodDesc
method_desc r = record {
  name = r.name.text;
  place = r.name.span.start;
  input = reference_of r.input.name;
  output = reference_of r.output.name;
  options = options_of element.Method (flat_map rpc_setting (rpc_items r.body));
  client_streaming = is_some r.input.stream;
  server_streaming = is_some r.output.stream;
}

abbrev pub lowered_service : Service → ServiceDesc
lowered_service s = record {
  name = s.name.text;
  place = s.name.span.start;
  methods = map method_desc (flat_map service_rpc s.items);
  options = options_of element.Service (flat_map service_setting s.items);
}
