-- Words of private contracts: what the JSON name of a field comes from.
use Rattle.std.specs.Prelude.{ℕ, List}
use Rattle.proto_desc.specs.JsonNames.{json_name_of}
use Rattle.proto_desc.specs.declared.json_name.Origin.{Origin}
use Rattle.proto_desc.specs.declared.json_name.Origin.TheVariants.{Same, Raised, Given}

-- the JSON name that comes from there
abbrev pub json_from : Origin → List ℕ
json_from (Same text) = text.now
json_from (Raised name) = json_name_of name.now
json_from (Given text) = text
