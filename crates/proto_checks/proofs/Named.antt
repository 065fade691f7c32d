-- The names of a descriptor, by its messages.
use Rattle.proto_checks.proofs.Common.{◌≡◌, ◌∙◌, ap, List, ◌∷◌, flat_map, flat_map-map, MessageNames, names_step, names_of}
use Rattle.proto_desc.specs.declared.message.MessageDesc.{MessageDesc}
use Rattle.proto_desc.specs.declared.message.MessageDesc.TheViews.{out-MessageDesc}
use Rattle.proto_desc.specs.declared.message.MessageDesc.TheFolds.{fold_out-MessageDesc}

-- the names of one message
abbrev pub own_names : MessageDesc → MessageNames
own_names m = record {
  fields = (out-MessageDesc m).fields;
  reserved_names = (out-MessageDesc m).reserved_names;
  enums = (out-MessageDesc m).enums;
}

pub names_out : (m : MessageDesc) → names_of m ≡ own_names m ∷ flat_map names_of (out-MessageDesc m).nested
names_out m = fold_out-MessageDesc (List MessageNames) names_step m
    ∙ ap (λ xs. own_names m ∷ xs)
    (flat_map-map (λ (names : List MessageNames). names) names_of (out-MessageDesc m).nested)
