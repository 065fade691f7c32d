-- The bytes of a message, by those of its nested messages.
use Rattle.std.proofs.Common.{◌≡◌, ◌∙◌, arith, length, ℕ, List, [], ◌∷◌, ◌++◌, ap}
use Rattle.std.specs.Prelude.{flat_map}
use Rattle.std.proofs.lemmas.List.Folds.{flat_map-map}
use Rattle.proto_desc.specs.declared.message.MessageDesc.{MessageDesc}
use Rattle.proto_desc.specs.declared.message.MessageDesc.TheViews.{out-MessageDesc}
use Rattle.proto_desc.specs.declared.message.MessageDesc.TheFolds.{fold_out-MessageDesc}
use Rattle.wire_format.specs.Field.{bytes_field}
use Rattle.wire_bytes.specs.Descriptor.{field_desc_bytes, enum_desc_bytes, oneof_desc_bytes, range_bytes, options_field, message_options_bytes, message_step, message_desc_bytes}

pub message_desc_bytes_out : (m : MessageDesc) → message_desc_bytes m
    ≡ bytes_field 1 (out-MessageDesc m).name
    ++ flat_map (λ f. bytes_field 2 (field_desc_bytes f)) (out-MessageDesc m).fields
    ++ flat_map (λ n. bytes_field 3 (message_desc_bytes n)) (out-MessageDesc m).nested
    ++ flat_map (λ e. bytes_field 4 (enum_desc_bytes e)) (out-MessageDesc m).enums
    ++ options_field 7 (message_options_bytes (out-MessageDesc m).options (out-MessageDesc m).is_map_entry)
    ++ flat_map (λ o. bytes_field 8 (oneof_desc_bytes o)) (out-MessageDesc m).oneofs
    ++ flat_map (λ r. bytes_field 9 (range_bytes r)) (out-MessageDesc m).reserved_ranges
    ++ flat_map (bytes_field 10) (out-MessageDesc m).reserved_names
message_desc_bytes_out m = fold_out-MessageDesc (List ℕ) message_step m
    ∙ ap (λ nested. bytes_field 1 (out-MessageDesc m).name
    ++ flat_map (λ f. bytes_field 2 (field_desc_bytes f)) (out-MessageDesc m).fields ++ nested
    ++ flat_map (λ e. bytes_field 4 (enum_desc_bytes e)) (out-MessageDesc m).enums
    ++ options_field 7 (message_options_bytes (out-MessageDesc m).options (out-MessageDesc m).is_map_entry)
    ++ flat_map (λ o. bytes_field 8 (oneof_desc_bytes o)) (out-MessageDesc m).oneofs
    ++ flat_map (λ r. bytes_field 9 (range_bytes r)) (out-MessageDesc m).reserved_ranges
    ++ flat_map (bytes_field 10) (out-MessageDesc m).reserved_names)
    (flat_map-map (bytes_field 3) message_desc_bytes (out-MessageDesc m).nested)

-- where nothing is left to write, all is written
pub all_written : {X : Type 0} (f : X → List ℕ) (rest : List X) (out whole : List ℕ) → length rest ≡ 0
    → flat_map f rest ++ out ≡ whole → out ≡ whole
all_written f [] out whole none so_far = so_far
all_written f (x ∷ rest) out whole none so_far = absurd (omega (arith, none))
