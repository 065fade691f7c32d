-- Whole numbers with a sign.
use Rattle.std.specs.Prelude.{ℕ, Bool, not, ◌==◌, ◌&&◌}
use Rattle.proto_desc.specs.declared.whole_number.WholeNumber.{WholeNumber}

-- the number of this magnitude, negative behind a minus; -0 is 0
abbrev pub signed : Bool → ℕ → WholeNumber
signed has_minus n = record { is_negative = has_minus && not (n == 0); magnitude = n }
