-- What a message names is no longer than the message.
use Rattle.reflect_core.proofs.Common.{◌≡◌, ℕ, ◌≤◌, List, [], ◌∷◌, length, ap, arith, length-append, Option, Some, flat_map, filter_map, common_steps, cons_option, Ask, file_by_name, file_by_symbol, file_by_extension, extension_numbers, list_services, nothing, last_of, host_of, ReadsRequest, Bool, none-some, same_Some, AllZip, sym, None}
use Rattle.std.specs.List.{AllByRecursion}
use Rattle.reflect_requests.specs.Request.{GivesExtension, GivesMember, extension_asked, given_of, string_member}
use Rattle.std.proofs.Common.{MatchBool, true, false, ◌==◌}
use Rattle.wire_format.specs.Reading.{Value, number, bytes, Spelled, Body, varint_body, delimited, body_text, text_of, entry_of, entry_by}

abbrev pub value_len : ℕ × Value → ℕ
value_len (n, number value) = 0
value_len (n, bytes text) = length text

-- the fields of a row are no longer than its text
module _ (most : ℕ) where
  abbrev pub IsWithin : ℕ × Value → Type 0
  IsWithin e = value_len e ≤ most

  fields_go : (n : ℕ) (b : Body) (es : List (ℕ × Value)) → length (body_text b) ≤ most → AllByRecursion IsWithin es
      → AllByRecursion IsWithin (cons_option (entry_by n b) es)
  fields_go n (varint_body text value) es long rest = (omega arith, rest)
  fields_go n (delimited count contents) es long rest = (omega (arith, length-append count contents), rest)
  fields_go n b es long rest = rest

  pub fields_within : (row : List Spelled) → length (flat_map text_of row) ≤ most
      → AllByRecursion IsWithin (filter_map entry_of row)
  fields_within [] long = tt
  fields_within (s ∷ row) long =
      let split = length-append (text_of s) (flat_map text_of row) in
      let own = length-append s.tag (body_text s.body) in
      fields_go s.number s.body _ (omega arith) (fields_within row (omega arith))

abbrev pub ask_size : Ask → ℕ
ask_size (file_by_name text) = length text
ask_size (file_by_symbol text) = length text
ask_size (file_by_extension name n) = 0
ask_size (extension_numbers text) = length text
ask_size list_services = 0
ask_size nothing = 0

host_bound : (e : ℕ × Value) (a : List ℕ) → host_of e ≡ Some a → length a ≤ value_len e
host_bound (n, value) a is = grind (arith, common_steps)

string_bound : (n : ℕ) (text : List ℕ) (a : Ask) → Some a ≡ string_member n text → ask_size a ≤ length text
string_bound n text a is = grind (arith, common_steps)

asked_bound : (n : ℕ) (text : List ℕ) (five : Bool) (a : Ask)
    → MatchBool five (GivesExtension text (Some a)) (Some a ≡ string_member n text) → ask_size a ≤ length text
asked_bound n text true a (fields, row, is) = rw (same_Some a (extension_asked fields) is) (omega arith)
asked_bound n text false a is = string_bound n text a is

member_bound : (e : ℕ × Value) (a : Ask) → GivesMember e (Some a) → ask_size a ≤ value_len e
member_bound (n, number value) a is = absurd (none-some a (sym is))
member_bound (n, bytes text) a is = asked_bound n text (n == 5) a is

module _ (most : ℕ) where
  host_step : (e : ℕ × Value) (host : List ℕ) (es : List (ℕ × Value)) → IsWithin most e → length host ≤ most
      → ((other : List ℕ) → length other ≤ most → length (last_of other (filter_map host_of es)) ≤ most)
      → length (last_of host (filter_map host_of (e ∷ es))) ≤ most
  host_step e host es within short rest = grind (arith, common_steps, host_bound e)

  host_within : (es : List (ℕ × Value)) → AllByRecursion (IsWithin most) es → (host : List ℕ) → length host ≤ most
      → length (last_of host (filter_map host_of es)) ≤ most
  host_within [] all host short = short
  host_within (e ∷ es) all host short = host_step e host es all.0 short (λ other h. host_within es all.1 other h)

  ask_within : (es : List (ℕ × Value)) (members : List (Option Ask)) → AllZip GivesMember es members
      → AllByRecursion (IsWithin most) es → (ask : Ask) → ask_size ask ≤ most
      → ask_size (last_of ask (filter_map given_of members)) ≤ most
  ask_within [] [] given all ask short = short
  ask_within (e ∷ es) (None ∷ members) given all ask short = ask_within es members given.1 all.1 ask short
  ask_within (e ∷ es) (Some a ∷ members) given all ask short =
      ask_within es members given.1 all.1 a (omega (arith, member_bound e a given.0, all.0))
  ask_within [] (m ∷ members) given all ask short = absurd given
  ask_within (e ∷ es) [] given all ask short = absurd given

pub read_bounds : (message host : List ℕ) (ask : Ask) → ReadsRequest message host ask
    → (length host ≤ length message) × (ask_size ask ≤ length message)
read_bounds message host ask reads =
    let whole = ap length reads.row.2 in
    let within = fields_within (length message) reads.row.0 (omega arith) in
    let all : AllByRecursion (IsWithin (length message)) reads.fields = rw reads.row.3 within in (
      rw reads.host_is (host_within (length message) reads.fields all [] (omega arith)),
      rw reads.asked_is (ask_within (length message) reads.fields reads.members reads.given all nothing (omega arith)),
    )
