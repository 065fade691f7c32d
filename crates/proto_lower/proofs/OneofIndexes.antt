-- The indexes of the oneofs of fields.
use Rattle.proto_lower.proofs.Common.{◌≡◌, refl, ◌≤◌, ◌<◌, ◌+◌, ◌++◌, ℕ, Bool, true, false, List, [], ◌∷◌, map, arith, Option, Some, flat_map, cond, nat_tests, MessageItem, FieldDesc, is_optional, member_at, real_count, fields_from, has_index, fields_in, oneof_field}
use Rattle.std.specs.Prelude.{⊤}
use Rattle.proto_tree.specs.declared.message.MessageItem as message_item
use Rattle.proto_tree.specs.declared.oneof.OneofItem.{OneofItem}
use Rattle.proto_tree.specs.declared.oneof.OneofItem.TheVariants as oneof_item
use Rattle.proto_lower.proofs.MadeOneofs.{made_count, made_count-cons}

-- how many oneofs a field makes
abbrev pub made_by : Bool → ℕ
made_by b = cond b 1 0

-- the members of the oneof at this position
abbrev pub members : ℕ → List OneofItem → List FieldDesc
members real is = map (member_at real) (flat_map oneof_field is)

-- the index of an `optional` field's oneof is the next one, and that of another is below all of those
abbrev pub IsIndexed : (least next : ℕ) → Bool → Option ℕ → Type 0
IsIndexed least next true index = index ≡ Some next
IsIndexed least next false index = (k : ℕ) → least ≤ k → has_index k index ≡ false

-- so with each of these fields
abbrev pub AllIndexed : (least next : ℕ) → List FieldDesc → Type 0
AllIndexed least next [] = ⊤
AllIndexed least next (f ∷ fs) = IsIndexed least next f.proto3_optional f.oneof_index
    × AllIndexed least (next + made_by f.proto3_optional) fs

members-indexed : (least next real : ℕ) (is : List OneofItem) (rest : List FieldDesc) → real < least
    → AllIndexed least next rest
    → AllIndexed least next (members real is ++ rest)
members-indexed least next real [] rest below indexed = indexed
members-indexed least next real (oneof_item.Field f ∷ is) rest below indexed =
    grind (arith, nat_tests, members-indexed least next real is rest below indexed)
members-indexed least next real (i ∷ is) rest below indexed = members-indexed least next real is rest below indexed

pub fields-indexed : (full : List ℕ) (least real next : ℕ) (is : List MessageItem) → real + real_count is ≤ least
    → AllIndexed least next (fields_from full real next is)
fields-indexed full least real next [] within = tt
fields-indexed full least real next (message_item.Field f ∷ is) within =
    grind (arith, fields-indexed full least real (next + made_by (is_optional f.label)) is)
fields-indexed full least real next (message_item.Map m ∷ is) within = grind
    (arith, fields-indexed full least real next is)
fields-indexed full least real next (message_item.Oneof o ∷ is) within =
    grind (arith, members-indexed, fields-indexed full least (real + 1) next is (omega (arith, within)))
fields-indexed full least real next (i ∷ is) within = fields-indexed full least real next is within

pub optional-index : (least next : ℕ) (before : List FieldDesc) (f : FieldDesc) (after : List FieldDesc)
    → f.proto3_optional ≡ true
    → AllIndexed least next (before ++ f ∷ after) → f.oneof_index ≡ Some (next + made_count before)
optional-index least next [] f after optional indexed = grind arith
optional-index least next (b ∷ before) f after optional indexed =
    grind (
      arith,
      made_count-cons b before,
      optional-index least (next + made_by b.proto3_optional) before f after
          optional indexed.1,
    )

pub passed : (k : ℕ) (f : FieldDesc) (fs : List FieldDesc) → has_index k f.oneof_index ≡ false
    → fields_in k (f ∷ fs) ≡ fields_in k fs
passed k f fs other = cc

pub kept : (k : ℕ) (f : FieldDesc) (fs : List FieldDesc) → f.oneof_index ≡ Some k
    → fields_in k (f ∷ fs) ≡ f ∷ fields_in k fs
kept k f fs own = grind (arith, nat_tests)

-- no field stands in a oneof with an index between `least` and the next one
none_below : (least next k : ℕ) (fs : List FieldDesc) → least ≤ k → k < next → AllIndexed least next fs
    → fields_in k fs ≡ []
none_below least next k [] above below indexed = refl
none_below least next k (f ∷ fs) above below indexed =
    grind (arith, nat_tests, passed k f fs, none_below least (next + made_by f.proto3_optional) k fs above)

-- an `optional` field is the sole member of its oneof
pub sole-member : (least next : ℕ) (before : List FieldDesc) (f : FieldDesc) (after : List FieldDesc) → least ≤ next
    → f.proto3_optional ≡ true
    → AllIndexed least next (before ++ f ∷ after) → fields_in (next + made_count before) (before ++ f ∷ after) ≡ f ∷ []
sole-member least next [] f after within optional indexed = grind (arith, kept, none_below)
sole-member least next (b ∷ before) f after within optional indexed =
    grind (
      arith,
      nat_tests,
      made_count-cons b before,
      passed (next + made_count (b ∷ before)) b (before ++ f ∷ after),
      sole-member least (next + made_by b.proto3_optional) before f after,
    )
