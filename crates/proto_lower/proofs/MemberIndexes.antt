-- The members of the oneofs of the source.
use Rattle.proto_lower.proofs.Common.{nat_tests, ◌≡◌, refl, ◌<◌, ◌+◌, ◌++◌, ℕ, zero, suc, false, List, [], ◌∷◌, length, arith, ◌==◌, Some, flat_map, slice_get, append-nil, length-map, MessageItem, FieldDesc, is_optional, real_count, fields_from, message_oneof, fields_in, real_named, real_oneofs}
use Rattle.std.proofs.lemmas.Option.{slice_get_within, slice_get-map}
use Rattle.proto_tree.specs.declared.message.MessageItem as message_item
use Rattle.proto_tree.specs.declared.oneof.Oneof.{Oneof}
use Rattle.proto_tree.specs.declared.oneof.OneofItem.{OneofItem}
use Rattle.proto_tree.specs.declared.oneof.OneofItem.TheVariants as oneof_item
use Rattle.proto_lower.proofs.OneofIndexes.{made_by, members}

-- the oneofs of the source, lowered
pub slice_get-real_oneofs : (is : List MessageItem) (k : ℕ) (o : Oneof)
    → slice_get (flat_map message_oneof is) k ≡ Some o
    → slice_get (real_oneofs is) k ≡ Some (real_named o.name)
slice_get-real_oneofs is k o at = cc (slice_get-map (λ (p : Oneof). real_named p.name) (flat_map message_oneof is) k)

pub length-real_oneofs : (is : List MessageItem) → length (real_oneofs is) ≡ real_count is
length-real_oneofs is = length-map (flat_map message_oneof is) (λ (o : Oneof). real_named o.name)

-- of a oneof's members and further fields: all members are in it, and none is in another
own-members : (k : ℕ) (is : List OneofItem) (rest : List FieldDesc)
    → fields_in k (members k is ++ rest) ≡ members k is ++ fields_in k rest
own-members k [] rest = refl
own-members k (oneof_item.Field f ∷ is) rest = grind (arith, nat_tests, own-members k is rest)
own-members k (i ∷ is) rest = own-members k is rest

other-members : (k real : ℕ) (is : List OneofItem) (rest : List FieldDesc) → (real == k) ≡ false
    → fields_in k (members real is ++ rest) ≡ fields_in k rest
other-members k real [] rest other = refl
other-members k real (oneof_item.Field f ∷ is) rest other = grind (arith, other-members k real is rest other)
other-members k real (i ∷ is) rest other = other-members k real is rest other

-- no field of statements that begin behind the oneof stands in it
none-from : (full : List ℕ) (k real next : ℕ) (is : List MessageItem) → k < real → k < next
    → fields_in k (fields_from full real next is) ≡ []
none-from full k real next [] before below = refl
none-from full k real next (message_item.Field f ∷ is) before below =
    grind (arith, nat_tests, none-from full k real (next + made_by (is_optional f.label)) is before)
none-from full k real next (message_item.Oneof o ∷ is) before below =
    grind (
      arith,
      nat_tests,
      other-members k real o.items (fields_from full (real + 1) next is),
      none-from full k (real + 1) next is,
    )
none-from full k real next (i ∷ is) before below = none-from full k real next is before below

-- the fields with the index of a oneof of the source are its members
members-from : (full : List ℕ) (real next j k : ℕ) (is : List MessageItem) (o : Oneof) → k ≡ real + j → k < next
    → slice_get (flat_map message_oneof is) j ≡ Some o → fields_in k (fields_from full real next is) ≡ members k o.items
members-from full real next j k [] o at below stands = cc
members-from full real next j k (message_item.Field f ∷ is) o at below stands =
    grind (arith, nat_tests, members-from full real (next + made_by (is_optional f.label)) j k is o at)
members-from full real next zero k (message_item.Oneof p ∷ is) o at below stands =
    grind (
      arith,
      append-nil,
      own-members k p.items (fields_from full (real + 1) next is),
      none-from full k (real + 1)
          next is,
    )
members-from full real next (suc j) k (message_item.Oneof p ∷ is) o at below stands =
    grind (
      arith,
      nat_tests,
      other-members k real p.items (fields_from full (real + 1) next is),
      members-from full
          (real + 1) next j k is o,
    )
members-from full real next j k (i ∷ is) o at below stands = members-from full real next j k is o at below stands

pub members-all : (full : List ℕ) (is : List MessageItem) (k : ℕ) (o : Oneof)
    → slice_get (flat_map message_oneof is) k ≡ Some o
    → fields_in k (fields_from full 0 (real_count is) is) ≡ members k o.items
members-all full is k o stands =
    members-from full 0 (real_count is) k k is o (omega arith)
    (omega (arith, slice_get_within (flat_map message_oneof is) k o stands)) stands
