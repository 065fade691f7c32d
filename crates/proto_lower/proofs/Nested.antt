-- The nested messages that a message gives as a statement.
use Rattle.proto_lower.proofs.Common.{arith, ◌≡◌, ◌∙◌, ap, sym, refl, List, [], ◌∷◌, ◌++◌, ℕ, ◌+◌, ◌<◌, length, take, get_or, append_assoc, append-nil, flat_map, Message', Row_of-MessageItem, end_of-MessageItem, more_of-MessageItem, Row_of-Message, end_of-Message, more_of-Message, items-the_row-MessageItem, items-the_row-Message, items_shown-the_row-MessageItem-0, items_hidden-the_row-Message-1, inner, message_of, nested_of, nested_row, lowered_message}
use mathlib.Core.Former.{this, arity}
use Rattle.proto_base.proofs.Among.{taken}
use Rattle.proto_base.specs.formers.boxed.Boxed.{the_former}
use Rattle.proto_tree.specs.declared.message.Message.{Message}
use Rattle.proto_tree.specs.declared.message.MessageItem.TheVariants as of
use Rattle.proto_options.proofs.Rows.{row_of}

row_flat : (full : List ℕ) (n : _) (row : Row_of-MessageItem n)
    → nested_row full row ≡ flat_map (nested_of full) (items-the_row-MessageItem n row)
row_flat full n end_of-MessageItem = refl
row_flat full n (more_of-MessageItem i rest) = ap (λ xs. nested_of full i ++ xs) (row_flat full _ rest)

nested_boxed : (full : List ℕ) (boxed : (the_former this).Shape) (row : Row_of-Message (arity (the_former this) boxed))
    → nested_of full (Message' boxed row) ≡ flat_map (λ m. lowered_message full m ∷ []) (items-the_row-Message _ row)
nested_boxed full boxed (more_of-Message keyword name open_brace shape is close_brace end_of-Message) =
    ap (λ xs. message_of (inner full name.text) name (items-the_row-MessageItem _ is) xs ∷ [])
    (row_flat (inner full name.text) _ is)
    ∙ ap (λ is. message_of (inner full name.text) name is (flat_map (nested_of (inner full name.text)) is) ∷ [])
    (sym (items_shown-the_row-MessageItem-0 shape is))

pub nested_message : (full : List ℕ) (m : Message) → nested_of full (of.Message m) ≡ lowered_message full m ∷ []
nested_message full m =
    nested_boxed full _ (row_of (of.Message m)).1
    ∙ ap (flat_map (λ m. lowered_message full m ∷ [])) (items_hidden-the_row-Message-1 m)

-- one more statement, and what it gives
pub one_more : {X Y : Type 0} (f : X → List Y) (xs : List X) (i : ℕ) (x : X) (before done new : List Y) → i < length xs
    → x ≡ get_or xs i x
    → done ≡ before ++ flat_map f (take i xs) → new ≡ f x → done ++ new ≡ before ++ flat_map f (take (i + 1) xs)
one_more f xs i x before done new within at so_far gives = grind (arith, append_assoc, taken)

pub none_more : {X Y : Type 0} (f : X → List Y) (xs : List X) (i : ℕ) (x : X) (before done : List Y) → i < length xs
    → x ≡ get_or xs i x
    → done ≡ before ++ flat_map f (take i xs) → f x ≡ [] → done ≡ before ++ flat_map f (take (i + 1) xs)
none_more f xs i x before done within at so_far gives =
    sym (append-nil done) ∙ one_more f xs i x before done [] within at so_far (sym gives)
