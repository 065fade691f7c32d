-- The statements of messages, and the messages within them.
use Rattle.proto_checks.proofs.Common.{◌≡◌, ◌∙◌, ap, sym, refl, ◌∷◌, ◌++◌, append-nil, flat_map, bodies_of, bodies_row, bodies}
use mathlib.Core.Former.{this, arity}
use Rattle.proto_base.specs.formers.boxed.Boxed.{the_former}
use Rattle.proto_tree.specs.declared.message.Message.{Message}
use Rattle.proto_tree.specs.declared.message.MessageItem.{Message', Row_of-MessageItem, end_of-MessageItem, more_of-MessageItem, Row_of-Message, end_of-Message, more_of-Message, items-the_row-MessageItem, items-the_row-Message, items_shown-the_row-MessageItem-0, items_hidden-the_row-Message-1}
use Rattle.proto_tree.specs.declared.message.MessageItem.TheVariants as of
use Rattle.proto_options.proofs.Rows.{row_of}

-- a message as a statement
row_flat : (n : _) (row : Row_of-MessageItem n) → bodies_row row ≡ flat_map bodies_of (items-the_row-MessageItem n row)
row_flat n end_of-MessageItem = refl
row_flat n (more_of-MessageItem i rest) = ap (λ xs. bodies_of i ++ xs) (row_flat _ rest)

bodies_boxed : (boxed : (the_former this).Shape) (row : Row_of-Message (arity (the_former this) boxed))
    → bodies_of (Message' boxed row) ≡ flat_map (λ m. bodies m.items) (items-the_row-Message _ row)
bodies_boxed boxed (more_of-Message keyword name open_brace shape is close_brace end_of-Message) =
    ap (λ xs. items-the_row-MessageItem _ is ∷ xs) (row_flat _ is)
    ∙ ap (λ is. is ∷ flat_map bodies_of is) (sym (items_shown-the_row-MessageItem-0 shape is))
    ∙ sym (append-nil (bodies _))

pub nested_bodies : (m : Message) → bodies_of (of.Message m) ≡ bodies m.items
nested_bodies m =
    bodies_boxed _ (row_of (of.Message m)).1 ∙ ap (flat_map (λ m. bodies m.items)) (items_hidden-the_row-Message-1 m)
    ∙ append-nil (bodies m.items)
