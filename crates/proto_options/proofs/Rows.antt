-- The messages that a statement of a message holds, as a row.
use mathlib.Core.Former.{Count}
use Rattle.proto_tree.specs.declared.message.MessageItem.{MessageItem, Message', Row_of-Message, end_of-Message}

-- the row that a message has as a statement
abbrev pub row_of : MessageItem → (n : Count) × Row_of-Message n
row_of (Message' boxed row) = (_, row)
row_of _ = (_, end_of-Message)
