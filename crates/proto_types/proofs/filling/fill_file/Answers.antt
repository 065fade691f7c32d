use Rattle.proto_types.proofs.Common.{refl, IsSeen}
use Rattle.proto_types.proofs.Trees.{messages_typed}
use Rattle.proto_types.proofs.Walking.{puts_both}
use Rattle.proto_types.proofs.filling.fill_file.Goals as goal

pub returns : goal.returns
returns c = record {
  puts = λ os seen scope types rest all is.
      let put = puts_both _ _ _ _ (c.fill_messages.ensures.puts os seen scope)
      (c.fill_row.ensures.puts os seen scope) types rest all is in
      let filled = c.fill_messages.new.messages in
      let messages = messages_typed os (IsSeen seen) scope c.args.file.now.messages filled put.1.0 in
      (put.0, record { messages_typed = messages; services_typed = put.1.1; same = refl });
}
