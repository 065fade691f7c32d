use Rattle.proto_types.proofs.Common.{Some, SeenBy, length-set}
use Rattle.proto_types.specs.declared.recalled.Recalled.{Recalled}
use Rattle.proto_types.proofs.Recalls.{kept_more}
use Rattle.proto_types.proofs.names.FileNames.in_package.Goals as goal

pub invariant_of-self : goal.invariant_of-self
invariant_of-self c =
    let names = c.self.inside in
    let (links, file, around, some, most, kept) = c.self.invariant in
    let found = c.find_type-found.ensures names.package.text.now around in
    let slots = names.slots.items in
    let one : Recalled = record { spelled = c.args.name.text; found = c.find_type-found.result } in
    let size = length-set slots c.slot_of-slot.result (Some one) in (
      links,
      file,
      around,
      rw size some,
      rw size most,
      kept_more names.index.now.occurrences (SeenBy names.links.now names.file) names.package.text.now slots
          c.slot_of-slot.result one kept found,
    )
