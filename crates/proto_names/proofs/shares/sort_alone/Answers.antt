use Rattle.proto_names.proofs.Common.{append-nil, arith, ◌≡◌, [], ◌∷◌, all_of}
use Rattle.proto_names.proofs.Tabled.{alone_given}
use Rattle.proto_names.proofs.shares.sort_alone.Goals as goal

pub sort_share-requires-clause-files : goal.sort_share-requires-clause-files
sort_share-requires-clause-files c = grind (arith, append-nil)

pub returns : goal.returns
returns c =
    let all : all_of c.in_ok-shared.shared.value ≡ c.args.entries = grind (arith, append-nil) in
    let items : c.push.new.self.items ≡ c.in_ok-sort_share.field-0 ∷ [] =
    rw c.in_ok-outs.ensures.items at c.in_ok-push.ensures.items in
    rw items (alone_given c.args.entries c.in_ok-sort_share.field-0 (rw all at c.in_ok-sort_share.ensures))
