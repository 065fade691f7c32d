use Rattle.proto_names.proofs.Common.{lit<, strip_prefix_char, SeenBy}
use Rattle.proto_names.proofs.Listing.{found_inside, means_anywhere}
use Rattle.proto_names.proofs.index.NameIndex.find_inside.Goals as goal

pub returns-in-Some : goal.returns-in-Some
returns-in-Some c scope outside around are full what =
    let os = c.args.self.now.occurrences in
    let Seen = SeenBy c.args.links.now c.args.file in
    let spelled = c.args.spelled.text.now in
    let rest = c.in-Some.field-0.now in
    let is = rw c.in-Some.is
    at (strip_prefix_char 46 spelled c.strip_prefix.result c.strip_prefix.ensures.cases (lit< tt)) in (
      λ r. means_anywhere os Seen spelled rest outside scope full what is r,
      λ r. means_anywhere os Seen spelled rest scope outside full what is r,
    )

pub returns-in-None : goal.returns-in-None
returns-in-None c scope outside around are =
    let spelled = c.args.spelled.text.now in
    let relative = rw c.in-None.is
    at (strip_prefix_char 46 spelled c.strip_prefix.result c.strip_prefix.ensures.cases (lit< tt)) in
    found_inside c.args.self.now.occurrences (SeenBy c.args.links.now c.args.file) spelled relative scope outside
    c.args.scopes.now c.find_among.result around are c.find_among.ensures
