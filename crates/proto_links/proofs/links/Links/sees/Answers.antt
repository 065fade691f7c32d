use Rattle.proto_links.proofs.Common.{sym, ◌<◌, length, arith, get_or_default}
use Rattle.proto_links.proofs.Positions.{sees_there}
use Rattle.proto_links.proofs.links.Links.sees.Goals as goal

pub returns : goal.returns
returns c =
    let file = rw (sym c.self.view_is) at c.requires.file in
    let other = rw (sym c.self.view_is) at c.requires.other in
    let inside : c.args.file < length c.self.inside.positions.items = omega arith in
    let there = sees_there c.self.inside c.args.file inside c.args.other
    (omega arith) in
    grind (arith, get_or_default)
