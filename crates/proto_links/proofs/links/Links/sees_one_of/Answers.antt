use Rattle.proto_links.proofs.Common.{◌≡◌, ◌∙◌, sym, ℕ, ◌<◌, length, get_or, arith, ◌↔◌, IsTrue, get_or_default, sees}
use Rattle.bit_matrix.specs.Bits.{has}
use Rattle.bit_matrix.specs.Changes.{Meet, columns_of}
use Rattle.proto_links.proofs.Positions.{sees_there}
use Rattle.proto_links.proofs.links.Links.sees_one_of.Goals as goal

file_inside : (c : goal.After-meets) → c.args.file < length c.self.inside.positions.items
file_inside c =
    let file = rw (sym c.self.view_is) at c.requires.file in
    omega arith

-- the rows meet where the file's row does
meets : (c : goal.After-meets) → IsTrue c.meets.result
    ↔ Meet c.self.inside.seen (get_or c.self.inside.positions.items c.args.file 0) c.args.files.now c.args.row
meets c =
    let positions = c.self.inside.positions.items in
    let position = c.index.ensures ∙ get_or_default positions c.args.file c.index.result.now 0 (file_inside c) in
    rw position at c.meets.ensures

sees_is : (c : goal.After-meets) (b : ℕ) → b < columns_of c.self.inside.seen → sees c.args.self.now c.args.file b
    ≡ has c.self.inside.seen (get_or c.self.inside.positions.items c.args.file 0) b
sees_is c b column = rw (sym c.self.view_is) (sees_there c.self.inside c.args.file (file_inside c) b column)

pub returns-clause-one : goal.returns-clause-one
returns-clause-one c t = let (b, mine, column, seen, set) = (meets c).0 t in (b, column, sees_is c b mine ∙ seen, set)

pub returns-clause-each : goal.returns-clause-each
returns-clause-each c b inside column seen set =
    let below = rw (sym c.self.view_is) at inside in
    let mine : b < columns_of c.self.inside.seen = omega arith in
    (meets c).1 (b, mine, column, sym (sees_is c b mine) ∙ seen, set)
