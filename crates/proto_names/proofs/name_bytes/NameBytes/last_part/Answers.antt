use Rattle.proto_names.proofs.Common.{◌≡◌, ◌<◌, ◌≢◌, ◌+◌, ◌-◌, [], ◌∷◌, ◌++◌, ℕ, arith, nat_tests, get_or, length, length-drop, take, take_all, drop, scoped}
use Rattle.proto_names.specs.ScopeBefore.{scope_text}
use Rattle.proto_names.proofs.Parting.{parted_by_dot, parted_plain}
use Rattle.proto_names.proofs.name_bytes.NameBytes.last_part.Goals as goal

pub returns-in-Some : goal.returns-in-Some
returns-in-Some c =
    let own = c.self.inside.unread.now in
    let scope = scope_text c.self.inside.scope in
    let k = c.in-Some.dot in
    let found = rw c.in-Some.is at c.memrchr.ensures in
    let dot : get_or own k 0 ≡ 46 = grind (arith, nat_tests) in
    let none : (i : ℕ) → k < i → i < length own → get_or own i 0 ≢ 46 =
    λ i over low is. found.0.after i (omega (arith, over)) low (grind (arith, nat_tests)) in
    let cut : take (length own - (k + 1)) (drop (k + 1) own) ≡ drop (k + 1) own =
    take_all (length own - (k + 1)) (drop (k + 1) own) (omega (arith, length-drop (k + 1) own)) in
    rw (← c.self.view_is, cut)
    (scoped scope (take k own ++ 46 ∷ []), parted_by_dot scope own k found.0.high dot none)

pub returns-in-None : goal.returns-in-None
returns-in-None c =
    let own = c.self.inside.unread.now in
    let scope = scope_text c.self.inside.scope in
    let found = rw c.in-None.is at c.memrchr.ensures in
    let none : (i : ℕ) → i < length own → get_or own i 0 ≢ 46 =
    λ i low is. found i (omega arith) low (grind (arith, nat_tests)) in
    rw (← c.self.view_is) (scoped scope [], parted_plain scope own none)
