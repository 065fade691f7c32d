-- Ranges of a list that only grows, and names for what stands in them.
use Rattle.digraph.proofs.Common.{◌≡◌, ℕ, ◌+◌, ◌<◌, ◌≤◌, List, [], ◌∷◌, ◌++◌, length, drop, get_or, refl, arith, length-append, Result, OnErr, ◌∙◌, sym, suc, map, Contains, length-map, map-append, take_all, get_or-map, drop-map, take-map, get_or_default, common_steps, IsFrontOf, AllByRecursion, recursion_from_All, node_at}
use Rattle.digraph.specs.Ranges.{range_of, ranges_of, AreWithin, Holds, name_of}
use Rattle.std.proofs.SliceLists.{all_by_recursion_push}

pub within_more : (n m : ℕ) (rs : List (ℕ × ℕ)) → n ≤ m → AreWithin n rs → AreWithin m rs
within_more n m [] h w = tt
within_more n m (r ∷ rs) h w = (omega arith, within_more n m rs h w.1)

range_kept : (old more : List ℕ) (r : ℕ × ℕ) → r.0 + r.1 ≤ length old → range_of (old ++ more) r ≡ range_of old r
range_kept old more r h = grind (arith, common_steps)

ranges_kept : (old more : List ℕ) (rs : List (ℕ × ℕ)) → AreWithin (length old) rs
    → ranges_of (old ++ more) rs ≡ ranges_of old rs
ranges_kept old more [] w = refl
ranges_kept old more (r ∷ rs) w = rw (range_kept old more r w.0, ranges_kept old more rs w.1) refl

pub view_kept : (old new : List ℕ) (rs ss : List (ℕ × ℕ)) → IsFrontOf old new → ss ≡ rs → AreWithin (length old) rs
    → ranges_of new ss ≡ ranges_of old rs
view_kept old new rs ss prefix e w = rw (prefix.1, e) (ranges_kept old prefix.0 rs w)

pub length_kept : (old new : List ℕ) → IsFrontOf old new → length old ≤ length new
length_kept old new prefix = rw prefix.1 (rw (length-append old prefix.0) (omega arith))

pub view_pushed : (old new : List ℕ) (rs ss : List (ℕ × ℕ)) (start : ℕ) (list : List ℕ) → IsFrontOf old new
    → Holds new start list → ss ≡ rs ++ (start, length list) ∷ [] → AreWithin (length old) rs
    → ranges_of new ss ≡ ranges_of old rs ++ list ∷ []
view_pushed old new rs ss start list prefix holds e w = grind (arith, map-append, take_all, view_kept)

pub within_pushed : (old new : List ℕ) (rs ss : List (ℕ × ℕ)) (start : ℕ) (list : List ℕ) → IsFrontOf old new
    → Holds new start list
    → ss ≡ rs ++ (start, length list) ∷ [] → AreWithin (length old) rs → AreWithin (length new) ss
within_pushed old new rs ss start list prefix holds e w = grind (arith, all_by_recursion_push, length_kept, within_more)

-- a list goes on where the positions end
pub goes_on : (positions new prefix list : List ℕ) (last k : ℕ) → prefix ≡ drop k positions
    → k + length prefix ≡ length positions → list ≡ prefix ++ last ∷ []
    → new ≡ positions ++ last ∷ [] → Holds new k list
goes_on positions new prefix list last k e len whole pushed = grind (arith, common_steps)

-- the list at k, by its range
pub list_at : (items : List ℕ) (rs : List (ℕ × ℕ)) (lists : List (List ℕ)) (k : ℕ) (r : ℕ × ℕ)
    → ranges_of items rs ≡ lists → r ≡ get_or rs k r → k < length lists → range_of items r ≡ get_or lists k []
list_at items rs lists k r e at h = grind (arith, common_steps)

pub range_inside : (items : List ℕ) (rs : List (ℕ × ℕ)) (lists : List (List ℕ)) (k : ℕ) (r : ℕ × ℕ)
    → ranges_of items rs ≡ lists → r ≡ get_or rs k r
    → k < length lists → AreWithin (length items) rs → r.0 + r.1 ≤ length items
range_inside items rs lists k r e at h w = grind (arith, common_steps)

-- a range and a number behind it
pub extended_length : (items : List ℕ) (r : ℕ × ℕ) (number : ℕ) → r.0 + r.1 ≤ length items
    → r.1 + 1 ≡ length (range_of items r ++ number ∷ [])
extended_length items r number h = grind (arith, common_steps)

pub always_on_err : {A E : Type 0} (r : Result A E) (P : Type 0) → P → OnErr r P
always_on_err r P p = grind arith

range_mapped : (f : ℕ → ℕ) (items : List ℕ) (r : ℕ × ℕ) → range_of (map f items) r ≡ map f (range_of items r)
range_mapped f items r = grind (arith, drop-map, take-map)

map_same : (f g : ℕ → ℕ) (xs : List ℕ) → ((k : ℕ) → Contains xs k → f k ≡ g k) → map f xs ≡ map g xs
map_same f g [] same = refl
map_same f g (x ∷ xs) same =
    rw (same x (0, omega arith, refl), map_same f g xs (λ k w. same k (suc w.0, omega arith, w.2))) refl

ranges_mapped : (f g : ℕ → ℕ) (items : List ℕ) (rs : List (ℕ × ℕ))
    → AllByRecursion (λ (r : ℕ × ℕ). (k : ℕ) → Contains (range_of items r) k → f k ≡ g k) rs
    → ranges_of (map f items) rs ≡ map (λ (list : List ℕ). map g list) (ranges_of items rs)
ranges_mapped f g items [] same = refl
ranges_mapped f g items (r ∷ rs) same =
    rw (range_mapped f items r ∙ map_same f g (range_of items r) same.0, ranges_mapped f g items rs same.1) refl

-- the names of what lists share are the names of each list
pub view_named : (names items : List ℕ) (rs : List (ℕ × ℕ)) (lists : List (List ℕ)) → ranges_of items rs ≡ lists
    → ((a k : ℕ) → a < length lists → Contains (get_or lists a []) k → k < length names)
    → ranges_of (map (name_of names) items) rs ≡ map (λ (list : List ℕ). map (node_at names) list) lists
view_named names items rs lists e below =
    let inside = rw (sym e) at below in
    rw (sym e) (ranges_mapped (name_of names) (node_at names) items rs (recursion_from_All _ rs (λ a d h k w.
    get_or_default names k k 0 (inside a k (omega (arith, h, length-map rs (range_of items)))
    (rw (get_or-map (range_of items) rs a d [] h) w)))))
