-- What files have in the set, by its length.
use Rattle.std.proofs.Common.{◌≡◌, ℕ, ◌<◌, ◌≤◌, Bool, not, List, map, length, arith, refl, Contains, filter, flat_map}
use Rattle.std.proofs.lemmas.List.{length-map}
use Rattle.std.proofs.lemmas.List.Concat.{length-flat_map}
use Rattle.std.proofs.lemmas.List.Filters.{sum_by-filter_both}
use Rattle.std.proofs.lemmas.List.Sums.{get_or-le-sum_by}
use Rattle.proto_base.specs.NameOrder.{NamesRise}
use Rattle.proto_compilation.specs.Compilation.{Compilation, CompiledFile, IsNamed, bytes_at, file_name, set_of}
use Rattle.proto_compilation.specs.Sound.{IsCoherent}
use Rattle.proto_links.proofs.NameRows.{one_position}
use Rattle.proto_links.specs.Linked.{count_of, reach_of}
use Rattle.proto_links.specs.Whole.{AreReachesWhole}
use Rattle.wire_format.specs.Field.{bytes_field}

-- one of many
one_of : (f : ℕ → List ℕ) (xs : List ℕ) (a : ℕ) → Contains xs a → length (f a) ≤ length (flat_map f xs)
one_of f xs a has = grind (arith, length-flat_map, get_or-le-sum_by)

-- some of many
pub some_of : (f : ℕ → List ℕ) (p : ℕ → Bool) (xs : List ℕ) → length (flat_map f (filter p xs)) ≤ length (flat_map f xs)
some_of f p xs =
    let parts = sum_by-filter_both p (λ b. not (p b)) (λ b. refl) (λ b. length (f b)) xs in
    omega (arith, length-flat_map f (filter p xs), length-flat_map f xs, parts)

pub file_within : (c : Compilation) → AreReachesWhole c.links → (a : ℕ) → a < count_of c.links
    → length (bytes_field 1 (bytes_at c.files a)) ≤ length (set_of c.files c.links)
file_within c whole a below =
    one_of (λ b. bytes_field 1 (bytes_at c.files b)) c.links.set_order a ((whole.every a).1 below)

pub reached_within : (c : Compilation) → AreReachesWhole c.links → (a : ℕ) → a < count_of c.links
    → length (flat_map (λ b. bytes_field 1 (bytes_at c.files b)) (reach_of c.links a)) ≤ length (set_of c.files c.links)
reached_within c whole a below = grind (arith, whole.part a below, some_of)

-- the set order has files alone
pub ordered_within : (c : Compilation) → IsCoherent c → (a : ℕ) → Contains c.links.set_order a → a < length c.files
ordered_within c is a has = omega (arith, (is.reaches.every a).0 has, is.linked)

-- one file has a name
pub named_once : (files : List CompiledFile) → NamesRise (map file_name files) → (name : List ℕ) (a b : ℕ)
    → IsNamed files name a → IsNamed files name b → a ≡ b
named_once files rises name a b na nb = grind (arith, length-map, one_position)
