-- Laws of the spelling of numbers.
use Rattle.std.proofs.Common.{length, ◌≡◌, ◌∙◌, ℕ, zero, suc, ◌+◌, ◌*◌, ◌/◌, ◌%◌, ◌^◌, ◌<◌, ◌≤◌, List, [], ◌∷◌, ap, refl, arith}
use Rattle.std.proofs.lemmas.Bool.Decides.{nat_tests}
use Rattle.std.proofs.Math.Nat.{div-lt_iff_lt-mul}
use Rattle.wire_format.specs.Varint.{Spells, groups, varint_bytes}

small_rest : (k n : ℕ) → n < 128 ^ suc (suc k) → n / 128 < 128 ^ suc k
small_rest k n h = grind (arith, div-lt_iff_lt-mul)

groups-small : (k n : ℕ) → n < 128 → groups k n ≡ n ∷ []
unfolding groups
groups-small k n h = grind (arith, nat_tests)

groups-large : (k n : ℕ) → 128 ≤ n → groups (suc k) n ≡ (n % 128 + 128) ∷ groups k (n / 128)
unfolding groups
groups-large k n h = grind (arith, nat_tests)

-- one more group changes nothing where the number has room
groups-more : (k n : ℕ) → n < 128 ^ suc k → groups k n ≡ groups (suc k) n
groups-more zero n h = grind (arith, groups-small)
groups-more (suc k) n h = grind (arith, groups-small, groups-large, small_rest, groups-more k (n / 128))

pub varint_bytes-small : (n : ℕ) → n < 128 → varint_bytes n ≡ n ∷ []
unfolding varint_bytes
varint_bytes-small n h = groups-small 9 n h

pub varint_bytes-step : (n : ℕ) → n < 2 ^ 64 → 128 ≤ n → varint_bytes n ≡ (n % 128 + 128) ∷ varint_bytes (n / 128)
unfolding varint_bytes
varint_bytes-step n fits h = groups-large 8 n h ∙ ap (λ r. (n % 128 + 128) ∷ r) (groups-more 8 (n / 128) (omega arith))

-- ---- what is written is the shortest spelling

pub spells_more : (b high n : ℕ) (bytes : List ℕ) → 128 ≤ b → b < 256 → n + 128 ≡ b + 128 * high → Spells bytes high
    → Spells (b ∷ bytes) n
spells_more b high n bytes large small split spelled = grind arith

groups_spelled : (k n : ℕ) → n < 128 ^ suc k → Spells (groups k n) n
unfolding groups
groups_spelled zero n h = let small : n < 128 = omega (arith, h) in (small, refl)
groups_spelled (suc k) n h =
    grind (arith, groups-small, groups-large, small_rest, spells_more, groups_spelled k (n / 128))

groups_short : (k n : ℕ) → length (groups k n) ≤ suc k
unfolding groups
groups_short zero n = omega arith
groups_short (suc k) n = grind (arith, groups-small, groups-large, groups_short k (n / 128))

pub groups_shortest : (k n : ℕ) (bytes : List ℕ) → n < 128 ^ suc k → Spells bytes n → length (groups k n) ≤ length bytes
groups_shortest k n [] h spelled = absurd spelled
groups_shortest k n (b ∷ []) h spelled = grind (arith, groups-small)
groups_shortest zero n (b ∷ c ∷ bytes) h spelled = grind (arith, groups-small)
groups_shortest (suc k) n (b ∷ c ∷ bytes) h spelled =
    grind (arith, groups-small, groups-large, small_rest, groups_shortest k (n / 128) (c ∷ bytes))

pub varint_spelled : (n : ℕ) → n < 2 ^ 64 → Spells (varint_bytes n) n
unfolding varint_bytes
varint_spelled n fits = groups_spelled 9 n (omega (arith, fits))

pub varint_short : (n : ℕ) → length (varint_bytes n) ≤ 10
unfolding varint_bytes
varint_short n = groups_short 9 n
