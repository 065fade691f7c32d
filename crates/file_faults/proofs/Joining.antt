-- The spots of each file as one list.
use Rattle.std.proofs.Common.{◌≡◌, ◌∙◌, ap, refl, sym, ℕ, zero, suc, ◌+◌, ◌<◌, ◌≤◌, ◌⊎◌, inl, inr, List, [], ◌∷◌, ◌++◌, Vec, Global, length, map, take, get_or, arith, All, Contains, append_assoc, add-zero, add-one}
use Rattle.std.specs.Prelude.{AllPairs, ◌↔◌}
use Rattle.std.proofs.lemmas.List.{append-nil}
use Rattle.std.proofs.lemmas.List.Elements.{Contains-append_cases, Contains-append_left, Contains-append_right}
use Rattle.proto_base.specs.Least.{Precedes as SpotPrecedes}
use Rattle.proto_base.specs.Sets.{StandsAt}
use Rattle.proto_base.specs.declared.spot.Spot.{Spot}
use Rattle.proto_links.specs.Bad.{Precedes}
use Rattle.proto_links.specs.declared.bad.FileSpot.{FileSpot}
use Rattle.share_work.proofs.Sums.{in_map, none_in, of_map, pairs_cons, pairs_first, all_of}
use Rattle.file_faults.specs.FaultSpots.{in_file, spots_from}
use Rattle.file_faults.proofs.Telling.{pairs_behind}

-- ---- one row more

rows_next : (a : ℕ) (rows : List (Vec Spot Global)) (k : ℕ) (row : Vec Spot Global) → k < length rows
    → spots_from a (take (suc k) rows) ≡ spots_from a (take k rows) ++ map (in_file (a + k)) (get_or rows k row).items
rows_next a [] k row h = absurd (omega (arith, h))
rows_next a (r ∷ rows) zero row h = rw add-zero (append-nil (map (in_file a) r.items))
rows_next a (r ∷ rows) (suc k) row h =
    let next : a + suc k ≡ a + 1 + k = omega arith in
    rw next (ap (λ later. map (in_file a) r.items ++ later) (rows_next (a + 1) rows k row (omega (arith, h)))
    ∙ sym (append_assoc (map (in_file a) r.items) _ _))

pub rows_more : (rows : List (Vec Spot Global)) (k : ℕ) (row : Vec Spot Global) (old new : List FileSpot)
    → k < length rows → row ≡ get_or rows k row → new ≡ old ++ map (in_file k) row.items
    → old ≡ spots_from 0 (take k rows) → new ≡ spots_from 0 (take (k + 1) rows)
rows_more rows k row old new h at added so_far =
    let next = rows_next 0 rows k row h in rw add-one (grind (arith, next, at, added, so_far))

-- ---- what stands in them

pub spots_to : (a : ℕ) (rows : List (Vec Spot Global)) (x : FileSpot) → Contains (spots_from a rows) x → (k : ℕ)
    × (row : Vec Spot Global) × StandsAt rows k row × (x.file ≡ a + k) × Contains row.items x.spot
spots_to a [] x inside = absurd (none_in x inside)
spots_to a (r ∷ rows) x inside = elim (Contains-append_cases (map (in_file a) r.items) (spots_from (a + 1) rows) x inside) [
  | inl here ↦ (
      let (s, there, is) = of_map (in_file a) r.items x here in
      (0, r, (omega arith, refl), rw (← is, add-zero) refl, rw (← is) there))
  | inr later ↦ (
      let (k, row, at, file, there) = spots_to (a + 1) rows x later in
      (suc k, row, (omega (arith, at.0), at.1), omega (arith, file), there))
]

pub to_spots : (a : ℕ) (rows : List (Vec Spot Global)) (k : ℕ) (row : Vec Spot Global) (s : Spot)
    → StandsAt rows k row → Contains row.items s → Contains (spots_from a rows) (in_file (a + k) s)
to_spots a [] k row s at inside = absurd (omega (arith, at.0))
to_spots a (r ∷ rows) zero row s at inside = rw add-zero (Contains-append_left (map (in_file a) r.items)
    (spots_from (a + 1) rows) (in_file a s) (in_map (in_file a) r.items s (rw (sym at.1) at inside)))
to_spots a (r ∷ rows) (suc k) row s at inside =
    let next : a + suc k ≡ a + 1 + k = omega arith in
    rw next (Contains-append_right (map (in_file a) r.items) (spots_from (a + 1) rows) (in_file (a + 1 + k) s)
    (to_spots (a + 1) rows k row s (omega (arith, at.0), at.1) inside))

pub rows_within : (rows : List (Vec Spot Global)) (n : ℕ) → length rows ≤ n
    → All (λ (x : FileSpot). x.file < n) (spots_from 0 rows)
rows_within rows n fits = all_of (λ (x : FileSpot). x.file < n) (spots_from 0 rows) (λ x inside. (
    let (k, row, at, file, there) = spots_to 0 rows x inside in omega (arith, file, at.0, fits)))

-- ---- their order

-- those of a file before those of later ones
row_in_front : (a : ℕ) (row : List Spot) (later : List FileSpot) → AllPairs SpotPrecedes row → AllPairs Precedes later
    → ((y : FileSpot) → Contains later y → a < y.file) → AllPairs Precedes (map (in_file a) row ++ later)
row_in_front a [] later order up behind = up
row_in_front a (s ∷ row) later order up behind = pairs_cons Precedes (in_file a s) (map (in_file a) row ++ later)
    (λ y inside. elim (Contains-append_cases (map (in_file a) row) later y inside) [
      | inl here ↦ (
          let (t, there, is) = of_map (in_file a) row y here in
          rw (sym is) (inr (refl, pairs_first SpotPrecedes s row order t there)))
      | inr there ↦ inl (behind y there)
    ])
    (row_in_front a row later (pairs_behind SpotPrecedes s row order) up behind)

pub rows_in_order : (a : ℕ) (rows : List (Vec Spot Global))
    → ((k : ℕ) (row : Vec Spot Global) → StandsAt rows k row → AllPairs SpotPrecedes row.items)
    → AllPairs Precedes (spots_from a rows)
rows_in_order a [] each = λ i j d before below. absurd (omega (arith, below))
rows_in_order a (r ∷ rows) each = row_in_front a r.items (spots_from (a + 1) rows) (each 0 r (omega arith, refl))
    (rows_in_order (a + 1) rows (λ k row at. each (suc k) row (omega (arith, at.0), at.1)))
    (λ y inside. (let (k, row, at, file, there) = spots_to (a + 1) rows y inside in omega (arith, file)))
