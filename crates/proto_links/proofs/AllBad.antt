-- The bad imports of one file, put into a list, and those of one file behind those of the files before it.
use Rattle.proto_links.proofs.Common.{◌≡◌, ◌∙◌, sym, ap, refl, ℕ, ◌+◌, ◌-◌, ◌<◌, inl, inr, List, [], ◌++◌, length, length-append, length-map, map, get_or-map, arith, cases_lt, Contains, Contains-append_left, Contains-get_or, ◌↔◌, FileDesc, Kind, spot, IsWrong, IsWrongAt, IsWrongIn, IsBad, imports_at}
use Rattle.std.proofs.lemmas.List.{get_or_append_left, get_or-append_right}
use Rattle.std.proofs.lemmas.List.Elements.{Contains-append_right, Contains-append_cases}
use Rattle.std.specs.Prelude.{AllPairs}
use Rattle.proto_base.proofs.Gains.{gains_same}
use Rattle.proto_base.proofs.Spots.{same_spot}
use Rattle.proto_base.specs.Least as least
use Rattle.proto_base.specs.Sets.{Each, Gains}
use Rattle.proto_base.specs.declared.spot.Spot.{Spot}
use Rattle.proto_desc.specs.declared.file.ImportDescriptor.{ImportDescriptor}
use Rattle.proto_links.proofs.Faulting.{importer_inside}
use Rattle.proto_links.specs.Bad.{AreAllBad, Precedes}
use Rattle.proto_links.specs.Graphs.{AreBadTo, spot_of_file}
use Rattle.proto_links.specs.declared.bad.FileSpot.{FileSpot}

-- ---- the imports of one file

module _ (files : List FileDesc) (a : ℕ) where
  -- what is wrong with an import is at most one thing
  pub wrong_one : (i : ImportDescriptor) (k : Kind) (old new : List Spot)
      → IsWrong files a i k × ((l : Kind) → IsWrong files a i l → l ≡ k)
      → Gains (λ x. x ≡ spot i.place k) old new → Gains (IsWrongAt files a i) old new
  wrong_one i k old new (wrong, only) gains = gains_same gains (λ x. (
    λ is. rw is (refl, wrong),
    λ w. same_spot x (spot i.place k) (ap (λ p. p.offset) (sym w.0)) (only x.kind w.1),
  ))

  pub wrong_each : (xs : List ImportDescriptor) (x : Spot) → Each xs (IsWrongAt files a) x ↔ IsWrongIn files a xs x
  wrong_each xs x = (
    λ w. (w.1, (w.0, w.2.0, w.2.1), w.3.0, w.3.1),
    λ v. (v.1.0, v.0, (v.1.1, v.1.2), (v.2, v.3)),
  )

-- ---- the spots of one file

spots_are : (a : ℕ) (spots : List Spot) (x : FileSpot)
    → Contains (map (spot_of_file a) spots) x ↔ ((x.file ≡ a) × Contains spots x.spot)
spots_are a spots x = (
  λ (k, below, is).
      let inside : k < length spots = omega (arith, below, length-map spots (spot_of_file a)) in
      let made = sym (get_or-map (spot_of_file a) spots k x.spot x inside) ∙ is in
      (ap (λ (y : FileSpot). y.file) (sym made), (k, inside, ap (λ (y : FileSpot). y.spot) made)),
  λ (same, (k, below, is)). (
    k,
    omega (arith, below, length-map spots (spot_of_file a)),
    get_or-map (spot_of_file a) spots k x.spot x below ∙ ap (spot_of_file a) is
        ∙ ap (λ b. spot_of_file b x.spot) (sym same),
  ),
)

spots_in_order : (a : ℕ) (spots : List Spot) → AllPairs least.Precedes spots
    → AllPairs Precedes (map (spot_of_file a) spots)
spots_in_order a spots order i j d before below =
    let inside : j < length spots = omega (arith, below, length-map spots (spot_of_file a)) in
    rw (
      get_or-map (spot_of_file a) spots i d.spot d (omega (arith, before, inside)),
      get_or-map (spot_of_file a) spots j d.spot d inside,
    ) (inr (refl, order i j d.spot before inside))

-- lists of which the one stands before the other
pairs_append : {X : Type 0} (R : X → X → Type 0) (xs ys : List X) → AllPairs R xs → AllPairs R ys
    → ((x y : X) → Contains xs x → Contains ys y → R x y) → AllPairs R (xs ++ ys)
pairs_append R xs ys first second across i j d before below = elim (cases_lt j (length xs)) [
  | inl left ↦ rw (get_or_append_left xs ys d i (omega arith), get_or_append_left xs ys d j left)
      (first i j d before left)
  | inr right ↦ (
      let inside : j - length xs < length ys = omega (arith, length-append xs ys) in
      rw (get_or-append_right xs ys (length xs) j d refl right) (elim (cases_lt i (length xs)) [
        | inl low ↦ rw (get_or_append_left xs ys d i low)
            (across _ _ (Contains-get_or xs i d low) (Contains-get_or ys (j - length xs) d inside))
        | inr high ↦ rw (get_or-append_right xs ys (length xs) i d refl high)
            (second (i - length xs) (j - length xs) d (omega arith) inside)
      ]))
]

-- ---- one file more

pub bad_none : {files : List FileDesc} {bad : List FileSpot} → bad ≡ [] → AreBadTo files 0 bad
bad_none none = rw none (record {
  all = λ x. (λ (k, below, is). absurd (omega (arith, below)), λ w. absurd (omega (arith, w.0)));
  order = λ i j d before below. absurd (omega (arith, below));
})

module _ {files : List FileDesc} {n : ℕ} {old : List FileSpot} (before : AreBadTo files n old) where
  pub bad_more : {new : List FileSpot} (spots : List Spot) → new ≡ old ++ map (spot_of_file n) spots
      → ((x : Spot) → Contains spots x ↔ IsBad files n x.place x.kind) → AllPairs least.Precedes spots
      → AreBadTo files (n + 1) new
  bad_more spots is are order =
      let own = spots_are n spots in
      rw is (record {
        all = λ x. (
          λ w. elim (Contains-append_cases old (map (spot_of_file n) spots) x w) [
            | inl there ↦ (let bad = (before.all x).0 there in (omega (arith, bad.0), bad.1))
            | inr here ↦ (let (same, one) = (own x).0 here in
                (omega (arith, same), rw (sym same) at ((are x.spot).0 one)))
          ],
          λ (below, bad). elim (cases_lt x.file n) [
            | inl less ↦ Contains-append_left old (map (spot_of_file n) spots) x ((before.all x).1 (less, bad))
            | inr over ↦ (let same : x.file ≡ n = omega arith in
                Contains-append_right old (map (spot_of_file n) spots) x
                ((own x).1 (same, (are x.spot).1 (rw same at bad))))
          ],
        );
        order = pairs_append Precedes old (map (spot_of_file n) spots) before.order (spots_in_order n spots order)
            (λ x y w v. inl (omega (arith, ((before.all x).0 w).0, ((own y).0 v).0)));
      })

  -- a file without imports
  pub bad_skip : length (imports_at files n) ≡ 0 → AreBadTo files (n + 1) old
  bad_skip none = record {
    all = λ x. (
      λ w. (let bad = (before.all x).0 w in (omega (arith, bad.0), bad.1)),
      λ (below, bad). elim (cases_lt x.file n) [
        | inl less ↦ (before.all x).1 (less, bad)
        | inr over ↦ (let same : x.file ≡ n = omega arith in
            let (k, below, is) = rw same at bad.1 in absurd (omega arith))
      ],
    );
    order = before.order;
  }

  pub bad_all : n ≡ length files → AreAllBad files old
  bad_all all = record {
    all = λ x. (
      λ w. ((before.all x).0 w).1,
      λ bad. (before.all x).1 (omega (arith, importer_inside files x.file bad.0 bad.1), bad),
    );
    order = before.order;
  }
