-- All faults of the pass of the first.
use Rattle.std.proofs.Common.{◌≡◌, ◌∙◌, ap, refl, sym, ℕ, ◌<◌, ◌≤◌, inl, inr, List, [], ◌∷◌, map, arith, Contains}
use Rattle.std.specs.Prelude.{AllPairs, ◌↔◌}
use Rattle.std.proofs.lemmas.Bool.{cases_order}
use Rattle.proto_base.specs.declared.limits.Limits.{Limits}
use Rattle.proto_base.specs.declared.kind.Kind.TheVariants as kind
use Rattle.proto_compile.specs.FaultSet.{Breaks, IsEarlier, IsFault, IsLeastFault, SourceFault, bad_import, bad_type, file_fault, long_descriptor, long_set, many_files, many_names, of_list, repeated_file_name, repeated_name}
use Rattle.proto_compile.specs.declared.source.Source.{Source}
use Rattle.proto_compile.proofs.LeastFault.{one_fault}
use Rattle.share_work.proofs.Sums.{front, front_or_behind, none_in, pairs_first}
use Rattle.file_faults.specs.PassFaults.{AreAllFaults, AreFaultsFrom, IsToldAlone}

module _ (limits : Limits) (sources : List Source) (first : SourceFault)
    (least : IsLeastFault limits sources first) where
  -- exactly what is broken in the pass of the first
  pub of_pass : (told : List SourceFault)
      → ((x : SourceFault) → (Breaks limits sources x × (x.pass ≡ first.pass)) ↔ Contains told x)
      → AreAllFaults limits sources told
  of_pass told same x = (
    λ inside. (
        let (breaks, pass) = (same x).1 inside in
        record { breaks = breaks; judged = λ y also less. least.among.judged y also (omega (arith, less, pass)) }),
    λ is. elim (cases_order x.pass first.pass) [
      | inl one ↦ (same x).0 (is.breaks, one)
      | inr (inl less) ↦ absurd (least.among.judged x is.breaks less)
      | inr (inr over) ↦ absurd (is.judged first least.among.breaks over)
    ],
  )

  -- the first stands in front
  begins : (told : List SourceFault) → AreAllFaults limits sources told → AllPairs IsEarlier told
      → (rest : List SourceFault) × (told ≡ first ∷ rest)
  begins [] all up = absurd (none_in first ((all first).1 least.among))
  begins (y ∷ rest) all up = elim (front_or_behind y rest first ((all first).1 least.among)) [
    | inl is ↦ (rest, rw is refl)
    | inr later ↦ (
        let before = pairs_first IsEarlier y rest up first later in
        let is = one_fault y first (λ greater. (cc)) (least.least y ((all y).0 (front y rest))) in (rest, rw is refl))
  ]

  pub all_from : (told : List SourceFault) → (IsToldAlone first → ⊥) → AreAllFaults limits sources told
      → AllPairs IsEarlier told → AreFaultsFrom limits sources first told
  all_from told several all up = let (rest, is) = begins told all up in record {
    rest = rest;
    begins = is;
    are = λ x inside. (all x).0 inside;
    alone = λ one. absurd (several one);
    all = λ _. all;
    order = up;
  }

  one_pair : AllPairs IsEarlier (first ∷ [])
  one_pair i j d before below = absurd (omega (arith, before, below))

  pub alone_from : IsToldAlone first → AreFaultsFrom limits sources first (first ∷ [])
  alone_from one = record {
    rest = [];
    begins = refl;
    are = λ x inside. elim (front_or_behind first [] x inside) [
      | inl here ↦ rw (← here) least.among
      | inr later ↦ absurd (none_in x later)
    ];
    alone = λ _. refl;
    all = λ several. absurd (several one);
    order = one_pair;
  }

  -- the only one of the last pass
  of_set : (x : SourceFault) → Breaks limits sources x → x.pass ≡ 6 → x ≡ of_list 6 kind.SetTooLong
  of_set _ (long_set c written over) pass = refl
  of_set x breaks pass = absurd (omega (arith, pass))

  pub set_from : first.pass ≡ 6 → AreFaultsFrom limits sources first (first ∷ [])
  set_from pass =
      let is = of_set first least.among.breaks pass in
      all_from (first ∷ []) (λ one. grind (arith, pass)) (of_pass (first ∷ []) (λ x. (
        λ w. (let also = of_set x w.0 (w.1 ∙ pass) in rw (also ∙ sym is) (front first [])),
        λ inside. elim (front_or_behind first [] x inside) [
          | inl here ↦ rw (← here) (least.among.breaks, refl)
          | inr later ↦ absurd (none_in x later)
        ],
      ))) one_pair

  -- there is no later pass
  pass_few : (x : SourceFault) → Breaks limits sources x → x.pass ≤ 6
  pass_few _ (many_files over) = omega arith
  pass_few _ (repeated_file_name i j less below same) = omega arith
  pass_few _ (file_fault s f inside wrong) = omega arith
  pass_few _ (bad_import descs a place what described bad) = omega arith
  pass_few _ (many_names descs described over) = omega arith
  pass_few _ (repeated_name descs o described twice) = omega arith
  pass_few _ (bad_type descs a desc place what described stands breaks) = omega arith
  pass_few _ (long_descriptor files typed links index a desc resolved stands over) = omega arith
  pass_few _ (long_set c written over) = omega arith

  -- a fault that no pass over files finds but that over lengths
  pub last_from : (first.pass ≡ 1 → ⊥) → (first.pass ≡ 2 → ⊥) → (first.pass ≡ 3 → ⊥) → (first.pass ≡ 4 → ⊥)
      → AreFaultsFrom limits sources first (first ∷ [])
  last_from a b c d = elim (cases_order first.pass 6) [
    | inl last ↦ set_from last
    | inr (inl less) ↦ elim (cases_order first.pass 0) [
      | inl none ↦ alone_from (inl none)
      | inr (inl less) ↦ absurd (omega (arith, less))
      | inr (inr over) ↦ alone_from (inr (inr (omega (arith, less, over, a, b, c, d))))
    ]
    | inr (inr over) ↦ absurd (omega (arith, over, pass_few first least.among.breaks))
  ]
