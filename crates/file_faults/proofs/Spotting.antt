-- Where what sources describe breaks rules, and the faults that are told of it.
use Rattle.std.proofs.Common.{◌≡◌, ◌∙◌, ap, refl, sym, ℕ, suc, ◌<◌, ◌≤◌, inl, inr, List, [], ◌∷◌, length, map, arith, All, Contains}
use Rattle.std.specs.Prelude.{AllPairs, ◌↔◌}
use Rattle.std.proofs.lemmas.Bool.Decides.{nat_tests}
use Rattle.std.proofs.lemmas.Cmp.{nat_list_cmp_total, tied_itself}
use Rattle.std.proofs.lemmas.List.{length-map}
use Rattle.std.proofs.lemmas.List.Elements.{All-contains}
use Rattle.proto_base.specs.Least.{spot}
use Rattle.proto_base.specs.Limits.{limit_of}
use Rattle.proto_base.specs.NameOrder.{NamesRise}
use Rattle.proto_base.specs.declared.limits.Limit.TheVariants as limit
use Rattle.proto_base.specs.declared.limits.Limits.{Limits}
use Rattle.proto_compile.specs.Descriptions.{Describe}
use Rattle.proto_compile.specs.FaultSet.{Breaks, IsEarlier, SourceFault, bad_import, bad_type, many_names, repeated_name}
use Rattle.proto_compile.specs.declared.source.Source.{Source}
use Rattle.proto_compile.proofs.OneTyping.{as_described, one_described}
use Rattle.proto_desc.specs.declared.file.FileDesc.{FileDesc}
use Rattle.proto_links.proofs.NameRows.{rise_far}
use Rattle.proto_links.specs.Bad.{AreAllBad, Precedes}
use Rattle.proto_links.specs.Imports.{name_of}
use Rattle.proto_links.specs.declared.bad.FileSpot.{FileSpot}
use Rattle.proto_names.specs.Occurrences.{occurrences}
use Rattle.proto_names.specs.Repeated.{AreAllTwice, name_twice}
use Rattle.share_work.proofs.Sums.{front, behind, none_in, of_map, pairs_cons, pairs_first}
use Rattle.file_faults.specs.FaultSpots.{AreAllTypeFaults, AreWithin, fault_at}
use Rattle.file_faults.proofs.Telling.{pairs_behind}

-- ---- a pass

module _ (limits : Limits) (sources : List Source) where
  -- what is broken in a pass is broken at these spots
  abbrev pub IsAtSpots : ℕ → List FileDesc → List FileSpot → Type 0
  IsAtSpots pass descs spots = (x : SourceFault)
      → (Breaks limits sources x × (x.pass ≡ pass)) ↔ ((y : FileSpot) × Contains spots y × (x ≡ fault_at pass descs y))

  module _ {files : List Source} {descs : List FileDesc} (d : Describe limits sources files descs)
      (spots : List FileSpot) where
    imports_to : AreAllBad descs spots → (x : SourceFault) → Breaks limits sources x → x.pass ≡ 2
        → (y : FileSpot) × Contains spots y × (x ≡ fault_at 2 descs y)
    imports_to are _ (bad_import others a place what described bad) same =
        let one = (one_described described (as_described d)).1 in
        let y : FileSpot = record { file = a; spot = spot place what } in
        (y, (are.all y).1 (rw one at bad), rw one refl)
    imports_to are x breaks same = absurd (omega (arith, same))

    pub imports_at : AreAllBad descs spots → IsAtSpots 2 descs spots
    imports_at are x = (
      λ w. imports_to are x w.0 w.1,
      λ (y, inside, is). rw is (
        bad_import descs y.file y.spot.place y.spot.kind (as_described d) ((are.all y).0 inside),
        refl,
      ),
    )

    names_to : AreAllTwice (occurrences descs) spots → length (occurrences descs) ≤ limit_of limits limit.Names
        → (x : SourceFault) → Breaks limits sources x → x.pass ≡ 3
        → (y : FileSpot) × Contains spots y × (x ≡ fault_at 3 descs y)
    names_to are few _ (many_names others described over) same =
        let more = rw (one_described described (as_described d)).1 at over in absurd (omega (arith, more, few))
    names_to are few _ (repeated_name others o described twice) same =
        let one = (one_described described (as_described d)).1 in
        (name_twice o, (are.all (name_twice o)).1 (o, rw one at twice, refl), rw one refl)
    names_to are few x breaks same = absurd (omega (arith, same))

    pub names_at : AreAllTwice (occurrences descs) spots → length (occurrences descs) ≤ limit_of limits limit.Names
        → IsAtSpots 3 descs spots
    names_at are few x = (
      λ w. names_to are few x w.0 w.1,
      λ (y, inside, is). (
          let (o, twice, at) = (are.all y).0 inside in
          rw (is, at) (repeated_name descs o (as_described d) twice, refl)),
    )

    types_to : AreAllTypeFaults descs spots → (x : SourceFault) → Breaks limits sources x → x.pass ≡ 4
        → (y : FileSpot) × Contains spots y × (x ≡ fault_at 4 descs y)
    types_to are _ (bad_type others a desc place what described stands breaks) same =
        let one = (one_described described (as_described d)).1 in
        let y : FileSpot = record { file = a; spot = spot place what } in
        (y, (are.all y).1 (desc, rw one at stands, rw one at breaks), rw one refl)
    types_to are x breaks same = absurd (omega (arith, same))

    pub types_at : AreAllTypeFaults descs spots → IsAtSpots 4 descs spots
    types_at are x = (
      λ w. types_to are x w.0 w.1,
      λ (y, inside, is). (
          let (desc, stands, breaks) = (are.all y).0 inside in
          rw is (bad_type descs y.file desc y.spot.place y.spot.kind (as_described d) stands breaks, refl)),
    )

-- ---- their order

module _ (pass : ℕ) (descs : List FileDesc) (rise : NamesRise (map name_of descs)) where
  earlier : (x y : FileSpot) → y.file < length descs → Precedes x y
      → IsEarlier (fault_at pass descs x) (fault_at pass descs y)
  earlier x y below (inl less) =
      let up = rise_far (map name_of descs) rise x.file y.file less (omega (arith, below, length-map descs name_of)) in
      grind (arith, nat_tests, up)
  earlier x y below (inr (same, before)) =
      let tied = tied_itself nat_list_cmp_total in rw same (grind (arith, nat_tests, tied, before))

  pub in_spot_order : (spots : List FileSpot) → AreWithin descs spots → AllPairs Precedes spots
      → AllPairs IsEarlier (map (fault_at pass descs) spots)
  in_spot_order [] within up = λ i j d before below. absurd (omega (arith, below))
  in_spot_order (x ∷ spots) within up = pairs_cons IsEarlier (fault_at pass descs x) (map (fault_at pass descs) spots)
      (λ z inside. (
      let (y, there, is) = of_map (fault_at pass descs) spots z inside in
      let below = All-contains (λ (v : FileSpot). v.file < length descs) (x ∷ spots) y within (behind x spots y there) in
      rw (sym is) (earlier x y below (pairs_first Precedes x spots up y there))))
      (in_spot_order spots (λ k v h. within (suc k) v (omega (arith, h))) (pairs_behind Precedes x spots up))
