-- From the first fault of sources to all of its pass.
use Rattle.std.proofs.Common.{◌≡◌, ◌∙◌, ap, refl, sym, subst, ℕ, ◌<◌, ◌≤◌, inl, inr, List, [], ◌∷◌, length, map, arith, Contains}
use Rattle.std.specs.Prelude.{AllPairs, ◌↔◌}
use Rattle.std.proofs.lemmas.Bool.{cases_lt}
use Rattle.proto_base.specs.Limits.{limit_of}
use Rattle.proto_base.specs.declared.fault.Fault.{Fault}
use Rattle.proto_base.specs.declared.file_fault.FileFault.{FileFault}
use Rattle.proto_base.specs.declared.kind.Kind.TheVariants as kind
use Rattle.proto_base.specs.declared.limits.Limit.TheVariants as limit
use Rattle.proto_base.specs.declared.limits.Limits.{Limits}
use Rattle.proto_compile.specs.Descriptions.{Describe}
use Rattle.proto_compile.specs.FaultSet.{Breaks, IsEarlier, IsLeastFault, SourceFault, TellsOf, bad_import, fault, file_fault, many_names, of_file, of_list, repeated_name, told_by}
use Rattle.proto_compile.specs.Sources.{AreByName, name_of, text_of}
use Rattle.proto_compile.specs.declared.error.CompileError.{CompileError}
use Rattle.proto_compile.specs.declared.error.CompileError.TheVariants as errors
use Rattle.proto_compile.specs.declared.source.Source.{Source}
use Rattle.proto_compile.proofs.LeastFault.{descs_rise, many_names_least, none_of_list, one_least}
use Rattle.proto_compile.proofs.OneTyping.{as_described}
use Rattle.proto_desc.specs.declared.file.FileDesc.{FileDesc}
use Rattle.proto_file.specs.Local.{IsOwnFault}
use Rattle.proto_links.specs.Bad.{Precedes}
use Rattle.proto_links.specs.Imports as imports
use Rattle.proto_links.specs.declared.bad.FileSpot.{FileSpot}
use Rattle.proto_names.specs.Occurrences.{occurrences}
use Rattle.share_work.proofs.Sums.{in_map, of_map}
use Rattle.file_faults.specs.FaultSpots.{AreSpotsOf, AreWithin, CanBeTyped, HasNoSpots, IsLater, fault_at, of_imports, of_names, of_types}
use Rattle.file_faults.specs.OwnFaults.{AreFileFaults}
use Rattle.file_faults.specs.PassFaults.{AreFaultsFrom, IsToldAlone}
use Rattle.file_faults.proofs.From.{all_from, alone_from, of_pass}
use Rattle.file_faults.proofs.Spotting.{IsAtSpots, imports_at, in_spot_order, names_at, types_at}
use Rattle.file_faults.proofs.Telling.{all_faults, both_hold, in_order, own_told}

-- one of these sources has it by itself
abbrev pub IsOfOne : Limits → List Source → SourceFault → Type 0
IsOfOne limits files x = (s : Source) × Contains files s
    × ((f : FileFault) × IsOwnFault limits (name_of s) (text_of s) f × (x ≡ fault 1 (name_of s) f))

module _ (limits : Limits) (sources : List Source) (first : SourceFault)
    (least : IsLeastFault limits sources first) where
  -- ---- the list of sources, and each by itself

  pub list_from : (e : CompileError) (f : Fault) → e ≡ errors.First f → TellsOf (IsLeastFault limits sources) e
      → TellsOf (λ x. x.pass ≡ 0) e → AreFaultsFrom limits sources first (told_by f ∷ [])
  list_from e f is tells none =
      let P : CompileError → Type 0 = λ x. TellsOf (IsLeastFault limits sources) x in
      let Q : CompileError → Type 0 = λ x. TellsOf (λ y. y.pass ≡ 0) x in
      let one = one_least limits sources first (told_by f) least (subst P is tells) in
      let pass : first.pass ≡ 0 = ap (λ (x : SourceFault). x.pass) one ∙ subst Q is none in
      subst (λ x. AreFaultsFrom limits sources first (x ∷ [])) one (alone_from limits sources first least (inl pass))

  pub local_from : (files : List Source) → first.pass ≡ 1 → length sources ≤ limit_of limits limit.Files
      → AreByName sources files → (told : List SourceFault) → AreFileFaults limits files told
      → AreFaultsFrom limits sources first told
  local_from files pass few order told each =
      let same = both_hold sources files order in
      let inside = own_told limits sources files told same each first least.among.breaks pass in
      all_from limits sources first least told (λ one. grind (arith, pass))
      (all_faults limits sources files told same each (none_of_list limits sources files few order) first inside)
      (in_order limits files told order.rises each)

  -- no source has a fault by itself where the first is of a later pass
  pub none_by_itself : (files : List Source) → AreByName sources files → IsLater first → (e : CompileError) (f : Fault)
      → e ≡ errors.First f → TellsOf (IsOfOne limits files) e → ⊥
  none_by_itself files order later e f is tells =
      let P : CompileError → Type 0 = λ x. TellsOf (IsOfOne limits files) x in
      let (s, inside, (g, own, at)) = subst P is tells in
      let breaks = file_fault s g ((both_hold sources files order s).0 inside) own in
      let pass : 1 < first.pass = grind (arith, later) in
      least.among.judged (fault 1 (name_of s) g) breaks pass

  -- ---- what they describe

  module _ {files : List Source} {descs : List FileDesc} (d : Describe limits sources files descs) where
    none_bad : 2 < first.pass → imports.NoneBad descs
    none_bad behind a place what bad = least.among.judged (of_file 2 (imports.name_at descs a) place what)
        (bad_import descs a place what (as_described d) bad) behind

    can_be_typed : 3 < first.pass → CanBeTyped limits descs
    can_be_typed behind = record {
      imports = none_bad (omega (arith, behind));
      few = elim (cases_lt (limit_of limits limit.Names) (length (occurrences descs))) [
        | inl over ↦ absurd (least.among.judged (of_list 3 kind.TooManyNames)
            (many_names descs (as_described d) over) behind)
        | inr few ↦ few
      ];
      names = λ o twice. least.among.judged
          (of_file 3 (imports.name_at descs o.file) o.place kind.NameTwice)
          (repeated_name descs o (as_described d) twice) behind;
    }

    spots_from : (p : ℕ) (spots : List FileSpot) → first.pass ≡ p → (IsToldAlone first → ⊥)
        → IsAtSpots limits sources p descs spots → AreWithin descs spots → AllPairs Precedes spots
        → AreFaultsFrom limits sources first (map (fault_at p descs) spots)
    spots_from p spots same several at within order =
        let told = map (fault_at p descs) spots in
        all_from limits sources first least told several (of_pass limits sources first least told (λ x. (
          λ w. (let (y, inside, is) = (at x).0 (w.0, w.1 ∙ same) in
              subst (Contains told) (sym is) (in_map (fault_at p descs) spots y inside)),
          λ inside. (let (y, there, is) = of_map (fault_at p descs) spots x inside in
              let (breaks, pass) = (at x).1 (y, there, sym is) in (breaks, pass ∙ sym same)),
        ))) (in_spot_order p descs (descs_rise limits sources d) spots within order)

    -- where not too many names are declared, that is not the fault
    not_many : (spots : List FileSpot) → first.pass ≡ 3 → IsAtSpots limits sources 3 descs spots
        → ((y : FileSpot) → Contains spots y → y.spot.kind ≡ kind.NameTwice) → IsToldAlone first → ⊥
    not_many spots same at twice one =
        let (y, inside, is) = (at first).0 (least.among.breaks, same) in
        let what : first.kind ≡ kind.NameTwice = ap (λ (x : SourceFault). x.kind) is ∙ twice y inside in
        grind (arith, one, same, what)

    pub later_from : (p : ℕ) (spots : List FileSpot) → first.pass ≡ p → AreSpotsOf limits descs p spots
        → AreWithin descs spots → AreFaultsFrom limits sources first (map (fault_at p descs) spots)
    later_from _ _ same (of_imports spots are) within = spots_from 2 spots same (λ one. grind (arith, same))
        (imports_at limits sources d spots are) within are.order
    later_from _ _ same (of_names spots are few) within =
        let at = names_at limits sources d spots are few in
        spots_from 3 spots same (not_many spots same at (λ y inside. (
        let (o, is, told) = (are.all y).0 inside in ap (λ (x : FileSpot). x.spot.kind) told))) at within are.order
    later_from _ _ same (of_types spots all) within =
        let are = all (can_be_typed (omega (arith, same))) in
        spots_from 4 spots same (λ one. grind (arith, same)) (types_at limits sources d spots are) within are.order

    pub many_from : IsLater first → HasNoSpots limits descs first.pass → AreFaultsFrom limits sources first (first ∷ [])
    many_from (inl two) none = absurd (none.imports two)
    many_from (inr (inl three)) none =
        let whole = none_bad (omega (arith, three)) in
        let is = one_least limits sources first (of_list 3 kind.TooManyNames) least
        (many_names_least limits sources files descs d whole (none.names three)) in
        alone_from limits sources first least (inr (inl (three, ap (λ (x : SourceFault). x.kind) is)))
    many_from (inr (inr four)) none = absurd (none.types four)
