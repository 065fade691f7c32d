-- Where what sources describe breaks rules, pass by pass.
use Rattle.std.proofs.Common.{◌≡◌, sym, subst, ℕ, ◌<◌, ◌≤◌, List, length, arith, Contains, Result, Ok, Err, Option, None, Some, Vec, Global, IfOk}
use Rattle.std.specs.Prelude.{IfSome, MatchOption}
use Rattle.std.specs.declared.alloc.AllocError.{AllocError}
use Rattle.proto_base.specs.Limits.{limit_of}
use Rattle.proto_base.specs.declared.limits.Limit.TheVariants as limit
use Rattle.proto_base.specs.declared.limits.Limits.{Limits}
use Rattle.proto_compile.proofs.OneTyping.{bad_inside, twice_within}
use Rattle.proto_desc.specs.declared.file.FileDesc.{FileDesc}
use Rattle.proto_links.specs.Bad.{AreAllBad}
use Rattle.proto_links.specs.declared.bad.FileSpot.{FileSpot}
use Rattle.proto_names.specs.Occurrences.{occurrences}
use Rattle.proto_names.specs.Repeated.{AreAllTwice}
use Rattle.share_work.proofs.Sums.{all_of}
use Rattle.file_faults.specs.FaultSpots.{AreSpotsOf, AreWithin, HasNoSpots, of_names}

pub bad_within : (descs : List FileDesc) (bad : List FileSpot) → AreAllBad descs bad → AreWithin descs bad
bad_within descs bad are = all_of (λ (x : FileSpot). x.file < length descs) bad (λ x inside.
    bad_inside descs x.file x.spot.place x.spot.kind ((are.all x).0 inside))

pub names_within : (descs : List FileDesc) (twice : List FileSpot) → AreAllTwice (occurrences descs) twice
    → AreWithin descs twice
names_within descs twice are = all_of (λ (x : FileSpot). x.file < length descs) twice (λ x inside. (
    let (o, is, at) = (are.all x).0 inside in
    subst (λ (y : FileSpot). y.file < length descs) (sym at) (twice_within descs o is)))

module _ (limits : Limits) (descs : List FileDesc) (pass : ℕ) (three : pass ≡ 3) where
  pub names_found : (r : Result (Option (Vec FileSpot Global)) AllocError)
      → IfOk r (λ found. MatchOption found (limit_of limits limit.Names < length (occurrences descs))
      (λ _. length (occurrences descs) ≤ limit_of limits limit.Names))
      → IfOk r (λ found. IfSome found (λ spots. AreAllTwice (occurrences descs) spots.items))
      → IfOk r (λ found. MatchOption found (HasNoSpots limits descs pass)
      (λ spots. AreSpotsOf limits descs pass spots.items))
  names_found (Ok None) few all = record {
    imports = λ two. omega (arith, two, three);
    names = λ _. few;
    types = λ four. omega (arith, four, three);
  }
  names_found (Ok (Some spots)) few all =
      subst (λ p. AreSpotsOf limits descs p spots.items) (sym three) (of_names spots.items all few)
  names_found (Err e) few all = tt

  pub all_within : (r : Result (Option (Vec FileSpot Global)) AllocError)
      → IfOk r (λ found. IfSome found (λ spots. AreAllTwice (occurrences descs) spots.items))
      → IfOk r (λ found. IfSome found (λ spots. AreWithin descs spots.items))
  all_within (Ok None) all = tt
  all_within (Ok (Some spots)) all = names_within descs spots.items all
  all_within (Err e) all = tt
