use Rattle.proto_names.proofs.Common.{◌≡◌, arith, occurrences}
use Rattle.proto_names.proofs.repeated.repeated_names.Goals as goal

pub returns-clause-all : goal.returns-clause-all
returns-clause-all c =
    let entries : c.in-Some.entries ≡ occurrences c.args.files.now = grind arith in
    record {
      all = λ x.
          (let kept = c.sort_file_spots.ensures.same x in
          let found = rw entries at (c.in_ok-spots.ensures x) in
          (λ h. found.0 (kept.0 h), λ h. kept.1 (found.1 h)));
      order = c.sort_file_spots.ensures.order;
    }
