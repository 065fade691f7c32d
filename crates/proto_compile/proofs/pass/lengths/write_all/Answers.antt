use Rattle.proto_compile.proofs.Common.{◌≡◌, ◌∙◌, sym, refl, ℕ, List, map, All, Ok, Vec, Global, All-cons, All-nil, IfOk-weaker, Limits, FileDesc, file_desc_bytes, IsShort, IsLeastFault, IsFirstFound, IsWrittenShort, items_of, gives_each, gives_well}
use Rattle.share_work.specs.Shares.{GivesItems}
use Rattle.proto_compile.proofs.LeastFault.{err_tells, first_long}
use Rattle.proto_compile.proofs.pass.lengths.write_all.Goals as goal

-- where no descriptor is too long
all_written : (limits : Limits) (a : ℕ) (descs : List FileDesc) (all : List (Vec ℕ Global))
    → GivesItems (λ k d bytes. IsWrittenShort limits d (Ok bytes)) a descs all
    → (map items_of all ≡ map file_desc_bytes descs) × All (IsShort limits) descs
all_written limits = gives_each (λ k d bytes. IsWrittenShort limits d (Ok bytes))
    (λ k descs all. (map items_of all ≡ map file_desc_bytes descs) × All (IsShort limits) descs)
    (λ a. (refl, All-nil (IsShort limits)))
    (λ a d b descs all here rest. (cc (here.0, rest.0), All-cons (IsShort limits) d descs here.1 rest.1))

pub judge-requires : goal.judge-requires
judge-requires g c = c.requires.files ∙ sym (rw c.as_slice.ensures.value at c.in_ok-outcomes.ensures.0)

pub returns : goal.returns
returns g c =
    let limits = c.args.limits.now in
    let files = c.args.files.now in
    let descs = c.args.descs.items in
    let outcomes = c.in_ok-outcomes.outcomes.items in
    let given = rw c.as_slice.ensures.value at c.in_ok-outcomes.ensures in
    let written = λ (all : Vec (Vec ℕ Global) Global) (is : outcomes ≡ map Ok all.items).
    all_written limits 0 descs all.items (gives_well (λ k. IsWrittenShort limits) descs all.items outcomes is given) in
    let well = λ (all : Vec (Vec ℕ Global) Global). outcomes ≡ map Ok all.items in
    record {
      bytes = IfOk-weaker c.judge.result well (λ all. map items_of all.items ≡ map file_desc_bytes descs)
          (λ all is. (written all is).0) c.judge.ensures.well;
      short = IfOk-weaker c.judge.result well (λ all. All (IsShort limits) descs) (λ all is. (written all is).1)
          c.judge.ensures.well;
      first = λ sources links index resolved. err_tells (IsFirstFound 5 files outcomes) (IsLeastFault limits sources)
          c.judge.result (first_long limits sources files descs links index outcomes resolved given)
          c.judge.ensures.first;
    }
