-- What was found in sources, and the faults that are told of it.
use Rattle.std.proofs.Common.{◌≡◌, ◌∙◌, ap, sym, ℕ, zero, suc, ◌+◌, ◌<◌, List, [], ◌∷◌, ◌++◌, Vec, Global, append_assoc, length, take, get_or, arith, add-one}
use Rattle.std.proofs.lemmas.List.{append-nil}
use Rattle.std.specs.List.{AllZip}
use Rattle.proto_base.specs.declared.file_fault.FileFault.{FileFault}
use Rattle.proto_base.specs.declared.limits.Limits.{Limits}
use Rattle.proto_compile.specs.FaultSet.{SourceFault}
use Rattle.proto_compile.specs.declared.source.Source.{Source}
use Rattle.file_faults.specs.OwnFaults.{AreFileFaults, AreOwnFaults, none, more}
use Rattle.file_faults.specs.Found.{faults_in, named_by}

-- ---- one source after another

faults_next : (files : List Source) (found : List (Vec FileFault Global)) (k : ℕ) (s : Source)
    (f : Vec FileFault Global) → k < length files → length found ≡ length files
    → faults_in (take (suc k) files) (take (suc k) found)
    ≡ faults_in (take k files) (take k found) ++ named_by (get_or files k s) (get_or found k f).items
faults_next (t ∷ files) (g ∷ found) zero s f h same = append-nil (named_by t g.items)
faults_next (t ∷ files) (g ∷ found) (suc k) s f h same =
    ap (λ later. named_by t g.items ++ later) (faults_next files found k s f (omega arith) (omega arith))
    ∙ sym (append_assoc (named_by t g.items) _ _)
faults_next files found k s f h same = absurd (omega arith)

-- one source more
pub faults_more : (files : List Source) (found : List (Vec FileFault Global)) (k : ℕ) (s : Source)
    (f : Vec FileFault Global) (old new : List SourceFault) → k < length files → length found ≡ length files
    → new ≡ old ++ named_by (get_or files k s) (get_or found k f).items
    → old ≡ faults_in (take k files) (take k found) → new ≡ faults_in (take (k + 1) files) (take (k + 1) found)
faults_more files found k s f old new h same added so_far = rw add-one (cc (faults_next files found k s f h same))

-- ---- all of them

pub are_told : (limits : Limits) (files : List Source) (found : List (Vec FileFault Global))
    → AllZip (λ s f. AreOwnFaults limits s f.items) files found → AreFileFaults limits files (faults_in files found)
are_told limits [] [] all = none
are_told limits (s ∷ files) (f ∷ found) all = more s f.items _ _ all.0 (are_told limits files found all.1)
are_told limits files found all = absurd all
