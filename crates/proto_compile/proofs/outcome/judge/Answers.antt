use Rattle.proto_compile.proofs.Common.{◌≡◌, ◌∙◌, sym, ap, arith, subst, map-id, length, map, take, get_or, ◌<◌, ◌++◌, ◌∷◌, [], ℕ, List, Result, Ok, Err, get_or-take, get_or_default, get_or-map, length-map, map-append, TellsOf, IsFirstFound, TellsOfFile, name_at, CompileError, Source}
use Rattle.std.proofs.lemmas.Iterator.Adapters.{YieldsList-from_vec}
use Rattle.std.proofs.lemmas.Iterator.Consumers.{YieldsList-so_far, YieldsList-turn}
use Rattle.proto_base.specs.declared.file_fault.FileError.{FileError}
use Rattle.proto_base.specs.declared.file_fault.FileError.TheVariants as fault
use Rattle.proto_compile.specs.Passes.{number_of}
use Rattle.proto_compile.specs.declared.error.CompileError.TheVariants as errors
use Rattle.proto_compile.proofs.OneTyping.{item_at}
use Rattle.proto_compile.proofs.Sorting.{name_is}
use Rattle.proto_compile.proofs.outcome.judge.Goals as goal

-- an error that tells the fault of the file behind those that are judged, of which none has a fault
told_first : {T : Type 0} (number : ℕ) (files : List Source) (outcomes judged : List (Result T FileError)) (ts : List T)
    (o : Result T FileError) (error : FileError) (e : CompileError)
    → TellsOfFile number (name_at files (length judged)) error e → map Ok ts ≡ judged
    → judged ≡ take (length judged) outcomes → length judged < length outcomes → o ≡ get_or outcomes (length judged) o
    → o ≡ Err error → TellsOf (IsFirstFound number files outcomes) e
told_first {T = T} number files outcomes judged ts o (fault.First found) (errors.First f) t well taken below at is =
    let none : Result T FileError = Err fault.NoMemory in
    let size = sym (length-map ts Ok) ∙ ap length well in
    record {
      at = length judged;
      found = found;
      well = λ j less. (
          let (x, there) = item_at ts j (omega (arith, less, size)) in
          (x, cc (get_or-take (length judged) outcomes j none less, get_or-map Ok ts j x none there.0)));
      below = below;
      bad = get_or_default outcomes (length judged) none o below ∙ sym at ∙ is;
      is = t;
    }
told_first number files outcomes judged ts o (fault.First found) errors.NoMemory t well taken below at is = tt
told_first number files outcomes judged ts o fault.NoMemory e t well taken below at is = rw t tt

-- one more without a fault
well_more : {T : Type 0} (ts : List T) (os : List (Result T FileError)) (x : T) (o : Result T FileError)
    → map Ok ts ≡ os → o ≡ Ok x → map Ok (ts ++ x ∷ []) ≡ os ++ o ∷ []
well_more ts os x o so_far is = grind (arith, map-append)

pub loop-outcome-preserved : goal.loop-outcome-preserved
loop-outcome-preserved g c = grind (arith, well_more)

pub returns-in-Err-clause-first : goal.returns-in-Err-clause-first
returns-in-Err-clause-first g c =
    let gives = c.into_iter-outcome-iterator.ensures.into_iter_gives in
    let all = YieldsList-from_vec c.args.outcomes.items gives.0 (omega (arith, gives.1)) in
    let l = c.loop-outcome in
    let so_far : l.yielded ≡ take (length l.yielded) c.args.outcomes.items =
    sym (map-id l.yielded) ∙ YieldsList-so_far all l.yielded l.outcome-iterator l.yielded_by in
    let turn = YieldsList-turn all _ l.outcome-iterator l.yielded_by _ c.next.new.self _ c.in-Some.is
    c.next.ensures.steps in
    let at : c.len-in-Err.result ≡ length l.yielded =
    c.len-in-Err.ensures ∙ l.all.ok.0 ∙ sym (length-map l.all.items Ok) ∙ ap length l.invariant in
    let within : c.len-in-Err.result < length c.args.files.now = omega (arith, at, turn.0, c.requires) in
    told_first (number_of c.args.pass) c.args.files.now c.args.outcomes.items l.yielded l.all.items c.in-Some.outcome
    c.in-Err.error c.refusal_of_file.result (rw (← at)
    (subst (λ (n : List ℕ). TellsOfFile (number_of c.args.pass) n c.in-Err.error c.refusal_of_file.result)
    (sym (name_is c.args.files.now c.len-in-Err.result _ within)) c.refusal_of_file.ensures))
    l.invariant so_far turn.0 turn.1 c.in-Err.is
