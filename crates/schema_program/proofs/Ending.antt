-- How a command ended, as the end of a task.
use Rattle.std.proofs.Common.{◌≡◌, Result, Ok, Err, IfOk, IfSome, subst, sym}
use Rattle.std.specs.Result.{result_ok}
use Rattle.schema_failure.specs.declared.failure.Failure.{Failure}
use Rattle.schema_failure.specs.declared.failure.Verdict.{Verdict}
use Rattle.schema_program.specs.Performed.{EndsSound, sound_of}

done_so : (P : Result (Unit {0}) Failure → Type 0) (done : Result (Unit {0}) Failure) → P done
    → EndsSound P (sound_of done)
done_so P (Ok a) is = is
done_so P (Err failure) is = is

pub ends_sound : (P : Result (Unit {0}) Failure → Type 0) (done : Result (Unit {0}) Failure)
    (r : Result Verdict Failure)
    → r ≡ sound_of done → P done → EndsSound P r
ends_sound P done r same is = let Q : Result Verdict Failure → Type 0 = λ x. EndsSound P x in
    subst Q (sym same) (done_so P done is)

-- what holds of a value holds of it as an option
pub some_of_ok : {A E : Type 0} (P : A → Type 0) (r : Result A E) → IfOk r P → IfSome (result_ok r) P
some_of_ok P (Ok a) is = is
some_of_ok P (Err e) is = tt
