-- The least fault of a set: the least of the first pass that finds any. A set that has passed breaks no rule.
use Rattle.std.proofs.Common.{◌≡◌, ◌≢◌, ◌∙◌, sym, subst, ℕ, ◌<◌, ◌≤◌, List, length, map, refl, arith, ◌⊎◌, inl, inr, Result, Ok, Err, IfErr, IsErrAnd, Ordering, Greater, nat_cmp, if◌then◌else◌, ◌==◌}
use Rattle.std.proofs.lemmas.Bool.{cases_order}
use Rattle.std.proofs.lemmas.Bool.Decides.{nat_tests}
use Rattle.std.proofs.lemmas.Cmp.{nat_list_cmp_total, tied_itself}
use Rattle.std.proofs.lemmas.List.{length-map}
use Rattle.std.proofs.lemmas.Map.Lookups.{exact_bytes}
use Rattle.std.proofs.lemmas.Result.{IfErr-weaker}
use Rattle.std.specs.Cmp.Lexicographic.{slice_cmp}
use Rattle.std.specs.Ordering.{ordering_then}
use Rattle.proto_base.specs.NameOrder.{NamesRise}
use Rattle.proto_base.specs.declared.limits.Limits.{Limits}
use Rattle.proto_compilation.specs.Compilation.{CompiledFile, file_name}
use Rattle.proto_links.proofs.NameRows.{rise_far}
use Rattle.proto_sets.specs.SetFaults.{Breaks, Fault, IsLeastFault, IsNoLater, TellsOf, at_position, name_at, number_of, of_file, pass_of}
use Rattle.proto_sets.specs.SetSteps.{Tells}
use Rattle.proto_sets.specs.declared.fault.SetError.{SetError}
use Rattle.proto_sets.specs.declared.fault.SetError.TheVariants as errors
use Rattle.proto_sets.specs.declared.fault.SetKind.{SetKind}
use Rattle.proto_sets.specs.declared.fault.SetKind.TheVariants as kind

-- ---- the order of faults

same_name : (file : List ℕ) → slice_cmp nat_cmp file file ≢ Greater
same_name file more = (let e = tied_itself nat_list_cmp_total file in cc)

pub no_later_itself : (x : Fault) → IsNoLater x x
no_later_itself x = grind (arith, nat_tests, same_name)

-- of two orders, of which neither comes later, what comes first is one, and so it goes on
first_number : (m n : ℕ) (o p : Ordering) → ordering_then (nat_cmp m n) o ≢ Greater
    → ordering_then (nat_cmp n m) p ≢ Greater → (m ≡ n) × (o ≢ Greater) × (p ≢ Greater)
first_number m n o p h i = grind (arith, nat_tests)

first_name : (f g : List ℕ) (o p : Ordering) → ordering_then (slice_cmp nat_cmp f g) o ≢ Greater
    → ordering_then (slice_cmp nat_cmp g f) p ≢ Greater → (f ≡ g) × (o ≢ Greater) × (p ≢ Greater)
first_name f g o p h i = grind (arith, nat_list_cmp_total, exact_bytes)

-- a kind by its pass, and by its number there
abbrev kind_at : ℕ → ℕ → SetKind
kind_at m n =
    if m == 0 then kind.SetTooLong else if m == 1 then kind.MalformedSet else if m == 2 then kind.TooManyFiles
    else if m == 3 then (if n == 0 then kind.MalformedFile else kind.FileWithoutName)
    else if m == 4 then kind.FileNameTwice else if m == 5 then kind.MalformedContents
    else if m == 6 then kind.NameTooLong else if m == 7 then (if n == 0 then kind.ImportMissing else kind.ImportCycle)
    else if m == 8 then kind.TooManyNames else kind.NameTwice

kind_is : (k : SetKind) → kind_at (pass_of k) (number_of k) ≡ k
kind_is kind.SetTooLong = refl
kind_is kind.MalformedSet = refl
kind_is kind.TooManyFiles = refl
kind_is kind.MalformedFile = refl
kind_is kind.FileWithoutName = refl
kind_is kind.FileNameTwice = refl
kind_is kind.MalformedContents = refl
kind_is kind.NameTooLong = refl
kind_is kind.ImportMissing = refl
kind_is kind.ImportCycle = refl
kind_is kind.TooManyNames = refl
kind_is kind.NameTwice = refl

pub one_fault : (x y : Fault) → IsNoLater x y → IsNoLater y x → x ≡ y
one_fault x y h i =
    let pass = first_number (pass_of x.kind) (pass_of y.kind) _ _ h i in
    let file = first_name x.name y.name _ _ pass.1 pass.2 in
    let step = first_number 0 0 _ _ file.1 file.2 in
    let place = first_number x.position y.position _ _ step.1 step.2 in
    let number : number_of x.kind ≡ number_of y.kind = grind (arith, nat_tests, place.1, place.2) in
    let kinds : x.kind ≡ y.kind = sym (kind_is x.kind)
    ∙ rw (pass.0, number) refl ∙ kind_is y.kind in
    λ k. record { kind = kinds k; name = file.0 k; position = place.0 k }

-- of faults of a pass that looks at files one after the other
pub at_order : (k l : SetKind) (a b : ℕ) → pass_of k ≡ pass_of l
    → (a < b) ⊎ ((a ≡ b) × (number_of k ≤ number_of l)) → IsNoLater (at_position k a) (at_position l b)
at_order k l a b pass order = grind (arith, nat_tests)

pub file_order : (k l : SetKind) (files : List CompiledFile) (a b : ℕ) → NamesRise (map file_name files)
    → b < length files → pass_of k ≡ pass_of l → (a < b) ⊎ ((a ≡ b) × (number_of k ≤ number_of l))
    → IsNoLater (of_file k (name_at files a)) (of_file l (name_at files b))
file_order k l files a b rise h pass order =
    grind (arith, nat_tests, same_name, length-map, rise_far (map file_name files) rise a b)

pub name_order : (k : SetKind) (m n : List ℕ) → slice_cmp nat_cmp m n ≢ Greater → IsNoLater (of_file k m) (of_file k n)
name_order k m n order = grind (arith, nat_tests)

-- ---- results and errors

-- what follows of the fault that an error tells
pub tells_more : (P Q : Fault → Type 0) → ((x : Fault) → P x → Q x) → (e : SetError) → TellsOf P e → TellsOf Q e
tells_more P Q h e p = grind (arith)

pub told : (P : Fault → Type 0) (x : Fault) (e : SetError) → Tells x e → P x → TellsOf P e
told P x e is p = tells_more (λ y. y ≡ x) P (λ y same. subst P (sym same) p) e is

pub err_tells : {T : Type 0} (P Q : Fault → Type 0) (r : Result T SetError) → ((x : Fault) → P x → Q x)
    → IfErr r (TellsOf P) → IfErr r (TellsOf Q)
err_tells P Q r h = IfErr-weaker r (TellsOf P) (TellsOf Q) (tells_more P Q h)

module _ (limits : Limits) (set : List ℕ) where
  -- no rule of a pass before this one is broken
  abbrev pub NoneBefore : ℕ → Type 0
  NoneBefore pass = (y : Fault) → Breaks limits set y → pass_of y.kind < pass → ⊥

  -- no fault of the same pass comes before it
  abbrev pub IsFirst : Fault → Type 0
  IsFirst x = (y : Fault) → Breaks limits set y → pass_of y.kind ≡ pass_of x.kind → IsNoLater x y

  pub least_of : (x : Fault) → Breaks limits set x → NoneBefore (pass_of x.kind) → IsFirst x
      → IsLeastFault limits set x
  least_of x breaks none own = record {
    among = record { breaks = breaks; judged = none };
    least = λ y found. elim (cases_order (pass_of x.kind) (pass_of y.kind)) [
      | inl same ↦ own y found.breaks (sym same)
      | inr (inl less) ↦ grind (arith, nat_tests)
      | inr (inr over) ↦ absurd (none y found.breaks over)
    ];
  }

  -- two that are least are one
  pub one_least : (x y : Fault) → IsLeastFault limits set x → IsLeastFault limits set y → x ≡ y
  one_least x y first second = one_fault x y (first.least y second.among) (second.least x first.among)

-- want of memory tells nothing
pub no_memory : {A : Type 0} (P : Fault → Type 0) (r : Result A SetError) → IsErrAnd r (λ e. e ≡ errors.NoMemory)
    → IfErr r (TellsOf P)
no_memory P (Ok a) is = tt
no_memory P (Err e) is = rw is tt
