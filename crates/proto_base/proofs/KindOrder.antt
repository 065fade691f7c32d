-- Kinds are declared in the order of their numbers, and no two have one number.
use mathlib.Core.Logic.{inl, inr}
use denote.Struct.Field.{Field}
use denote.Enum.Bare.{Bare, sameb}
use denote.Enum.Enum.{tag}
use denote.Enum.Declared.{Choice, rowss, intoss, tag_of}
use Rattle.std.proofs.lemmas.Bool.Decides.{nat_tests}
use Rattle.std.proofs.Common.{arith, ◌≡◌, ◌∙◌, ℕ, refl, ap, List, [], ◌∷◌}
use Rattle.std.specs.Prelude.{ℤ, pos, slice_index_or}
use Rattle.std.specs.Ordering.{nat_cmp, int_cmp, is_eq, on, eq_by_cmp}
use Rattle.std.specs.Cmp.Derive.{number, numbered_tied}
use Rattle.proto_base.specs.declared.kind.Kind.{Kind}
use Rattle.proto_base.specs.contracts.kind.Kind.{enum, the_type}
use Rattle.proto_base.specs.Kind.{number_of}

-- what a function gives for each of the variants, none of which has a field
abbrev each_variant : {X : Type 0} (Fss : List (List Field)) → Bare Fss → (Choice Fss → X) → List X
each_variant [] bare f = []
each_variant ([] ∷ Fss) bare f = f (inl tt) ∷ each_variant Fss bare (λ c. f (inr c))
each_variant ((F ∷ Fs) ∷ Fss) bare f = absurd bare

at_variant : {X : Type 0} (Fss : List (List Field)) (bare : Bare Fss) (f : Choice Fss → X) (d : X) (c : Choice Fss)
    → slice_index_or (each_variant Fss bare f) (tag (rowss Fss) (intoss Fss c)) d ≡ f c
at_variant [] bare f d c = absurd c
at_variant ([] ∷ Fss) bare f d (inl x) = refl
at_variant ([] ∷ Fss) bare f d (inr c) = at_variant Fss bare (λ c. f (inr c)) d c
at_variant ((F ∷ Fs) ∷ Fss) bare f d c = absurd bare

abbrev pub numbers : List ℤ
numbers = each_variant enum.parts tt (λ c. pos (number_of (enum.make c)))

pub numbered : (k : Kind) → slice_index_or numbers (tag_of the_type k) (pos 0) ≡ pos (number_of k)
numbered k =
    at_variant enum.parts tt (λ c. pos (number_of (enum.make c))) (pos 0) (enum.as_values k)
    ∙ ap (λ l. pos (number_of l)) (enum.eta k)

compared : (m n : ℕ) → int_cmp (pos m) (pos n) ≡ nat_cmp m n
compared m n = grind (arith, nat_tests)

-- as the derived order compares kinds
pub by_number : (a b : Kind) → int_cmp (number the_type numbers a) (number the_type numbers b)
    ≡ nat_cmp (number_of a) (number_of b)
by_number a b = rw (numbered a, numbered b) (compared (number_of a) (number_of b))

pub one_number : (a b : Kind) → sameb the_type a b ≡ eq_by_cmp (on number_of nat_cmp) a b
one_number a b = (numbered_tied the_type numbers refl refl).ties a b ∙ ap is_eq (by_number a b)
