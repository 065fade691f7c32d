-- A package of a source has a name.
use Rattle.std.proofs.Common.{◌≡◌, ◌≢◌, ◌∙◌, sym, ap, subst, refl, List, [], ◌∷◌, ◌++◌, flat_map, slice_get, ℕ, Option, None, Some, IfSome, IsUtf8, arith}
use Rattle.std.specs.Option.{option_map}
use Rattle.std.proofs.lemmas.Option.{none-some, same_Some}
use Rattle.std.proofs.lemmas.Str.{IsUtf8-append}
use Rattle.proto_base.specs.declared.limits.Limits.{Limits}
use Rattle.proto_desc.specs.declared.file.FileDesc.{FileDesc}
use Rattle.proto_desc.specs.declared.file.PackageDescriptor.{PackageDescriptor}
use Rattle.proto_file.proofs.PlacesWithin.{each_given, each_weaker}
use Rattle.proto_file.specs.Local.{Describes}
use Rattle.proto_lower.specs.Files.{package_descriptor, package_of}
use Rattle.proto_options.specs.Statements.{file_package}
use Rattle.proto_syntax.specs.Trees.{full_tree, package_tree, part_tree, statement_tree}
use Rattle.proto_tree.specs.Text.{dotted, part_text}
use Rattle.proto_tree.specs.declared.file.Package.{Package}
use Rattle.proto_tree.specs.declared.file.Statement.{Statement}
use Rattle.proto_tree.specs.declared.file.Statement.TheVariants as statement
use Rattle.proto_tree.specs.declared.name.FullName.{FullName}
use Rattle.set_round_trip.specs.Fits.{IsName}
use Rattle.set_round_trip.proofs.Texts.{flat_text, more_text}
use Rattle.set_round_trip.proofs.Tokens.{EachFits, TreeFits, listed, source_fits}

pub mapped_some : {A B : Type 0} (f : A → B) (o : Option A) (b : B) → option_map f o ≡ Some b
    → (a : A) × (o ≡ Some a) × (f a ≡ b)
mapped_some f None b at = absurd (none-some b at)
mapped_some f (Some a) b at = (a, refl, same_Some (f a) b at)

append_some : {A : Type 0} (xs ys : List A) → xs ≢ [] → xs ++ ys ≢ []
append_some [] ys some empty = some refl
append_some (x ∷ xs) ys some empty = cc

full_name : (n : FullName) → TreeFits (full_tree n) → IsName (dotted n)
full_name n all =
    let rest = flat_map part_text n.rest in
    record {
      some = append_some n.first.text rest all.0.some;
      utf8 = IsUtf8-append n.first.text rest all.0.utf8 (flat_text part_text n.rest
          (each_weaker (λ p. TreeFits (part_tree p)) (λ p. IsUtf8 (part_text p)) n.rest
          (λ p fits. more_text 46 p.name.text (omega arith) fits.1.utf8) (listed part_tree n.rest all.1)));
    }

first_package : (ps : List Package) → EachFits package_tree ps
    → IfSome (option_map package_descriptor (slice_get ps 0)) (λ p. IsName p.name)
first_package [] all = tt
first_package (p ∷ ps) all = full_name p.name all.0.1.0

in_statement : (s : Statement) → TreeFits (statement_tree s) → EachFits package_tree (file_package s)
in_statement (statement.Package p) fits = (fits, tt)
in_statement s fits = tt

pub package_name : (ss : List Statement) → EachFits statement_tree ss → IfSome (package_of ss) (λ p. IsName p.name)
package_name ss all = first_package (flat_map file_package ss)
    (each_given (λ s. TreeFits (statement_tree s)) (λ p. TreeFits (package_tree p)) file_package ss in_statement all)

-- the package of a file has a name, if there is one
pub record HasNamedPackage (desc : FileDesc) : Type 0 where
  pub named : (p : PackageDescriptor) → desc.«package» ≡ Some p → p.name ≢ []

name_of_some : (o : Option PackageDescriptor) (p : PackageDescriptor) → IfSome o (λ q. IsName q.name) → o ≡ Some p
    → p.name ≢ []
name_of_some None p is at = absurd (none-some p at)
name_of_some (Some q) p is at = subst (λ (r : PackageDescriptor). r.name ≢ []) (same_Some q p at) is.some

pub named_package : (limits : Limits) (name text : List ℕ) (desc : FileDesc) → Describes limits name text desc
    → HasNamedPackage desc
named_package limits name text desc (file, is, unbroken, made) = record {
  named = λ p at. name_of_some (package_of file.statements) p
      (package_name file.statements (listed statement_tree file.statements (source_fits limits text file is).1))
      (ap (λ (d : FileDesc). d.«package») (sym made) ∙ at);
}
