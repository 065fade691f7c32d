-- No full name of a source is longer than the limit.
use Rattle.std.proofs.Common.{◌≡◌, ◌∙◌, sym, ap, subst, refl, ℕ, ◌+◌, ◌<◌, ◌≤◌, inl, inr, Bool, true, false, if◌then◌else◌, List, [], ◌∷◌, length, get_or, map, flat_map, slice_get, All, Option, None, Some, arith}
use Rattle.std.proofs.lemmas.Bool.{cases_lt}
use Rattle.std.proofs.lemmas.List.{get_or_default}
use Rattle.std.proofs.lemmas.List.Elements.{All-append, All-cons, All-map, All-nil, All-weaker}
use Rattle.std.proofs.lemmas.Option.{get_or_from_slice_get, slice_get_within}
use Rattle.std.specs.List.{AllZip}
use Rattle.proto_base.specs.Least.{spot}
use Rattle.proto_base.specs.Limits.{limit_of}
use Rattle.proto_base.specs.declared.kind.Kind.TheVariants as kind
use Rattle.proto_base.specs.declared.limits.Limit.TheVariants as limit
use Rattle.proto_base.specs.declared.limits.Limits.{Limits}
use Rattle.proto_checks.specs.Checks.{FileBreaks}
use Rattle.proto_compile.specs.Descriptions.{SourceDescribes}
use Rattle.proto_compile.specs.declared.source.Source.{Source}
use Rattle.proto_desc.specs.DeclaredNames.{declared_by, full_name}
use Rattle.proto_desc.specs.declared.file.FileDesc.{FileDesc}
use Rattle.proto_desc.specs.declared.file.PackageDescriptor.{PackageDescriptor}
use Rattle.proto_lower.specs.Files.{package_descriptor}
use Rattle.proto_names.specs.Occurrences.{declared_occurrence, occurrences_from, occurrences_of, package_occurrence, package_occurrences}
use Rattle.proto_names.specs.Scopes.{is_dot, prefixes}
use Rattle.proto_options.specs.Statements.{file_package}
use Rattle.proto_sets.specs.Sets.{IsShortName}
use Rattle.set_round_trip.proofs.Packages.{mapped_some}

-- ---- prefixes

abbrev IsNoLonger : ℕ → List ℕ → Type 0
IsNoLonger n text = length text ≤ n

dot_short : (b : Bool) (n : ℕ) → All (IsNoLonger n) (if b then [] ∷ [] else [])
dot_short true n = All-cons (IsNoLonger n) [] [] (omega arith) (All-nil (IsNoLonger n))
dot_short false n = All-nil (IsNoLonger n)

prefixes_short : (text : List ℕ) → All (IsNoLonger (length text)) (prefixes text)
prefixes_short [] = dot_short true 0
prefixes_short (b ∷ bs) =
    let n = length (b ∷ bs) in
    let longer : All (λ prefix. length (b ∷ prefix) ≤ n) (prefixes bs) =
    All-weaker (IsNoLonger (length bs)) (λ prefix. length (b ∷ prefix) ≤ n) (λ prefix few. omega (arith, few))
    (prefixes bs) (prefixes_short bs) in
    All-append (IsNoLonger n) (map (λ prefix. b ∷ prefix) (prefixes bs)) (if is_dot b then [] ∷ [] else [])
    (All-map (IsNoLonger n) (λ prefix. b ∷ prefix) (prefixes bs) longer) (dot_short (is_dot b) n)

module _ (limits : Limits) where
  abbrev most : ℕ
  most = limit_of limits limit.FullNameBytes

  package_short : (file : ℕ) (p : Option PackageDescriptor)
      → ((q : PackageDescriptor) → p ≡ Some q → length q.name ≤ most)
      → All (IsShortName limits) (package_occurrences file p)
  package_short file None short = All-nil (IsShortName limits)
  package_short file (Some p) short = All-map (IsShortName limits) (package_occurrence file p.place) (prefixes p.name)
      (All-weaker (IsNoLonger (length p.name)) (IsNoLonger most) (λ prefix few. omega (arith, few, short p refl))
      (prefixes p.name) (prefixes_short p.name))

  file_short : (a : ℕ) (s : Source) (desc : FileDesc) → SourceDescribes limits s desc
      → All (IsShortName limits) (occurrences_of a desc)
  unfolding FileBreaks
  file_short a s desc (file, is, unbroken, made) =
      All-append (IsShortName limits) (package_occurrences a desc.«package»)
      (map (declared_occurrence a) (declared_by desc))
      (package_short a desc.«package» (λ p at. (
      let packages = flat_map file_package file.statements in
      let (q, first, is_q) = mapped_some package_descriptor (slice_get packages 0) p
      (ap (λ (d : FileDesc). d.«package») (sym made) ∙ at) in
      elim (cases_lt most (length p.name)) [
        | inl long ↦ absurd (unbroken (spot q.name.first.span.start kind.NameTooLong) (inr (inl (
          0,
          q,
          (slice_get_within packages 0 q first, get_or_from_slice_get packages 0 q q first),
          inr (subst (λ (d : PackageDescriptor). most < length d.name) (sym is_q) long, refl),
        ))))
        | inr few ↦ few
      ])))
      (All-map (IsShortName limits) (declared_occurrence a) (declared_by desc) (λ k d h. (
      let e = get_or (declared_by desc) k d in
      let stands = subst (λ (f : FileDesc). (k < length (declared_by f)) × (get_or (declared_by f) k e ≡ e)) made
      (h, get_or_default (declared_by desc) k e d h) in
      elim (cases_lt most (length (full_name e))) [
        | inl long ↦ absurd (unbroken (spot e.place kind.NameTooLong) (inr (inr (k, e, stands, (inr long, refl)))))
        | inr few ↦ few
      ])))

  pub files_short : (a : ℕ) (files : List Source) (descs : List FileDesc) → AllZip (SourceDescribes limits) files descs
      → All (IsShortName limits) (occurrences_from a descs)
  files_short a [] [] all = All-nil (IsShortName limits)
  files_short a (s ∷ files) (desc ∷ descs) all =
      All-append (IsShortName limits) (occurrences_of a desc) (occurrences_from (a + 1) descs)
      (file_short a s desc all.0) (files_short (a + 1) files descs all.1)
  files_short a files descs all = absurd all
