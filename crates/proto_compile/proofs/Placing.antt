-- Faults stand within the texts of their files.
use Rattle.proto_compile.proofs.Common.{◌≡◌, ◌∙◌, sym, subst, ◌⊎◌, inl, inr, ℕ, zero, suc, ◌+◌, ◌<◌, List, [], ◌∷◌, length, refl, arith, Contains, map, Option, None, Some, AllZip, AllByRecursion, cases_order, get_or-map, Contains-append_cases, IsPermutation-refl, Kind, Limits, Place, StandsAt, FileDesc, spot, Spot, Occurrence, occurrences_of, occurrences, occurrences_from, declared_occurrence, package_occurrence, package_occurrences, SourceDescribes, AreDescribed, Breaks, IsPlaced, SourceFault, bad_import, bad_type, file_fault, long_descriptor, long_set, many_files, many_names, repeated_file_name, repeated_name, start, name_at, text_of, Source, Declared, declared_by, declared_by_enum, declared_by_message, declared_by_service, declared_field, declared_method, declared_oneof, declared_value, file_scope, scoped}
use Rattle.proto_desc.specs.declared.file.ImportDescriptor.{ImportDescriptor}
use Rattle.proto_links.specs.Imports as imports
use Rattle.proto_file.proofs.AfterFirst.{IsAfter, places_after}
use Rattle.proto_file.proofs.Spots.{Placed, SpotWithin, at_spot, each_within, standing}
use Rattle.proto_types.specs.References.{Reference, ReferenceBreaks, TypesBreak, references, field_scope, references_by_message, references_of_field, references_of_kind, references_of_method, references_of_service, references_of_type}
use Rattle.proto_compile.specs.Sources.{name_of}
use Rattle.proto_file.proofs.PlacesWithin.{FileParts, upto, AreIn, IsIn, both, by_nested, each_given, each_held, each_map, each_marked, each_place, each_places, every, places_out, split, DescWithin, EnumWithin, FieldWithin, MethodWithin, ServiceWithin}
use Rattle.proto_file.proofs.LocalPlaces.{IsInside, fault_inside, place_inside, places_within}
use Rattle.proto_compile.proofs.OneTyping.{item_at, standing_one, as_many, bad_inside, contains_second, resolved_names, same_names}
use Rattle.proto_compile.proofs.Sorting.{moved, name_of_item}
use Rattle.proto_desc.specs.Places.{reference_places, kind_places, option_place, field_places, oneof_place, value_place, enum_places, message_places, method_places, service_places, package_places, import_place, places_of}
use Rattle.proto_desc.specs.declared.enumeration.EnumDesc.{EnumDesc}
use Rattle.proto_desc.specs.declared.field.FieldDesc.{FieldDesc}
use Rattle.proto_desc.specs.declared.field.FieldKind.{FieldKind}
use Rattle.proto_desc.specs.declared.file.PackageDescriptor.{PackageDescriptor}
use Rattle.proto_desc.specs.declared.message.MessageDesc.{MessageDesc}
use Rattle.proto_desc.specs.declared.message.MessageDesc.TheViews.{out-MessageDesc}
use Rattle.proto_desc.specs.declared.options.OptionDescriptor.{OptionDescriptor}
use Rattle.proto_desc.specs.declared.service.MethodDesc.{MethodDesc}
use Rattle.proto_desc.specs.declared.service.ServiceDesc.{ServiceDesc}
use Rattle.proto_desc.specs.declared.type_name.TypeReference.{TypeReference}
use Rattle.proto_desc.proofs.Declared.{declared_out, scope_in}
use Rattle.proto_names.specs.Scopes.{prefixes}
use Rattle.proto_names.specs.declared.resolve.Want.{Want}
use Rattle.proto_types.proofs.Trees.{own_references, references_out}

-- ---- what a descriptor imports, declares and refers to stands at its places

-- in a region
module _ (region : ℕ → Type 0) where
  -- ---- one name, one reference

  abbrev DeclaredAt : Declared → Type 0
  DeclaredAt d = IsIn region d.place

  abbrev OptionAt : OptionDescriptor → Type 0
  OptionAt o = IsIn region o.place

  -- a reference, with the options of its field
  abbrev ReferenceAt : Reference → Type 0
  ReferenceAt r = IsIn region r.place × AllByRecursion OptionAt r.options

  type_at : (scope : List ℕ) (wanted : Want) (options : List OptionDescriptor) (r : TypeReference)
      → AreIn region (reference_places r) → AllByRecursion OptionAt options
      → AllByRecursion ReferenceAt (references_of_type scope wanted options r)
  type_at scope wanted options r at set = grind arith

  kind_at : (scope : List ℕ) (options : List OptionDescriptor) (k : FieldKind) → AreIn region (kind_places k)
      → AllByRecursion OptionAt options → AllByRecursion ReferenceAt (references_of_kind scope options k)
  kind_at scope options k at set = grind (arith, type_at)

  field_at : (scope : List ℕ) (f : FieldDesc) → FieldWithin region f
      → AllByRecursion ReferenceAt (references_of_field scope f)
  field_at scope f at = grind (arith, kind_at, each_place region option_place, split region)

  enum_at : (scope : List ℕ) (e : EnumDesc) → EnumWithin region e → AllByRecursion DeclaredAt (declared_by_enum scope e)
  enum_at scope e at = grind (arith, each_map DeclaredAt (declared_value scope), each_place region value_place)

  -- ---- messages, by induction

  -- names that are declared, and references
  abbrev MessageAt : MessageDesc → Type 0
  MessageAt m = DescWithin region m → (scope : List ℕ) → AllByRecursion DeclaredAt (declared_by_message m scope)
      × AllByRecursion ReferenceAt (references_by_message m scope)

  message_step : (m : MessageDesc) → AllByRecursion MessageAt (out-MessageDesc m).nested → MessageAt m
  message_step m held at scope =
      let o = out-MessageDesc m in
      let inside = scope_in m scope in
      let places = subst (AreIn region) (places_out m) at in
      let (upto_enums, nested) = split region _ _ places.1 in
      let (upto_oneofs, enums) = split region _ _ upto_enums in
      let (fields, oneofs) = split region _ _ upto_oneofs in
      let each_field = each_places region field_places o.fields fields in
      let each_nested = each_places region message_places o.nested nested in (
        subst (AllByRecursion DeclaredAt) (sym (declared_out m scope)) (
          places.0,
          both DeclaredAt _ _
              (both DeclaredAt _ _
              (both DeclaredAt _ _
              (each_marked (FieldWithin region) DeclaredAt (declared_field inside) o.fields (λ f w. w.0) each_field)
              (each_map DeclaredAt (declared_oneof inside) o.oneofs (each_place region oneof_place o.oneofs oneofs)))
              (each_given (EnumWithin region) DeclaredAt (declared_by_enum inside) o.enums (enum_at inside)
              (each_places region enum_places o.enums enums)))
              (each_held MessageAt (DescWithin region) DeclaredAt (λ k. declared_by_message k inside) o.nested
              (λ k h w. (h w inside).0) held each_nested),
        ),
        subst (AllByRecursion ReferenceAt) (sym (references_out m scope)) (both ReferenceAt (own_references m scope) _
            (each_given (FieldWithin region) ReferenceAt (references_of_field (field_scope scope o)) o.fields
            (field_at (field_scope scope o)) each_field)
            (each_held MessageAt (DescWithin region) ReferenceAt (λ k. references_by_message k inside) o.nested
            (λ k h w. (h w inside).1) held each_nested)),
      )

  message_at : (m : MessageDesc) → MessageAt m
  message_at = by_nested MessageAt message_step

  -- ---- services

  method_at : (scope : List ℕ) (m : MethodDesc) → MethodWithin region m
      → AllByRecursion ReferenceAt (references_of_method scope m)
  method_at scope m at = grind (arith, type_at, both ReferenceAt, split region)

  -- names and references of a service
  service_at : (scope : List ℕ) (s : ServiceDesc) → ServiceWithin region s
      → AllByRecursion DeclaredAt (declared_by_service scope s)
      × AllByRecursion ReferenceAt (references_of_service scope s)
  service_at scope s at =
      let inside = scoped scope s.name in
      grind (
        arith,
        each_places region method_places,
        each_marked (MethodWithin region) DeclaredAt (declared_method inside) s.methods (λ m w. w.0),
        each_given (MethodWithin region) ReferenceAt (references_of_method inside) s.methods (method_at inside),
      )

  -- ---- files

  parts_of : (d : FileDesc) → AreIn region (places_of d) → FileParts region d
  parts_of d at = grind (
    arith,
    split region,
    each_place region import_place,
    each_places region message_places,
    each_places region enum_places,
    each_places region service_places,
  )

  declared_at : (d : FileDesc) → FileParts region d → AllByRecursion DeclaredAt (declared_by d)
  declared_at d at =
      let scope : List ℕ = file_scope d.«package» in
      both DeclaredAt _ _
      (both DeclaredAt _ _
      (each_given (DescWithin region) DeclaredAt (λ m. declared_by_message m scope) d.messages
      (λ m w. (message_at m w scope).0) at.messages)
      (each_given (EnumWithin region) DeclaredAt (declared_by_enum scope) d.enums (enum_at scope) at.enums))
      (each_given (ServiceWithin region) DeclaredAt (declared_by_service scope) d.services
      (λ s w. (service_at scope s w).0) at.services)

  references_at : (d : FileDesc) → FileParts region d → AllByRecursion ReferenceAt (references d)
  references_at d at =
      let scope : List ℕ = file_scope d.«package» in
      both ReferenceAt _ _
      (each_given (DescWithin region) ReferenceAt (λ m. references_by_message m scope) d.messages
      (λ m w. (message_at m w scope).1) at.messages)
      (each_given (ServiceWithin region) ReferenceAt (references_of_service scope) d.services
      (λ s w. (service_at scope s w).1) at.services)

  -- an occurrence in the file of a number
  abbrev OccurrenceAt : ℕ → Occurrence → Type 0
  OccurrenceAt file o = (o.file ≡ file) × IsIn region o.place

  package_occurrences_at : (file : ℕ) (p : Option PackageDescriptor) → AreIn region (package_places p)
      → AllByRecursion (OccurrenceAt file) (package_occurrences file p)
  package_occurrences_at file None at = tt
  package_occurrences_at file (Some p) at =
      each_map (OccurrenceAt file) (package_occurrence file p.place) (prefixes p.name)
      (every _ (prefixes p.name) (λ name. (refl, at.0)))

  occurrences_at : (file : ℕ) (d : FileDesc) → FileParts region d
      → AllByRecursion (OccurrenceAt file) (occurrences_of file d)
  occurrences_at file d at =
      both (OccurrenceAt file) (package_occurrences file d.«package») (map (declared_occurrence file) (declared_by d))
      (package_occurrences_at file d.«package» at.own)
      (each_marked DeclaredAt (OccurrenceAt file) (declared_occurrence file) (declared_by d) (λ e w. (refl, w))
      (declared_at d at))

-- ---- places within descriptors

pub described_at : (limits : Limits) (files : List Source) (descs : List FileDesc)
    → AllZip (SourceDescribes limits) files descs → (a : ℕ) (desc : FileDesc)
    → StandsAt descs a desc → (s : Source) × StandsAt files a s × SourceDescribes limits s desc
described_at limits (s ∷ files) (d ∷ descs) all zero desc at = grind (arith)
described_at limits (s ∷ files) (d ∷ descs) all (suc a) desc at =
    grind (arith, described_at limits files descs all.1 a desc (omega (arith, at.0), at.1))
described_at limits files descs all a desc at = absurd (grind (arith))

-- wherever the descriptor's places lie, this one does
abbrev LiesWith : FileDesc → Place → Type 0
LiesWith desc place = (n : ℕ) → FileParts (upto n) desc → Placed n place

-- ---- imports

bad_placed : (descs : List FileDesc) (a : ℕ) (desc : FileDesc) (place : Place) (kind : Kind) → StandsAt descs a desc
    → imports.IsBad descs a place kind → LiesWith desc place
bad_placed descs a desc place kind at (i, here, is, wrong) n parts =
    let (k, below, there) = rw (get_or-map imports.imports_of descs a desc [] at.0, at.1) at here in
    let placed = λ (j : ImportDescriptor). Placed n j.place in
    subst (Placed n) is (standing placed desc.imports k i parts.imports (below, there))

-- ---- names

pub occurrence_in : (first : ℕ) (descs : List FileDesc) (o : Occurrence) → Contains (occurrences_from first descs) o
    → (k : ℕ) × (desc : FileDesc) × StandsAt descs k desc × Contains (occurrences_of (first + k) desc) o
occurrence_in first [] o (j, inside, is) = absurd (omega (arith, inside))
occurrence_in first (d ∷ descs) o here =
    elim (Contains-append_cases (occurrences_of first d) (occurrences_from (first + 1) descs) o here) [
      | inl own ↦ (let at : first + 0 ≡ first = omega arith in (0, d, (omega arith, refl), rw at own))
      | inr later ↦ (
          let (k, desc, there, own) = occurrence_in (first + 1) descs o later in
          let at : first + suc k ≡ first + 1 + k = omega arith in
          (suc k, desc, (omega (arith, there.0), there.1), rw at own))
    ]

-- no name stands at the start of its text
pub names_after : (limits : Limits) (files : List Source) (descs : List FileDesc) (o : Occurrence)
    → AllZip (SourceDescribes limits) files descs → Contains (occurrences descs) o → 0 < o.place.offset
names_after limits files descs o all here =
    let (k, desc, at, own) = occurrence_in 0 descs o here in
    let (s, there, is) = described_at limits files descs all k desc at in
    let parts = parts_of IsAfter desc (places_after limits (name_of s) (text_of s) desc is) in
    (standing (OccurrenceAt IsAfter (0 + k)) _ own.0 o (occurrences_at IsAfter (0 + k) desc parts) (own.1, own.2)).1

-- ---- types

reference_placed : (os : List Occurrence) (Seen : ℕ → Type 0) (n : ℕ) (x : Spot) (r : Reference)
    → ReferenceAt (upto n) r → ReferenceBreaks os Seen r x → SpotWithin n x
reference_placed os Seen n x r at (inl missing) = at_spot n r.place _ x at.0 missing.1
reference_placed os Seen n x r at (inr (inl other)) = at_spot n r.place _ x at.0 other.2
reference_placed os Seen n x r at (inr (inr (message, o, there, packed, is))) =
    at_spot n o.place _ x (standing (OptionAt (upto n)) r.options there.0 o at.1 (there.1, there.2)) is

types_placed : (os : List Occurrence) (Seen : ℕ → Type 0) (desc : FileDesc) (place : Place) (kind : Kind)
    → TypesBreak os Seen desc (spot place kind) → LiesWith desc place
types_placed os Seen desc place kind broken n parts =
    each_within (ReferenceAt (upto n)) (ReferenceBreaks os Seen) n (references desc) (spot place kind)
    (references_at (upto n) desc parts) (reference_placed os Seen n (spot place kind)) broken

-- ---- all faults

-- no rule of a pass before this one is broken
abbrev pub NoneBefore : Limits → List Source → ℕ → Type 0
NoneBefore limits sources pass = (y : SourceFault) → Breaks limits sources y → y.pass < pass → ⊥

-- where no two sources have one name
module _ (limits : Limits) (sources : List Source) (none : NoneBefore limits sources 1) where
  one_named : (s t : Source) → Contains sources s → Contains sources t → name_of s ≡ name_of t → s ≡ t
  one_named s t (i, below, is) (j, inside, also) same =
      let names : name_at sources i ≡ name_at sources j =
      name_of_item sources i s below (sym is) ∙ same ∙ sym (name_of_item sources j t inside (sym also)) in
      elim (cases_order i j) [
        | inl here ↦ standing_one sources i s t below is (rw here also)
        | inr (inl less) ↦ absurd (none _ (repeated_file_name i j less inside names) (omega arith))
        | inr (inr over) ↦ absurd (none _ (repeated_file_name j i over below (sym names)) (omega arith))
      ]

  in_source : (s : Source) (file : List ℕ) (place : Place) → Contains sources s → name_of s ≡ file
      → IsInside limits (text_of s) place → IsPlaced limits sources file place
  in_source s file place here name inside = record {
    of_source = inr (s, here, name);
    within = λ t there named. rw (← one_named s t here there (name ∙ sym named)) inside.within;
    short = inside.short;
  }

module _ (limits : Limits) (sources : List Source) where
  in_desc : (n : ℕ) → NoneBefore limits sources (suc n) → (descs : List FileDesc) (a : ℕ) (desc : FileDesc)
      (place : Place) → AreDescribed limits sources descs → StandsAt descs a desc → LiesWith desc place
      → IsPlaced limits sources (imports.name_at descs a) place
  in_desc n none descs a desc place d at inside =
      let (s, there, is) = described_at limits d.files descs d.each a desc at in
      in_source limits sources (λ y breaks less. none y breaks (omega (arith, less))) s (imports.name_at descs a) place
      (moved d.by_name.all (IsPermutation-refl sources) s (a, there.0, there.1))
      (rw (same_names limits d.files descs d.each) (sym (name_of_item d.files a s there.0 (sym there.1))))
      (place_inside limits (name_of s) (text_of s) desc place is
      (inside (length (text_of s)) (parts_of (upto (length (text_of s))) desc
      (places_within limits (name_of s) (text_of s) desc is))))

  at_start : (file : List ℕ) → (file ≡ []) ⊎ ((s : Source) × Contains sources s × (name_of s ≡ file))
      → IsPlaced limits sources file start
  at_start file of_source =
      record { of_source = of_source; within = λ s here named. omega arith; short = omega arith }

  at_start_of : (files : List Source) (k : ℕ) → ((s : Source) → Contains files s → Contains sources s)
      → k < length files → IsPlaced limits sources (name_at files k) start
  at_start_of files k all h =
      let (s, at) = item_at files k h in
      at_start (name_at files k) (inr (s, all s (k, at.0, at.1), sym (name_of_item files k s at.0 (sym at.1))))

  pub placed : (x : SourceFault) → Breaks limits sources x → NoneBefore limits sources x.pass
      → IsPlaced limits sources x.file x.place
  placed _ (many_files over) none = at_start [] (inl refl)
  placed _ (repeated_file_name i j less below same) none =
      at_start_of sources i (λ s here. here) (omega (arith, less, below))
  placed _ (file_fault s f here wrong) none = in_source limits sources none s (name_of s) f.spot.place here refl
      (fault_inside limits (name_of s) (text_of s) f wrong)
  placed _ (bad_import descs a place what d bad) none =
      let (desc, at) = item_at descs a (bad_inside descs a place what bad) in
      in_desc 1 none descs a desc place d at (bad_placed descs a desc place what at bad)
  placed _ (many_names descs d over) none = at_start [] (inl refl)
  placed _ (repeated_name descs o d twice) none =
      let (k, desc, at, here) = occurrence_in 0 descs o (contains_second (occurrences descs) twice.0 o twice.1) in
      let (s, there, is) = described_at limits d.files descs d.each k desc at in
      let stands : (n : ℕ) → FileParts (upto n) desc → OccurrenceAt (upto n) (0 + k) o =
      λ n parts. standing (OccurrenceAt (upto n) (0 + k)) _ here.0 o (occurrences_at (upto n) (0 + k) desc parts)
      (here.1, here.2) in
      let within = parts_of (upto (length (text_of s))) desc (places_within limits (name_of s) (text_of s) desc is) in
      let file = (stands (length (text_of s)) within).0 in
      let same : o.file ≡ k = omega (arith, file) in
      rw same (in_desc 2 none descs k desc o.place d at (λ n parts. (stands n parts).1))
  placed _ (bad_type descs a desc place what d at wrong) none =
      in_desc 3 none descs a desc place d at (types_placed _ _ desc place what wrong)
  placed _ (long_descriptor files typed links index a desc r at over) none =
      let names = resolved_names r in
      rw names (at_start_of files a (moved r.analysed.described.by_name.all (IsPermutation-refl sources))
      (omega (arith, at.0, as_many imports.name_of name_of typed files names)))
  placed _ (long_set c written over) none = at_start [] (inl refl)
