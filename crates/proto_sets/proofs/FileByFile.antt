-- What files declare, one after the other.
use Rattle.std.proofs.Common.{◌≡◌, ◌∙◌, sym, ap, ℕ, suc, ◌+◌, ◌<◌, List, [], ◌∷◌, ◌++◌, length, map, refl, arith, get_or, get_or-take, length-take, take, slice_get, Some, append-nil, append_assoc}
use Rattle.std.proofs.lemmas.List.{get_or-map, length-map, map_push, take_more}
use Rattle.std.proofs.lemmas.Option.{get_or_from_slice_get, slice_get-get_or, slice_get_within}
use Rattle.std.specs.List.{AllZip, filter_map}
use Rattle.proto_compilation.specs.Compilation.{CompiledFile}
use Rattle.proto_desc.specs.declared.file.FileDesc.{FileDesc}
use Rattle.proto_names.specs.Occurrences.{Occurrence, package_occurrences}
use Rattle.proto_sets.specs.Says.{ExtensionAt, said_extension, said_occurrence}
use Rattle.proto_sets.specs.SetFaults.{TellsOf, of_file}
use Rattle.proto_sets.specs.SetSteps.{AreWalked, IsFirstSilent, file_of, files_of}
use Rattle.proto_sets.specs.Sets.{Contents, FileSays, SaysFile, extensions_from, head_of, names_from}
use Rattle.proto_sets.specs.declared.fault.SetError.{SetError}
use Rattle.proto_sets.specs.declared.fault.SetKind.TheVariants as kind
use Rattle.proto_sets.specs.declared.files.NamedBytes.{NamedBytes}
use Rattle.proto_sets.proofs.LeastFault.{tells_more}
use Rattle.proto_sets.proofs.NamesFrom.{names_of}
use Rattle.proto_sets.proofs.OneSet.{zipped_at}

zip_more : {X Y : Type 0} (R : X → Y → Type 0) (xs : List X) (ys : List Y) (x : X) (y : Y) → AllZip R xs ys → R x y
    → AllZip R (xs ++ x ∷ []) (ys ++ y ∷ [])
zip_more R [] [] x y all one = (one, tt)
zip_more R (a ∷ xs) (b ∷ ys) x y all one = (all.0, zip_more R xs ys x y all.1 one)
zip_more R [] (b ∷ ys) x y all one = absurd all
zip_more R (a ∷ xs) [] x y all one = absurd all

pub zip_length : {X Y : Type 0} (R : X → Y → Type 0) (xs : List X) (ys : List Y) → AllZip R xs ys → length xs ≡ length ys
zip_length R [] [] all = refl
zip_length R (a ∷ xs) (b ∷ ys) all = ap suc (zip_length R xs ys all.1)
zip_length R [] (b ∷ ys) all = absurd all
zip_length R (a ∷ xs) [] all = absurd all

names_more : (first : ℕ) (cs : List Contents) (c : Contents)
    → names_from first (cs ++ c ∷ []) ≡ names_from first cs ++ names_of (first + length cs) c
names_more first [] c = let at : first + 0 ≡ first = omega arith in rw at (append-nil (names_of first c))
names_more first (b ∷ cs) c =
    let at : first + suc (length cs) ≡ first + 1 + length cs = omega arith in
    rw at (ap (λ os. names_of first b ++ os) (names_more (first + 1) cs c)
    ∙ sym (append_assoc (names_of first b) (names_from (first + 1) cs) (names_of (first + 1 + length cs) c)))

extensions_more : (first : ℕ) (cs : List Contents) (c : Contents)
    → extensions_from first (cs ++ c ∷ [])
    ≡ extensions_from first cs ++ filter_map (said_extension (first + length cs)) c.said
extensions_more first [] c =
    let at : first + 0 ≡ first = omega arith in rw at (append-nil (filter_map (said_extension first) c.said))
extensions_more first (b ∷ cs) c =
    let at : first + suc (length cs) ≡ first + 1 + length cs = omega arith in
    rw at (ap (λ os. filter_map (said_extension first) b.said ++ os) (extensions_more (first + 1) cs c)
    ∙ sym (append_assoc (filter_map (said_extension first) b.said) (extensions_from (first + 1) cs)
    (filter_map (said_extension (first + 1 + length cs)) c.said)))

pub walked_none : (depth : ℕ) → AreWalked depth [] [] [] []
walked_none depth = record { contents = []; each = tt; names_are = refl; extensions_are = refl; heads_are = refl }

-- one more
pub walked_more : (depth : ℕ) (fs : List CompiledFile) (f : CompiledFile) (names names' : List Occurrence)
    (es es' : List ExtensionAt) (heads : List FileDesc) (c : Contents) (at : ℕ) → at ≡ length fs
    → AreWalked depth fs names es heads → SaysFile depth f.bytes c → names' ≡ names ++ names_of at c
    → es' ≡ es ++ filter_map (said_extension at) c.said
    → AreWalked depth (fs ++ f ∷ []) names' es' (heads ++ c.head ∷ [])
walked_more depth fs f names names' es es' heads c at stands so says put extended =
    let cs = so.contents in
    let size : 0 + length cs ≡ at = omega (arith, stands, zip_length (FileSays depth) fs cs so.each) in
    record {
      contents = cs ++ c ∷ [];
      each = zip_more (FileSays depth) fs cs f c so.each says;
      names_are = put ∙ rw (names_more 0 cs c, size, so.names_are) refl;
      extensions_are = extended ∙ rw (extensions_more 0 cs c, size, so.extensions_are) refl;
      heads_are = rw (map_push head_of cs c, so.heads_are) refl;
    }

-- each of the first files says something
pub said_before : (depth : ℕ) (files : List CompiledFile) (n : ℕ) (cs : List Contents)
    → AllZip (FileSays depth) (take n files) cs → (j : ℕ) (f : CompiledFile) → j < n → slice_get files j ≡ Some f
    → (c : Contents) × SaysFile depth f.bytes c
said_before depth files n cs each j f less stands =
    let inside = slice_get_within files j f stands in
    let at : get_or (take n files) j f ≡ f = get_or-take n files j f less ∙ get_or_from_slice_get files j f f stands in
    zipped_at (FileSays depth) (take n files) cs j f each (omega (arith, length-take n files, less, inside), at)

-- ---- files of the program

pub file_stands : (items : List NamedBytes) (k : ℕ) (d : NamedBytes) → k < length items
    → slice_get (files_of items) k ≡ Some (file_of (get_or items k d))
file_stands items k d below =
    let size : k < length (files_of items) = omega (arith, below, length-map items file_of) in
    slice_get-get_or (files_of items) k (file_of d) size ∙ ap Some (get_or-map file_of items k d (file_of d) below)

-- of a file that says nothing behind those that say something
pub silent_tells : (depth : ℕ) (items : List NamedBytes) (at : ℕ) (d : NamedBytes) (cs : List Contents) (e : SetError)
    → at < length items → AllZip (FileSays depth) (take at (files_of items)) cs
    → TellsOf (λ x. (x ≡ of_file kind.MalformedContents (get_or items at d).name.now)
    × ((c : Contents) → SaysFile depth (get_or items at d).bytes.now c → ⊥)) e
    → TellsOf (IsFirstSilent depth (files_of items)) e
silent_tells depth items at d cs e below each =
    tells_more (λ x. (x ≡ of_file kind.MalformedContents (get_or items at d).name.now)
    × ((c : Contents) → SaysFile depth (get_or items at d).bytes.now c → ⊥)) (IsFirstSilent depth (files_of items))
    (λ x wrong. record {
      at = at;
      file = file_of (get_or items at d);
      stands = file_stands items at d below;
      wrong = wrong.1;
      before = said_before depth (files_of items) at cs each;
      is = wrong.0;
    }) e

pub walked_next : (depth : ℕ) (items : List NamedBytes) (at : ℕ) (d : NamedBytes) (names names' : List Occurrence)
    (es es' : List ExtensionAt) (heads : List FileDesc) (c : Contents) → at < length items
    → AreWalked depth (take at (files_of items)) names es heads → SaysFile depth (get_or items at d).bytes.now c
    → names' ≡ names ++ package_occurrences at c.head.«package» ++ map (said_occurrence at) c.said → es' ≡ es ++ filter_map (said_extension at) c.said
    → AreWalked depth (take (at + 1) (files_of items)) names' es' (heads ++ c.head ∷ [])
walked_next depth items at d names names' es es' heads c below so says put extended =
    let files = files_of items in
    let size : at < length files = omega (arith, below, length-map items file_of) in
    let f = file_of (get_or items at d) in
    let more : take (at + 1) files ≡ take at files ++ f ∷ [] = take_more files at (file_of d) size
    ∙ ap (λ (g : CompiledFile). take at files ++ g ∷ []) (get_or-map file_of items at d (file_of d) below) in
    rw more (walked_more depth (take at files) f names names' es es' heads c at
    (omega (arith, length-take at files, size)) so says
    (put ∙ append_assoc names (package_occurrences at c.head.«package») (map (said_occurrence at) c.said)) extended)
