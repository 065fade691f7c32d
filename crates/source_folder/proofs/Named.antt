-- Names of entries and of texts.
use Rattle.std.proofs.Common.{◌≡◌, ◌∙◌, All, Global, IsTrue, List, String, Vec, ℕ, ap, arith, length, map, string_bytes, subst, sym, vec_len}
use Rattle.std.proofs.lemmas.List.{get_or-map, length-map}
use Rattle.std.proofs.lemmas.List.Elements.{All-map}
use Rattle.source_folder.specs.Folder.{name_of, names_of}
use Rattle.source_folder.specs.Paths.{ends_in_proto}
use Rattle.source_folder.specs.declared.folder.NamedText.{NamedText}

-- as many as there are of what has the same names
pub as_many : {X Y : Type 0} (f : X → List ℕ) (g : Y → List ℕ) (xs : Vec X Global) (ys : Vec Y Global)
    → map f xs.items ≡ map g ys.items → vec_len xs ≡ vec_len ys
as_many f g xs ys names =
    let same : length xs.items ≡ length ys.items =
    sym (length-map xs.items f) ∙ ap length names ∙ length-map ys.items g in
    omega (arith, same, xs.ok, ys.ok)

-- what holds of the elements of a mapped list
pub unmapped : {X Y : Type 0} (f : X → Y) (P : Y → Type 0) (xs : List X) → All P (map f xs) → All (λ x. P (f x)) xs
unmapped f P xs all k d h = subst P (get_or-map f xs k d (f d) h) (all k (f d) (omega (arith, h, length-map xs f)))

-- texts of names that end in `.proto`
pub proto_texts : (texts : List NamedText) (names : List (String Global)) → names_of texts ≡ map string_bytes names
    → All (λ n. IsTrue (ends_in_proto (string_bytes n))) names → All (λ t. IsTrue (ends_in_proto (name_of t))) texts
proto_texts texts names same all =
    let P : List ℕ → Type 0 = λ n. IsTrue (ends_in_proto n) in
    unmapped name_of P texts (subst (λ (ns : List (List ℕ)). All P ns) (sym same) (All-map P string_bytes names all))
