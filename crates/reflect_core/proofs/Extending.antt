-- Extensions of the program, as a compilation has them.
use Rattle.reflect_core.proofs.Common.{◌≡◌, ◌∙◌, sym, ap, ℕ, ◌<◌, List, [], ◌∷◌, length, map, get_or, arith, Contains}
use Rattle.std.proofs.lemmas.List.{length-map, get_or-map}
use Rattle.proto_compilation.specs.Extensions.{DeclaredExtension}
use Rattle.proto_compilation.specs.Parts.{declared_extension}
use Rattle.proto_compilation.specs.declared.extension.Extension.{Extension}

pub contains_declared : (es : List Extension) (i : ℕ) (e : Extension) → i < length es → get_or es i e ≡ e
    → Contains (map declared_extension es) (declared_extension e)
contains_declared es i e below here = (
  i,
  omega (arith, below, length-map es declared_extension),
  get_or-map declared_extension es i e (declared_extension e) below ∙ ap declared_extension here,
)

-- what is held is one of the program's
pub held_by : (es : List Extension) (e : DeclaredExtension) → Contains (map declared_extension es) e
    → (k : ℕ) × (d : Extension) × (k < length es) × (declared_extension (get_or es k d) ≡ e)
held_by [] e (k, below, here) = absurd (omega (arith, below))
held_by (x ∷ xs) e (k, below, here) =
    let within : k < length (x ∷ xs) = omega (arith, below, length-map (x ∷ xs) declared_extension) in (
      k,
      x,
      within,
      sym (get_or-map declared_extension (x ∷ xs) k x e within) ∙ here,
    )
