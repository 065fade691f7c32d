-- Parts that were written one before the other.
use Rattle.std.proofs.Common.{◌≡◌, ℕ, List, ◌++◌, append_assoc, refl}

pub eight_parts : (a b c d e f g h old : List ℕ)
    → a ++ (b ++ (c ++ (d ++ (e ++ (f ++ (g ++ (h ++ old))))))) ≡ (a ++ b ++ c ++ d ++ e ++ f ++ g ++ h) ++ old
eight_parts a b c d e f g h old = simp append_assoc refl

pub nine_parts : (a b c d e f g h i old : List ℕ) → a ++ (b ++ (c ++ (d ++ (e ++ (f ++ (g ++ (h ++ (i ++ old))))))))
    ≡ (a ++ b ++ c ++ d ++ e ++ f ++ g ++ h ++ i) ++ old
nine_parts a b c d e f g h i old = simp append_assoc refl
