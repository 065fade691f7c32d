use Rattle.share_work.proofs.Common.{◌≡◌, ℕ, zero, suc, List, [], ◌∷◌, length-set, get_or, get_or-set_same, get_or-set_other, below_more, sym, arith, some, some-injective, some-ne-none, get_elem?}
use Rattle.share_work.proofs.least.words_at_close.Goals as goal

get_from : (xs : List ℕ) (i x : ℕ) → get_elem? xs i ≡ some x → get_or xs i 0 ≡ x
get_from [] i x e = absurd (some-ne-none x (sym e))
get_from (y ∷ ys) zero x e = some-injective y x e
get_from (y ∷ ys) (suc i) x e = get_from ys i x e

pub loop-i-preserved : goal.loop-i-preserved
loop-i-preserved g c = grind (arith, below_more, get_from, get_or-set_other, get_or-set_same, length-set)
