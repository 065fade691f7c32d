use Rattle.std.proofs.Common.{ℕ, ◌≡◌, ◌-◌, List, length, map, take, sym}
use Rattle.std.proofs.lemmas.List.{length-map, take-map}
use Rattle.source_skip.specs.ProgramTokens.{spelled}
use Rattle.source_skip.proofs.settings.before.Goals as goal

before_mapped : {A B : Type 0} (f : A → B) (xs ys : List A) (n : ℕ) → n ≡ length xs - length ys
    → map f (take n xs) ≡ take (length (map f xs) - length (map f ys)) (map f xs)
before_mapped f xs ys n h = rw (h, length-map xs f, length-map ys f) (sym (take-map f (length xs - length ys) xs))

pub returns : goal.returns
returns c = before_mapped spelled c.args.tokens.now c.args.rest.now c.saturating_sub.result c.saturating_sub.ensures
