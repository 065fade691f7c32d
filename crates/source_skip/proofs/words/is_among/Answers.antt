use Rattle.std.proofs.Common.{◌≡◌, ℕ, List, [], ◌∷◌, map, refl, ◌∙◌, rules, tests, bytes_eq}
use Rattle.std.specs.List.{list_any}
use Rattle.std.proofs.lemmas.Iterator.{YieldsList-from_slice}
use Rattle.std.proofs.lemmas.Iterator.Search.{any_from_yields_List}
use Rattle.proto_syntax.specs.Grammar.{among}
use Rattle.source_skip.proofs.words.is_among.Goals as goal

any_among : {X : Type 0} (bytes_of : X → List ℕ) (name : List ℕ) (words : List X)
    → list_any (λ w. bytes_eq name (bytes_of w)) words ≡ among name (map bytes_of words)
any_among bytes_of name [] = refl
any_among bytes_of name (w ∷ words) = rw (any_among bytes_of name words) refl

pub returns : goal.returns
returns c =
    any_from_yields_List (λ w. bytes_eq c.args.name.now w.now) _ _ _ c.any.ensures.ran
    (YieldsList-from_slice c.args.words.now cc) (λ x b q k. search (rules, tests))
    ∙ any_among (λ w. w.now) c.args.name.now c.args.words.now
