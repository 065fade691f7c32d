use Rattle.proto_compile.proofs.Common.{◌≡◌, ◌⊎◌, ◌++◌, List, arith, length, map, length-append, length-map}
use Rattle.proto_names.proofs.Tabled.{all_taken}
use Rattle.proto_compile.proofs.pass.filling.with_types.Goals as goal

-- two lists of one length end together
both_ended : {F X Y : Type 0} (f : F → X) (g : F → Y) (files : List F) (xs lefts : List X) (ys rights : List Y)
    → map f files ++ lefts ≡ xs → map g files ++ rights ≡ ys → length ys ≡ length xs
    → (length lefts ≡ 0) ⊎ (length rights ≡ 0) → (map f files ≡ xs) × (map g files ≡ ys)
both_ended f g files xs lefts ys rights left right same end = grind (
  arith,
  length-map,
  length-append,
  all_taken (map f files) lefts xs left,
  all_taken (map g files) rights ys right,
)

pub returns : goal.returns
returns c = grind (arith, both_ended)
