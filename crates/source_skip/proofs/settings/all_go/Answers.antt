use Rattle.std.proofs.Common.{◌≡◌, List, [], ◌∷◌, map, refl, ◌∙◌, rules, tests}
use Rattle.std.specs.List.{list_all}
use Rattle.std.proofs.lemmas.Iterator.{YieldsList-from_slice}
use Rattle.std.proofs.lemmas.Iterator.Search.{all_from_yields_List}
use Rattle.source_skip.specs.ProgramSettings.{entry_of}
use Rattle.source_skip.specs.Skipped as skipped
use Rattle.source_skip.specs.declared.settings.Entry.{Entry}
use Rattle.source_skip.proofs.settings.all_go.Goals as goal

all_of_program : (es : List Entry) → list_all (λ e. e.goes) es ≡ skipped.all_go (map entry_of es)
all_of_program [] = refl
all_of_program (e ∷ es) = rw (all_of_program es) refl

pub returns : goal.returns
returns c = all_from_yields_List (λ e. e.goes) _ _ _ c.all.ensures.ran
    (YieldsList-from_slice c.args.entries.now cc) (λ x b q k. search (rules, tests)) ∙ all_of_program c.args.entries.now
