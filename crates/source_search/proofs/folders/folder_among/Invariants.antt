use Rattle.std.proofs.Common.{◌≡◌, drop, map, IfSome, find}
use Rattle.source_search.specs.Folders.{has_text}
use Rattle.source_search.proofs.folders.folder_among.Given as goal

abbrev pub invariant-loop-folder : goal.invariant-loop-folder
invariant-loop-folder g l = IfSome (g.F.Folders.contents l.folders) (λ contents.
    find (has_text contents l.name) (map (λ f. f.now) (drop l.folder-index l.among))
    ≡ find (has_text contents l.name) (map (λ f. f.now) l.among))
