use Rattle.std.proofs.Common.{◌≡◌, drop, map, IfSome}
use Rattle.source_search.specs.Folders.{first_in}
use Rattle.source_search.proofs.folders.text_among.Given as goal

abbrev pub invariant-loop-folder : goal.invariant-loop-folder
invariant-loop-folder g l = IfSome (g.F.Folders.contents l.folders) (λ contents.
    first_in contents (map (λ f. f.now) (drop l.folder-index l.among)) l.name
    ≡ first_in contents (map (λ f. f.now) l.among) l.name)
