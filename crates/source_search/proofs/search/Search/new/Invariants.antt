use Rattle.source_search.proofs.Common.{◌≡◌, ℕ, List, take, contains_text, names_of}
use Rattle.source_search.proofs.Naming.{is_among}
use Rattle.source_search.proofs.search.Search.new.Given as goal

abbrev pub invariant-loop-source : goal.invariant-loop-source
invariant-loop-source l = (name : List ℕ) → contains_text l.asked name ≡ is_among
    (names_of (take l.source-index l.source-items)) name
