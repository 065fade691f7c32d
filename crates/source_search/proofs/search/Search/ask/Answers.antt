use Rattle.source_search.proofs.Common.{◌≡◌, ◌∙◌, [], true, append-nil, subst, sym, All-cons, All-head, All-nil, IsSearched, IsWorth, found_under, is_asked, sources_of}
use Rattle.source_search.proofs.Asking.{found_more, now_asked, still_asked}
use Rattle.source_search.proofs.search.Search.ask.Goals as goal

pub returns-then-contains : goal.returns-then-contains
returns-then-contains g c = record {
  more = [];
  grown = sym (append-nil (sources_of c.args.self.now));
  still = λ other h. h;
  asked = All-cons (λ n. is_asked c.args.self.now n ≡ true) c.args.name.now []
      (sym c.contains.ensures ∙ c.if-contains.true) (All-nil _);
  searched = λ given worth s. s;
}

pub returns : goal.returns
returns g c =
    let name = c.args.name.now in
    let asked = is_asked c.args.self.now in
    let later = is_asked c.keep.new.self in
    let keeps = c.in_ok-keep.ensures in
    let limits = c.args.limits.now in
    let known = g.S.Shelf.texts c.args.shelf.now in record {
      more = found_under name c.in_ok-found.found;
      grown = keeps.sources;
      still = still_asked name asked later keeps.asked;
      asked = All-cons (λ n. later n ≡ true) name [] (now_asked name asked later keeps.asked) (All-nil _);
      searched = λ given worth s. subst (λ some. IsSearched limits known given some later) (sym keeps.sources)
          (found_more name asked later keeps.asked limits known given (sources_of c.args.self.now) c.in_ok-found.found
          (sym c.contains.ensures ∙ c.if-contains.false) c.in_ok-found.ensures
          (All-head (IsWorth limits known given) name [] worth) s);
    }
