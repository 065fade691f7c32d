-- A body has one response.
use Rattle.reflect_core.proofs.Common.{◌≡◌, ◌∙◌, ◌++◌, sym, ℕ, ◌<◌, List, [], ◌∷◌, map, ap, refl, arith, Option, Some, None, length, Contains, flat_map, zip, AllZip, none-some, same_Some, carried, carried_from, reached, root_first, Mode, Compilation, reach_of, frame, Ask, Answer, Declares, IsAnswer, root_of, Asked, reply, IsAsked, IsResponse, replies, replies_to, root, trailer}
use Rattle.proto_compilation.specs.Alike.{AreAlike}
use Rattle.proto_compilation.specs.Sound.{IsSound}
use Rattle.proto_compilation.proofs.Rising.{one_extension}
use Rattle.proto_compilation.proofs.Within.{named_once}
use Rattle.proto_compilation.specs.Extensions.{DeclaredExtension}
use Rattle.proto_names.specs.Occurrences.{Occurrence}
use Rattle.reflect_requests.proofs.FrameRows.{one_reading}
use Rattle.reflect_requests.proofs.RequestRows.{one_ask, one_host}
use Rattle.reflect_core.specs.Answer as answers

-- ---- one answer

declares_by : (c d : Compilation) → ((o : Occurrence) → Contains c.index.occurrences o → Contains d.index.occurrences o)
    → (name : List ℕ) (o : Occurrence) → Declares c name o → Declares d name o
declares_by c d on name o is = record { declared = on o is.declared; named = is.named; element = is.element }

-- roots are files
pub root_inside : (c : Compilation) → IsSound c → (ask : Ask) (x : Answer) (r : ℕ) → IsAnswer c ask x
    → root_of x ≡ Some r → r < length c.files
root_inside c sound ask x r (answers.named name a n) at = omega (arith, same_Some a r at, n.0)
root_inside c sound ask x r (answers.declared name o n) at =
    omega (arith, same_Some _ r at, sound.coherent.names.inside o n.declared, sound.coherent.indexed)
root_inside c sound ask x r (answers.extended name n e is) at =
    omega (arith, same_Some _ r at, (sound.coherent.extensions_within e is.declared).inside)
root_inside c sound ask x r answer at = absurd (none-some r at)

-- the same files, services and extensions make the same reply
reply_alike : (c d : Compilation) → c.files ≡ d.files → c.index.services ≡ d.index.services
    → c.extensions ≡ d.extensions → (asked : Asked) (carried : List ℕ) → reply c asked carried ≡ reply d asked carried
reply_alike c d files services extensions asked carried = grind (arith, files, services, extensions)

module _ (c d : Compilation) (sound : IsSound c) (same : AreAlike c d) where
  back : (name : List ℕ) (o : Occurrence) → Declares d name o → Declares c name o
  back = declares_by d c (λ o. (same.occurrences o).1)

  on : (name : List ℕ) (o : Occurrence) → Declares c name o → Declares d name o
  on = declares_by c d (λ o. (same.occurrences o).0)

  one_meaning : (ask : Ask) (x y : Answer) → IsAnswer c ask x → IsAnswer d ask y → x ≡ y
  one_meaning ask x y (answers.named name a n) (answers.named _ b m) =
      ap answers.file (named_once c.files sound.coherent.rises name a b n (rw same.files m))
  one_meaning ask x y (answers.named name a n) (answers.not_named _ none) = absurd (none a (rw (← same.files) n))
  one_meaning ask x y (answers.not_named name none) (answers.named _ b m) = absurd (none b (rw same.files m))
  one_meaning ask x y (answers.declared name o n) (answers.declared _ p m) =
      ap (λ (o : Occurrence). answers.file o.file)
      (sound.coherent.declared.one o p n.declared (back name p m).declared (n.named ∙ sym m.named) n.element)
  one_meaning ask x y (answers.declared name o n) (answers.not_declared _ none) = absurd (none o (on name o n))
  one_meaning ask x y (answers.not_declared name none) (answers.declared _ p m) = absurd (none p (back name p m))
  one_meaning ask x y (answers.message name o n k) (answers.no_message _ none) = absurd (none o (on name o n) k)
  one_meaning ask x y (answers.no_message name none) (answers.message _ p m k) = absurd (none p (back name p m) k)
  one_meaning ask x y (answers.extended name n e is) (answers.extended _ _ f has) =
      ap (λ (e : DeclaredExtension). answers.file e.file)
      (one_extension c.extensions sound.coherent.extensions_rise e f is.declared (rw (← same.extensions) at has.declared)
      (is.message ∙ sym has.message) (is.numbered ∙ sym has.numbered))
  one_meaning ask x y (answers.extended name n e is) (answers.not_extended _ _ none) =
      absurd (none e (record { declared = rw same.extensions at is.declared; message = is.message; numbered = is.numbered }))
  one_meaning ask x y (answers.not_extended name n none) (answers.extended _ _ f has) =
      absurd (none f (record { declared = rw (← same.extensions) at has.declared; message = has.message; numbered = has.numbered }))
  one_meaning ask x y answers.listed answers.listed = refl
  one_meaning ask x y answers.nothing_asked answers.nothing_asked = refl
  one_meaning ask x y first second = refl

  one_asked : (message : List ℕ) (x y : Asked) → IsAsked c message x → IsAsked d message y → x ≡ y
  one_asked message x y first second =
      let host = one_host message _ _ _ _ first.reads second.reads in
      let ask = one_ask message _ _ _ _ first.reads second.reads in
      let answer = one_meaning second.ask x.answer y.answer (rw ask at first.answered) second.answered in
      let text = first.same ∙ sym second.same in
      λ i. record { message = text i; host = host i; answer = answer i }

  all_asked : (messages : List (List ℕ)) (xs ys : List Asked) → AllZip (IsAsked c) messages xs
      → AllZip (IsAsked d) messages ys → xs ≡ ys
  all_asked [] [] [] first second = refl
  all_asked (m ∷ ms) (x ∷ xs) (y ∷ ys) first second =
      cc (one_asked m x y first.0 second.0, all_asked ms xs ys first.1 second.1)
  all_asked ms xs ys first second = grind arith

  -- ---- one list of replies

  -- what is reached from a root, in either order
  reached_alike : (o : Option ℕ) → ((r : ℕ) → o ≡ Some r → r < length c.files)
      → (reached (reach_of c.links) o ≡ reached (reach_of d.links) o)
      × (root_first (reach_of c.links) o ≡ root_first (reach_of d.links) o)
  reached_alike None inside = (refl, refl)
  reached_alike (Some r) inside = rw (same.reach r (inside r refl)) (refl, refl)

  carried_alike : (mode : Mode) (sent : List ℕ) (messages : List (List ℕ)) (xs : List Asked)
      → AllZip (IsAsked c) messages xs
      → carried_from mode (reach_of c.links) sent (map root xs) ≡ carried_from mode
      (reach_of d.links) sent (map root xs)
  carried_alike mode sent [] [] all = refl
  carried_alike mode sent (m ∷ ms) (x ∷ xs) all =
      let one = reached_alike (root x) (λ r at. root_inside c sound _ x.answer r all.0.answered at) in
      let rest = carried_alike mode (sent ++ reached (reach_of c.links) (root x)) ms xs all.1 in
      rw (rest, one.0, one.1) refl
  carried_alike mode sent ms xs all = absurd all

  pub one_response : (mode : Mode) (body a b : List ℕ) → IsResponse mode c body a → IsResponse mode d body b → a ≡ b
  one_response mode body a b x y =
      let bound = c.limits.message_bytes_bound in
      let read = one_reading c.limits (omega (arith, bound)) body _ _ _ _ x.read (rw same.limits y.read) in
      let asked = all_asked x.messages _ _ x.requests (rw read.0 y.requests) in
      let lists = carried mode (reach_of d.links) (map root x.asked) in
      let all : replies mode c x.asked ≡ replies mode d y.asked =
      ap (replies_to c x.asked) (carried_alike mode [] x.messages x.asked x.requests)
      ∙ (λ i. map (λ p. reply_alike c d same.files same.services same.extensions p.0 p.1 i) (zip x.asked lists)) ∙ ap (replies mode d) asked in
      x.spelled ∙ (λ i. flat_map (frame 0) (all i) ++ frame 128 (trailer (read.1 i))) ∙ sym y.spelled
