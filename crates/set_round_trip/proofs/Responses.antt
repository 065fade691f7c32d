-- No answer asks where names stand.
use Rattle.std.proofs.Common.{◌≡◌, ◌∙◌, sym, ap, refl, ℕ, ◌<◌, ◌↔◌, List, [], ◌∷◌, ◌++◌, length, map, flat_map, zip, Option, Some, None, subst, arith}
use Rattle.std.specs.List.{AllZip}
use Rattle.first_reach.specs.Carried.{carried, carried_from, reached, root_first}
use Rattle.first_reach.specs.declared.mode.Mode.{Mode}
use Rattle.proto_compilation.specs.Compilation.{Compilation}
use Rattle.proto_compilation.specs.Sound.{IsSound}
use Rattle.proto_links.specs.Linked.{reach_of}
use Rattle.proto_names.specs.Occurrences.{Occurrence}
use Rattle.reflect_core.proofs.OneResponse.{root_inside}
use Rattle.reflect_core.specs.Answer.{Answer, Declares, Extends, IsAnswer}
use Rattle.reflect_core.specs.Answer as answers
use Rattle.reflect_core.specs.Reply.{Asked, reply}
use Rattle.reflect_core.specs.Response.{IsAsked, IsResponse, replies, replies_to, root, trailer}
use Rattle.reflect_requests.specs.Frames.{frame}
use Rattle.reflect_requests.specs.Request.{Ask, file_by_symbol}
use Rattle.share_work.proofs.Sums.{in_map, of_map}
use Rattle.set_round_trip.specs.ButPlaces.{AreAlikeButPlaces, at_start}

back_alike : (c d : Compilation) → AreAlikeButPlaces c d → AreAlikeButPlaces d c
back_alike c d same = record {
  files = sym same.files;
  set_order = sym same.set_order;
  reach = λ a below. sym (same.reach a (subst (λ fs. a < length fs) (sym same.files) below));
  occurrences = λ o. ((same.occurrences o).1, (same.occurrences o).0);
  services = sym same.services;
  extensions = sym same.extensions;
  limits = sym same.limits;
}

-- ---- answers

-- an element of one compilation, and one of the other with its name, file and kind
record IsBeside (c : Compilation) (name : List ℕ) (o p : Occurrence) : Type 0 where
  declares : Declares c name p
  file : p.file ≡ o.file
  kind : p.kind ≡ o.kind

module _ (c d : Compilation) (same : AreAlikeButPlaces c d) where
  beside : (name : List ℕ) (o : Occurrence) → Declares c name o → (p : Occurrence) × IsBeside d name o p
  beside name o is =
      let (p, there, at) = of_map at_start d.index.occurrences (at_start o)
      ((same.occurrences (at_start o)).0 (in_map at_start c.index.occurrences o is.declared)) in
      let kind : p.kind ≡ o.kind = ap (λ (x : Occurrence). x.kind) at in (
        p,
        record {
          declares = record {
            declared = there;
            named = ap (λ (x : Occurrence). x.name) at ∙ is.named;
            element = λ none. is.element (sym kind ∙ none);
          };
          file = ap (λ (x : Occurrence). x.file) at;
          kind = kind;
        },
      )

module _ (c d : Compilation) (same : AreAlikeButPlaces c d) where
  answer_on : (ask : Ask) (x : Answer) → IsAnswer c ask x → IsAnswer d ask x
  answer_on ask x (answers.named name a is) =
      answers.named name a (rw same.files at is)
  answer_on ask x (answers.not_named name none) =
      answers.not_named name (λ a is. none a (rw (← same.files) at is))
  answer_on ask x (answers.declared name o is) =
      let (p, besides) = beside c d same name o is in
      subst (λ f. IsAnswer d (file_by_symbol name) (answers.file f)) besides.file
      (answers.declared name p besides.declares)
  answer_on ask x (answers.not_declared name none) =
      answers.not_declared name (λ o is. none _ (beside d c (back_alike c d same) name o is).1.declares)
  answer_on ask x (answers.extended name n e is) = answers.extended name n e
      (record { declared = rw same.extensions at is.declared; message = is.message; numbered = is.numbered })
  answer_on ask x (answers.not_extended name n none) = answers.not_extended name n (λ e is. none e
      (record { declared = rw (← same.extensions) at is.declared; message = is.message; numbered = is.numbered }))
  answer_on ask x (answers.message name o is kind) =
      let (p, besides) = beside c d same name o is in answers.message name p besides.declares (besides.kind ∙ kind)
  answer_on ask x (answers.no_message name none) = answers.no_message name (λ o is kind. (
      let (p, besides) = beside d c (back_alike c d same) name o is in none p besides.declares (besides.kind ∙ kind)))
  answer_on ask x answers.listed = answers.listed
  answer_on ask x answers.nothing_asked = answers.nothing_asked

  asked_on : (messages : List (List ℕ)) (xs : List Asked) → AllZip (IsAsked c) messages xs
      → AllZip (IsAsked d) messages xs
  asked_on [] [] all = tt
  asked_on (m ∷ ms) (x ∷ xs) all = (
    record {
      same = all.0.same;
      ask = all.0.ask;
      reads = all.0.reads;
      answered = answer_on all.0.ask x.answer all.0.answered;
    },
    asked_on ms xs all.1,
  )
  asked_on ms xs all = grind arith

  -- ---- replies

  reached_alike : (o : Option ℕ) → ((r : ℕ) → o ≡ Some r → r < length c.files)
      → (reached (reach_of c.links) o ≡ reached (reach_of d.links) o)
      × (root_first (reach_of c.links) o ≡ root_first (reach_of d.links) o)
  reached_alike None inside = (refl, refl)
  reached_alike (Some r) inside = rw (same.reach r (inside r refl)) (refl, refl)

  carried_alike : IsSound c → (mode : Mode) (sent : List ℕ) (messages : List (List ℕ)) (xs : List Asked)
      → AllZip (IsAsked c) messages xs → carried_from mode (reach_of c.links) sent (map root xs)
      ≡ carried_from mode (reach_of d.links) sent (map root xs)
  carried_alike sound mode sent [] [] all = refl
  carried_alike sound mode sent (m ∷ ms) (x ∷ xs) all =
      let one = reached_alike (root x) (λ r at. root_inside c sound _ x.answer r all.0.answered at) in
      let rest = carried_alike sound mode (sent ++ reached (reach_of c.links) (root x)) ms xs all.1 in
      rw (rest, one.0, one.1) refl
  carried_alike sound mode sent ms xs all = absurd all

  reply_alike : (asked : Asked) (files : List ℕ) → reply c asked files ≡ reply d asked files
  reply_alike asked files = grind (arith, same.files, same.services, same.extensions)

  response_on : IsSound c → (mode : Mode) (body bytes : List ℕ) → IsResponse mode c body bytes
      → IsResponse mode d body bytes
  response_on sound mode body bytes is =
      let lists = carried mode (reach_of d.links) (map root is.asked) in
      let all : replies mode c is.asked ≡ replies mode d is.asked =
      ap (replies_to c is.asked) (carried_alike sound mode [] is.messages is.asked is.requests)
      ∙ (λ i. map (λ p. reply_alike p.0 p.1 i) (zip is.asked lists)) in
      record {
        messages = is.messages;
        status = is.status;
        asked = is.asked;
        read = rw same.limits at is.read;
        requests = asked_on is.messages is.asked is.requests;
        spelled = is.spelled ∙ ap (λ rs. flat_map (frame 0) rs ++ frame 128 (trailer is.status)) all;
      }

-- the same responses, either way
pub same_responses : (c d : Compilation) → IsSound c → IsSound d → AreAlikeButPlaces c d → (mode : Mode)
    (body bytes : List ℕ) → IsResponse mode c body bytes ↔ IsResponse mode d body bytes
same_responses c d first second same mode body bytes = (
  response_on c d same first mode body bytes,
  response_on d c (back_alike c d same) second mode body bytes,
)
