-- What reading a request keeps, over its list of fields.
use Rattle.std.proofs.Common.{◌≡◌, ◌∙◌, ap, ap₂, sym, subst, refl, ℕ, ◌<◌, Bool, true, false, List, [], ◌∷◌, ◌==◌, length, drop, ◌+◌, map, get_or, arith, MatchBool, Option, Some}
use Rattle.std.specs.List.{filter_map, AllByRecursion, AllZip}
use Rattle.std.proofs.lemmas.List.{drop_more}
use Rattle.wire_format.specs.Reading.{Value, number, bytes, IsRow}
use Rattle.wire_format.proofs.ReadingRows.{one_list}
use Rattle.reflect_requests.specs.ProgramFrames.{ask_of}
use Rattle.reflect_requests.specs.RequestSteps.{Says, host_in, member_in}
use Rattle.reflect_requests.specs.declared.request.Said.{Said}
use Rattle.reflect_requests.specs.declared.request.Said.TheVariants.{Host, Member, Unknown}
use Rattle.reflect_requests.specs.Request.{Ask, nothing, IsContainingTypeUtf8, containing_type_of, extension_number_of, GivesExtension, GivesMember, extension_asked, given_of, host_of, last_of, string_member, IsWellFormed, ReadsRequest}

-- ---- a list whose items are tested one after the other

pub record Left {X : Type 0} (P : X → Type 0) (xs rest : List X) : Type 0 where
  pub ahead : AllByRecursion P rest → AllByRecursion P xs
  pub back : AllByRecursion P xs → AllByRecursion P rest

pub left_here : {X Y : Type 0} (P : Y → Type 0) (view : X → Y) (all : List Y) (xs : List X) (i : ℕ) (d : X)
    → i < length xs → Left P all (map view (drop i xs))
    → AllByRecursion P all → P (view (get_or xs i d))
left_here P view all xs i d within left whole = grind (arith, drop_more)

-- ---- requests

-- of another row of the same fields
pub all_of_row : (P : ℕ × Value → Type 0) (message : List ℕ) (fields more : List (ℕ × Value)) → IsRow message fields
    → IsRow message more → AllByRecursion P more → AllByRecursion P fields
all_of_row P message fields more row other all = rw (one_list message fields more row other) all

pub one_host : (message h k : List ℕ) (a b : Ask) → ReadsRequest message h a → ReadsRequest message k b → h ≡ k
one_host message h k a b first second =
    cc (one_list message first.fields second.fields first.row second.row)

-- a field gives one member, and so do many
given_once : (n : ℕ) (text : List ℕ) (five : Bool) (a b : Option Ask)
    → MatchBool five (GivesExtension text a) (a ≡ string_member n text)
    → MatchBool five (GivesExtension text b) (b ≡ string_member n text) → a ≡ b
given_once n text true a b (fields, row, is) (others, row', is') =
    is ∙ ap (λ (fs : List (ℕ × Value)). Some (extension_asked fs)) (one_list text fields others row row') ∙ sym is'
given_once n text false a b is is' = is ∙ sym is'

one_member : (field : ℕ × Value) (a b : Option Ask) → GivesMember field a → GivesMember field b → a ≡ b
one_member (n, number value) a b is is' = is ∙ sym is'
one_member (n, bytes text) a b is is' = given_once n text (n == 5) a b is is'

same_members : (fields : List (ℕ × Value)) (ms ns : List (Option Ask)) → AllZip GivesMember fields ms
    → AllZip GivesMember fields ns → ms ≡ ns
same_members [] [] [] all all' = refl
same_members [] (a ∷ ms) bs all all' = absurd all
same_members [] [] (b ∷ ns) all all' = absurd all'
same_members (f ∷ fs) [] ns all all' = absurd all
same_members (f ∷ fs) (a ∷ ms) [] all all' = absurd all'
same_members (f ∷ fs) (a ∷ ms) (b ∷ ns) all all' =
    ap₂ (λ (x : Option Ask) (xs : List (Option Ask)). x ∷ xs) (one_member f a b all.0 all'.0)
    (same_members fs ms ns all.1 all'.1)

pub one_ask : (message h k : List ℕ) (a b : Ask) → ReadsRequest message h a → ReadsRequest message k b → a ≡ b
one_ask message h k a b first second =
    let fields = one_list message first.fields second.fields first.row second.row in
    let members = same_members second.fields first.members second.members
    (subst (λ (fs : List (ℕ × Value)). AllZip GivesMember fs first.members) fields first.given) second.given in
    first.asked_is ∙ ap (λ (ms : List (Option Ask)). last_of nothing (filter_map given_of ms)) members ∙ sym second.asked_is

-- behind some fields: those that are left decide the host and the ask
pub record Decided (fields rest : List (ℕ × Value)) (host : List ℕ) (asked : Ask) : Type 0 where
  pub known : Left IsWellFormed fields rest
  pub host_is : last_of host (filter_map host_of rest) ≡ last_of [] (filter_map host_of fields)
  pub asked_is : (left : List (Option Ask)) → AllZip GivesMember rest left → (members : List (Option Ask))
      × AllZip GivesMember fields members
      × (last_of asked (filter_map given_of left) ≡ last_of nothing (filter_map given_of members))

-- behind some fields of a request for an extension: those that are left decide what it asks for
pub record ExtensionDecided (fields rest : List (ℕ × Value)) (containing_type : List ℕ) (wanted : ℕ) : Type 0 where
  pub known : Left IsContainingTypeUtf8 fields rest
  pub type_is : last_of containing_type (filter_map containing_type_of rest)
      ≡ last_of [] (filter_map containing_type_of fields)
  pub number_is : last_of wanted (filter_map extension_number_of rest) ≡ last_of 0 (filter_map extension_number_of fields)

-- ---- one field more

-- the host and the ask behind what a field says
abbrev pub host_after : List ℕ → Said → List ℕ
host_after host (Host text) = text.now
host_after host (Member asked) = host
host_after host Unknown = host

abbrev pub ask_after : Ask → Said → Ask
ask_after asked (Host text) = asked
ask_after asked (Member member) = ask_of member
ask_after asked Unknown = asked

host_more : (host : List ℕ) (field : ℕ × Value) (rest : List (ℕ × Value)) (said : Said) → host_in said ≡ host_of field
    → last_of (host_after host said) (filter_map host_of rest) ≡ last_of host (filter_map host_of (field ∷ rest))
host_more host field rest (Host text) is = rw (← is) refl
host_more host field rest (Member asked) is = rw (← is) refl
host_more host field rest Unknown is = rw (← is) refl

ask_more : (asked : Ask) (said : Said) (left : List (Option Ask))
    → last_of (ask_after asked said) (filter_map given_of left)
    ≡ last_of asked (filter_map given_of (member_in said ∷ left))
ask_more asked (Host text) left = refl
ask_more asked (Member member) left = refl
ask_more asked Unknown left = refl

decided_step : (fields rest : List (ℕ × Value)) (field : ℕ × Value) (host : List ℕ) (asked : Ask) (said : Said)
    → Decided fields (field ∷ rest) host asked → Says field said
    → Decided fields rest (host_after host said) (ask_after asked said)
decided_step fields rest field host asked said so says = record {
  known = record {
    ahead = λ all. so.known.ahead (says.known, all);
    back = λ all. (let whole = so.known.back all in whole.1);
  };
  host_is = host_more host field rest said says.host ∙ so.host_is;
  asked_is = λ left given. (
      let before = so.asked_is (member_in said ∷ left) (says.member, given) in
      (before.0, before.1, ask_more asked said left ∙ before.2));
}

pub decided_more : {X : Type 0} (view : X → ℕ × Value) (fields : List (ℕ × Value)) (xs : List X) (i : ℕ) (d : X)
    (host : List ℕ) (asked : Ask) (said : Said) → i < length xs → Decided fields (map view (drop i xs)) host asked
    → Says (view (get_or xs i d)) said
    → Decided fields (map view (drop (i + 1) xs)) (host_after host said) (ask_after asked said)
decided_more view fields xs i d host asked said below so says =
    decided_step fields (map view (drop (i + 1) xs)) (view (get_or xs i d)) host asked said
    (rw (drop_more xs i d below) at so) says

-- behind the last field
pub decided_all : (message : List ℕ) (fields : List (ℕ × Value)) (host : List ℕ) (asked : Ask) → IsRow message fields
    → Decided fields [] host asked → ReadsRequest message host asked
decided_all message fields host asked row so =
    let (members, given, is) = so.asked_is [] tt in
    record {
      fields = fields;
      row = row;
      known = so.known.ahead tt;
      host_is = so.host_is;
      members = members;
      given = given;
      asked_is = is;
    }
