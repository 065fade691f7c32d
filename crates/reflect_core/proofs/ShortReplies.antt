-- Every reply to the requests of a body has room in a frame.
use Rattle.reflect_core.proofs.Common.{ℕ, ◌<◌, List, [], ◌∷◌, length, arith, All, AllZip, All-cons, All-nil, Mode, Compilation, count_of, Asked, IsAsked, IsResponse, replies, replies_to, root, IsRootWithin}
use Rattle.proto_compilation.specs.Sound.{IsSound}
use Rattle.reflect_core.proofs.AnsweringBody.{IsGood, all_good, allowed_of}
use Rattle.reflect_core.proofs.OneResponse.{root_inside}

abbrev IsShort : List ℕ → Type 0
IsShort reply = length reply < 4294967296

all_short : (c : Compilation) (xs : List Asked) (lists : List (List ℕ)) → AllZip (IsGood c) xs lists
    → All IsShort (replies_to c xs lists)
all_short c [] [] good = All-nil IsShort
all_short c (x ∷ xs) (l ∷ lists) good = All-cons IsShort _ _ good.0.short (all_short c xs lists good.1)
all_short c xs lists good = absurd good

module _ (c : Compilation) (sound : IsSound c) where
  roots_inside : (messages : List (List ℕ)) (xs : List Asked) → AllZip (IsAsked c) messages xs
      → All (λ x. IsRootWithin (count_of c.links) (root x)) xs
  roots_inside [] [] asked = All-nil _
  roots_inside (m ∷ ms) (x ∷ xs) asked = All-cons (λ x. IsRootWithin (count_of c.links) (root x)) _ _
      (λ r at. omega (arith, root_inside c sound _ x.answer r asked.0.answered at, sound.coherent.linked))
      (roots_inside ms xs asked.1)
  roots_inside messages xs asked = absurd asked

  pub replies_short : (mode : Mode) (body bytes : List ℕ) → (response : IsResponse mode c body bytes)
      → All (λ reply. length reply < 4294967296) (replies mode c response.asked)
  replies_short mode body bytes response =
      let inside = roots_inside response.messages response.asked response.requests in
      all_short c response.asked _ (all_good c sound mode [] response.messages response.asked inside
      (allowed_of c body response.messages response.status response.read) response.requests)
