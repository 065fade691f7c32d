-- A body that fills up, frame by frame.
use Rattle.std.proofs.Common.{◌≡◌, ◌∙◌, ℕ, zero, suc, ◌-◌, ◌≤◌, List, [], ◌∷◌, ◌++◌, length, take, Some, None, Ok, ap, sym, inl, inr, arith, append_assoc, length-append, length-take}
use Rattle.std.proofs.lemmas.Grind.{common_steps}
use Rattle.futures.specs.Runs.{After, Within}
use Rattle.futures.proofs.RunLemmas.{Begins-Within}
use Rattle.http_body.specs.declared.frame.Frame.{Frame}
use Rattle.http_body.specs.Frame.{bytes_in, joined_data}
use Rattle.hyper.specs.Incoming.{IncomingYields}
use Rattle.hyper.specs.declared.body.incoming.Incoming.{Incoming}
use Rattle.http_connection.specs.Receiving.{FillsUp, filled}

pub filled-nil : (most : ℕ) (bytes : List ℕ) → filled most bytes [] ≡ bytes
filled-nil most bytes = grind (arith, common_steps)

-- so many of two lists are so many of the first, and what is left of them of the second
take-both : (n : ℕ) (xs ys : List ℕ) → take n (xs ++ ys) ≡ take n xs ++ take (n - length xs) ys
take-both n [] ys = grind (arith, common_steps)
take-both zero (x ∷ xs) ys = grind (arith, common_steps)
take-both (suc n) (x ∷ xs) ys =
    let left : suc n - suc (length xs) ≡ n - length xs = omega arith in
    rw left (ap (λ (l : List ℕ). x ∷ l) (take-both n xs ys))

pub filled-append : (most : ℕ) (bytes piece more : List ℕ)
    → filled most (filled most bytes piece) more ≡ filled most bytes (piece ++ more)
filled-append most bytes piece more =
    let room = most - length bytes in
    let left : most - length (bytes ++ take room piece) ≡ room - length piece =
    omega (arith, length-append bytes (take room piece), length-take room piece) in
    append_assoc bytes (take room piece) _
    ∙ ap (λ (l : List ℕ). bytes ++ l) (rw left (sym (take-both room piece more)))

module _ {I : Type 0} (most : ℕ) (old new : Incoming I) where
  -- what fills up behind a frame fills up with it
  pub behind_frame : (bytes all : List ℕ) (frame : Frame (List ℕ)) → IncomingYields old [] (Some (Ok frame))
      → After (IncomingYields old) (Ok frame) (IncomingYields new)
      → FillsUp most new (filled most bytes (bytes_in frame.kind)) all → FillsUp most old bytes all
  behind_frame bytes all frame came after fills = record {
    frames = frame ∷ fills.frames;
    joined = fills.joined ∙ filled-append most bytes (bytes_in frame.kind) (joined_data fills.frames);
    came =
        elim fills.came [
          | inl end ↦ inl (after _ _ end)
          | inr full ↦ inr (full.0, (came, Begins-Within _ _ _ after full.1))
        ];
  }

  -- nothing came meanwhile
  pub as_before : (bytes all : List ℕ) → Within (IncomingYields old) (IncomingYields new) → FillsUp most new bytes all
      → FillsUp most old bytes all
  as_before bytes all within fills = record {
    frames = fills.frames;
    joined = fills.joined;
    came =
        elim fills.came [
          | inl end ↦ inl (within _ _ end)
          | inr full ↦ inr (full.0, Begins-Within _ _ _ within full.1)
        ];
  }

module _ {I : Type 0} (most : ℕ) (incoming : Incoming I) (bytes : List ℕ) where
  pub is_filled : most ≤ length bytes → FillsUp most incoming bytes bytes
  is_filled full = record { frames = []; joined = sym (filled-nil most bytes); came = inr (full, tt) }

  pub has_ended : IncomingYields incoming [] None → FillsUp most incoming bytes bytes
  has_ended end = record { frames = []; joined = sym (filled-nil most bytes); came = inl end }
