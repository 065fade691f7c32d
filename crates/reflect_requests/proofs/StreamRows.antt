-- Rows of messages of the program, one message longer.
use Rattle.std.proofs.Common.{◌≡◌, ℕ, List, [], ◌∷◌, ◌++◌, map, append_assoc, append-nil, arith}
use Rattle.std.specs.List.{flat_map}
use Rattle.std.proofs.lemmas.List.{map-append}
use Rattle.std.proofs.lemmas.List.Concat.{flat_map-append}
use Rattle.reflect_requests.specs.declared.frames.Message.{Message}
use Rattle.reflect_requests.specs.Frames.{frame}
use Rattle.reflect_requests.specs.ProgramFrames.{bytes_of}

pub longer : (xs : List Message) (m : Message) → map bytes_of (xs ++ m ∷ []) ≡ map bytes_of xs ++ bytes_of m ∷ []
longer xs m = map-append bytes_of xs (m ∷ [])

pub row_longer : (body rest after : List ℕ) (xs : List Message) (m : Message)
    → body ≡ flat_map (frame 0) (map bytes_of xs) ++ rest
    → rest ≡ frame 0 (bytes_of m) ++ after
    → body ≡ flat_map (frame 0) (map bytes_of (xs ++ m ∷ [])) ++ after
row_longer body rest after xs m is cut =
    grind (arith, longer, flat_map-append, append-nil, append_assoc)
