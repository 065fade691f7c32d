-- The errors of replies, byte by byte.
use Rattle.reflect_core.proofs.Common.{◌≡◌, [], ◌∷◌, refl, codes, error_bytes}
use Rattle.wire_format.specs.Varint.{varint_bytes, groups}

pub not_found_is : error_bytes 5 (codes "not found") ≡ 8 ∷ 5 ∷ 18 ∷ 9 ∷ 110 ∷ 111 ∷ 116 ∷ 32 ∷ 102 ∷ 111 ∷ 117
    ∷ 110 ∷ 100 ∷ []
unfolding varint_bytes groups
not_found_is = refl

pub empty_request_is : error_bytes 3 (codes "empty request") ≡ 8 ∷ 3 ∷ 18 ∷ 13 ∷ 101 ∷ 109 ∷ 112 ∷ 116 ∷ 121 ∷ 32 ∷ 114
    ∷ 101 ∷ 113 ∷ 117 ∷ 101 ∷ 115 ∷ 116 ∷ []
unfolding varint_bytes groups
empty_request_is = refl
