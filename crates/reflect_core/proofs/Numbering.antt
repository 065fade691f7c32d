-- The numbers of a message's extensions, one after the other.
use Rattle.reflect_core.proofs.Common.{◌≡◌, ℕ, zero, suc, ◌+◌, ◌<◌, ◌≤◌, List, [], ◌∷◌, ◌++◌, length, map, get_or, take, arith, flat_map, length-append}
use Rattle.std.proofs.Common.{◌∙◌, refl, bytes_eq, true, false, cond, filter, string_bytes, append-nil, append_assoc, add-one, nat_lt, if◌then◌else◌, ◌%◌, ◌/◌}
use Rattle.proto_compilation.specs.Extensions.{numbers_of}
use Rattle.proto_compilation.specs.Parts.{declared_extension}
use Rattle.proto_compilation.specs.declared.extension.Extension.{Extension}
use Rattle.reflect_core.specs.Reply.{packed}
use Rattle.wire_format.specs.Field.{bytes_field}
use Rattle.wire_format.specs.Varint.{groups, varint_bytes}

-- those of some of the program's extensions, as varints
abbrev pub written : List Extension → List ℕ → List ℕ
written es message = flat_map varint_bytes (numbers_of (map declared_extension es) message)

-- what one extension adds
abbrev pub one_written : Extension → List ℕ → List ℕ
one_written e message = cond (bytes_eq (string_bytes e.message) message) (varint_bytes e.number) []

written_cons : (e : Extension) (es : List Extension) (message : List ℕ)
    → written (e ∷ es) message ≡ one_written e message ++ written es message
written_cons e es message = elim (bytes_eq (string_bytes e.message) message)
    as (λ b. flat_map varint_bytes (map (λ x. x.number) (cond b (declared_extension e ∷ filter (λ x. bytes_eq x.message message)
    (map declared_extension es)) (filter (λ x. bytes_eq x.message message) (map declared_extension es))))
    ≡ cond b (varint_bytes e.number) [] ++ written es message) [ true ↦ refl | false ↦ refl ]

written_more : (es : List Extension) (message : List ℕ) (i : ℕ) (d : Extension) → i < length es
    → written (take (suc i) es) message ≡ written (take i es) message ++ one_written (get_or es i d) message
written_more [] message i d below = absurd (omega arith)
written_more (e ∷ es) message zero d below = written_cons e [] message ∙ append-nil (one_written e message)
written_more (e ∷ es) message (suc i) d below =
    let rest = written_more es message i d (omega arith) in
    rw (written_cons e (take (suc i) es) message, written_cons e (take i es) message, rest, append_assoc) refl

pub written_yes : (es : List Extension) (message : List ℕ) (i : ℕ) (d : Extension) → i < length es
    → bytes_eq (string_bytes (get_or es i d).message) message ≡ true
    → written (take (i + 1) es) message ≡ written (take i es) message ++ varint_bytes (get_or es i d).number
written_yes es message i d below is = rw (add-one i, written_more es message i d below, is) refl

pub written_no : (es : List Extension) (message : List ℕ) (i : ℕ) (d : Extension) → i < length es
    → bytes_eq (string_bytes (get_or es i d).message) message ≡ false
    → written (take (i + 1) es) message ≡ written (take i es) message
written_no es message i d below is =
    rw (add-one i, written_more es message i d below, is) (append-nil (written (take i es) message))

pub written_within : (es : List Extension) (message : List ℕ) (i : ℕ)
    → length (written (take i es) message) ≤ length (written es message)
written_within [] message zero = omega arith
written_within [] message (suc i) = omega arith
written_within (e ∷ es) message zero = omega arith
written_within (e ∷ es) message (suc i) =
    let rest = written_within es message i in
    rw (written_cons e (take i es) message, written_cons e es message) (simp length-append (omega arith))

-- ---- packed

varint_some : (n : ℕ) → 1 ≤ length (varint_bytes n)
unfolding varint_bytes groups
varint_some n = elim (nat_lt n 128)
    as (λ b. 1 ≤ length (if b then n ∷ [] else (n % 128 + 128) ∷ groups 8 (n / 128))) [ true ↦ omega arith | false ↦ omega arith ]

pub packed_none : (ns : List ℕ) → length (flat_map varint_bytes ns) ≡ 0 → packed ns ≡ []
packed_none [] is = refl
packed_none (n ∷ ns) is =
    absurd (omega (arith, length-append (varint_bytes n) (flat_map varint_bytes ns), varint_some n, is))

pub packed_some : (ns : List ℕ) → (length (flat_map varint_bytes ns) ≡ 0 → ⊥)
    → packed ns ≡ bytes_field 2 (flat_map varint_bytes ns)
packed_some [] some = absurd (some refl)
packed_some (n ∷ ns) some = refl
