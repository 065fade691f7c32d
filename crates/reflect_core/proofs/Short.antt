-- Replies have room in a frame.
use Rattle.reflect_core.proofs.Common.{ℕ, ◌+◌, ◌<◌, ◌≤◌, List, [], ◌∷◌, length, get_or, ap, arith, length-append, length-flat_map, Contains-get_or, sum_by-le, Compilation, bytes_field, Ask, Answer, IsAnswer, file, extensions, services, not_found, empty_request, Asked, contents_of, files_bytes, services_bytes, host_field, reply}
use Rattle.proto_compilation.specs.Sound.{IsSound}
use Rattle.proto_compilation.specs.Extensions.{DeclaredExtension, numbers_of}
use Rattle.reflect_core.specs.Reply.{packed}
use Rattle.std.proofs.Common.{bytes_eq, filter, flat_map}
use Rattle.reflect_core.proofs.Common.{length-filter, count_by-le-length}
use Rattle.std.proofs.lemmas.List.{length-map}
use Rattle.wire_format.specs.Varint.{varint_bytes}
use Rattle.wire_format.proofs.Varints.{varint_short}
use Rattle.reflect_core.proofs.Constants.{not_found_is, empty_request_is}
use Rattle.reflect_core.proofs.ReadBounds.{ask_size}
use Rattle.reflect_core.proofs.RepliesMore.{reply_length}

field_short : (n : ℕ) (text : List ℕ) → length (bytes_field n text) ≤ 20 + length text
field_short n text = grind (arith, length-append, varint_short)

services_short : (c : Compilation) → IsSound c → length (services_bytes c) ≤ 1114636288
services_short c sound =
    let service : List ℕ → List ℕ = λ name. bytes_field 1 (bytes_field 1 name) in
    let list = sum_by-le (λ name. length (service name)) 1063 c.index.services (λ k d h.
    let name = get_or c.index.services k d in
    let own = sound.coherent.short_services name (Contains-get_or c.index.services k d h) in
    omega (arith, own, field_short 1 name, field_short 1 (bytes_field 1 name), c.limits.full_name_bytes_bound)) in
    omega (arith, list, length-flat_map service c.index.services, sound.coherent.few_services, c.limits.names_bound)

numbers_short : (c : Compilation) (name : List ℕ) → IsSound c
    → length (flat_map varint_bytes (numbers_of c.extensions name)) ≤ 10485760
numbers_short c name sound =
    let numbers = numbers_of c.extensions name in
    let list = sum_by-le (λ n. length (varint_bytes n)) 10 numbers (λ k d h. varint_short (get_or numbers k d)) in
    let kept = filter (λ e. bytes_eq e.message name) c.extensions in
    omega (
      arith,
      list,
      length-flat_map varint_bytes numbers,
      length-map kept (λ (e : DeclaredExtension). e.number),
      length-filter (λ (e : DeclaredExtension). bytes_eq e.message name) c.extensions,
      count_by-le-length (λ (e : DeclaredExtension). bytes_eq e.message name) c.extensions,
      sound.coherent.few_extensions,
      c.limits.names_bound,
    )

packed_within : (ns : List ℕ) (most : ℕ) → length (flat_map varint_bytes ns) ≤ most → length (packed ns) ≤ 20 + most
packed_within [] most short = omega arith
packed_within (n ∷ ns) most short = omega (arith, field_short 2 (flat_map varint_bytes (n ∷ ns)), short)

packed_short : (c : Compilation) (name : List ℕ) → IsSound c → length (packed (numbers_of c.extensions name)) ≤ 10485780
packed_short c name sound =
    omega (arith, packed_within (numbers_of c.extensions name) 10485760 (numbers_short c name sound))

-- how long the name is that an answer holds
abbrev pub answer_size : Answer → ℕ
answer_size (file a) = 0
answer_size (extensions name) = length name
answer_size services = 0
answer_size not_found = 0
answer_size empty_request = 0

pub answer_bound : (c : Compilation) (ask : Ask) (answer : Answer) → IsAnswer c ask answer
    → answer_size answer ≤ ask_size ask
answer_bound c ask answer is = grind arith

contents_short : (c : Compilation) (files : List ℕ) (answer : Answer) → IsSound c
    → length (files_bytes c files) ≤ 1073741824 → answer_size answer ≤ 65536
    → length (contents_of c files answer) ≤ 1114636288
contents_short c files (file a) sound short size = omega arith
contents_short c files (extensions name) sound short size =
    omega (arith, field_short 1 name, packed_short c name sound, length-append (bytes_field 1 name) (packed (numbers_of c.extensions name)))
contents_short c files services sound short size = services_short c sound
contents_short c files not_found sound short size = omega (arith, ap length not_found_is)
contents_short c files empty_request sound short size = omega (arith, ap length empty_request_is)

host_short : (host : List ℕ) → length (host_field host) ≤ 20 + length host
host_short [] = omega arith
host_short (x ∷ xs) = field_short 1 (x ∷ xs)

pub reply_short : (c : Compilation) (asked : Asked) (files : List ℕ) → IsSound c → length asked.message ≤ 65536
    → length asked.host ≤ length asked.message → answer_size asked.answer ≤ length asked.message
    → length (files_bytes c files) ≤ 1073741824 → length (reply c asked files) < 4294967296
reply_short c asked files sound small host size short =
    let contents = contents_short c files asked.answer sound short (omega arith) in
    let parts = reply_length c asked files in let front = host_short asked.host in
    omega (arith, parts, front, field_short 2 asked.message, contents, varint_short)
