-- Words of private contracts: shares of occurrences, by the hashes of their names. All occurrences of a name are in one
-- share.
use Rattle.std.specs.Prelude.{◌≡◌, ◌==◌, ◌%◌, ℕ, ◌<◌, List, Option, Some, All, Contains, IsPermutation, MatchOption, filter, flat_map, length, map, slice_get, string_bytes}
use Rattle.proto_names.specs.Hashes.{hash_of}
use Rattle.proto_names.specs.Index.{services_of}
use Rattle.proto_names.specs.Occurrences.{Occurrence, NoneTwice}
use Rattle.proto_names.specs.Order.{NoLater}
use Rattle.proto_names.specs.Repeated.{IsFirstTwice}
use Rattle.proto_names.specs.declared.entry.Location.{Location}
use Rattle.proto_names.specs.declared.share.Share.{Share}
use Rattle.proto_names.specs.declared.sorted.SortedShare.{SortedShare}

-- the share of a name, among so many
abbrev pub share_at : ℕ → Occurrence → ℕ
share_at count o = hash_of o.name % count

abbrev pub share_of : ℕ → ℕ → List Occurrence → List Occurrence
share_of count position os = filter (λ o. share_at count o == position) os

-- the occurrences of parts, or of shares, one after the other
abbrev pub all_of : List (List Occurrence) → List Occurrence
all_of parts = flat_map (λ os. os) parts

-- so many shares, which are all
abbrev pub AreAllShares : ℕ → List Share → Type 0
AreAllShares count shares =
    (length shares ≡ count)
    × ((k : ℕ) (s : Share) → slice_get shares k ≡ Some s → (s.position ≡ k) × (s.count ≡ count))

-- each share has what is in it, at its position
pub record AreInShares (tables : List (List Occurrence)) : Type 0 where
  pub some : 0 < length tables
  pub each : (k : ℕ) (os : List Occurrence) → slice_get tables k ≡ Some os
      → All (λ o. share_at (length tables) o ≡ k) os

-- occurrences in order, with the services among them and the first that occurs twice
pub record IsSortedOf (os : List Occurrence) (s : SortedShare) : Type 0 where
  pub all : IsPermutation os s.table
  pub services : map string_bytes s.services.items ≡ services_of s.table
  pub twice : MatchOption s.twice (NoneTwice s.table) (λ l. IsFirstTwice s.table l.file l.place)

-- all shares of occurrences, each sorted
pub record AreSharesOf (os : List Occurrence) (shares : List SortedShare) : Type 0 where
  pub some : 0 < length shares
  pub each : (k : ℕ) (s : SortedShare) → slice_get shares k ≡ Some s → IsSortedOf (share_of (length shares) k os) s

-- the earliest of those that are known
pub record IsEarliest (known : List (Option Location)) (first : Location) : Type 0 where
  pub among : Contains known (Some first)
  pub least : (l : Location) → Contains known (Some l) → NoLater first l

abbrev pub IsFirstOf : List (Option Location) → Option Location → Type 0
IsFirstOf known first = MatchOption first ((l : Location) → Contains known (Some l) → ⊥) (IsEarliest known)

abbrev pub table_of : SortedShare → List Occurrence
table_of s = s.table

abbrev pub twice_of : SortedShare → Option Location
twice_of s = s.twice

abbrev pub services_in : SortedShare → List (List ℕ)
services_in s = map string_bytes s.services.items
