use Rattle.proto_names.proofs.Common.{◌≡◌, ◌++◌, List, ℕ, length, map, package_occurrence, prefixes, rolling_hash, take}
use denote.Shadow.{shadow}
use denote.Text.{Utf8}
use Rattle.proto_names.specs.Entries.{AreEntriesOf, occurrences_of_entries}
use Rattle.proto_names.proofs.entries.put_prefixes.Given as goal

abbrev pub invariant-loop-len : goal.invariant-loop-len
invariant-loop-len l = record {
  utf8 : shadow (Utf8 l.prefix);
  hashed : l.rolling ≡ rolling_hash l.prefix;
  front : take (length l.prefix) l.fn.name ≡ l.prefix;
  kept : (old : List ℕ) → l.start ≡ length old → AreEntriesOf (old ++ l.fn.name) l.initial.entries.items
      → AreEntriesOf (old ++ l.fn.name) l.entries.items;
  put : (old : List ℕ) → l.start ≡ length old → AreEntriesOf (old ++ l.fn.name) l.initial.entries.items
      → occurrences_of_entries (old ++ l.fn.name) l.entries.items
      ++ map (package_occurrence l.location.file l.location.place) (prefixes l.prefix)
      ≡ occurrences_of_entries (old ++ l.fn.name) l.initial.entries.items
      ++ map (package_occurrence l.location.file l.location.place) (prefixes l.fn.name);
}

abbrev pub decreases-loop-len : goal.decreases-loop-len
decreases-loop-len l = length l.prefix
