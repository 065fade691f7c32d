-- Steps of a walk through folders.
use Rattle.std.specs.Prelude.{◌≡◌, ℕ, ◌+◌, ◌==◌, ◌⊎◌, Bool, List, [], ◌∷◌, ◌++◌, map, take, if◌then◌else◌, Option, None, Some, string_bytes, vec_len}
use Rattle.std.specs.List.{list_any}
use Rattle.source_folder.specs.Kinds.{is_same}
use Rattle.source_folder.specs.Ordered.{paths_of}
use Rattle.source_folder.specs.Paths.{ends_in_proto}
use Rattle.source_folder.specs.Troubles.{IsTroubleAt, no_memory}
use Rattle.source_folder.specs.declared.fault.FolderFault.TheVariants as faults
use Rattle.source_folder.specs.declared.kind.Identity.{Identity}
use Rattle.source_folder.specs.declared.kind.EntryKind.{EntryKind}
use Rattle.source_folder.specs.declared.kind.EntryKind.TheVariants as kind
use Rattle.source_folder.specs.declared.reason.Reason.{Reason}
use Rattle.source_folder.specs.declared.reason.Reason.TheVariants.{Circle, TooDeep, TooMany}
use Rattle.source_folder.specs.declared.trouble.FolderTrouble.{FolderTrouble}
use Rattle.source_folder.specs.declared.walk.Folder.{Folder}
use Rattle.source_folder.specs.declared.walk.Walk.{Walk}

-- a folder by its path, its depth and its identity
abbrev pub folder_parts : Folder → List ℕ × ℕ × Identity
folder_parts folder = (string_bytes folder.path, folder.depth, folder.identity)

-- the sources that an entry adds: each entry that ends in `.proto` and is no folder
abbrev pub added_sources : List ℕ → EntryKind → List (List ℕ)
added_sources path (kind.Folder identity) = []
added_sources path k = if ends_in_proto path then path ∷ [] else []

-- the folders that an entry adds, in a folder so deep
abbrev pub added_folders : List ℕ → ℕ → EntryKind → List (List ℕ × ℕ × Identity)
added_folders path depth (kind.Folder identity) = (path, depth + 1, identity) ∷ []
added_folders path depth _ = []

-- an entry of this path and kind, in a folder so deep, is added to what is known
pub record TakesIn (path : List ℕ) (depth : ℕ) (k : EntryKind) (old new : Walk) : Type 0 where
  pub sources : paths_of new.sources.items ≡ paths_of old.sources.items ++ added_sources path k
  pub folders : map folder_parts new.folders.items ≡ map folder_parts old.folders.items ++ added_folders path depth k
  pub counted : new.entries_left + 1 ≡ old.entries_left
  pub way : new.way ≡ old.way

-- whether a folder is one on the way from the root to the folder that is listed
abbrev pub is_on_way : Walk → Identity → Bool
is_on_way walk identity = list_any (is_same identity) walk.way.items

-- why an entry of this kind can't be taken in: it is a folder that lies in itself or is too deep, or it may be a folder
abbrev pub refusal_of_kind : Walk → List ℕ → ℕ → EntryKind → Option Reason
refusal_of_kind walk path depth (kind.Folder identity) =
    if is_on_way walk identity then Some Circle else (if depth == 64 then Some TooDeep else None)
refusal_of_kind walk path depth (kind.Unknown reason) = if ends_in_proto path then None else Some reason
refusal_of_kind walk path depth k = None

-- why an entry can't be taken in: there are too many, or what it is
abbrev pub refusal_of : Walk → List ℕ → ℕ → EntryKind → Option Reason
refusal_of walk path depth k = if walk.entries_left == 0 then Some TooMany else refusal_of_kind walk path depth k

-- an entry of this path, in a folder so deep, whatever it is, is added to what is known
abbrev pub TakesEntry : List ℕ → ℕ → Walk → Walk → Type 0
TakesEntry path depth old new = (k : EntryKind) × TakesIn path depth k old new

-- an entry of this path, in a folder so deep, whatever it is, can't be taken in, and that is told of it; or memory was short
abbrev pub IsRefusedAt : List ℕ → ℕ → (whole : List ℕ) → Walk → FolderTrouble → Type 0
IsRefusedAt path depth whole walk trouble = (trouble ≡ no_memory) ⊎ ((k : EntryKind) × (reason : Reason)
    × (refusal_of walk path depth k ≡ Some reason)
    × IsTroubleAt faults.Listing whole reason trouble)

-- the way leads on to a folder, from the folder in which it lies
pub record Enters (folder : Folder) (old new : Walk) : Type 0 where
  pub way : new.way.items ≡ take folder.depth old.way.items ++ folder.identity ∷ []
  pub sources : new.sources ≡ old.sources
  pub folders : new.folders ≡ old.folders
  pub left : new.entries_left ≡ old.entries_left

-- a walk that begins at a folder of this path
pub record IsStart (path : List ℕ) (folder : Identity) (walk : Walk) : Type 0 where
  pub sources : walk.sources.items ≡ []
  pub folders : map folder_parts walk.folders.items ≡ (path, 0, folder) ∷ []
  pub way : walk.way.items ≡ []
  pub left : walk.entries_left ≡ 1048576

-- how many more folders can be listed
abbrev pub steps_left : Walk → ℕ
steps_left walk = walk.entries_left + vec_len walk.folders

-- how many sources there can be in the end
abbrev pub most_sources : Walk → ℕ
most_sources walk = walk.entries_left + vec_len walk.sources
