-- What a run ends with where a device failed or memory was short.
use Rattle.std.specs.Prelude.{◌≡◌, Option, None}
use Rattle.std.specs.declared.io.Error.{Error}
use Rattle.counted_io.specs.declared.stream.IoFault.{IoFault}
use Rattle.counted_io.specs.declared.stream.IoFault.TheVariants as io_fault
use Rattle.schema_failure.specs.declared.failure.Device.{Device}
use Rattle.schema_failure.specs.declared.failure.Device.TheVariants as device
use Rattle.schema_failure.specs.declared.failure.Failure.{Failure}
use Rattle.schema_failure.specs.declared.failure.Failure.TheVariants as failure
use Rattle.source_folder.specs.declared.fault.FolderFault.{FolderFault}
use Rattle.source_folder.specs.declared.fault.FolderFault.TheVariants as folder_fault
use Rattle.source_folder.specs.declared.trouble.FolderTrouble.{FolderTrouble}
use Rattle.source_folder.specs.declared.trouble.TroubledEntry.{TroubledEntry}

-- a folder could not be read
abbrev pub IsUnread : Failure → Type 0
IsUnread f = (entry : Option TroubledEntry) × (f ≡ failure.Folder entry)

-- this device failed
abbrev pub IsOfDevice : Device → Failure → Type 0
IsOfDevice failed f = (error : Option Error) × (f ≡ failure.Device failed error)

-- of a folder, with the entry that is told
abbrev pub of_folder_fault : FolderFault → Option TroubledEntry → Failure
of_folder_fault folder_fault.Listing entry = failure.Folder entry
of_folder_fault folder_fault.Reading entry = failure.Folder entry
of_folder_fault folder_fault.NoMemory entry = failure.NoMemory

abbrev pub of_folder : FolderTrouble → Failure
of_folder trouble = of_folder_fault trouble.fault trouble.entry

-- of an exchange between a reader and a writer
abbrev pub of_exchange : IoFault → Failure
of_exchange io_fault.ReadFault = failure.Device device.Input None
of_exchange (io_fault.WriteFault written) = failure.Device device.Output None
of_exchange io_fault.NoMemory = failure.NoMemory
