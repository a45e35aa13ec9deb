-- What disks over files, the host of files and the standard streams show. This project's own.
use Rattle.std.specs.Prelude.{ℕ, ◌-◌, ◌^◌, min}
use Rattle.opfs_files.specs.declared.file_disk.FileDisk.{FileDisk}
use Rattle.opfs_files.specs.declared.dir_host.DirHost.{DirHost}
use Rattle.opfs_files.specs.declared.streams.StdinSource.{StdinSource}
use Rattle.opfs_files.specs.declared.streams.StdoutSink.{StdoutSink}

-- the length in bytes of a disk
abbrev pub disk_size : {F : Type 0} → FileDisk F → ℕ
disk_size disk = disk.size

-- how many calls of a disk failed, as far as 64 bits count
abbrev pub disk_faults : {F : Type 0} → FileDisk F → ℕ
disk_faults disk = min disk.faults (2 ^ 64 - 1)

-- how often a host or a disk that was given back has failed, as far as 64 bits count
abbrev pub host_faults : {R : Type 0} → DirHost R → ℕ
host_faults host = min host.faults (2 ^ 64 - 1)

-- how often a host has failed itself, as far as 64 bits count
abbrev pub host_own_faults : {R : Type 0} → DirHost R → ℕ
host_own_faults host = min host.own_faults (2 ^ 64 - 1)

-- how many calls of a source or a sink failed, as far as 64 bits count
abbrev pub source_faults : {R : Type 0} → StdinSource R → ℕ
source_faults source = min source.faults (2 ^ 64 - 1)

abbrev pub sink_faults : {W : Type 0} → StdoutSink W → ℕ
sink_faults sink = min sink.faults (2 ^ 64 - 1)
