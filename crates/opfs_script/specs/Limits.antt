-- How much a script may ask for: this project's own.
use Rattle.std.specs.Prelude.{ℕ, nat_le, Bool, true, ◌&&◌, List, length, sum_by, Option, Some, None}
use Rattle.std.specs.List.{list_all}
use Rattle.opfs_base.specs.Texts.{Text}
use Rattle.opfs_base.specs.Keys.{is_origin, is_one_line}
use Rattle.opfs_script.specs.declared.step.Step.{Step}
use Rattle.opfs_script.specs.declared.step.Step.TheVariants as step
use Rattle.opfs_script.specs.Scripts.{Asked}

-- Whether a variable or a tag has 1 to 64 bytes.
abbrev pub is_variable : Text → Bool
is_variable name = nat_le 1 (length name) && nat_le (length name) 64

-- Whether a number is below 2^53.
abbrev pub is_number : ℕ → Bool
is_number n = nat_le n 9007199254740991

-- Whether a number, if there is one, is below 2^53.
abbrev pub is_optional_number : Option ℕ → Bool
is_optional_number None = true
is_optional_number (Some n) = is_number n

-- Whether a read asks for at most 65,536 bytes.
abbrev pub is_read_length : ℕ → Bool
is_read_length n = nat_le n 65536

-- Whether a write has at most 16,777,216 bytes.
abbrev pub is_write : Text → Bool
is_write bytes = nat_le (length bytes) 16777216

-- Whether a step's members keep their bounds.
abbrev pub keeps_bounds : Step → Bool
keeps_bounds (step.GetDirectory bucket bind) = is_variable bind
keeps_bounds (step.GetDirectoryHandle dir name create bind) = is_variable dir && is_variable bind
keeps_bounds (step.GetFileHandle dir name create bind) = is_variable dir && is_variable bind
keeps_bounds (step.RemoveEntry dir name recursive) = is_variable dir
keeps_bounds (step.Values dir bind) = is_variable dir && is_variable bind
keeps_bounds (step.Next iterator bind) = is_variable iterator && is_variable bind
keeps_bounds (step.Resolve dir entry) = is_variable dir && is_variable entry
keeps_bounds (step.IsSameEntry entry other) = is_variable entry && is_variable other
keeps_bounds (step.GetFile file bind) = is_variable file && is_variable bind
keeps_bounds (step.Slice snapshot at len) = is_variable snapshot && is_number at && is_read_length len
keeps_bounds (step.CreateWritable file keep bind) = is_variable file && is_variable bind
keeps_bounds (step.Write stream bytes position) = is_variable stream && is_write bytes && is_optional_number position
keeps_bounds (step.Seek stream position) = is_variable stream && is_number position
keeps_bounds (step.Truncate stream size) = is_variable stream && is_number size
keeps_bounds (step.Close stream) = is_variable stream
keeps_bounds (step.Abort stream) = is_variable stream
keeps_bounds (step.CreateSyncAccessHandle file read_only bind) = is_variable file && is_variable bind
keeps_bounds (step.SyncRead sync len at) = is_variable sync && is_read_length len && is_optional_number at
keeps_bounds (step.SyncWrite sync bytes at) = is_variable sync && is_write bytes && is_optional_number at
keeps_bounds (step.SyncTruncate sync size) = is_variable sync && is_number size
keeps_bounds (step.SyncGetSize sync) = is_variable sync
keeps_bounds (step.SyncFlush sync) = is_variable sync
keeps_bounds (step.SyncClose sync) = is_variable sync
keeps_bounds (step.Persist bucket) = true
keeps_bounds (step.Persisted bucket) = true
keeps_bounds step.Estimate = true
keeps_bounds (step.Moment ms) = is_number ms
keeps_bounds (step.Post tag) = is_variable tag
keeps_bounds (step.Await tag) = is_variable tag

-- How many bytes a step writes or asks to read.
abbrev pub bytes_asked : Step → ℕ
bytes_asked (step.Slice snapshot at len) = len
bytes_asked (step.SyncRead sync len at) = len
bytes_asked (step.Write stream bytes position) = length bytes
bytes_asked (step.SyncWrite sync bytes at) = length bytes
bytes_asked _ = 0

-- How many bytes an agent's steps write or ask to read.
abbrev pub bytes_of_agent : Asked → ℕ
bytes_of_agent asked = sum_by bytes_asked asked.steps

-- How many steps agents have.
abbrev pub steps_of_all : List Asked → ℕ
steps_of_all agents = sum_by (λ asked. length asked.steps) agents

-- How many bytes agents write or ask to read.
abbrev pub bytes_of_all : List Asked → ℕ
bytes_of_all agents = sum_by bytes_of_agent agents

-- Whether a script asks no more than one may: 64 agents, 20,000 steps, and 67,108,864 bytes written or asked for.
abbrev pub fits_limits : List Asked → Bool
fits_limits agents =
    nat_le (length agents) 64 && nat_le (steps_of_all agents) 20000 && nat_le (bytes_of_all agents) 67108864

-- Whether a key has 1 to 255 bytes.
abbrev pub is_short_key : Text → Bool
is_short_key key = nat_le 1 (length key) && nat_le (length key) 255

-- Whether a key, if there is one, is an origin's, stands on one line and is short.
abbrev pub is_origin_key : Option Text → Bool
is_origin_key None = true
is_origin_key (Some key) = is_origin key && is_one_line key && is_short_key key

-- Whether what an agent asks is of the right form: its key is an origin's, and its steps keep their bounds.
abbrev pub is_formed : Asked → Bool
is_formed asked = is_origin_key asked.key && list_all keeps_bounds asked.steps

-- Whether an agent alone asks no more than a script may.
abbrev pub fits_alone : Asked → Bool
fits_alone asked = nat_le (length asked.steps) 20000 && nat_le (bytes_of_agent asked) 67108864

-- Whether an agent's script keeps all limits but that on the number of agents.
abbrev pub keeps_limits : Asked → Bool
keeps_limits asked = is_formed asked && fits_alone asked
