-- Blocks of 4,096 bytes. This project's own.
use Rattle.std.specs.Prelude.{ℕ, ◌+◌, ◌/◌}

-- How many blocks so many bytes take.
abbrev pub blocks : ℕ → ℕ
blocks bytes = (bytes + 4095) / 4096
