-- Bytes with zeros behind them. This project's own.
use Rattle.std.specs.Prelude.{ℕ, ◌-◌, List, ◌++◌, length, replicate}

-- So many bytes: these, and then zeros.
abbrev pub with_zeros : ℕ → List ℕ → List ℕ
with_zeros count bytes = bytes ++ replicate (count - length bytes) 0
