-- The numbers of a script that is made of a number. This project's own.
use Rattle.std.specs.Prelude.{ℕ, ◌+◌, ◌*◌, ◌/◌, ◌%◌, ◌^◌, nat_le, true, false}
use Rattle.opfs_gen.specs.declared.drawing.Round.{Round}

-- The number that follows one.
unfoldable pub drawn : ℕ → ℕ
drawn x = (x * 6364136223846793005 + 1442695040888963407) % 2 ^ 64

-- What a number gives.
unfoldable pub part : ℕ → ℕ
part x = x / 2 ^ 33

-- Which of four things is done, and with which of eight files.
abbrev pub act_of : ℕ → ℕ
act_of x = part (drawn x) % 4

abbrev pub file_of : ℕ → ℕ
file_of x = part (drawn (drawn x)) % 8

-- A round draws what it does and a file; and where it writes, a byte, how often that stands, and its position.
abbrev pub round_of : ℕ → Round
round_of x = elim (nat_le 2 (act_of x)) [
  | true ↦ record { act = act_of x; file = file_of x; byte = 0; count = 0; position = 0 }
  | false ↦ record {
    act = act_of x;
    file = file_of x;
    byte = part (drawn (drawn (drawn x))) % 256;
    count = part (drawn (drawn (drawn (drawn x)))) % 4096;
    position = part (drawn (drawn (drawn (drawn (drawn x))))) % 61440;
  }
]

-- The last number that it drew.
abbrev pub round_after : ℕ → ℕ
round_after x = elim (nat_le 2 (act_of x)) [
  | true ↦ drawn (drawn x)
  | false ↦ drawn (drawn (drawn (drawn (drawn x))))
]
