-- Numbers modulo 2^64.
use Rattle.std.proofs.Common.{◌≡◌, ℕ, ◌+◌, ◌*◌, ◌%◌, ◌^◌, arith}
use Rattle.opfs_gen.specs.Drawing.{drawn}

pub mod-then : (n c : ℕ) → (n % 2 ^ 64 + c) % 2 ^ 64 ≡ (n + c) % 2 ^ 64
mod-then n c = omega arith

pub drawn-is : (x : ℕ) → ((x * 6364136223846793005) % 2 ^ 64 + 1442695040888963407) % 2 ^ 64 ≡ drawn x
unfolding drawn
drawn-is x = mod-then (x * 6364136223846793005) 1442695040888963407
