-- Pages that are alike. This project's own.
use Rattle.std.specs.Prelude.{◌≡◌, ℕ, ◌≤◌}
use Rattle.opfs_data.specs.Rows.{row_of, kept_count}
use Rattle.opfs_desk_steps.specs.declared.parts.parts.OpenPages.{OpenPages}

-- Each row has the same pages, and no more of them are kept in memory; the space is the same.
pub record AreAlike (p q : OpenPages) : Type 0 where
  pub rows : (k n : ℕ) → row_of k n q.swap ≡ row_of k n p.swap
  pub kept : kept_count q.swap ≤ kept_count p.swap
  pub space : q.space ≡ p.space
  pub base : q.base ≡ p.base
