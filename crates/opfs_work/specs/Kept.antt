-- What a table keeps so that its calls take no memory. This project's own.
use Rattle.std.specs.Prelude.{◌≡◌, ℕ, ◌+◌, ◌≤◌, ◌<◌, ◌^◌, min, List, length}
use Rattle.opfs_work.specs.declared.pages.Page.{Page}
use Rattle.opfs_work.specs.Pages.{near_count}

-- The count of the pages in memory, the room, the places of the table, the spare buffers and the places for them.
pub record IsKept (pages : List Page) (near room places spare kept : ℕ) : Type 0 where
  pub counted : near ≡ near_count pages
  pub few : near ≤ 256
  pub within : length pages ≤ room
  pub held : room ≤ places
  pub small : room < 2 ^ 52
  pub buffers : min room 256 ≤ near + spare
  pub returned : near + spare ≤ kept
