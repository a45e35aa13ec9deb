-- A script without agents.
use Rattle.std.specs.Prelude.{◌≡◌, List, []}
use Rattle.opfs_hist.specs.declared.entry.Entry.{Entry}
use Rattle.opfs_machine.specs.Histories.{Legal}
use Rattle.opfs_examples.specs.Trying.{try_opening}

-- Without agents no history but the empty one is legal.
abbrev pub OnlyAgentsEnter : Type 0
OnlyAgentsEnter = (es : List Entry) → Legal (try_opening []) es → es ≡ []
