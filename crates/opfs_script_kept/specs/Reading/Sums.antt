-- How much is asked for so far: this project's own.
use Rattle.std.specs.Prelude.{◌≤◌}
use Rattle.opfs_script_kept.specs.declared.reading.sums.Sums.{Sums}

-- No more than a script may ask.
abbrev pub IsWithin : Sums → Type 0
IsWithin sums = (sums.steps ≤ 20000) × (sums.bytes ≤ 67108864)
