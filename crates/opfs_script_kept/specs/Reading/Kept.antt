-- What a script that was read says: this project's own.
use Rattle.std.specs.Prelude.{List}
use Rattle.opfs_script.specs.Scripts.{Asked}
use Rattle.opfs_script_kept.specs.declared.reading.kept.KeptScript.{KeptScript}
use Rattle.opfs_script_kept.specs.declared.reading.kept.KeptScript.TheVariants as kept

-- The same, however it is kept.
abbrev pub seen : KeptScript → List Asked
seen (kept.Packed script) = script
seen (kept.Whole script) = script
