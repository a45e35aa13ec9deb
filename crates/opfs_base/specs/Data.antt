-- The bytes that are told one by one, or as one byte so many times.
use Rattle.std.specs.Prelude.{replicate}
use Rattle.opfs_base.specs.Texts.{Text}
use Rattle.opfs_base.specs.declared.data.Told.{Told}
use Rattle.opfs_base.specs.declared.data.Told.TheVariants as told

abbrev pub told_bytes : Told → Text
told_bytes (told.Given bytes) = bytes.now
told_bytes (told.Fill byte count) = replicate count byte
