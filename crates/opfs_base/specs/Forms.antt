-- The bytes that a form stands for.
use Rattle.std.specs.Prelude.{replicate}
use Rattle.opfs_base.specs.Texts.{Text}
use Rattle.opfs_base.specs.declared.data.DataForm.{DataForm}
use Rattle.opfs_base.specs.declared.data.DataForm.TheVariants as form

abbrev pub bytes_of_form : DataForm → Text
bytes_of_form (form.Given bytes) = bytes
bytes_of_form (form.Fill byte count) = replicate count byte
