-- Status lines: this project's own.
use Rattle.std.specs.Prelude.{[], ◌∷◌, ◌++◌, codes, decimal}
use Rattle.opfs_base.specs.Texts.{Text}
use Rattle.opfs_print.specs.Lines.{joined, two_text}
use Rattle.opfs_print.specs.declared.end.BadScript.{BadScript}
use Rattle.opfs_print.specs.declared.end.BadScript.TheVariants as script
use Rattle.opfs_print.specs.declared.end.BadImage.{BadImage}
use Rattle.opfs_print.specs.declared.end.BadImage.TheVariants as image
use Rattle.opfs_print.specs.declared.end.End.{End}
use Rattle.opfs_print.specs.declared.end.End.TheVariants as end

-- Why a script is refused, with its numbers.
abbrev pub bad_script_text : BadScript → Text
bad_script_text script.NotJson = codes "NotJson"
bad_script_text (script.BadShape agent step) = two_text (codes "BadShape ") agent step
bad_script_text (script.UnknownStep agent step) = two_text (codes "UnknownStep ") agent step
bad_script_text (script.BadOrigin agent) = codes "BadOrigin " ++ decimal agent
bad_script_text script.TooMany = codes "TooMany"

-- Why an image is refused, with its numbers.
abbrev pub bad_image_text : BadImage → Text
bad_image_text image.Short = codes "Short"
bad_image_text image.Magic = codes "Magic"
bad_image_text image.Geometry = codes "Geometry"
bad_image_text image.Old = codes "Old"
bad_image_text image.NotOld = codes "NotOld"
bad_image_text image.NoArea = codes "NoArea"
bad_image_text (image.BadRecord place) = codes "BadRecord " ++ decimal place
bad_image_text (image.Overfull charge area) = two_text (codes "Overfull ") charge area

-- The line with which a command ends that did not do what was asked.
abbrev pub status_text : End → Text
status_text end.Usage = codes "opfs: usage\n"
status_text (end.Script why) = joined (codes "opfs: script refused: " ∷ bad_script_text why ∷ codes "\n" ∷ [])
status_text (end.Image why) = joined (codes "opfs: image refused: " ∷ bad_image_text why ∷ codes "\n" ∷ [])
status_text end.Host = codes "opfs: host fault\n"
status_text end.Source = codes "opfs: source fault\n"
