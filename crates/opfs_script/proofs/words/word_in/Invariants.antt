use Rattle.std.proofs.Common.{◌≡◌, drop}
use Rattle.opfs_script.specs.Words.{told, word_in}
use Rattle.opfs_script.proofs.words.word_in.Given as goal

abbrev pub invariant-loop-text : goal.invariant-loop-text
invariant-loop-text l = word_in (told (drop l.text-index l.words)) l.name ≡ word_in (told l.words) l.name
