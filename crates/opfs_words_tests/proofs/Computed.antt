-- Texts and scripts that are computed from their definitions.
use Rattle.std.proofs.Common.{◌≡◌, ◌∷◌, [], Some, true, false, refl, Ok, Err}
use Rattle.std.specs.Prelude.{codes}
use Rattle.std.specs.Fmt.{digits}
use Rattle.std.specs.Str.{chars, is_utf8}
use Rattle.serde_json.proofs.OnLiterals.{serde_json_on_literals}
use Rattle.hex.proofs.OnLiterals.{hex_on_literals}
use Rattle.url.proofs.OnLiterals.{url_on_literals}
use Rattle.opfs_hist.specs.declared.op.Op.TheVariants as op
use Rattle.opfs_hist.specs.declared.reply.Reply.TheVariants as reply
use Rattle.opfs_hist.specs.declared.reply.Refusal.TheVariants as refusal
use Rattle.opfs_hist.specs.declared.entry.Entry.{Entry}
use Rattle.opfs_print.specs.Lines.{text_of}
use Rattle.opfs_script.specs.Reading.{reads, step_of, agent_of}
use Rattle.opfs_script.specs.Shapes.{shaped}
use Rattle.opfs_script.specs.Words.{word_named}
use Rattle.opfs_script.specs.declared.refusal.ScriptRefusal.TheVariants as refused
use Rattle.opfs_script.specs.declared.step.Step.TheVariants as step

-- the lines of a refusal, of bytes and of names
lines : text_of (record { agent = 1; number = 4; op = op.Close 1; reply = reply.No (refusal.DataFull 3 2 4); turn = true } ∷ record { agent = 1; number = 5; op = op.End; reply = reply.Read (99 ∷ 100 ∷ []); turn = true } ∷ record { agent = 1; number = 5; op = op.End; reply = reply.Names (codes "p" ∷ codes "q" ∷ []); turn = true } ∷ []) ≡ codes "1.4 close DataFull 3 2 4\n1.5 end ok 2 6364\n1.5 end ok [\"p\",\"q\"]\n"
unfolding digits serde_json_on_literals hex_on_literals
lines = refl

-- what is no JSON
no_json : reads (codes "{") ≡ Err refused.NotJson
unfolding reads chars is_utf8 serde_json_on_literals
no_json = refl

-- a word that is not there
flies : reads (codes "{\"agents\":[{\"origin\":\"https://a.example\",\"steps\":[{\"do\":\"fly\"}]}]}") ≡ Err (refused.UnknownStep 1 1)
unfolding reads step_of agent_of shaped word_named chars is_utf8 serde_json_on_literals url_on_literals
flies = refl

-- an agent with one step
one : reads (codes "{\"agents\":[{\"origin\":\"https://a.example\",\"steps\":[{\"do\":\"getDirectory\",\"as\":\"d\"}]}]}") ≡ Ok (record { key = Some (codes "https://a.example"); grant = false; steps = step.GetDirectory (codes "default") (codes "d") ∷ [] } ∷ [])
unfolding reads step_of agent_of shaped word_named chars is_utf8 serde_json_on_literals url_on_literals
one = refl
