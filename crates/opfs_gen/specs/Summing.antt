-- The summary of what agents print. This project's own.
use Rattle.std.specs.Prelude.{ℕ, zero, suc, ◌+◌, Bool, not, List, [], ◌∷◌, ◌++◌, codes, decimal, length, filter}
use Rattle.hex.specs.Hex.{encode_lower}
use Rattle.sha2.specs.Sha256.{sha256}
use Rattle.opfs_base.specs.Texts.{Text}
use Rattle.opfs_hist.specs.declared.entry.Entry.{Entry}
use Rattle.opfs_machine.specs.Steps.{is_refusal}
use Rattle.opfs_print.specs.Lines.{joined, text_of}
use Rattle.opfs_script_run.specs.Runs.Running.{entries_of, is_wait}
use Rattle.opfs_transcripts.specs.Lone.Lone.{own_run}
use Rattle.opfs_script_run.specs.Stage.Openings.{trial_opening}
use Rattle.opfs_gen.specs.Making.{gen_asked, gen_script}

-- An entry has a line, unless an agent begins to wait in it; and what it tells is a refusal, or not.
abbrev pub is_accepted : Entry → Bool
is_accepted e = not (is_refusal e.reply)

abbrev pub lines_among : List Entry → List Entry
lines_among es = filter (λ e. not (is_wait e.op)) es

abbrev pub accepted_among : List Entry → ℕ
accepted_among es = length (filter is_accepted (lines_among es))

abbrev pub refused_among : List Entry → ℕ
refused_among es = length (filter (λ e. is_refusal e.reply) (lines_among es))

-- The line of an agent with these entries: how many lines they have, how many of them are accepted and how many refused, and the
-- SHA-256 of the lines in hexadecimal.
unfoldable pub agent_line : ℕ → List Entry → Text
agent_line k es =
    joined (codes "agent " ∷ decimal k ∷ codes " " ∷ decimal (length (lines_among es)) ∷ codes " " ∷ decimal (accepted_among es) ∷ codes " " ∷ decimal (refused_among es) ∷ codes " "
    ∷ encode_lower (sha256 (text_of es)) ∷ codes "\n" ∷ [])

-- The lines of so many agents, from one on.
abbrev pub lines_from : (ℕ → List Entry) → ℕ → ℕ → Text
lines_from entries k zero = []
lines_from entries k (suc count) = agent_line k (entries k) ++ lines_from entries (k + 1) count

abbrev pub summary_of : ℕ → List Entry → Text
summary_of agents es = lines_from (λ k. entries_of k es) 1 agents

-- What a large run prints: the summary of each agent's run on the machine that has its own rows alone.
abbrev pub gen_text : ℕ → ℕ → ℕ → Text
gen_text seed agents rounds = lines_from (λ k. own_run (trial_opening (gen_script seed agents rounds)) k (gen_asked seed rounds k)) 1 agents
