-- When a large run's summary depends on its number alone. This project's own.
use Rattle.std.specs.Prelude.{◌≡◌, ℕ, ◌&&◌, Bool, true, false, not, List, All}
use Rattle.opfs_hist.specs.declared.entry.Entry.{Entry}
use Rattle.opfs_hist.specs.declared.op.Op.{Op}
use Rattle.opfs_hist.specs.declared.op.Op.TheVariants as op
use Rattle.opfs_transcripts.specs.Lone.Lone.{IsOwnEntry}
use Rattle.opfs_machine.specs.Histories.{Legal}
use Rattle.opfs_laws.specs.Separation.Apart.{is_shared}
use Rattle.opfs_script_run.specs.Stage.Openings.{trial_opening}
use Rattle.opfs_script_run.specs.Stage.Runs.{EachRuns}
use Rattle.opfs_gen.specs.Making.{IsGenRange, gen_script}
use Rattle.opfs_gen.specs.Summing.{gen_text, summary_of}

-- Whether a call is neither an eviction nor a wait.
abbrev pub is_own_op : Op → Bool
is_own_op (op.Evict unit) = false
is_own_op (op.Wait tag) = false
is_own_op o = true

-- Whether an entry tells nothing of what is shared.
abbrev pub is_own : Entry → Bool
is_own e = is_own_op e.op && not (is_shared e.reply)

abbrev pub SummariesAreOfOwnRuns : Type 0
SummariesAreOfOwnRuns = (seed agents rounds : ℕ) (es : List Entry) → IsGenRange seed agents rounds → Legal (trial_opening (gen_script seed agents rounds)) es
    → EachRuns (gen_script seed agents rounds) es → All IsOwnEntry es → summary_of agents es ≡ gen_text seed agents rounds
