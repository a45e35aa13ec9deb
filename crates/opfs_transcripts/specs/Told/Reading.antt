-- What the lines of a transcript tell before its history is known: whether units were cleared, or an agent was stuck. This
-- project's own.
use Rattle.std.specs.Prelude.{◌≡◌, ℕ, ◌==◌, ◌||◌, ◌&&◌, Bool, true, false, List, [], ◌∷◌, codes, All, None}
use Rattle.std.specs.List.{list_any}
use Rattle.opfs_base.specs.Texts.{Text, same_text}
use Rattle.opfs_hist.specs.declared.entry.Entry.{Entry}
use Rattle.opfs_hist.specs.declared.op.Op.{Op}
use Rattle.opfs_hist.specs.declared.op.Op.TheVariants as op
use Rattle.opfs_hist.specs.declared.reply.Refusal.TheVariants as refusal
use Rattle.opfs_hist.specs.declared.reply.Refusal.{Refusal}
use Rattle.opfs_hist.specs.declared.reply.Reply.{Reply}
use Rattle.opfs_hist.specs.declared.reply.Reply.TheVariants as reply
use Rattle.opfs_machine.specs.Histories.{evicted_by}
use Rattle.opfs_print.specs.Lines.{text_of}

abbrev pub in_front : ℕ → List Text → List Text
in_front c [] = (c ∷ []) ∷ []
in_front c (line ∷ lines) = (c ∷ line) ∷ lines

abbrev pub lines_by : Bool → ℕ → List Text → List Text
lines_by true c lines = [] ∷ lines
lines_by false c lines = in_front c lines

-- The lines of a text, without their line feeds. The last one may have none.
abbrev pub lines_of : Text → List Text
lines_of [] = []
lines_of (c ∷ cs) = lines_by (c == 10) c (lines_of cs)

-- Whether the second text begins with the first.
abbrev pub begins : Text → Text → Bool
begins [] text = true
begins (c ∷ cs) [] = false
begins (c ∷ cs) (x ∷ xs) = (c == x) && begins cs xs

-- Whether the second text ends with the first.
abbrev pub ends : Text → Text → Bool
ends end [] = same_text end []
ends end (x ∷ xs) = same_text end (x ∷ xs) || ends end xs

abbrev pub is_evict_line : Text → Bool
is_evict_line line = begins (codes "evict ") line

abbrev pub is_stuck_line : Text → Bool
is_stuck_line line = ends (codes " await Stuck") line

abbrev pub tells_room : Text → Bool
tells_room text = list_any is_evict_line (lines_of text)

abbrev pub tells_stuck : Text → Bool
tells_stuck text = list_any is_stuck_line (lines_of text)

-- Whether a text has a line that begins as an eviction's, or one that ends as a stuck await's.
abbrev pub tells_room_or_stuck : Text → Bool
tells_room_or_stuck text = tells_room text || tells_stuck text

abbrev pub is_stuck_refusal : Refusal → Bool
is_stuck_refusal refusal.Stuck = true
is_stuck_refusal r = false

abbrev pub is_stuck : Reply → Bool
is_stuck (reply.No r) = is_stuck_refusal r
is_stuck answered = false

abbrev pub is_stuck_await : Op → Reply → Bool
is_stuck_await (op.Await tag) answered = is_stuck answered
is_stuck_await called answered = false

-- An entry that is no eviction, and no await that was answered Stuck.
pub record IsPlainEntry (e : Entry) : Type 0 where
  pub no_eviction : evicted_by e.op ≡ None
  pub not_stuck : is_stuck_await e.op e.reply ≡ false

abbrev pub SettledTextsArePlain : Type 0
SettledTextsArePlain = (es : List Entry) → tells_room_or_stuck (text_of es) ≡ false → All IsPlainEntry es
