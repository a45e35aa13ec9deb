-- What a worked example is: a history that begins with nothing stored, and its transcript. This project's own.
use Rattle.std.specs.Prelude.{◌≡◌, ℕ, zero, suc, true, false, Option, Some, option_map, List, [], ◌∷◌, ◌++◌, flat_map, codes}
use Rattle.opfs_base.specs.Places.{place_of}
use Rattle.opfs_base.specs.Texts.{Text}
use Rattle.opfs_base.specs.declared.locator.Kind.TheVariants as kind
use Rattle.opfs_base.specs.declared.locator.Locator.{Locator}
use Rattle.opfs_hist.specs.declared.entry.Entry.{Entry}
use Rattle.opfs_hist.specs.declared.op.Op.{Op}
use Rattle.opfs_hist.specs.declared.op.Op.TheVariants as op
use Rattle.opfs_hist.specs.declared.reply.Refusal.{Refusal}
use Rattle.opfs_hist.specs.declared.reply.Refusal.TheVariants as refusal
use Rattle.opfs_hist.specs.declared.reply.Reply.{Reply}
use Rattle.opfs_hist.specs.declared.reply.Reply.TheVariants as reply
use Rattle.opfs_locks.specs.declared.LockValue.{LockValue}
use Rattle.opfs_machine.specs.Histories.{Legal, state_after}
use Rattle.opfs_machine.specs.Openings.{Opening, Who, empty_map}
use Rattle.opfs_machine.specs.Rows.{file_at}
use Rattle.opfs_print.specs.Lines.{text_of}

-- The opening of `try`, where nothing is stored.
abbrev pub try_opening : List Who → Opening
try_opening whos = record {
  stored = empty_map;
  agents = whos;
  limits = record { area = 1048576; blocks = 16384; quota = 8192 };
}

-- The key of the origin that the examples have.
abbrev pub a_example : Text
a_example = codes "https://a.example"

-- One agent of that origin, without a grant.
abbrev pub one_agent : List Who
one_agent = record { key = Some a_example; grant = false } ∷ []

-- A directory, a file, and the root of the default bucket.
abbrev pub directory : List Text → Locator
directory path = record { key = a_example; path = path; kind = kind.Directory }

abbrev pub file : List Text → Locator
file path = record { key = a_example; path = path; kind = kind.File }

abbrev pub root : Locator
root = directory []

-- The file `f` in the root.
abbrev pub the_file : Locator
the_file = file (codes "f" ∷ [])

-- An entry of an agent: its number, its call and the answer.
abbrev pub by : ℕ → ℕ → Op → Reply → Entry
by k n asked answered = record { agent = k; number = n; op = asked; reply = answered; turn = true }

abbrev pub by_one : ℕ → Op → Reply → Entry
by_one n asked answered = by 1 n asked answered

-- The entry of an eviction.
abbrev pub evicting : Text → Entry
evicting unit = by 0 0 (op.Evict unit) (reply.Gone unit)

-- The answer that refuses.
abbrev pub refused : Refusal → Reply
refused why = reply.No why

-- The answer that a file's lock gives.
abbrev pub locked : LockValue → ℕ → Reply
locked v n = refused (refusal.NoModificationAllowedError v n)

-- Lines of text.
abbrev pub lines : List Text → Text
lines ls = flat_map (λ line. line ++ codes "\n") ls

-- The history with another answer in one place, counted from 0.
abbrev pub with_reply : ℕ → Reply → List Entry → List Entry
with_reply n answered [] = []
with_reply zero answered (e ∷ es) = record e { reply = answered } ∷ es
with_reply (suc n) answered (e ∷ es) = e ∷ with_reply n answered es

-- The history without the entry in one place, counted from 0.
abbrev pub without_entry : ℕ → List Entry → List Entry
without_entry n [] = []
without_entry zero (e ∷ es) = es
without_entry (suc n) (e ∷ es) = e ∷ without_entry n es

-- The answer in one place, counted from 0.
abbrev pub reply_at : ℕ → List Entry → Reply
reply_at n [] = reply.Done
reply_at zero (e ∷ es) = e.reply
reply_at (suc n) (e ∷ es) = reply_at n es

-- A store that holds nothing yet, of so many bytes of an area, data blocks, and blocks of quota.
abbrev pub room_for : ℕ → ℕ → ℕ → List Who → Opening
room_for area blocks quota whos = record {
  stored = empty_map;
  agents = whos;
  limits = record { area = area; blocks = blocks; quota = quota };
}

-- The root of a unit, and a file in it.
abbrev pub directory_of : Text → Locator
directory_of unit = record { key = unit; path = []; kind = kind.Directory }

abbrev pub file_in : Text → List Text → Locator
file_in unit path = record { key = unit; path = path; kind = kind.File }

-- What a file holds after a history: its present bytes, and those that are stored for good.
abbrev pub kept_at : Opening → List Entry → Locator → Option (Text × Text)
kept_at o es at = option_map (λ f. (f.present, f.durable)) (file_at (state_after o es) (place_of at))

-- The history is legal, its transcript is these lines, and with that other answer in that place it is not legal.
pub record IsExample (o : Opening) (es : List Entry) (told : List Text) (place : ℕ) (wrong : Reply) : Type 0 where
  pub legal : Legal o es
  pub text : text_of es ≡ lines told
  pub strict : Legal o (with_reply place wrong es) → ⊥

-- The history is legal, and with that other answer in that place it is not.
pub record IsAnswered (o : Opening) (es : List Entry) (place : ℕ) (wrong : Reply) : Type 0 where
  pub legal : Legal o es
  pub strict : Legal o (with_reply place wrong es) → ⊥
