-- A persist that gives a mode: what it spells and answers, and what it leaves as it is.
use Rattle.std.proofs.Common.{◌≡◌, ℕ, ◌||◌, Bool, true, false, if◌then◌else◌, is_some, List, Option, Some, None, Ok, refl, sym, ap, ◌∙◌, subst}
use Rattle.std.specs.Str.{is_utf8}
use Rattle.std.proofs.lemmas.Bool.{and_parts, false≢true}
use Rattle.opfs_store.specs.Acts.Acting.{gift_of}
use Rattle.opfs_base.specs.Texts.{Text}
use Rattle.opfs_base.specs.Units.{is_bucket_name, unit_of}
use Rattle.opfs_books.specs.Stored.Spelled.{mode_spelled, spelled_by}
use Rattle.opfs_state_rows.specs.Changes.Allowed.{IsSized}
use Rattle.opfs_state_rows.specs.Changes.Asking.{made_at}
use Rattle.opfs_state_rows.specs.Changes.Changed.{tree_by}
use Rattle.opfs_codec.specs.Spelling.{IsChange, IsKey}
use Rattle.opfs_codec.specs.declared.change.Change.TheVariants.{Persist}
use Rattle.opfs_codec.specs.declared.change.Format.TheVariants.{New}
use Rattle.opfs_pages.specs.HistoryLaws.Hands.{row_in_hand}
use Rattle.opfs_hist.specs.declared.op.Op.{Op}
use Rattle.opfs_hist.specs.declared.op.Op.TheVariants as op
use Rattle.opfs_hist.specs.declared.reply.Reply.TheVariants as reply
use Rattle.opfs_laws.proofs.Gone.{bind-gave, then-gave, unless-gave}
use Rattle.opfs_machine.specs.declared.own.Own.{Own}
use Rattle.opfs_machine.specs.declared.state.Need.{Need}
use Rattle.opfs_machine.specs.declared.state.Sizes.{Sizes}
use Rattle.opfs_machine.specs.declared.state.State.{State}
use Rattle.opfs_machine.specs.Agents.{agent_of}
use Rattle.opfs_machine.specs.Contents.{in_lengths}
use Rattle.opfs_machine.specs.Effects.{effect, persists}
use Rattle.opfs_machine.specs.Histories.{is_disk_op}
use Rattle.opfs_machine.specs.Replies.{answer, origin_in}
use Rattle.opfs_machine.specs.Rulings.{persist_ruling, ruling}
use Rattle.opfs_machine.specs.Sums.{is_persistent}
use Rattle.opfs_state_rows.specs.Standing.Seen.{Machine}
use Rattle.opfs_tree.specs.Rows.{Rows as Tree}
use Rattle.opfs_desk_entries.specs.KeptBack.Keeping.{HasOwnKey}
use Rattle.opfs_desk_entries.specs.KeptBack.Words.{IsQuietCall}
use Rattle.opfs_desk_entries.proofs.kept_back.Fewer.{HasNoMore}
use Rattle.opfs_desk_entries.proofs.kept_back.Spelled.{root-key}
use Rattle.opfs_desk_entries.specs.Buckets.Granting.{is_persist, bucket_named, unit_named, gives_among, gives_mode}

-- ---- such a call is a persist of an agent with a key and the grant

pub gives-word : (m : Machine) (k : ℕ) (o : Op) → gives_mode m k o ≡ true → is_persist o ≡ true
gives-word m k (op.Persist bucket) h = refl
gives-word m k o h = cc

among-key : (units : List Text) (grant : Bool) (bucket : Text) (key : Option Text) → gives_among units grant bucket key ≡ true → is_some key ≡ true
among-key units grant bucket None h = h
among-key units grant bucket (Some origin) h = refl

pub gives-key : (m : Machine) (k : ℕ) (o : Op) → gives_mode m k o ≡ true → is_some (agent_of m k).key ≡ true
gives-key m k (op.Persist bucket) h = among-key m.persistent (agent_of m k).grant bucket (agent_of m k).key h
gives-key m k o h = cc

among-grant : (units : List Text) (grant : Bool) (bucket : Text) (key : Option Text) → gives_among units grant bucket key ≡ true → grant ≡ true
among-grant units grant bucket None h = absurd (false≢true h)
among-grant units grant bucket (Some origin) h = (and_parts grant _ h).0

pub gives-grant : (m : Machine) (k : ℕ) (o : Op) → gives_mode m k o ≡ true → (agent_of m k).grant ≡ true
gives-grant m k (op.Persist bucket) h = among-grant m.persistent (agent_of m k).grant bucket (agent_of m k).key h
gives-grant m k o h = cc

-- It is one in any machine with the same modes, grant and key.
pub gives-still : (m n : Machine) (k : ℕ) (o : Op) → n.persistent ≡ m.persistent → (agent_of n k).grant ≡ (agent_of m k).grant → (agent_of n k).key ≡ (agent_of m k).key → gives_mode m k o ≡ true → gives_mode n k o ≡ true
gives-still m n k (op.Persist bucket) units grant key h = (λ i. gives_among (units i) (grant i) bucket (key i)) ∙ h
gives-still m n k o units grant key h = cc

-- ---- what it spells

mode-spelled : (m : Machine) (grant : Bool) (bucket : Text) (key : Option Text) → gives_among m.persistent grant bucket key ≡ true → mode_spelled m grant bucket key ≡ Some (Persist (unit_of (origin_in key) bucket))
mode-spelled m grant bucket None h = absurd (false≢true h)
mode-spelled m grant bucket (Some origin) h = ap (λ b. if b then Some (Persist (unit_of origin bucket)) else None) h

pub spelled-mode : (m : Machine) (t : Tree) (k : ℕ) (o : Op) (z : Sizes) → gives_mode m k o ≡ true → spelled_by m t k o z None ≡ Some (Persist (unit_named (agent_of m k).key o))
unfolding spelled_by
spelled-mode m t k (op.Persist bucket) z h = mode-spelled m (agent_of m k).grant bucket (agent_of m k).key h
spelled-mode m t k o z h = cc

-- It can be read again.
bucket-valid : (m : Machine) (k : ℕ) (bucket : Text) (need : Need) → persist_ruling m k bucket ≡ Ok need → is_bucket_name bucket ≡ true
unfolding persist_ruling
bucket-valid m k bucket need h = unless-gave _ _ (then-gave _ _ need (bind-gave _ _ need h).2).0

unit-written : (units : List Text) (grant : Bool) (bucket : Text) (key : Option Text) → gives_among units grant bucket key ≡ true → is_bucket_name bucket ≡ true → is_utf8 bucket ≡ true → HasOwnKey key → IsKey New (unit_of (origin_in key) bucket)
unit-written units grant bucket None h valid text keys = absurd (false≢true h)
unit-written units grant bucket (Some origin) h valid text keys = root-key origin bucket (keys origin refl) (text, valid)

pub again : (m : Machine) (z : Sizes) (k : ℕ) (o : Op) (need : Need) → gives_mode m k o ≡ true → ruling in_lengths m z k o ≡ Ok need → is_utf8 (bucket_named o) ≡ true → HasOwnKey (agent_of m k).key → IsChange New (Persist (unit_named (agent_of m k).key o))
unfolding ruling IsChange
again m z k (op.Persist bucket) need h ruled text keys = unit-written m.persistent (agent_of m k).grant bucket (agent_of m k).key h (bucket-valid m k bucket need ruled) text keys
again m z k o need h ruled text keys = cc

-- ---- what it answers

pub answers-mode : (s : State Text Own) (z : Sizes) (k : ℕ) (o : Op) → is_persist o ≡ true → (agent_of s k).grant ≡ true → answer s z k o ≡ reply.Flag true
unfolding answer
answers-mode s z k (op.Persist bucket) h grant = ap (λ (b : Bool). reply.Flag (b || is_persistent s (unit_of (origin_in (agent_of s k).key) bucket))) grant
answers-mode s z k o h grant = cc

-- ---- what it leaves as it is

mode-agents : {F R : Type 0} (s : State F R) (bucket : Text) (grant : Bool) (key : Option Text) → (persists s bucket grant key).agents ≡ s.agents
mode-agents s bucket grant None = refl
mode-agents s bucket true (Some origin) = refl
mode-agents s bucket false (Some origin) = refl

mode-limits : {F R : Type 0} (s : State F R) (bucket : Text) (grant : Bool) (key : Option Text) → (persists s bucket grant key).limits ≡ s.limits
mode-limits s bucket grant None = refl
mode-limits s bucket true (Some origin) = refl
mode-limits s bucket false (Some origin) = refl

pub quiet-persist : (k : ℕ) (o : Op) → is_persist o ≡ true → IsQuietCall k o (reply.Flag true)
unfolding is_disk_op IsSized gift_of row_in_hand effect
quiet-persist k (op.Persist bucket) h = record {
  done = refl;
  disk = λ s. refl;
  sized = λ m z. tt;
  gift = λ s. refl;
  hand = λ s. refl;
  left = λ rows. refl;
  near = refl;
  plain = refl;
  refused = λ s. refl;
  agents = λ s z. mode-agents s bucket (agent_of s k).grant (agent_of s k).key;
  outlines = λ m z. mode-agents m bucket (agent_of m k).grant (agent_of m k).key;
  limits = λ m z. mode-limits m bucket (agent_of m k).grant (agent_of m k).key;
}
quiet-persist k o h = cc

tree-stays : (m : Machine) (t : Tree) (k : ℕ) (o : Op) (z : Sizes) → is_persist o ≡ true → tree_by m t k o z None ≡ t
unfolding tree_by made_at
tree-stays m t k (op.Persist bucket) z h = refl
tree-stays m t k o z h = cc

pub no-more : (m : Machine) (t : Tree) (k : ℕ) (o : Op) (z : Sizes) → is_persist o ≡ true → HasNoMore m t (tree_by m t k o z None)
no-more m t k o z h =
    subst (λ (u : Tree). HasNoMore m t u) (sym (tree-stays m t k o z h)) (record { rows = λ b has. has; has = λ f b has. has; stays = λ j n b has. has })
