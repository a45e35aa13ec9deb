-- What a call that is not refused tells of its name and of its row, and that clearing units leaves this.
use Rattle.std.proofs.Common.{◌≡◌, ℕ, zero, suc, ◌≤◌, Bool, true, false, List, length, fold, Option, Some, None, Ok, refl, sym, ap, ◌∙◌, subst, arith}
use Rattle.std.proofs.lemmas.Bool.{false≢true, and_parts}
use Rattle.std.proofs.lemmas.Option.{slice_get_within}
use Rattle.opfs_base.specs.Names.{is_valid_name}
use Rattle.opfs_base.specs.Texts.{Text}
use Rattle.opfs_base.specs.declared.locator.Kind.{Kind}
use Rattle.opfs_base.specs.declared.locator.Kind.TheVariants as kind
use Rattle.opfs_base.specs.declared.locator.Locator.{Locator}
use Rattle.opfs_hist.specs.declared.op.Op.{Op}
use Rattle.opfs_hist.specs.declared.op.Op.TheVariants as op
use Rattle.opfs_machine.specs.declared.own.Own.{Own}
use Rattle.opfs_machine.specs.declared.state.Agent.{Agent}
use Rattle.opfs_machine.specs.declared.state.Need.{Need}
use Rattle.opfs_machine.specs.declared.state.State.{State}
use Rattle.opfs_machine.specs.Agents.{agent_in, agent_of, own_of}
use Rattle.opfs_machine.specs.Contents.{in_bytes}
use Rattle.opfs_machine.specs.Histories.{may_enter, is_own, is_stream, is_handle, is_open_handle, is_iterator_of}
use Rattle.opfs_machine.specs.Replies.{sizes_of}
use Rattle.opfs_machine.specs.Rulings.{ruling, get_handle_ruling, remove_entry_ruling}
use Rattle.opfs_machine.specs.Steps.{judged, room_for, evicted}
use Rattle.opfs_laws.proofs.Gone.{bind-gave, then-gave, unless-gave}
use Rattle.opfs_laws.proofs.OwnKept.{evicted-agents}
use Rattle.opfs_rulings.specs.Known.{IsAgent, IsOwn}
use Rattle.opfs_plain.specs.Changing.{IsFittingFor, IsFitting}

own-at : (a : Agent Own) (n : ℕ) (r : Own) → own_of a n ≡ Some r → IsOwn a n
own-at a zero r h = cc
own-at a (suc n) r h =
    let inside = slice_get_within a.own n r h in
    record { above = omega (arith); within = omega (arith, inside) }

found-by : (a : Agent Own) (n : ℕ) (test : Option Own → Bool) (o : Option Own) → test None ≡ false → own_of a n ≡ o → test o ≡ true → IsOwn a n
found-by a n test None none is h = absurd (false≢true (sym none ∙ h))
found-by a n test (Some r) none is h = own-at a n r is

-- A row is there that has a property which no missing row has.
found : (a : Agent Own) (n : ℕ) (test : Option Own → Bool) → test None ≡ false → test (own_of a n) ≡ true → IsOwn a n
found a n test none h = found-by a n test (own_of a n) none refl h

-- What is not refused was ruled so.
ruled : (s : State Text Own) (k : ℕ) (o : Op) (units : List Text) → judged s k o ≡ Ok units → (need : Need) × (ruling in_bytes s (sizes_of s k o) k o ≡ Ok need)
unfolding judged
ruled s k o units is =
    let gave = bind-gave (ruling in_bytes s (sizes_of s k o) k o) (room_for in_bytes s (agent_of s k).key) units is in
    (gave.0, gave.1)

child-named : (s : State Text Own) (k : Kind) (dir : Locator) (name : Text) (create : Bool) (need : Need) → get_handle_ruling s k dir name create ≡ Ok need → is_valid_name name ≡ true
unfolding get_handle_ruling
child-named s k dir name create need h = unless-gave _ _ (then-gave _ _ need h).0

removed-named : (s : State Text Own) (dir : Locator) (name : Text) (recursive : Bool) (need : Need) → remove_entry_ruling s dir name recursive ≡ Ok need → is_valid_name name ≡ true
unfolding remove_entry_ruling
removed-named s dir name recursive need h = unless-gave _ _ (then-gave _ _ need h).0

-- A call that may have an entry and is not refused has a valid name where it makes or removes a child, and its row is there.
pub fits : (s : State Text Own) (k : ℕ) (o : Op) (units : List Text) → may_enter s k o ≡ true → judged s k o ≡ Ok units → IsFitting s k o
unfolding may_enter ruling IsFittingFor
fits s k (op.GetDirectory bucket) units may is = tt
fits s k (op.GetDirectoryHandle dir name create) units may is =
    let both = ruled s k (op.GetDirectoryHandle dir name create) units is in child-named s kind.Directory dir name create both.0 both.1
fits s k (op.GetFileHandle dir name create) units may is =
    let both = ruled s k (op.GetFileHandle dir name create) units is in child-named s kind.File dir name create both.0 both.1
fits s k (op.RemoveEntry dir name recursive) units may is =
    let both = ruled s k (op.RemoveEntry dir name recursive) units is in removed-named s dir name recursive both.0 both.1
fits s k (op.Values dir) units may is = tt
fits s k (op.Next n dir) units may is = found (agent_of s k) n (is_iterator_of dir) refl (and_parts (is_own s k dir) (is_iterator_of dir (own_of (agent_of s k) n)) may).1
fits s k (op.Resolve dir entry) units may is = tt
fits s k (op.IsSameEntry entry other) units may is = tt
fits s k (op.GetFile at) units may is = tt
fits s k (op.Slice n at len) units may is = tt
fits s k (op.CreateWritable at keep) units may is = tt
fits s k (op.Write n bytes position) units may is = found (agent_of s k) n is_stream refl may
fits s k (op.Seek n position) units may is = found (agent_of s k) n is_stream refl may
fits s k (op.Truncate n size) units may is = found (agent_of s k) n is_stream refl may
fits s k (op.Close n) units may is = found (agent_of s k) n is_stream refl may
fits s k (op.Abort n) units may is = found (agent_of s k) n is_stream refl may
fits s k (op.CreateSyncAccessHandle at mode) units may is = tt
fits s k (op.SyncRead n len at) units may is = found (agent_of s k) n is_handle refl may
fits s k (op.SyncWrite n bytes at) units may is = found (agent_of s k) n is_handle refl may
fits s k (op.SyncTruncate n size) units may is = found (agent_of s k) n is_handle refl may
fits s k (op.SyncGetSize n) units may is = tt
fits s k (op.SyncFlush n) units may is = found (agent_of s k) n is_handle refl may
fits s k (op.SyncClose n) units may is = found (agent_of s k) n is_handle refl may
fits s k (op.Persist bucket) units may is = tt
fits s k (op.Persisted bucket) units may is = tt
fits s k op.Estimate units may is = tt
fits s k (op.Moment ms) units may is = tt
fits s k (op.Post tag) units may is = tt
fits s k (op.Await tag) units may is = tt
fits s k (op.Wait tag) units may is = tt
fits s k (op.Discard n) units may is = found (agent_of s k) n is_open_handle refl may
fits s k op.End units may is = tt
fits s k (op.Unbound word) units may is = tt
fits s k (op.Evict unit) units may is = tt

same-agents : (s t : State Text Own) (units : List Text) → t ≡ fold evicted s units → s.agents ≡ t.agents
same-agents s t units is = sym (ap (λ (x : State Text Own). x.agents) is ∙ evicted-agents units s)

-- Once units are cleared, the agent is there as before, and the call fits.
pub agent-stays : (s t : State Text Own) (units : List Text) (k : ℕ) → t ≡ fold evicted s units → IsAgent s k → IsAgent t k
agent-stays s t units k is agent = record { above = agent.above; within = subst (λ agents. k ≤ length agents) (same-agents s t units is) agent.within }

pub fits-still : (s t : State Text Own) (units : List Text) (k : ℕ) (o : Op) → t ≡ fold evicted s units → IsFitting s k o → IsFitting t k o
fits-still s t units k o is fitting = subst (λ agents. IsFittingFor (agent_in agents k) o) (same-agents s t units is) fitting
