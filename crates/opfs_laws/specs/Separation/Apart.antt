-- Separation of origins. This project's own.
use Rattle.std.specs.Prelude.{◌≡◌, Bool, true, false, ◌||◌, List, [], ◌∷◌, map, All, Option, Some, None, IsTrue}
use Rattle.std.specs.FinMap.Entries.{is_sorted}
use Rattle.opfs_base.specs.Keys.{is_origin}
use Rattle.opfs_base.specs.Places.{place_cmp}
use Rattle.opfs_base.specs.Texts.{Text}
use Rattle.opfs_hist.specs.declared.entry.Entry.{Entry}
use Rattle.opfs_hist.specs.declared.reply.Refusal.TheVariants.{MetaFull, DataFull, DiskFault}
use Rattle.opfs_hist.specs.declared.reply.Reply.{Reply}
use Rattle.opfs_hist.specs.declared.reply.Reply.TheVariants.{No}
use Rattle.opfs_machine.specs.declared.state.Party.{Party}
use Rattle.opfs_machine.specs.Alone.{IsAlone, project, begun_alone}
use Rattle.opfs_machine.specs.Histories.{Legal}
use Rattle.opfs_machine.specs.Openings.{Opening}

-- Whether an agent has an opaque origin, or a key that is an origin's and names no bucket.
abbrev pub has_origin_key : Option Text → Bool
has_origin_key None = true
has_origin_key (Some key) = is_origin key

-- An opening whose rows strictly rise by place, and whose agents' keys are origins'.
pub record IsInOrder (o : Opening) : Type 0 where
  pub rows : IsTrue (is_sorted place_cmp o.stored.rows)
  pub keys : All (λ who. IsTrue (has_origin_key who.key)) o.agents

-- What a party's agents are told, and which of its units are evicted, is a run of the machine that has the party's
-- rows and modes alone.
abbrev pub EachPartyRunsAlone : Type 0
EachPartyRunsAlone = (o : Opening) (party : Party) (es : List Entry) → IsInOrder o → Legal o es → IsAlone o party (project o party es)

-- Whether a reply refuses shared room, or tells of the disk.
abbrev pub is_shared : Reply → Bool
is_shared (No (MetaFull charge growth area)) = true
is_shared (No (DataFull pool wanted blocks)) = true
is_shared (No DiskFault) = true
is_shared r = false

-- Two entries of the same agent that ask the same. Where one of them tells of what is shared, so does the other.
pub record IsAskedAlike (e f : Entry) : Type 0 where
  pub agent : e.agent ≡ f.agent
  pub op : e.op ≡ f.op
  pub shared : IsTrue (is_shared e.reply || is_shared f.reply) → e.reply ≡ f.reply

abbrev pub AreAskedAlike : List Entry → List Entry → Type 0
AreAskedAlike [] [] = Unit {0}
AreAskedAlike [] (f ∷ fs) = ⊥
AreAskedAlike (e ∷ es) [] = ⊥
AreAskedAlike (e ∷ es) (f ∷ fs) = IsAskedAlike e f × AreAskedAlike es fs

abbrev pub replies : List Entry → List Reply
replies es = map (λ e. e.reply) es

-- Two openings in order with the same quota, as many agents, and the same agents, rows and modes of a party, and a
-- legal history from each in which the party asks the same, loses the same units, and is told the same of what is
-- shared. Of other agents they may have other keys and grants, and the area and the blocks may be other ones.
pub record AreSameToParty (party : Party) (o q : Opening) (es fs : List Entry) : Type 0 where
  pub order : IsInOrder o
  pub other_order : IsInOrder q
  pub legal : Legal o es
  pub other_legal : Legal q fs
  pub begun : begun_alone o party ≡ begun_alone q party
  pub asked : AreAskedAlike (project o party es) (project q party fs)

-- Whatever the others hold and do, the party is answered the same.
abbrev pub OthersLeaveNoTrace : Type 0
OthersLeaveNoTrace = (party : Party) (o q : Opening) (es fs : List Entry) → AreSameToParty party o q es fs → replies (project o party es) ≡ replies (project q party fs)
