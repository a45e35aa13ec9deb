-- Examples of tags of agents of one party, and of none.
use Rattle.std.specs.Prelude.{List, [], ◌∷◌, Some, None, codes, replicate, true, false}
use Rattle.opfs_base.specs.Texts.{Text}
use Rattle.opfs_base.specs.Units.{default_bucket}
use Rattle.opfs_base.specs.declared.locator.Kind.TheVariants as kind
use Rattle.opfs_hist.specs.declared.entry.Entry.{Entry}
use Rattle.opfs_hist.specs.declared.op.Mode.TheVariants as mode
use Rattle.opfs_hist.specs.declared.op.Op.TheVariants as op
use Rattle.opfs_hist.specs.declared.reply.Refusal.TheVariants as refusal
use Rattle.opfs_hist.specs.declared.reply.Reply.TheVariants as reply
use Rattle.opfs_locks.specs.declared.LockValue.TheVariants as lock
use Rattle.opfs_examples.specs.Room.{b_example, c_example}
use Rattle.opfs_examples.specs.Trying.{IsAnswered, a_example, by, directory_of, evicting, file_in, locked, refused, room_for}

-- Two agents of opaque origin share no tags.
abbrev pub agents_without_a_key_share_no_tags_history : List Entry
agents_without_a_key_share_no_tags_history =
    by 1 1 (op.Post (codes "t")) (reply.Done)
    ∷ by 2 1 (op.Await (codes "t")) (refused (refusal.Stuck))
    ∷ []

abbrev pub AgentsWithoutAKeyShareNoTags : Type 0
AgentsWithoutAKeyShareNoTags = IsAnswered (room_for 16384 16 4 (record { key = None; grant = false } ∷ record { key = None; grant = false } ∷ [])) agents_without_a_key_share_no_tags_history 1 (reply.Done)

-- An agent that waits for a tag is not stuck once that is posted.
abbrev pub an_agent_whose_tag_is_posted_is_not_stuck_history : List Entry
an_agent_whose_tag_is_posted_is_not_stuck_history =
    by 2 1 (op.Wait (codes "p")) (reply.Done)
    ∷ by 1 1 (op.Post (codes "p")) (reply.Done)
    ∷ by 1 2 (op.Wait (codes "q")) (reply.Done)
    ∷ by 2 1 (op.Await (codes "p")) (reply.Done)
    ∷ by 2 2 (op.Post (codes "q")) (reply.Done)
    ∷ by 1 2 (op.Await (codes "q")) (reply.Done)
    ∷ []

abbrev pub AnAgentWhoseTagIsPostedIsNotStuck : Type 0
AnAgentWhoseTagIsPostedIsNotStuck = IsAnswered (room_for 16384 16 4 (record { key = Some a_example; grant = false } ∷ record { key = Some a_example; grant = false } ∷ [])) an_agent_whose_tag_is_posted_is_not_stuck_history 5 (refused (refusal.Stuck))

-- A posted tag serves any number of awaits.
abbrev pub a_posted_tag_stays_history : List Entry
a_posted_tag_stays_history =
    by 1 1 (op.Post (codes "t")) (reply.Done)
    ∷ by 2 1 (op.Await (codes "t")) (reply.Done)
    ∷ by 2 2 (op.Await (codes "t")) (reply.Done)
    ∷ []

abbrev pub APostedTagStays : Type 0
APostedTagStays = IsAnswered (room_for 16384 16 4 (record { key = Some a_example; grant = false } ∷ record { key = Some a_example; grant = false } ∷ [])) a_posted_tag_stays_history 2 (refused (refusal.Stuck))
