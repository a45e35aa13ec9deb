-- Examples of tags.
use Rattle.std.specs.Prelude.{List, [], ◌∷◌, ◌++◌, Some, codes, false}
use Rattle.opfs_base.specs.Texts.{Text}
use Rattle.opfs_hist.specs.declared.entry.Entry.{Entry}
use Rattle.opfs_hist.specs.declared.op.Op.TheVariants as op
use Rattle.opfs_hist.specs.declared.reply.Refusal.TheVariants as refusal
use Rattle.opfs_hist.specs.declared.reply.Reply.TheVariants as reply
use Rattle.opfs_machine.specs.Histories.{Legal}
use Rattle.opfs_machine.specs.Openings.{Opening}
use Rattle.opfs_examples.specs.Trying.{IsExample, try_opening, a_example, by, refused}

-- Two agents of one origin.
abbrev pub two_agents : Opening
two_agents =
    try_opening (record { key = Some a_example; grant = false } ∷ record { key = Some a_example; grant = false } ∷ [])

-- An await waits until its tag is posted, and is stuck where every other agent has ended. A wait has no line.
abbrev pub an_await_waits_for_a_post_history : List Entry
an_await_waits_for_a_post_history =
    by 2 1 (op.Wait (codes "p")) reply.Done
    ∷ by 1 1 (op.Post (codes "p")) reply.Done
    ∷ by 2 1 (op.Await (codes "p")) reply.Done
    ∷ by 2 2 op.End reply.Done
    ∷ by 1 2 (op.Await (codes "q")) (refused refusal.Stuck)
    ∷ by 1 3 op.End reply.Done
    ∷ []

abbrev pub an_await_waits_for_a_post_lines : List Text
an_await_waits_for_a_post_lines =
    codes "1.1 post ok"
    ∷ codes "2.1 await ok"
    ∷ codes "2.2 end ok"
    ∷ codes "1.2 await Stuck"
    ∷ codes "1.3 end ok"
    ∷ []

abbrev pub AnAwaitWaitsForAPost : Type 0
AnAwaitWaitsForAPost =
    IsExample two_agents an_await_waits_for_a_post_history
    an_await_waits_for_a_post_lines 2 (refused refusal.Stuck)

-- Where all agents wait, the last that would is stuck, and so is the other once that one has ended.
abbrev pub agents_that_all_wait_are_stuck_history : List Entry
agents_that_all_wait_are_stuck_history =
    by 1 1 (op.Wait (codes "q")) reply.Done
    ∷ by 2 1 (op.Await (codes "p")) (refused refusal.Stuck)
    ∷ by 2 2 op.End reply.Done
    ∷ by 1 1 (op.Await (codes "q")) (refused refusal.Stuck)
    ∷ by 1 2 op.End reply.Done
    ∷ []

abbrev pub agents_that_all_wait_are_stuck_lines : List Text
agents_that_all_wait_are_stuck_lines =
    codes "2.1 await Stuck"
    ∷ codes "2.2 end ok"
    ∷ codes "1.1 await Stuck"
    ∷ codes "1.2 end ok"
    ∷ []

abbrev pub AgentsThatAllWaitAreStuck : Type 0
AgentsThatAllWaitAreStuck =
    IsExample two_agents agents_that_all_wait_are_stuck_history
    agents_that_all_wait_are_stuck_lines 1 reply.Done

-- Three agents of one origin.
abbrev pub three_agents : Opening
three_agents =
    try_opening
    (record { key = Some a_example; grant = false } ∷ record { key = Some a_example; grant = false }
    ∷ record { key = Some a_example; grant = false } ∷ [])

-- An agent whose await was stuck no longer waits, so another that waits goes on.
abbrev pub an_agent_is_stuck_history : List Entry
an_agent_is_stuck_history =
    by 1 1 (op.Wait (codes "q")) reply.Done
    ∷ by 2 1 (op.Wait (codes "r")) reply.Done
    ∷ by 3 1 op.End reply.Done
    ∷ by 1 1 (op.Await (codes "q")) (refused refusal.Stuck)
    ∷ []

abbrev pub a_stuck_agent_goes_on_history : List Entry
a_stuck_agent_goes_on_history =
    an_agent_is_stuck_history
    ++ by 1 2 (op.Post (codes "r")) reply.Done
    ∷ by 2 1 (op.Await (codes "r")) reply.Done
    ∷ by 2 2 op.End reply.Done
    ∷ by 1 3 op.End reply.Done
    ∷ []

abbrev pub a_stuck_agent_goes_on_lines : List Text
a_stuck_agent_goes_on_lines =
    codes "3.1 end ok"
    ∷ codes "1.1 await Stuck"
    ∷ codes "1.2 post ok"
    ∷ codes "2.1 await ok"
    ∷ codes "2.2 end ok"
    ∷ codes "1.3 end ok"
    ∷ []

abbrev pub AStuckAgentGoesOn : Type 0
AStuckAgentGoesOn =
    IsExample three_agents a_stuck_agent_goes_on_history
    a_stuck_agent_goes_on_lines 3 reply.Done

-- The other agent is not stuck, since the first one may still post.
abbrev pub NoOtherAgentIsStuck : Type 0
NoOtherAgentIsStuck =
    Legal three_agents (an_agent_is_stuck_history ++ by 2 1 (op.Await (codes "r")) (refused refusal.Stuck) ∷ []) → ⊥
