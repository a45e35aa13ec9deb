-- Examples of buckets.
use Rattle.std.specs.Prelude.{List, [], ◌∷◌, Some, None, codes, true, false}
use Rattle.opfs_base.specs.Texts.{Text}
use Rattle.opfs_base.specs.Units.{default_bucket}
use Rattle.opfs_base.specs.declared.locator.Kind.TheVariants as kind
use Rattle.opfs_base.specs.declared.locator.Kind.{Kind}
use Rattle.opfs_base.specs.declared.locator.Locator.{Locator}
use Rattle.opfs_hist.specs.declared.entry.Entry.{Entry}
use Rattle.opfs_hist.specs.declared.op.Op.TheVariants as op
use Rattle.opfs_hist.specs.declared.reply.Refusal.TheVariants as refusal
use Rattle.opfs_hist.specs.declared.reply.Reply.TheVariants as reply
use Rattle.opfs_machine.specs.Openings.{Who}
use Rattle.opfs_examples.specs.Trying.{IsExample, try_opening, a_example, one_agent, root, by_one, refused}

-- One agent with the grant, and one of opaque origin.
abbrev pub one_granted : List Who
one_granted = record { key = Some a_example; grant = true } ∷ []

abbrev pub one_opaque : List Who
one_opaque = record { key = None; grant = false } ∷ []

-- What stands in the bucket `drafts`.
abbrev pub in_drafts : Kind → List Text → Locator
in_drafts k path = record { key = codes "https://a.example#drafts"; path = path; kind = k }

-- With the grant, persist makes the bucket persistent.
abbrev pub a_grant_makes_a_bucket_persistent_history : List Entry
a_grant_makes_a_bucket_persistent_history =
    by_one 1 (op.Persisted default_bucket) (reply.Flag false)
    ∷ by_one 2 (op.Persist default_bucket) (reply.Flag true)
    ∷ by_one 3 (op.Persisted default_bucket) (reply.Flag true)
    ∷ by_one 4 op.End reply.Done
    ∷ []

abbrev pub a_grant_makes_a_bucket_persistent_lines : List Text
a_grant_makes_a_bucket_persistent_lines =
    codes "1.1 persisted ok false"
    ∷ codes "1.2 persist ok true"
    ∷ codes "1.3 persisted ok true"
    ∷ codes "1.4 end ok"
    ∷ []

abbrev pub AGrantMakesABucketPersistent : Type 0
AGrantMakesABucketPersistent =
    IsExample (try_opening one_granted) a_grant_makes_a_bucket_persistent_history
    a_grant_makes_a_bucket_persistent_lines 1 (reply.Flag false)

-- Without the grant, persist leaves the bucket as it is.
abbrev pub without_the_grant_a_bucket_stays_best_effort_history : List Entry
without_the_grant_a_bucket_stays_best_effort_history =
    by_one 1 (op.Persist default_bucket) (reply.Flag false)
    ∷ by_one 2 op.End reply.Done
    ∷ []

abbrev pub without_the_grant_a_bucket_stays_best_effort_lines : List Text
without_the_grant_a_bucket_stays_best_effort_lines =
    codes "1.1 persist ok false"
    ∷ codes "1.2 end ok"
    ∷ []

abbrev pub WithoutTheGrantABucketStaysBestEffort : Type 0
WithoutTheGrantABucketStaysBestEffort =
    IsExample (try_opening one_agent) without_the_grant_a_bucket_stays_best_effort_history
    without_the_grant_a_bucket_stays_best_effort_lines 0 (reply.Flag true)

-- An agent of opaque origin has no storage.
abbrev pub an_opaque_origin_has_no_storage_history : List Entry
an_opaque_origin_has_no_storage_history =
    by_one 1 (op.GetDirectory default_bucket) (refused refusal.SecurityError)
    ∷ by_one 2 op.Estimate (refused refusal.TypeError)
    ∷ by_one 3 (op.Persisted default_bucket) (refused refusal.TypeError)
    ∷ by_one 4 (op.Persist default_bucket) (refused refusal.TypeError)
    ∷ by_one 5 op.End reply.Done
    ∷ []

abbrev pub an_opaque_origin_has_no_storage_lines : List Text
an_opaque_origin_has_no_storage_lines =
    codes "1.1 getDirectory SecurityError"
    ∷ codes "1.2 estimate TypeError"
    ∷ codes "1.3 persisted TypeError"
    ∷ codes "1.4 persist TypeError"
    ∷ codes "1.5 end ok"
    ∷ []

abbrev pub AnOpaqueOriginHasNoStorage : Type 0
AnOpaqueOriginHasNoStorage =
    IsExample (try_opening one_opaque) an_opaque_origin_has_no_storage_history
    an_opaque_origin_has_no_storage_lines 0 reply.Done

-- Each bucket has its own root, no path leads from one into another, and only some texts name one.
abbrev pub buckets_are_apart_history : List Entry
buckets_are_apart_history =
    by_one 1 (op.GetDirectory default_bucket) reply.Done
    ∷ by_one 2 (op.GetDirectory (codes "drafts")) reply.Done
    ∷ by_one 3 (op.GetFileHandle (in_drafts kind.Directory []) (codes "n") true) reply.Done
    ∷ by_one 4 (op.Resolve root (in_drafts kind.File (codes "n" ∷ []))) reply.NoPath
    ∷ by_one 5 (op.GetDirectory (codes "-x")) (refused refusal.TypeError)
    ∷ by_one 6 (op.Persisted (codes "drafts")) (reply.Flag false)
    ∷ by_one 7 op.End reply.Done
    ∷ []

abbrev pub buckets_are_apart_lines : List Text
buckets_are_apart_lines =
    codes "1.1 getDirectory ok"
    ∷ codes "1.2 getDirectory ok"
    ∷ codes "1.3 getFileHandle ok"
    ∷ codes "1.4 resolve ok null"
    ∷ codes "1.5 getDirectory TypeError"
    ∷ codes "1.6 persisted ok false"
    ∷ codes "1.7 end ok"
    ∷ []

abbrev pub BucketsAreApart : Type 0
BucketsAreApart =
    IsExample (try_opening one_agent) buckets_are_apart_history
    buckets_are_apart_lines 3 (reply.Names (codes "n" ∷ []))
