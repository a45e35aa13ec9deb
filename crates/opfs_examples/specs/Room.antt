-- Examples of room: the quota, the area, and evictions.
use Rattle.std.specs.Prelude.{List, [], ◌∷◌, ◌++◌, Some, None, codes, replicate, true, false}
use Rattle.opfs_base.specs.Texts.{Text}
use Rattle.opfs_base.specs.Units.{default_bucket}
use Rattle.opfs_base.specs.declared.locator.Kind.{Kind}
use Rattle.opfs_base.specs.declared.locator.Kind.TheVariants as kind
use Rattle.opfs_base.specs.declared.locator.Locator.{Locator}
use Rattle.opfs_hist.specs.declared.entry.Entry.{Entry}
use Rattle.opfs_hist.specs.declared.op.Mode.TheVariants as mode
use Rattle.opfs_hist.specs.declared.op.Op.TheVariants as op
use Rattle.opfs_hist.specs.declared.reply.Refusal.TheVariants as refusal
use Rattle.opfs_hist.specs.declared.reply.Reply.TheVariants as reply
use Rattle.opfs_machine.specs.Histories.{Legal}
use Rattle.opfs_machine.specs.Openings.{Opening, Who, empty_map}
use Rattle.opfs_examples.specs.Trying.{IsExample, a_example, one_agent, file, root, the_file, by, by_one, evicting, refused, without_entry}

-- Sixteen blocks, an area of 16,384 bytes, and a quota of two blocks.
abbrev pub quota_of_two_blocks : Opening
quota_of_two_blocks = record {
  stored = empty_map;
  agents = one_agent;
  limits = record { area = 16384; blocks = 16; quota = 2 };
}

-- Sixteen blocks, an area of one block, and a quota of eight blocks.
abbrev pub area_of_one_block : Opening
area_of_one_block = record {
  stored = empty_map;
  agents = one_agent;
  limits = record { area = 4096; blocks = 16; quota = 8 };
}

abbrev pub b_example : Text
b_example = codes "https://b.example"

abbrev pub c_example : Text
c_example = codes "https://c.example"

-- Agents of three origins, of which the second has the grant, over four blocks.
abbrev pub three_origins : Opening
three_origins = record {
  stored = empty_map;
  agents =
      record { key = Some a_example; grant = false }
      ∷ record { key = Some b_example; grant = true }
      ∷ record { key = Some c_example; grant = false }
      ∷ [];
  limits = record { area = 16384; blocks = 4; quota = 4 };
}

abbrev pub root_of : Text → Locator
root_of key = record { key = key; path = []; kind = kind.Directory }

abbrev pub file_of : Text → Text → Locator
file_of key name = record { key = key; path = name ∷ []; kind = kind.File }

-- A write past the quota is refused, and the stream goes on as it was.
abbrev pub the_quota_refuses_a_write_history : List Entry
the_quota_refuses_a_write_history =
    by_one 1 (op.GetDirectory default_bucket) reply.Done
    ∷ by_one 2 (op.GetFileHandle root (codes "f") true) reply.Done
    ∷ by_one 3 (op.CreateWritable the_file false) reply.Done
    ∷ by_one 4 (op.Write 1 (replicate 8192 65) None) reply.Done
    ∷ by_one 5 (op.Write 1 (codes "x") None) (refused (refusal.QuotaExceededError 2 1 2))
    ∷ by_one 6 (op.Close 1) reply.Done
    ∷ by_one 7 (op.GetFile the_file) (reply.FileInfo 8192 0)
    ∷ by_one 8 op.Estimate (reply.Estimate 8192 8192)
    ∷ by_one 9 op.End reply.Done
    ∷ []

abbrev pub the_quota_refuses_a_write_lines : List Text
the_quota_refuses_a_write_lines =
    codes "1.1 getDirectory ok"
    ∷ codes "1.2 getFileHandle ok"
    ∷ codes "1.3 createWritable ok"
    ∷ codes "1.4 write ok"
    ∷ codes "1.5 write QuotaExceededError 2 1 2"
    ∷ codes "1.6 close ok"
    ∷ codes "1.7 getFile ok 8192 0"
    ∷ codes "1.8 estimate ok 8192 8192"
    ∷ codes "1.9 end ok"
    ∷ []

abbrev pub TheQuotaRefusesAWrite : Type 0
TheQuotaRefusesAWrite =
    IsExample quota_of_two_blocks the_quota_refuses_a_write_history
    the_quota_refuses_a_write_lines 4 reply.Done

-- What the stored map may take at most is kept below the area; a removal makes room again.
abbrev pub the_area_refuses_a_child_history : List Entry
the_area_refuses_a_child_history =
    by_one 1 (op.GetDirectory default_bucket) reply.Done
    ∷ by_one 2 (op.GetDirectoryHandle root (replicate 255 97) true) reply.Done
    ∷ by_one 3 (op.GetDirectoryHandle root (replicate 255 98) true) reply.Done
    ∷ by_one 4 (op.GetDirectoryHandle root (replicate 255 99) true) reply.Done
    ∷ by_one 5 (op.GetDirectoryHandle root (replicate 255 100) true) reply.Done
    ∷ by_one 6 (op.GetDirectoryHandle root (replicate 255 101) true) reply.Done
    ∷ by_one 7 (op.GetDirectoryHandle root (replicate 255 102) true) reply.Done
    ∷ by_one 8 (op.GetDirectoryHandle root (replicate 255 103) true) reply.Done
    ∷ by_one 9 (op.GetDirectoryHandle root (replicate 255 104) true) reply.Done
    ∷ by_one 10 (op.GetDirectoryHandle root (replicate 255 105) true) reply.Done
    ∷ by_one 11 (op.GetDirectoryHandle root (replicate 255 106) true) reply.Done
    ∷ by_one 12 (op.GetDirectoryHandle root (replicate 255 107) true) reply.Done
    ∷ by_one 13 (op.GetDirectoryHandle root (replicate 255 108) true) reply.Done
    ∷ by_one 14 (op.GetDirectoryHandle root (replicate 255 109) true) reply.Done
    ∷ by_one 15 (op.GetDirectoryHandle root (replicate 255 110) true) reply.Done
    ∷ by_one 16 (op.GetDirectoryHandle root (replicate 255 111) true) (refused (refusal.MetaFull 4018 285 4096))
    ∷ by_one 17 (op.RemoveEntry root (replicate 255 97) false) reply.Done
    ∷ by_one 18 (op.GetDirectoryHandle root (replicate 255 111) true) reply.Done
    ∷ by_one 19 op.End reply.Done
    ∷ []

abbrev pub the_area_refuses_a_child_lines : List Text
the_area_refuses_a_child_lines =
    codes "1.1 getDirectory ok"
    ∷ codes "1.2 getDirectoryHandle ok"
    ∷ codes "1.3 getDirectoryHandle ok"
    ∷ codes "1.4 getDirectoryHandle ok"
    ∷ codes "1.5 getDirectoryHandle ok"
    ∷ codes "1.6 getDirectoryHandle ok"
    ∷ codes "1.7 getDirectoryHandle ok"
    ∷ codes "1.8 getDirectoryHandle ok"
    ∷ codes "1.9 getDirectoryHandle ok"
    ∷ codes "1.10 getDirectoryHandle ok"
    ∷ codes "1.11 getDirectoryHandle ok"
    ∷ codes "1.12 getDirectoryHandle ok"
    ∷ codes "1.13 getDirectoryHandle ok"
    ∷ codes "1.14 getDirectoryHandle ok"
    ∷ codes "1.15 getDirectoryHandle ok"
    ∷ codes "1.16 getDirectoryHandle MetaFull 4018 285 4096"
    ∷ codes "1.17 removeEntry ok"
    ∷ codes "1.18 getDirectoryHandle ok"
    ∷ codes "1.19 end ok"
    ∷ []

abbrev pub TheAreaRefusesAChild : Type 0
TheAreaRefusesAChild =
    IsExample area_of_one_block the_area_refuses_a_child_history
    the_area_refuses_a_child_lines 15 reply.Done

-- The pool is full, so the bucket that was used longest ago goes: not a persistent one, and not the asking one.
abbrev pub an_eviction_makes_room_history : List Entry
an_eviction_makes_room_history =
    by 1 1 (op.GetDirectory default_bucket) reply.Done
    ∷ by 1 2 (op.GetFileHandle root (codes "x") true) reply.Done
    ∷ by 1 3 (op.CreateWritable (file (codes "x" ∷ [])) false) reply.Done
    ∷ by 1 4 (op.Write 1 (replicate 8192 65) None) reply.Done
    ∷ by 1 5 (op.Close 1) reply.Done
    ∷ by 2 1 (op.Persist default_bucket) (reply.Flag true)
    ∷ by 2 2 (op.GetDirectory default_bucket) reply.Done
    ∷ by 2 3 (op.GetFileHandle (root_of b_example) (codes "y") true) reply.Done
    ∷ by 2 4 (op.CreateWritable (file_of b_example (codes "y")) false) reply.Done
    ∷ by 2 5 (op.Write 1 (replicate 4096 65) None) reply.Done
    ∷ by 2 6 (op.Close 1) reply.Done
    ∷ by 3 1 (op.GetDirectory default_bucket) reply.Done
    ∷ by 3 2 (op.GetFileHandle (root_of c_example) (codes "z") true) reply.Done
    ∷ by 3 3 (op.CreateWritable (file_of c_example (codes "z")) false) reply.Done
    ∷ evicting (codes "https://a.example")
    ∷ by 3 4 (op.Write 1 (replicate 8192 65) None) reply.Done
    ∷ by 1 6 (op.GetFile (file (codes "x" ∷ []))) (refused refusal.NotFoundError)
    ∷ by 3 5 (op.Write 1 (replicate 8192 65) None) (refused (refusal.DataFull 3 2 4))
    ∷ []

abbrev pub an_eviction_makes_room_lines : List Text
an_eviction_makes_room_lines =
    codes "1.1 getDirectory ok"
    ∷ codes "1.2 getFileHandle ok"
    ∷ codes "1.3 createWritable ok"
    ∷ codes "1.4 write ok"
    ∷ codes "1.5 close ok"
    ∷ codes "2.1 persist ok true"
    ∷ codes "2.2 getDirectory ok"
    ∷ codes "2.3 getFileHandle ok"
    ∷ codes "2.4 createWritable ok"
    ∷ codes "2.5 write ok"
    ∷ codes "2.6 close ok"
    ∷ codes "3.1 getDirectory ok"
    ∷ codes "3.2 getFileHandle ok"
    ∷ codes "3.3 createWritable ok"
    ∷ codes "evict https://a.example"
    ∷ codes "3.4 write ok"
    ∷ codes "1.6 getFile NotFoundError"
    ∷ codes "3.5 write DataFull 3 2 4"
    ∷ []

abbrev pub AnEvictionMakesRoom : Type 0
AnEvictionMakesRoom =
    IsExample three_origins an_eviction_makes_room_history
    an_eviction_makes_room_lines 15 (refused (refusal.DataFull 3 2 4))

-- Without the entry of the eviction that history is not legal.
abbrev pub AnEvictionIsEntered : Type 0
AnEvictionIsEntered = Legal three_origins (without_entry 14 an_eviction_makes_room_history) → ⊥

-- One agent over two blocks, and agents of two origins over as many.
abbrev pub two_blocks_for : List Who → Opening
two_blocks_for whos = record {
  stored = empty_map;
  agents = whos;
  limits = record { area = 16384; blocks = 2; quota = 4 };
}

abbrev pub two_origins : List Who
two_origins = record { key = Some a_example; grant = false } ∷ record { key = Some b_example; grant = false } ∷ []

abbrev pub in_drafts : Kind → List Text → Locator
in_drafts k path = record { key = codes "https://a.example#drafts"; path = path; kind = k }

-- The buckets of the asking origin stay, also those that the call does not touch.
abbrev pub an_origin_is_not_evicted_for_itself_history : List Entry
an_origin_is_not_evicted_for_itself_history =
    by_one 1 (op.GetDirectory (codes "drafts")) reply.Done
    ∷ by_one 2 (op.GetFileHandle (in_drafts kind.Directory []) (codes "n") true) reply.Done
    ∷ by_one 3 (op.CreateWritable (in_drafts kind.File (codes "n" ∷ [])) false) reply.Done
    ∷ by_one 4 (op.Write 1 (replicate 8192 65) None) reply.Done
    ∷ by_one 5 (op.Close 1) reply.Done
    ∷ by_one 6 (op.GetDirectory default_bucket) reply.Done
    ∷ by_one 7 (op.GetFileHandle root (codes "f") true) reply.Done
    ∷ by_one 8 (op.CreateWritable the_file false) reply.Done
    ∷ by_one 9 (op.Write 2 (codes "x") None) (refused (refusal.DataFull 2 1 2))
    ∷ by_one 10 (op.Abort 2) reply.Done
    ∷ by_one 11 op.End reply.Done
    ∷ []

abbrev pub an_origin_is_not_evicted_for_itself_lines : List Text
an_origin_is_not_evicted_for_itself_lines =
    codes "1.1 getDirectory ok"
    ∷ codes "1.2 getFileHandle ok"
    ∷ codes "1.3 createWritable ok"
    ∷ codes "1.4 write ok"
    ∷ codes "1.5 close ok"
    ∷ codes "1.6 getDirectory ok"
    ∷ codes "1.7 getFileHandle ok"
    ∷ codes "1.8 createWritable ok"
    ∷ codes "1.9 write DataFull 2 1 2"
    ∷ codes "1.10 abort ok"
    ∷ codes "1.11 end ok"
    ∷ []

abbrev pub AnOriginIsNotEvictedForItself : Type 0
AnOriginIsNotEvictedForItself =
    IsExample (two_blocks_for one_agent) an_origin_is_not_evicted_for_itself_history
    an_origin_is_not_evicted_for_itself_lines 8 reply.Done

-- A bucket stays while a lock in it is taken.
abbrev pub a_bucket_in_use_is_not_evicted_history : List Entry
a_bucket_in_use_is_not_evicted_history =
    by 1 1 (op.GetDirectory default_bucket) reply.Done
    ∷ by 1 2 (op.GetFileHandle root (codes "f") true) reply.Done
    ∷ by 1 3 (op.CreateWritable the_file false) reply.Done
    ∷ by 1 4 (op.Write 1 (codes "x") None) reply.Done
    ∷ by 1 5 (op.Close 1) reply.Done
    ∷ by 1 6 (op.CreateSyncAccessHandle the_file mode.ReadWrite) reply.Done
    ∷ by 2 1 (op.GetDirectory default_bucket) reply.Done
    ∷ by 2 2 (op.GetFileHandle (root_of b_example) (codes "y") true) reply.Done
    ∷ by 2 3 (op.CreateWritable (file_of b_example (codes "y")) false) reply.Done
    ∷ by 2 4 (op.Write 1 (replicate 8192 65) None) (refused (refusal.DataFull 1 2 2))
    ∷ by 1 7 (op.SyncClose 2) reply.Done
    ∷ evicting a_example
    ∷ by 2 5 (op.Write 1 (replicate 8192 65) None) reply.Done
    ∷ []

abbrev pub a_bucket_in_use_is_not_evicted_lines : List Text
a_bucket_in_use_is_not_evicted_lines =
    codes "1.1 getDirectory ok"
    ∷ codes "1.2 getFileHandle ok"
    ∷ codes "1.3 createWritable ok"
    ∷ codes "1.4 write ok"
    ∷ codes "1.5 close ok"
    ∷ codes "1.6 createSyncAccessHandle ok"
    ∷ codes "2.1 getDirectory ok"
    ∷ codes "2.2 getFileHandle ok"
    ∷ codes "2.3 createWritable ok"
    ∷ codes "2.4 write DataFull 1 2 2"
    ∷ codes "1.7 syncClose ok"
    ∷ codes "evict https://a.example"
    ∷ codes "2.5 write ok"
    ∷ []

abbrev pub ABucketInUseIsNotEvicted : Type 0
ABucketInUseIsNotEvicted =
    IsExample (two_blocks_for two_origins) a_bucket_in_use_is_not_evicted_history
    a_bucket_in_use_is_not_evicted_lines 9 reply.Done

-- One agent over one block.
abbrev pub one_block : Opening
one_block = record {
  stored = empty_map;
  agents = one_agent;
  limits = record { area = 16384; blocks = 1; quota = 4 };
}

-- An access handle keeps blocks for the whole new length, also where it cuts the file.
abbrev pub a_cut_of_a_file_needs_room_for_what_it_leaves_history : List Entry
a_cut_of_a_file_needs_room_for_what_it_leaves_history =
    by_one 1 (op.GetDirectory default_bucket) reply.Done
    ∷ by_one 2 (op.GetFileHandle root (codes "f") true) reply.Done
    ∷ by_one 3 (op.CreateWritable the_file false) reply.Done
    ∷ by_one 4 (op.Write 1 (codes "xy") None) reply.Done
    ∷ by_one 5 (op.Close 1) reply.Done
    ∷ by_one 6 (op.CreateSyncAccessHandle the_file mode.ReadWrite) reply.Done
    ∷ by_one 7 (op.SyncTruncate 2 1) (refused (refusal.DataFull 1 1 1))
    ∷ by_one 8 (op.SyncTruncate 2 0) reply.Done
    ∷ by_one 9 (op.SyncGetSize 2) (reply.Length 0)
    ∷ by_one 10 (op.Discard 2) reply.Done
    ∷ by_one 11 (op.GetFile the_file) (reply.FileInfo 2 0)
    ∷ by_one 12 op.End reply.Done
    ∷ []

abbrev pub a_cut_of_a_file_needs_room_for_what_it_leaves_lines : List Text
a_cut_of_a_file_needs_room_for_what_it_leaves_lines =
    codes "1.1 getDirectory ok"
    ∷ codes "1.2 getFileHandle ok"
    ∷ codes "1.3 createWritable ok"
    ∷ codes "1.4 write ok"
    ∷ codes "1.5 close ok"
    ∷ codes "1.6 createSyncAccessHandle ok"
    ∷ codes "1.7 syncTruncate DataFull 1 1 1"
    ∷ codes "1.8 syncTruncate ok"
    ∷ codes "1.9 syncGetSize ok 0"
    ∷ codes "1.10 discard ok"
    ∷ codes "1.11 getFile ok 2 0"
    ∷ codes "1.12 end ok"
    ∷ []

abbrev pub ACutOfAFileNeedsRoomForWhatItLeaves : Type 0
ACutOfAFileNeedsRoomForWhatItLeaves =
    IsExample one_block a_cut_of_a_file_needs_room_for_what_it_leaves_history
    a_cut_of_a_file_needs_room_for_what_it_leaves_lines 6 reply.Done

abbrev pub three_whos : List Who
three_whos = two_origins ++ record { key = Some c_example; grant = false } ∷ []

-- Of two buckets that may go, the one goes whose origin made no call for longer.
abbrev pub the_bucket_that_was_used_longest_ago_goes_history : List Entry
the_bucket_that_was_used_longest_ago_goes_history =
    by 1 1 (op.GetDirectory default_bucket) reply.Done
    ∷ by 1 2 (op.GetFileHandle root (codes "f") true) reply.Done
    ∷ by 1 3 (op.CreateWritable the_file false) reply.Done
    ∷ by 1 4 (op.Write 1 (codes "x") None) reply.Done
    ∷ by 1 5 (op.Close 1) reply.Done
    ∷ by 2 1 (op.GetDirectory default_bucket) reply.Done
    ∷ by 2 2 (op.GetFileHandle (root_of b_example) (codes "y") true) reply.Done
    ∷ by 2 3 (op.CreateWritable (file_of b_example (codes "y")) false) reply.Done
    ∷ by 2 4 (op.Write 1 (codes "x") None) reply.Done
    ∷ by 2 5 (op.Close 1) reply.Done
    ∷ by 1 6 (op.GetFile the_file) (reply.FileInfo 1 0)
    ∷ by 3 1 (op.GetDirectory default_bucket) reply.Done
    ∷ by 3 2 (op.GetFileHandle (root_of c_example) (codes "z") true) reply.Done
    ∷ by 3 3 (op.CreateWritable (file_of c_example (codes "z")) false) reply.Done
    ∷ evicting b_example
    ∷ by 3 4 (op.Write 1 (codes "x") None) reply.Done
    ∷ by 1 7 (op.GetFile the_file) (reply.FileInfo 1 0)
    ∷ by 2 6 (op.GetFile (file_of b_example (codes "y"))) (refused refusal.NotFoundError)
    ∷ []

abbrev pub the_bucket_that_was_used_longest_ago_goes_lines : List Text
the_bucket_that_was_used_longest_ago_goes_lines =
    codes "1.1 getDirectory ok"
    ∷ codes "1.2 getFileHandle ok"
    ∷ codes "1.3 createWritable ok"
    ∷ codes "1.4 write ok"
    ∷ codes "1.5 close ok"
    ∷ codes "2.1 getDirectory ok"
    ∷ codes "2.2 getFileHandle ok"
    ∷ codes "2.3 createWritable ok"
    ∷ codes "2.4 write ok"
    ∷ codes "2.5 close ok"
    ∷ codes "1.6 getFile ok 1 0"
    ∷ codes "3.1 getDirectory ok"
    ∷ codes "3.2 getFileHandle ok"
    ∷ codes "3.3 createWritable ok"
    ∷ codes "evict https://b.example"
    ∷ codes "3.4 write ok"
    ∷ codes "1.7 getFile ok 1 0"
    ∷ codes "2.6 getFile NotFoundError"
    ∷ []

abbrev pub TheBucketThatWasUsedLongestAgoGoes : Type 0
TheBucketThatWasUsedLongestAgoGoes =
    IsExample (two_blocks_for three_whos) the_bucket_that_was_used_longest_ago_goes_history
    the_bucket_that_was_used_longest_ago_goes_lines 16 (refused refusal.NotFoundError)
