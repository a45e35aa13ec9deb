-- A list of commands, one after another.
use Rattle.std.proofs.Common.{◌≡◌, ◌+◌, ◌*◌, ◌≤◌, List, [], ◌∷◌, ◌++◌, append-nil, append_assoc, length, sum_by, refl, sym, ap, subst, ◌∙◌, arith}
use Rattle.std.proofs.lemmas.List.Sums.{sum_by-cons}
use Rattle.opfs_base.specs.Texts.{Text}
use Rattle.opfs_kv.specs.Records.Maps.{Map}
use Rattle.opfs_sync_files.specs.Entries.{GoesOn}
use Rattle.opfs_sync_files.specs.Resting.{LeavesRest}
use Rattle.opfs_sync_files.proofs.Knowing.{goes-most, goes-none, goes-then}
use Rattle.opfs_sync_files.proofs.Resting.{rest-next, rest-none}
use Rattle.opfs_turns.specs.Agents.{AgentSeen}
use Rattle.opfs_kv.specs.Seen.{KvSeen, Stands, map_in, stored_in}
use Rattle.opfs_kv.specs.Commands.Runs.{AreReplies, AreRun, AreStoredBy, HasStored, IsReply, IsRun, after_op, entries_of, map_after, stores}
use Rattle.opfs_kv.specs.declared.commands.commands.KvOp.{KvOp}
use Rattle.opfs_kv.specs.declared.commands.commands.KvOp.TheVariants as op
use Rattle.opfs_kv.specs.declared.commands.commands.KvReply.{KvReply}
use Rattle.opfs_base.specs.Places.{place_of}
use Rattle.opfs_kv.specs.Keeping.{Spells}
use Rattle.opfs_kv.specs.Seen.{DoubtsSpell}
use Rattle.opfs_machine.specs.Changes.{changes}
use Rattle.opfs_machine.specs.Openings.{Opening}
use Rattle.opfs_sync_files.specs.Doubts.{DoubtsStore}
use Rattle.opfs_sync_files.specs.Files.{contents_at}
use Rattle.opfs_kv.proofs.commands.Doubted.{RunDoubts, doubted-more, doubted-none}
use Rattle.opfs_kv.proofs.commands.Stopping.{all-flushed}
use Rattle.opfs_kv.proofs.commands.Lists.{AreAsMany, many-more, map-more, replies-more, runs-more, stored-more}

pub sum-more : (ops : List KvOp) (o : KvOp) → sum_by entries_of (ops ++ o ∷ []) ≡ sum_by entries_of ops + entries_of o
sum-more [] o = omega (arith, sum_by-cons entries_of o [])
sum-more (p ∷ ops) o = omega (arith, sum_by-cons entries_of p (ops ++ o ∷ []), sum_by-cons entries_of p ops, sum-more ops o)

few-one : (o : KvOp) → entries_of o ≤ 4
few-one (op.Get key) = omega arith
few-one op.Compact = omega arith
few-one (op.Put key value) = omega arith
few-one (op.Delete key) = omega arith
few-one op.Flush = omega arith

pub sum-few : (ops : List KvOp) → sum_by entries_of ops ≤ 4 * length ops
sum-few [] = omega arith
sum-few (p ∷ ops) = omega (arith, sum_by-cons entries_of p ops, few-one p, sum-few ops)

pub record IsRunning {O : Type 0} (tells : Type 0) (before after : AgentSeen O) (old new : KvSeen) (ops : List KvOp) (replies : List KvReply) : Type 0 where
  pub stands : Stands tells after new
  pub row : new.handle.row ≡ old.handle.row
  pub file : new.handle.file ≡ old.handle.file
  pub many : AreAsMany ops replies
  pub goes : GoesOn before after (sum_by entries_of ops)
  pub others : LeavesRest tells before after old.handle.row
  pub told : tells → AreReplies (map_in before old) ops replies
  pub map : tells → map_in after new ≡ map_after (map_in before old) ops replies
  pub stored : HasStored tells before after old new ops replies
  pub runs : AreRun tells before old ops replies after new
  pub doubts : tells → RunDoubts (map_in before old) ops replies before.opening before.pass.base after.pass.base (place_of old.handle.file)

pub run-none : {O : Type 0} (tells : Type 0) (a : AgentSeen O) (x : KvSeen) → Stands tells a x → IsRunning tells a a x x [] []
run-none tells a x stands = record {
  stands = stands;
  row = refl;
  file = refl;
  many = tt;
  goes = goes-none a;
  others = rest-none tells a x.handle.row;
  told = λ tell. tt;
  map = λ tell. refl;
  stored = record { texts = []; stored = sym (append-nil (stored_in a x)); are = λ tell. refl };
  runs = (refl, refl);
  doubts = λ tell. doubted-none (map_in a x) a.opening a.pass.base (place_of x.handle.file);
}

pub run-more : {O : Type 0} (tells : Type 0) (a b c : AgentSeen O) (x y z : KvSeen) (ops : List KvOp) (rs : List KvReply) (o : KvOp) (r : KvReply) → IsRunning tells a b x y ops rs → IsRun tells b c y z o r
    → IsRunning tells a c x z (ops ++ o ∷ []) (rs ++ r ∷ [])
run-more tells a b c x y z ops rs o r h one = record {
  stands = one.stands;
  row = one.row ∙ h.row;
  file = one.file ∙ h.file;
  many = many-more ops rs o r h.many;
  goes = goes-most a c (sum_by entries_of ops + entries_of o) (sum_by entries_of (ops ++ o ∷ [])) (omega (arith, sum-more ops o)) (goes-then a b c (sum_by entries_of ops) (entries_of o) h.goes one.goes);
  others = rest-next tells a b c x.handle.row y.handle.row h.row h.others one.others;
  told = λ tell. replies-more (map_in a x) ops rs o r (h.told tell) (subst (λ (m : Map). IsReply m o r) (h.map tell) (one.told tell));
  map = λ tell. one.map tell ∙ ap (λ (m : Map). after_op m o r) (h.map tell) ∙ sym (map-more (map_in a x) ops rs o r h.many);
  stored = record {
    texts = h.stored.texts ++ one.texts;
    stored = one.stored ∙ ap (λ (ts : List Text). ts ++ one.texts) h.stored.stored ∙ append_assoc (stored_in a x) h.stored.texts one.texts;
    are = λ tell. stored-more (map_in a x) ops rs o r h.stored.texts one.texts h.many (h.stored.are tell)
        (subst (λ (m : Map). AreStoredBy (stores o r) (after_op m o r) one.texts (λ rest. rest ≡ [])) (h.map tell) (one.are tell));
  };
  runs = runs-more tells a b c x y z ops rs o r h.runs one;
  doubts = λ tell.
      doubted-more (map_in a x) ops rs o r h.many a.opening a.pass.base b.pass.base c.pass.base one.goes.newer (place_of x.handle.file) h.stored.texts one.goes.grown (h.doubts tell)
      (subst (λ l. DoubtsStore a.opening b.pass.base c.pass.base (place_of l) (λ (bytes : Text). Spells bytes (map_after (map_in a x) ops rs))) h.file
      (subst (λ (q : Opening). DoubtsStore q b.pass.base c.pass.base (place_of y.handle.file) (λ (bytes : Text). Spells bytes (map_after (map_in a x) ops rs))) h.goes.opening_is
      (subst (DoubtsSpell b c y) (h.map tell) (one.doubts tell))))
      ((λ i. contents_at (place_of (sym h.file i)) (changes (sym h.goes.opening_is i) b.pass.base)) ∙ h.stored.stored)
      (all-flushed (map_in a x) ops rs h.stored.texts (h.stored.are tell));
}
