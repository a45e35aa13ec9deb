-- Calls of an agent by the names of what came before.
use Rattle.std.proofs.Common.{◌≡◌, ℕ, true, false, length, map, take, Some, ap, sym, ◌∙◌, inl, inr}
use Rattle.opfs_base.specs.Texts.{Text}
use Rattle.opfs_hist.specs.declared.op.Op.{Op}
use Rattle.opfs_hist.specs.declared.op.Op.TheVariants as op
use Rattle.opfs_kv.specs.Asked.{IsAppend, IsClose, IsCut, IsCutOr, IsEndCut, IsFlush, IsRepack, IsRewrite, IsTidyFlush}
use Rattle.opfs_kv.specs.Packing.{IsAnewFor}
use Rattle.opfs_kv.specs.Records.Indexes.{Places, read_out}
use Rattle.opfs_kv.specs.Records.Maps.{Map}
use Rattle.opfs_kv.specs.Records.Records.{log_of, put_of}
use Rattle.opfs_kv.specs.Seen.{IsTidiedNow, KvSeen}

-- A cut comes first, and another call later, with the same row and as many live bytes.
pub cut-first : (x : KvSeen) (Other : Op → Type 0) (o : Op) → IsCut x o → IsCutOr x Other o
cut-first x Other o h = inl h

-- A flush alone, and what is written anew before it.
module _ (x : KvSeen) (tells : Type 0) (m : Map) where
  pub flush-alone : (o : Op) → IsCutOr x (IsFlush x) o → IsCutOr x (IsTidyFlush tells x m) o
  flush-alone o (inl cut) = inl cut
  flush-alone o (inr is) = inr (inl is)

  pub repack-before : IsTidiedNow x → (o : Op) → IsCutOr x (IsRepack tells x m) o → IsCutOr x (IsTidyFlush tells x m) o
  repack-before now o (inl cut) = inl cut
  repack-before now o (inr is) = inr (inr (now, is))

module _ (x y : KvSeen) (row : y.handle.row ≡ x.handle.row) where
  pub append-later : (bytes : Text) → y.live ≡ x.live → (o : Op) → IsAppend y bytes o → IsCutOr x (IsAppend x bytes) o
  append-later bytes live o is = inr (is ∙ (λ i. op.SyncWrite (row i) bytes (Some (live i))))

  pub flush-later : (o : Op) → IsFlush y o → IsCutOr x (IsFlush x) o
  flush-later o is = inr (is ∙ ap op.SyncFlush row)

  -- A flush behind what left no tail.
  pub flush-behind : (tells : Type 0) (m : Map) → y.tail ≡ false → (o : Op) → IsCutOr y (IsFlush y) o → IsCutOr x (IsTidyFlush tells x m) o
  flush-behind tells m none o (inl cut) = absurd (not-both (sym cut.0 ∙ none))
    where
      not-both : true ≡ false → ⊥
      not-both e = cc
  flush-behind tells m none o (inr is) = inr (inl (is ∙ ap op.SyncFlush row))

  pub close-later : (o : Op) → IsClose y o → IsCutOr x (IsClose x) o
  close-later o is = inr (is ∙ ap op.SyncClose row)

  module _ (tells : Type 0) (m n : Map) (same : tells → n ≡ m) where
    pub rewrite-later : (o : Op) → IsRewrite tells y.handle.row n o → IsRewrite tells x.handle.row m o
    rewrite-later o h = (h.0, λ tell. h.1 tell ∙ ap (λ (k : Map). log_of (map put_of k)) (same tell), h.2 ∙ ap (λ r. op.SyncWrite r h.0 (Some 0)) row)

    end-later : (o : Op) → IsEndCut tells y.handle.row n o → IsEndCut tells x.handle.row m o
    end-later o h = (h.0, λ tell. h.1 tell ∙ ap (λ (k : Map). length (log_of (map put_of k))) (same tell), h.2 ∙ ap (λ r. op.SyncTruncate r h.0) row)

    pub repack-later : y.live ≡ x.live → (o : Op) → IsRepack tells y n o → IsRepack tells x m o
    repack-later live o (inl read) = inl (read ∙ (λ i. op.SyncRead (row i) (live i) (Some 0)))
    repack-later live o (inr (inl write)) = inr (inl (rewrite-later o write))
    repack-later live o (inr (inr cut)) = inr (inr (end-later o cut))

-- What is written anew is the map's records by key.
pub anew-asked : (tells : Type 0) (bytes : Text) (index : Places) (packed : Text) (len : ℕ) (made : Places) (row : ℕ) → IsAnewFor tells bytes index packed len made
    → (o : Op) → o ≡ op.SyncWrite row packed (Some 0) → IsRewrite tells row (read_out bytes index) o
anew-asked tells bytes index packed len made row x o is = (packed, λ tell. x.anew.are ∙ ap (λ (t : Text). log_of (map put_of (read_out t index))) (x.told tell), is)

-- The cut behind them is to their length.
pub end-asked : (tells : Type 0) (x y : KvSeen) (m : Map) (bytes : Text) → y.handle.row ≡ x.handle.row → length (take y.live bytes) ≡ y.live → (tells → take y.live bytes ≡ log_of (map put_of m)) → (o : Op) → IsCut y o → IsEndCut tells x.handle.row m o
end-asked tells x y m bytes row long front o h = (y.live, λ tell. sym long ∙ ap length (front tell), h.1 ∙ ap (λ r. op.SyncTruncate r y.live) row)
