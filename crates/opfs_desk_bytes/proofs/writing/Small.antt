-- A call that is asked for leaves a size that the pool has room for.
use Rattle.std.proofs.Common.{◌≡◌, ◌⊎◌, ℕ, ◌+◌, ◌^◌, ◌<◌, ◌≤◌, ◌||◌, nat_le, Bool, true, false, List, [], ◌∷◌, ◌++◌, fold, sum_by, refl, sym, ap, subst, ◌∙◌, inl, inr, arith}
use Rattle.opfs_base.specs.Texts.{Text}
use Rattle.opfs_books.specs.Laws.Books.{Fixed, IsToldAt}
use Rattle.opfs_books.proofs.laws.Told.{whole-told, told-whole}
use Rattle.opfs_state_rows.specs.Changes.Allowed.{MayApply}
use Rattle.opfs_hist.specs.declared.entry.Entry.{Entry}
use Rattle.opfs_laws.specs.Histories.Unread.{IsTold, ReadsLeaveTheState}
use Rattle.opfs_laws.proofs.histories.Reading.{pending-told, told-more, unread-state}
use Rattle.opfs_laws.specs.Counting.{AStateCountsItsHistory}
use Rattle.opfs_laws.specs.GoingOn.{ArePending, LegalHistoriesGoOn}
use Rattle.opfs_laws.specs.Lengths.Bridge.{LengthsDecideEachRuling}
use Rattle.opfs_laws.specs.Lengths.Outlines.{in_lengths_of}
use Rattle.opfs_machine.specs.declared.own.Own.{Own}
use Rattle.opfs_machine.specs.declared.state.Sizes.{Sizes}
use Rattle.opfs_machine.specs.declared.state.State.{State}
use Rattle.opfs_machine.specs.Contents.{in_lengths}
use Rattle.opfs_machine.specs.Histories.{state_after}
use Rattle.opfs_machine.specs.Openings.{Opening}
use Rattle.opfs_machine.specs.Steps.{evicted}
use Rattle.opfs_machine.specs.Sums.{all_own, pool, reserve_of}
use Rattle.opfs_outside.specs.declared.disk.Disk.{Ghosts as DiskWords}
use Rattle.opfs_records.specs.Replay.Built.{Built}
use Rattle.opfs_space.specs.Room.{Machine, HasRoom}
use Rattle.opfs_space.proofs.Others.{others_fewer}
use Rattle.opfs_state.specs.Laws.Room.{EvictionsMakeRoom, HasRoom as HasRoomAfter}
use Rattle.opfs_work.specs.Works.{WorkingCopy}
use Rattle.opfs_desk_steps.specs.Parts.Acted.{IsUnacted}
use Rattle.opfs_desk_steps.specs.Parts.Asked.{IsAsked}
use Rattle.opfs_desk_steps.specs.Parts.Held.{AreHeldWhole}
use Rattle.opfs_desk_steps.specs.Parts.Seen.{units_in}
use Rattle.opfs_desk_steps.specs.declared.parts.call.ReadyCall.{ReadyCall}
use Rattle.opfs_desk_steps.specs.declared.parts.parts.Ledger.{Ledger}
use Rattle.opfs_desk_steps.specs.declared.parts.parts.OpenPages.{OpenPages}
use Rattle.opfs_desk_steps.specs.declared.parts.parts.DeskParts.{DeskParts}
use Rattle.opfs_desk_steps.specs.RowLaws.Inside.{PartsLieInside}
use Rattle.opfs_desk_steps.specs.RowLaws.Puts.{HasRoomForRow, PutsHaveRoom, puts_row, size_put}
use Rattle.opfs_desk_steps.proofs.book_steps.Ways.{reads-here}
use Rattle.opfs_desk_steps.proofs.book_steps.Real.{real, real-legal, real-state, has-room}

one-of : (a b : Bool) → (a || b) ≡ true → (a ≡ true) ⊎ (b ≡ true)
one-of true b is = inl refl
one-of false b is = inr is

-- What is kept for a row is within the pool.
reserve-below : (m : Machine) (agent row reserve need : ℕ) → HasRoom m agent row reserve need → reserve ≤ m.limits.blocks
reserve-below m agent row reserve need room =
    let own : reserve_of room.own ≤ sum_by reserve_of (all_own m) = let all = others_fewer [] m.agents agent row room.own room.there in omega (arith, all) in
    let pooled : reserve_of room.own ≤ pool in_lengths m = omega (arith, own) in
    let needed = room.needed in
    let within = room.within in
    elim (one-of (nat_le need 0) (nat_le (pool in_lengths m + need) m.limits.blocks) room.fits) [
      | inl none ↦ let zero : need ≤ 0 = grind (arith, none) in omega (arith, zero, pooled, needed, within)
      | inr fits ↦ let below : pool in_lengths m + need ≤ m.limits.blocks = grind (arith, fits) in omega (arith, below, pooled, needed)
    ]

limits-stay : (units : List Text) (s : State Text Own) → (fold evicted s units).limits ≡ s.limits
limits-stay [] s = refl
limits-stay (u ∷ us) s = limits-stay us (evicted s u)

limits-now : (reads : ReadsLeaveTheState) → AStateCountsItsHistory → (tells : Type 0) (o : Opening) (h : List Entry) → IsToldAt tells o h (state_after o h) [] → (state_after o h).limits ≡ o.limits
limits-now reads counts tells o h t = ap (λ (s : State Text Own). s.limits) (real-state tells o h reads t) ∙ counts.limits o (real tells o h reads t) (real-legal tells o h reads t)

module _ {D : Type 0} (w : DiskWords D) (reads : ReadsLeaveTheState) (counts : AStateCountsItsHistory) (goes : LegalHistoriesGoOn) (make : EvictionsMakeRoom) (decide : LengthsDecideEachRuling) (room : PutsHaveRoom) (inside : PartsLieInside w)
    (f : Fixed D) (recorded : Built) (l : Ledger D) (p : OpenPages) (calls : List Entry) (c : ReadyCall) (work : WorkingCopy) (past : List Text)
    (held : AreHeldWhole w f recorded l p) (asked : IsAsked w.tells f.opening l.books.history calls l.books.state c work past) (puts : puts_row c.op ≡ true) where
  abbrev h : List Entry
  h = l.books.history ++ calls

  abbrev s : State Text Own
  s = state_after f.opening h

  abbrev units : List Text
  units = units_in c.clearing.items

  before : IsTold w.tells f.opening l.books.history
  before = told-whole w.tells f.opening l.books.history (state_after f.opening l.books.history) held.books.told

  told-then : IsTold w.tells f.opening h
  told-then =
      let waiting = pending-told w.tells (state_after f.opening l.books.history) c.agent calls asked.may.pending in
      let pends = subst (λ (t : State Text Own). ArePending t c.agent waiting.real) (unread-state f.opening l.books.history before.real before.alike) waiting.pending in
      told-more w.tells f.opening l.books.history calls waiting.real before (goes.pending f.opening before.real waiting.real c.agent before.legal pends) waiting.alike waiting.told

  at : IsToldAt w.tells f.opening h s []
  at = whole-told w.tells f.opening h told-then

  its : HasRoomAfter s c.agent c.op units
  its = has-room w.tells f.opening h reads at counts held.tied.keys c.agent c.op asked.may.fitting make decide held.books.whole units asked.judged

  abbrev m : Machine
  m = in_lengths_of (fold evicted s units)

  has : HasRoomForRow m c.sizes c.agent c.op
  has = room m c.sizes c.agent c.op its.kept (subst (λ (z : Sizes). MayApply m z c.agent c.op) (sym asked.sizes) its.may) puts

  limits : m.limits.blocks ≡ l.books.state.store.machine.limits.blocks
  limits =
      ap (λ x. x.blocks)
      (limits-stay units s ∙ limits-now reads counts w.tells f.opening h at
      ∙ sym (limits-now reads counts w.tells f.opening l.books.history held.books.told)
      ∙ sym (ap (λ (x : Machine). x.limits) held.books.machine))

  pub small : size_put c.sizes c.op < 2 ^ 63
  small =
      let below = reserve-below m c.agent _ has.reserve has.need has.room in
      let within = has.within in
      let few = (inside f recorded l p held).few in
      let size = held.laid.spaced.size in
      omega (arith, below, within, few, size, limits)

-- Where nothing was done, the parts are kept as they were.
pub unacted : {D : Type 0} (w : DiskWords D) (f : Fixed D) (recorded : Built) (p : DeskParts D) → AreHeldWhole w f recorded p.ledger p.pages → IsUnacted w f p p
unacted w f recorded p held = record {
  recorded = recorded;
  are = held;
  entries = refl;
  reads = reads-here w p.ledger.journal;
}
