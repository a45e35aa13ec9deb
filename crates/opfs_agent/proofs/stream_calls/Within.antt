-- Local calls on a stream.
use Rattle.std.proofs.Common.{◌≡◌, ℕ, ◌+◌, ◌-◌, ◌*◌, ◌/◌, ◌<◌, ◌≤◌, ◌&&◌, min, max, nat_lt, nat_le, true, length, take, drop, get_or, slice_index, unwrap_or, Option, Some, Ok, refl, sym, ap, ◌∙◌, subst, arith, inl, inr}
use Rattle.std.proofs.lemmas.Bool.{cases_lt}
use Rattle.std.proofs.lemmas.Bool.Decides.{nat_tests}
use Rattle.std.proofs.lemmas.Grind.{same_number_lists}
use Rattle.std.proofs.lemmas.List.{length-take, length-drop, get_or-take, get_or-drop}
use Rattle.std.specs.Cmp.Lexicographic.{nat_list_eq_equiv}
use Rattle.opfs_base.specs.Blocks.{blocks}
use Rattle.opfs_base.specs.Texts.{Text, same_text}
use Rattle.opfs_hist.specs.declared.op.Op.{Op}
use Rattle.opfs_hist.specs.declared.op.Op.TheVariants as op
use Rattle.opfs_hist.specs.declared.reply.Refusal.TheVariants as refusal
use Rattle.opfs_hist.specs.declared.reply.Reply.TheVariants as reply
use Rattle.opfs_machine.specs.declared.own.StreamOutline.{StreamOutline}
use Rattle.opfs_machine.specs.declared.own.StreamRow.{StreamRow}
use Rattle.opfs_machine.specs.declared.own.Own.{Own}
use Rattle.opfs_machine.specs.declared.own.Own.TheVariants as own
use Rattle.opfs_machine.specs.declared.state.Sizes.{Sizes}
use Rattle.opfs_machine.specs.declared.state.State.{State}
use Rattle.opfs_machine.specs.Agents.{agent_of, own_of, open_stream, of_row, stream_in}
use Rattle.opfs_machine.specs.Contents.{in_bytes, outline_of, written_row, truncated_row, sought_row}
use Rattle.opfs_machine.specs.Effects.{effect}
use Rattle.opfs_machine.specs.Histories.{may_enter, is_stream}
use Rattle.opfs_machine.specs.OwnRows.{is_local, fits_stream}
use Rattle.opfs_machine.specs.Replies.{answer, sizes_in, sizes_of}
use Rattle.opfs_machine.specs.Ruled.{◌>>=◌, some_or}
use Rattle.opfs_machine.specs.Rulings.{ruling, stream_ruling, grow_stream_ruling, start_of, size_written, reserve_for}
use Rattle.opfs_machine.specs.Steps.{step}
use Rattle.opfs_machine.specs.Sums.{no_need, keeps_blocks, reserve_of}
use Rattle.opfs_splice.specs.Splicing.{splice, resize}
use Rattle.opfs_laws.proofs.Numbers.{number-of}
use Rattle.opfs_store.specs.Copies.Copies.{IsCopyOf, IsPaged}
use Rattle.opfs_store.proofs.copies.Copying.{contents-own}
use Rattle.opfs_laws.specs.Steady.Steady.{goes_on, has_page, page_in, row_bytes, open_bytes}
use Rattle.opfs_laws.proofs.steady.GoingOn.{steady-has}
use Rattle.opfs_turns.specs.Agents.{AgentSeen, IsAgent, known, state_of}
use Rattle.opfs_turns.specs.Calls.{IsKept, IsLocal}
use Rattle.opfs_work.proofs.Laws.{length-splice, length-resize, splice_before, splice_behind, resize_at}
use Rattle.opfs_work.specs.Works.{WorkingCopy, contents, place_in, IsNearSize, IsNearWrite, IsStored, IsTouched}
use Rattle.opfs_turns.specs.Asking.Rows.{HasStream, StreamSeen}
use Rattle.opfs_turns.proofs.asking.Granted.{granted-answer, granted-after, plain-call}
use Rattle.opfs_turns.proofs.asking.Rowed.{kept-own}
use Rattle.opfs_turns.proofs.asking.RowsAfter.{own-changed}
use Rattle.opfs_turns.proofs.asking.Stands.{local-stands}
use Rattle.opfs_agent.proofs.stream_calls.Facts.{facts, row-is, has-row}

-- ---- pages that go on

less-test : (a b : ℕ) → a < b → nat_lt a b ≡ true
less-test a b h = grind (arith, nat_tests)

most-test : (a b : ℕ) → a ≤ b → nat_le a b ≡ true
most-test a b h = grind (arith, nat_tests)

page-length : (bytes : Text) (i : ℕ) → length (page_in bytes i) ≡ min 4096 (length bytes - 4096 * i)
page-length bytes i = length-take 4096 (drop (4096 * i) bytes) ∙ ap (min 4096) (length-drop (4096 * i) bytes)

page-byte : (bytes : Text) (i k : ℕ) → k < 4096 → get_or (page_in bytes i) k 0 ≡ get_or bytes (4096 * i + k) 0
page-byte bytes i k below = get_or-take 4096 (drop (4096 * i) bytes) k 0 below ∙ get_or-drop (4096 * i) bytes k 0

-- The new bytes of a page are a front of the old ones.
pub page-goes : (old new : Text) (i : ℕ) → 4096 * i < length new
    → ((k : ℕ) → k < 4096 → 4096 * i + k < length new → (4096 * i + k < length old) × (get_or new (4096 * i + k) 0 ≡ get_or old (4096 * i + k) 0))
    → goes_on (Some old) (Some new) i ≡ true
page-goes old new i there same =
    let a = page_in new i in
    let b = page_in old i in
    let a_long = page-length new i in
    let b_long = page-length old i in
    let last = (same (length a - 1) (omega (arith, a_long)) (omega (arith, a_long, there))).0 in
    let cut = length-take (length a) b in
    let front : take (length a) b ≡ a =
    same_number_lists (take (length a) b) a (omega (arith, cut, a_long, b_long, last, there))
    (λ k within.
    let below : k < length a = omega (arith, cut, within) in
    get_or-take (length a) b k 0 below
    ∙ page-byte old i k (omega (arith, below, a_long))
    ∙ sym (same k (omega (arith, below, a_long)) (omega (arith, below, a_long))).1
    ∙ sym (page-byte new i k (omega (arith, below, a_long))))
    in
    λ j. less-test (4096 * i) (length new) there j && (ap (same_text a) front ∙ nat_list_eq_equiv.refl a) j

-- A page that a write does not touch.
written-goes : (old given : Text) (at i : ℕ) → (IsTouched (length old) at (length given) i → ⊥) → 4096 * i < length (splice old at given) → goes_on (Some old) (Some (splice old at given)) i ≡ true
written-goes old given at i apart there =
    page-goes old (splice old at given) i there
    (λ k below inside.
    let whole = length-splice old at given in
    let place : ℕ = 4096 * i + k in
    elim (cases_lt place (length old)) [
      | inl within ↦ (
        within,
        elim (cases_lt place at) [
          | inl before ↦ splice_before old at given place before
          | inr past ↦ elim (cases_lt place (at + length given)) [
            | inl in_it ↦ absurd (apart (record { some = omega arith; begins = omega arith; ends = omega arith }))
            | inr behind ↦ splice_behind old at given place behind
          ]
        ],
      )
      | inr over ↦ absurd (apart (record { some = omega arith; begins = omega arith; ends = omega arith }))
    ])

resized-goes : (old : Text) (size i : ℕ) → (IsTouched (length old) size 0 i → ⊥) → 4096 * i < length (resize old size) → goes_on (Some old) (Some (resize old size)) i ≡ true
resized-goes old size i apart there =
    page-goes old (resize old size) i there
    (λ k below inside.
    let whole = length-resize old size in
    let place : ℕ = 4096 * i + k in
    elim (cases_lt place (length old)) [
      | inl within ↦ (within, resize_at old size place (omega arith))
      | inr over ↦ absurd (apart (record { some = omega arith; begins = omega arith; ends = omega arith }))
    ])

itself-goes : (old : Text) (i : ℕ) → 4096 * i < length old → goes_on (Some old) (Some old) i ≡ true
itself-goes old i there = page-goes old old i there (λ k below inside. (inside, refl))

inside-page : (n i : ℕ) → i < (n + 4095) / 4096 → 4096 * i < n
inside-page n i h = omega (arith, h)

-- ---- what they ask and answer

module _ {O : Type 0} (tells : Type 0) (a : AgentSeen O) (kept : IsAgent tells a) (x : StreamSeen) (has : HasStream tells a x) where
  abbrev s : State Text Own
  s = state_of a

  abbrev k : ℕ
  k = a.pass.agent

  abbrev w : StreamRow
  w = (facts tells a x has).w

  there : own_of (agent_of s k) x.row ≡ Some (own.Stream (facts tells a x has).w)
  there = row-is tells a x has

  sizes-are : sizes_in s (own_of (agent_of s k) x.row) ≡ record { size = length (facts tells a x has).w.buffer; position = (facts tells a x has).w.offset }
  sizes-are = ap (sizes_in s) there

  opened : open_stream in_bytes s k x.row ≡ Some (record { file = (facts tells a x has).w.file; reserve = (facts tells a x has).w.reserve })
  opened = ap (of_row (λ r. stream_in (outline_of r))) there

  -- What it asks for: nothing where its size fits.
  grow-ruled : (size : ℕ) → blocks size ≤ (facts tells a x has).w.reserve → grow_stream_ruling in_bytes s k x.row size ≡ Ok no_need
  unfolding grow_stream_ruling ◌>>=◌
  grow-ruled size fits =
      let none : reserve_for (facts tells a x has).w.reserve size - (facts tells a x has).w.reserve ≡ 0 = omega (arith, fits) in
      ap (λ (o : Option StreamOutline). some_or o refusal.TypeError >>= (λ v. Ok (keeps_blocks (reserve_for v.reserve size - v.reserve)))) opened
      ∙ ap (λ n. Ok (keeps_blocks n)) none

  -- ---- write

  module _ (bytes : Text) (position : Option ℕ) (near : IsNearWrite x.work (place_in x.work position) (length bytes)) where
    abbrev pub place : ℕ
    place = unwrap_or position (facts tells a x has).w.offset

    abbrev pub size : ℕ
    size = max (length (facts tells a x has).w.buffer) (place + length bytes)

    abbrev pub called : Op
    called = op.Write x.row bytes position

    place-is : place_in x.work position ≡ place
    place-is = ap (unwrap_or position) (facts tells a x has).position

    fits : blocks size ≤ (facts tells a x has).w.reserve
    fits =
        let same : max x.work.length (place_in x.work position + length bytes) ≡ size = λ i. max ((facts tells a x has).size i) (place-is i + length bytes) in
        omega (arith, near.fits, ap blocks same, (facts tells a x has).reserve)

    size-is : size_written (sizes_of s k called) position bytes ≡ size
    size-is = ap (λ (z : Sizes). size_written z position bytes) sizes-are

    write-ruled : ruling in_bytes s (sizes_of s k called) k called ≡ Ok no_need
    unfolding ruling
    write-ruled = ap (grow_stream_ruling in_bytes s k x.row) size-is ∙ grow-ruled size fits

    pub write-local : IsLocal tells a called reply.Done 0
    unfolding is_local may_enter answer
    write-local =
        plain-call tells a kept called (ap (λ r. fits_stream r (size_written (sizes_in s r) position bytes)) there ∙ most-test (blocks size) (facts tells a x has).w.reserve fits) (ap is_stream there) reply.Done refl
        (sym (granted-answer s k called write-ruled))

    abbrev pub written : StreamRow
    written = record (facts tells a x has).w { buffer = splice (facts tells a x has).w.buffer place bytes; offset = place + length bytes; reserve = reserve_for (facts tells a x has).w.reserve size }

    pub write-row : own_of (agent_of (step s k called).after k) x.row ≡ Some (own.Stream written)
    unfolding effect
    write-row =
        ap (λ u. own_of (agent_of u k) x.row) (granted-after s k called write-ruled)
        ∙ own-changed s k (number-of s k kept.live) x.row (own.Stream (facts tells a x has).w) there
        (λ r. written_row r (start_of (sizes_of s k called) position) bytes (reserve_for (reserve_of (outline_of r)) (size_written (sizes_of s k called) position bytes)))
        ∙ ap (λ (z : Sizes). Some (written_row (own.Stream (facts tells a x has).w) (start_of z position) bytes (reserve_for (facts tells a x has).w.reserve (size_written z position bytes)))) sizes-are

    -- The copy that the write leaves stands for the row.
    pub write-has : (after : AgentSeen O) (y : WorkingCopy) → IsKept a after called reply.Done 0 → IsPaged x.work → IsPaged y
        → ((far : ℕ → ℕ) → contents far y ≡ splice (contents far x.work) (place_in x.work position) bytes)
        → y.length ≡ max x.work.length (place_in x.work position + length bytes) → y.position ≡ place_in x.work position + length bytes → y.reserve ≡ x.work.reserve
        → ((i : ℕ) → IsStored y i → IsStored x.work i × (IsTouched x.work.length (place_in x.work position) (length bytes) i → ⊥))
        → HasStream tells after (record x { work = y })
    write-has after y is paged-old paged bytes_are length_is position_is reserve_is stored =
        let f = facts tells a x has in
        let v = written in
        let long = length-splice f.w.buffer place bytes in
        let size_eq : y.length ≡ length (splice f.w.buffer place bytes) = length_is ∙ (λ i. max (f.size i) (place-is i + length bytes)) ∙ sym long in
        let known_bytes : tells → contents (slice_index (splice f.w.buffer place bytes)) y ≡ splice f.w.buffer place bytes = λ tell.
        contents-own (slice_index f.w.buffer) y (splice f.w.buffer place bytes)
        (bytes_are (slice_index f.w.buffer) ∙ (λ i. splice (f.same tell i) (place-is i) bytes)) in
        let row-new : row_bytes (step s k called).after k x.row ≡ Some (splice f.w.buffer place bytes) = ap (open_bytes (step s k called).after) write-row in
        let row-old : row_bytes s k x.row ≡ Some f.w.buffer = ap (open_bytes s) there in
        let copy : IsCopyOf tells (step s k called).after (own.Stream written) y = record {
          bytes = splice f.w.buffer place bytes;
          open_row = refl;
          size = size_eq;
          same = known_bytes;
          position = position_is ∙ ap (λ n. n + length bytes) place-is;
          reserve = reserve_is ∙ f.reserve ∙ omega (arith, fits);
        } in
        let stands = local-stands tells a after kept called reply.Done 0 write-local is x.row y (own.Stream written) write-row copy (λ i within held.
        let both = stored i held in
        let apart : IsTouched (length f.w.buffer) place (length bytes) i → ⊥ = subst (λ n. IsTouched n place (length bytes) i → ⊥) f.size (subst (λ n. IsTouched x.work.length n (length bytes) i → ⊥) place-is both.1) in
        let new_page : i < (max (length f.w.buffer) (place + length bytes) + 4095) / 4096 = subst (λ n. i < n) (paged ∙ ap blocks (size_eq ∙ long)) within in
        let old_page : i < length x.work.pages = elim (cases_lt i (length x.work.pages)) [
          | inl inside ↦ inside
          | inr over ↦
              let beyond : (length f.w.buffer + 4095) / 4096 ≤ i = omega (arith, over, paged-old, ap blocks f.size) in
              absurd (apart (record { some = omega (arith, beyond, new_page); begins = omega (arith, beyond); ends = omega (arith, beyond, new_page) }))
        ] in
        (has.stands.held i old_page both.0, (λ j. goes_on (row-old j) (row-new j) i) ∙ written-goes f.w.buffer bytes place i apart (omega (arith, inside-page _ i new_page, long))))
        in
        has-row tells after x.row x.file y written stands (ap (λ b. own_of b x.row) (kept-own tells a after kept called reply.Done 0 write-local is) ∙ write-row) f.file_is

  -- ---- truncate

  module _ (size : ℕ) (near : IsNearSize x.work size) where
    abbrev pub cutting : Op
    cutting = op.Truncate x.row size

    cut-fits : blocks size ≤ (facts tells a x has).w.reserve
    cut-fits = omega (arith, near.fits, (facts tells a x has).reserve)

    cut-ruled : ruling in_bytes s (sizes_of s k cutting) k cutting ≡ Ok no_need
    unfolding ruling
    cut-ruled = grow-ruled size cut-fits

    pub cut-local : IsLocal tells a cutting reply.Done 0
    unfolding is_local may_enter answer
    cut-local =
        plain-call tells a kept cutting (ap (λ r. fits_stream r size) there ∙ most-test (blocks size) (facts tells a x has).w.reserve cut-fits) (ap is_stream there) reply.Done refl
        (sym (granted-answer s k cutting cut-ruled))

    abbrev cut : StreamRow
    cut = record (facts tells a x has).w { buffer = resize (facts tells a x has).w.buffer size; offset = min (facts tells a x has).w.offset size; reserve = reserve_for (facts tells a x has).w.reserve size }

    cut-row : own_of (agent_of (step s k cutting).after k) x.row ≡ Some (own.Stream cut)
    unfolding effect
    cut-row =
        ap (λ u. own_of (agent_of u k) x.row) (granted-after s k cutting cut-ruled)
        ∙ own-changed s k (number-of s k kept.live) x.row (own.Stream (facts tells a x has).w) there (λ r. truncated_row r size (reserve_for (reserve_of (outline_of r)) size))

    pub cut-has : (after : AgentSeen O) (y : WorkingCopy) → IsKept a after cutting reply.Done 0 → IsPaged x.work → IsPaged y → ((far : ℕ → ℕ) → contents far y ≡ resize (contents far x.work) size)
        → y.length ≡ size → y.position ≡ min x.work.position size → y.reserve ≡ x.work.reserve
        → ((i : ℕ) → i < blocks size → IsStored y i → IsStored x.work i × (IsTouched x.work.length size 0 i → ⊥))
        → HasStream tells after (record x { work = y })
    cut-has after y is paged-old paged bytes_are length_is position_is reserve_is stored =
        let f = facts tells a x has in
        let long = length-resize f.w.buffer size in
        let row-new : row_bytes (step s k cutting).after k x.row ≡ Some (resize f.w.buffer size) = ap (open_bytes (step s k cutting).after) cut-row in
        let row-old : row_bytes s k x.row ≡ Some f.w.buffer = ap (open_bytes s) there in
        let copy : IsCopyOf tells (step s k cutting).after (own.Stream cut) y = record {
          bytes = resize f.w.buffer size;
          open_row = refl;
          size = length_is ∙ sym long;
          same = λ tell. contents-own (slice_index f.w.buffer) y (resize f.w.buffer size) (bytes_are (slice_index f.w.buffer) ∙ ap (λ b. resize b size) (f.same tell));
          position = position_is ∙ ap (λ n. min n size) f.position;
          reserve = reserve_is ∙ f.reserve ∙ omega (arith, cut-fits);
        } in
        let stands = local-stands tells a after kept cutting reply.Done 0 cut-local is x.row y (own.Stream cut) cut-row copy (λ i within held.
        let new_page : i < (size + 4095) / 4096 = subst (λ n. i < n) (paged ∙ ap blocks length_is) within in
        let both = stored i new_page held in
        let apart : IsTouched (length f.w.buffer) size 0 i → ⊥ = subst (λ n. IsTouched n size 0 i → ⊥) f.size both.1 in
        let old_page : i < length x.work.pages = elim (cases_lt i (length x.work.pages)) [
          | inl inside ↦ inside
          | inr over ↦
              let beyond : (length f.w.buffer + 4095) / 4096 ≤ i = omega (arith, over, paged-old, ap blocks f.size) in
              absurd (apart (record { some = omega (arith, beyond, new_page); begins = omega (arith, beyond); ends = omega (arith, beyond, new_page) }))
        ] in
        (has.stands.held i old_page both.0, (λ j. goes_on (row-old j) (row-new j) i) ∙ resized-goes f.w.buffer size i apart (omega (arith, inside-page _ i new_page, long))))
        in
        has-row tells after x.row x.file y cut stands (ap (λ b. own_of b x.row) (kept-own tells a after kept cutting reply.Done 0 cut-local is) ∙ cut-row) f.file_is

  -- ---- seek

  module _ (position : ℕ) where
    abbrev pub seeking : Op
    seeking = op.Seek x.row position

    seek-ruled : ruling in_bytes s (sizes_of s k seeking) k seeking ≡ Ok no_need
    unfolding ruling stream_ruling ◌>>=◌
    seek-ruled = ap (λ (o : Option StreamOutline). some_or o refusal.TypeError >>= (λ v. Ok no_need)) opened

    pub seek-local : IsLocal tells a seeking reply.Done 0
    unfolding is_local may_enter answer
    seek-local = plain-call tells a kept seeking refl (ap is_stream there) reply.Done refl (sym (granted-answer s k seeking seek-ruled))

    abbrev sought : StreamRow
    sought = record (facts tells a x has).w { offset = position }

    seek-row : own_of (agent_of (step s k seeking).after k) x.row ≡ Some (own.Stream sought)
    unfolding effect
    seek-row =
        ap (λ u. own_of (agent_of u k) x.row) (granted-after s k seeking seek-ruled)
        ∙ own-changed s k (number-of s k kept.live) x.row (own.Stream (facts tells a x has).w) there (λ r. sought_row r position)

    pub seek-has : (after : AgentSeen O) (y : WorkingCopy) → IsKept a after seeking reply.Done 0 → y ≡ record x.work { position = position } → HasStream tells after (record x { work = y })
    seek-has after y is y_is =
        let f = facts tells a x has in
        let row-new : row_bytes (step s k seeking).after k x.row ≡ Some f.w.buffer = ap (open_bytes (step s k seeking).after) seek-row in
        let row-old : row_bytes s k x.row ≡ Some f.w.buffer = ap (open_bytes s) there in
        let moved : WorkingCopy = record x.work { position = position } in
        let copy : IsCopyOf tells (step s k seeking).after (own.Stream sought) moved = record {
          bytes = f.w.buffer;
          open_row = refl;
          size = f.size;
          same = f.same;
          position = refl;
          reserve = f.reserve;
        } in
        let stands = local-stands tells a after kept seeking reply.Done 0 seek-local is x.row moved (own.Stream sought) seek-row copy (λ i within held.
        let steady = has.stands.held i within held in
        (steady, (λ j. goes_on (row-old j) (row-new j) i) ∙ itself-goes f.w.buffer i (has-inside (length f.w.buffer) i (sym (ap (λ b. has_page b i) row-old) ∙ steady-has a.opening (known a) k x.row i steady))))
        in
        subst (λ z. HasStream tells after (record x { work = z })) (sym y_is)
        (has-row tells after x.row x.file moved sought stands (ap (λ b. own_of b x.row) (kept-own tells a after kept seeking reply.Done 0 seek-local is) ∙ seek-row) f.file_is)
      where
        has-inside : (n i : ℕ) → nat_lt (4096 * i) n ≡ true → 4096 * i < n
        has-inside n i h = grind (arith, nat_tests)
