-- A working copy still stands for its row behind a call that leaves the row.
use Rattle.std.proofs.Common.{◌≡◌, ◌≢◌, ℕ, ◌<◌, ◌≤◌, ◌&&◌, length, true, false, All, List, [], ◌∷◌, ◌++◌, append_assoc, map, fold, Option, Some, None, Err, refl, sym, ap, ◌∙◌, subst}
use Rattle.std.proofs.lemmas.Bool.{false≢true}
use Rattle.std.proofs.lemmas.List.Elements.{All-cons, All-map, All-nil}
use Rattle.std.proofs.lemmas.List.Sums.{fold-append}
use Rattle.opfs_base.specs.Texts.{Text, same_text}
use Rattle.opfs_hist.specs.declared.entry.Entry.{Entry}
use Rattle.opfs_hist.specs.declared.op.Op.{Op}
use Rattle.opfs_hist.specs.declared.op.Op.TheVariants as op
use Rattle.opfs_hist.specs.declared.reply.Reply.{Reply}
use Rattle.opfs_hist.specs.declared.reply.Reply.TheVariants as reply
use Rattle.opfs_turns.specs.Asking.Answers.{Shared}
use Rattle.opfs_turns.specs.declared.asking.stop.Stop.{Stop}
use Rattle.opfs_turns.specs.declared.asking.stop.Stop.TheVariants as stop
use Rattle.opfs_machine.specs.declared.own.Own.{Own}
use Rattle.opfs_machine.specs.declared.state.State.{State}
use Rattle.opfs_machine.specs.Agents.{agent_of, own_of, counted}
use Rattle.opfs_machine.specs.Effects.{refused}
use Rattle.opfs_machine.specs.Histories.{after_entry, state_after}
use Rattle.opfs_machine.specs.Openings.{Opening, begun}
use Rattle.opfs_machine.specs.Runs.{eviction}
use Rattle.opfs_machine.specs.Steps.{evicted, is_refusal}
use Rattle.opfs_laws.specs.Leaving.{asks_nobody}
use Rattle.opfs_laws.specs.Steady.Settling.{BytesStay}
use Rattle.opfs_laws.specs.Steady.Steady.{row_bytes, page_in, has_page, is_front, goes_on, is_steady, steady_by}
use Rattle.std.proofs.Math.Seq.{take-length}
use Rattle.std.specs.Cmp.Lexicographic.{nat_list_eq_equiv}
use Rattle.opfs_laws.proofs.steady.GoingOn.{steady-append, steady-has}
use Rattle.opfs_laws.proofs.steady.Leaving.{local-leave}
use Rattle.opfs_store.specs.Copies.Copies.{IsCopyOf, StandsFor}
use Rattle.opfs_store.proofs.copies.Copying.{stands-kept}
use Rattle.opfs_laws.specs.Histories.Unread.{IsTold}
use Rattle.opfs_store.specs.declared.acts.acted.Gift.{Gift}
use Rattle.opfs_store.specs.Acts.Acting.{told_entry, IsSameCopy}
use Rattle.opfs_turns.specs.Agents.{AgentSeen, IsAgent, known, state_of}
use Rattle.opfs_turns.specs.Calls.{call_of, before_call, IsEntered, HasLooked, IsLocal, IsKept, kept_entry}
use Rattle.opfs_turns.proofs.Keeping.{after-step}
use Rattle.opfs_machine.specs.Steps.{step}
use Rattle.opfs_turns.proofs.Others.{told-stay-before}
use Rattle.opfs_turns.proofs.Standing.{stands-there}
use Rattle.opfs_work.specs.Pages.{page_at, is_held}
use Rattle.opfs_work.specs.Works.{WorkingCopy, IsStored}
use Rattle.opfs_turns.proofs.asking.Entered.{t, list, known-is, opening-is, agent-is, refused-state, row-there}

stay-append : (s : State Text Own) (k n : ℕ) (xs ys : List Entry) → BytesStay s k n xs → BytesStay (fold after_entry s xs) k n ys → BytesStay s k n (xs ++ ys)
stay-append s k n [] ys first then = then
stay-append s k n (e ∷ xs) ys first then = (first.0, stay-append (after_entry s e) k n xs ys first.1 then)

bytes-kept : (s : State Text Own) (k n : ℕ) (es : List Entry) → BytesStay s k n es → row_bytes (fold after_entry s es) k n ≡ row_bytes s k n
bytes-kept s k n [] stay = refl
bytes-kept s k n (e ∷ es) stay = bytes-kept (after_entry s e) k n es stay.1 ∙ stay.0

evictions-fold : (s : State Text Own) (gone : List Text) → fold after_entry s (map eviction gone) ≡ fold evicted s gone
evictions-fold s [] = refl
evictions-fold s (unit ∷ gone) = evictions-fold (evicted s unit) gone

evictions-apart : (k : ℕ) → k ≢ 0 → (gone : List Text) → All (λ e. e.agent ≢ k) (map eviction gone)
evictions-apart k real gone = All-map (λ e. e.agent ≢ k) eviction gone (all gone)
  where
    all : (gone : List Text) → All (λ unit. (eviction unit).agent ≢ k) gone
    all [] = All-nil (λ unit. (eviction unit).agent ≢ k)
    all (unit ∷ gone) = All-cons (λ u. (eviction u).agent ≢ k) unit gone (λ is. real (sym is)) (all gone)

-- Nothing was entered.
pub looked-stands : {O : Type 0} (tells : Type 0) (before after : AgentSeen O) (n : ℕ) (work : WorkingCopy) → IsAgent tells before → IsAgent tells after → HasLooked before after
    → StandsFor tells before.opening (known before) before.pass.agent n work → StandsFor tells after.opening (known after) after.pass.agent n work
looked-stands {O} tells before after n work kept then looked stands =
    let told : IsTold tells before.opening (before.pass.base ++ looked.others) =
    subst (λ (a : AgentSeen O). IsTold tells a.opening (before.pass.base ++ looked.others)) looked.rest (subst (IsTold tells after.opening) looked.grown then.legal) in
    subst (λ (a : AgentSeen O). StandsFor tells a.opening (known a) a.pass.agent n work) (sym looked.rest)
    (subst (λ base. StandsFor tells before.opening (base ++ before.pending) before.pass.agent n work) (sym looked.grown)
    (stands-there tells before.opening before.pass.base looked.others before.pass.agent told looked.apart before.pending kept.local n work stands))

-- A call was entered.
module _ {O : Type 0} (tells : Type 0) (before after : AgentSeen O) (kept : IsAgent tells before) (then : IsAgent tells after) (called : Op) (answered : Reply) (given : Gift)
    (e : IsEntered tells before after called answered given) (n : ℕ) (work : WorkingCopy) (stands : StandsFor tells before.opening (known before) before.pass.agent n work) where
  abbrev k : ℕ
  k = before.pass.agent

  abbrev turn : List Entry
  turn = before_call before e.others

  abbrev u : State Text Own
  u = state_after before.opening turn

  abbrev cleared : State Text Own
  cleared = t tells before after kept called answered given e

  abbrev whole : List Entry
  whole = list tells before after kept called answered given e

  in-turn : StandsFor tells before.opening turn k n work
  in-turn = stands-there tells before.opening before.pass.base e.others k e.legal e.apart before.pending kept.local n work stands

  whole-is : whole ≡ (turn ++ map eviction e.gone) ++ told_entry (call_of before called) answered ∷ []
  whole-is =
      sym (append_assoc (before.pass.base ++ e.others) before.pending (map eviction e.gone ++ told_entry (call_of before called) answered ∷ []))
      ∙ sym (append_assoc turn (map eviction e.gone) (told_entry (call_of before called) answered ∷ []))

  told-whole : IsTold tells before.opening ((turn ++ map eviction e.gone) ++ told_entry (call_of before called) answered ∷ [])
  told-whole =
      subst (IsTold tells before.opening) (e.grown ∙ whole-is) (subst (λ (a : AgentSeen O). IsTold tells a.opening after.pass.base) e.rest then.legal)

  evictions-stay : BytesStay u k n (map eviction e.gone)
  evictions-stay =
      told-stay-before tells before.opening turn (map eviction e.gone) (told_entry (call_of before called) answered ∷ []) k told-whole (evictions-apart k kept.real e.gone) n

  after-evictions : fold after_entry u (map eviction e.gone) ≡ cleared
  after-evictions = evictions-fold u e.gone

  state-whole : state_after before.opening whole ≡ after_entry cleared (told_entry (call_of before called) answered)
  state-whole =
      ap (state_after before.opening) whole-is
      ∙ fold-append after_entry (begun before.opening) (turn ++ map eviction e.gone) (told_entry (call_of before called) answered ∷ [])
      ∙ ap (λ x. after_entry x (told_entry (call_of before called) answered)) (fold-append after_entry (begun before.opening) turn (map eviction e.gone) ∙ after-evictions)

  -- It left the row and its bytes.
  pub entered-stands : own_of (agent_of (state_after before.opening whole) k) n ≡ own_of (agent_of cleared k) n
      → row_bytes (state_after before.opening whole) k n ≡ row_bytes cleared k n → StandsFor tells before.opening whole k n work
  entered-stands same bytes =
      let last : BytesStay (fold after_entry u (map eviction e.gone)) k n (told_entry (call_of before called) answered ∷ []) =
      subst (λ x. BytesStay x k n (told_entry (call_of before called) answered ∷ [])) (sym after-evictions)
      (ap (λ x. row_bytes x k n) (sym state-whole) ∙ bytes, tt)
      in
      let stay = stay-append u k n (map eviction e.gone) (told_entry (call_of before called) answered ∷ []) evictions-stay last in
      let joined : turn ++ (map eviction e.gone ++ told_entry (call_of before called) answered ∷ []) ≡ whole =
      append_assoc (before.pass.base ++ e.others) before.pending (map eviction e.gone ++ told_entry (call_of before called) answered ∷ []) in
      let row : own_of (agent_of (state_after before.opening whole) k) n ≡ own_of (agent_of u k) n =
      same ∙ row-there tells before after kept called answered given e n ∙ sym (ap (λ x. own_of x.0 n) e.own) in
      subst (λ es. StandsFor tells before.opening es k n work) joined
      (stands-kept tells before.opening turn (map eviction e.gone ++ told_entry (call_of before called) answered ∷ []) k n work in-turn stay
      (ap (λ es. own_of (agent_of (state_after before.opening es) k) n) joined ∙ row))

  not-stuck : (o : Op) → asks_nobody o ≡ true → refused cleared k o ≡ cleared
  not-stuck (op.Await tag) h = absurd (false≢true h)
  not-stuck o h = refl

  -- It was refused.
  pub refused-stands : is_refusal answered ≡ true → asks_nobody called ≡ true → StandsFor tells before.opening whole k n work
  refused-stands is nobody =
      let state : state_after before.opening whole ≡ counted cleared k = refused-state tells before after kept called answered given e is ∙ ap (λ x. counted x k) (not-stuck called nobody) in
      entered-stands (ap (λ x. own_of (agent_of x k) n) state) (ap (λ x. row_bytes x k n) state)

-- What gives nothing leaves the copy standing.
pub stopped-stands : {O T : Type 0} (tells : Type 0) (before after : AgentSeen O) (called : Op) (Gives : T → Reply → Gift → Type 0) (why : Stop) (n : ℕ) (work : WorkingCopy) → IsAgent tells before → IsAgent tells after
    → asks_nobody called ≡ true → Shared tells before after called Gives (Err why) → StandsFor tells before.opening (known before) before.pass.agent n work
    → StandsFor tells after.opening (known after) after.pass.agent n work
stopped-stands tells before after called Gives (stop.No r) n work kept then nobody h stands =
    let here = refused-stands tells before after kept then called (reply.No r) h.given h.entered n work stands refl nobody in
    subst (λ o. StandsFor tells o (known after) after.pass.agent n work) (sym (opening-is tells before after kept called (reply.No r) h.given h.entered))
    (subst (λ k. StandsFor tells before.opening (known after) k n work) (sym (agent-is tells before after kept called (reply.No r) h.given h.entered))
    (subst (λ es. StandsFor tells before.opening es before.pass.agent n work) (sym (known-is tells before after kept called (reply.No r) h.given h.entered)) here))
stopped-stands tells before after called Gives stop.NoMemory n work kept then nobody h stands = looked-stands tells before after n work kept then h stands

-- Where a row's bytes stay, its pages go on.
front-itself : (a : Text) → is_front a a ≡ true
front-itself a = ap (same_text a) (take-length a) ∙ nat_list_eq_equiv.refl a

itself-goes : (x : Option Text) (i : ℕ) → has_page x i ≡ true → goes_on x x i ≡ true
itself-goes None i h = absurd (false≢true h)
itself-goes (Some bytes) i h = λ j. h j && front-itself (page_in bytes i) j

pub bytes-go : (old new : Option Text) (i : ℕ) → new ≡ old → has_page old i ≡ true → goes_on old new i ≡ true
bytes-go old new i same has = subst (λ x. goes_on old x i ≡ true) (sym same) (itself-goes old i has)

-- ---- local calls

-- A working copy with another room.
pub same-stands : (tells : Type 0) (o : Opening) (h : List Entry) (k n : ℕ) (old new : WorkingCopy) → IsSameCopy old new → StandsFor tells o h k n old → StandsFor tells o h k n new
same-stands tells o h k n old new same stands = subst (StandsFor tells o h k n) (sym same) (record {
  row = stands.row;
  there = stands.there;
  copy = record { bytes = stands.copy.bytes; open_row = stands.copy.open_row; size = stands.copy.size; same = stands.copy.same; position = stands.copy.position; reserve = stands.copy.reserve };
  held = stands.held;
})

module _ {O : Type 0} (tells : Type 0) (before after : AgentSeen O) (kept : IsAgent tells before) (called : Op) (answered : Reply) (made : ℕ)
    (local : IsLocal tells before called answered made) (is : IsKept before after called answered made) where
  abbrev e : Entry
  e = kept_entry before called answered

  known-more : known after ≡ known before ++ kept_entry before called answered ∷ []
  known-more = ap (λ (a : AgentSeen O). a.pass.base ++ a.pending) is ∙ sym (append_assoc before.pass.base before.pending (kept_entry before called answered ∷ []))

  state-more : state_after before.opening (known before ++ kept_entry before called answered ∷ []) ≡ (step (state_of before) before.pass.agent called).after
  state-more =
      fold-append after_entry (begun before.opening) (known before) (kept_entry before called answered ∷ [])
      ∙ after-step tells before kept called answered made local

  -- Its pages go on.
  pub goes-steady : (n i : ℕ) → is_steady before.opening (known before) before.pass.agent n i ≡ true
      → goes_on (row_bytes (state_of before) before.pass.agent n) (row_bytes (step (state_of before) before.pass.agent called).after before.pass.agent n) i ≡ true
      → is_steady before.opening (known before ++ kept_entry before called answered ∷ []) before.pass.agent n i ≡ true
  goes-steady n i was goes =
      steady-append (begun before.opening) false before.pass.agent n i (known before) (kept_entry before called answered ∷ [])
      ∙ ap (λ b. steady_by b (is_steady before.opening (known before) before.pass.agent n i) (row_bytes (state_of before) before.pass.agent n)
      (row_bytes (after_entry (state_of before) (kept_entry before called answered)) before.pass.agent n) i)
      (local-leave (state_of before) before.pass.agent n (kept_entry before called answered) refl)
      ∙ ap (λ u. is_steady before.opening (known before) before.pass.agent n i && goes_on (row_bytes (state_of before) before.pass.agent n) (row_bytes u before.pass.agent n) i)
      (after-step tells before kept called answered made local)
      ∙ (λ j. was j && goes j)

  -- A working copy that the call changed with its row.
  pub local-stands : (n : ℕ) (work : WorkingCopy) (row : Own) → own_of (agent_of (step (state_of before) before.pass.agent called).after before.pass.agent) n ≡ Some row
      → IsCopyOf tells (step (state_of before) before.pass.agent called).after row work
      → ((i : ℕ) → i < length work.pages → IsStored work i → (is_steady before.opening (known before) before.pass.agent n i ≡ true)
      × (goes_on (row_bytes (state_of before) before.pass.agent n) (row_bytes (step (state_of before) before.pass.agent called).after before.pass.agent n) i ≡ true))
      → StandsFor tells after.opening (known after) after.pass.agent n work
  local-stands n work row there copy held =
      let here : StandsFor tells before.opening (known before ++ kept_entry before called answered ∷ []) before.pass.agent n work = record {
        row = row;
        there = ap (λ u. own_of (agent_of u before.pass.agent) n) state-more ∙ there;
        copy = subst (λ u. IsCopyOf tells u row work) (sym state-more) copy;
        held = λ i within is. let both = held i within is in goes-steady n i both.0 both.1;
      } in
      let opening : after.opening ≡ before.opening = ap (λ (a : AgentSeen O). a.opening) is in
      let agent : after.pass.agent ≡ before.pass.agent = ap (λ (a : AgentSeen O). a.pass.agent) is in
      subst (λ o. StandsFor tells o (known after) after.pass.agent n work) (sym opening)
      (subst (λ k. StandsFor tells before.opening (known after) k n work) (sym agent)
      (subst (λ es. StandsFor tells before.opening es before.pass.agent n work) (sym known-more) here))

  -- The same of one whose bytes stay.
  pub local-same : (n : ℕ) (work new : WorkingCopy) (row : Own) → StandsFor tells before.opening (known before) before.pass.agent n work
      → own_of (agent_of (step (state_of before) before.pass.agent called).after before.pass.agent) n ≡ Some row → IsCopyOf tells (step (state_of before) before.pass.agent called).after row new
      → row_bytes (step (state_of before) before.pass.agent called).after before.pass.agent n ≡ row_bytes (state_of before) before.pass.agent n
      → new.pages ≡ work.pages → new.changed_from ≡ work.changed_from → new.changed_to ≡ work.changed_to → StandsFor tells after.opening (known after) after.pass.agent n new
  local-same n work new row stands there copy bytes pages from to = local-stands n new row there copy (λ i within held.
      let inside : i < length work.pages = subst (λ ps. i < length ps) pages within in
      let stored : IsStored work i = λ a b. ap (λ ps. is_held (page_at ps i)) (sym pages) ∙ held (subst (λ m. m ≤ i) (sym from) a) (subst (λ m. i < m) (sym to) b) in
      let steady = stands.held i inside stored in
      (steady, bytes-go _ _ i bytes (steady-has before.opening (known before) before.pass.agent n i steady)))
