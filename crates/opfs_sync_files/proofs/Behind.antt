-- The file of an access handle behind a shared call.
use Rattle.std.proofs.Common.{◌≡◌, ◌≢◌, ℕ, Bool, true, false, if◌then◌else◌, All, List, [], ◌∷◌, ◌++◌, append_assoc, append-nil, fold, map, option_map, Option, Some, None, refl, sym, ap, ◌∙◌, subst, inl, inr, arith}
use Rattle.std.proofs.lemmas.Bool.{false≢true}
use Rattle.std.proofs.lemmas.List.Elements.{All-cons, All-map, All-nil}
use Rattle.std.proofs.lemmas.List.Sums.{fold-append}
use Rattle.opfs_store.specs.declared.acts.acted.Gift.{Gift}
use Rattle.opfs_store.specs.Acts.Acting.{told_entry}
use Rattle.opfs_base.specs.Places.{Place, place_of}
use Rattle.opfs_base.specs.Texts.{Text}
use Rattle.opfs_turns.specs.Asking.Rows.{HandleSeen, HasHandle}
use Rattle.opfs_turns.proofs.asking.Entered.{s, t, list, known-is, opening-is, accepted-state, refused-state, row-there}
use Rattle.opfs_turns.proofs.asking.Rowed.{entered-moved}
use Rattle.opfs_turns.proofs.asking.RowsAfter.{some-same}
use Rattle.opfs_agent.proofs.handle_calls.Facts.{HandleFacts, facts, row-is}
use Rattle.opfs_hist.specs.Sums.{asks_for_row}
use Rattle.opfs_hist.specs.declared.entry.Entry.{Entry}
use Rattle.opfs_hist.specs.declared.op.Mode.{Mode}
use Rattle.opfs_hist.specs.declared.op.Mode.TheVariants as mode
use Rattle.opfs_hist.specs.declared.op.Op.{Op}
use Rattle.opfs_hist.specs.declared.op.Op.TheVariants as op
use Rattle.opfs_hist.specs.declared.reply.Reply.{Reply}
use Rattle.opfs_laws.specs.Histories.Opened.{added}
use Rattle.opfs_laws.specs.Histories.Unread.{IsTold}
use Rattle.opfs_laws.proofs.histories.Adding.{changes-append}
use Rattle.opfs_laws.proofs.histories.Reading.{unread-state}
use Rattle.opfs_laws.specs.Holders.{AreLocksOfHolders}
use Rattle.opfs_laws.specs.Leaving.{asks_nobody}
use Rattle.opfs_laws.proofs.LocksEffect.{locks-begun}
use Rattle.opfs_laws.proofs.Spots.{file-changed, place_itself}
use Rattle.opfs_laws.proofs.Storing.{locks-at}
use Rattle.opfs_laws.proofs.Wholes.{file-there}
use Rattle.opfs_machine.specs.declared.own.HandleRow.{HandleRow}
use Rattle.opfs_machine.specs.declared.own.Own.{Own}
use Rattle.opfs_machine.specs.declared.own.Own.TheVariants as own
use Rattle.opfs_machine.specs.declared.state.FileRow.{FileRow}
use Rattle.opfs_machine.specs.declared.state.Sizes.{Sizes}
use Rattle.opfs_machine.specs.declared.state.State.{State}
use Rattle.opfs_machine.specs.Agents.{agent_of, own_of, of_row, handle_in, open_handle, with_own}
use Rattle.opfs_machine.specs.Changes.{Change, file_stored, handle_stored, stored_by, entry_changes, changes_from, changes}
use Rattle.opfs_machine.specs.Contents.{in_bytes, outline_of, moved_row}
use Rattle.opfs_machine.specs.Effects.{changes_file, effect, flushed, flushes, moment_of, refused, with_changed, with_written}
use Rattle.opfs_machine.specs.Histories.{LegalFrom, after_entry, state_after}
use Rattle.opfs_machine.specs.Openings.{begun}
use Rattle.opfs_machine.specs.Replies.{bytes_at, bytes_in, sizes_of}
use Rattle.opfs_machine.specs.Rows.{file_at, with_file}
use Rattle.opfs_machine.specs.Rulings.{is_read_write, reserve_for, want_of}
use Rattle.opfs_machine.specs.Runs.{eviction}
use Rattle.opfs_machine.specs.Steps.{after_reply, evicted, is_refusal}
use Rattle.opfs_laws.specs.Steady.Settling.{BytesStay}
use Rattle.opfs_laws.specs.Steady.Steady.{open_bytes, row_bytes}
use Rattle.opfs_laws.proofs.steady.Others.{bytes-alike}
use Rattle.opfs_turns.specs.Agents.{AgentSeen, IsAgent, state_of}
use Rattle.opfs_turns.specs.Calls.{call_of, before_call, IsEntered}
use Rattle.opfs_turns.proofs.Others.{Splits, alike-split, pending-for, told-seen, told-stay-before}
use Rattle.opfs_sync_files.specs.Entries.{IsIn, HasEntry, GoesOn, TheCall}
use Rattle.opfs_sync_files.specs.Files.{contents_at, file_bytes, flushed_by, stored_of}
use Rattle.opfs_sync_files.proofs.Holding.{file_held, held, pending-held}
use Rattle.opfs_sync_files.proofs.Knowing.{in-left, in-right, in-either, in-last}
use Rattle.opfs_sync_files.proofs.Storing.{contents-append, evictions-store, pending-stores, told-none}

-- ---- evictions

bytes-kept : (u : State Text Own) (k n : ℕ) (es : List Entry) → BytesStay u k n es → row_bytes (fold after_entry u es) k n ≡ row_bytes u k n
bytes-kept u k n [] stay = refl
bytes-kept u k n (e ∷ es) stay = bytes-kept (after_entry u e) k n es stay.1 ∙ stay.0

evictions-fold : (u : State Text Own) (gone : List Text) → fold after_entry u (map eviction gone) ≡ fold evicted u gone
evictions-fold u [] = refl
evictions-fold u (unit ∷ gone) = evictions-fold (evicted u unit) gone

pub evictions-apart : (k : ℕ) → k ≢ 0 → (gone : List Text) → All (λ e. e.agent ≢ k) (map eviction gone)
evictions-apart k real gone = All-map (λ e. e.agent ≢ k) eviction gone (all gone)
  where
    all : (gone : List Text) → All (λ unit. (eviction unit).agent ≢ k) gone
    all [] = All-nil (λ unit. (eviction unit).agent ≢ k)
    all (unit ∷ gone) = All-cons (λ u. (eviction u).agent ≢ k) unit gone (λ is. real (sym is)) (all gone)

-- ---- what effects do to a file

-- A change of an own row leaves the files.
changed-file : (u : State Text Own) (k n : ℕ) (change : Own → Own) (p : Place) → file_at (with_changed u k n change) p ≡ file_at u p
unfolding with_changed
changed-file u k n change p =
    elim (own_of (agent_of u k) n) as (λ o. file_at (elim o as (λ x. State Text Own) [ Some r ↦ with_own u k n (change r) | None ↦ u ]) p ≡ file_at u p) [ Some r ↦ refl | None ↦ refl ]

-- A read leaves every file, whatever it is answered.
pub read-leaves : (u : State Text Own) (k n len : ℕ) (at : Option ℕ) (answered : Reply) (p : Place) → bytes_at (after_reply u k (op.SyncRead n len at) answered) p ≡ bytes_at u p
unfolding effect
read-leaves u k n len at answered p =
    elim (is_refusal answered) as (λ b. bytes_at (elim b as (λ x. State Text Own) [ true ↦ refused u k (op.SyncRead n len at) | false ↦ effect in_bytes u (sizes_of u k (op.SyncRead n len at)) k (op.SyncRead n len at) ]) p ≡ bytes_at u p) [
      | true ↦ refl
      | false ↦ ap bytes_in (changed-file u k n _ p)
    ]

pub size-leaves : (u : State Text Own) (k n : ℕ) (answered : Reply) (p : Place) → bytes_at (after_reply u k (op.SyncGetSize n) answered) p ≡ bytes_at u p
unfolding effect
size-leaves u k n answered p =
    elim (is_refusal answered) as (λ b. bytes_at (elim b as (λ x. State Text Own) [ true ↦ refused u k (op.SyncGetSize n) | false ↦ effect in_bytes u (sizes_of u k (op.SyncGetSize n)) k (op.SyncGetSize n) ]) p ≡ bytes_at u p) [
      | true ↦ refl
      | false ↦ refl
    ]

pub nobody-stuck : (u : State Text Own) (k : ℕ) (o : Op) → asks_nobody o ≡ true → refused u k o ≡ u
nobody-stuck u k (op.Await tag) h = absurd (false≢true h)
nobody-stuck u k o h = refl

module _ (u : State Text Own) (k n : ℕ) (h : HandleRow) (g : FileRow Text) (is : own_of (agent_of u k) n ≡ Some (own.Handle h)) (there : file_at u h.file ≡ Some g) where
  pub opened : open_handle in_bytes u k n ≡ Some (record { file = h.file; mode = h.mode; reserve = h.reserve })
  opened = ap (of_row (λ r. handle_in (outline_of r))) is

  pub altered-bytes : (change : Text → Text) (cursor size : ℕ) → bytes_at (changes_file in_bytes u k n change cursor size (open_handle in_bytes u k n)) h.file ≡ change (bytes_at u h.file)
  unfolding changes_file
  altered-bytes change cursor size =
      ap (λ o. bytes_at (changes_file in_bytes u k n change cursor size o) h.file) opened
      ∙ ap bytes_in (changed-file (with_file u h.file (λ f. record f { present = change f.present; stamp = moment_of u k })) k n (λ r. moved_row r cursor (reserve_for h.reserve size)) h.file)
      ∙ ap bytes_in (file-changed u h.file (λ f. record f { present = change f.present; stamp = moment_of u k }))
      ∙ ap (λ (o : Option (FileRow Text)). bytes_in (option_map {T = FileRow Text} (λ f. record f { present = change f.present; stamp = moment_of u k }) o)) there
      ∙ ap (λ (o : Option (FileRow Text)). change (bytes_in o)) (sym there)

  flushed-by : (m : Mode) → bytes_at (with_written u m h.file flushed) h.file ≡ bytes_at u h.file
  flushed-by mode.ReadWrite =
      ap bytes_in (file-changed u h.file flushed)
      ∙ ap (λ (o : Option (FileRow Text)). bytes_in (option_map flushed o)) there
      ∙ ap bytes_in (sym there)
  flushed-by mode.ReadOnly = refl

  pub flushed-bytes : (z : Sizes) → bytes_at (flushes in_bytes u z k n (open_handle in_bytes u k n)) h.file ≡ bytes_at u h.file
  flushed-bytes z =
      ap (λ o. bytes_at (flushes in_bytes u z k n o) h.file) opened
      ∙ ap bytes_in (changed-file (with_written u h.mode h.file flushed) k n (λ r. moved_row r z.position 0) h.file)
      ∙ flushed-by h.mode

  stored-mode : (m : Mode) → contents_at h.file (elim (is_read_write m) as (λ x. List Change) [ true ↦ file_stored h.file (file_at u h.file) | false ↦ [] ]) ≡ flushed_by m (bytes_at u h.file)
  stored-mode mode.ReadWrite =
      ap (λ (o : Option (FileRow Text)). contents_at h.file (file_stored h.file o)) there
      ∙ ap (λ (b : Bool). (if b then g.present ∷ [] else []) ++ []) (place_itself h.file)
      ∙ ap (λ (o : Option (FileRow Text)). bytes_in o ∷ []) (sym there)
  stored-mode mode.ReadOnly = refl

  pub handle-contents : contents_at h.file (handle_stored u (open_handle in_bytes u k n)) ≡ flushed_by h.mode (bytes_at u h.file)
  handle-contents = ap (λ o. contents_at h.file (handle_stored u o)) opened ∙ stored-mode h.mode

-- ---- a call that was entered

module _ {O : Type 0} (tells : Type 0) (before after : AgentSeen O) (kept : IsAgent tells before) (later : IsAgent tells after) (called : Op) (answered : Reply) (given : Gift)
    (e : IsEntered tells before after called answered given) where
  abbrev pub k : ℕ
  k = before.pass.agent

  abbrev pub u : State Text Own
  u = t tells before after kept called answered given e

  abbrev pub turn : List Entry
  turn = before_call before e.others

  abbrev pub last : Entry
  last = told_entry (call_of before called) answered

  abbrev whole : List Entry
  whole = list tells before after kept called answered given e

  pub state-is : state_of after ≡ state_after before.opening whole
  state-is = λ i. state_after (opening-is tells before after kept called answered given e i) (known-is tells before after kept called answered given e i)

  pub whole-is : whole ≡ (turn ++ map eviction e.gone) ++ last ∷ []
  whole-is =
      sym (append_assoc (before.pass.base ++ e.others) before.pending (map eviction e.gone ++ last ∷ []))
      ∙ sym (append_assoc turn (map eviction e.gone) (last ∷ []))

  pub told-whole : IsTold tells before.opening ((turn ++ map eviction e.gone) ++ last ∷ [])
  told-whole = subst (IsTold tells before.opening) (e.grown ∙ whole-is) (subst (λ (a : AgentSeen O). IsTold tells a.opening after.pass.base) e.rest later.legal)

  pub evicted-is : state_after before.opening (turn ++ map eviction e.gone) ≡ u
  evicted-is = fold-append after_entry (begun before.opening) turn (map eviction e.gone) ∙ evictions-fold (state_after before.opening turn) e.gone

  -- Each lock tells its holders there.
  pub locks-there : AreLocksOfHolders u
  locks-there =
      let x : Splits (turn ++ map eviction e.gone) (last ∷ []) told-whole.real = alike-split (turn ++ map eviction e.gone) (last ∷ []) told-whole.real told-whole.alike in
      subst AreLocksOfHolders (sym (unread-state before.opening (turn ++ map eviction e.gone) x.front x.first) ∙ evicted-is)
      (locks-at (begun before.opening) [] x.front x.rest (subst (λ es. LegalFrom (begun before.opening) [] es) x.whole told-whole.legal) (locks-begun before.opening))

  -- The row's bytes are as the agent knew them.
  pub bytes-there : (n : ℕ) → row_bytes u k n ≡ row_bytes (state_of before) k n
  bytes-there n =
      ap (λ x. row_bytes x k n) (sym (evictions-fold (s tells before after kept called answered given e) e.gone))
      ∙ bytes-kept (s tells before after kept called answered given e) k n (map eviction e.gone)
      (told-stay-before tells before.opening turn (map eviction e.gone) (last ∷ []) k told-whole (evictions-apart k kept.real e.gone) n)
      ∙ bytes-alike (s tells before after kept called answered given e) (state_of before) k n (ap (λ x. x.1) e.own)

  -- ---- what it adds

  pub entered-entry : HasEntry before after (TheCall called) answered
  entered-entry = record {
    entry = last;
    there = subst (IsIn last) (sym (known-is tells before after kept called answered given e ∙ whole-is)) (in-last last (turn ++ map eviction e.gone));
    mine = refl;
    added = omega arith;
    asked = refl;
    told = refl;
  }

  knows-in : (x : Entry) → IsIn x before.pass.base → IsIn x whole
  knows-in x h = in-left x (before.pass.base ++ e.others) (added before.pending e.gone last) (in-left x before.pass.base e.others h)

  knows-pending : (x : Entry) → IsIn x before.pending → IsIn x whole
  knows-pending x h = in-right x (before.pass.base ++ e.others) (added before.pending e.gone last) (in-left x before.pending (map eviction e.gone ++ last ∷ []) h)

  pub entered-goes : asks_for_row called ≡ false → GoesOn before after 1
  entered-goes none = record {
    hall = ap (λ (a : AgentSeen O). a.pass.hall) e.rest;
    agent = ap (λ (a : AgentSeen O). a.pass.agent) e.rest;
    opening_is = ap (λ (a : AgentSeen O). a.opening) e.rest;
    rows = elim (entered-moved tells before after kept called answered given e).more [
      | inl same ↦ later.made ∙ same ∙ sym kept.made
      | inr more ↦ absurd (false≢true (sym none ∙ more.1))
    ];
    entries = let is = ap (λ (a : AgentSeen O). a.entries) e.rest in omega (arith, is);
    number = let is = ap (λ (a : AgentSeen O). a.number) e.rest in omega (arith, is);
    knows = λ x h. subst (IsIn x) (sym (known-is tells before after kept called answered given e))
        (elim (in-either x before.pass.base before.pending h) [ inl a ↦ knows-in x a | inr b ↦ knows-pending x b ]);
    newer = e.others ++ added before.pending e.gone last;
    grown = e.grown ∙ append_assoc before.pass.base e.others (added before.pending e.gone last);
  }

  -- ---- the file of an open access handle

  module _ (x : HandleSeen) (has : HasHandle tells before x) where
    abbrev pub f : HandleFacts tells (state_of before) has.stands.row x.work x.file x.mode
    f = facts tells before x has

    pub row-here : own_of (agent_of u k) x.row ≡ Some (own.Handle f.h)
    row-here = row-there tells before after kept called answered given e x.row ∙ row-is tells before x has

    pub file-here : (g : FileRow Text) × (file_at u f.h.file ≡ Some g)
    file-here = file-there u locks-there k x.row (own.Handle f.h) f.h.file (want_of f.h.mode) row-here refl

    pub bytes-here : bytes_at u f.h.file ≡ bytes_at (state_of before) f.h.file
    bytes-here =
        some-same
        (sym (ap (open_bytes u) row-here)
        ∙ bytes-there x.row
        ∙ ap (open_bytes (state_of before)) (row-is tells before x has))

    -- Where the call was refused, it is as it was.
    pub refused-bytes : is_refusal answered ≡ true → asks_nobody called ≡ true → bytes_at (state_of after) f.h.file ≡ bytes_at (state_of before) f.h.file
    refused-bytes is nobody =
        ap (λ v. bytes_at v f.h.file) (state-is ∙ refused-state tells before after kept called answered given e is)
        ∙ ap (λ v. bytes_at v f.h.file) (nobody-stuck u k called nobody)
        ∙ bytes-here

    -- Where it was not, it is as the call's effect leaves it.
    pub accepted-bytes : is_refusal answered ≡ false → bytes_at (state_of after) f.h.file ≡ bytes_at (effect in_bytes u (sizes_of u k called) k called) f.h.file
    accepted-bytes ok = ap (λ v. bytes_at v f.h.file) (state-is ∙ accepted-state tells before after kept called answered given e ok)

    -- ---- what is stored of it

    held-before : held (state_after before.opening before.pass.base) k x.row ≡ Some f.h.file
    held-before =
        sym (pending-held tells (state_after before.opening before.pass.base) k x.row before.pending kept.local)
        ∙ ap (λ v. held v k x.row) (sym (fold-append after_entry (begun before.opening) before.pass.base before.pending))
        ∙ ap (of_row file_held) (row-is tells before x has)

    -- What the agent has seen before its entry stores nothing of the file.
    pub turn-stores : contents_at f.h.file (changes before.opening (before_call before e.others ++ map eviction e.gone)) ≡ contents_at f.h.file (changes before.opening before.pass.base)
    turn-stores =
        let o = before.opening in
        let seen = before.pass.base ++ e.others in
        let waits = pending-for tells (state_after o before.pass.base) (state_after o seen) k before.pending
        (sym (told-seen tells o before.pass.base e.others k e.legal e.apart)) kept.local in
        ap (contents_at f.h.file) (changes-append (begun o) turn (map eviction e.gone))
        ∙ contents-append f.h.file (changes o turn) (changes_from (state_after o turn) (map eviction e.gone))
        ∙ ap (λ (ts : List Text). contents_at f.h.file (changes o turn) ++ ts) (evictions-store f.h.file (state_after o turn) e.gone)
        ∙ append-nil (contents_at f.h.file (changes o turn))
        ∙ ap (contents_at f.h.file) (changes-append (begun o) seen before.pending)
        ∙ ap (λ (cs : List Change). contents_at f.h.file (changes o seen ++ cs)) (pending-stores tells (state_after o seen) k before.pending waits.0)
        ∙ ap (contents_at f.h.file) (append-nil (changes o seen))
        ∙ told-none tells o f.h.file k x.row before.pass.base e.others e.legal e.apart held-before

    pub stored-here : contents_at f.h.file (changes after.opening after.pass.base) ≡ contents_at f.h.file (changes before.opening before.pass.base) ++ contents_at f.h.file (entry_changes u last)
    stored-here =
        let o = before.opening in
        let front = turn ++ map eviction e.gone in
        (λ i. contents_at f.h.file (changes (opening-is tells before after kept called answered given e i) ((e.grown ∙ whole-is) i)))
        ∙ ap (contents_at f.h.file) (changes-append (begun o) front (last ∷ []))
        ∙ contents-append f.h.file (changes o front) (changes_from (state_after o front) (last ∷ []))
        ∙ (λ i. turn-stores i ++ contents_at f.h.file (append-nil (entry_changes (evicted-is i) last) i))

    refused-stores : is_refusal answered ≡ true → contents_at f.h.file (entry_changes u last) ≡ []
    refused-stores is = ap (λ (b : Bool). contents_at f.h.file (elim b as (λ y. List Change) [ true ↦ [] | false ↦ stored_by u k called ])) is

    accepted-stores : is_refusal answered ≡ false → contents_at f.h.file (entry_changes u last) ≡ contents_at f.h.file (stored_by u k called)
    accepted-stores ok = ap (λ (b : Bool). contents_at f.h.file (elim b as (λ y. List Change) [ true ↦ [] | false ↦ stored_by u k called ])) ok

    -- With a locator of the same file.
    pub stored-of : (y : HandleSeen) → y.file ≡ x.file → stored_of after y ≡ stored_of before x ++ contents_at f.h.file (entry_changes u last)
    stored-of y same =
        let there : place_of y.file ≡ f.h.file = ap place_of same ∙ sym f.file_is in
        ap (λ p. contents_at p (changes after.opening after.pass.base)) there
        ∙ stored-here
        ∙ ap (λ p. contents_at p (changes before.opening before.pass.base) ++ contents_at f.h.file (entry_changes u last)) f.file_is

    pub stored-none : (y : HandleSeen) → y.file ≡ x.file → contents_at f.h.file (entry_changes u last) ≡ [] → stored_of after y ≡ stored_of before x
    stored-none y same none = stored-of y same ∙ ap (λ (ts : List Text). stored_of before x ++ ts) none ∙ append-nil (stored_of before x)

    pub refused-stored : (y : HandleSeen) → y.file ≡ x.file → is_refusal answered ≡ true → stored_of after y ≡ stored_of before x
    refused-stored y same is = stored-none y same (refused-stores is)

    pub accepted-stored : (y : HandleSeen) → y.file ≡ x.file → is_refusal answered ≡ false → stored_of after y ≡ stored_of before x ++ contents_at f.h.file (stored_by u k called)
    accepted-stored y same ok = stored-of y same ∙ ap (λ (ts : List Text). stored_of before x ++ ts) (accepted-stores ok)

    -- The same of its bytes.
    pub bytes-of : (y : HandleSeen) → y.file ≡ x.file → (b : Text) → bytes_at (state_of after) f.h.file ≡ b → file_bytes after y ≡ b
    bytes-of y same b is = ap (λ l. bytes_at (state_of after) (place_of l)) same ∙ ap (bytes_at (state_of after)) (sym f.file_is) ∙ is

    pub bytes-before : bytes_at (state_of before) f.h.file ≡ file_bytes before x
    bytes-before = ap (bytes_at (state_of before)) f.file_is
