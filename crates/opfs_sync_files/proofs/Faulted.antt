-- What disk faults leave in doubt of a file behind an agent's calls.
use Rattle.std.proofs.Common.{◌≡◌, ◌≢◌, ◌⊎◌, ℕ, ◌≤◌, true, false, All, List, [], ◌∷◌, ◌++◌, append-nil, length, map, Option, Some, Result, Ok, Err, refl, sym, ap, ◌∙◌, subst, inl, inr, arith}
use Rattle.std.proofs.lemmas.Bool.{false≢true}
use Rattle.std.proofs.lemmas.List.{length-append}
use Rattle.std.proofs.lemmas.List.Elements.{All-cons, All-head, All-map, All-nil, All-tail}
use Rattle.opfs_store.specs.declared.acts.acted.Gift.{Gift}
use Rattle.opfs_base.specs.Places.{Place, place_of}
use Rattle.opfs_base.specs.Texts.{Text}
use Rattle.opfs_turns.specs.Asking.Answers.{Shared}
use Rattle.opfs_turns.specs.Asking.Locals.{Local}
use Rattle.opfs_turns.specs.Asking.Rows.{HandleSeen, HasHandle}
use Rattle.opfs_turns.specs.declared.asking.stop.Stop.{Stop}
use Rattle.opfs_turns.specs.declared.asking.stop.Stop.TheVariants as stop
use Rattle.opfs_agent.proofs.handle_calls.Facts.{HandleFacts, facts}
use Rattle.opfs_hist.specs.Faults.{is_disk_fault}
use Rattle.opfs_hist.specs.declared.entry.Entry.{Entry}
use Rattle.opfs_hist.specs.declared.op.Op.{Op}
use Rattle.opfs_hist.specs.declared.op.Op.TheVariants as op
use Rattle.opfs_hist.specs.declared.reply.Reply.{Reply}
use Rattle.opfs_hist.specs.declared.reply.Reply.TheVariants as reply
use Rattle.opfs_laws.specs.Histories.Unread.{ArePendingFor}
use Rattle.opfs_laws.specs.Leaving.{asks_nobody}
use Rattle.opfs_laws.proofs.NeverFaults.{step_sound}
use Rattle.opfs_laws.proofs.Others.{others-left}
use Rattle.opfs_machine.specs.declared.own.Own.{Own}
use Rattle.opfs_machine.specs.declared.own.Own.TheVariants as own
use Rattle.opfs_machine.specs.declared.state.State.{State}
use Rattle.opfs_machine.specs.Agents.{agent_of, own_of, open_handle}
use Rattle.opfs_machine.specs.Changes.{changes, handle_stored, stored_by}
use Rattle.opfs_machine.specs.Contents.{in_bytes}
use Rattle.opfs_machine.specs.Histories.{Legal, after_entry, state_after}
use Rattle.opfs_machine.specs.Openings.{Opening}
use Rattle.opfs_machine.specs.Replies.{bytes_at}
use Rattle.opfs_machine.specs.Runs.{eviction}
use Rattle.opfs_turns.specs.Agents.{AgentSeen, IsAgent, state_of}
use Rattle.opfs_turns.specs.Calls.{IsEntered, HasLooked}
use Rattle.opfs_sync_files.specs.Doubts.{DoubtsStore, LeavesPlace, StoresAt, doubt_of}
use Rattle.opfs_sync_files.specs.Files.{contents_at, file_bytes}
use Rattle.opfs_sync_files.specs.Still.{NoBytes, TheBytes}
use Rattle.opfs_sync_files.proofs.Behind.{bytes-here, evicted-is, last, row-here, told-whole, turn, turn-stores, whole-is}
use Rattle.opfs_sync_files.proofs.Doubting.{others-leave, own-leaves, own-stores}
use Rattle.opfs_sync_files.proofs.Staying.{base-held}

-- ---- where an entry stands

pub split-cons : (ws bs h rest : List Entry) (e : Entry) → ws ++ bs ≡ h ++ e ∷ rest → ((ys : List Entry) × (ws ≡ h ++ e ∷ ys)) ⊎ ((xs : List Entry) × (h ≡ ws ++ xs) × (bs ≡ xs ++ e ∷ rest))
split-cons [] bs h rest e is = inr (h, refl, is)
split-cons (a ∷ ws) bs [] rest e is = inl (ws, same is)
  where
    same : a ∷ (ws ++ bs) ≡ e ∷ rest → a ∷ ws ≡ e ∷ ws
    same h = cc
split-cons (a ∷ ws) bs (x ∷ h) rest e is = elim (split-cons ws bs h rest e (tails is)) [
  | inl l ↦ inl (l.0, join is l.1)
  | inr r ↦ inr (r.0, join (sym is) r.1, r.2)
]
  where
    tails : a ∷ (ws ++ bs) ≡ x ∷ (h ++ e ∷ rest) → ws ++ bs ≡ h ++ e ∷ rest
    tails h = cc

    join : {y z : Entry} {ys zs xs us : List Entry} → y ∷ ys ≡ z ∷ zs → xs ≡ us → y ∷ xs ≡ z ∷ us
    join h g = cc

no-entry : (xs rest : List Entry) (e : Entry) → [] ≡ xs ++ e ∷ rest → ⊥
no-entry [] rest e h = cc
no-entry (x ∷ xs) rest e h = cc

one-entry : (x e : Entry) (xs rest : List Entry) → x ∷ [] ≡ xs ++ e ∷ rest → (xs ≡ []) × (e ≡ x)
one-entry x e [] rest h = (refl, cc)
one-entry x e (y ∷ ys) rest h = absurd (no-entry ys rest e (tails h))
  where
    tails : x ∷ [] ≡ y ∷ (ys ++ e ∷ rest) → [] ≡ ys ++ e ∷ rest
    tails h = cc

all-at : (P : Entry → Type 0) (xs ys : List Entry) (e : Entry) → All P (xs ++ e ∷ ys) → P e
all-at P [] ys e all = All-head P e ys all
all-at P (x ∷ xs) ys e all = all-at P xs ys e (All-tail P x (xs ++ e ∷ ys) all)

all-front : (P : Entry → Type 0) (xs ys : List Entry) → All P (xs ++ ys) → All P xs
all-front P [] ys all = All-nil P
all-front P (x ∷ xs) ys all = All-cons P x xs (All-head P x (xs ++ ys) all) (all-front P xs ys (All-tail P x (xs ++ ys) all))

-- A history is no longer than a front of it that ends before its last entry.
pub too-short : (seen h ys : List Entry) (e : Entry) → seen ≡ h ++ e ∷ ys → length seen ≤ length h → ⊥
too-short seen h ys e is few = let long = ap length is ∙ length-append h (e ∷ ys) in omega (arith, long, few)

-- ---- what is no disk fault

abbrev IsPlain : Entry → Type 0
IsPlain e = is_disk_fault e.reply ≡ false

pending-plain : (tells : Type 0) (s : State Text Own) (k : ℕ) (es : List Entry) → ArePendingFor tells s k es → tells → All IsPlain es
pending-plain tells s k [] waits tell = All-nil IsPlain
pending-plain tells s k (e ∷ es) waits tell =
    All-cons IsPlain e es (ap is_disk_fault (waits.0.answered tell) ∙ step_sound s e.agent e.op) (pending-plain tells (after_entry s e) k es waits.1 tell)

evictions-plain : (gone : List Text) → All IsPlain (map eviction gone)
evictions-plain gone = All-map IsPlain eviction gone (all gone)
  where
    all : (gone : List Text) → All (λ unit. IsPlain (eviction unit)) gone
    all [] = All-nil (λ unit. IsPlain (eviction unit))
    all (unit ∷ gone) = All-cons (λ unit. IsPlain (eviction unit)) unit gone refl (all gone)

module _ {O : Type 0} (tells : Type 0) (before : AgentSeen O) (kept : IsAgent tells before) (x : HandleSeen) (has : HasHandle tells before x) (May : Text → Type 0) where
  abbrev k : ℕ
  k = before.pass.agent

  abbrev o : Opening
  o = before.opening

  abbrev p : Place
  p = place_of x.file

  -- ---- of entries that others made since

  of-others : (others xs ys rest : List Entry) (e : Entry) → others ≡ xs ++ e ∷ ys → All (λ e. e.agent ≢ k) others → Legal o ((before.pass.base ++ xs) ++ e ∷ rest) → is_disk_fault e.reply ≡ true
      → LeavesPlace p (doubt_of o (before.pass.base ++ xs) e)
  of-others others xs ys rest e is apart legal fault =
      let held = base-held tells before kept x has in
      let all = subst (All (λ e. e.agent ≢ k)) is apart in
      let row : own_of (agent_of (state_after o (before.pass.base ++ xs)) k) x.row ≡ Some (own.Handle held.0) =
      ap (λ v. own_of v.0 x.row) (others-left o before.pass.base xs (e ∷ rest) k legal (all-front (λ e. e.agent ≢ k) xs (e ∷ ys) all)) ∙ held.1
      in
      subst (λ q. LeavesPlace q (doubt_of o (before.pass.base ++ xs) e)) held.2
      (others-leave o (before.pass.base ++ xs) rest e legal fault k x.row kept.real held.0 row (all-at (λ e. e.agent ≢ k) xs ys e all))

  looked-doubts : (others : List Entry) → All (λ e. e.agent ≢ k) others → Legal o (before.pass.base ++ others) → DoubtsStore o before.pass.base (before.pass.base ++ others) p May
  looked-doubts others apart legal h rest e is few fault = elim (split-cons before.pass.base others h rest e is) [
    | inl l ↦ absurd (too-short before.pass.base h l.0 e l.1 few)
    | inr r ↦ inl (subst (λ (es : List Entry). LeavesPlace p (doubt_of o es e)) (sym r.1) (of-others others r.0 rest rest e r.2 apart (subst (Legal o) (is ∙ ap (λ (es : List Entry). es ++ e ∷ rest) r.1) legal) fault))
  ]

  -- ---- of the agent's own call

  module _ (after : AgentSeen O) (later : IsAgent tells after) (called : Op) (answered : Reply) (given : Gift) (en : IsEntered tells before after called answered given) (tell : tells) where
    abbrev hl : List Entry
    hl = turn tells before after kept later called answered given en ++ map eviction en.gone

    abbrev mine : Entry
    mine = last tells before after kept later called answered given en

    legal-whole : Legal o (hl ++ mine ∷ [])
    legal-whole = let told = told-whole tells before after kept later called answered given en in subst (Legal o) (sym (told.told tell)) told.legal

    abbrev Decided : Type 0
    Decided = is_disk_fault answered ≡ true → LeavesPlace p (doubt_of o hl mine) ⊎ StoresAt p May (doubt_of o hl mine)

    abbrev Goal : List Entry → Entry → Type 0
    Goal h e = LeavesPlace p (doubt_of o h e) ⊎ (StoresAt p May (doubt_of o h e) × (contents_at p (changes o h) ≡ contents_at p (changes o before.pass.base)))

    stored-none : contents_at p (changes o hl) ≡ contents_at p (changes o before.pass.base)
    stored-none =
        let f : HandleFacts tells (state_of before) has.stands.row x.work x.file x.mode = facts tells before x has in
        subst (λ q. contents_at q (changes o hl) ≡ contents_at q (changes o before.pass.base)) f.file_is (turn-stores tells before after kept later called answered given en x has)

    at-last : Decided → is_disk_fault answered ≡ true → Goal hl mine
    at-last decided fault = elim (decided fault) [
      | inl leaves ↦ inl leaves
      | inr stores ↦ inr (stores, stored-none)
    ]

    in-turn : (h ys rest : List Entry) (e : Entry) → turn tells before after kept later called answered given en ≡ h ++ e ∷ ys → Legal o (h ++ e ∷ rest) → length before.pass.base ≤ length h → is_disk_fault e.reply ≡ true → Goal h e
    in-turn h ys rest e is legal few fault = elim (split-cons (before.pass.base ++ en.others) before.pending h ys e is) [
      | inr r ↦ absurd (false≢true (sym (all-at IsPlain r.0 ys e (subst (All IsPlain) r.2 (pending-plain tells (state_after o before.pass.base) k before.pending kept.local tell))) ∙ fault))
      | inl l ↦ elim (split-cons before.pass.base en.others h l.0 e l.1) [
        | inl m ↦ absurd (too-short before.pass.base h m.0 e m.1 few)
        | inr m ↦ inl (subst (λ (es : List Entry). LeavesPlace p (doubt_of o es e)) (sym m.1) (of-others en.others m.0 l.0 rest e m.2 en.apart (subst (λ (es : List Entry). Legal o (es ++ e ∷ rest)) m.1 legal) fault))
      ]
    ]

    pub entered-doubts : Decided → DoubtsStore o before.pass.base after.pass.base p May
    entered-doubts decided h rest e is few fault =
        let whole : hl ++ mine ∷ [] ≡ h ++ e ∷ rest = sym (en.grown ∙ whole-is tells before after kept later called answered given en) ∙ is in
        let legal : Legal o (h ++ e ∷ rest) = subst (Legal o) whole legal-whole in
        elim (split-cons hl (mine ∷ []) h rest e whole) [
          | inr r ↦
              let one = one-entry mine e r.0 rest r.2 in
              let here : h ≡ hl = r.1 ∙ ap (λ (es : List Entry). hl ++ es) one.0 ∙ append-nil hl in
              subst (λ (es : List Entry). Goal es e) (sym here) (subst (Goal hl) (sym one.1) (at-last decided (ap (λ (y : Entry). is_disk_fault y.reply) (sym one.1) ∙ fault)))
          | inl l ↦ elim (split-cons (turn tells before after kept later called answered given en) (map eviction en.gone) h l.0 e l.1) [
            | inr r ↦ absurd (false≢true (sym (all-at IsPlain r.0 l.0 e (subst (All IsPlain) r.2 (evictions-plain en.gone))) ∙ fault))
            | inl m ↦ in-turn h m.0 rest e m.1 legal few fault
          ]
        ]

    -- The row there, as the agent knew it.
    abbrev f : HandleFacts tells (state_of before) has.stands.row x.work x.file x.mode
    f = facts tells before x has

    row-hl : own_of (agent_of (state_after o hl) k) x.row ≡ Some (own.Handle f.h)
    row-hl = ap (λ v. own_of (agent_of v k) x.row) (evicted-is tells before after kept later called answered given en) ∙ row-here tells before after kept later called answered given en x has

    pub decided-none : asks_nobody called ≡ true → stored_by (state_after o hl) k called ≡ [] → Decided
    decided-none nobody none fault =
        inl (subst (λ q. LeavesPlace q (doubt_of o hl mine)) f.file_is (own-leaves o hl [] mine legal-whole fault k x.row kept.real f.h row-hl refl nobody none))

    pub decided-bytes : asks_nobody called ≡ true → stored_by (state_after o hl) k called ≡ handle_stored (state_after o hl) (open_handle in_bytes (state_after o hl) k x.row)
        → ((bytes : Text) → bytes ≡ file_bytes before x → May bytes) → Decided
    decided-bytes nobody is may fault =
        subst (λ q. LeavesPlace q (doubt_of o hl mine) ⊎ StoresAt q May (doubt_of o hl mine)) f.file_is
        (elim (own-stores o hl [] mine legal-whole fault k x.row kept.real f.h row-hl refl nobody is) [
          | inl leaves ↦ inl leaves
          | inr stores ↦ inr (record {
            bytes = stores.bytes;
            stamp = stores.stamp;
            may = may stores.bytes (stores.may
                ∙ ap (λ v. bytes_at v f.h.file) (evicted-is tells before after kept later called answered given en)
                ∙ bytes-here tells before after kept later called answered given en x has
                ∙ ap (bytes_at (state_of before)) f.file_is);
            stands = stores.stands;
          })
        ])

-- ---- whatever a call answered

-- What a call on a handle's row stores: nothing, or the file's bytes.
abbrev pub Decides : {O : Type 0} → AgentSeen O → HandleSeen → (Text → Type 0) → Op → Type 0
Decides before x May called =
    (asks_nobody called ≡ true)
    × (((s : State Text Own) (k : ℕ) → stored_by s k called ≡ [])
    ⊎ (((s : State Text Own) (k : ℕ) → stored_by s k called ≡ handle_stored s (open_handle in_bytes s k x.row)) × ((bytes : Text) → bytes ≡ file_bytes before x → May bytes)))

module _ {O : Type 0} (before : AgentSeen O) (x : HandleSeen) where
  pub read-decides : (len : ℕ) (at : Option ℕ) → Decides before x NoBytes (op.SyncRead x.row len at)
  unfolding stored_by
  read-decides len at = (refl, inl (λ s k. refl))

  pub write-decides : (bytes : _) (at : Option ℕ) → Decides before x NoBytes (op.SyncWrite x.row bytes at)
  unfolding stored_by
  write-decides bytes at = (refl, inl (λ s k. refl))

  pub cut-decides : (size : ℕ) → Decides before x NoBytes (op.SyncTruncate x.row size)
  unfolding stored_by
  cut-decides size = (refl, inl (λ s k. refl))

  pub flush-decides : Decides before x (TheBytes (file_bytes before x)) (op.SyncFlush x.row)
  unfolding stored_by
  flush-decides = (refl, inr (λ s k. refl, λ bytes is. is))

  pub close-decides : Decides before x (TheBytes (file_bytes before x)) (op.SyncClose x.row)
  unfolding stored_by
  close-decides = (refl, inr (λ s k. refl, λ bytes is. is))

module _ {O : Type 0} (tells : Type 0) (before : AgentSeen O) (kept : IsAgent tells before) (x : HandleSeen) (has : HasHandle tells before x) (May : Text → Type 0) (after : AgentSeen O) (later : IsAgent tells after) where
  of-entered : (called : Op) (answered : Reply) (given : Gift) → Decides before x May called → IsEntered tells before after called answered given → tells
      → DoubtsStore before.opening before.pass.base after.pass.base (place_of x.file) May
  of-entered called answered given decides en tell =
      entered-doubts tells before kept x has May after later called answered given en tell
      (elim decides.1 [
        | inl none ↦ decided-none tells before kept x has May after later called answered given en tell decides.0 (none _ _)
        | inr both ↦ decided-bytes tells before kept x has May after later called answered given en tell decides.0 (both.0 _ _) both.1
      ])

  of-looked : HasLooked before after → tells → DoubtsStore before.opening before.pass.base after.pass.base (place_of x.file) May
  of-looked l tell =
      let legal_after : Legal after.opening after.pass.base = subst (Legal after.opening) (sym (later.legal.told tell)) later.legal.legal in
      let legal : Legal before.opening (before.pass.base ++ l.others) = subst (Legal before.opening) l.grown (subst (λ q. Legal q after.pass.base) (ap (λ (a : AgentSeen O). a.opening) l.rest) legal_after) in
      subst (λ (es : List Entry). DoubtsStore before.opening before.pass.base es (place_of x.file) May) (sym l.grown)
      (looked-doubts tells before kept x has May l.others l.apart legal)

  pub shared-doubts : {T : Type 0} (called : Op) (Gives : T → Reply → Gift → Type 0) (r : Result T Stop) → Decides before x May called → Shared tells before after called Gives r → tells
      → DoubtsStore before.opening before.pass.base after.pass.base (place_of x.file) May
  shared-doubts called Gives (Ok v) decides h tell = of-entered called h.answered h.given decides h.entered tell
  shared-doubts called Gives (Err (stop.No r)) decides h tell = of-entered called (reply.No r) h.given decides h.entered tell
  shared-doubts called Gives (Err stop.NoMemory) decides h tell = of-looked h tell

-- Where nothing was seen since, nothing is in doubt.
pub doubts-none : (o : Opening) (seen now : List Entry) (p : Place) (May : Text → Type 0) → now ≡ seen → DoubtsStore o seen now p May
doubts-none o seen now p May same h rest e is few fault = absurd (too-short seen h rest e (sym same ∙ is) few)

pub local-doubts : {O T : Type 0} (tells : Type 0) (before after : AgentSeen O) (called : Op) (Gives : T → Reply → Type 0) (r : Result T Stop) (p : Place) (May : Text → Type 0) → Local tells before after called 0 Gives r
    → DoubtsStore before.opening before.pass.base after.pass.base p May
local-doubts tells before after called Gives (Ok v) p May h = doubts-none before.opening before.pass.base after.pass.base p May (ap (λ (a : AgentSeen _). a.pass.base) h.entered.kept)
local-doubts tells before after called Gives (Err (stop.No r)) p May h = doubts-none before.opening before.pass.base after.pass.base p May (ap (λ (a : AgentSeen _). a.pass.base) h.kept)
local-doubts tells before after called Gives (Err stop.NoMemory) p May h = doubts-none before.opening before.pass.base after.pass.base p May (ap (λ (a : AgentSeen _). a.pass.base) h)

-- ---- one after another

pub doubts-may : (o : Opening) (seen now : List Entry) (p : Place) (May Can : Text → Type 0) → ((bytes : Text) → May bytes → Can bytes) → DoubtsStore o seen now p May → DoubtsStore o seen now p Can
doubts-may o seen now p May Can may doubts h rest e is few fault = elim (doubts h rest e is few fault) [
  | inl leaves ↦ inl leaves
  | inr s ↦ inr (record { bytes = s.0.bytes; stamp = s.0.stamp; may = may s.0.bytes s.0.may; stands = s.0.stands }, s.1)
]

doubts-then : (o : Opening) (a b c more : List Entry) (p : Place) (May : Text → Type 0) → c ≡ b ++ more → DoubtsStore o a b p May → DoubtsStore o b c p May → contents_at p (changes o b) ≡ contents_at p (changes o a) → DoubtsStore o a c p May
doubts-then o a b c more p May grown first second same h rest e is few fault = elim (split-cons b more h rest e (sym grown ∙ is)) [
  | inl l ↦ first h l.0 e l.1 few fault
  | inr r ↦
      let long = ap length r.1 ∙ length-append b r.0 in
      elim (second h rest e is (omega (arith, long)) fault) [
        | inl leaves ↦ inl leaves
        | inr s ↦ inr (s.0, s.1 ∙ same)
      ]
]

-- Behind a call that stored nothing of the file.
pub doubts-next : {O : Type 0} (a b c : AgentSeen O) (x y : HandleSeen) (May : Text → Type 0) (more : List Entry) → b.opening ≡ a.opening → y.file ≡ x.file → c.pass.base ≡ b.pass.base ++ more
    → DoubtsStore a.opening a.pass.base b.pass.base (place_of x.file) May → DoubtsStore b.opening b.pass.base c.pass.base (place_of y.file) May
    → contents_at (place_of y.file) (changes b.opening b.pass.base) ≡ contents_at (place_of x.file) (changes a.opening a.pass.base)
    → DoubtsStore a.opening a.pass.base c.pass.base (place_of x.file) May
doubts-next a b c x y May more opening file grown first second same =
    doubts-then a.opening a.pass.base b.pass.base c.pass.base more (place_of x.file) May grown first
    (subst (λ (l : _). DoubtsStore a.opening b.pass.base c.pass.base (place_of l) May) file (subst (λ (q : Opening). DoubtsStore q b.pass.base c.pass.base (place_of y.file) May) opening second))
    ((λ i. contents_at (place_of (sym file i)) (changes (sym opening i) b.pass.base)) ∙ same)
