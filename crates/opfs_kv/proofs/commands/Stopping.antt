-- What a stop leaves of a file on which commands were run.
use Rattle.std.proofs.Common.{◌≡◌, ℕ, ◌+◌, ◌≤◌, suc, true, false, cond, if◌then◌else◌, List, [], ◌∷◌, ◌++◌, append_assoc, fold, length, take, Option, Some, refl, sym, ap, subst, ◌∙◌, inl, inr, arith}
use Rattle.std.specs.Ordering.{eq_by_cmp}
use Rattle.std.proofs.lemmas.List.{append_cancel_left, length-append}
use Rattle.std.proofs.lemmas.List.Sums.{fold-append}
use Rattle.opfs_base.specs.Places.{Place, place_cmp, place_of}
use Rattle.opfs_base.specs.Texts.{Text}
use Rattle.opfs_laws.specs.Files.Staying.{kept_by, standing_at}
use Rattle.opfs_hist.specs.Faults.{is_disk_fault}
use Rattle.opfs_hist.specs.declared.entry.Entry.{Entry}
use Rattle.opfs_laws.specs.Histories.Doubts.{doubted}
use Rattle.opfs_laws.proofs.histories.Adding.{changes-append}
use Rattle.opfs_laws.proofs.histories.Doubting.{doubt-stays}
use Rattle.opfs_kv.specs.Records.Maps.{Map}
use Rattle.opfs_machine.specs.Changes.{Change, make_root, make_directory, make_file, remove, content, persist, evict, changed, changes, changes_from, durable}
use Rattle.opfs_machine.specs.Histories.{state_after}
use Rattle.opfs_machine.specs.Openings.{Map as Whole, Opening, Stored, begun, document}
use Rattle.opfs_sync_files.specs.Doubts.{doubt_of}
use Rattle.opfs_sync_files.specs.Entries.{GoesOn}
use Rattle.opfs_sync_files.specs.Files.{contents_at}
use Rattle.opfs_sync_files.proofs.Doubting.{changes-local, kept-none}
use Rattle.opfs_sync_files.proofs.Faulted.{split-cons, too-short}
use Rattle.opfs_sync_files.proofs.Staying.{StaysSince}
use Rattle.opfs_sync_files.proofs.Storing.{contents-append}
use Rattle.opfs_turns.specs.Agents.{AgentSeen}
use Rattle.opfs_kv.specs.Keeping.{Spells}
use Rattle.opfs_kv.specs.Seen.{KvSeen, map_in}
use Rattle.opfs_kv.specs.Commands.Runs.{AreStored, AreStoredBy, HasStored, after_op, map_after, stores}
use Rattle.opfs_kv.specs.Commands.Stops.{IsAfterFront, IsStoredAs, LeavesFronts, flushes_in}
use Rattle.opfs_kv.proofs.commands.Doubted.{RunDoubts}
use Rattle.opfs_kv.specs.declared.commands.commands.KvOp.{KvOp}
use Rattle.opfs_kv.specs.declared.commands.commands.KvReply.{KvReply}

-- ---- the last content of a front

-- What stands there after contents: the last of them, or what stood there.
abbrev Result : Option Stored → List Text → Option Stored → Type 0
Result x [] y = y ≡ x
Result x (t ∷ []) y = (stamp : ℕ) × (y ≡ Some (document t stamp))
Result x (t ∷ (u ∷ texts)) y = Result x (u ∷ texts) y

result-any : (x z : Option Stored) (t : Text) (texts : List Text) (y : Option Stored) → Result z (t ∷ texts) y → Result x (t ∷ texts) y
result-any x z t [] y h = h
result-any x z t (u ∷ texts) y h = result-any x z u texts y h

result-cons : (x : Option Stored) (t : Text) (stamp : ℕ) (texts : List Text) (y : Option Stored) → Result (Some (document t stamp)) texts y → Result x (t ∷ texts) y
result-cons x t stamp [] y h = (stamp, h)
result-cons x t stamp (u ∷ texts) y h = result-any x (Some (document t stamp)) u texts y h

result-of : (p : Place) (x : Option Stored) (front : List Change) → Result x (contents_at p front) (fold (kept_by p) x front)
result-of p x [] = refl
result-of p x (content q stamp bytes ∷ front) =
    elim (eq_by_cmp place_cmp p q) as (λ b. Result x ((if b then bytes ∷ [] else []) ++ contents_at p front) (fold (kept_by p) (cond b (Some (document bytes stamp)) x) front)) [
      | true ↦ result-cons x bytes stamp (contents_at p front) (fold (kept_by p) (Some (document bytes stamp)) front) (result-of p (Some (document bytes stamp)) front)
      | false ↦ result-of p x front
    ]
result-of p x (make_root unit ∷ front) = result-of p x front
result-of p x (make_directory q ∷ front) = result-of p x front
result-of p x (make_file q stamp ∷ front) = result-of p x front
result-of p x (remove q ∷ front) = result-of p x front
result-of p x (persist unit ∷ front) = result-of p x front
result-of p x (evict unit ∷ front) = result-of p x front

-- ---- the map that the last of the contents stands for

abbrev LastSpells : Map → List Text → Map → Type 0
LastSpells m [] n = m ≡ n
LastSpells m (t ∷ []) n = Spells t n
LastSpells m (t ∷ (u ∷ texts)) n = LastSpells m (u ∷ texts) n

last-any : (m d : Map) (t : Text) (texts : List Text) (n : Map) → LastSpells d (t ∷ texts) n → LastSpells m (t ∷ texts) n
last-any m d t [] n h = h
last-any m d t (u ∷ texts) n h = last-any m d u texts n h

last-cons : (m d : Map) (t : Text) (texts : List Text) (n : Map) → Spells t d → LastSpells d texts n → LastSpells m (t ∷ texts) n
last-cons m d t [] n spells h = subst (Spells t) h spells
last-cons m d t (u ∷ texts) n spells h = last-any m d u texts n h

stored-as : (x : Option Stored) (m : Map) (texts : List Text) (y : Option Stored) (n : Map) → IsStoredAs x m → Result x texts y → LastSpells m texts n → IsStoredAs y n
stored-as x m [] y n h result last = subst (λ (o : Option Stored). IsStoredAs o n) (sym result) (subst (IsStoredAs x) last h)
stored-as x m (t ∷ []) y n h result last = subst (λ (o : Option Stored). IsStoredAs o n) (sym result.1) last
stored-as x m (t ∷ (u ∷ texts)) y n h result last = stored-as x m (u ∷ texts) y n h result last

-- ---- which commands come before a content

record IsPlaced (m : Map) (ops : List KvOp) (rs : List KvReply) (texts : List Text) : Type 0 where
  count : ℕ
  within : count ≤ length ops
  flushed : flushes_in (take count ops) (take count rs) ≡ length texts
  spells : LastSpells m texts (map_after m (take count ops) (take count rs))

no-cons : (t : Text) (texts : List Text) → t ∷ texts ≡ [] → ⊥
no-cons t texts h = cc

placed-at : (m : Map) (ops : List KvOp) (rs : List KvReply) (texts more : List Text) → AreStored m ops rs (texts ++ more) → IsPlaced m ops rs texts
placed-at m ops rs [] more h = record { count = 0; within = omega arith; flushed = refl; spells = refl }
placed-at m [] rs (t ∷ texts) more h = absurd (no-cons t (texts ++ more) h)
placed-at m (o ∷ ops) [] (t ∷ texts) more h = absurd (no-cons t (texts ++ more) h)
placed-at m (o ∷ ops) (r ∷ rs) (t ∷ texts) more h =
    elim (stores o r) as (λ b. stores o r ≡ b → AreStoredBy b (after_op m o r) (t ∷ (texts ++ more)) (AreStored (after_op m o r) ops rs) → IsPlaced m (o ∷ ops) (r ∷ rs) (t ∷ texts)) [
      | true ↦ λ is g.
          let next = placed-at (after_op m o r) ops rs texts more g.1 in
          record {
            count = suc next.count;
            within = omega (arith, next.within);
            flushed = ap (λ b. cond b 1 0 + flushes_in (take next.count ops) (take next.count rs)) is ∙ omega (arith, next.flushed);
            spells = last-cons m (after_op m o r) t texts (map_after (after_op m o r) (take next.count ops) (take next.count rs)) g.0 next.spells;
          }
      | false ↦ λ is g.
          let next = placed-at (after_op m o r) ops rs (t ∷ texts) more g in
          record {
            count = suc next.count;
            within = omega (arith, next.within);
            flushed = ap (λ b. cond b 1 0 + flushes_in (take next.count ops) (take next.count rs)) is ∙ omega (arith, next.flushed);
            spells = last-any m (after_op m o r) t texts (map_after (after_op m o r) (take next.count ops) (take next.count rs)) next.spells;
          }
    ] refl h

-- Each flush that was done has its content.
one-flushed : (m : Map) (texts : List Text) (count : ℕ) (More : List Text → Type 0) → ((rest : List Text) → More rest → length rest ≡ count) → AreStoredBy true m texts More → length texts ≡ 1 + count
one-flushed m [] count More each h = absurd h
one-flushed m (t ∷ texts) count More each h = let next = each texts h.1 in omega (arith, next)

pub all-flushed : (m : Map) (ops : List KvOp) (rs : List KvReply) (texts : List Text) → AreStored m ops rs texts → length texts ≡ flushes_in ops rs
all-flushed m [] rs texts h = ap length h
all-flushed m (o ∷ ops) [] texts h = ap length h
all-flushed m (o ∷ ops) (r ∷ rs) texts h =
    elim (stores o r) as (λ b. AreStoredBy b (after_op m o r) texts (AreStored (after_op m o r) ops rs) → length texts ≡ cond b 1 0 + flushes_in ops rs) [
      | true ↦ λ g. one-flushed (after_op m o r) texts (flushes_in ops rs) (AreStored (after_op m o r) ops rs) (λ rest. all-flushed (after_op m o r) ops rs rest) g
      | false ↦ λ g. let next = all-flushed (after_op m o r) ops rs texts g in omega (arith, next)
    ] h

-- ---- with what is in doubt

module _ (o : Opening) (start : List Change) (p : Place) (m : Map) where
  -- Where nothing of the file was stored, what was in doubt before stands behind as it would have stood.
  earlier-stays : (front doubt : List Change) → standing_at (durable o (start ++ front)) p ≡ fold (kept_by p) (standing_at (durable o start) p) front → contents_at p front ≡ []
      → IsStoredAs (standing_at (durable o (start ++ doubt)) p) m → IsStoredAs (standing_at (durable o ((start ++ front) ++ doubt)) p) m
  earlier-stays front doubt there none first =
      subst (λ (x : Option Stored). IsStoredAs x m)
      (sym
      (ap (λ (w : Whole). standing_at w p) (fold-append changed o.stored (start ++ front) doubt)
      ∙ changes-local p doubt (durable o (start ++ front)) (durable o start) (there ∙ kept-none p (standing_at (durable o start) p) front none)
      ∙ ap (λ (w : Whole). standing_at w p) (sym (fold-append changed o.stored start doubt))))
      first

module _ {O : Type 0} (before after : AgentSeen O) (old : KvSeen) (ops : List KvOp) (rs : List KvReply) (newer : List Entry) (grown : after.pass.base ≡ before.pass.base ++ newer) where
  abbrev o : Opening
  o = before.opening

  abbrev p : Place
  p = place_of old.handle.file

  abbrev m : Map
  m = map_in before old

  abbrev seen : List Entry
  seen = before.pass.base

  abbrev IsBehind : List Change → Option Stored → Type 0
  IsBehind front stored = IsAfterFront m ops rs (length (contents_at p front)) stored

  with-doubt : (h later rest : List Entry) (e : Entry) (flushes : ℕ) → after.pass.base ≡ (h ++ e ∷ later) ++ rest → length seen ≤ length h → is_disk_fault e.reply ≡ true
      → RunDoubts m ops rs o seen after.pass.base p
      → contents_at p (changes o (h ++ e ∷ later)) ≡ contents_at p (changes o h)
      → length (contents_at p (changes o h)) ≡ length (contents_at p (changes o seen)) + flushes
      → ((front behind : List Change) → changes o after.pass.base ≡ changes o seen ++ (front ++ behind) → IsBehind front (standing_at (durable o (changes o seen ++ front)) p))
      → IsAfterFront m ops rs flushes (standing_at (durable o (changes o (h ++ e ∷ later) ++ doubted o (h ++ e ∷ later) (Some (length h)))) p)
  with-doubt h later rest e flushes is few fault doubts none count fronts =
      let split : after.pass.base ≡ h ++ e ∷ (later ++ rest) = is ∙ append_assoc h (e ∷ later) rest in
      let joined : (h ++ e ∷ []) ++ later ≡ h ++ e ∷ later = append_assoc h (e ∷ []) later in
      let long = length-append h (e ∷ []) in
      let doubt : doubted o (h ++ e ∷ later) (Some (length h)) ≡ doubt_of o h e =
      ap (λ (es : List Entry). doubted o es (Some (length h))) (sym joined) ∙ doubt-stays (begun o) [] (h ++ e ∷ []) later (length h) (omega (arith, long))
      in
      let told = changes o (h ++ e ∷ later) in
      let standing : (w : List Change) → standing_at (durable o (told ++ w)) p ≡ standing_at (fold changed (durable o told) w) p =
      λ w. ap (λ (x : Whole). standing_at x p) (fold-append changed o.stored told w)
      in
      subst (λ (w : List Change). IsAfterFront m ops rs flushes (standing_at (durable o (told ++ w)) p)) (sym doubt)
      (elim (doubts h (later ++ rest) e split few fault) [
        | inl leaves ↦
            let at = inside h (later ++ rest) e split few in
            let front = changes_from (state_after o seen) (at.0 ++ e ∷ later) in
            let behind = changes_from (state_after o (h ++ e ∷ later)) rest in
            let up : told ≡ changes o seen ++ front =
            ap (changes o) (ap (λ (es : List Entry). es ++ e ∷ later) at.1 ∙ append_assoc seen at.0 (e ∷ later)) ∙ changes-append (begun o) seen (at.0 ++ e ∷ later)
            in
            let whole : changes o after.pass.base ≡ changes o seen ++ (front ++ behind) =
            ap (changes o) is ∙ changes-append (begun o) (h ++ e ∷ later) rest ∙ ap (λ (cs : List Change). cs ++ behind) up ∙ append_assoc (changes o seen) front behind
            in
            let there = fronts front behind whole in
            let parts : length (contents_at p told) ≡ length (contents_at p (changes o seen)) + length (contents_at p front) =
            ap (λ (cs : List Change). length (contents_at p cs)) up ∙ ap length (contents-append p (changes o seen) front) ∙ length-append (contents_at p (changes o seen)) (contents_at p front)
            in
            let as_many : length (contents_at p front) ≡ flushes = let same = ap length none in omega (arith, parts, same, count) in
            subst (λ (x : Option Stored). IsAfterFront m ops rs flushes x)
            (ap (λ (cs : List Change). standing_at (durable o cs) p) (sym up) ∙ sym (leaves (durable o told)) ∙ sym (standing (doubt_of o h e)))
            (subst (λ (n : ℕ). IsAfterFront m ops rs n (standing_at (durable o (changes o seen ++ front)) p)) as_many there)
        | inr d ↦
            let since = ap length d.since ∙ length-append (contents_at p (changes o seen)) d.texts in
            record {
              count = d.count;
              within = d.within;
              flushed = d.flushed ∙ omega (arith, since, count);
              stands_for = subst (λ (x : Option Stored). IsStoredAs x (map_after m (take d.count ops) (take d.count rs))) (sym (standing (doubt_of o h e) ∙ d.stores.stands (durable o told))) d.stores.may;
            }
      ])
    where
      inside : (h rest : List Entry) (e : Entry) → after.pass.base ≡ h ++ e ∷ rest → length seen ≤ length h → (xs : List Entry) × (h ≡ seen ++ xs)
      inside h rest e is few = elim (split-cons seen newer h rest e (sym grown ∙ is)) [
        | inl l ↦ absurd (too-short seen h l.0 e l.1 few)
        | inr r ↦ (r.0, r.1)
      ]

-- ---- a run's end

same-rest : (xs ys zs : List Text) → xs ++ ys ≡ xs ++ zs → ys ≡ zs
same-rest [] ys zs h = h
same-rest (x ∷ xs) ys zs h = same-rest xs ys zs (tails h)
  where
    tails : x ∷ (xs ++ ys) ≡ x ∷ (xs ++ zs) → xs ++ ys ≡ xs ++ zs
    tails e = cc

pub leaves-fronts : {O : Type 0} (tells : Type 0) (before after : AgentSeen O) (old new : KvSeen) (ops : List KvOp) (rs : List KvReply) → new.handle.file ≡ old.handle.file
    → StaysSince tells before after (place_of old.handle.file) → HasStored tells before after old new ops rs
    → {n : ℕ} → GoesOn before after n → (tells → RunDoubts (map_in before old) ops rs before.opening before.pass.base after.pass.base (place_of old.handle.file)) → tells → LeavesFronts before after old ops rs
leaves-fronts tells before after old new ops rs file since has goes doubts tell =
    let p = place_of old.handle.file in
    let o = before.opening in
    let start = changes o before.pass.base in
    let m = map_in before old in
    let whole : contents_at p start ++ contents_at p since.more ≡ contents_at p start ++ has.texts =
    sym (contents-append p start since.more) ∙ ap (contents_at p) (sym since.grown) ∙ ap (λ l. contents_at (place_of l) (changes after.opening after.pass.base)) (sym file) ∙ has.stored
    in
    let texts : contents_at p since.more ≡ has.texts = same-rest (contents_at p start) (contents_at p since.more) has.texts whole in
    let stored : AreStored m ops rs (contents_at p since.more) = subst (AreStored m ops rs) (sym texts) (has.are tell) in
    let there : (front rest : List Change) → since.more ≡ front ++ rest → standing_at (durable o (start ++ front)) p ≡ fold (kept_by p) (standing_at (durable o start) p) front =
    λ front rest split. ap (λ (w : Whole). standing_at w p) (fold-append changed o.stored start front) ∙ since.fronts tell front rest split (durable o start)
    in
    let behind : (front rest : List Change) → since.more ≡ front ++ rest → IsStoredAs (standing_at (durable o start) p) m → IsAfterFront m ops rs (length (contents_at p front)) (standing_at (durable o (start ++ front)) p) =
    λ front rest split first.
    let parts : contents_at p since.more ≡ contents_at p front ++ contents_at p rest = ap (contents_at p) split ∙ contents-append p front rest in
    let placed = placed-at m ops rs (contents_at p front) (contents_at p rest) (subst (AreStored m ops rs) parts stored) in
    record {
      count = placed.count;
      within = placed.within;
      flushed = placed.flushed;
      stands_for = subst (λ (x : Option Stored). IsStoredAs x (map_after m (take placed.count ops) (take placed.count rs))) (sym (there front rest split))
          (stored-as (standing_at (durable o start) p) m (contents_at p front) (fold (kept_by p) (standing_at (durable o start) p) front) (map_after m (take placed.count ops) (take placed.count rs))
          first (result-of p (standing_at (durable o start) p) front) placed.spells);
    }
    in
    record {
      more = since.more;
      grown = since.grown;
      fronts = behind;
      all = all-flushed m ops rs (contents_at p since.more) stored;
      earlier = λ front rest doubt split none first. earlier-stays o start p m front doubt (there front rest split) none first;
      doubts = λ u flushes count first.
          with-doubt before after old ops rs goes.newer goes.grown u.front u.later u.rest u.entry flushes u.is u.since u.fault (doubts tell) u.quiet count
          (λ front rest_of whole. behind front rest_of (append_cancel_left start since.more (front ++ rest_of) (sym since.grown ∙ ap (λ q. changes q after.pass.base) goes.opening_is ∙ whole)) first);
    }
