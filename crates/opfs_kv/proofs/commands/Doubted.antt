-- What disk faults leave in doubt of a file on which commands are run.
use Rattle.std.proofs.Common.{◌≡◌, ◌⊎◌, ℕ, ◌≤◌, true, List, [], ◌∷◌, ◌++◌, length, take, refl, sym, ap, subst, ◌∙◌, inl, inr, arith}
use Rattle.std.proofs.lemmas.List.{length-append, take-append-le, take_all}
use Rattle.opfs_base.specs.Places.{Place}
use Rattle.opfs_base.specs.Texts.{Text}
use Rattle.opfs_hist.specs.Faults.{is_disk_fault}
use Rattle.opfs_hist.specs.declared.entry.Entry.{Entry}
use Rattle.opfs_kv.specs.Keeping.{Spells}
use Rattle.opfs_kv.specs.Commands.Runs.{map_after}
use Rattle.opfs_kv.specs.Commands.Stops.{flushes_in}
use Rattle.opfs_kv.specs.declared.commands.commands.KvOp.{KvOp}
use Rattle.opfs_kv.specs.declared.commands.commands.KvReply.{KvReply}
use Rattle.opfs_kv.proofs.commands.Lists.{AreAsMany}
use Rattle.opfs_kv.specs.Records.Maps.{Map}
use Rattle.opfs_machine.specs.Changes.{Change, changes}
use Rattle.opfs_machine.specs.Openings.{Opening}
use Rattle.opfs_sync_files.specs.Doubts.{DoubtsStore, LeavesPlace, StoresAt, doubt_of}
use Rattle.opfs_sync_files.specs.Files.{contents_at}
use Rattle.opfs_sync_files.proofs.Faulted.{split-cons, too-short}

-- What is in doubt stores the map after a front of the commands, all flushes of which have their contents before it.
pub record IsDoubted (m : Map) (ops : List KvOp) (rs : List KvReply) (o : Opening) (seen h : List Entry) (p : Place) (doubt : List Change) : Type 0 where
  pub count : ℕ
  pub within : count ≤ length ops
  pub stores : StoresAt p (λ bytes. Spells bytes (map_after m (take count ops) (take count rs))) doubt
  pub texts : List Text
  pub since : contents_at p (changes o h) ≡ contents_at p (changes o seen) ++ texts
  pub flushed : flushes_in (take count ops) (take count rs) ≡ length texts

abbrev pub RunDoubts : Map → List KvOp → List KvReply → Opening → List Entry → List Entry → Place → Type 0
RunDoubts m ops rs o seen now p = (h rest : List Entry) (e : Entry) → now ≡ h ++ e ∷ rest → length seen ≤ length h → is_disk_fault e.reply ≡ true
    → LeavesPlace p (doubt_of o h e) ⊎ IsDoubted m ops rs o seen h p (doubt_of o h e)

pub doubted-none : (m : Map) (o : Opening) (seen : List Entry) (p : Place) → RunDoubts m [] [] o seen seen p
doubted-none m o seen p h rest e is few fault = absurd (too-short seen h rest e is few)

pub many-long : (ops : List KvOp) (rs : List KvReply) → AreAsMany ops rs → length rs ≡ length ops
many-long [] [] many = refl
many-long [] (r ∷ rs) many = absurd many
many-long (o ∷ ops) [] many = absurd many
many-long (o ∷ ops) (r ∷ rs) many = let next = many-long ops rs many in omega (arith, next)

module _ (m : Map) (ops : List KvOp) (rs : List KvReply) (o : KvOp) (r : KvReply) (many : AreAsMany ops rs) where
  -- A front of the commands is one of the commands with one more.
  module _ (count : ℕ) (within : count ≤ length ops) where
    ops-front : take count (ops ++ o ∷ []) ≡ take count ops
    ops-front = take-append-le count ops (o ∷ []) within

    rs-front : take count (rs ++ r ∷ []) ≡ take count rs
    rs-front = take-append-le count rs (r ∷ []) (let long = many-long ops rs many in omega (arith, long, within))

    more-within : count ≤ length (ops ++ o ∷ [])
    more-within = let long = length-append ops (o ∷ []) in omega (arith, long, within)

    map-front : map_after m (take count (ops ++ o ∷ [])) (take count (rs ++ r ∷ [])) ≡ map_after m (take count ops) (take count rs)
    map-front = (λ i. map_after m (ops-front i) (rs-front i))

    flushes-front : flushes_in (take count (ops ++ o ∷ [])) (take count (rs ++ r ∷ [])) ≡ flushes_in (take count ops) (take count rs)
    flushes-front = (λ i. flushes_in (ops-front i) (rs-front i))

  ops-all : take (length ops) ops ≡ ops
  ops-all = take_all (length ops) ops (omega arith)

  rs-all : take (length ops) rs ≡ rs
  rs-all = take_all (length ops) rs (let long = many-long ops rs many in omega (arith, long))

  pub doubted-more : (q : Opening) (a b c more : List Entry) (p : Place) (texts : List Text) → c ≡ b ++ more → RunDoubts m ops rs q a b p → DoubtsStore q b c p (λ bytes. Spells bytes (map_after m ops rs))
      → contents_at p (changes q b) ≡ contents_at p (changes q a) ++ texts → length texts ≡ flushes_in ops rs → RunDoubts m (ops ++ o ∷ []) (rs ++ r ∷ []) q a c p
  doubted-more q a b c more p texts grown first one stored flushed h rest e is few fault = elim (split-cons b more h rest e (sym grown ∙ is)) [
    | inl l ↦ elim (first h l.0 e l.1 few fault) [
      | inl leaves ↦ inl leaves
      | inr d ↦ inr (record {
        count = d.count;
        within = more-within d.count d.within;
        stores = subst (λ (n : Map). StoresAt p (λ bytes. Spells bytes n) (doubt_of q h e)) (sym (map-front d.count d.within)) d.stores;
        texts = d.texts;
        since = d.since;
        flushed = flushes-front d.count d.within ∙ d.flushed;
      })
    ]
    | inr l ↦
        let long = ap length l.1 ∙ length-append b l.0 in
        let all : length ops ≤ length ops = omega arith in
        elim (one h rest e is (omega (arith, long)) fault) [
          | inl leaves ↦ inl leaves
          | inr s ↦ inr (record {
            count = length ops;
            within = more-within (length ops) all;
            stores = subst (λ (n : Map). StoresAt p (λ bytes. Spells bytes n) (doubt_of q h e)) (sym (map-front (length ops) all ∙ (λ i. map_after m (ops-all i) (rs-all i)))) s.0;
            texts = texts;
            since = s.1 ∙ stored;
            flushed = flushes-front (length ops) all ∙ (λ i. flushes_in (ops-all i) (rs-all i)) ∙ sym flushed;
          })
        ]
  ]
