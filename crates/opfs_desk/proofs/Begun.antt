-- What a desk holds when it begins.
use Rattle.std.proofs.Common.{◌≡◌, ℕ, ◌≢◌, ◌⊎◌, zero, suc, ◌+◌, ◌<◌, ◌≤◌, true, false, is_some, map, List, [], ◌∷◌, length, replicate, None, refl, sym, ap, subst, ◌∙◌, inl, inr, arith}
use Rattle.std.specs.Prelude.{IsTrue, slice_get, slice_set, unwrap_or, nat_eq, nat_lt, nat_le, ◌||◌}
use Rattle.std.specs.List.{AllByRecursion}
use Rattle.std.specs.Vec.{vec_capacity}
use Rattle.std.proofs.lemmas.Bool.{cases_eq, eqb-true, false≢true, and_from, lt-ltb, le-leb}
use Rattle.std.proofs.lemmas.List.{length-set, length-map, get_or-set_other, length-replicate}
use Rattle.std.proofs.lemmas.Grind.{get_or-set_at}
use Rattle.opfs_blocks.specs.Sets.{Used, is_used, marked}
use Rattle.opfs_blocks.proofs.SetLemmas.{length-marked}
use Rattle.opfs_books.specs.Stored.Spelled.{stored_built}
use Rattle.opfs_books.specs.Laws.Books.{Fixed, AreBooks}
use Rattle.opfs_books.specs.Opened.{IsOpened}
use Rattle.opfs_data.specs.Rows.{Rows, row_of, kept_count}
use Rattle.opfs_data.proofs.WriteLemmas.{all_append}
use Rattle.opfs_pages.specs.HistoryLaws.Open.{if_open, open_at}
use Rattle.opfs_pages.specs.HistoryLaws.Spaced.{AreHolders, AreSpaced}
use Rattle.opfs_desk_steps.specs.Parts.Held.{AreTied, AreHeld, AreHeldWhole, HaveOwnKeys}
use Rattle.opfs_desk_steps.specs.Parts.Seen.{machine_in, tree_in, book_in}
use Rattle.opfs_desk_steps.specs.declared.parts.parts.Ledger.{Ledger}
use Rattle.opfs_desk_steps.specs.declared.parts.parts.OpenPages.{OpenPages}
use Rattle.opfs_hist.specs.declared.entry.Entry.{Entry}
use Rattle.opfs_image.specs.Agreeing.{built_in}
use Rattle.opfs_image.specs.Superblock.{area_bytes, data_base, image_size}
use Rattle.opfs_image.specs.declared.recovered.Recovered.{Recovered}
use Rattle.opfs_machine.specs.declared.own.Outline.{Outline}
use Rattle.opfs_machine.specs.declared.state.Agent.{Agent}
use Rattle.opfs_machine.specs.Agents.{agent_in, nobody, own_of}
use Rattle.opfs_books.specs.Openings.Openings.{fixed_by, limits_by, caller_by}
use Rattle.opfs_outside.specs.Moments.{Elapses}
use Rattle.opfs_outside.specs.declared.disk.Disk.{Ghosts as DiskWords}
use Rattle.opfs_records.specs.Replay.Built.{Built, all_extents, named, has_block, is_once, used_by, IsSound, IsSoundRow}
use Rattle.opfs_records.proofs.replay.Holding.{all_both, are_below, is_within_size}
use Rattle.opfs_pages.specs.RowCalls.Plans.{shelf}
use Rattle.opfs_register.specs.Seating.{agent_begun}
use Rattle.opfs_register.specs.declared.seat.Who.{Who}
use Rattle.opfs_space.specs.Holders.{Holders, AreBlocks, IsFirst}
use Rattle.opfs_space.specs.Room.{Machine}
use Rattle.opfs_space.specs.Spaces.{SpaceSeen}
use Rattle.opfs_state.specs.Applied.{opened}
use Rattle.opfs_laws.specs.Steady.Steady.{is_steady}
use Rattle.opfs_space.proofs.FileBlocks.{has_named, has_once}
use Rattle.opfs_tree.specs.Rows.{Rows as Tree, extents_of}
use Rattle.opfs_tree.specs.declared.row.Row.{Row}
use Rattle.opfs_tree.specs.declared.row.Row.TheVariants as row

-- ---- no row is open

none-own : (agents : List Who) (i n : ℕ) → own_of {R = Outline} (unwrap_or (slice_get (map agent_begun agents) i) nobody) n ≡ None
none-own [] i zero = refl
none-own [] i (suc n) = refl
none-own (a ∷ rest) zero zero = refl
none-own (a ∷ rest) zero (suc n) = refl
none-own (a ∷ rest) (suc i) n = none-own rest i n

none-of : (agents : List Who) (k n : ℕ) → own_of {R = Outline} (agent_in (map agent_begun agents) k) n ≡ None
none-of agents zero zero = refl
none-of agents zero (suc n) = refl
none-of agents (suc i) n = none-own agents i n

pub none-open : (m : Machine) (agents : List Who) (k n : ℕ) → m.agents ≡ map agent_begun agents → open_at m k n ≡ None
none-open m agents k n is = ap (λ (xs : List (Agent Outline)). if_open (own_of (agent_in xs k) n)) is ∙ ap if_open (none-of agents k n)

-- ---- the used blocks

marked-stays : (xs : List ℕ) (used : Used) (b : ℕ) → b < length used → is_used used b ≡ true → is_used (marked true xs used) b ≡ true
marked-stays [] used b within is = is
marked-stays (x ∷ xs) used b within is =
    marked-stays xs (slice_set used x true) b (subst (λ n. b < n) (sym (length-set used x true)) within) (here (cases_eq b x))
  where
    here : (b ≡ x) ⊎ (b ≢ x) → is_used (slice_set used x true) b ≡ true
    here (inl same) = get_or-set_at used x b true true same (subst (λ n. n < length used) same within)
    here (inr far) = get_or-set_other used x b true true far ∙ is

marked-has : (xs : List ℕ) (used : Used) (b : ℕ) → b < length used → has_block xs b ≡ true → is_used (marked true xs used) b ≡ true
marked-has [] used b within has = absurd (false≢true has)
marked-has (x ∷ xs) used b within has =
    elim (nat_eq b x) as (λ t. nat_eq b x ≡ t → (t || has_block xs b) ≡ true → is_used (marked true (x ∷ xs) used) b ≡ true) [
      | true ↦ λ same h. marked-stays xs (slice_set used x true) b (subst (λ n. b < n) (sym (length-set used x true)) within) (set-at (eqb-true b x same))
      | false ↦ λ far h. marked-has xs (slice_set used x true) b (subst (λ n. b < n) (sym (length-set used x true)) within) h
    ] refl has
  where
    set-at : b ≡ x → is_used (slice_set used x true) b ≡ true
    set-at same = get_or-set_at used x b true true same (subst (λ n. n < length used) same within)

-- ---- the files' blocks lie within the image

within-row : (size : ℕ) (r : Row) → IsSoundRow size r → AllByRecursion (λ e. is_within_size size e ≡ true) (extents_of r)
within-row size row.Dir sound = tt
within-row size (row.File f) sound =
    all_both (λ e. 0 < e.count) (λ e. e.start + e.count ≤ size) (λ e. is_within_size size e ≡ true)
    (λ e some below. and_from (nat_lt 0 e.count) (nat_le (e.start + e.count) size) (lt-ltb 0 e.count some) (le-leb (e.start + e.count) size below)) f.extents sound.some sound.below

within-rows : (size : ℕ) (t : Tree) → AllByRecursion (λ e. IsSoundRow size e.1) t → AllByRecursion (λ e. is_within_size size e ≡ true) (all_extents t)
within-rows size [] sound = tt
within-rows size (e ∷ es) sound = all_append (λ x. is_within_size size x ≡ true) (extents_of e.1) (all_extents es) (within-row size e.1 sound.0) (within-rows size es sound.1)

pub named-below : (size : ℕ) (t : Tree) → IsSound size t → AllByRecursion (λ x. x < size) (named t)
named-below size t sound = are_below size (all_extents t) (within-rows size t sound.files)

-- ---- who has which block

-- The law of the first blocks.
abbrev pub FirstBlocks : Type 0
FirstBlocks = (h : Holders) (used : Used) → IsFirst h used → AreBlocks h used (replicate (length used) false)

below-of : (size : ℕ) (xs : List ℕ) (b : ℕ) → AllByRecursion (λ x. x < size) xs → has_block xs b ≡ true → b < size
below-of size [] b all has = absurd (false≢true has)
below-of size (x ∷ xs) b all has =
    elim (nat_eq b x) as (λ t. nat_eq b x ≡ t → (t || has_block xs b) ≡ true → b < size) [
      | true ↦ λ same h. subst (λ n. n < size) (sym (eqb-true b x same)) all.0
      | false ↦ λ far h. below-of size xs b all.1 h
    ] refl has

pub used-long : (size : ℕ) (t : Tree) (used : Used) → used ≡ used_by size t → length used ≡ size
used-long size t used is = ap length is ∙ length-marked true (named t) (replicate size false) ∙ length-replicate size false

module _ (first : FirstBlocks) (m : Machine) (t : Tree) (size : ℕ) (used own : Used) (limits : m.limits.blocks ≡ size) (used-are : used ≡ used_by size t) (own-are : own ≡ replicate size false) (below : AllByRecursion (λ x. x < size) (named t))
    (once : IsTrue (is_once (named t))) where
  long : length used ≡ size
  long = used-long size t used used-are

  grounded : (b : ℕ) → has_block (named t) b ≡ true → (b < length used) × (is_used used b ≡ true)
  grounded b has =
      let under = below-of size (named t) b below has in (
        omega (arith, under, long),
        ap (λ (u : Used). is_used u b) used-are ∙ marked-has (named t) (replicate size false) b (omega (arith, under, length-replicate size false)) has,
      )

  firsts : (h : Holders) → AreHolders m (shelf t t []) h → IsFirst h used
  firsts h are = record {
    none = are.swap;
    grounded = λ b has. grounded b (sym (are.recorded b) ∙ has);
    inside = λ b has. are.recorded b ∙ (sym (are.rows b) ∙ has);
    held = λ f b has. are.rows b ∙ has_named t f b (sym (are.has f b) ∙ has);
    once = λ f g b one two. has_once t f g b once (sym (are.has f b) ∙ one) (sym (are.has g b) ∙ two);
  }

  pub begun-spaced : (space : SpaceSeen) → space.used ≡ used → space.own ≡ own → AreSpaced m (shelf t t []) space
  begun-spaced space same mine = record {
    size = ap length same ∙ long ∙ sym limits;
    own_size = ap length mine ∙ ap length own-are ∙ length-replicate size false ∙ sym long ∙ sym (ap length same);
    blocks = λ h are.
        subst (λ (u : Used). AreBlocks h u space.own) (sym same)
        (subst (λ (o : Used). AreBlocks h used o) (sym (mine ∙ own-are ∙ ap (λ n. replicate n false) (sym long))) (first h used (firsts h are)));
  }

-- ---- all of it

pub begun-held : {D : Type 0} (w : DiskWords D) (f : Fixed D) (recorded : Built) (l : Ledger D) (p : OpenPages) (agents : List Who) → AreBooks w f recorded (book_in l) l.journal → l.books.history ≡ []
    → (machine_in l).agents ≡ map agent_begun agents → p.swap ≡ [] → AreSpaced (machine_in l) (shelf recorded.rows (tree_in l) []) p.space → AreTied w f l p → recorded ≡ (book_in l).rows
    → AreHeldWhole w f recorded l p
begun-held w f recorded l p agents books none who empty spaced tied fresh = record {
  books = books;
  laid = record {
    rows = λ k n. ap (λ (s : Rows). is_some (row_of k n s)) empty ∙ sym (ap (λ x. is_some x) (none-open (machine_in l) agents k n who));
    there = λ k n i steady. absurd (false≢true (sym (ap (λ (h : List Entry). is_steady f.opening h k n i) none) ∙ steady));
    told = λ t. record { begins = λ k n i steady. absurd (false≢true (sym (ap (λ (h : List Entry). is_steady f.opening h k n i) none) ∙ steady)) };
    spaced = subst (λ (s : Rows). AreSpaced (machine_in l) (shelf recorded.rows (tree_in l) s) p.space) (sym empty) spaced;
  };
  tied = tied;
  fresh = λ x. fresh;
}

-- ---- over a recovered image

module _ {D : Type 0} (w : DiskWords D) (from : Recovered D w) (agents : List Who) (l : Ledger D) (p : OpenPages) where
  abbrev f : Fixed D
  f = fixed_by w from agents

  abbrev recorded : Built
  recorded = built_in from.tree from.shed

  abbrev m : Machine
  m = opened from.tree from.shed (limits_by from.geometry) agents

  pub made-held : FirstBlocks → IsOpened w f recorded m from.tree (area_bytes from.geometry) from.journal → HaveOwnKeys f.opening → length agents ≤ 64
      → AreBooks w f recorded (book_in l) l.journal → l.books.history ≡ [] → machine_in l ≡ m → tree_in l ≡ from.tree → l.books.state.store.prepared.place ≡ None
      → l.journal.disk ≡ from.journal.disk → from.geometry.blocks ≤ vec_capacity l.freed → p.swap ≡ [] → p.space.used ≡ from.map → p.space.own ≡ replicate from.geometry.blocks false → p.base ≡ data_base from.geometry
      → AreHeld w f (record { ledger = l; pages = p })
  made-held first is keys few books history machine tree idle disk freed swap used own base =
      let spaced : AreSpaced (machine_in l) (shelf from.tree from.tree []) p.space =
      begun-spaced first (machine_in l) from.tree from.geometry.blocks from.map (replicate from.geometry.blocks false) (ap (λ (x : Machine). x.limits.blocks) machine) from.agrees.parts.used_are refl
      (named-below from.geometry.blocks from.tree from.agrees.parts.sound) from.agrees.parts.sound.once p.space used own in
      record {
        recorded = recorded;
        are =
            begun-held w f recorded l p agents books history (ap (λ (x : Machine). x.agents) machine) swap
            (subst (λ (t : Tree). AreSpaced (machine_in l) (shelf from.tree t []) p.space) (sym tree) spaced)
            (record {
              range = from.agrees.range;
              base = base;
              size = subst (λ (d : D). image_size from.geometry ≤ w.size d) (sym disk) from.journal_of.length;
              freed = freed;
              agents = omega (arith, few, length-map agents caller_by);
              keys = keys;
              quota = refl;
              few = λ x. ap kept_count swap;
            })
            (sym ((λ i. stored_built (tree i) (machine i).persistent) ∙ is.rows));
        idle = idle;
      }

-- no time has gone by
pub time-begun : {D : Type 0} (w : DiskWords D) (begun now : D) → now ≡ begun → Elapses w.moment w.since begun now
time-begun w begun now same =
    subst (λ x. Elapses w.moment w.since begun x) (sym same) (record { later = omega arith; split = λ t c le left. inl left; keeps = λ t c le left. left })
