-- What is read of a state is the same, or in the other form, in its other form.
use Rattle.std.proofs.Common.{◌≡◌, ℕ, zero, suc, true, false, cond, ◌&&◌, List, [], ◌∷◌, map, Option, Some, None, option_map, unwrap_or, refl, ap, ◌∙◌}
use Rattle.std.specs.Prelude.{slice_get}
use Rattle.std.specs.List.{list_all, enumerate_from}
use Rattle.std.specs.FinMap.Entries.{find}
use Rattle.std.specs.Ordering.{eq_by_cmp}
use Rattle.std.proofs.lemmas.Option.{slice_get-map}
use Rattle.opfs_base.specs.Places.{Place, place_cmp, place_of, child_name, is_within}
use Rattle.opfs_base.specs.Texts.{Text}
use Rattle.opfs_base.specs.declared.locator.Kind.{Kind}
use Rattle.opfs_base.specs.declared.locator.Kind.TheVariants as kind
use Rattle.opfs_base.specs.declared.locator.Locator.{Locator}
use Rattle.opfs_hist.specs.declared.op.Mode.{Mode}
use Rattle.opfs_locks.specs.Taking.{Lock}
use Rattle.opfs_machine.specs.declared.own.Outline.{Outline}
use Rattle.opfs_machine.specs.declared.state.Agent.{Agent}
use Rattle.opfs_machine.specs.declared.state.FileRow.{FileRow}
use Rattle.opfs_machine.specs.declared.state.Row.{Row}
use Rattle.opfs_machine.specs.declared.state.Row.TheVariants as row
use Rattle.opfs_machine.specs.declared.state.State.{State}
use Rattle.opfs_machine.specs.Agents.{agent_of, own_of, nobody, open_stream, open_handle, stream_in, handle_in, of_row, party_with, party_of, is_posted, is_no_help, others_stuck}
use Rattle.opfs_machine.specs.Contents.{Contents}
use Rattle.opfs_machine.specs.Rows.{Rows, row_at, file_at, file_of, is_of_kind, holds_kind, wants, is_located, rows_within, children_of, has_children, taken_lock, first_locked}
use Rattle.opfs_machine.specs.Rulings.{lock_in, size_in}
use Rattle.opfs_laws.specs.Lengths.Outlines.{on_file, on_row, on_entry, on_agent, on_state}
use Rattle.opfs_laws.proofs.lengths.Lists.{map-filter, map-any, map-all, map-found, map-numbered}

-- Two machines, and how the first one's contents and own rows are told in the second.
pub record Fits {F R G Q : Type 0} (c : Contents F R) (d : Contents G Q) (f : F → G) (g : R → Q) : Type 0 where
  pub empty : d.empty ≡ f c.empty
  pub size : (x : F) → d.size (f x) ≡ c.size x
  pub overwritten : (x : F) (position : ℕ) (new : Text) → d.overwritten (f x) position new ≡ f (c.overwritten x position new)
  pub cut : (x : F) (size : ℕ) → d.cut (f x) size ≡ f (c.cut x size)
  pub outline : (r : R) → d.outline (g r) ≡ c.outline r
  pub stream : (file : Place) (x : F) (reserve : ℕ) → d.stream file (f x) reserve ≡ g (c.stream file x reserve)
  pub written : (r : R) (position : ℕ) (new : Text) (reserve : ℕ) → d.written (g r) position new reserve ≡ g (c.written r position new reserve)
  pub truncated : (r : R) (size reserve : ℕ) → d.truncated (g r) size reserve ≡ g (c.truncated r size reserve)
  pub sought : (r : R) (offset : ℕ) → d.sought (g r) offset ≡ g (c.sought r offset)
  pub closed_stream : d.closed_stream ≡ g c.closed_stream
  pub handle : (file : Place) (mode : Mode) → d.handle file mode ≡ g (c.handle file mode)
  pub moved : (r : R) (cursor reserve : ℕ) → d.moved (g r) cursor reserve ≡ g (c.moved r cursor reserve)
  pub closed_handle : d.closed_handle ≡ g c.closed_handle
  pub snapshot : (x : F) → d.snapshot (f x) ≡ g (c.snapshot x)
  pub iterator : (dir : Locator) → d.iterator dir ≡ g (c.iterator dir)
  pub advanced : (r : R) (names : List Text) → d.advanced (g r) names ≡ g (c.advanced r names)

-- What rows alone tell.
module _ {F G : Type 0} (f : F → G) where
  pub find-on : (p : Place) (es : Rows F) → find place_cmp p (map (on_entry f) es) ≡ option_map (on_row f) (find place_cmp p es)
  find-on p [] = refl
  find-on p (e ∷ es) =
      elim (eq_by_cmp place_cmp p e.0) as (λ b. cond b (Some (on_row f e.1)) (find place_cmp p (map (on_entry f) es)) ≡ option_map (on_row f) (cond b (Some e.1) (find place_cmp p es))) [
        | true ↦ refl
        | false ↦ find-on p es
      ]

  pub file_of-on : (o : Option (Row F)) → file_of (option_map (on_row f) o) ≡ option_map (on_file f) (file_of o)
  file_of-on None = refl
  file_of-on (Some row.Directory) = refl
  file_of-on (Some (row.File x)) = refl

  pub kind-on : (k : Kind) (r : Row F) → is_of_kind k (on_row f r) ≡ is_of_kind k r
  kind-on kind.File row.Directory = refl
  kind-on kind.File (row.File x) = refl
  kind-on kind.Directory row.Directory = refl
  kind-on kind.Directory (row.File x) = refl

  pub holds-on : (k : Kind) (o : Option (Row F)) → holds_kind k (option_map (on_row f) o) ≡ holds_kind k o
  holds-on k None = refl
  holds-on k (Some r) = kind-on k r

  pub taken-on : (r : Row F) → taken_lock (on_row f r) ≡ taken_lock r
  taken-on row.Directory = refl
  taken-on (row.File x) = refl

  abbrev first_by : Option Lock → Option Lock → Option Lock
  first_by o rest = elim o [ Some lock ↦ Some lock | None ↦ rest ]

  pub first-on : (es : Rows F) → first_locked (map (on_entry f) es) ≡ first_locked es
  first-on [] = refl
  first-on (e ∷ es) = λ i. first_by (taken-on e.1 i) (first-on es i)

  pub lock-on : (o : Option (FileRow F)) → lock_in (option_map (on_file f) o) ≡ lock_in o
  lock-on None = refl
  lock-on (Some x) = refl

unwrap-on : {R Q : Type 0} (g : R → Q) (o : Option (Agent R)) → unwrap_or (option_map (on_agent g) o) nobody ≡ on_agent g (unwrap_or o nobody)
unwrap-on g None = refl
unwrap-on g (Some a) = refl

pub own-on : {R Q : Type 0} (g : R → Q) (a : Agent R) (n : ℕ) → own_of (on_agent g a) n ≡ option_map g (own_of a n)
own-on g a zero = refl
own-on g a (suc n) = slice_get-map g a.own n

module _ {F R G Q : Type 0} (f : F → G) (g : R → Q) (s : State F R) where
  abbrev on : State G Q
  on = on_state f g s

  pub agent-on : (k : ℕ) → agent_of on k ≡ on_agent g (agent_of s k)
  agent-on zero = refl
  agent-on (suc i) = ap (λ o. unwrap_or o nobody) (slice_get-map (on_agent g) s.agents i) ∙ unwrap-on g (slice_get s.agents i)

  pub key-on : (k : ℕ) → (agent_of on k).key ≡ (agent_of s k).key
  key-on k = ap (λ a. a.key) (agent-on k)

  pub row-at-on : (k n : ℕ) → own_of (agent_of on k) n ≡ option_map g (own_of (agent_of s k) n)
  row-at-on k n = ap (λ a. own_of a n) (agent-on k) ∙ own-on g (agent_of s k) n

  pub row-on : (p : Place) → row_at on p ≡ option_map (on_row f) (row_at s p)
  row-on p = find-on f p s.rows

  pub file-on : (p : Place) → file_at on p ≡ option_map (on_file f) (file_at s p)
  file-on p = ap file_of (row-on p) ∙ file_of-on f (row_at s p)

  pub located-on : (k : Kind) (at : Locator) → is_located on k at ≡ is_located s k at
  located-on k at = ap (λ b. wants k at && b) (ap (holds_kind k) (row-on (place_of at)) ∙ holds-on f k (row_at s (place_of at)))

  pub children-on : (dir : Place) → children_of on dir ≡ children_of s dir
  children-on dir = map-found (on_entry f) (λ e. child_name dir e.0) s.rows

  pub has-on : (dir : Place) → has_children on dir ≡ has_children s dir
  has-on dir = map-any (on_entry f) _ s.rows

  pub within-on : (p : Place) → rows_within on p ≡ map (on_entry f) (rows_within s p)
  within-on p = map-filter (on_entry f) (λ e. is_within p e.0) s.rows

  pub lock-at-on : (p : Place) → lock_in (file_at on p) ≡ lock_in (file_at s p)
  lock-at-on p = ap lock_in (file-on p) ∙ lock-on f (file_at s p)

  pub party-on : (k : ℕ) → party_of on k ≡ party_of s k
  party-on k = ap (λ o. party_with o k) (key-on k)

  pub posted-on : (k : ℕ) (tag : Text) → is_posted on (party_of on k) tag ≡ is_posted s (party_of s k) tag
  posted-on k tag = ap (λ p. is_posted s p tag) (party-on k)

  pub stuck-on : (k : ℕ) → others_stuck on k ≡ others_stuck s k
  stuck-on k =
      ap (list_all (is_no_help on k (party_of on k))) (map-numbered (on_agent g) 1 s.agents)
      ∙ map-all (λ e. (e.0, on_agent g e.1)) (is_no_help on k (party_of on k)) (is_no_help s k (party_of on k)) (λ e. refl) (enumerate_from 1 s.agents)
      ∙ ap (λ p. list_all (is_no_help s k p) (enumerate_from 1 s.agents)) (party-on k)

module _ {F R G Q : Type 0} (c : Contents F R) (d : Contents G Q) (f : F → G) (g : R → Q) (fits : Fits c d f g) where
  pub size-on : (o : Option (FileRow F)) → size_in d (option_map (on_file f) o) ≡ size_in c o
  size-on None = refl
  size-on (Some x) = fits.size x.present

  of_row-on : {A : Type 0} (h : Outline → Option A) (o : Option R) → of_row (λ r. h (d.outline r)) (option_map g o) ≡ of_row (λ r. h (c.outline r)) o
  of_row-on h None = refl
  of_row-on h (Some r) = ap h (fits.outline r)

  pub stream-on : (s : State F R) (k n : ℕ) → open_stream d (on_state f g s) k n ≡ open_stream c s k n
  stream-on s k n = ap (of_row (λ r. stream_in (d.outline r))) (row-at-on f g s k n) ∙ of_row-on stream_in (own_of (agent_of s k) n)

  pub handle-on : (s : State F R) (k n : ℕ) → open_handle d (on_state f g s) k n ≡ open_handle c s k n
  handle-on s k n = ap (of_row (λ r. handle_in (d.outline r))) (row-at-on f g s k n) ∙ of_row-on handle_in (own_of (agent_of s k) n)
