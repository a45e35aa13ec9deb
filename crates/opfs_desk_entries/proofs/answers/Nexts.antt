-- What a next answers and gives: the machine's, by the rows of the tree.
use Rattle.std.proofs.Common.{◌≡◌, ℕ, true, false, List, length, Option, Some, None, option_map, refl, sym, ap, subst, ◌∙◌}
use Rattle.std.proofs.lemmas.Bool.{false≢true}
use Rattle.std.specs.FinMap.Entries.{find as find_row}
use Rattle.std.specs.List.{filter_map}
use Rattle.opfs_store.specs.Acts.Acting.{gift_of}
use Rattle.opfs_store.specs.Acts.Asking.{given_by}
use Rattle.opfs_base.specs.Places.{Place, child, child_name, place_cmp, place_of}
use Rattle.opfs_base.specs.Texts.{Text}
use Rattle.opfs_base.specs.declared.locator.Kind.{Kind}
use Rattle.opfs_base.specs.declared.locator.Locator.{Locator}
use Rattle.opfs_state_rows.specs.Changes.Asking.{growth_of, made_at, place_for}
use Rattle.opfs_hist.specs.declared.op.Op.{Op}
use Rattle.opfs_hist.specs.declared.op.Op.TheVariants as op
use Rattle.opfs_hist.specs.declared.reply.Reply.{Reply}
use Rattle.opfs_hist.specs.declared.reply.Reply.TheVariants as reply
use Rattle.opfs_laws.specs.Lengths.Outlines.{in_lengths_of, on_row}
use Rattle.opfs_laws.proofs.lengths.Readers.{children-on, row-on}
use Rattle.opfs_machine.specs.declared.own.Own.{Own}
use Rattle.opfs_machine.specs.declared.state.Row.{Row as Line}
use Rattle.opfs_machine.specs.declared.state.Row.TheVariants as line
use Rattle.opfs_machine.specs.declared.state.Sizes.{Sizes}
use Rattle.opfs_machine.specs.declared.state.State.{State}
use Rattle.opfs_machine.specs.Agents.{agent_of, own_of}
use Rattle.opfs_machine.specs.Contents.{next_of, outline_of}
use Rattle.opfs_machine.specs.Replies.{answer, child_reply, given_in, kind_in}
use Rattle.opfs_machine.specs.Rows.{row_at, children_of}
use Rattle.opfs_machine.specs.Steps.{is_refusal}
use Rattle.opfs_state_rows.specs.Standing.Seen.{Machine, line_of, lines_of}
use Rattle.opfs_state_rows.proofs.standing.Lines.{lines-at}
use Rattle.opfs_tree.specs.Rows.{Rows as Tree, least_not_in, kind_of, row_at as tree_row_at, children_of as tree_children}
use Rattle.opfs_tree.specs.declared.row.Row.{Row}
use Rattle.opfs_tree.specs.declared.row.Row.TheVariants as row
use Rattle.opfs_desk_steps.specs.Iterating.Reached.{AreGivenUpTo, IsUpTo}
use Rattle.opfs_desk_entries.specs.Answers.Next.{IsNextOf, found_gift, found_reply, is_next, names_in}
use Rattle.opfs_desk_entries.specs.Answers.Telling.{TellsOnly}
use Rattle.opfs_desk_entries.specs.declared.answers.next.NextChild.{NextChild}
use Rattle.opfs_desk_entries.proofs.answers.Children.{least-kind, least-name}

line-kind : (x : Line Text) (r : Row) → on_row length x ≡ line_of r → kind_in (Some x) ≡ kind_of r
line-kind line.Directory row.Dir is = refl
line-kind line.Directory (row.File f) is = cc
line-kind (line.File x) row.Dir is = cc
line-kind (line.File x) (row.File f) is = refl

some-line : (a b : Line ℕ) → ◌≡◌ {A = Option (Line ℕ)} (Some a) (Some b) → a ≡ b
some-line a b is = cc

some-kind : (a b : Kind) → ◌≡◌ {A = Option Kind} (Some a) (Some b) → a ≡ b
some-kind a b is = cc

kind-by : (o : Option (Line Text)) (r : Option Row) (k : Kind) → option_map (on_row length) o ≡ option_map line_of r → option_map kind_of r ≡ Some k → kind_in o ≡ k
kind-by None None k same is = cc
kind-by None (Some r) k same is = cc
kind-by (Some x) None k same is = cc
kind-by (Some x) (Some r) k same is = line-kind x r (some-line _ _ same) ∙ some-kind _ _ is

module _ (s : State Text Own) (t : Tree) (lines : (in_lengths_of s).rows ≡ lines_of t) where
  row-is : (place : Place) (k : Kind) → option_map kind_of (find_row place_cmp place t) ≡ Some k → kind_in (row_at s place) ≡ k
  row-is place k is =
      kind-by (row_at s place) (tree_row_at place t) k
      (sym (row-on length outline_of s place) ∙ (ap (λ rows. find_row place_cmp place rows) lines ∙ lines-at place t)) is

  child-by : (past : List Text) (dir : Place) (found : Option (Text × Kind)) → least_not_in past (tree_children dir t) ≡ found → child_reply s dir (option_map (λ (c : Text × Kind). c.0) found) ≡ found_reply found
  child-by past dir None is = refl
  child-by past dir (Some c) is = ap (λ k. reply.Child k c.0) (row-is (child dir c.0) c.1 (least-kind past dir t c is))

  pub next-answered : (past : List Text) (z : Sizes) (k n : ℕ) (dir : Locator) → past ≡ given_in (own_of (agent_of s k) n) → answer s z k (op.Next n dir) ≡ found_reply (least_not_in past (tree_children (place_of dir) t))
  unfolding answer
  next-answered past z k n dir given =
      ap (λ (xs : List Text). child_reply s (place_of dir) (next_of xs (children_of s (place_of dir)))) (sym given)
      ∙ (ap (λ (names : List Text). child_reply s (place_of dir) (next_of past names)) (sym (children-on length outline_of s (place_of dir)) ∙ ap (λ rows. filter_map (λ e. child_name (place_of dir) e.0) rows) lines)
      ∙ (ap (child_reply s (place_of dir)) (least-name past (place_of dir) t)
      ∙ child-by past (place_of dir) (least_not_in past (tree_children (place_of dir) t)) refl))

  pub next-given : (found : Option (Text × Kind)) (n : ℕ) (dir : Locator) → gift_of s (op.Next n dir) (found_reply found) ≡ found_gift dir found
  unfolding gift_of
  next-given None n dir = refl
  next-given (Some c) n dir = refl

-- ---- by the call's word

next-refuses : (found : Option (Text × Kind)) → is_refusal (found_reply found) ≡ false
next-refuses None = refl
next-refuses (Some c) = refl

pub record IsNextTold (s : State Text Own) (z : Sizes) (k : ℕ) (o : Op) (next : NextChild) : Type 0 where
  pub reply : next.reply ≡ answer s z k o
  pub told : next.told ≡ answer s z k o
  pub gift : next.gift ≡ gift_of s o next.told
  pub done : is_refusal next.told ≡ false

pub next-told : (s : State Text Own) (t : Tree) → (in_lengths_of s).rows ≡ lines_of t → (past : List Text) (z : Sizes) (k : ℕ) (o : Op) (next : NextChild) → is_next o ≡ true → past ≡ given_by s k o → IsNextOf t o past next → IsNextTold s z k o next
next-told s t lines past z k (op.Next n dir) next h given is =
    let found = least_not_in past (tree_children (place_of dir) t) in
    let its = next-answered s t lines past z k n dir given in
    record {
      reply = is.reply ∙ sym its;
      told = is.told ∙ sym its;
      gift = is.gift ∙ sym (ap (λ (r : Reply). gift_of s (op.Next n dir) r) is.told ∙ next-given s t lines found n dir);
      done = ap (λ (r : Reply). is_refusal r) is.told ∙ next-refuses found;
    }
next-told s t lines past z k o next h given is = absurd (false≢true h)

pub next-makes-none : (m : Machine) (k : ℕ) (o : Op) → is_next o ≡ true → place_for m k o ≡ None
unfolding made_at
next-makes-none m k (op.Next n dir) h = refl
next-makes-none m k o h = cc

pub next-only : (m : Machine) (k : ℕ) (o : Op) → is_next o ≡ true → TellsOnly m k o
unfolding growth_of made_at
next-only m k (op.Next n dir) h = record { word = refl; nothing = refl }
next-only m k o h = absurd (false≢true h)

-- ---- up to which name all was given

-- The names of a directory's children are the machine's.
names-by : (s : State Text Own) (t : Tree) → (in_lengths_of s).rows ≡ lines_of t → (dir : Place) → children_of s dir ≡ names_in t dir
names-by s t lines dir = sym (children-on length outline_of s dir) ∙ ap (λ rows. filter_map (λ e. child_name dir e.0) rows) lines

pub up-to-by : (s : State Text Own) (t : Tree) → (in_lengths_of s).rows ≡ lines_of t → (o : Op) (past : List Text) (last : Option Text) → IsUpTo (children_of s) o past last → IsUpTo (names_in t) o past last
up-to-by s t lines o past None is = is
up-to-by s t lines (op.Next n dir) past (Some last) is = subst (λ names. AreGivenUpTo past last names) (names-by s t lines (place_of dir)) is
up-to-by s t lines o past (Some last) is = tt
