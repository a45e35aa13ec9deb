-- The change of a call is what it spells, and it can be read.
use Rattle.std.proofs.Common.{◌≡◌, ℕ, ◌<◌, ◌≤◌, ◌^◌, Bool, true, false, cond, List, [], ◌∷◌, ◌++◌, length, Option, Some, None, Ok, refl, sym, ap, subst, ◌∙◌, arith}
use Rattle.std.specs.List.{AllByRecursion}
use Rattle.std.specs.FinMap.Entries.{find}
use Rattle.std.specs.Ordering.{is_eq, eq_by_cmp}
use Rattle.std.specs.declared.cmp.Ordering.{Ordering}
use Rattle.std.specs.declared.cmp.Ordering.TheVariants.{Less, Equal, Greater}
use Rattle.std.specs.Prelude.{◌&&◌, nat_le, is_some, option_map, IsTrue}
use Rattle.std.specs.List.{list_all}
use Rattle.std.specs.Str.{is_utf8}
use Rattle.std.proofs.lemmas.Bool.{leb-true, and_parts, false≢true}
use Rattle.std.proofs.lemmas.List.{length-append}
use Rattle.opfs_base.specs.Names.{is_valid_name}
use Rattle.opfs_base.specs.Places.{Place, place_cmp, place_of, child}
use Rattle.opfs_base.specs.Texts.{Text}
use Rattle.opfs_base.specs.Keys.{is_origin}
use Rattle.opfs_base.specs.Units.{is_bucket_name, is_bucket_byte, is_letter_or_digit, unit_of, bucket_of}
use Rattle.opfs_base.proofs.UnitLemmas.{origin_of-unit_of, bucket_of-unit_of, plain-from_is_origin}
use Rattle.opfs_base.specs.declared.locator.Kind.{Kind}
use Rattle.opfs_base.specs.declared.locator.Kind.TheVariants as kind
use Rattle.opfs_base.specs.declared.locator.Locator.{Locator}
use Rattle.opfs_books.specs.Stored.Spelled.{spelled_by, made_spelled, dir_spelled, CanHold}
use Rattle.opfs_books.proofs.stored.Ruling.{MayMake, may-make, may-remove}
use Rattle.opfs_state_rows.specs.Changes.Asking.{made_at, where_free, free_in, root_in}
use Rattle.opfs_state_rows.proofs.changes.Told.{located-directory}
use Rattle.opfs_codec.specs.Spelling.{IsText, is_key_text, is_origin_text, IsKey, IsName, IsPath, IsChange}
use Rattle.opfs_codec.specs.declared.change.Change.{Change as Spelled}
use Rattle.opfs_codec.specs.declared.change.Change.TheVariants.{MakeRoot, MakeDir}
use Rattle.opfs_codec.specs.declared.change.Format.TheVariants.{New}
use Rattle.opfs_commit.specs.Seen.{IsQuiet}
use Rattle.opfs_hist.specs.declared.op.Op.{Op}
use Rattle.opfs_hist.specs.declared.op.Op.TheVariants as op
use Rattle.opfs_laws.proofs.Gone.{then-gave, bind-gave, unless-gave}
use Rattle.opfs_laws.proofs.Spots.{exact_places}
use Rattle.opfs_machine.specs.declared.own.Own.{Own}
use Rattle.opfs_machine.specs.declared.state.Need.{Need}
use Rattle.opfs_machine.specs.declared.state.Row.{Row as Line}
use Rattle.opfs_machine.specs.declared.state.Sizes.{Sizes}
use Rattle.opfs_machine.specs.declared.state.State.{State}
use Rattle.opfs_machine.specs.Agents.{agent_of}
use Rattle.opfs_machine.specs.Contents.{in_bytes, in_lengths}
use Rattle.opfs_machine.specs.Effects.{moment_of}
use Rattle.opfs_machine.specs.Replies.{sizes_of}
use Rattle.opfs_machine.specs.Rows.{row_at}
use Rattle.opfs_machine.specs.Rulings.{ruling, get_directory_ruling, get_handle_ruling, remove_entry_ruling}
use Rattle.opfs_machine.specs.Steps.{judged, room_for}
use Rattle.opfs_records.specs.Replay.Built.{Built}
use Rattle.opfs_records.specs.Checkpoint.Written.{IsWritablePlace, IsWritableRow, stored_row, stored_rows}
use Rattle.opfs_space.specs.Room.{Machine}
use Rattle.opfs_state_rows.specs.Standing.Seen.{line_of, lines_of}
use Rattle.opfs_tree.specs.Rows.{Rows as Tree}
use Rattle.opfs_tree.specs.declared.row.Row.{Row}
use Rattle.opfs_tree.specs.declared.row.Row.TheVariants as row
use Rattle.opfs_desk_entries.specs.KeptBack.Keeping.{keeps_back, makes_root, is_well_named, root_place, entry_name, entry_place, change_of, HasOwnKey}
use Rattle.opfs_desk_entries.proofs.kept_back.Free.{none-of}

-- ---- what the ruling tells

handle-valid : (s : State Text Own) (k : Kind) (dir : Locator) (name : Text) (create : Bool) (need : Need) → get_handle_ruling s k dir name create ≡ Ok need → is_valid_name name ≡ true
unfolding get_handle_ruling
handle-valid s k dir name create need h = unless-gave _ _ (then-gave _ _ need h).0

remove-valid : (s : State Text Own) (dir : Locator) (name : Text) (recursive : Bool) (need : Need) → remove_entry_ruling s dir name recursive ≡ Ok need → is_valid_name name ≡ true
unfolding remove_entry_ruling
remove-valid s dir name recursive need h = unless-gave _ _ (then-gave _ _ need h).0

has-key : (m : Machine) (bucket : Text) (key : Option Text) → makes_root m bucket key ≡ true → is_some key ≡ true
has-key m bucket None h = h
has-key m bucket (Some origin) h = refl

ruled-valid : (m : Machine) (s : State Text Own) (z : Sizes) (k : ℕ) (o : Op) (need : Need) → keeps_back m k o ≡ true → ruling in_bytes s z k o ≡ Ok need → is_well_named (agent_of m k).key o ≡ true
unfolding ruling
ruled-valid m s z k (op.GetDirectory bucket) need h ruled = has-key m bucket (agent_of m k).key h
ruled-valid m s z k (op.GetDirectoryHandle dir name create) need h ruled = handle-valid s kind.Directory dir name create need ruled
ruled-valid m s z k (op.GetFileHandle dir name create) need h ruled = handle-valid s kind.File dir name create need ruled
ruled-valid m s z k (op.RemoveEntry dir name recursive) need h ruled = remove-valid s dir name recursive need ruled
ruled-valid m s z k o need h ruled = cc

pub name-valid : (m : Machine) (s : State Text Own) (k : ℕ) (o : Op) (units : List Text) → keeps_back m k o ≡ true → judged s k o ≡ Ok units → IsTrue (is_well_named (agent_of m k).key o)
unfolding judged
name-valid m s k o units h is =
    let both = bind-gave (ruling in_bytes s (sizes_of s k o) k o) (room_for in_bytes s (agent_of s k).key) units is in
    ruled-valid m s (sizes_of s k o) k o both.0 h both.1

bucket-valid : (s : Machine) (k : ℕ) (bucket : Text) (need : Need) → get_directory_ruling s k bucket ≡ Ok need → is_bucket_name bucket ≡ true
unfolding get_directory_ruling
bucket-valid s k bucket need h = unless-gave _ _ (then-gave _ _ need (bind-gave _ _ need h).2).0

-- ---- units that are written

short-origin : (o : Text) → is_origin_text o ≡ true → length o < 2 ^ 16
short-origin o is =
    let most = (and_parts (nat_le 1 (length o)) (nat_le (length o) 255) (and_parts (is_key_text o) (is_origin o) is).0).1 in
    omega (arith, leb-true (length o) 255 most)

short-bucket : (b : Text) → is_bucket_name b ≡ true → length b < 2 ^ 8
short-bucket [] is = cc
short-bucket (first ∷ more) is =
    let most = (and_parts (is_letter_or_digit first && list_all is_bucket_byte more) (nat_le (length more) 63) is).1 in
    omega (arith, leb-true (length more) 63 most)

pub root-key : (o b : Text) → IsText is_origin_text o → IsText is_bucket_name b → IsKey New (unit_of o b)
root-key o b good_o good_b =
    let plain = plain-from_is_origin o (and_parts (is_key_text o) (is_origin o) good_o.1).1 in
    let o-is = origin_of-unit_of o b plain in
    let b-is = bucket_of-unit_of o b plain in (
      subst (λ (t : Text). IsText is_origin_text t × (length t < 2 ^ 16)) (sym o-is) (good_o, short-origin o good_o.1),
      subst (λ (t : Text). IsText is_bucket_name t × (length t < 2 ^ 8)) (sym b-is) (good_b, short-bucket b good_b.1),
      ap (λ (t : Text). unit_of t (bucket_of (unit_of o b))) o-is ∙ ap (λ (t : Text). unit_of o t) b-is,
    )

root-written : (m : Machine) (bucket : Text) (key : Option Text) → makes_root m bucket key ≡ true → is_bucket_name bucket ≡ true → is_utf8 bucket ≡ true → HasOwnKey key → IsKey New (root_place bucket key).0
root-written m bucket None h valid text keys = absurd (false≢true h)
root-written m bucket (Some origin) h valid text keys = root-key origin bucket (keys origin refl) (text, valid)

-- ---- places that are written

place-of : (place : Place) (r : Row) → IsWritableRow place (stored_row r) → IsWritablePlace place
place-of place row.Dir h = h
place-of place (row.File f) h = h.0

equal-of : (o : Ordering) → is_eq o ≡ true → o ≡ Equal
equal-of Less is = cc
equal-of Equal is = refl
equal-of Greater is = cc

place-there : (q : Place) (t : Tree) → AllByRecursion (λ e. IsWritableRow e.0 e.1) (stored_rows t) → is_some (find place_cmp q (lines_of t)) ≡ true → IsWritablePlace q
place-there q [] all there = cc
place-there q (e ∷ es) all there =
    elim (eq_by_cmp place_cmp q e.0) as (λ b. eq_by_cmp place_cmp q e.0 ≡ b → is_some (cond b (Some (line_of e.1)) (find place_cmp q (lines_of es))) ≡ true → IsWritablePlace q) [
      | true ↦ λ same h. subst IsWritablePlace (sym (exact_places q e.0 (equal-of (place_cmp q e.0) same))) (place-of e.0 e.1 all.0)
      | false ↦ λ apart h. place-there q es all.1 h
    ] refl there

all-more : (xs : List Text) (x : Text) → AllByRecursion IsName xs → IsName x → AllByRecursion IsName (xs ++ x ∷ [])
all-more [] x all is = (is, tt)
all-more (y ∷ ys) x all is = (all.0, all-more ys x all.1 is)

child-path : (path : List Text) (name : Text) → IsPath path → length path ≤ 32 → is_utf8 name ≡ true → is_valid_name name ≡ true → length name ≤ 255 → IsPath (path ++ name ∷ [])
child-path path name is few text valid short =
    (omega (arith, few, length-append path (name ∷ [])), all-more path name is.1 ((text, valid), omega (arith, short)))

-- ---- the change

module _ (m : Machine) (t : Tree) (lines : m.rows ≡ lines_of t) (all : AllByRecursion (λ e. IsWritableRow e.0 e.1) (stored_rows t)) where
  written-at : (q : Place) → is_some (row_at m q) ≡ true → IsWritablePlace q
  written-at q there = place-there q t all (ap (λ rows. is_some (find place_cmp q rows)) (sym lines) ∙ there)

  made-again : (dir : Locator) (name : Text) → MayMake m dir name → is_utf8 name ≡ true → IsKey New dir.key × IsPath (dir.path ++ name ∷ [])
  made-again dir name may text =
      let above = written-at (place_of dir) (ap is_some (located-directory m dir may.located)) in
      let limits = and_parts _ _ may.limits in
      (above.0, child-path dir.path name above.1 above.2 text may.valid (leb-true (length name) 255 limits.0))

  pub again : (z : Sizes) (k : ℕ) (o : Op) (need : Need) (moment : ℕ) → keeps_back m k o ≡ true → ruling in_lengths m z k o ≡ Ok need → is_utf8 (entry_name o) ≡ true → moment < 2 ^ 64 → HasOwnKey (agent_of m k).key → IsChange New (change_of moment (entry_place (agent_of m k).key o) o)
  unfolding ruling IsChange
  again z k (op.GetDirectory bucket) need moment h ruled text small keys = root-written m bucket (agent_of m k).key h (bucket-valid m k bucket need ruled) text keys
  again z k (op.GetDirectoryHandle dir name create) need moment h ruled text small keys =
      made-again dir name (may-make m kind.Directory dir name create need (none-of (row_at m (child (place_of dir) name)) h) ruled) text
  again z k (op.GetFileHandle dir name create) need moment h ruled text small keys =
      let is = made-again dir name (may-make m kind.File dir name create need (none-of (row_at m (child (place_of dir) name)) h) ruled) text in
      (is.0, is.1, small)
  again z k (op.RemoveEntry dir name recursive) need moment h ruled text small keys =
      let is = written-at (child (place_of dir) name) (may-remove m dir name recursive need ruled) in
      (is.0, is.1)
  again z k o need moment h ruled text small keys = cc

dir-is : (unit : Text) (path : List Text) (name : Text) → dir_spelled unit (path ++ name ∷ []) ≡ MakeDir unit (path ++ name ∷ [])
dir-is unit [] name = refl
dir-is unit (x ∷ path) name = refl

root-spelled : (m : Machine) (bucket : Text) (moment : ℕ) (key : Option Text) → makes_root m bucket key ≡ true → made_spelled moment (free_in m (root_in (option_map (λ origin. unit_of origin bucket) key))) ≡ Some (MakeRoot (root_place bucket key).0)
root-spelled m bucket moment None h = absurd (false≢true h)
root-spelled m bucket moment (Some origin) h =
    let place : Place = (unit_of origin bucket, []) in
    ap (λ (x : Option (Line ℕ)). made_spelled moment (where_free x (place, kind.Directory))) (none-of (row_at m place) h)

pub spelled-is : (m : Machine) (t : Tree) (k : ℕ) (o : Op) (z : Sizes) → keeps_back m k o ≡ true → spelled_by m t k o z None ≡ Some (change_of (moment_of m k) (entry_place (agent_of m k).key o) o)
unfolding spelled_by made_at
spelled-is m t k (op.GetDirectory bucket) z h = root-spelled m bucket (moment_of m k) (agent_of m k).key h
spelled-is m t k (op.GetDirectoryHandle dir name create) z h =
    let place = child (place_of dir) name in
    ap (λ (x : Option (Line ℕ)). made_spelled (moment_of m k) (where_free x (place, kind.Directory))) (none-of (row_at m place) h) ∙ ap (λ (c : Spelled). Some c) (dir-is dir.key dir.path name)
spelled-is m t k (op.GetFileHandle dir name create) z h =
    let place = child (place_of dir) name in
    ap (λ (x : Option (Line ℕ)). made_spelled (moment_of m k) (where_free x (place, kind.File))) (none-of (row_at m place) h)
spelled-is m t k (op.RemoveEntry dir name recursive) z h = refl
spelled-is m t k o z h = cc

pub quiet-change : (moment : ℕ) (place : Place) (o : Op) → IsQuiet (change_of moment place o)
unfolding IsQuiet
quiet-change moment place (op.GetDirectory bucket) = tt
quiet-change moment place (op.GetDirectoryHandle dir name create) = tt
quiet-change moment place (op.GetFileHandle dir name create) = tt
quiet-change moment place (op.RemoveEntry dir name recursive) = tt
quiet-change moment place o = tt

pub can-hold : (size moment : ℕ) (place : Place) (o : Op) (b : Built) → CanHold size (change_of moment place o) b
can-hold size moment place (op.GetDirectory bucket) b = tt
can-hold size moment place (op.GetDirectoryHandle dir name create) b = tt
can-hold size moment place (op.GetFileHandle dir name create) b = tt
can-hold size moment place (op.RemoveEntry dir name recursive) b = tt
can-hold size moment place o b = tt
