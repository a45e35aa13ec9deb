-- What calls that only tell have in common, word by word: they spell nothing, change no tree and no own row, ask for nothing, and
-- have no open row in hand.
use Rattle.std.proofs.Common.{◌≡◌, ℕ, ◌-◌, zero, suc, ◌&&◌, Bool, true, false, if◌then◌else◌, cond, List, [], ◌∷◌, Option, Some, None, option_map, Ok, Err, refl, sym, ap, ◌∙◌, subst, inl, inr, slice_set, arith}
use Rattle.std.specs.Prelude.{IsTrue, not}
use Rattle.std.proofs.lemmas.Bool.{and_parts, cases_eq, false≢true}
use Rattle.opfs_store.specs.Acts.Acting.{brings_position, row_left}
use Rattle.opfs_base.specs.Measures.{place_charge, mode_charge}
use Rattle.opfs_base.specs.Places.{Place, place_of, child}
use Rattle.opfs_base.specs.Texts.{Text}
use Rattle.opfs_base.specs.Units.{unit_of}
use Rattle.opfs_base.specs.declared.locator.Kind.{Kind}
use Rattle.opfs_base.specs.declared.locator.Kind.TheVariants as kind
use Rattle.opfs_base.specs.declared.locator.Locator.{Locator}
use Rattle.opfs_books.specs.Stored.Spelled.{spelled_by, made_spelled, mode_spelled}
use Rattle.opfs_state_rows.specs.Changes.Allowed.{IsSized}
use Rattle.opfs_state_rows.specs.Changes.Asking.{bucket_unit, free_in, growth_of, made_at, mode_growth, place_for, root_in, root_place, row_growth, target_of, where_free}
use Rattle.opfs_state_rows.specs.Changes.Changed.{tree_by, grown_by}
use Rattle.opfs_codec.specs.declared.change.Change.TheVariants.{Persist}
use Rattle.opfs_hist.specs.declared.op.Op.{Op}
use Rattle.opfs_hist.specs.declared.op.Op.TheVariants as op
use Rattle.opfs_hist.specs.declared.reply.Refusal.{Refusal}
use Rattle.opfs_laws.specs.Leaving.{row_used}
use Rattle.opfs_laws.proofs.Local.{room_for_nothing}
use Rattle.opfs_laws.proofs.Numbers.{IsNumber, agent-set, agent-other}
use Rattle.opfs_laws.specs.Lengths.Bridge.{LengthsDecideEachRuling}
use Rattle.opfs_laws.specs.Lengths.Outlines.{in_lengths_of}
use Rattle.opfs_machine.specs.declared.own.Outline.{Outline}
use Rattle.opfs_machine.specs.declared.own.Own.{Own}
use Rattle.opfs_machine.specs.declared.own.Own.TheVariants as own
use Rattle.opfs_machine.specs.declared.state.Agent.{Agent}
use Rattle.opfs_machine.specs.declared.state.Need.{Need}
use Rattle.opfs_machine.specs.declared.state.Row.{Row}
use Rattle.opfs_machine.specs.declared.state.Row.TheVariants as row
use Rattle.opfs_machine.specs.declared.state.Sizes.{Sizes}
use Rattle.opfs_machine.specs.declared.state.State.{State}
use Rattle.opfs_machine.specs.Agents.{agent_of, own_of, with_agent, with_own, counted}
use Rattle.opfs_machine.specs.Contents.{in_bytes, in_lengths, outline_of}
use Rattle.opfs_machine.specs.Effects.{effect, made, opens_bucket, persists, with_changed, moment_of, new_row}
use Rattle.opfs_machine.specs.Histories.{evicted_by, is_iterator_of, may_enter}
use Rattle.opfs_machine.specs.Replies.{sizes_of}
use Rattle.opfs_machine.specs.Rows.{row_at, with_row}
use Rattle.opfs_machine.specs.Ruled.{Ruled, ◌>>=◌, ◌>>◌, unless, some_or}
use Rattle.opfs_machine.specs.Rulings.{child_ruling, estimate_ruling, await_ruling, get_directory_ruling, get_handle_ruling, located_ruling, making, persist_ruling, persisted_ruling, persisting, ruling}
use Rattle.opfs_machine.specs.Steps.{judged, room_for}
use Rattle.opfs_machine.specs.Sums.{charges, is_persistent, no_need}
use Rattle.opfs_register.proofs.KeptRows.{set-same}
use Rattle.opfs_state_rows.specs.Standing.Seen.{Machine}
use Rattle.opfs_tree.specs.Rows.{Rows as Tree}
use Rattle.opfs_pages.specs.HistoryLaws.Hands.{row_in_hand}
use Rattle.opfs_pages.specs.HistoryLaws.Open.{if_open, open_at}
use Rattle.opfs_pages.proofs.history_laws.Leaving.{open-is}
use Rattle.opfs_desk_entries.specs.Answers.Telling.{TellsOnly, is_telling}

-- ---- what adds nothing to the charge is not made

charged : (k : Kind) (place : Place) → place_charge k place ≡ 0 → ⊥
charged kind.File place is = omega (arith, is)
charged kind.Directory (unit, []) is = omega (arith, is)
charged kind.Directory (unit, name ∷ path) is = omega (arith, is)

none-grown : (e : Option (Place × Kind)) → row_growth e ≡ 0 → e ≡ None
none-grown None is = refl
none-grown (Some e) is = absurd (charged e.1 e.0 is)

mode-charged : (unit : Text) → mode_charge unit ≡ 0 → ⊥
mode-charged unit is = omega (arith, is)

mode-kept : (b : Bool) (unit : Text) → cond b 0 (mode_charge unit) ≡ 0 → b ≡ true
mode-kept true unit is = refl
mode-kept false unit is = absurd (mode-charged unit is)

-- A mode is given to a unit that has it, or none is given.
abbrev no_growth : Machine → Bool → Text → Option Text → Type 0
no_growth m grant bucket key = mode_growth m (cond grant (root_place (option_map (λ origin. unit_of origin bucket) key)) None) ≡ 0

given-there : (m : Machine) (bucket origin : Text) → no_growth m true bucket (Some origin) → is_persistent m (unit_of origin bucket) ≡ true
given-there m bucket origin h = mode-kept (is_persistent m (unit_of origin bucket)) (unit_of origin bucket) h

none-spelled : (m : Machine) (grant : Bool) (bucket : Text) (key : Option Text) → no_growth m grant bucket key → mode_spelled m grant bucket key ≡ None
none-spelled m grant bucket None h = refl
none-spelled m false bucket (Some origin) h = refl
none-spelled m true bucket (Some origin) h = ap (λ b. if true && not b then Some (Persist (unit_of origin bucket)) else None) (given-there m bucket origin h)

none-asked : (m : Machine) (grant : Bool) (bucket origin : Text) → no_growth m grant bucket (Some origin) → persisting m grant (unit_of origin bucket) ≡ no_need
none-asked m false bucket origin h = refl
none-asked m true bucket origin h = ap (λ b. if true && not b then charges (mode_charge (unit_of origin bucket)) else no_need) (given-there m bucket origin h)

-- ---- nothing is spelled, and the tree stays

pub silent : (m : Machine) (t : Tree) (k : ℕ) (o : Op) (z : Sizes) → TellsOnly m k o → spelled_by m t k o z None ≡ None
unfolding spelled_by growth_of target_of made_at
silent m t k (op.GetDirectory bucket) z only = ap (made_spelled (moment_of m k)) (none-grown (place_for m k (op.GetDirectory bucket)) only.nothing)
silent m t k (op.GetDirectoryHandle dir name create) z only = ap (made_spelled (moment_of m k)) (none-grown (place_for m k (op.GetDirectoryHandle dir name create)) only.nothing)
silent m t k (op.GetFileHandle dir name create) z only = ap (made_spelled (moment_of m k)) (none-grown (place_for m k (op.GetFileHandle dir name create)) only.nothing)
silent m t k (op.Next n dir) z only = refl
silent m t k (op.Persist bucket) z only = none-spelled m (agent_of m k).grant bucket (agent_of m k).key only.nothing
silent m t k (op.Persisted bucket) z only = refl
silent m t k op.Estimate z only = refl
silent m t k (op.Post tag) z only = refl
silent m t k (op.Await tag) z only = refl
silent m t k (op.Wait tag) z only = refl
silent m t k op.End z only = refl
silent m t k o z only = absurd (false≢true only.word)

pub tree-stays : (m : Machine) (t : Tree) (k : ℕ) (o : Op) (z : Sizes) → TellsOnly m k o → tree_by m t k o z None ≡ t
unfolding tree_by growth_of made_at
tree-stays m t k (op.GetDirectory bucket) z only = ap (grown_by t (moment_of m k)) (none-grown (place_for m k (op.GetDirectory bucket)) only.nothing)
tree-stays m t k (op.GetDirectoryHandle dir name create) z only = ap (grown_by t (moment_of m k)) (none-grown (place_for m k (op.GetDirectoryHandle dir name create)) only.nothing)
tree-stays m t k (op.GetFileHandle dir name create) z only = ap (grown_by t (moment_of m k)) (none-grown (place_for m k (op.GetFileHandle dir name create)) only.nothing)
tree-stays m t k (op.Next n dir) z only = refl
tree-stays m t k (op.Persist bucket) z only = refl
tree-stays m t k (op.Persisted bucket) z only = refl
tree-stays m t k op.Estimate z only = refl
tree-stays m t k (op.Post tag) z only = refl
tree-stays m t k (op.Await tag) z only = refl
tree-stays m t k (op.Wait tag) z only = refl
tree-stays m t k op.End z only = refl
tree-stays m t k o z only = absurd (false≢true only.word)

-- ---- own rows and limits stay

pub record KeepsOwn (m n : Machine) : Type 0 where
  pub own : (k : ℕ) → (agent_of n k).own ≡ (agent_of m k).own
  pub limits : n.limits ≡ m.limits

same-own : (m : Machine) → KeepsOwn m m
same-own m = record { own = λ k. refl; limits = refl }

agent-keeps : (m : Machine) (k : ℕ) (a : Agent Outline) → IsNumber m k → a.own ≡ (agent_of m k).own → KeepsOwn m (with_agent m k a)
agent-keeps m k a number same = record {
  own = λ j. elim (cases_eq j k) [
    | inl here ↦
        subst (λ (x : ℕ). (agent_of (with_agent m k a) x).own ≡ (agent_of m x).own) (sym here)
        (ap (λ (x : Agent Outline). x.own) (agent-set m k a number) ∙ same)
    | inr far ↦ ap (λ (x : Agent Outline). x.own) (agent-other m k j a number far)
  ];
  limits = refl;
}

made-there : (m : Machine) (place : Place) (k : Kind) (x : Row ℕ) → where_free (row_at m place) (place, k) ≡ None → made m place x ≡ m
made-there m place k x h = by (row_at m place) h
  where
    by : (o : Option (Row ℕ)) → where_free o (place, k) ≡ None → elim o as (λ y. State ℕ Outline) [ Some old ↦ m | None ↦ with_row m place x ] ≡ m
    by None is = cc
    by (Some old) is = refl

bucket-there : (m : Machine) (bucket : Text) (key : Option Text) → free_in m (root_in (option_map (λ origin. unit_of origin bucket) key)) ≡ None → opens_bucket m bucket key ≡ m
bucket-there m bucket None h = refl
bucket-there m bucket (Some origin) h = made-there m (unit_of origin bucket, []) kind.Directory row.Directory h

mode-keeps : (m : Machine) (bucket : Text) (grant : Bool) (key : Option Text) → KeepsOwn m (persists m bucket grant key)
mode-keeps m bucket grant None = same-own m
mode-keeps m bucket true (Some origin) = record { own = λ k. refl; limits = refl }
mode-keeps m bucket false (Some origin) = same-own m

pub before : (i : ℕ) → suc i - 1 ≡ i
before i = omega arith

row-keeps : (m : Machine) (k n : ℕ) (r : Outline) → IsNumber m k → own_of (agent_of m k) n ≡ Some r → KeepsOwn m (with_own m k n r)
row-keeps m k zero r number is = cc
row-keeps m k (suc i) r number is =
    agent-keeps m k (record (agent_of m k) { own = slice_set (agent_of m k).own (suc i - 1) r }) number
    (ap (λ (j : ℕ). slice_set (agent_of m k).own j r) (before i) ∙ set-same (agent_of m k).own i r is)

changed-keeps : (m : Machine) (k n : ℕ) → IsNumber m k → KeepsOwn m (with_changed m k n (λ r. r))
unfolding with_changed
changed-keeps m k n number = by (own_of (agent_of m k) n) refl
  where
    by : (o : Option Outline) → own_of (agent_of m k) n ≡ o → KeepsOwn m (elim o as (λ y. State ℕ Outline) [ Some r ↦ with_own m k n r | None ↦ m ])
    by None is = same-own m
    by (Some r) is = row-keeps m k n r number is

all-same : (m n : Machine) → n ≡ m → KeepsOwn m n
all-same m n is = subst (λ (x : Machine). KeepsOwn m x) (sym is) (same-own m)

effect-keeps : (m : Machine) (z : Sizes) (k : ℕ) (o : Op) → IsNumber m k → TellsOnly m k o → KeepsOwn m (effect in_lengths m z k o)
unfolding effect growth_of made_at
effect-keeps m z k (op.GetDirectory bucket) number only = all-same m _ (bucket-there m bucket (agent_of m k).key (none-grown (place_for m k (op.GetDirectory bucket)) only.nothing))
effect-keeps m z k (op.GetDirectoryHandle dir name create) number only =
    all-same m _ (made-there m (child (place_of dir) name) kind.Directory row.Directory (none-grown (place_for m k (op.GetDirectoryHandle dir name create)) only.nothing))
effect-keeps m z k (op.GetFileHandle dir name create) number only =
    all-same m _ (made-there m (child (place_of dir) name) kind.File (new_row in_lengths kind.File (moment_of m k)) (none-grown (place_for m k (op.GetFileHandle dir name create)) only.nothing))
effect-keeps m z k (op.Next n dir) number only = changed-keeps m k n number
effect-keeps m z k (op.Persist bucket) number only = mode-keeps m bucket (agent_of m k).grant (agent_of m k).key
effect-keeps m z k (op.Persisted bucket) number only = same-own m
effect-keeps m z k op.Estimate number only = same-own m
effect-keeps m z k (op.Post tag) number only = record { own = λ j. refl; limits = refl }
effect-keeps m z k (op.Await tag) number only = agent-keeps m k (record (agent_of m k) { waits = None }) number refl
effect-keeps m z k (op.Wait tag) number only = agent-keeps m k (record (agent_of m k) { waits = Some tag }) number refl
effect-keeps m z k op.End number only = agent-keeps m k (record (agent_of m k) { live = false; waits = None }) number refl
effect-keeps m z k o number only = absurd (false≢true only.word)

pub keeps-own : (m : Machine) (z : Sizes) (k : ℕ) (o : Op) → IsNumber m k → TellsOnly m k o → KeepsOwn m (counted (effect in_lengths m z k o) k)
keeps-own m z k o number only = let kept = effect-keeps m z k o number only in record { own = kept.own; limits = kept.limits }

-- ---- no open row is in hand

pub in-hand : (s : State Text Own) (k : ℕ) (o : Op) → is_telling o ≡ true → row_in_hand s k o ≡ row_used o
unfolding row_in_hand
in-hand s k (op.GetDirectory bucket) h = refl
in-hand s k (op.GetDirectoryHandle dir name create) h = refl
in-hand s k (op.GetFileHandle dir name create) h = refl
in-hand s k (op.Next n dir) h = refl
in-hand s k (op.Persist bucket) h = refl
in-hand s k (op.Persisted bucket) h = refl
in-hand s k op.Estimate h = refl
in-hand s k (op.Post tag) h = refl
in-hand s k (op.Await tag) h = refl
in-hand s k (op.Wait tag) h = refl
in-hand s k op.End h = refl
in-hand s k o h = cc

iterator-closed : (dir : Locator) (o : Option Own) → is_iterator_of dir o ≡ true → if_open (option_map outline_of o) ≡ None
iterator-closed dir (Some (own.Iterator i)) h = refl
iterator-closed dir o h = cc

pub closed-row : (s : State Text Own) (k : ℕ) (o : Op) → is_telling o ≡ true → IsTrue (may_enter s k o) → open_at (in_lengths_of s) k (row_used o) ≡ None
unfolding may_enter
closed-row s k (op.GetDirectory bucket) h may = refl
closed-row s k (op.GetDirectoryHandle dir name create) h may = refl
closed-row s k (op.GetFileHandle dir name create) h may = refl
closed-row s k (op.Next n dir) h may = open-is s k n ∙ iterator-closed dir (own_of (agent_of s k) n) (and_parts _ _ may).1
closed-row s k (op.Persist bucket) h may = refl
closed-row s k (op.Persisted bucket) h may = refl
closed-row s k op.Estimate h may = refl
closed-row s k (op.Post tag) h may = refl
closed-row s k (op.Await tag) h may = refl
closed-row s k (op.Wait tag) h may = refl
closed-row s k op.End h may = refl
closed-row s k o h may = cc

-- ---- it leaves no row open

pub no-eviction : (o : Op) → is_telling o ≡ true → evicted_by o ≡ None
no-eviction (op.Evict unit) h = cc
no-eviction o h = refl

pub leaves-none : (rows : ℕ) (o : Op) → is_telling o ≡ true → row_left rows o ≡ 0
leaves-none rows (op.GetDirectory bucket) h = refl
leaves-none rows (op.GetDirectoryHandle dir name create) h = refl
leaves-none rows (op.GetFileHandle dir name create) h = refl
leaves-none rows (op.Next n dir) h = refl
leaves-none rows (op.Persist bucket) h = refl
leaves-none rows (op.Persisted bucket) h = refl
leaves-none rows op.Estimate h = refl
leaves-none rows (op.Post tag) h = refl
leaves-none rows (op.Await tag) h = refl
leaves-none rows (op.Wait tag) h = refl
leaves-none rows op.End h = refl
leaves-none rows o h = cc

pub not-near : (o : Op) → is_telling o ≡ true → brings_position o ≡ false
not-near (op.Write n bytes position) h = cc
not-near (op.Truncate n size) h = cc
not-near o h = refl

pub sized : (m : Machine) (z : Sizes) (k : ℕ) (o : Op) → is_telling o ≡ true → IsSized m z k o
unfolding IsSized
sized m z k (op.Write n bytes position) h = cc
sized m z k (op.SyncWrite n bytes at) h = cc
sized m z k (op.Close n) h = cc
sized m z k o h = tt

-- ---- it asks for nothing

pub ok-is : (a b : Need) → ◌≡◌ {A = Ruled Need} (Ok a) (Ok b) → b ≡ a
ok-is a b is = cc

pub err-ok : {A : Type 0} (e : Refusal) (a : A) → ◌≡◌ {A = Ruled A} (Err e) (Ok a) → ⊥
err-ok e a is = cc

pub then-last : {B : Type 0} (t : Bool) (x : Refusal) (next : Ruled B) (v : B) → (unless t x >> next) ≡ Ok v → next ≡ Ok v
unfolding ◌>>◌
then-last true x next v is = is
then-last false x next v is = absurd (err-ok x v is)

pub from-some : {A B : Type 0} (o : Option A) (x : Refusal) (next : A → Ruled B) (v : B) → (some_or o x >>= next) ≡ Ok v → (a : A) × (o ≡ Some a) × (next a ≡ Ok v)
unfolding ◌>>=◌
from-some (Some a) x next v is = (a, refl, is)
from-some None x next v is = absurd (err-ok x v is)

child-asks : (k : Kind) (place : Place) (name : Text) (create : Bool) (o : Option (Row ℕ)) (need : Need) → where_free o (place, k) ≡ None → child_ruling k place name create o ≡ Ok need → need ≡ no_need
child-asks k place name create None need free is = cc
child-asks k place name create (Some r) need free is = ok-is no_need need (then-last _ _ _ need is)

making-none : (k : Kind) (place : Place) (o : Option (Row ℕ)) → where_free o (place, k) ≡ None → making k place o ≡ no_need
making-none k place None free = cc
making-none k place (Some r) free = refl

handle-asks : (m : Machine) (k : Kind) (dir : Locator) (name : Text) (create : Bool) (need : Need) → where_free (row_at m (child (place_of dir) name)) (child (place_of dir) name, k) ≡ None
    → get_handle_ruling m k dir name create ≡ Ok need → need ≡ no_need
unfolding get_handle_ruling
handle-asks m k dir name create need free is =
    child-asks k (child (place_of dir) name) name create (row_at m (child (place_of dir) name)) need free (then-last _ _ _ need (then-last _ _ _ need is))

directory-asks : (m : Machine) (k : ℕ) (bucket : Text) (need : Need) → free_in m (root_in (bucket_unit m k bucket)) ≡ None → get_directory_ruling m k bucket ≡ Ok need → need ≡ no_need
unfolding get_directory_ruling
directory-asks m k bucket need free is =
    let it = from-some (agent_of m k).key _ _ need is in
    let place : Place = (unit_of it.0 bucket, []) in
    let there : where_free (row_at m place) (place, kind.Directory) ≡ None = subst (λ (key : Option Text). free_in m (root_in (option_map (λ origin. unit_of origin bucket) key)) ≡ None) it.1 free in
    ok-is _ need (then-last _ _ _ need it.2) ∙ making-none kind.Directory place (row_at m place) there

persist-asks : (m : Machine) (k : ℕ) (bucket : Text) (need : Need) → no_growth m (agent_of m k).grant bucket (agent_of m k).key → persist_ruling m k bucket ≡ Ok need → need ≡ no_need
unfolding persist_ruling
persist-asks m k bucket need none is =
    let it = from-some (agent_of m k).key _ _ need is in
    ok-is _ need (then-last _ _ _ need it.2) ∙ none-asked m (agent_of m k).grant bucket it.0 (subst (λ (key : Option Text). no_growth m (agent_of m k).grant bucket key) it.1 none)

persisted-asks : (m : Machine) (k : ℕ) (bucket : Text) (need : Need) → persisted_ruling m k bucket ≡ Ok need → need ≡ no_need
unfolding persisted_ruling
persisted-asks m k bucket need is = ok-is no_need need (then-last _ _ _ need (from-some (agent_of m k).key _ _ need is).2)

estimate-asks : (m : Machine) (k : ℕ) (need : Need) → estimate_ruling m k ≡ Ok need → need ≡ no_need
unfolding estimate_ruling
estimate-asks m k need is = ok-is no_need need (from-some (agent_of m k).key _ _ need is).2

await-asks : (m : Machine) (k : ℕ) (tag : Text) (need : Need) → await_ruling m k tag ≡ Ok need → need ≡ no_need
unfolding await_ruling
await-asks m k tag need is = ok-is no_need need (then-last _ _ _ need is)

located-asks : (m : Machine) (k : Kind) (at : Locator) (need : Need) → located_ruling m k at ≡ Ok need → need ≡ no_need
unfolding located_ruling
located-asks m k at need is = ok-is no_need need (then-last _ _ _ need is)

asks-none : (m : Machine) (z : Sizes) (k : ℕ) (o : Op) (need : Need) → TellsOnly m k o → ruling in_lengths m z k o ≡ Ok need → need ≡ no_need
unfolding ruling growth_of target_of made_at
asks-none m z k (op.GetDirectory bucket) need only is = directory-asks m k bucket need (none-grown (place_for m k (op.GetDirectory bucket)) only.nothing) is
asks-none m z k (op.GetDirectoryHandle dir name create) need only is = handle-asks m kind.Directory dir name create need (none-grown (place_for m k (op.GetDirectoryHandle dir name create)) only.nothing) is
asks-none m z k (op.GetFileHandle dir name create) need only is = handle-asks m kind.File dir name create need (none-grown (place_for m k (op.GetFileHandle dir name create)) only.nothing) is
asks-none m z k (op.Next n dir) need only is = located-asks m kind.Directory dir need is
asks-none m z k (op.Persist bucket) need only is = persist-asks m k bucket need only.nothing is
asks-none m z k (op.Persisted bucket) need only is = persisted-asks m k bucket need is
asks-none m z k op.Estimate need only is = estimate-asks m k need is
asks-none m z k (op.Post tag) need only is = ok-is no_need need is
asks-none m z k (op.Await tag) need only is = await-asks m k tag need is
asks-none m z k (op.Wait tag) need only is = ok-is no_need need is
asks-none m z k op.End need only is = ok-is no_need need is
asks-none m z k o need only is = absurd (false≢true only.word)

-- ---- so it clears no unit

units-is : (units : List Text) → ◌≡◌ {A = Ruled (List Text)} (Ok []) (Ok units) → units ≡ []
units-is units is = cc

pub none-for : (s : State Text Own) (key : Option Text) (r : Ruled Need) (units : List Text) → ((need : Need) → r ≡ Ok need → need ≡ no_need) → (r >>= room_for in_bytes s key) ≡ Ok units → units ≡ []
unfolding ◌>>=◌
none-for s key (Ok need) units h is = units-is units (sym (ap (room_for in_bytes s key) (h need refl) ∙ room_for_nothing s key) ∙ is)
none-for s key (Err e) units h is = absurd (err-ok e units is)

pub no-units : LengthsDecideEachRuling → (s : State Text Own) (k : ℕ) (o : Op) (units : List Text) → TellsOnly (in_lengths_of s) k o → judged s k o ≡ Ok units → units ≡ []
unfolding judged
no-units decide s k o units only is =
    none-for s (agent_of s k).key (ruling in_bytes s (sizes_of s k o) k o) units
    (λ need asks. asks-none (in_lengths_of s) (sizes_of s k o) k o need only (decide.ruling s (sizes_of s k o) k o ∙ asks)) is
