-- What was judged may be applied once its units are cleared.
use Rattle.std.proofs.Common.{◌≡◌, ℕ, ◌+◌, ◌*◌, ◌≤◌, Bool, true, false, cond, not, ◌&&◌, ◌||◌, All, List, [], ◌∷◌, ◌++◌, filter, fold, length, Option, Some, None, Ok, refl, sym, ap, ◌∙◌, subst, arith}
use Rattle.std.specs.Prelude.{◌==◌, is_some, nat_le, option_map, T}
use Rattle.std.specs.List.{list_any, filter_map, cons_option}
use Rattle.std.specs.FinMap.Entries.{find, is_sorted}
use Rattle.std.specs.Ordering.{eq_by_cmp}
use Rattle.std.proofs.lemmas.Bool.Decides.{nat_tests}
use Rattle.std.proofs.lemmas.List.Elements.{All-nil, All-cons, All-weaker, All-head, All-tail}
use Rattle.opfs_state_rows.proofs.standing.Units.{same_unit, unit_itself}
use Rattle.opfs_base.specs.Measures.{is_root}
use Rattle.opfs_base.specs.Places.{Place, place_cmp, is_within}
use Rattle.opfs_base.specs.Texts.{Text, same_text}
use Rattle.opfs_hist.specs.declared.op.Op.{Op}
use Rattle.opfs_laws.proofs.CoveredKept.{covered-gone}
use Rattle.opfs_laws.proofs.Gone.{bind-gave, then-gave, some-gave, unless-gave, given-candidates}
use Rattle.opfs_laws.proofs.Growing.{Grows, plain_charge, grows-without}
use Rattle.opfs_laws.proofs.LocksEffect.{Untaken, locks-fold}
use Rattle.opfs_laws.proofs.Bounded.{modes-gone}
use Rattle.opfs_laws.proofs.OwnFiles.{OwnFiles, HasOwnFile}
use Rattle.opfs_laws.proofs.OwnKept.{evicted-agents, keeps-row}
use Rattle.opfs_laws.proofs.Spots.{place_itself}
use Rattle.opfs_laws.proofs.Wholes.{map-gone, file-there}
use Rattle.opfs_laws.specs.Whole.{IsWhole, is_rising}
use Rattle.opfs_laws.proofs.lengths.Instance.{lengths-fit}
use Rattle.opfs_laws.proofs.lengths.Judged.{judged-on}
use Rattle.opfs_laws.proofs.lengths.Keeping.{kept-lengths}
use Rattle.opfs_laws.proofs.lengths.Readers.{find-on}
use Rattle.opfs_laws.proofs.lengths.SameRoom.{pool-on, charge-on}
use Rattle.opfs_laws.proofs.lengths.SameRulings.{ruling-on}
use Rattle.opfs_laws.specs.Lengths.Bridge.{judged_in}
use Rattle.opfs_laws.specs.Lengths.Outlines.{in_lengths_of, on_row}
use Rattle.opfs_machine.specs.declared.own.HandleRow.{HandleRow}
use Rattle.opfs_machine.specs.declared.own.Own.{Own}
use Rattle.opfs_machine.specs.declared.own.Own.TheVariants as own
use Rattle.opfs_machine.specs.declared.state.Need.{Need}
use Rattle.opfs_machine.specs.declared.state.Party.{Party}
use Rattle.opfs_machine.specs.declared.state.Party.TheVariants.{Origin, Alone}
use Rattle.opfs_machine.specs.declared.state.Row.{Row}
use Rattle.opfs_machine.specs.declared.state.State.{State}
use Rattle.opfs_machine.specs.Agents.{agent_of, agent_in, own_of, party_of, party_with, same_party}
use Rattle.opfs_machine.specs.Alone.{is_partys}
use Rattle.opfs_machine.specs.Contents.{in_bytes, in_lengths, outline_of}
use Rattle.opfs_machine.specs.Histories.{IsFront, may_enter}
use Rattle.opfs_machine.specs.Replies.{sizes_of, sizes_in, row_named, bytes_at, bytes_in}
use Rattle.opfs_machine.specs.Rows.{row_at, file_of, Rows}
use Rattle.opfs_machine.specs.Rulings.{ruling}
use Rattle.opfs_machine.specs.Steps.{evicted, room_for}
use Rattle.opfs_machine.specs.Sums.{fits_pool, fits_area, is_persistent, pool, charge}
use Rattle.opfs_machine.specs.Victims.{is_candidate, is_callers, candidates, cleared, shortest_front, victims, root_unit, none_taken}
use Rattle.opfs_laws.proofs.separation.Alike.{Alike, alike-same, alike-then, alike-back}
use Rattle.opfs_laws.proofs.separation.Clearing.{may-evict, may-others, evictable-after, evicted-apart, evicted-ordered}
use Rattle.opfs_laws.proofs.separation.Fronts.{front-fine}
use Rattle.opfs_laws.proofs.separation.Reading.{Reads, ours-reads}
use Rattle.opfs_laws.proofs.separation.SameRuling.{ruling-same}
use Rattle.opfs_laws.proofs.separation.Small.{InOrder}
use Rattle.opfs_state.specs.Laws.Room.{HasOwnBuckets, HasRoom}

told : (b : Bool) → b ≡ true → T b
told true h = tt
told false h = cc

not-true : (b : Bool) → not b ≡ true → b ≡ false
not-true true h = cc
not-true false h = refl

-- Clearing leaves agents, limits and modes, and no more of the sums.
limits-gone : (gone : List Text) (s : State Text Own) → (fold evicted s gone).limits ≡ s.limits
limits-gone [] s = refl
limits-gone (unit ∷ units) s = limits-gone units (evicted s unit)

grows-gone : (gone : List Text) (s : State Text Own) → Grows s (fold evicted s gone) 0 0
grows-gone [] s = record { pool = omega arith; plain = omega arith }
grows-gone (unit ∷ units) s =
    let a = grows-without s (unit, []) in
    let b = grows-gone units (evicted s unit) in
    record { pool = omega (arith, a.pool, b.pool); plain = omega (arith, a.plain, b.plain) }

own-gone : (gone : List Text) (s : State Text Own) (k n : ℕ) → own_of (agent_of (fold evicted s gone) k) n ≡ own_of (agent_of s k) n
own-gone gone s k n = ap (λ agents. own_of (agent_in agents k) n) (evicted-agents gone s)

files-gone : (gone : List Text) (s : State Text Own) → OwnFiles s → OwnFiles (fold evicted s gone)
files-gone [] s h = h
files-gone (unit ∷ units) s h = files-gone units (evicted s unit) h

ordered-gone : (gone : List Text) (s : State Text Own) → InOrder s → InOrder (fold evicted s gone)
ordered-gone [] s h = h
ordered-gone (unit ∷ units) s h = ordered-gone units (evicted s unit) (evicted-ordered s unit h)

charged : (s : State Text Own) → charge in_bytes s ≡ plain_charge s + 8 * pool in_bytes s
charged s = refl

whole-gone : (gone : List Text) (s : State Text Own) → IsWhole s → All (Untaken s) gone → IsWhole (fold evicted s gone)
whole-gone gone s h all =
    let t = fold evicted s gone in
    let map_of = map-gone gone s (record { order = h.order; parents = h.parents }) in
    let locks = locks-fold gone s all h.locks in
    let grows = grows-gone gone s in
    let limits = limits-gone gone s in
    record {
      order = map_of.order;
      parents = map_of.parents;
      locks = locks;
      files = file-there t locks;
      buffers = λ k n w is. h.buffers k n w (sym (own-gone gone s k n) ∙ is);
      readers = λ k n x is reads. h.readers k n x (sym (own-gone gone s k n) ∙ is) reads;
      covered = covered-gone gone s h.covered;
      modes = ap is_rising (modes-gone gone s) ∙ h.modes;
      pool = omega (arith, grows.pool, h.pool, ap (λ l. l.blocks) limits);
      area = omega (arith, grows.pool, grows.plain, h.area, charged s, charged t, ap (λ l. l.area) limits);
    }

-- A party sees nothing of the clearing of others' units.
others-party : (key : Option Text) (k : ℕ) (unit : Text) → is_callers key unit ≡ false → is_partys (party_with key k) unit ≡ false
others-party None k unit h = refl
others-party (Some origin) k unit h = h

fold-apart : (p : Party) (gone : List Text) (s : State Text Own) → All (λ u. is_partys p u ≡ false) gone → Alike p (fold evicted s gone) s
fold-apart p [] s all = alike-same p s
fold-apart p (unit ∷ units) s all =
    alike-then p (fold evicted (evicted s unit) units) (evicted s unit) s (fold-apart p units (evicted s unit) (All-tail (λ u. is_partys p u ≡ false) unit units all)) (evicted-apart p s unit (All-head (λ u. is_partys p u ≡ false) unit units all))

itself : (p : Party) → same_party p p ≡ true
itself (Origin key) = text_itself key
  where
    text_itself : (a : Text) → same_text a a ≡ true
    text_itself a = unit_itself a a refl
itself (Alone k) = same-number k
  where
    same-number : (n : ℕ) → (n == n) ≡ true
    same-number n = grind (arith, nat_tests)

reads-gone : (gone : List Text) (s : State Text Own) (k : ℕ) → OwnFiles s → InOrder s → All (λ u. is_partys (party_of s k) u ≡ false) gone → Reads k s (fold evicted s gone)
reads-gone gone s k files order all =
    let t = fold evicted s gone in
    ours-reads (party_of s k) (agent_of s k).key k s t (itself (party_of s k))
    (record {
      alike = alike-back (party_of s k) t s (fold-apart (party_of s k) gone s all);
      left = order;
      right = ordered-gone gone s order;
      keyed = refl;
      beside = ap (λ agents. (agent_in agents k).key) (evicted-agents gone s);
    }) files (files-gone gone s files)

-- A unit that is told among those with a root has one.
root-here : (unit : Text) (e : Place × Row Text) → is_root e.0 ≡ true → same_text unit e.0.0 ≡ true → eq_by_cmp place_cmp (unit, []) e.0 ≡ true
root-here unit ((u, []), r) h same = ap (λ (x : Text). eq_by_cmp place_cmp (unit, []) (x, [])) (sym (same_unit unit u same)) ∙ place_itself (unit, [])
root-here unit ((u, name ∷ path), r) h same = cc

or-parts : (a b : Bool) → (a || b) ≡ true → a ≡ false → b ≡ true
or-parts true b h f = cc
or-parts false b h f = h

some-cond : (b : Bool) (r : Row Text) (o : Option (Row Text)) → is_some o ≡ true → is_some (cond b (Some r) o) ≡ true
some-cond true r o h = refl
some-cond false r o h = h

root-some : (unit : Text) (rows : Rows Text) → list_any (same_text unit) (filter_map root_unit rows) ≡ true → is_some (find place_cmp (unit, []) rows) ≡ true
root-some unit [] h = cc
root-some unit (e ∷ es) h =
    elim (is_root e.0) as (λ b. is_root e.0 ≡ b → list_any (same_text unit) (cons_option (elim b as (λ x. Option Text) [ true ↦ Some e.0.0 | false ↦ None ]) (filter_map root_unit es)) ≡ true → is_some (find place_cmp (unit, []) (e ∷ es)) ≡ true) [
      | false ↦ λ is any. some-cond (eq_by_cmp place_cmp (unit, []) e.0) e.1 (find place_cmp (unit, []) es) (root-some unit es any)
      | true ↦ λ is any.
          elim (same_text unit e.0.0) as (λ c. same_text unit e.0.0 ≡ c → is_some (find place_cmp (unit, []) (e ∷ es)) ≡ true) [
            | true ↦ λ same. ap (λ c. is_some (cond c (Some e.1) (find place_cmp (unit, []) es))) (root-here unit e is same)
            | false ↦ λ other. some-cond (eq_by_cmp place_cmp (unit, []) e.0) e.1 (find place_cmp (unit, []) es) (root-some unit es (or-parts (same_text unit e.0.0) (list_any (same_text unit) (filter_map root_unit es)) any other))
          ] refl
    ] refl h

-- What is cleared is a front of the candidates, and once it is, the need fits.
same-units : {a b : List Text} → Some a ≡ Some b → a ≡ b
same-units h = cc

shortest-front : (s : State Text Own) (need : ℕ) (units front : List Text) → shortest_front in_bytes s need units ≡ Some front → IsFront front units
shortest-front s need [] front h =
    elim (fits_pool in_bytes s need) as (λ b. elim b as (λ x. Option (List Text)) [ true ↦ Some [] | false ↦ None ] ≡ Some front → IsFront front []) [
      | true ↦ λ e. subst (λ f. IsFront f []) (same-units e) ([], refl)
      | false ↦ λ e. cc
    ] h
shortest-front s need (unit ∷ units) front h =
    elim (fits_pool in_bytes s need) as (λ b. elim b as (λ x. Option (List Text)) [ true ↦ Some [] | false ↦ option_map (λ more. unit ∷ more) (shortest_front in_bytes (cleared s unit) need units) ] ≡ Some front → IsFront front (unit ∷ units)) [
      | true ↦ λ e. subst (λ f. IsFront f (unit ∷ units)) (same-units e) (unit ∷ units, refl)
      | false ↦ λ e. more (λ rest is. shortest-front (cleared s unit) need units rest is) (shortest_front in_bytes (cleared s unit) need units) refl e
    ] h
  where
    more : ((rest : List Text) → shortest_front in_bytes (cleared s unit) need units ≡ Some rest → IsFront rest units) → (o : Option (List Text)) → shortest_front in_bytes (cleared s unit) need units ≡ o
        → option_map (λ more. unit ∷ more) o ≡ Some front → IsFront front (unit ∷ units)
    more again None is e = cc
    more again (Some rest) is e = let f = again rest is in subst (λ x. IsFront x (unit ∷ units)) (same-units e) (f.0, ap (λ us. unit ∷ us) f.1)

front-fits : (s : State Text Own) (need : ℕ) (units found : List Text) → shortest_front in_bytes s need units ≡ Some found → fits_pool in_bytes (fold cleared s found) need ≡ true
front-fits s need [] found h =
    elim (fits_pool in_bytes s need) as (λ b. fits_pool in_bytes s need ≡ b → elim b as (λ x. Option (List Text)) [ true ↦ Some [] | false ↦ None ] ≡ Some found → fits_pool in_bytes (fold cleared s found) need ≡ true) [
      | true ↦ λ is e. subst (λ u. fits_pool in_bytes (fold cleared s u) need ≡ true) (same-units e) is
      | false ↦ λ is e. cc
    ] refl h
front-fits s need (unit ∷ units) found h =
    elim (fits_pool in_bytes s need) as (λ b. fits_pool in_bytes s need ≡ b
    → elim b as (λ x. Option (List Text)) [ true ↦ Some [] | false ↦ option_map (λ more. unit ∷ more) (shortest_front in_bytes (cleared s unit) need units) ] ≡ Some found
    → fits_pool in_bytes (fold cleared s found) need ≡ true) [
      | true ↦ λ is e. subst (λ u. fits_pool in_bytes (fold cleared s u) need ≡ true) (same-units e) is
      | false ↦ λ is e. more (λ rest there. front-fits (cleared s unit) need units rest there) (shortest_front in_bytes (cleared s unit) need units) refl e
    ] refl h
  where
    more : ((rest : List Text) → shortest_front in_bytes (cleared s unit) need units ≡ Some rest → fits_pool in_bytes (fold cleared (cleared s unit) rest) need ≡ true)
        → (o : Option (List Text)) → shortest_front in_bytes (cleared s unit) need units ≡ o → option_map (λ more. unit ∷ more) o ≡ Some found → fits_pool in_bytes (fold cleared s found) need ≡ true
    more again None is e = cc
    more again (Some rest) is e = subst (λ u. fits_pool in_bytes (fold cleared s u) need ≡ true) (same-units e) (again rest is)

record IsLike (s t : State Text Own) : Type 0 where
  pub rows : s.rows ≡ t.rows
  pub agents : s.agents ≡ t.agents
  pub limits : s.limits ≡ t.limits

like-fold : (gone : List Text) (s t : State Text Own) → IsLike s t → IsLike (fold cleared s gone) (fold evicted t gone)
like-fold [] s t h = h
like-fold (unit ∷ units) s t h = like-fold units (cleared s unit) (evicted t unit) (record { rows = ap (λ rows. filter (λ e. not (is_within (unit, []) e.0)) rows) h.rows; agents = h.agents; limits = h.limits })

like-pool : (s t : State Text Own) → IsLike s t → pool in_bytes s ≡ pool in_bytes t
like-pool s t h = ap (λ rows. pool in_bytes (record s { rows = rows })) h.rows ∙ ap (λ agents. pool in_bytes (record t { agents = agents })) h.agents

room-parts : (s : State Text Own) (caller : Option Text) (need : Need) (units : List Text) → room_for in_bytes s caller need ≡ Ok units
    → (fits_area in_bytes s need.charge ≡ true) × (victims in_bytes s caller need.pool ≡ Some units)
unfolding room_for
room-parts s caller need units h =
    let first = then-gave _ _ units h in
    let second = then-gave _ _ units first.1 in
    (unless-gave (fits_area in_bytes s need.charge) _ second.0, some-gave _ _ units second.1)

pool-fits : (used need limit : ℕ) → (nat_le need 0 || nat_le (used + need) limit) ≡ true → used ≤ limit → used + need ≤ limit
pool-fits used need limit h most = grind (arith, nat_tests)

area-fits : (charge growth area now : ℕ) → (nat_le growth 0 || nat_le (charge + growth + 7) area) ≡ true → now ≤ charge → now + 7 ≤ area → now + growth + 7 ≤ area
area-fits charge growth area now h less most = grind (arith, nat_tests)

front-of : (P : Text → Type 0) (front rest : List Text) → All P (front ++ rest) → All P front
front-of P [] rest all = All-nil P
front-of P (x ∷ xs) rest all = All-cons P x xs (All-head P x (xs ++ rest) all) (front-of P xs rest (All-tail P x (xs ++ rest) all))

-- The sizes that a call tells are the same once others' units are cleared.
bytes-read : (s t : State Text Own) (p : Place) → row_at t p ≡ row_at s p → bytes_at t p ≡ bytes_at s p
bytes-read s t p same = ap (λ r. bytes_in (file_of r)) same

own-callers : (key : Option Text) (h : HandleRow) → HasOwnFile key (own.Handle h) → is_callers key h.file.0 ≡ true
own-callers key h is = is

sizes-in : (k : ℕ) (s t : State Text Own) → Reads k s t → (o : Option Own) → ((r : Own) → o ≡ Some r → HasOwnFile (agent_of s k).key r) → sizes_in t o ≡ sizes_in s o
sizes-in k s t reads None files = refl
sizes-in k s t reads (Some (own.Handle h)) files = ap (λ b. record { size = length b; position = h.cursor }) (bytes-read s t h.file (sym (reads.row h.file (own-callers (agent_of s k).key h (files (own.Handle h) refl)))))
sizes-in k s t reads (Some (own.Stream w)) files = refl
sizes-in k s t reads (Some r) files = refl

sizes-read : (k : ℕ) (s t : State Text Own) (o : Op) → Reads k s t → OwnFiles s → sizes_of t k o ≡ sizes_of s k o
sizes-read k s t o reads files =
    ap (λ a. sizes_in t (own_of a (row_named o))) (sym reads.agent)
    ∙ sizes-in k s t reads (own_of (agent_of s k) (row_named o)) (λ r is. keeps-row HasOwnFile s k (row_named o) r files is)

pub has-room : (s : State Text Own) (k : ℕ) (o : Op) (units : List Text) → IsWhole s → OwnFiles s → may_enter s k o ≡ true → HasOwnBuckets s k
    → judged_in in_lengths (in_lengths_of s) (sizes_of s k o) k o ≡ Ok units → HasRoom s k o units
unfolding judged_in
has-room s k o units whole files may plain judged =
    let z = sizes_of s k o in
    let key = (agent_of s k).key in
    let both = bind-gave (ruling in_bytes s z k o) (room_for in_bytes s key) units (sym (judged-on in_bytes in_lengths length outline_of lengths-fit s z k o) ∙ judged) in
    let need = both.0 in
    let parts = room-parts s key need units both.2 in
    let front = shortest-front s need.pool (candidates s key) units parts.1 in
    let all = given-candidates s k o units (record { need = need; ruled = both.1; room = both.2 }) in
    let untaken = All-weaker (λ u. is_candidate s key u ≡ true) (Untaken s) (λ u h. last-of (not (is_persistent s u)) (not (is_callers key u)) (none_taken s u) h) units all in
    let others = All-weaker (λ u. is_candidate s key u ≡ true) (λ u. is_partys (party_of s k) u ≡ false) (λ u h. others-party key k u (middle-of (not (is_persistent s u)) (is_callers key u) (none_taken s u) h)) units all in
    let t = fold evicted s units in
    let after = whole-gone units s whole untaken in
    let reads = reads-gone units s k files (told (is_sorted place_cmp s.rows) whole.order) others in
    let ruled = ruling-on in_bytes in_lengths length outline_of lengths-fit t k z o ∙ sym (ruling-same k s t reads plain files z o may) ∙ both.1 in
    let limits = limits-gone units s in
    let fits = front-fits s need.pool (candidates s key) units parts.1 in
    let like = like-fold units s s (record { rows = refl; agents = refl; limits = refl }) in
    let pooled = pool-fits (pool in_bytes (fold cleared s units)) need.pool (fold cleared s units).limits.blocks fits (omega (arith, like-pool (fold cleared s units) t like, after.pool, ap (λ l. l.blocks) like.limits)) in
    let grows = grows-gone units s in
    let area = area-fits (charge in_bytes s) need.charge s.limits.area (charge in_bytes t) parts.0 (omega (arith, grows.pool, grows.plain, charged s, charged t)) (omega (arith, after.area, ap (λ l. l.area) limits)) in
    record {
      kept = kept-lengths t after;
      may = record {
        need = need;
        ruled = ruled;
        pool = omega (arith, pooled, like-pool (fold cleared s units) t like, ap (λ l. l.blocks) like.limits, pool-on in_bytes in_lengths length outline_of lengths-fit t);
        area = omega (arith, area, ap (λ l. l.area) limits, charge-on in_bytes in_lengths length outline_of lengths-fit t);
      };
      each = λ first unit rest is.
          let fine = front-fine s key first unit rest (subst (λ us. IsFront us (candidates s key)) is front) in
          let still = evictable-after first s unit fine.first (may-evict s key unit fine.may) in
          let here = fold evicted s first in
          let gone = front-of (Untaken s) first (unit ∷ rest) (subst (All (Untaken s)) is untaken) in
          record {
            root = ap is_some (row-at-line here unit) ∙ is-some-map (row_at here (unit, [])) (root-some unit here.rows still.root);
            mode = not-true (is_persistent here unit) still.best_effort;
            kept = kept-lengths here (whole-gone first s whole gone);
          };
      sizes = sizes-read k s t o reads files;
      others = λ first unit rest is. may-others s key unit (front-fine s key first unit rest (subst (λ us. IsFront us (candidates s key)) is front)).may;
    }
  where
    last-of : (a b c : Bool) → (a && b && c) ≡ true → c ≡ true
    last-of true true c h = h
    last-of true false c h = cc
    last-of false b c h = cc

    middle-of : (a b c : Bool) → (a && not b && c) ≡ true → b ≡ false
    middle-of true true c h = cc
    middle-of true false c h = refl
    middle-of false b c h = cc

    row-at-line : (t : State Text Own) (unit : Text) → row_at (in_lengths_of t) (unit, []) ≡ option_map (on_row length) (row_at t (unit, []))
    row-at-line t unit = find-on length (unit, []) t.rows

    is-some-map : (r : Option (Row Text)) → is_some r ≡ true → is_some (option_map (on_row length) r) ≡ true
    is-some-map None h = cc
    is-some-map (Some r) h = refl
