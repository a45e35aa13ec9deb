-- The pool stays within the data blocks, and the charge within the area.
use Rattle.std.proofs.Common.{◌≡◌, ℕ, ◌+◌, ◌*◌, ◌≤◌, Bool, true, false, cond, not, ◌-◌, ◌||◌, All, List, [], ◌∷◌, fold, filter, length, Option, Some, None, Ok, refl, sym, ap, ◌∙◌, subst, inl, inr, arith, leb}
use Rattle.std.specs.Prelude.{option_map}
use Rattle.std.proofs.lemmas.Bool.{or_cases, leb-true}
use Rattle.opfs_base.specs.Blocks.{blocks}
use Rattle.opfs_base.specs.Places.{Place, place_of, child, is_within}
use Rattle.opfs_base.specs.Texts.{Text}
use Rattle.opfs_base.specs.Units.{unit_of}
use Rattle.opfs_base.specs.declared.locator.Kind.TheVariants as kind
use Rattle.opfs_hist.specs.declared.entry.Entry.{Entry}
use Rattle.opfs_hist.specs.declared.op.Op.{Op}
use Rattle.opfs_hist.specs.declared.op.Op.TheVariants as op
use Rattle.opfs_machine.specs.declared.own.Own.{Own}
use Rattle.opfs_machine.specs.declared.own.Own.TheVariants as own
use Rattle.opfs_machine.specs.declared.state.Limits.{Limits}
use Rattle.opfs_machine.specs.declared.state.Need.{Need}
use Rattle.opfs_machine.specs.declared.state.Sizes.{Sizes}
use Rattle.opfs_machine.specs.declared.state.State.{State}
use Rattle.opfs_machine.specs.Agents.{agent_of, own_of, open_stream, open_handle, of_row, stream_in, handle_in}
use Rattle.opfs_machine.specs.Contents.{in_bytes, outline_of}
use Rattle.opfs_machine.specs.Effects.{effect, refused}
use Rattle.opfs_machine.specs.Histories.{may_enter, IsCall}
use Rattle.opfs_machine.specs.Replies.{sizes_of, sizes_in, row_named, bytes_in, bytes_at}
use Rattle.opfs_machine.specs.Rows.{Rows, row_at, file_of}
use Rattle.opfs_machine.specs.Rulings.{size_in, reserve_for, size_written}
use Rattle.opfs_machine.specs.Steps.{room_for, evicted, changed_by, is_refusal}
use Rattle.opfs_machine.specs.Sums.{pool, charge, fits_area, fits_pool, keeps_blocks}
use Rattle.opfs_base.specs.Measures.{block_charge}
use Rattle.opfs_machine.specs.Victims.{victims, shortest_front, candidates, cleared, is_candidate, is_callers}
use Rattle.opfs_laws.specs.Covered.{AreCovered}
use Rattle.opfs_laws.specs.Holders.{AreLocksOfHolders}
use Rattle.opfs_laws.specs.Whole.{is_rising}
use Rattle.opfs_laws.proofs.Allowed.{agent-stays, row-stays}
use Rattle.opfs_laws.proofs.CoveredKept.{covered-calls, covered-gone}
use Rattle.opfs_laws.proofs.Gone.{IsGiven, ran-by, gone-candidates, then-gave, unless-gave, some-gave}
use Rattle.opfs_laws.proofs.Growing.{Grows, grows-without}
use Rattle.opfs_laws.proofs.Growth.{IsWithin, effect-within, refused-within, making-none, persisting-none}
use Rattle.opfs_laws.proofs.LocksEffect.{locks-kept, locks-fold, gone-untaken, number-after}
use Rattle.opfs_laws.proofs.Modes.{rising-insert}
use Rattle.opfs_laws.proofs.Needs.{Needs, needs}
use Rattle.opfs_laws.proofs.Numbers.{IsNumber}
use Rattle.opfs_laws.proofs.OwnFiles.{OwnFiles, HasOwnFile, callers-own, own_files-kept}
use Rattle.opfs_laws.proofs.OwnKept.{keeps-row, evicted-agents}
use Rattle.opfs_laws.proofs.OwnSizes.{OwnFits, AgentsFit, fits-kept}
use Rattle.opfs_laws.proofs.Reaching.{IsKeptBy}
use Rattle.opfs_laws.proofs.RowsEffect.{effect-rows, IsPlaced}
use Rattle.opfs_laws.proofs.Wholes.{call-placed}

-- The sizes that a call tells are the same once its units are cleared.
bytes-stay : (s : State Text Own) (gone : List Text) (key : Option Text) (p : Place) → All (λ u. is_candidate s key u ≡ true) gone → is_callers key p.0 ≡ true → bytes_at (fold evicted s gone) p ≡ bytes_at s p
bytes-stay s gone key p all mine = ap (λ r. bytes_in (file_of r)) (row-stays s s key gone p all mine)

sizes-in : (s t : State Text Own) (key : Option Text) (o : Option Own) → ((p : Place) → is_callers key p.0 ≡ true → bytes_at t p ≡ bytes_at s p) → ((r : Own) → o ≡ Some r → HasOwnFile key r) → sizes_in t o ≡ sizes_in s o
sizes-in s t key None same files = refl
sizes-in s t key (Some (own.Handle h)) same files = ap (λ b. record { size = length b; position = h.cursor }) (same h.file (files (own.Handle h) refl))
sizes-in s t key (Some (own.Stream w)) same files = refl
sizes-in s t key (Some r) same files = refl

sizes-after : (s : State Text Own) (gone : List Text) (k : ℕ) (o : Op) → OwnFiles s → All (λ u. is_candidate s (agent_of s k).key u ≡ true) gone → sizes_of (fold evicted s gone) k o ≡ sizes_of s k o
sizes-after s gone k o files all =
    ap (λ a. sizes_in (fold evicted s gone) (own_of a (row_named o))) (agent-stays gone s k)
    ∙ sizes-in s (fold evicted s gone) (agent_of s k).key (own_of (agent_of s k) (row_named o)) (λ p mine. bytes-stay s gone (agent_of s k).key p all mine)
    (λ r is. keeps-row HasOwnFile s k (row_named o) r files is)

-- A call that needs no block clears nothing.
none-cleared : (s : State Text Own) (units : List Text) → shortest_front in_bytes s 0 units ≡ Some []
none-cleared s [] = refl
none-cleared s (unit ∷ units) = refl

room-parts : (s : State Text Own) (caller : Option Text) (need : Need) (units : List Text) → room_for in_bytes s caller need ≡ Ok units
    → (fits_area in_bytes s need.charge ≡ true) × (victims in_bytes s caller need.pool ≡ Some units)
unfolding room_for
room-parts s caller need units h =
    let first = then-gave _ _ units h in
    let second = then-gave _ _ units first.1 in
    (unless-gave (fits_area in_bytes s need.charge) _ second.0, some-gave _ _ units second.1)

same-units : {a b : List Text} → Some a ≡ Some b → a ≡ b
same-units h = cc

gone-none : (s : State Text Own) (caller : Option Text) (need : Need) (units : List Text) → room_for in_bytes s caller need ≡ Ok units → need.pool ≡ 0 → units ≡ []
gone-none s caller need units h none =
    same-units (sym (room-parts s caller need units h).1 ∙ ap (λ n. shortest_front in_bytes s n (candidates s caller)) none ∙ none-cleared s (candidates s caller))

-- Once they are cleared, the need fits the pool.
front-fits : (s : State Text Own) (need : ℕ) (units found : List Text) → shortest_front in_bytes s need units ≡ Some found → fits_pool in_bytes (fold cleared s found) need ≡ true
front-fits s need [] found h =
    elim (fits_pool in_bytes s need) as (λ b. fits_pool in_bytes s need ≡ b → elim b as (λ x. Option (List Text)) [ true ↦ Some [] | false ↦ None ] ≡ Some found → fits_pool in_bytes (fold cleared s found) need ≡ true) [
      | true ↦ λ is e. subst (λ u. fits_pool in_bytes (fold cleared s u) need ≡ true) (same-units e) is
      | false ↦ λ is e. cc
    ] refl h
front-fits s need (unit ∷ units) found h =
    elim (fits_pool in_bytes s need) as (λ b. fits_pool in_bytes s need ≡ b
    → elim b as (λ x. Option (List Text)) [ true ↦ Some [] | false ↦ option_map (λ more. unit ∷ more) (shortest_front in_bytes (cleared s unit) need units) ] ≡ Some found
    → fits_pool in_bytes (fold cleared s found) need ≡ true) [
      | true ↦ λ is e. subst (λ u. fits_pool in_bytes (fold cleared s u) need ≡ true) (same-units e) is
      | false ↦ λ is e. more (λ rest there. front-fits (cleared s unit) need units rest there) (shortest_front in_bytes (cleared s unit) need units) refl e
    ] refl h
  where
    more : ((rest : List Text) → shortest_front in_bytes (cleared s unit) need units ≡ Some rest → fits_pool in_bytes (fold cleared (cleared s unit) rest) need ≡ true)
        → (o : Option (List Text)) → shortest_front in_bytes (cleared s unit) need units ≡ o → option_map (λ more. unit ∷ more) o ≡ Some found → fits_pool in_bytes (fold cleared s found) need ≡ true
    more again None is e = cc
    more again (Some rest) is e = subst (λ u. fits_pool in_bytes (fold cleared s u) need ≡ true) (same-units e) (again rest is)

-- Clearing counts no less as an entry.
record IsLike (s t : State Text Own) : Type 0 where
  pub rows : s.rows ≡ t.rows
  pub agents : s.agents ≡ t.agents
  pub limits : s.limits ≡ t.limits

like-fold : (gone : List Text) (s t : State Text Own) → IsLike s t → IsLike (fold cleared s gone) (fold evicted t gone)
like-fold [] s t h = h
like-fold (unit ∷ units) s t h = like-fold units (cleared s unit) (evicted t unit) (record { rows = ap (λ rows. filter (λ e. not (is_within (unit, []) e.0)) rows) h.rows; agents = h.agents; limits = h.limits })

like-pool : (s t : State Text Own) → IsLike s t → pool in_bytes s ≡ pool in_bytes t
like-pool s t h =
    ap (λ rows. pool in_bytes (record s { rows = rows })) h.rows ∙ ap (λ agents. pool in_bytes (record t { agents = agents })) h.agents

pub grows-gone : (gone : List Text) (s : State Text Own) → Grows s (fold evicted s gone) 0 0
grows-gone [] s = record { pool = omega arith; plain = omega arith }
grows-gone (unit ∷ units) s =
    let a = grows-without s (unit, []) in
    let b = grows-gone units (evicted s unit) in
    record { pool = omega (arith, a.pool, b.pool); plain = omega (arith, a.plain, b.plain) }

limits-gone : (gone : List Text) (s : State Text Own) → (fold evicted s gone).limits ≡ s.limits
limits-gone [] s = refl
limits-gone (unit ∷ units) s = limits-gone units (evicted s unit)

pub modes-gone : (gone : List Text) (s : State Text Own) → (fold evicted s gone).persistent ≡ s.persistent
modes-gone [] s = refl
modes-gone (unit ∷ units) s = modes-gone units (evicted s unit)

-- What a call needs is the same once its units are cleared.
module _ (s : State Text Own) (gone : List Text) (k : ℕ) (need : Need) (files : OwnFiles s) (all : All (λ u. is_candidate s (agent_of s k).key u ≡ true) gone)
    (room : room_for in_bytes s (agent_of s k).key need ≡ Ok gone) where
  abbrev after : State Text Own
  after = fold evicted s gone

  stays-none : (o : Op) → need.pool ≡ 0 → Needs s (sizes_of s k o) k o need → Needs after (sizes_of after k o) k o need
  stays-none o none n = subst (λ g. Needs (fold evicted s g) (sizes_of (fold evicted s g) k o) k o need) (sym (gone-none s (agent_of s k).key need gone room none)) n

  stream-stays : (n : ℕ) → open_stream in_bytes after k n ≡ open_stream in_bytes s k n
  stream-stays n = ap (λ a. of_row (λ r. stream_in (outline_of r)) (own_of a n)) (agent-stays gone s k)

  handle-stays : (n : ℕ) → open_handle in_bytes after k n ≡ open_handle in_bytes s k n
  handle-stays n = ap (λ a. of_row (λ r. handle_in (outline_of r)) (own_of a n)) (agent-stays gone s k)

  pub needs-after : (o : Op) → may_enter s k o ≡ true → Needs s (sizes_of s k o) k o need → Needs after (sizes_of after k o) k o need
  unfolding may_enter
  needs-after (op.CreateWritable at keep) may n =
      n ∙ ap (λ f. keeps_blocks (cond keep (blocks (size_in in_bytes f)) 0)) (sym (ap file_of (row-stays s s (agent_of s k).key gone (place_of at) all (sym (callers-own (agent_of s k).key at) ∙ may))))
  needs-after (op.Write i bytes position) may n =
      (n.0, stream-stays i ∙ n.1, n.2 ∙ ap (λ z. keeps_blocks (reserve_for n.0.reserve (size_written z position bytes) - n.0.reserve)) (sym (sizes-after s gone k (op.Write i bytes position) files all)))
  needs-after (op.Truncate i size) may n = (n.0, stream-stays i ∙ n.1, n.2)
  needs-after (op.SyncWrite i bytes at) may n =
      let z = sym (sizes-after s gone k (op.SyncWrite i bytes at) files all) in
      (n.0, handle-stays i ∙ n.1, n.2 ∙ ap (λ z. reserve_for n.0.reserve (size_written z at bytes) - n.0.reserve) z, n.3 ∙ ap (λ z. block_charge * (reserve_for n.0.reserve (size_written z at bytes) - n.0.reserve)) z)
  needs-after (op.SyncTruncate i size) may n = (n.0, handle-stays i ∙ n.1, n.2, n.3)
  needs-after (op.GetDirectory bucket) may n =
      stays-none (op.GetDirectory bucket) (ap (λ x. x.pool) n.2 ∙ making-none kind.Directory (unit_of n.0 bucket, []) (row_at s (unit_of n.0 bucket, []))) n
  needs-after (op.GetDirectoryHandle dir name create) may n =
      stays-none (op.GetDirectoryHandle dir name create) (ap (λ x. x.pool) n ∙ making-none kind.Directory (child (place_of dir) name) (row_at s (child (place_of dir) name))) n
  needs-after (op.GetFileHandle dir name create) may n =
      stays-none (op.GetFileHandle dir name create) (ap (λ x. x.pool) n ∙ making-none kind.File (child (place_of dir) name) (row_at s (child (place_of dir) name))) n
  needs-after (op.Persist bucket) may n =
      stays-none (op.Persist bucket) (ap (λ x. x.pool) n.2 ∙ persisting-none s (agent_of s k).grant (unit_of n.0 bucket)) n
  needs-after o may n = n

-- The limits, and the order of the modes, over a call.
pub record HasLimits (l : Limits) (rows : Rows Text) (modes : List Text) (limits : Limits) : Type 0 where
  pub same : limits ≡ l
  pub rising : is_rising modes ≡ true

pub effect-limits : (s : State Text Own) (z : Sizes) (k : ℕ) (o : Op) → IsPlaced s o → is_rising s.persistent ≡ true → HasLimits s.limits (effect in_bytes s z k o).rows (effect in_bytes s z k o).persistent (effect in_bytes s z k o).limits
effect-limits s z k o there rising =
    effect-rows (HasLimits s.limits)
    (λ p r rows modes limits free parent h. record { same = h.same; rising = h.rising })
    (λ p rows modes limits h. record { same = h.same; rising = h.rising })
    (λ p change rows modes limits h. record { same = h.same; rising = h.rising })
    (λ unit rows modes limits h. record { same = h.same; rising = rising-insert unit modes h.rising })
    s z k o there (record { same = refl; rising = rising })

pub refused-limits : (s : State Text Own) (k : ℕ) (o : Op) → is_rising s.persistent ≡ true → HasLimits s.limits (refused s k o).rows (refused s k o).persistent (refused s k o).limits
refused-limits s k (op.Await tag) h = record { same = refl; rising = h }
refused-limits s k o h = record { same = refl; rising = h }

pub record IsBounded (s : State Text Own) : Type 0 where
  pub files : OwnFiles s
  pub locks : AreLocksOfHolders s
  pub fits : OwnFits s
  pub covered : AreCovered s
  pub rising : is_rising s.persistent ≡ true
  pub pool : pool in_bytes s ≤ s.limits.blocks
  pub area : charge in_bytes s + 7 ≤ s.limits.area

-- What the numbers of a call keep.
pub record Numbers (s : State Text Own) : Type 0 where
  pub rising : is_rising s.persistent ≡ true
  pub pool : pool in_bytes s ≤ s.limits.blocks
  pub area : charge in_bytes s + 7 ≤ s.limits.area

numbers-none : (s t u : State Text Own) → IsBounded s → Grows s t 0 0 → Grows t u 0 0 → HasLimits s.limits u.rows u.persistent u.limits → Numbers u
numbers-none s t u h a b l =
    let blocks_same : u.limits.blocks ≡ s.limits.blocks = ap (λ x. x.blocks) l.same in
    let area_same : u.limits.area ≡ s.limits.area = ap (λ x. x.area) l.same in
    record { rising = l.rising; pool = omega (arith, a.pool, b.pool, h.pool, blocks_same); area = omega (arith, a.pool, b.pool, a.plain, b.plain, h.area, area_same) }

fits-most : (a n limit : ℕ) → (leb n 0 || leb (a + n) limit) ≡ true → a ≤ limit → a + n ≤ limit
fits-most a n limit h below =
    elim (or_cases (leb n 0) (leb (a + n) limit) h) as (λ c. a + n ≤ limit) [
      | inl none ↦ let most = leb-true n 0 none in omega (arith, most, below)
      | inr fits ↦ leb-true (a + n) limit fits
    ]

area-most : (a n limit : ℕ) → (leb n 0 || leb (a + n + 7) limit) ≡ true → a + 7 ≤ limit → a + n + 7 ≤ limit
area-most a n limit h below =
    elim (or_cases (leb n 0) (leb (a + n + 7) limit) h) as (λ c. a + n + 7 ≤ limit) [
      | inl none ↦ let most = leb-true n 0 none in omega (arith, most, below)
      | inr fits ↦ leb-true (a + n + 7) limit fits
    ]

numbers-given : (s t u : State Text Own) (need : Need) → IsBounded s → Grows s t 0 0 → t.limits ≡ s.limits → IsWithin t u need → HasLimits t.limits u.rows u.persistent u.limits
    → fits_area in_bytes s need.charge ≡ true → fits_pool in_bytes t need.pool ≡ true → Numbers u
numbers-given s t u need h a same w l area room =
    let blocks_same : u.limits.blocks ≡ s.limits.blocks = ap (λ x. x.blocks) (l.same ∙ same) in
    let area_same : u.limits.area ≡ s.limits.area = ap (λ x. x.area) (l.same ∙ same) in
    let t_blocks : t.limits.blocks ≡ s.limits.blocks = ap (λ x. x.blocks) same in
    let below : pool in_bytes t ≤ t.limits.blocks = omega (arith, a.pool, h.pool, t_blocks) in
    let most = fits-most (pool in_bytes t) need.pool t.limits.blocks room below in
    let widest = area-most (charge in_bytes s) need.charge s.limits.area area h.area in
    record {
      rising = l.rising;
      pool = omega (arith, w.grows.pool, most, blocks_same, t_blocks);
      area = omega (arith, w.grows.pool, w.grows.plain, w.charged, a.pool, a.plain, widest, area_same);
    }

pool-fits : (s : State Text Own) (gone : List Text) (need : ℕ) → fits_pool in_bytes (fold cleared s gone) need ≡ true → fits_pool in_bytes (fold evicted s gone) need ≡ true
pool-fits s gone need h =
    let like = like-fold gone s s (record { rows = refl; agents = refl; limits = refl }) in
    ap (λ x. leb need 0 || leb (x + need) (fold evicted s gone).limits.blocks) (sym (like-pool (fold cleared s gone) (fold evicted s gone) like))
    ∙ ap (λ l. leb need 0 || leb (pool in_bytes (fold cleared s gone) + need) l.blocks) (sym like.limits)
    ∙ h

-- A call's numbers, by what it answered.
refused-numbers : (s : State Text Own) (gone : List Text) (k : ℕ) (o : Op) → IsBounded s → IsNumber (fold evicted s gone) k → Numbers (refused (fold evicted s gone) k o)
refused-numbers s gone k o h number =
    let t = fold evicted s gone in
    let l = refused-limits t k o (ap is_rising (modes-gone gone s) ∙ h.rising) in
    numbers-none s t (refused t k o) h (grows-gone gone s) (refused-within t k o number) (record { same = l.same ∙ limits-gone gone s; rising = l.rising })

given-numbers : (s : State Text Own) (gone : List Text) (k : ℕ) (o : Op) → IsBounded s → IsNumber (fold evicted s gone) k → may_enter s k o ≡ true → IsGiven s k o gone
    → All (λ u. is_candidate s (agent_of s k).key u ≡ true) gone → AreLocksOfHolders (fold evicted s gone) → IsPlaced (fold evicted s gone) o
    → Numbers (effect in_bytes (fold evicted s gone) (sizes_of (fold evicted s gone) k o) k o)
given-numbers s gone k o h number may given all locks there =
    let t = fold evicted s gone in
    let rising : is_rising t.persistent ≡ true = ap is_rising (modes-gone gone s) ∙ h.rising in
    let asked = needs-after s gone k given.need h.files all given.room o may (needs s (sizes_of s k o) k o given.need given.ruled) in
    let parts = room-parts s (agent_of s k).key given.need gone given.room in
    numbers-given s t (effect in_bytes t (sizes_of t k o) k o) given.need h (grows-gone gone s) (limits-gone gone s)
    (effect-within t k o given.need number locks (covered-gone gone s h.covered) (subst AgentsFit (sym (evicted-agents gone s)) h.fits) rising asked)
    (effect-limits t (sizes_of t k o) k o there rising)
    parts.0 (pool-fits s gone given.need.pool (front-fits s given.need.pool (candidates s (agent_of s k).key) gone parts.1))

abbrev changed_where : State Text Own → ℕ → Op → Bool → State Text Own
changed_where t k o b = elim b [ true ↦ refused t k o | false ↦ effect in_bytes t (sizes_of t k o) k o ]

call-numbers : (s : State Text Own) (gone : List Text) (e : Entry) → IsCall s gone e → IsBounded s → Numbers (changed_by (fold evicted s gone) e.agent e.op e.reply)
call-numbers s gone e call h =
    let t = fold evicted s gone in
    let number = number-after s gone e.agent call.live in
    let ran = ran-by s gone e call in
    elim ran as (λ r. Numbers (changed_by t e.agent e.op e.reply)) [
      | inl refused_call ↦ subst (λ b. Numbers (changed_where t e.agent e.op b)) (sym (ap is_refusal refused_call.told)) (refused-numbers s gone e.agent e.op h number)
      | inr done ↦ elim done as (λ r. Numbers (changed_by t e.agent e.op e.reply)) [
        | inl given ↦ subst (λ b. Numbers (changed_where t e.agent e.op b)) (sym given.accepted)
            (given-numbers s gone e.agent e.op h number call.fitting given.given (gone-candidates s gone e.agent e.op e.reply ran)
            (locks-fold gone s (gone-untaken s gone e call) h.locks) (call-placed s gone e call given.accepted))
        | inr fault ↦ subst (λ b. Numbers (changed_where t e.agent e.op b)) (sym fault.refused) (refused-numbers s gone e.agent e.op h number)
      ]
    ]

pub bounded-kept : IsKeptBy IsBounded
bounded-kept s gone e call h =
    let n = call-numbers s gone e call h in
    record {
      files = own_files-kept s gone e call h.files;
      locks = locks-kept s gone e call h.locks;
      fits = fits-kept s gone e call h.fits;
      covered = covered-calls s gone e call h.covered;
      rising = n.rising;
      pool = n.pool;
      area = n.area;
    }
