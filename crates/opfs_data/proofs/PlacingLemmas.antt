-- Pages that get their blocks one after another.
use Rattle.std.proofs.Common.{◌≡◌, ℕ, zero, suc, ◌+◌, ◌-◌, ◌*◌, ◌<◌, ◌≤◌, List, [], ◌∷◌, ◌++◌, refl, sym, subst, ◌∙◌, ap, arith, length, take, drop, get_or, min, append_assoc}
use Rattle.std.specs.List.{AllByRecursion, range_with_len}
use Rattle.std.proofs.lemmas.List.{length-append}
use Rattle.opfs_base.specs.declared.extents.Extent.{Extent}
use Rattle.opfs_data.specs.declared.places.Left.{Left}
use Rattle.opfs_data.specs.declared.page_run.Source.{Source}
use Rattle.opfs_data.specs.declared.page_run.Source.TheVariants.{Given, Own}
use Rattle.opfs_data.specs.Placing.{left_blocks, left_runs}
use Rattle.opfs_data.specs.Writes.{PageWrite, Run, run_pages, run_writes, writes_of, source_bytes, placed, blocks_in, WriteList, HasBytes, IsOwnWithin, IsWithin, AreWithin}
use Rattle.opfs_data.proofs.RunLemmas.{all_at}
use Rattle.opfs_data.proofs.WriteLemmas.{writes_push, all_append, all_map}

pub drop_next : {X : Type 0} (xs : List X) (i : ℕ) (x : X) → x ≡ get_or xs i x → i < length xs → drop i xs ≡ x ∷ drop (i + 1) xs
drop_next {X = X} [] i x is lt = absurd (omega arith)
drop_next {X = X} (y ∷ xs) zero x is lt = ap (λ (z : X). z ∷ xs) (sym is)
drop_next {X = X} (y ∷ xs) (suc i) x is lt =
    let e : suc (i + 1) ≡ suc i + 1 = omega arith in
    drop_next xs i x is (omega arith) ∙ ap (λ (n : ℕ). x ∷ drop n (y ∷ xs)) e

pub length-pages : (bytes : List ℕ) (page block from n : ℕ) → length (run_pages bytes page block from n) ≡ n
length-pages bytes page block from zero = refl
length-pages bytes page block from (suc n) = ap suc (length-pages bytes (page + 1) (block + 1) (from + 4096) n)

pub length-range : (start n : ℕ) → length (range_with_len start n) ≡ n
length-range start zero = refl
length-range start (suc n) = ap suc (length-range (start + 1) n)

range_split : (start n k total : ℕ) → total ≡ n + k → range_with_len start total ≡ range_with_len start n ++ range_with_len (start + n) k
range_split start zero k total is = ap (range_with_len start) (omega arith) ∙ ap (λ (s : ℕ). range_with_len s k) (omega arith)
range_split start (suc n) k zero is = absurd (omega arith)
range_split start (suc n) k (suc total) is =
    ap (λ (l : List ℕ). start ∷ l) (range_split (start + 1) n k total (omega arith)) ∙ ap (λ (s : ℕ). start ∷ (range_with_len (start + 1) n ++ range_with_len s k)) (omega arith)

placed_part : (bytes : List ℕ) (p b f n m total p' b' f' start : ℕ) (later : List PageWrite) (rest : List ℕ) → total ≡ n + m → p' ≡ p + n → b' ≡ b + n → f' ≡ f + 4096 * n
    → placed (run_pages bytes p b f total ++ later) (range_with_len start n ++ rest) ≡ run_pages bytes p start f n ++ placed (run_pages bytes p' b' f' m ++ later) rest
placed_part bytes p b f zero m total p' b' f' start later rest all at_page at_block at_byte =
    ap (λ (k : ℕ). placed (run_pages bytes p b f k ++ later) rest) (omega arith)
    ∙ ap (λ (k : ℕ). placed (run_pages bytes k b f m ++ later) rest) (omega arith)
    ∙ ap (λ (k : ℕ). placed (run_pages bytes p' k f m ++ later) rest) (omega arith)
    ∙ ap (λ (k : ℕ). placed (run_pages bytes p' b' k m ++ later) rest) (omega arith)
placed_part bytes p b f (suc n) m zero p' b' f' start later rest all at_page at_block at_byte = absurd (omega arith)
placed_part bytes p b f (suc n) m (suc total) p' b' f' start later rest all at_page at_block at_byte =
    ap (λ (l : List PageWrite). (record { page = p; block = start; bytes = take 4096 (drop f bytes) }) ∷ l)
    (placed_part bytes (p + 1) (b + 1) (f + 4096) n m total p' b' f' (start + 1) later rest (omega arith) (omega arith) (omega arith) (omega arith))

-- a part of a run got its blocks
pub placed_step : (own given : List ℕ) (r part : Run) (runs runs' : List Run) (extents : List Extent) (left left' : Left) (done n : ℕ) (later start : List PageWrite)
    → done + n ≤ r.count → n ≤ left.count → runs' ≡ runs ++ part ∷ [] → part ≡ record { page = r.page + done; count = n; block = left.start; from = r.from + 4096 * done; source = r.source }
    → left' ≡ record { start = left.start + n; count = left.count - n; next = left.next }
    → writes_of own given runs ++ placed (run_pages (source_bytes own given r.source) (r.page + done) (r.block + done) (r.from + 4096 * done) (r.count - done) ++ later) (left_blocks extents left) ≡ start
    → writes_of own given runs' ++ placed (run_pages (source_bytes own given r.source) (r.page + (done + n)) (r.block + (done + n)) (r.from + 4096 * (done + n)) (r.count - (done + n)) ++ later) (left_blocks extents left') ≡ start
placed_step own given r part runs runs' extents left left' done n later start inside fits runs_are part_is left_is so_far =
    let bytes = source_bytes own given r.source in
    let old = writes_of own given runs in
    let mine = run_pages bytes (r.page + done) left.start (r.from + 4096 * done) n in
    let rest = range_with_len (left.start + n) (left.count - n) ++ blocks_in (drop left.next extents) in
    let behind = placed (run_pages bytes (r.page + (done + n)) (r.block + (done + n)) (r.from + 4096 * (done + n)) (r.count - (done + n)) ++ later) rest in
    let new : writes_of own given runs' ≡ old ++ mine = ap (writes_of own given) runs_are ∙ writes_push own given runs part ∙ ap (λ (x : Run). old ++ run_writes own given x) part_is in
    let blocks : left_blocks extents left ≡ range_with_len left.start n ++ rest =
    ap (λ (l : List ℕ). l ++ blocks_in (drop left.next extents)) (range_split left.start n (left.count - n) left.count (omega arith))
    ∙ append_assoc (range_with_len left.start n) (range_with_len (left.start + n) (left.count - n)) (blocks_in (drop left.next extents)) in
    let part : placed (run_pages bytes (r.page + done) (r.block + done) (r.from + 4096 * done) (r.count - done) ++ later) (left_blocks extents left) ≡ mine ++ behind =
    ap (placed (run_pages bytes (r.page + done) (r.block + done) (r.from + 4096 * done) (r.count - done) ++ later)) blocks
    ∙ placed_part bytes (r.page + done) (r.block + done) (r.from + 4096 * done) n (r.count - (done + n)) (r.count - done) (r.page + (done + n)) (r.block + (done + n)) (r.from + 4096 * (done + n)) left.start later rest (omega arith) (omega arith) (omega arith) (omega arith) in
    ap (λ (l : Left). writes_of own given runs' ++ placed (run_pages bytes (r.page + (done + n)) (r.block + (done + n)) (r.from + 4096 * (done + n)) (r.count - (done + n)) ++ later) (left_blocks extents l)) left_is
    ∙ ap (λ (l : List PageWrite). l ++ behind) new ∙ append_assoc old mine behind ∙ ap (λ (l : List PageWrite). old ++ l) (sym part) ∙ so_far

pub placed_begin : (own given : List ℕ) (r : Run) (runs : List Run) (extents : List Extent) (left : Left) (later : List PageWrite)
    → writes_of own given runs ++ placed (run_pages (source_bytes own given r.source) (r.page + 0) (r.block + 0) (r.from + 4096 * 0) (r.count - 0) ++ later) (left_blocks extents left)
    ≡ writes_of own given runs ++ placed (run_writes own given r ++ later) (left_blocks extents left)
placed_begin own given r runs extents left later =
    let bytes = source_bytes own given r.source in
    let old = writes_of own given runs in
    let a : r.page + 0 ≡ r.page = omega arith in
    let b : r.block + 0 ≡ r.block = omega arith in
    let c : r.from + 4096 * 0 ≡ r.from = omega arith in
    let d : r.count - 0 ≡ r.count = omega arith in
    ap (λ (k : ℕ). old ++ placed (run_pages bytes k (r.block + 0) (r.from + 4096 * 0) (r.count - 0) ++ later) (left_blocks extents left)) a
    ∙ ap (λ (k : ℕ). old ++ placed (run_pages bytes r.page k (r.from + 4096 * 0) (r.count - 0) ++ later) (left_blocks extents left)) b
    ∙ ap (λ (k : ℕ). old ++ placed (run_pages bytes r.page r.block k (r.count - 0) ++ later) (left_blocks extents left)) c
    ∙ ap (λ (k : ℕ). old ++ placed (run_pages bytes r.page r.block r.from k ++ later) (left_blocks extents left)) d

pub placed_end : (own given : List ℕ) (r : Run) (runs : List Run) (extents : List Extent) (left : Left) (done : ℕ) (later start : List PageWrite) → r.count ≤ done
    → writes_of own given runs ++ placed (run_pages (source_bytes own given r.source) (r.page + done) (r.block + done) (r.from + 4096 * done) (r.count - done) ++ later) (left_blocks extents left) ≡ start
    → writes_of own given runs ++ placed later (left_blocks extents left) ≡ start
placed_end own given r runs extents left done later start all so_far =
    let none : 0 ≡ r.count - done = omega arith in
    ap (λ (k : ℕ). writes_of own given runs ++ placed (run_pages (source_bytes own given r.source) (r.page + done) (r.block + done) (r.from + 4096 * done) k ++ later) (left_blocks extents left)) none ∙ so_far

pub left_length : (extents : List Extent) (left : Left) → length (left_blocks extents left) ≡ left.count + length (blocks_in (drop left.next extents))
left_length extents left = length-append (range_with_len left.start left.count) (blocks_in (drop left.next extents)) ∙ ap (λ (n : ℕ). n + length (blocks_in (drop left.next extents))) (length-range left.start left.count)

-- where blocks are left and none of the run that is begun, there is a next run
pub next_there : (extents : List Extent) (left : Left) → 0 < length (left_blocks extents left) → left.count ≡ 0 → left.next ≤ length extents → left.next < length extents
next_there extents left some none within =
    let size = left_length extents left in
    some_left extents left.next within (omega arith)
  where
    some_left : (xs : List Extent) (n : ℕ) → n ≤ length xs → 0 < length (blocks_in (drop n xs)) → n < length xs
    some_left [] zero within some = absurd (omega arith)
    some_left [] (suc n) within some = absurd (omega arith)
    some_left (x ∷ xs) zero within some = omega arith
    some_left (x ∷ xs) (suc n) within some = omega (arith, some_left xs n (omega arith) some)

pub refilled : (extents : List Extent) (left left' : Left) (e : Extent) → left.count ≡ 0 → left.next < length extents → e ≡ get_or extents left.next e
    → left' ≡ record { start = e.start; count = e.count; next = left.next + 1 } → left_blocks extents left' ≡ left_blocks extents left
refilled extents left left' e none there is left_is =
    ap (left_blocks extents) left_is
    ∙ ap (λ (es : List Extent). blocks_in es) (sym (drop_next extents left.next e is there))
    ∙ ap (λ (n : ℕ). range_with_len left.start n ++ blocks_in (drop left.next extents)) (sym none)

abbrev pub left_with : Left → ℕ → ℕ → Left
left_with left n start = record { start = left.start + start; count = left.count - n; next = left.next }

-- what is left after some blocks were taken
pub left_after : (extents : List Extent) (left left' : Left) (n : ℕ) → n ≤ left.count → left' ≡ record { start = left.start + n; count = left.count - n; next = left.next }
    → (length (left_blocks extents left') + n ≡ length (left_blocks extents left)) × (left_runs extents left' ≡ length extents - left.next + min (left.count - n) 1)
left_after extents left left' n fits is = (
  omega (arith, left_length extents left, left_length extents left', ap (λ (l : Left). l.count) is, ap (λ (l : Left). length (blocks_in (drop l.next extents))) is),
  ap (left_runs extents) is,
)

pub own_part : (own : List ℕ) (r part : Run) (done n block : ℕ) → done + n ≤ r.count → part ≡ record { page = r.page + done; count = n; block = block; from = r.from + 4096 * done; source = r.source } → IsOwnWithin own r → IsOwnWithin own part
own_part own r part done n block inside is within = λ source.
    let mine = within (sym (ap (λ (x : Run). x.source) is) ∙ source) in
    omega (arith, ap (λ (x : Run). x.from) is, ap (λ (x : Run). x.count) is)

pub all_pushed : (own : List ℕ) (runs runs' : List Run) (part : Run) → runs' ≡ runs ++ part ∷ [] → AllByRecursion (IsOwnWithin own) runs → IsOwnWithin own part → AllByRecursion (IsOwnWithin own) runs'
all_pushed own runs runs' part is all mine = subst (AllByRecursion (IsOwnWithin own)) (sym is) (all_append (IsOwnWithin own) runs (part ∷ []) all (mine, tt))

pub pushed_length : (runs : List Run) (part : Run) → length (runs ++ part ∷ []) ≡ length runs + 1
pushed_length runs part = length-append runs (part ∷ [])

runs_length_one : (bytes other : List ℕ) (page block from n : ℕ) → length (run_pages bytes page block from n) ≡ length (run_pages other page block from n)
runs_length_one bytes other page block from n = length-pages bytes page block from n ∙ sym (length-pages other page block from n)

-- how many pages runs have does not depend on their bytes
pub runs_length : (own given own' given' : List ℕ) (runs : List Run) → length (writes_of own given runs) ≡ length (writes_of own' given' runs)
runs_length own given own' given' [] = refl
runs_length own given own' given' (r ∷ runs) =
    omega (
      arith,
      length-append (run_writes own given r) (writes_of own given runs),
      length-append (run_writes own' given' r) (writes_of own' given' runs),
      runs_length_one (source_bytes own given r.source) (source_bytes own' given' r.source) r.page r.block r.from r.count,
      runs_length own given own' given' runs,
    )

-- the first of the runs that are left, and the others
pub runs_left : (own given : List ℕ) (runs : List Run) (i : ℕ) (r : Run) → r ≡ get_or runs i r → i < length runs → writes_of own given (drop i runs) ≡ run_writes own given r ++ writes_of own given (drop (i + 1) runs)
runs_left own given runs i r is lt = ap (writes_of own given) (drop_next runs i r is lt)

pub run_length : (own given : List ℕ) (r : Run) → length (run_writes own given r) ≡ r.count
run_length own given r = length-pages (source_bytes own given r.source) r.page r.block r.from r.count

pub none_left : (own given : List ℕ) (runs : List Run) (i : ℕ) → length runs ≤ i → writes_of own given (drop i runs) ≡ []
none_left own given runs i past = ap (writes_of own given) (drop_past runs i past)
  where
    drop_past : (xs : List Run) (n : ℕ) → length xs ≤ n → drop n xs ≡ []
    drop_past [] zero past = refl
    drop_past [] (suc n) past = refl
    drop_past (x ∷ xs) zero past = absurd (omega arith)
    drop_past (x ∷ xs) (suc n) past = drop_past xs n (omega arith)

pub append_nothing : (xs : List PageWrite) → xs ++ [] ≡ xs
append_nothing [] = refl
append_nothing (x ∷ xs) = ap (λ (l : List PageWrite). x ∷ l) (append_nothing xs)

pub own_at : (own : List ℕ) (runs : List Run) (i : ℕ) (r : Run) → r ≡ get_or runs i r → i < length runs → AllByRecursion (IsOwnWithin own) runs → IsOwnWithin own r
own_at own runs i r is lt all = subst (IsOwnWithin own) (sym is) (all_at (IsOwnWithin own) runs i r lt all)

pub within_part : (own given : List ℕ) (r part : Run) (done n block : ℕ) → done + n ≤ r.count → part ≡ record { page = r.page + done; count = n; block = block; from = r.from + 4096 * done; source = r.source } → IsWithin own given r → IsWithin own given part
within_part own given r part done n block inside is within =
    let limit : length (source_bytes own given part.source) ≡ length (source_bytes own given r.source) = ap (λ (x : Run). length (source_bytes own given x.source)) is in
    omega (arith, within, limit, ap (λ (x : Run). x.from) is, ap (λ (x : Run). x.count) is)

pub within_pushed : (own given : List ℕ) (runs runs' : List Run) (part : Run) → runs' ≡ runs ++ part ∷ [] → AreWithin own given runs → IsWithin own given part → AreWithin own given runs'
within_pushed own given runs runs' part is all mine = subst (AreWithin own given) (sym is) (all_append (IsWithin own given) runs (part ∷ []) all (mine, tt))

pub within_at : (own given : List ℕ) (runs : List Run) (i : ℕ) (r : Run) → r ≡ get_or runs i r → i < length runs → AreWithin own given runs → IsWithin own given r
within_at own given runs i r is lt all = subst (IsWithin own given) (sym is) (all_at (IsWithin own given) runs i r lt all)

source_more : (own more given : List ℕ) (s : Source) → length (source_bytes own given s) ≤ length (source_bytes (own ++ more) given s)
source_more own more given Given = omega arith
source_more own more given Own = omega (arith, length-append own more)

pub within_more : (own more given : List ℕ) (runs : List Run) → AreWithin own given runs → AreWithin (own ++ more) given runs
within_more own more given runs all = all_map (IsWithin own given) (IsWithin (own ++ more) given) (λ r fits. omega (arith, fits, source_more own more given r.source)) runs all

pub bytes_kept : (old new : WriteList) (bytes given : List ℕ) → new ≡ record old { own = new.own } → new.own ≡ old.own ++ bytes → HasBytes old given → HasBytes new given
bytes_kept old new bytes given is own_is has = record {
  runs = subst (λ (l : List Run). AreWithin new.own given l) (sym (ap (λ (w : WriteList). w.runs) is)) (subst (λ (o : List ℕ). AreWithin o given old.runs) (sym own_is) (within_more old.own bytes given old.runs has.runs));
  moves = subst (λ (l : List Run). AreWithin new.own given l) (sym (ap (λ (w : WriteList). w.moves) is)) (subst (λ (o : List ℕ). AreWithin o given old.moves) (sym own_is) (within_more old.own bytes given old.moves has.moves));
}

-- a run of one page of a list's last own bytes
pub within_last : (own now bytes given : List ℕ) (r : Run) (page block from : ℕ) → own ≡ now ++ bytes → r ≡ record { page = page; count = 1; block = block; from = from; source = Own } → from ≡ length now → length bytes ≡ 4096 → IsWithin own given r
within_last own now bytes given r page block from own_is r_is at size = subst (IsWithin own given) (sym r_is) (omega (arith, ap (length {A = ℕ}) own_is, length-append now bytes))

abbrev pub with_own : List ℕ → WriteList → WriteList
with_own own w = record w { own = own }

pub bytes_runs : (w w' : WriteList) (r : Run) (given : List ℕ) → w'.runs ≡ w.runs ++ r ∷ [] → w'.moves ≡ w.moves → w'.own ≡ w.own → IsWithin w.own given r → HasBytes w given → HasBytes w' given
bytes_runs w w' r given runs moves own mine has = record {
  runs = subst (λ (o : List ℕ). AreWithin o given w'.runs) (sym own) (within_pushed w.own given w.runs w'.runs r runs has.runs mine);
  moves = subst (λ (o : List ℕ). AreWithin o given w'.moves) (sym own) (subst (AreWithin w.own given) (sym moves) has.moves);
}

pub bytes_moves : (w w' : WriteList) (r : Run) (given : List ℕ) → w'.moves ≡ w.moves ++ r ∷ [] → w'.runs ≡ w.runs → w'.own ≡ w.own → IsWithin w.own given r → HasBytes w given → HasBytes w' given
bytes_moves w w' r given moves runs own mine has = record {
  runs = subst (λ (o : List ℕ). AreWithin o given w'.runs) (sym own) (subst (AreWithin w.own given) (sym runs) has.runs);
  moves = subst (λ (o : List ℕ). AreWithin o given w'.moves) (sym own) (within_pushed w.own given w.moves w'.moves r moves has.moves mine);
}

pub bytes_same : (w w' : WriteList) (given : List ℕ) → w'.runs ≡ w.runs → w'.moves ≡ w.moves → w'.own ≡ w.own → HasBytes w given → HasBytes w' given
bytes_same w w' given runs moves own has = record {
  runs = subst (λ (o : List ℕ). AreWithin o given w'.runs) (sym own) (subst (AreWithin w.own given) (sym runs) has.runs);
  moves = subst (λ (o : List ℕ). AreWithin o given w'.moves) (sym own) (subst (AreWithin w.own given) (sym moves) has.moves);
}
