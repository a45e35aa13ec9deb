-- What bytes build, part after part.
use Rattle.std.proofs.Common.{◌≡◌, ℕ, zero, suc, ◌+◌, ◌<◌, ◌≤◌, List, [], ◌∷◌, ◌++◌, length, Option, Some, refl, sym, ap, subst, ◌∙◌, append_assoc, arith}
use Rattle.std.proofs.lemmas.List.{append-nil, length-append}
use Rattle.opfs_codec.specs.Reading.{◌>>=◌}
use Rattle.opfs_codec.specs.Reading.{change_at as change_read}
use Rattle.opfs_codec.specs.Spelling.{spelling, IsChange}
use Rattle.opfs_codec.specs.declared.change.Format.TheVariants.{New}
use Rattle.opfs_codec.specs.declared.change.Change.{Change}
use Rattle.opfs_codec.specs.declared.change.Change.TheVariants.{MakeRoot, MakeDir, MakeFile, Remove, Content, Persist, Evict}
use Rattle.opfs_codec.proofs.ChangeLemmas.{change_again}
use Rattle.opfs_codec.proofs.FieldLemmas.{bind_some}
use Rattle.opfs_records.specs.Replay.Built.{Built, nothing_built}
pub use Rattle.opfs_records.specs.Checkpoint.Building.{Builds}
use Rattle.opfs_records.specs.Replay.Applying.{tried, built_within, built_by, built_by_all, rows_of}

abbrev applied_then : ℕ → ℕ → List ℕ → Option Built → Option Built
applied_then size most after found = found >>= λ next. built_within most New size after next

abbrev read_then : ℕ → ℕ → Built → Option (Change × List ℕ) → Option Built
read_then size most built read = read >>= λ change. applied_then size most change.1 (tried New size built change.0)

-- What is built within some changes is built within more.
more_changes : (size most more : ℕ) (rest : List ℕ) (b out : Built) → most ≤ more → built_within most New size rest b ≡ Some out → built_within more New size rest b ≡ Some out
unfolding built_within
more_changes size zero zero [] b out le h = h
more_changes size zero (suc n) [] b out le h = h
more_changes size (suc m) zero [] b out le h = h
more_changes size (suc m) (suc n) [] b out le h = h
more_changes size zero more (byte ∷ bytes) b out le h = absurd cc
more_changes size (suc m) zero (byte ∷ bytes) b out le h = absurd (omega (arith, le))
more_changes size (suc m) (suc n) (byte ∷ bytes) b out le h =
    let p = bind_some (change_read New (byte ∷ bytes)) (λ change. applied_then size m change.1 (tried New size b change.0)) out h in
    let q = bind_some (tried New size b p.0.0) (λ next. built_within m New size p.0.1 next) out p.2 in
    ap (read_then size n b) p.1 ∙ ap (applied_then size n p.0.1) q.1 ∙ more_changes size m n p.0.1 q.0 out (omega (arith, le)) q.2

one_step : (size most : ℕ) (bytes rest : List ℕ) (c : Change) (b next out : Built) → change_read New bytes ≡ Some (c, rest) → tried New size b c ≡ Some next
    → built_within most New size rest next ≡ Some out → built_within (suc most) New size bytes b ≡ Some out
unfolding built_within change_read
one_step size most [] rest c b next out read found h = absurd cc
one_step size most (byte ∷ bytes) rest c b next out read found h = ap (read_then size most b) read ∙ ap (applied_then size most rest) found ∙ h

-- A spelling has a byte at least.
some_bytes : (c : Change) → 0 < length (spelling New c)
unfolding spelling
some_bytes (MakeRoot u) = omega arith
some_bytes (MakeDir u p) = omega arith
some_bytes (MakeFile u p stamp) = omega arith
some_bytes (Remove u p) = omega arith
some_bytes (Content u p stamp size es) = omega arith
some_bytes (Persist u) = omega arith
some_bytes (Evict u) = omega arith

pub builds_nothing : (size : ℕ) (b : Built) → Builds size [] b b
builds_nothing size b = record { goes_on = λ most more rest out le h. more_changes size most more rest b out (omega (arith, le)) h }

step_within : (size most more : ℕ) (bytes rest : List ℕ) (c : Change) (b next out : Built) → change_read New bytes ≡ Some (c, rest) → tried New size b c ≡ Some next → 0 < more → most + 1 ≤ more
    → built_within most New size rest next ≡ Some out → built_within more New size bytes b ≡ Some out
step_within size most zero bytes rest c b next out read found lt le h = absurd (omega (arith, lt))
step_within size most (suc n) bytes rest c b next out read found lt le h =
    one_step size n bytes rest c b next out read found (more_changes size most n rest next out (omega (arith, le)) h)

-- A spelled change that can be applied builds what it makes.
pub builds_one : (size : ℕ) (c : Change) (b next : Built) → IsChange New c → tried New size b c ≡ Some next → Builds size (spelling New c) b next
builds_one size c b next good found = record {
  goes_on = λ most more rest out le h.
      let some = some_bytes c in
      step_within size most more (spelling New c ++ rest) rest c b next out (change_again New c rest good) found (omega (arith, some, le)) (omega (arith, some, le)) h;
}

-- One part after another.
pub builds_both : (size : ℕ) (xs ys : List ℕ) (a b c : Built) → Builds size xs a b → Builds size ys b c → Builds size (xs ++ ys) a c
builds_both size xs ys a b c first second = record {
  goes_on = λ most more rest out le h.
      let later = second.goes_on most (length ys + most) rest out (omega arith) h in
      let both = first.goes_on (length ys + most) more (ys ++ rest) out (omega (arith, le, length-append xs ys)) later in
      subst (λ (zs : List ℕ). built_within more New size zs a ≡ Some out) (sym (append_assoc xs ys rest)) both;
}

-- The same bytes and the same end.
pub builds_same : (size : ℕ) (xs ys : List ℕ) (a b c : Built) → xs ≡ ys → b ≡ c → Builds size xs a b → Builds size ys a c
builds_same size xs ys a b c same end h = subst (λ (zs : List ℕ). Builds size zs a c) same (subst (λ (d : Built). Builds size xs a d) end h)

nothing_left : (size : ℕ) (b : Built) → built_within 0 New size [] b ≡ Some b
unfolding built_within
nothing_left size b = refl

abbrev last_then : ℕ → Option Built → Option Built
last_then size found = found >>= λ next. built_by_all New size [] next

-- A body that builds from somewhere is read so.
pub builds_whole : (size : ℕ) (bytes : List ℕ) (before after : Built) → Builds size bytes before after → built_by New size bytes before ≡ Some after
builds_whole size bytes before after h =
    ap (λ (xs : List ℕ). built_within (length bytes) New size xs before) (sym (append-nil bytes)) ∙ h.goes_on 0 (length bytes) [] after (omega arith) (nothing_left size after)

-- A body that builds from nothing is one record's.
pub one_record : (size : ℕ) (bytes : List ℕ) (b : Built) → Builds size bytes nothing_built b → rows_of New size (bytes ∷ []) ≡ Some b
unfolding built_by_all
one_record size bytes b h = ap (last_then size) (builds_whole size bytes nothing_built b h)

abbrev all_then : ℕ → List (List ℕ) → Option Built → Option Built
all_then size more found = found >>= λ next. built_by_all New size more next

one_more : (size : ℕ) (records : List (List ℕ)) (bytes : List ℕ) (start before after : Built) → built_by_all New size records start ≡ Some before → Builds size bytes before after → built_by_all New size (records ++ bytes ∷ []) start ≡ Some after
unfolding built_by_all
one_more size [] bytes start before after h builds =
    let same : start ≡ before = cc in
    ap (last_then size) (ap (built_by New size bytes) same ∙ builds_whole size bytes before after builds)
one_more size (r ∷ rs) bytes start before after h builds =
    let p = bind_some (built_by New size r start) (λ next. built_by_all New size rs next) before h in
    ap (all_then size (rs ++ bytes ∷ [])) p.1 ∙ one_more size rs bytes p.0 before after p.2 builds

-- One record more, whose body builds from what the records before it built.
pub rows_more : (size : ℕ) (records : List (List ℕ)) (bytes : List ℕ) (before after : Built) → rows_of New size records ≡ Some before → Builds size bytes before after → rows_of New size (records ++ bytes ∷ []) ≡ Some after
rows_more size records bytes before after h builds = one_more size records bytes nothing_built before after h builds
