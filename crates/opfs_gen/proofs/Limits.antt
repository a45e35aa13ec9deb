-- A large run's script keeps all limits.
use Rattle.std.proofs.Common.{◌≡◌, ◌+◌, ◌*◌, ◌<◌, ◌≤◌, ◌^◌, ◌==◌, ◌%◌, ◌&&◌, nat_le, ℕ, zero, suc, Bool, true, false, List, [], ◌∷◌, ◌++◌, codes, length, length-append, sum_by, if◌then◌else◌, Some, refl, arith}
use Rattle.std.specs.List.{list_all}
use Rattle.std.proofs.Math.Nat.{suc-mul}
use Rattle.std.proofs.lemmas.Bool.Decides.{nat_tests}
use Rattle.std.proofs.lemmas.List.{length-replicate}
use Rattle.std.proofs.lemmas.List.Sums.{sum_by-append, sum_by-cons}
use Rattle.opfs_base.specs.Texts.{Text}
use Rattle.opfs_script.specs.declared.step.Step.{Step}
use Rattle.opfs_script.specs.declared.step.Step.TheVariants as step
use Rattle.opfs_script.specs.Limits.{bytes_asked, bytes_of_agent, bytes_of_all, fits_limits, keeps_bounds, keeps_limits, steps_of_all}
use Rattle.opfs_script.specs.Scripts.{Asked}
use Rattle.opfs_gen.specs.declared.drawing.Round.{Round}
use Rattle.opfs_gen.specs.Drawing.{act_of, drawn, part, round_after, round_of}
use Rattle.opfs_gen.specs.Making.{IsGenRange, agents_from, gen_asked, gen_script}
use Rattle.opfs_gen.specs.Rounds.{bytes_of, gen_steps, handle_steps, read_steps, removal_steps, round_steps, rounds_steps, stream_steps}
use Rattle.opfs_gen.proofs.Keys.{key-formed}

at-most : (n m : ℕ) → n ≤ m → nat_le n m ≡ true
at-most n m h = grind (arith, nat_tests)

both : (a b : Bool) → a ≡ true → b ≡ true → (a && b) ≡ true
both a b h k = λ i. h i && k i

all-append : (f : Step → Bool) (xs ys : List Step) → list_all f xs ≡ true → list_all f ys ≡ true → list_all f (xs ++ ys) ≡ true
all-append f [] ys h k = k
all-append f (x ∷ xs) ys h k = by (f x) (list_all f xs) (list_all f (xs ++ ys)) h (all-append f xs ys)
  where
    by : (a b c : Bool) → (a && b) ≡ true → (b ≡ true → list_all f ys ≡ true → c ≡ true) → (a && c) ≡ true
    by true b c h more = more h k
    by false b c h more = cc

-- What is asked of a round's numbers.
record IsSmall (r : Round) : Type 0 where
  count : r.count ≤ 4095
  position : r.position ≤ 61440

below : (n m : ℕ) → n % (m + 1) ≤ m
below n m = search (arith)

small-round : (x : ℕ) → IsSmall (round_of x)
small-round x = elim (nat_le 2 (act_of x)) as (λ b. IsSmall (elim b as (λ t. Round) [
  | true ↦ record { act = act_of x; file = part (drawn (drawn x)) % 8; byte = 0; count = 0; position = 0 }
  | false ↦ record {
    act = act_of x;
    file = part (drawn (drawn x)) % 8;
    byte = part (drawn (drawn (drawn x))) % 256;
    count = part (drawn (drawn (drawn (drawn x)))) % 4096;
    position = part (drawn (drawn (drawn (drawn (drawn x))))) % 61440;
  }
])) [
  | true ↦ record { count = omega arith; position = omega arith }
  | false ↦ record { count = omega arith; position = omega arith }
]

-- What a round's steps ask.
record AreSmall (steps : List Step) : Type 0 where
  few : length steps ≤ 4
  bytes : sum_by bytes_asked steps ≤ 4095
  bounds : list_all keeps_bounds steps ≡ true

small-bytes : (r : Round) → IsSmall r → length (bytes_of r) ≤ 4095
small-bytes r h = let long = length-replicate r.count r.byte in let count = h.count in omega (arith, long, count)

write-bounds : (bytes : Text) (position : ℕ) → length bytes ≤ 4095 → position ≤ 61440 → keeps_bounds (step.Write (codes "w") bytes (Some position)) ≡ true
write-bounds bytes position few low = both _ _ (at-most (length bytes) 16777216 (omega (arith, few))) (at-most position 9007199254740991 (omega (arith, low)))

sync-bounds : (bytes : Text) (position : ℕ) → length bytes ≤ 4095 → position ≤ 61440 → keeps_bounds (step.SyncWrite (codes "s") bytes (Some position)) ≡ true
sync-bounds bytes position few low = both _ _ (at-most (length bytes) 16777216 (omega (arith, few))) (at-most position 9007199254740991 (omega (arith, low)))

small-stream : (r : Round) → IsSmall r → AreSmall (stream_steps r)
small-stream r h =
    let bytes = small-bytes r h in
    record {
      few = omega arith;
      bytes = omega (arith, bytes);
      bounds = λ i. write-bounds (bytes_of r) r.position bytes h.position i && true;
    }

small-handle : (r : Round) → IsSmall r → AreSmall (handle_steps r)
small-handle r h =
    let bytes = small-bytes r h in
    record {
      few = omega arith;
      bytes = omega (arith, bytes);
      bounds = λ i. sync-bounds (bytes_of r) r.position bytes h.position i && true;
    }

small-steps : (r : Round) → IsSmall r → AreSmall (round_steps r)
unfolding round_steps
small-steps r h =
    elim (r.act == 0) as (λ b. AreSmall (if b then stream_steps r else (if r.act == 1 then handle_steps r else (if r.act == 2 then read_steps r else removal_steps r)))) [
      | true ↦ small-stream r h
      | false ↦ elim (r.act == 1) as (λ b. AreSmall (if b then handle_steps r else (if r.act == 2 then read_steps r else removal_steps r))) [
        | true ↦ small-handle r h
        | false ↦ elim (r.act == 2) as (λ b. AreSmall (if b then read_steps r else removal_steps r)) [
          | true ↦ record { few = omega arith; bytes = omega arith; bounds = refl }
          | false ↦ record { few = omega arith; bytes = omega arith; bounds = refl }
        ]
      ]
    ]

record AreSmallFor (rounds : ℕ) (steps : List Step) : Type 0 where
  few : length steps ≤ 4 * rounds
  bytes : sum_by bytes_asked steps ≤ 4095 * rounds
  bounds : list_all keeps_bounds steps ≡ true

small-rounds : (rounds x : ℕ) → AreSmallFor rounds (rounds_steps x rounds)
small-rounds zero x = record { few = omega arith; bytes = omega arith; bounds = refl }
small-rounds (suc rounds) x =
    let one = small-steps (round_of x) (small-round x) in
    let more = small-rounds rounds (round_after x) in
    let long = length-append (round_steps (round_of x)) (rounds_steps (round_after x) rounds) in
    let sum = sum_by-append bytes_asked (round_steps (round_of x)) (rounds_steps (round_after x) rounds) in
    let a = one.few in
    let b = more.few in
    let c = one.bytes in
    let d = more.bytes in
    record {
      few = omega (arith, long, a, b);
      bytes = omega (arith, sum, c, d);
      bounds = all-append keeps_bounds (round_steps (round_of x)) (rounds_steps (round_after x) rounds) one.bounds more.bounds;
    }

record AreWithin (rounds : ℕ) (steps : List Step) : Type 0 where
  few : length steps ≤ 4 * rounds + 1
  bytes : sum_by bytes_asked steps ≤ 4095 * rounds
  bounds : list_all keeps_bounds steps ≡ true

small-gen : (x rounds : ℕ) → AreWithin rounds (gen_steps x rounds)
small-gen x rounds =
    let more = small-rounds rounds x in
    let few = more.few in
    let bytes = more.bytes in
    record { few = omega (arith, few); bytes = omega (arith, bytes); bounds = more.bounds }

pub agent-limits : (seed rounds k : ℕ) → rounds ≤ 200 → k < 2 ^ 64 → keeps_limits (gen_asked seed rounds k) ≡ true
agent-limits seed rounds k many few =
    let steps = small-gen (seed + k) rounds in
    let long = steps.few in
    let bytes = steps.bytes in
    both _ _ (both _ _ (key-formed k few) steps.bounds)
    (both _ _ (at-most (length (gen_steps (seed + k) rounds)) 20000 (omega (arith, long, many))) (at-most (sum_by bytes_asked (gen_steps (seed + k) rounds)) 67108864 (omega (arith, bytes, many))))

-- ---- all agents

record AreFew (count rounds : ℕ) (agents : List Asked) : Type 0 where
  many : length agents ≡ count
  steps : steps_of_all agents ≤ count * (4 * rounds + 1)
  bytes : bytes_of_all agents ≤ count * (4095 * rounds)

few-agents : (seed rounds k count : ℕ) → AreFew count rounds (agents_from seed rounds k count)
few-agents seed rounds k zero = record { many = refl; steps = omega arith; bytes = omega arith }
few-agents seed rounds k (suc count) =
    let one = small-gen (seed + k) rounds in
    let more = few-agents seed rounds (k + 1) count in
    let long = one.few in
    let asked = one.bytes in
    let steps = more.steps in
    let bytes = more.bytes in
    let many = more.many in
    let a = suc-mul count (4 * rounds + 1) in
    let b = suc-mul count (4095 * rounds) in
    let sum_steps = sum_by-cons (λ (x : Asked). length x.steps) (gen_asked seed rounds k) (agents_from seed rounds (k + 1) count) in
    let sum_bytes = sum_by-cons bytes_of_agent (gen_asked seed rounds k) (agents_from seed rounds (k + 1) count) in
    record { many = omega (arith, many); steps = omega (arith, a, sum_steps, long, steps); bytes = omega (arith, b, sum_bytes, asked, bytes) }

product : (count n m : ℕ) → count ≤ 16 → n ≤ m → count * n ≤ 16 * m
product count n m few less = search (arith)

pub script-limits : (seed agents rounds : ℕ) → IsGenRange seed agents rounds → fits_limits (gen_script seed agents rounds) ≡ true
script-limits seed agents rounds range =
    let all = few-agents seed rounds 1 agents in
    let many = all.many in
    let steps = all.steps in
    let bytes = all.bytes in
    let few = range.few_agents in
    let rows = range.few_rounds in
    let a = product agents (4 * rounds + 1) 801 few (omega (arith, rows)) in
    let b = product agents (4095 * rounds) 819000 few (omega (arith, rows)) in
    both _ _ (both _ _ (at-most (length (gen_script seed agents rounds)) 64 (omega (arith, many, few))) (at-most (steps_of_all (gen_script seed agents rounds)) 20000 (omega (arith, steps, a))))
    (at-most (bytes_of_all (gen_script seed agents rounds)) 67108864 (omega (arith, bytes, b)))
