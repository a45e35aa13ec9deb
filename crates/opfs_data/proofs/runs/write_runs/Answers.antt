use Rattle.std.proofs.Common.{◌≡◌, ℕ, ◌+◌, ◌*◌, ◌<◌, ◌≤◌, ◌∷◌, List, refl, min, length, take, drop, get_or, sym, ap, subst, ◌∙◌, inl, inr, arith}
use Rattle.std.proofs.lemmas.List.{drop_more}
use Rattle.opfs_base.specs.declared.extents.Extent.{Extent}
use Rattle.opfs_outside.specs.Bytes.{Same, window, Beside}
use Rattle.opfs_data.specs.Places.{room_of, bytes_of, run_room, run_place, Aside, AreApart}
use Rattle.opfs_data.proofs.CallLemmas.{writes_more, writes_put}
use Rattle.opfs_data.proofs.RunLemmas.{all_at, written_more}
use Rattle.opfs_data.proofs.runs.write_runs.Goals as goal

-- the places aside of all runs are beside the part that is written of one
beside_part : (base : ℕ) (es : List Extent) (i n : ℕ) (e : Extent) → i < length es → e ≡ get_or es i (record { start = 0; count = 0 }) → n ≤ run_room e
    → (k : ℕ) → Aside base es k → Beside (run_place base e) n k
beside_part base es i n e lt is small k aside =
    let all : Beside (run_place base e) (run_room e) k = subst (λ (f : Extent). Beside (run_place base f) (run_room f) k) (sym is)
    (all_at (λ (f : Extent). Beside (run_place base f) (run_room f) k) es i (record { start = 0; count = 0 }) lt aside) in
    elim all [ inl before ↦ inl before | inr past ↦ inr (omega arith) ]

pub returns-in_err-put-clause-writes : goal.returns-in_err-put-clause-writes
returns-in_err-put-clause-writes g c =
    let laws = g.met.D.Disk in
    let at = c.loop-extent.invariant in
    let es : List Extent = c.args.extents.now in
    let i = c.loop-extent.extent-index in
    let none : Extent = record { start = 0; count = 0 } in
    let e : Extent = get_or es i none in
    let n : ℕ = length c.split_at.result.0.now in
    let b = c.put.ensures in
    let start : c.from-in-loop-extent.result ≡ e.start = c.from-in-loop-extent.ensures in
    let count : c.from.result ≡ e.count = c.from.ensures in
    let is = c.min-count.ensures in
    let there : run_place c.args.base e ≡ c.args.base + c.from-in-loop-extent.result * 4096 = omega (arith, start) in
    let small : n ≤ run_room e = omega (arith, is, count, c.split_at.ensures.front_len) in
    writes_more g.D.Disk laws.falls c.args.base es c.args.journal.now c.loop-extent.journal c.put.new.self at.writes
    (writes_put g.D.Disk laws.falls c.args.base es (c.args.base + c.from-in-loop-extent.result * 4096) n c.loop-extent.journal c.put.new.self
    (λ k aside. subst (λ (p : ℕ). Beside p n k) there (beside_part c.args.base es i n e c.loop-extent-test.true refl small k aside))
    b.stays b.tail b.format (b.sure ∙ sym (at.sure ∙ c.requires.settled)) b.later b.records b.elsewhere b.time b.moments)

pub loop-extent-preserved : goal.loop-extent-preserved
loop-extent-preserved g c =
    let laws = g.met.D.Disk in
    let at = c.loop-extent.invariant in
    let es : List Extent = c.args.extents.now in
    let i = c.loop-extent.extent-index in
    let none : Extent = record { start = 0; count = 0 } in
    let e : Extent = get_or es i none in
    let rest : List Extent = drop (i + 1) es in
    let here : List ℕ = c.split_at.result.0.now in
    let more : List ℕ = c.split_at.result.1.now in
    let left : List ℕ = c.loop-extent.rest.now in
    let part = c.split_at.ensures in
    let n : ℕ = length here in
    let b = c.in_ok-put.ensures in
    let next : drop i es ≡ e ∷ rest = drop_more es i none c.loop-extent-test.true in
    let start : c.from-in-loop-extent.result ≡ e.start = c.from-in-loop-extent.ensures in
    let count : c.from.result ≡ e.count = c.from.ensures in
    let there : run_place c.args.base e ≡ c.args.base + c.from-in-loop-extent.result * 4096 = omega (arith, start) in
    let is : n ≡ min (run_room e) (length left) = part.front_len ∙ c.min-count.ensures ∙ ap (λ (k : ℕ). min k (length left)) (omega (arith, count)) in
    let small : n ≤ run_room e = omega (arith, is) in
    let room : length left ≤ run_room e + room_of rest = subst (λ (xs : List Extent). length left ≤ room_of xs) next at.room in
    record {
      room = omega (arith, room, is, part.back_len, part.front_len);
      sure = b.sure ∙ sym c.requires.settled;
      writes = writes_more g.D.Disk laws.falls c.args.base es c.args.journal.now c.loop-extent.journal c.put.new.self at.writes
          (writes_put g.D.Disk laws.falls c.args.base es (c.args.base + c.from-in-loop-extent.result * 4096) n c.loop-extent.journal c.put.new.self
          (λ k aside. subst (λ (p : ℕ). Beside p n k) there (beside_part c.args.base es i n e c.loop-extent-test.true refl small k aside))
          b.stays b.tail b.format (b.sure ∙ sym (at.sure ∙ c.requires.settled)) b.later b.records b.elsewhere b.time b.moments);
      apart = λ apart. (subst AreApart next (at.apart apart)).1;
      written = λ told apart.
          written_more c.args.base e rest (g.D.Disk.content c.loop-extent.journal.disk) (g.D.Disk.content c.put.new.self.disk) left here more n
          (λ (d : List ℕ). bytes_of d c.args.base es (length c.args.bytes.now) ≡ c.args.bytes.now)
          is (part.front ∙ ap (λ (k : ℕ). take k left) (sym part.front_len)) (part.back ∙ ap (λ (k : ℕ). drop k left) (sym part.front_len))
          (subst AreApart next (at.apart apart))
          (ap (λ (p : ℕ). window (g.D.Disk.content c.put.new.self.disk) p n) there ∙ b.written told)
          (λ k beside. b.elsewhere told k (subst (λ (p : ℕ). Beside p n k) there beside))
          (λ d same full. at.written told apart d (subst (λ (xs : List Extent). Same (Aside c.args.base xs) d (g.D.Disk.content c.loop-extent.journal.disk)) (sym next) same) (subst (λ (xs : List Extent). bytes_of d c.args.base xs (length left) ≡ left) (sym next) full));
    }
