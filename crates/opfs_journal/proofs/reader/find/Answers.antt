use Rattle.std.proofs.Common.{◌≡◌, ◌+◌, inl, inr, sym, ◌∙◌, ap, subst}
use Rattle.std.specs.Prelude.{ℕ, ◌⊎◌, Bool, true, false, Result, Ok, Err}
use Rattle.std.proofs.lemmas.Result.{IfErr-weaker}
use Rattle.opfs_journal.specs.Format.{begin_of, chain, chosen_in, opened, read_chosen, read_areas}
use Rattle.opfs_journal.specs.Walking.{OnlyRead, IsFirst}
use Rattle.opfs_journal.specs.declared.refusal.OpenRefusal.{OpenRefusal}
use Rattle.opfs_journal.specs.declared.refusal.OpenRefusal.TheVariants.{BadRecord, DiskFault}
use Rattle.opfs_journal.proofs.Choices.{chosen_same}
use Rattle.opfs_journal.proofs.Views.{on_ok}
use Rattle.opfs_journal.proofs.Walks.{only_more, still_durable}
use Rattle.opfs_journal.proofs.reader.find.Goals as goal

pub returns-in_err-choose-clause-only : goal.returns-in_err-choose-clause-only
returns-in_err-choose-clause-only g c =
    let laws = g.met.D.Disk in
    let synced : OnlyRead g.D.Disk c.args.disk.now c.sync.new.self =
    record { length = c.sync.ensures.size; later = c.sync.ensures.later; told = λ told. record { same = c.sync.ensures.same told; time = c.sync.ensures.time told; moments = c.sync.ensures.moments told } } in
    let both = only_more g.D.Disk laws.falls c.args.disk.now c.sync.new.self c.read_heads.new.disk synced c.read_heads.ensures.only in
    both

pub read_ruling-requires-clause-durable : goal.read_ruling-requires-clause-durable
read_ruling-requires-clause-durable g c =
    let laws = g.met.D.Disk in
    λ told. still_durable g.D.Disk laws.falls c.sync.new.self c.read_heads.new.disk c.read_heads.ensures.only told (c.in_ok-sync.ensures.durable told)

pub read_ruling-requires-else-branch-clause-durable : goal.read_ruling-requires-else-branch-clause-durable
read_ruling-requires-else-branch-clause-durable g c =
    let laws = g.met.D.Disk in
    λ told. still_durable g.D.Disk laws.falls c.sync.new.self c.read_heads.new.disk c.read_heads.ensures.only told (c.in_ok-sync.ensures.durable told)

pub returns-then-branch-clause-only : goal.returns-then-branch-clause-only
returns-then-branch-clause-only g c =
    let laws = g.met.D.Disk in
    let synced : OnlyRead g.D.Disk c.args.disk.now c.sync.new.self =
    record { length = c.sync.ensures.size; later = c.sync.ensures.later; told = λ told. record { same = c.sync.ensures.same told; time = c.sync.ensures.time told; moments = c.sync.ensures.moments told } } in
    let both = only_more g.D.Disk laws.falls c.args.disk.now c.sync.new.self c.read_heads.new.disk synced c.read_heads.ensures.only in
    only_more g.D.Disk laws.falls c.args.disk.now c.read_heads.new.disk c.read_ruling.new.disk both c.read_ruling.ensures.only

pub returns-then-branch-clause-durable : goal.returns-then-branch-clause-durable
returns-then-branch-clause-durable g c =
    let laws = g.met.D.Disk in
    let all = only_more g.D.Disk laws.falls c.sync.new.self c.read_heads.new.disk c.read_ruling.new.disk c.read_heads.ensures.only c.read_ruling.ensures.only in
    on_ok c.read_ruling.result (λ told. still_durable g.D.Disk laws.falls c.sync.new.self c.read_ruling.new.disk all told (c.in_ok-sync.ensures.durable told))

pub returns-then-branch-clause-refused : goal.returns-then-branch-clause-refused
returns-then-branch-clause-refused g c =
    let laws = g.met.D.Disk in
    let synced : OnlyRead g.D.Disk c.args.disk.now c.sync.new.self =
    record { length = c.sync.ensures.size; later = c.sync.ensures.later; told = λ told. record { same = c.sync.ensures.same told; time = c.sync.ensures.time told; moments = c.sync.ensures.moments told } } in
    let both = only_more g.D.Disk laws.falls c.args.disk.now c.sync.new.self c.read_heads.new.disk synced c.read_heads.ensures.only in
    let ok = c.in_ok-choose.ensures in
    let weaken : (refusal : OpenRefusal) → (refusal ≡ DiskFault) ⊎ ((gate : ℕ) × (refusal ≡ BadRecord gate) × (g.D.Disk.tells → chain c.args.areas.bytes (g.D.Disk.content c.read_heads.new.disk) (begin_of c.args.areas true) (begin_of c.args.areas true + c.args.areas.bytes) ≡ Err gate))
    → (refusal ≡ DiskFault) ⊎ (g.D.Disk.tells → read_areas c.args.areas (g.D.Disk.content c.args.disk.now) ≡ Err refusal) = λ refusal h. elim h [
      | inl fault ↦ inl fault
      | inr bad ↦ inr (λ told.
          let content = g.D.Disk.content c.args.disk.now in
          let same0 = c.sync.ensures.same told in
          let same2 = (both.told told).same in
          let f0 = subst (λ c'. IsFirst c' c.args.areas.first c.in_ok-first.first.open c.in_ok-first.first.len c.in_ok-first.first.generation) same0 (c.in_ok-first.ensures.first told) in
          let f1 = subst (λ c'. IsFirst c' (c.args.areas.first + c.args.areas.bytes) c.in_ok-first.second.open c.in_ok-first.second.len c.in_ok-first.second.generation) same0 (c.in_ok-first.ensures.second told) in
          let choice : chosen_in c.args.areas content ≡ Ok true = sym (chosen_same c.args.areas content c.in_ok-first.first.open c.in_ok-first.first.len c.in_ok-first.first.generation c.in_ok-first.second.open c.in_ok-first.second.len c.in_ok-first.second.generation f0 f1) ∙ sym ok ∙ ap (λ (x : Bool). Ok x) c.if-branch.true in
          ap (λ (x : Result Bool OpenRefusal). read_chosen c.args.areas content x) choice
          ∙ ap (λ x. opened true x) (ap (λ c'. chain c.args.areas.bytes c' (begin_of c.args.areas true) (begin_of c.args.areas true + c.args.areas.bytes)) (sym same2) ∙ bad.2 told)
          ∙ ap (λ (x : OpenRefusal). Err x) (sym bad.1))
    ] in
    IfErr-weaker c.read_ruling.result _ _ weaken c.read_ruling.ensures.bad

pub returns-else-branch-clause-only : goal.returns-else-branch-clause-only
returns-else-branch-clause-only g c =
    let laws = g.met.D.Disk in
    let synced : OnlyRead g.D.Disk c.args.disk.now c.sync.new.self =
    record { length = c.sync.ensures.size; later = c.sync.ensures.later; told = λ told. record { same = c.sync.ensures.same told; time = c.sync.ensures.time told; moments = c.sync.ensures.moments told } } in
    let both = only_more g.D.Disk laws.falls c.args.disk.now c.sync.new.self c.read_heads.new.disk synced c.read_heads.ensures.only in
    only_more g.D.Disk laws.falls c.args.disk.now c.read_heads.new.disk c.read_ruling-else-branch.new.disk both c.read_ruling-else-branch.ensures.only

pub returns-else-branch-clause-durable : goal.returns-else-branch-clause-durable
returns-else-branch-clause-durable g c =
    let laws = g.met.D.Disk in
    let all = only_more g.D.Disk laws.falls c.sync.new.self c.read_heads.new.disk c.read_ruling-else-branch.new.disk c.read_heads.ensures.only c.read_ruling-else-branch.ensures.only in
    on_ok c.read_ruling-else-branch.result (λ told. still_durable g.D.Disk laws.falls c.sync.new.self c.read_ruling-else-branch.new.disk all told (c.in_ok-sync.ensures.durable told))

pub returns-else-branch-clause-refused : goal.returns-else-branch-clause-refused
returns-else-branch-clause-refused g c =
    let laws = g.met.D.Disk in
    let synced : OnlyRead g.D.Disk c.args.disk.now c.sync.new.self =
    record { length = c.sync.ensures.size; later = c.sync.ensures.later; told = λ told. record { same = c.sync.ensures.same told; time = c.sync.ensures.time told; moments = c.sync.ensures.moments told } } in
    let both = only_more g.D.Disk laws.falls c.args.disk.now c.sync.new.self c.read_heads.new.disk synced c.read_heads.ensures.only in
    let ok = c.in_ok-choose.ensures in
    let weaken : (refusal : OpenRefusal) → (refusal ≡ DiskFault) ⊎ ((gate : ℕ) × (refusal ≡ BadRecord gate) × (g.D.Disk.tells → chain c.args.areas.bytes (g.D.Disk.content c.read_heads.new.disk) (begin_of c.args.areas false) (begin_of c.args.areas false + c.args.areas.bytes) ≡ Err gate))
    → (refusal ≡ DiskFault) ⊎ (g.D.Disk.tells → read_areas c.args.areas (g.D.Disk.content c.args.disk.now) ≡ Err refusal) = λ refusal h. elim h [
      | inl fault ↦ inl fault
      | inr bad ↦ inr (λ told.
          let content = g.D.Disk.content c.args.disk.now in
          let same0 = c.sync.ensures.same told in
          let same2 = (both.told told).same in
          let f0 = subst (λ c'. IsFirst c' c.args.areas.first c.in_ok-first.first.open c.in_ok-first.first.len c.in_ok-first.first.generation) same0 (c.in_ok-first.ensures.first told) in
          let f1 = subst (λ c'. IsFirst c' (c.args.areas.first + c.args.areas.bytes) c.in_ok-first.second.open c.in_ok-first.second.len c.in_ok-first.second.generation) same0 (c.in_ok-first.ensures.second told) in
          let choice : chosen_in c.args.areas content ≡ Ok false = sym (chosen_same c.args.areas content c.in_ok-first.first.open c.in_ok-first.first.len c.in_ok-first.first.generation c.in_ok-first.second.open c.in_ok-first.second.len c.in_ok-first.second.generation f0 f1) ∙ sym ok ∙ ap (λ (x : Bool). Ok x) c.if-branch.false in
          ap (λ (x : Result Bool OpenRefusal). read_chosen c.args.areas content x) choice
          ∙ ap (λ x. opened false x) (ap (λ c'. chain c.args.areas.bytes c' (begin_of c.args.areas false) (begin_of c.args.areas false + c.args.areas.bytes)) (sym same2) ∙ bad.2 told)
          ∙ ap (λ (x : OpenRefusal). Err x) (sym bad.1))
    ] in
    IfErr-weaker c.read_ruling-else-branch.result _ _ weaken c.read_ruling-else-branch.ensures.bad
