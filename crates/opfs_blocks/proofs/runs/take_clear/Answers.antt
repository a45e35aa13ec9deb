use Rattle.std.proofs.Common.{ℕ, ◌+◌, ◌<◌, ◌++◌, [], true, List, length, sym, ap, ◌∙◌, arith}
use Rattle.std.proofs.lemmas.List.{length-append, length-set}
use Rattle.opfs_blocks.specs.Sets.{blocks_in, blocks_of}
use Rattle.opfs_blocks.proofs.SetLemmas.{skip, none_free, joined, none_taken, one_taken}
use Rattle.opfs_blocks.proofs.runs.take_clear.Goals as goal

pub loop-init : goal.loop-init
loop-init c =
    let start = none_taken c.args.into.now.items c.args.from c.args.bits.now c.requires.empty c.requires.full in
    record {
      end = omega arith;
      size = sym c.len-size.ensures;
      full = c.requires.full;
      blocks = start.0;
      count = start.1;
      used = start.2;
      apart = start.3;
      within = omega (arith, c.args.into.now.ok.0, ap length c.requires.empty);
      room = omega arith;
    }

pub prove-unreachable-requires : goal.prove-unreachable-requires
prove-unreachable-requires c =
    let b = c.first_clear-block.result in
    let used = c.loop.bits in
    let taken = blocks_of c.loop.into.items ++ blocks_in c.loop.run in
    let passed = skip c.loop.place b used c.first_clear-block.ensures.bounds.0 c.first_clear-block.ensures.bounds.1 c.first_clear-block.ensures.passed in
    let none = passed ∙ none_free b used (omega (arith, c.loop.invariant.size)) in
    let whole = ap length (sym c.loop.invariant.blocks ∙ ap (λ (xs : List ℕ). taken ++ xs) none) in
    omega (arith, whole, length-append taken [], c.loop.invariant.count, c.requires.enough)

pub loop-preserved : goal.loop-preserved
loop-preserved c =
    let b = c.first_clear-block.result in
    let used = c.loop.bits in
    let inv = c.loop.invariant in
    let inside : b < length used = omega (arith, inv.size) in
    let next = one_taken c.loop.place b used c.set.new.self c.args.bits.now (blocks_of c.loop.into.items ++ blocks_in c.loop.run) (blocks_of c.grow-run.new.into.items ++ blocks_in c.grow-run.result) c.loop.counter
    inv.full inv.blocks inv.count inv.used c.first_clear-block.ensures.bounds.0 inside c.first_clear-block.ensures.passed (c.first_clear-block.ensures.clear inside) c.set.ensures c.grow-run.ensures.blocks in
    record {
      end = sym c.grow-run.ensures.end;
      size = ap length c.set.ensures ∙ length-set used b true ∙ inv.size;
      full = next.0;
      blocks = next.1;
      count = next.2;
      used = next.3;
      apart = c.grow-run.ensures.apart;
      within = omega (arith, c.grow-run.ensures.length, inv.within);
      room = omega (arith, c.grow-run.ensures.room, inv.room);
    }

pub returns-clause-joined : goal.returns-clause-joined
returns-clause-joined c =
    joined c.close.new.into.items (c.loop.run.start + c.loop.run.count + 1) (c.close.ensures.apart (c.loop.run.start + c.loop.run.count + 1) (omega arith))
