use Rattle.std.proofs.Common.{◌++◌, List, ℕ, ap, ◌∙◌, vec_capacity}
use Rattle.opfs_data.specs.Writes.{WriteList, page_writes, page_moves, writes_of}
use Rattle.opfs_data.proofs.WriteLemmas.{writes_grow}
use Rattle.opfs_data.proofs.PlacingLemmas.{bytes_kept, with_own}
use Rattle.opfs_data.proofs.writes.PageWrites.keep.Goals as goal

pub returns-clause-writes : goal.returns-clause-writes
returns-clause-writes c = λ given.
    ap (λ (own : List ℕ). writes_of own given c.self.inside.runs.items) c.in_ok-extend_from_slice.ensures.items
    ∙ writes_grow c.self.inside.own.items c.args.bytes.now given c.self.inside.runs.items c.self.invariant.0
    ∙ ap (λ (w : WriteList). page_writes w given) c.self.view_is

pub returns-clause-moves : goal.returns-clause-moves
returns-clause-moves c = λ given.
    ap (λ (own : List ℕ). writes_of own given c.self.inside.moves.items) c.in_ok-extend_from_slice.ensures.items
    ∙ writes_grow c.self.inside.own.items c.args.bytes.now given c.self.inside.moves.items c.self.invariant.1
    ∙ ap (λ (w : WriteList). page_moves w given) c.self.view_is

pub returns-clause-bytes : goal.returns-clause-bytes
returns-clause-bytes c = λ given has.
    bytes_kept c.args.self.now (record { runs = c.self.inside.runs.items; moves = c.self.inside.moves.items; own = c.extend_from_slice.new.self.items; room = vec_capacity c.self.inside.runs }) c.args.bytes.now given
    (ap (with_own c.extend_from_slice.new.self.items) c.self.view_is) (c.in_ok-extend_from_slice.ensures.items ∙ ap (λ (w : WriteList). w.own ++ c.args.bytes.now) c.self.view_is) has
