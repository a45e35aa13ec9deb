use Rattle.std.proofs.Common.{◌≡◌, ◌∙◌, ap, refl, true, false}
use Rattle.std.specs.Prelude.{Bool, Option}
use Rattle.opfs_hist.specs.declared.op.Mode.{Mode}
use Rattle.opfs_hist.specs.declared.op.Mode.TheVariants as mode
use Rattle.opfs_machine.specs.Agents.{handle_in, of_row}
use Rattle.opfs_machine.specs.Contents.{outline_of}
use Rattle.opfs_machine.specs.Histories.{writes_in}
use Rattle.opfs_machine.specs.Machine.{whole_machine}
use Rattle.opfs_machine.specs.declared.own.Own.{Own}
use Rattle.opfs_machine.specs.Rulings.{is_read_write}
use Rattle.opfs_examples.specs.Kinds.{writes}
use Rattle.opfs_examples.proofs.kinds.these_calls_may_need_the_disk.Goals as goal

written : (m : Mode) → is_read_write m ≡ writes m
written mode.ReadWrite = refl
written mode.ReadOnly = refl

-- whether a row is an open access handle that may write
abbrev writer_row : Option Own → Bool
writer_row r = writes_in (of_row (λ x. handle_in (outline_of x)) r)

pub returns : goal.returns
unfolding whole_machine
returns c = record {
  some = λ s k. record {
    get_directory = λ b. refl;
    get_directory_handle = λ d n b. refl;
    get_file_handle = λ d n b. refl;
    remove_entry = λ d n b. refl;
    get_file = λ a. refl;
    create_writable = λ a b. refl;
    write = λ n b p. refl;
    truncate = λ n z. refl;
    close = λ n. refl;
    create_sync = λ a m. refl;
    sync_read = λ n l a. refl;
    persist = λ b. refl;
  };
  others = λ s k. record {
    values = λ d. refl;
    next = λ n d. refl;
    resolve = λ a b. refl;
    same_entry = λ a b. refl;
    slice = λ n a b. refl;
    seek = λ n p. refl;
    abort = λ n. refl;
    sync_size = λ n. refl;
    persisted = λ b. refl;
    estimate = refl;
    moment = λ ms. refl;
    post = λ t. refl;
    await = λ t. refl;
    wait = λ t. refl;
    discard = λ n. refl;
    end = refl;
    unbound = λ w. refl;
  };
  handle = λ s k n h is.
      let needs = ap writer_row is ∙ written h.mode in
      record { write = λ b p. needs; truncate = λ z. needs; flush = needs; close = needs };
  closed_handle = λ s k n is.
      let needs = ap writer_row is in
      record { write = λ b p. needs; truncate = λ z. needs; flush = needs; close = needs };
}
