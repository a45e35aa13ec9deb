use Rattle.std.proofs.Common.{ap, refl}
use Rattle.opfs_machine.specs.Machine.{whole_machine}
use Rattle.opfs_machine.specs.OwnRows.{fits_stream, is_closed_handle, is_closed_stream}
use Rattle.opfs_machine.specs.Replies.{sizes_in}
use Rattle.opfs_machine.specs.Rulings.{size_written}
use Rattle.opfs_examples.proofs.kinds.these_calls_are_local.Goals as goal

pub returns : goal.returns
unfolding whole_machine
returns c = record {
  always = λ s k. record { values = λ dir. refl; resolve = λ a b. refl; same_entry = λ a b. refl; slice = λ n a b. refl; seek = λ n p. refl; sync_read = λ n l a. refl; sync_size = λ n. refl; moment = λ ms. refl; unbound = λ w. refl };
  never = λ s k. record {
    get_directory = λ b. refl;
    get_directory_handle = λ d n b. refl;
    get_file_handle = λ d n b. refl;
    remove_entry = λ d n b. refl;
    next = λ n d. refl;
    get_file = λ a. refl;
    create_writable = λ a b. refl;
    create_sync = λ a m. refl;
    persist = λ b. refl;
    persisted = λ b. refl;
    estimate = refl;
    post = λ t. refl;
    await = λ t. refl;
    wait = λ t. refl;
    discard = λ n. refl;
    end = refl;
  };
  stream = λ s k n w is. record {
    write = λ b p. ap (λ r. fits_stream r (size_written (sizes_in s r) p b)) is;
    truncate = λ z. ap (λ r. fits_stream r z) is;
    close = ap is_closed_stream is;
    abort = ap is_closed_stream is;
  };
  closed_stream = λ s k n is. record {
    write = λ b p. ap (λ r. fits_stream r (size_written (sizes_in s r) p b)) is;
    truncate = λ z. ap (λ r. fits_stream r z) is;
    close = ap is_closed_stream is;
    abort = ap is_closed_stream is;
  };
  handle = λ s k n h is. record { write = λ b p. ap is_closed_handle is; truncate = λ z. ap is_closed_handle is; flush = ap is_closed_handle is; close = ap is_closed_handle is };
  closed_handle = λ s k n is. record { write = λ b p. ap is_closed_handle is; truncate = λ z. ap is_closed_handle is; flush = ap is_closed_handle is; close = ap is_closed_handle is };
}
