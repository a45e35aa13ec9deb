use Rattle.std.proofs.Common.{[], ◌∷◌, refl}
use Rattle.opfs_machine.specs.Machine.{whole_machine}
use Rattle.opfs_examples.specs.Room.{b_example}
use Rattle.opfs_examples.proofs.Runs.{answers, faults}
use Rattle.opfs_examples.proofs.stored.a_disk_may_fail_between_two_evictions.Goals as goal

pub returns : goal.returns
unfolding whole_machine
returns c = (
  answers _ _ _ refl refl refl refl,
  (
    answers _ _ _ refl refl refl refl,
    (
      answers _ _ _ refl refl refl refl,
      (
        answers _ _ _ refl refl refl refl,
        (
          answers _ _ _ refl refl refl refl,
          (
            answers _ _ _ refl refl refl refl,
            (
              answers _ _ _ refl refl refl refl,
              (
                answers _ _ _ refl refl refl refl,
                (
                  answers _ _ _ refl refl refl refl,
                  (
                    record { agent = refl; number = refl; told = refl },
                    (
                      faults _ _ _ refl refl refl refl refl (b_example ∷ [], refl),
                      (record { agent = refl; number = refl; told = refl }, (answers _ _ _ refl refl refl refl, refl)),
                    ),
                  ),
                ),
              ),
            ),
          ),
        ),
      ),
    ),
  ),
)
