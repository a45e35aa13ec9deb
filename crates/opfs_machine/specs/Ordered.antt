-- Lists in order.
use Rattle.std.specs.Prelude.{List, [], ◌∷◌}
use Rattle.std.specs.FinMap.Entries.{by_order}
use Rattle.std.specs.declared.cmp.Ordering.{Ordering}

-- The list with one more item in its place; one that ties with it stays alone.
abbrev pub insert_by : {A : Type 0} → (A → A → Ordering) → A → List A → List A
insert_by R x [] = x ∷ []
insert_by R x (y ∷ ys) = by_order (R x y) (x ∷ y ∷ ys) (y ∷ ys) (y ∷ insert_by R x ys)
