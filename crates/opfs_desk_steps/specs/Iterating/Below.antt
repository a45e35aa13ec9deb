-- Names below another, or up to it. This project's own.
use Rattle.std.specs.Prelude.{◌≡◌, true, false, List}
use Rattle.std.specs.Cmp.Lexicographic.{slice_cmp}
use Rattle.std.specs.List.{AllByRecursion}
use Rattle.std.specs.Ordering.{is_lt, nat_cmp}
use Rattle.opfs_base.specs.Texts.{Text}

-- All names are below another.
abbrev pub AreBelow : Text → List Text → Type 0
AreBelow name past = AllByRecursion (λ other. is_lt (slice_cmp nat_cmp other name) ≡ true) past

-- No name is above another.
abbrev pub AreUpTo : Text → List Text → Type 0
AreUpTo name past = AllByRecursion (λ other. is_lt (slice_cmp nat_cmp name other) ≡ false) past
