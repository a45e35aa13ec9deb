-- What a run begins with is the first front.
use Rattle.std.proofs.Common.{ℕ, List, [], ◌++◌, None, take, refl, arith}
use Rattle.opfs_books.specs.Laws.Fronts.{IsShownOnce}
use Rattle.opfs_hist.specs.declared.entry.Entry.{Entry}
use Rattle.opfs_image.specs.declared.geometry.Geometry.{Geometry}
use Rattle.opfs_laws.specs.Histories.Doubts.{doubted}
use Rattle.opfs_machine.specs.Changes.{changes}
use Rattle.opfs_machine.specs.Openings.{Map}
use Rattle.opfs_script.specs.Scripts.{Asked}
use Rattle.opfs_desk_runs.specs.Runs.{IsImageOf, opening_in}
use Rattle.opfs_desk_runs.proofs.Sized.{sizes-of, stood-for}

-- the image that a run begins with, in whatever history
pub first-shown : (g : Geometry) (before : Map) (script : List Asked) (history : List Entry) (c : List ℕ) → IsImageOf g before c → IsShownOnce (opening_in g before script) 0 history c
first-shown g before script history c is = record {
  count = 0;
  place = None;
  recent = record { inside = λ n none. absurd (cc none); last = λ n none. absurd (cc none) };
  full = omega arith;
  shown = record {
    shown = [];
    rest = changes (opening_in g before script) (take 0 history) ++ doubted (opening_in g before script) (take 0 history) None;
    split = refl;
    enough = omega arith;
    stands = stood-for g before c is;
    sizes = record { geometry = g; found = sizes-of g before c is; limits = refl };
  };
}
