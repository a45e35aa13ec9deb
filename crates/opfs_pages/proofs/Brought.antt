-- A page that is brought into a working copy.
use Rattle.std.proofs.Common.{◌≡◌, ℕ, ◌+◌, ◌*◌, ◌/◌, ◌%◌, ◌<◌, List, map, length, set, slice_index, sym, ap, subst, ◌∙◌, inl, inr, arith}
use Rattle.std.specs.List.{range_with_len}
use Rattle.std.proofs.lemmas.Bool.{cases_eq}
use Rattle.std.proofs.lemmas.Grind.{same_number_lists}
use Rattle.std.proofs.lemmas.List.{get_or-set_same, get_or-set_other}
use Rattle.std.proofs.lemmas.List.FromFn.{length-map-range_with_len, get_or-map-range_with_len}
use Rattle.opfs_work.specs.declared.pages.Page.{Page}
use Rattle.opfs_work.specs.declared.pages.Page.TheVariants.{Zero, Clean}
use Rattle.opfs_work.specs.Pages.{page_at, page_byte, byte_at, bytes_of}
use Rattle.opfs_work.specs.Works.{WorkingCopy}
use Rattle.opfs_work.proofs.Places.{byte_in}
use Rattle.opfs_pages.specs.Copies.{IsPageOf, IsCopy}
use Rattle.opfs_pages.proofs.PageBytes.{copied_at, copied_length}

brought_byte : (row bytes : List ℕ) (work : WorkingCopy) (page i : ℕ) → IsCopy row work → IsPageOf row page bytes → page < length work.pages → i < work.length
    → byte_at (slice_index row) (set work.pages page (Clean bytes)) i ≡ slice_index row i
brought_byte row bytes work page i copy is there below =
    byte_in (slice_index row) (set work.pages page (Clean bytes)) i
    ∙ elim (cases_eq (i / 4096) page) [
      | inl here ↦
          ap (λ (p : Page). page_byte (slice_index row i) p (i % 4096)) (ap (page_at (set work.pages page (Clean bytes))) here ∙ get_or-set_same work.pages page (Clean bytes) Zero there)
          ∙ (is.at (i % 4096) (omega arith) ∙ ap (slice_index row) (let e : 4096 * page + i % 4096 ≡ i = omega (arith, here) in e))
      | inr apart ↦
          ap (λ (p : Page). page_byte (slice_index row i) p (i % 4096)) (get_or-set_other work.pages page (i / 4096) (Clean bytes) Zero apart)
          ∙ (sym (byte_in (slice_index row) work.pages i) ∙ sym (copied_at row work i copy below))
    ]

pub brought : (row bytes : List ℕ) (work new : WorkingCopy) (page : ℕ) → new ≡ record work { pages = set work.pages page (Clean bytes) } → IsCopy row work → IsPageOf row page bytes → page < length work.pages → IsCopy row new
unfolding bytes_of
brought row bytes work new page is copy whole there =
    subst (IsCopy row) (sym is) (record {
      same = same_number_lists (map (byte_at (slice_index row) (set work.pages page (Clean bytes))) (range_with_len 0 work.length)) row
          (length-map-range_with_len (byte_at (slice_index row) (set work.pages page (Clean bytes))) 0 work.length ∙ sym (copied_length row work copy))
          (λ i within.
          let below : i < work.length = omega (arith, length-map-range_with_len (byte_at (slice_index row) (set work.pages page (Clean bytes))) 0 work.length) in
          get_or-map-range_with_len (byte_at (slice_index row) (set work.pages page (Clean bytes))) 0 work.length i i 0 below (omega arith)
          ∙ brought_byte row bytes work page i copy whole there below);
    })
