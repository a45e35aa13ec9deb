-- Facts of a call's last steps, whose entry, sizes and row are others' equals.
use Rattle.std.proofs.Common.{◌≡◌, ℕ, Bool, List, sym, subst}
use Rattle.opfs_base.specs.Places.{Place}
use Rattle.opfs_base.specs.Texts.{Text}
use Rattle.opfs_base.specs.declared.extents.Extent.{Extent}
use Rattle.opfs_books.specs.Laws.Books.{Fixed}
use Rattle.opfs_hist.specs.declared.entry.Entry.{Entry}
use Rattle.opfs_machine.specs.declared.state.Sizes.{Sizes}
use Rattle.opfs_outside.specs.declared.disk.Disk.{Ghosts as DiskWords}
use Rattle.opfs_pages.specs.declared.writing.put.Put.{Put}
use Rattle.opfs_work.specs.Works.{WorkingCopy}
use Rattle.opfs_desk_contents.specs.Storing.{HasStoredPages, MayStorePages, StoresContent}
use Rattle.opfs_desk_steps.specs.Parts.Acted.{HasFailed}
use Rattle.opfs_desk_steps.specs.declared.parts.parts.OpenPages.{OpenPages}
use Rattle.opfs_desk_steps.specs.declared.parts.parts.DeskParts.{DeskParts}
use Rattle.opfs_desk_contents.specs.Commits.Steps.{LeavesRow}

module _ {D : Type 0} (w : DiskWords D) (f : Fixed D) (start new : DeskParts D) (agent : ℕ) (put : Put) (place : Place) (work : WorkingCopy) where
  pub may-same : (e d : Entry) (z y : Sizes) (i j : ℕ) → e ≡ d → z ≡ y → i ≡ j → MayStorePages w start d y agent j put place work → MayStorePages w start e z agent i put place work
  may-same e d z y i j entries sizes rows may =
      subst (λ (x : ℕ). MayStorePages w start e z agent x put place work) (sym rows)
      (subst (λ (x : Sizes). MayStorePages w start e x agent j put place work) (sym sizes)
      (subst (λ (x : Entry). MayStorePages w start x y agent j put place work) (sym entries) may))

  abbrev Stores : List Extent → Text → Entry → Sizes → ℕ → Type 0
  Stores runs text e z i = StoresContent w f start.ledger start.pages e z agent i put place work text → HasStoredPages w f start new e z agent i put.pages place runs text

  pub stores-same : (runs : List Extent) (text : Text) (e d : Entry) (z y : Sizes) (i j : ℕ) → e ≡ d → z ≡ y → i ≡ j → Stores runs text e z i → Stores runs text d y j
  stores-same runs text e d z y i j entries sizes rows is =
      subst (λ (x : ℕ). Stores runs text d y x) rows
      (subst (λ (x : Sizes). Stores runs text d x i) sizes
      (subst (λ (x : Entry). Stores runs text x z i) entries is))

  abbrev Fails : Text → Entry → Sizes → ℕ → Type 0
  Fails text e z i = StoresContent w f start.ledger start.pages e z agent i put place work text → HasFailed w f e start.ledger new.ledger new.pages

  pub fails-same : (text : Text) (e d : Entry) (z y : Sizes) (i j : ℕ) → e ≡ d → z ≡ y → i ≡ j → Fails text e z i → Fails text d y j
  fails-same text e d z y i j entries sizes rows is =
      subst (λ (x : ℕ). Fails text d y x) rows
      (subst (λ (x : Sizes). Fails text d x i) sizes
      (subst (λ (x : Entry). Fails text x z i) entries is))

pub leaves-same : (p q : OpenPages) (agent i j : ℕ) (alone : Bool) (gone xs ys : List Extent) (a b : Bool) (work made : WorkingCopy) → i ≡ j → xs ≡ ys → a ≡ b → LeavesRow p q agent i alone gone xs a work made → LeavesRow p q agent j alone gone ys b work made
leaves-same p q agent i j alone gone xs ys a b work made rows runs ends is =
    subst (λ (x : Bool). LeavesRow p q agent j alone gone ys x work made) ends
    (subst (λ (x : List Extent). LeavesRow p q agent j alone gone x a work made) runs
    (subst (λ (x : ℕ). LeavesRow p q agent x alone gone xs a work made) rows is))
