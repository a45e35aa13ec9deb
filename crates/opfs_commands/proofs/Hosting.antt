-- A disk that was fetched, read and given back.
use Rattle.std.proofs.Common.{◌≡◌, ◌↔◌, ℕ, ◌-◌, ◌^◌, ◌≤◌, inl, inr, sym, ◌∙◌, ap, subst, arith}
use Rattle.std.specs.Prelude.{◌⊎◌, Option, Some, None, Result, Ok, IfOk}
use Rattle.std.proofs.lemmas.Result.{IfOk-weaker}
use Rattle.std.specs.declared.alloc.AllocError.{AllocError}
use Rattle.opfs_base.specs.Texts.{Text}
use Rattle.opfs_outside.specs.Faults.{Rose, RoseBy}
use Rattle.opfs_print.specs.Status.{status_text}
use Rattle.opfs_print.specs.declared.end.End.TheVariants as end
use Rattle.opfs_machine.specs.Openings.{Map}
use Rattle.opfs_image.specs.Filling.{StandsOld}
use Rattle.opfs_migrate.specs.Migrating.{StandsEither}
use Rattle.opfs_outside.specs.declared.host.Host.{Ghosts as HostWords}
use Rattle.opfs_outside.specs.Turns.{of_host, GivenBack, ImageStays, OthersAsBefore}
use Rattle.opfs_commands.specs.Telling.{IsAnswer, IsStoodFor}
use Rattle.opfs_commands.specs.declared.answers.ToolAnswer.{ToolAnswer}
use Rattle.opfs_commands.specs.declared.answers.ToolEnd.{ToolEnd}
use Rattle.opfs_commands.specs.declared.answers.ToolEnd.TheVariants as tool_end

-- an earlier moment of a count
pub rose_later : (old mid new : ℕ) → old ≤ mid → Rose mid new → Rose old new
rose_later old mid new le (inl h) = inl (omega (arith, le, h))
rose_later old mid new le (inr h) = inr h

-- where the image was refused, the disk was given back
pub refused_back : (tells Back Stays P : Type 0) (mid new : ℕ) (r first : Result ToolAnswer AllocError) → (tells → Back → Stays → P) → IfOk first (λ a. a.end ≡ tool_end.Image → Stays)
    → IfOk r (λ a. ((first ≡ Ok a) × (tells → Back)) ⊎ (Rose mid new × (a.end ≡ tool_end.Host) × (a.text ≡ status_text end.Host))) → IfOk r (λ a. a.end ≡ tool_end.Image → tells → P)
refused_back tells Back Stays P mid new r first to refused kept = IfOk-weaker r _ _ (λ a is same told. elim is [
  | inl given ↦ to told (given.1 told) (subst (λ x. IfOk x (λ a'. a'.end ≡ tool_end.Image → Stays)) given.0 refused same)
  | inr fault ↦ let e : tool_end.Image ≡ tool_end.Host = sym same ∙ fault.1 in absurd (cc e)
]) kept

-- the paths of a host, where a disk was fetched and given back
module _ {H D M : Type 0} (w : HostWords H D M) (old mid new : H) (path : Text) where
  pub others_stay : OthersAsBefore (of_host w old mid) path → OthersAsBefore (of_host w mid new) path → OthersAsBefore (of_host w old new) path
  others_stay first second p other = record {
    image = (second p other).image ∙ (first p other).image;
    trail = λ c. (λ x. ((first p other).trail c).0 (((second p other).trail c).0 x), λ x. ((second p other).trail c).1 (((first p other).trail c).1 x));
  }

  pub only_read : (content back : Text) (last : ℕ) (left : ℕ → Text → Type 0) → ((p : Text) → w.image mid p ≡ w.image old p) → ((p c : Text) → w.trail mid p c ↔ w.trail old p c) → w.image mid path ≡ Some content → back ≡ content → ((c : Text) → left 0 c → c ≡ content)
      → GivenBack (of_host w mid new) path back last left → ImageStays (of_host w old new) path
  only_read content back last left images trails there same only given = record {
    image = given.image ∙ ap (λ (x : Text). Some x) same ∙ sym there ∙ images path;
    trail = λ c x. elim ((given.trail c).0 x) [
      | inl was ↦ inl ((trails path c).0 was)
      | inr l ↦ inr (sym (images path) ∙ there ∙ ap (λ (t : Text). Some t) (sym (only c l)))
    ];
  }

-- each image since a disk was fetched that had one image, where it was only read
pub one_since : (content : Text) (moment : ℕ) (since0 since1 : ℕ → Text → Type 0) → moment ≡ 0 → ((c : Text) → since0 0 c → c ≡ content) → ((c : Text) → since1 moment c → since0 moment c) → (c : Text) → since1 0 c → c ≡ content
one_since content moment since0 since1 first one moves c left = one c (subst (λ t. since0 t c) first (moves c (subst (λ t. since1 t c) (sym first) left)))

-- the faults of a disk are those of its host
pub host_rose : (own_rose : Type 0) (old mid new f0 f1 : ℕ) → f0 ≡ 0 → old ≤ mid ⊎ (mid ≡ 2 ^ 64 - 1) → RoseBy f1 mid new → mid ≤ 2 ^ 64 - 1 → new ≤ 2 ^ 64 - 1 → f1 ≤ 2 ^ 64 - 1 → Rose f0 f1 → own_rose ⊎ Rose old new
host_rose own_rose old mid new f0 f1 fresh later (inr top) a b d rose = inr (inr top)
host_rose own_rose old mid new f0 f1 fresh (inl le) (inl more) a b d (inl up) = inr (inl (omega (arith, fresh, le, more, up)))
host_rose own_rose old mid new f0 f1 fresh (inl le) (inl more) a b d (inr top) = inr (inr (omega (arith, top, more, b)))
host_rose own_rose old mid new f0 f1 fresh (inr full) (inl more) a b d rose = inr (inr (omega (arith, full, more, b)))

pub later_by : (n old new : ℕ) → RoseBy n old new → old ≤ new ⊎ (new ≡ 2 ^ 64 - 1)
later_by n old new (inl h) = inl (omega (arith, h))
later_by n old new (inr h) = inr h

-- the answer over the disk is the answer over the host
module _ (tells dtells : Type 0) (to : tells → dtells) (There : Type 0) (Done Done' Refused Refused' : Text → Type 0) (Cause Cause' : Type 0)
    (done : tells → There → (t : Text) → Done t → Done' t) (refused : tells → (t : Text) → Refused t → Refused' t) (cause : Cause → Cause') where
  answer_at : (tells → There) → (e : ToolEnd) (text : Text) → IsAnswer dtells Done Refused Cause e text → IsAnswer tells Done' Refused' Cause' e text
  answer_at there tool_end.Done text is = λ told. done told (there told) text (is (to told))
  answer_at there tool_end.Image text is = λ told. refused told text (is (to told))
  answer_at there tool_end.Host text is = (cause is.0, is.1)
  answer_at there tool_end.Sink text is = is

  pub given_back : (r first : Result ToolAnswer AllocError) (Fault : Type 0) → (Fault → Cause') → IfOk first (λ a. IsAnswer dtells Done Refused Cause a.end a.text)
      → IfOk r (λ a. ((first ≡ Ok a) × (tells → There)) ⊎ (Fault × (a.end ≡ tool_end.Host) × (a.text ≡ status_text end.Host))) → IfOk r (λ a. IsAnswer tells Done' Refused' Cause' a.end a.text)
  given_back r first Fault fault_cause answer kept = IfOk-weaker r _ _ (λ a is. elim is [
    | inl same ↦ answer_at same.1 a.end a.text (subst (λ x. IfOk x (λ a. IsAnswer dtells Done Refused Cause a.end a.text)) same.0 answer)
    | inr fault ↦ subst (λ e. IsAnswer tells Done' Refused' Cause' e a.text) (sym fault.1) (fault_cause fault.0, fault.2)
  ]) kept

-- the image that was fetched stands for the map
image_in : Text → Option Text → Text
image_in other None = other
image_in other (Some image) = image

pub stood_for : (content : Text) (m : Map) (found mid : Option Text) → mid ≡ Some content → mid ≡ found → IsStoodFor m found → StandsOld content m
unfolding image_in
stood_for content m found mid fetched same is =
    let e : is.image ≡ content = ap (image_in content) (sym is.there ∙ sym same ∙ fetched) in
    subst (λ c. StandsOld c m) e is.stands

-- each image since a disk was fetched, where it had one image
pub since_fetched : (m : Map) (content : Text) (moment : ℕ) (since0 since1 : ℕ → Text → Type 0) → moment ≡ 0 → ((c : Text) → since0 0 c → c ≡ content) → StandsOld content m
    → ((c : Text) → since1 moment c → since0 moment c ⊎ StandsEither m c) → (c : Text) → since1 0 c → StandsEither m c
since_fetched m content moment since0 since1 first one stands moves c left = elim (moves c (subst (λ t. since1 t c) (sym first) left)) [
  | inl was ↦ inl (subst (λ x. StandsOld x m) (sym (one c (subst (λ t. since0 t c) first was))) stands)
  | inr is ↦ is
]
