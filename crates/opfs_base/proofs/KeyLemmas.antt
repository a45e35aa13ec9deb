-- What the text of an origin holds.
use Rattle.std.proofs.Common.{◌≡◌, ◌==◌, ℕ, true, false, not, [], ◌∷◌, refl, ap, arith}
use Rattle.std.proofs.lemmas.Bool.Decides.{nat_tests}
use Rattle.std.proofs.lemmas.List.Elements.{All-nil, All-cons, All-append, All-weaker}
use Rattle.std.proofs.lemmas.List.Folds.{list_any_none}
use Rattle.url.specs.declared.slicing.Position.TheVariants.{BeforeHost, AfterPort}
use Rattle.url.specs.Scheme.{is_scheme_byte}
use Rattle.url.specs.Parts.{Parts, IsValid, text_between}
use Rattle.url.proofs.InputLemmas.{Passes}
use Rattle.url.proofs.SchemeLemmas.{scheme_bytes}
use Rattle.url.proofs.TextLemmas.{is_host_byte, host_and_port_bytes}
use Rattle.opfs_base.specs.Keys.{origin_text, is_origin, is_one_line}

-- the byte is not `#`
abbrev IsNotSign : ℕ → Type 0
IsNotSign byte = (byte == 35) ≡ false

-- a URL's origin names no bucket
pub is_origin-origin_text : (url : Parts) → IsValid url → is_origin (origin_text url) ≡ true
is_origin-origin_text url valid =
    let host_text = text_between url BeforeHost AfterPort in
    let scheme = All-weaker (Passes is_scheme_byte) IsNotSign (λ b passes. grind (arith, nat_tests)) url.scheme (scheme_bytes url.scheme valid.head.scheme) in
    let host = All-weaker (Passes is_host_byte) IsNotSign (λ b passes. grind (arith, nat_tests)) host_text (host_and_port_bytes url valid.head) in
    let marks = All-cons IsNotSign 58 (47 ∷ 47 ∷ []) refl (All-cons IsNotSign 47 (47 ∷ []) refl (All-cons IsNotSign 47 [] refl (All-nil IsNotSign))) in
    ap not (list_any_none (λ byte. byte == 35) (origin_text url) (All-append IsNotSign url.scheme _ scheme (All-append IsNotSign (58 ∷ 47 ∷ 47 ∷ []) host_text marks host)))

-- the byte is no line feed
abbrev IsNoFeed : ℕ → Type 0
IsNoFeed byte = (byte == 10) ≡ false

-- a URL's origin stands on one line
pub is_one_line-origin_text : (url : Parts) → IsValid url → is_one_line (origin_text url) ≡ true
is_one_line-origin_text url valid =
    let host_text = text_between url BeforeHost AfterPort in
    let scheme = All-weaker (Passes is_scheme_byte) IsNoFeed (λ b passes. grind (arith, nat_tests)) url.scheme (scheme_bytes url.scheme valid.head.scheme) in
    let host = All-weaker (Passes is_host_byte) IsNoFeed (λ b passes. grind (arith, nat_tests)) host_text (host_and_port_bytes url valid.head) in
    let marks = All-cons IsNoFeed 58 (47 ∷ 47 ∷ []) refl (All-cons IsNoFeed 47 (47 ∷ []) refl (All-cons IsNoFeed 47 [] refl (All-nil IsNoFeed))) in
    ap not (list_any_none (λ byte. byte == 10) (origin_text url) (All-append IsNoFeed url.scheme _ scheme (All-append IsNoFeed (58 ∷ 47 ∷ 47 ∷ []) host_text marks host)))
