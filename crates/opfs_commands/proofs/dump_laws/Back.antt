-- What is written of plain data is read back.
use Rattle.std.proofs.Common.{◌≡◌, ℕ, suc, max, ◌≤◌, Bool, true, false, cond, ◌&&◌, List, [], ◌∷◌, ◌++◌, Some, option_map, option_and_then, decimal, refl, sym, ap, ap₂, ◌∙◌, arith, append_assoc, append-nil}
use Rattle.std.proofs.lemmas.Fmt.{IsAscii-decimal}
use Rattle.std.proofs.lemmas.Str.{IsUtf8-append, IsUtf8-nil, IsUtf8-from_ascii, is_utf8-from_IsUtf8}
use Rattle.std.specs.Str.{IsUtf8, is_utf8}
use Rattle.json.proofs.Printed.Utf8.{IsUtf8-are_ascii, IsUtf8-boolean, IsUtf8-quoted}
use Rattle.json.specs.Json as json
use Rattle.json.specs.Token.{Token, begin_object, end_object, begin_array, end_array, key, string, number, boolean, null, bad}
use Rattle.json.specs.Word.{ends_word, word}
use Rattle.json.specs.Lex.{Lexeme, token, comma, colon, string_token, lex, between, fresh, punctuate, tokens}
use Rattle.json.specs.Print.{escape, quoted, token_text, begins, ends, separator, print_from, IsPrintable, ArePrintable}
use Rattle.json.specs.Tree as tree
use Rattle.json.specs.Tree.{json_tokens, HasNumbers, ItemsHaveNumbers, MembersHaveNumbers}
use Rattle.json.proofs.Printed.Decimals.{IsNumber-decimal}
use Rattle.json.proofs.Printed.Numbers.{lex-number, in_word-ended}
use Rattle.json.proofs.Printed.Strings.{content-escape, lex-escape}
use Rattle.json.proofs.Printed.Tokens.{tokens-print}
use Rattle.json.proofs.Printed.Trees.{value-json_tokens, ArePrintable-json_tokens}
use Rattle.serde_json.specs.Data as value
use Rattle.serde_json.specs.Data.{Data, Num, Items, Members, depth, items_depth, members_depth, put}
use Rattle.serde_json.specs.Read.{read, of_json, of_items, of_members, max_depth}
use Rattle.serde_json.specs.Written.{outline, items_outline, members_outline, compact_text, comma_if, items_text, members_text}
use Rattle.serde_json.proofs.Numbers.{number_of-decimal}
use Rattle.serde_json.proofs.Texts.{print-outline}
use Rattle.opfs_commands.specs.DumpLaws.Plain.{IsPlain, ArePlainItems, ArePlainMembers, put_all}

-- ---- the outline of plain data

mutual
  back : (d : Data) → IsPlain d → of_json (outline d) ≡ Some d
  back value.null h = refl
  back (value.boolean b) h = refl
  back (value.number (value.unsigned n)) h = ap (option_map value.number) (number_of-decimal n h)
  back (value.number (value.negative z)) h = absurd h
  back (value.number (value.float x)) h = absurd h
  back (value.string s) h = refl
  back (value.array ds) h = ap (option_map value.array) (items-back ds h)
  back (value.object ms) h = ap (option_map value.object) (members-back ms value.no_members h.1 ∙ ap Some h.0)

  items-back : (ds : Items) → ArePlainItems ds → of_items (items_outline ds) ≡ Some ds
  items-back value.no_items h = refl
  items-back (value.item d ds) h =
      ap (option_and_then (λ x. option_map (value.item x) (of_items (items_outline ds)))) (back d h.0) ∙ ap (option_map (value.item d)) (items-back ds h.1)

  members-back : (ms done : Members) → ArePlainMembers ms → of_members (members_outline ms) done ≡ Some (put_all ms done)
  members-back value.no_members done h = refl
  members-back (value.member k d ms) done h =
      ap (option_and_then (λ x. of_members (members_outline ms) (put k x done))) (back d h.1) ∙ members-back ms (put k d done) h.2

mutual
  numbers : (d : Data) → IsPlain d → HasNumbers (outline d)
  numbers value.null h = tt
  numbers (value.boolean b) h = tt
  numbers (value.number (value.unsigned n)) h = IsNumber-decimal n h
  numbers (value.number (value.negative z)) h = absurd h
  numbers (value.number (value.float x)) h = absurd h
  numbers (value.string s) h = tt
  numbers (value.array ds) h = items-numbers ds h
  numbers (value.object ms) h = members-numbers ms h.1

  items-numbers : (ds : Items) → ArePlainItems ds → ItemsHaveNumbers (items_outline ds)
  items-numbers value.no_items h = tt
  items-numbers (value.item d ds) h = (numbers d h.0, items-numbers ds h.1)

  members-numbers : (ms : Members) → ArePlainMembers ms → MembersHaveNumbers (members_outline ms)
  members-numbers value.no_members h = tt
  members-numbers (value.member k d ms) h = (numbers d h.1, members-numbers ms h.2)

mutual
  same-depth : (d : Data) → tree.depth (outline d) ≡ depth d
  same-depth value.null = refl
  same-depth (value.boolean b) = refl
  same-depth (value.number n) = refl
  same-depth (value.string s) = refl
  same-depth (value.array ds) = ap suc (items-depth ds)
  same-depth (value.object ms) = ap suc (members-depth ms)

  items-depth : (ds : Items) → tree.items_depth (items_outline ds) ≡ items_depth ds
  items-depth value.no_items = refl
  items-depth (value.item d ds) = ap₂ max (same-depth d) (items-depth ds)

  members-depth : (ms : Members) → tree.members_depth (members_outline ms) ≡ members_depth ms
  members-depth value.no_members = refl
  members-depth (value.member k d ms) = ap₂ max (same-depth d) (members-depth ms)

-- ---- the line feed

-- After a value stands a comma, a closing bracket or the end, before such a rest.
after-value : (r : List ℕ) (ended : ends_word r ≡ true) (ts : List Token) → ends_word (print_from true ts ++ r) ≡ true
unfolding print_from
after-value r ended [] = ended
after-value r ended (begin_object ∷ ts) = refl
after-value r ended (end_object ∷ ts) = refl
after-value r ended (begin_array ∷ ts) = refl
after-value r ended (end_array ∷ ts) = refl
after-value r ended (key s ∷ ts) = refl
after-value r ended (string s ∷ ts) = refl
after-value r ended (number s ∷ ts) = refl
after-value r ended (boolean b ∷ ts) = refl
after-value r ended (null ∷ ts) = refl
after-value r ended (bad ∷ ts) = refl

-- Two rests that are read alike behind a token, if both end a word.
abbrev EndsIf : Token → List ℕ → Type 0
EndsIf t r = ends t ≡ true → ends_word r ≡ true

quoted-alike : (s r q : List ℕ) → lex between r ≡ lex between q → lex between (quoted s ++ r) ≡ lex between (quoted s ++ q)
unfolding lex
quoted-alike s r q same =
    let er = append_assoc (escape s) (34 ∷ []) r in
    let eq = append_assoc (escape s) (34 ∷ []) q in
    ap (λ l. lex between (34 ∷ l)) er
    ∙ ap₂ (λ o l. token (string_token o) ∷ l) (content-escape s r) (lex-escape s r ∙ same ∙ sym (lex-escape s q))
    ∙ sym (ap (λ l. lex between (34 ∷ l)) eq ∙ ap (λ o. token (string_token o) ∷ lex Rattle.json.specs.Lex.in_string (escape s ++ 34 ∷ q)) (content-escape s q))

token-alike : (t : Token) (r q : List ℕ) → IsPrintable t → EndsIf t r → EndsIf t q → lex between r ≡ lex between q → lex between (token_text t ++ r) ≡ lex between (token_text t ++ q)
unfolding lex word
token-alike begin_object r q h er eq same = ap (λ l. token begin_object ∷ l) same
token-alike end_object r q h er eq same = ap (λ l. token end_object ∷ l) same
token-alike begin_array r q h er eq same = ap (λ l. token begin_array ∷ l) same
token-alike end_array r q h er eq same = ap (λ l. token end_array ∷ l) same
token-alike (key s) r q h er eq same =
    ap (lex between) (append_assoc (quoted s) (58 ∷ []) r) ∙ quoted-alike s (58 ∷ r) (58 ∷ q) (ap (λ l. colon ∷ l) same) ∙ sym (ap (lex between) (append_assoc (quoted s) (58 ∷ []) q))
token-alike (string s) r q h er eq same = quoted-alike s r q same
token-alike (number s) r q h er eq same = lex-number s r h (er refl) ∙ ap (λ l. token (number s) ∷ l) same ∙ sym (lex-number s q h (eq refl))
token-alike (boolean true) r q h er eq same =
    ap₂ (λ b l. token (cond b (boolean true) bad) ∷ l) (er refl) (in_word-ended r (er refl) ∙ same) ∙ sym (ap₂ (λ b l. token (cond b (boolean true) bad) ∷ l) (eq refl) (in_word-ended q (eq refl)))
token-alike (boolean false) r q h er eq same =
    ap₂ (λ b l. token (cond b (boolean false) bad) ∷ l) (er refl) (in_word-ended r (er refl) ∙ same) ∙ sym (ap₂ (λ b l. token (cond b (boolean false) bad) ∷ l) (eq refl) (in_word-ended q (eq refl)))
token-alike null r q h er eq same =
    ap₂ (λ b l. token (cond b null bad) ∷ l) (er refl) (in_word-ended r (er refl) ∙ same) ∙ sym (ap₂ (λ b l. token (cond b null bad) ∷ l) (eq refl) (in_word-ended q (eq refl)))
token-alike bad r q h er eq same = absurd h

separator-alike : (b : Bool) (r q : List ℕ) → lex between r ≡ lex between q → lex between (cond b (44 ∷ []) [] ++ r) ≡ lex between (cond b (44 ∷ []) [] ++ q)
unfolding lex
separator-alike true r q same = ap (λ l. comma ∷ l) same
separator-alike false r q same = same

-- A rest of blanks behind what is printed is passed over.
rest-alike : (r : List ℕ) → ends_word r ≡ true → lex between r ≡ [] → (c : Bool) (ts : List Token) → ArePrintable ts → lex between (print_from c ts ++ r) ≡ lex between (print_from c ts)
unfolding print_from ArePrintable lex
rest-alike r ended none c [] h = none
rest-alike r ended none c (t ∷ ts) h =
    let more = print_from (ends t) ts in
    let split : print_from c (t ∷ ts) ++ r ≡ separator c t ++ (token_text t ++ (more ++ r)) =
    append_assoc (separator c t) (token_text t ++ more) r ∙ ap (λ l. separator c t ++ l) (append_assoc (token_text t) more r) in
    let same = rest-alike r ended none (ends t) ts h.1 in
    let ends-r : EndsIf t (more ++ r) = λ e. ap (λ b. ends_word (print_from b ts ++ r)) e ∙ after-value r ended ts in
    let ends-q : EndsIf t more = λ e. ap (λ b. ends_word (print_from b ts)) e ∙ ap ends_word (sym (append-nil (print_from true ts))) ∙ after-value [] refl ts in
    ap (lex between) split ∙ separator-alike (c && begins t) _ _ (token-alike t (more ++ r) more h.0 ends-r ends-q same)

-- ---- UTF-8

comma-utf8 : (later : Bool) → IsUtf8 (comma_if later)
comma-utf8 true = IsUtf8-are_ascii (44 ∷ []) refl
comma-utf8 false = IsUtf8-nil

mutual
  utf8 : (d : Data) → IsPlain d → IsUtf8 (compact_text d)
  utf8 value.null h = IsUtf8-are_ascii _ refl
  utf8 (value.boolean b) h = IsUtf8-boolean b
  utf8 (value.number (value.unsigned n)) h = IsUtf8-from_ascii (decimal n) (IsAscii-decimal n h)
  utf8 (value.number (value.negative z)) h = absurd h
  utf8 (value.number (value.float x)) h = absurd h
  utf8 (value.string s) h = IsUtf8-quoted s h
  utf8 (value.array ds) h = IsUtf8-append (91 ∷ []) _ (IsUtf8-are_ascii (91 ∷ []) refl) (items-utf8 false ds h)
  utf8 (value.object ms) h = IsUtf8-append (123 ∷ []) _ (IsUtf8-are_ascii (123 ∷ []) refl) (members-utf8 false ms h.1)

  items-utf8 : (later : Bool) (ds : Items) → ArePlainItems ds → IsUtf8 (items_text later ds)
  items-utf8 later value.no_items h = IsUtf8-are_ascii (93 ∷ []) refl
  items-utf8 later (value.item d ds) h = IsUtf8-append (comma_if later) _ (comma-utf8 later) (IsUtf8-append (compact_text d) _ (utf8 d h.0) (items-utf8 true ds h.1))

  members-utf8 : (later : Bool) (ms : Members) → ArePlainMembers ms → IsUtf8 (members_text later ms)
  members-utf8 later value.no_members h = IsUtf8-are_ascii (125 ∷ []) refl
  members-utf8 later (value.member k d ms) h =
      IsUtf8-append (comma_if later) _ (comma-utf8 later)
      (IsUtf8-append (quoted k) _ (IsUtf8-quoted k h.0)
      (IsUtf8-append (58 ∷ []) _ (IsUtf8-are_ascii (58 ∷ []) refl) (IsUtf8-append (compact_text d) _ (utf8 d h.1) (members-utf8 true ms h.2))))

pub line-utf8 : (d : Data) → IsPlain d → is_utf8 (compact_text d ++ 10 ∷ []) ≡ true
line-utf8 d plain = is_utf8-from_IsUtf8 _ (IsUtf8-append (compact_text d) (10 ∷ []) (utf8 d plain) (IsUtf8-are_ascii (10 ∷ []) refl))

-- ---- together

pub read-back : (d : Data) → IsPlain d → depth d ≤ max_depth → read (compact_text d ++ 10 ∷ []) ≡ Some d
unfolding lex
read-back d plain shallow =
    let ts = json_tokens (outline d) in
    let printable = ArePrintable-json_tokens (outline d) (numbers d plain) in
    let told : tokens (compact_text d ++ 10 ∷ []) ≡ ts =
    ap (λ s. tokens (s ++ 10 ∷ [])) (sym (print-outline d)) ∙ ap (punctuate fresh) (rest-alike (10 ∷ []) refl refl false ts printable) ∙ tokens-print ts printable in
    let whole = value-json_tokens (outline d) max_depth [] (omega (arith, same-depth d)) in
    ap (λ l. option_and_then of_json (option_and_then (λ p. json.if_last p.0 p.1) (json.value max_depth l))) (told ∙ sym (append-nil ts))
    ∙ ap (λ o. option_and_then of_json (option_and_then (λ p. json.if_last p.0 p.1) o)) whole ∙ back d plain
