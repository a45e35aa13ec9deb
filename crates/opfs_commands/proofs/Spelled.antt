-- Words ask for one command at most.
use Rattle.std.proofs.Common.{◌≡◌, ℕ, zero, suc, ◌+◌, ◌*◌, ◌==◌, List, [], ◌∷◌, length, get_or, refl, sym, ◌∙◌, ap, subst, arith}
use Rattle.std.specs.Prelude.{if◌then◌else◌}
use Rattle.std.specs.Str.Parse.{digits_value}
use Rattle.std.proofs.lemmas.Fmt.{decimal_is_IsNumeral}
use Rattle.opfs_base.specs.Texts.{Text}
use Rattle.opfs_image.proofs.Formatted.{range_parts}
use Rattle.opfs_commands.proofs.Numbers.{generation_parts}
use Rattle.opfs_commands.specs.Commands.{Command, trial, running, judgement, generating, on_image, loading, spelled, IsAsked, IsInRange, Asks}
use Rattle.opfs_commands.specs.declared.words.Action.TheVariants.{Format, List as ListIt, Check, Migrate, Dump}

abbrev pub word_at : ℕ → List Text → Text
word_at n [] = []
word_at zero (word ∷ words) = word
word_at (suc n) (word ∷ words) = word_at n words

-- how many words there are, and the first byte of the first
mark_of : List Text → ℕ
mark_of words = 1000 * length words + get_or (word_at 0 words) 0 0

number_of : Text → ℕ
number_of word = digits_value 10 word

-- the command with such a mark that words spell
marked : ℕ → List Text → Command
marked mark words =
    if mark == 1116 then trial
    else (if mark == 1106 then judgement
    else (if mark == 2108 then on_image (word_at 1 words) ListIt
    else (if mark == 2099 then on_image (word_at 1 words) Check
    else (if mark == 2109 then on_image (word_at 1 words) Migrate
    else (if mark == 2100 then on_image (word_at 1 words) Dump
    else (if mark == 2114 then running (word_at 1 words)
    else (if mark == 4103 then generating (record { seed = number_of (word_at 1 words); agents = number_of (word_at 2 words); rounds = number_of (word_at 3 words) })
    else (if mark == 3108 then loading (word_at 1 words) (word_at 2 words)
    else on_image (word_at 1 words) (Format (record { areas = number_of (word_at 3 words); blocks = number_of (word_at 2 words); quota = number_of (word_at 4 words) }))))))))))

read_back : List Text → Command
read_back words = marked (mark_of words) words

reads_back : (c : Command) → IsInRange c → read_back (spelled c) ≡ c
unfolding read_back marked mark_of number_of
reads_back trial range = refl
reads_back (running path) range = refl
reads_back judgement range = refl
reads_back (generating g) range =
    let p = generation_parts g range in
    let seed = (decimal_is_IsNumeral g.seed (omega (arith, p.seed_fits))).1 in
    let agents = (decimal_is_IsNumeral g.agents (omega (arith, p.few_agents))).1 in
    let rounds = (decimal_is_IsNumeral g.rounds (omega (arith, p.few_rounds))).1 in
    λ i. generating (record { seed = seed i; agents = agents i; rounds = rounds i })
reads_back (on_image path (Format g)) range =
    let p = range_parts g range.1 in
    let areas = (decimal_is_IsNumeral g.areas (omega (arith, p.0))).1 in
    let blocks = (decimal_is_IsNumeral g.blocks (omega (arith, p.1))).1 in
    let quota = (decimal_is_IsNumeral g.quota (omega (arith, p.2))).1 in
    λ i. on_image path (Format (record { areas = areas i; blocks = blocks i; quota = quota i }))
reads_back (on_image path ListIt) range = refl
reads_back (on_image path Check) range = refl
reads_back (on_image path Migrate) range = refl
reads_back (on_image path Dump) range = refl
reads_back (loading image text) range = refl

pub one_command : (words : List Text) (a b : Command) → IsAsked words a → IsAsked words b → a ≡ b
one_command words a b x y = sym (reads_back a x.range) ∙ ap read_back (sym x.spelling ∙ y.spelling) ∙ reads_back b y.range

-- what is said of the command that words ask for is so of the one that was read
pub named : (words : List Text) (command : Command) (P : Command → Type 0) → IsAsked words command → Asks words P → P command
named words command P asked is = subst P (one_command words is.command command is.asked asked) is.holds

-- words that are those of a run ask for that run, and for nothing else
pub asked_run : (words : List Text) (path : Text) (P : Command → Type 0) → words ≡ spelled (running path) → Asks words P → P (running path)
unfolding read_back marked mark_of
asked_run words path P is asks = subst P (sym (reads_back asks.command asks.asked.range) ∙ ap read_back (sym asks.asked.spelling ∙ is)) asks.holds
