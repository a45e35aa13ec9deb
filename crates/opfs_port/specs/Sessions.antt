-- What a session is: lines, each with its answer; and what is said at a port meanwhile. This project's own.
use Rattle.std.specs.Prelude.{◌≡◌, ℕ, List, [], ◌∷◌, ◌++◌, map}
use Rattle.opfs_port.specs.Said.{Said, heard, told}

-- A line, its answer, and what stood when the answer was told.
pub record Exchange (T : Type 0) : Type 0 where
  pub line : List ℕ
  pub answer : List ℕ
  pub at : T

-- What is said: behind each line its answer, before the next line.
abbrev pub spoken : {T : Type 0} → List (Exchange T) → List (Said T)
spoken [] = []
spoken (t ∷ ts) = heard t.line ∷ told t.answer t.at ∷ spoken ts

-- The lines alone.
abbrev pub lines_of : {T : Type 0} → List (Exchange T) → List (List ℕ)
lines_of [] = []
lines_of (t ∷ ts) = t.line ∷ lines_of ts

-- From one state to another by lines and their answers, each a step.
pub data IsSession {S T : Type 0} (Step : S → List ℕ → List ℕ → T → S → Type 0) : S → List (Exchange T) → S → Type 0 where
  over : (s : S) → IsSession Step s [] s
  then_more : (a b c : S) (t : Exchange T) (ts : List (Exchange T)) → Step a t.line t.answer t.at b → IsSession Step b ts c → IsSession Step a (t ∷ ts) c

-- What was said between two moments, and came of what was to come: whole exchanges, each a step.
pub record Conversed {S T : Type 0} (Step : S → List ℕ → List ℕ → T → S → Type 0) (a b : S) (said_old said_new : List (Said T)) (rest_old rest_new : List (List ℕ)) : Type 0 where
  pub talk : List (Exchange T)
  pub session : IsSession Step a talk b
  pub said : said_new ≡ said_old ++ spoken talk
  pub came : rest_old ≡ lines_of talk ++ rest_new

-- How a session stands, behind a state, to the lines that were heard since and of which no answer was told: there is none; there is one, which it
-- answered; or one that it had no memory to answer.
pub data IsLeft {S T : Type 0} (Step : S → List ℕ → List ℕ → T → S → Type 0) (Stop : S → S → Type 0) (until now : S) : List (List ℕ) → Type 0 where
  unheard : now ≡ until → IsLeft Step Stop until now []
  untold : (line out : List ℕ) (at : T) → Step until line out at now → IsLeft Step Stop until now (line ∷ [])
  unanswered : (line : List ℕ) → Stop until now → IsLeft Step Stop until now (line ∷ [])

-- The same as a conversation where it broke off: behind whole exchanges one line at most was heard of which no answer was told.
pub record BrokeOff {S T : Type 0} (Step : S → List ℕ → List ℕ → T → S → Type 0) (Stop : S → S → Type 0) (a b : S) (said_old said_new : List (Said T)) (rest_old rest_new : List (List ℕ)) : Type 0 where
  pub talk : List (Exchange T)
  pub until : S
  pub session : IsSession Step a talk until
  pub left : List (List ℕ)
  pub stands : IsLeft Step Stop until b left
  pub said : said_new ≡ said_old ++ spoken talk ++ map heard left
  pub came : rest_old ≡ lines_of talk ++ left ++ rest_new
