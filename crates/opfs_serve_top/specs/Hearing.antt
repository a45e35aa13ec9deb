-- What the first line of a conversation gives. This project's own.
use Rattle.std.specs.Prelude.{◌≡◌, ◌⊎◌, ℕ, ◌<◌, ◌≤◌, List, [], ◌∷◌, ◌++◌, length, Ok, Err}
use Rattle.opfs_base.specs.Texts.{Text}
use Rattle.opfs_outside.specs.Faults.{Rose}
use Rattle.opfs_port.specs.Said.{CameIn, Said, heard}
use Rattle.opfs_script.specs.Lines.{heard_agents}
use Rattle.opfs_script.specs.Scripts.{Asked}
use Rattle.opfs_script.specs.declared.refusal.ScriptRefusal.{ScriptRefusal}
use Rattle.opfs_script.specs.declared.refusal.ScriptRefusal.TheVariants as refused
use Rattle.opfs_serve_top.specs.declared.first.First.{First}
use Rattle.opfs_serve_top.specs.declared.first.First.TheVariants as given
use Rattle.opfs_serving.specs.Served.{HasNoScripts}

-- The most bytes that a line has.
abbrev pub most_bytes : ℕ
most_bytes = 33555456

-- What a line gives that was heard.
abbrev pub IsFirstOf : Text → First → Type 0
IsFirstOf line (given.Agents agents) = (heard_agents line ≡ Ok agents) × HasNoScripts agents × (length agents ≤ 64)
IsFirstOf line (given.Refused why) = heard_agents line ≡ Err why
IsFirstOf line given.Failed = ⊥
IsFirstOf line given.NoMemory = Unit {0}

module _ {T P : Type 0} (tells : Type 0) (said : P → List (Said T)) (rest : P → List Text) (begun now : P) where
  -- The first line names these agents, and no more was said.
  pub record NamesAgents (agents : List Asked) : Type 0 where
    pub line : Text
    pub came : tells → CameIn line (said begun) (said now) (rest begun) (rest now)
    pub read : heard_agents line ≡ Ok agents

  -- It names none, and this is why.
  pub record NamesNone (why : ScriptRefusal) : Type 0 where
    pub line : Text
    pub came : tells → CameIn line (said begun) (said now) (rest begun) (rest now)
    pub read : heard_agents line ≡ Err why

  -- It is too long.
  pub record IsTooLong (why : ScriptRefusal) : Type 0 where
    pub long : tells → (line : Text) × (most_bytes < length line) × CameIn line (said begun) (said now) (rest begun) (rest now)
    pub same : why ≡ refused.TooMany

  -- No line came.
  pub record HasNoLine (why : ScriptRefusal) : Type 0 where
    pub none : tells → (said now ≡ said begun) × (rest begun ≡ []) × (rest now ≡ [])
    pub same : why ≡ refused.NotJson

  -- Why no agents are named.
  abbrev pub IsNoFirst : ScriptRefusal → Type 0
  IsNoFirst why = NamesNone why ⊎ IsTooLong why ⊎ HasNoLine why

  -- Nothing was told, and one line was heard at most.
  abbrev pub HasToldNothing : Type 0
  HasToldNothing = tells → (said now ≡ said begun) ⊎ ((line : Text) × (said now ≡ said begun ++ heard line ∷ []))

  -- What the first line gave.
  abbrev pub IsFirst : (P → ℕ) → First → Type 0
  IsFirst faults (given.Agents agents) = NamesAgents agents × HasNoScripts agents × (length agents ≤ 64)
  IsFirst faults (given.Refused why) = IsNoFirst why
  IsFirst faults given.Failed = Rose (faults begun) (faults now) × (tells → said now ≡ said begun)
  IsFirst faults given.NoMemory = HasToldNothing
