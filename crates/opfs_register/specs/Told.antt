-- The tags of each party. This project's own.
use Rattle.std.specs.Prelude.{ℕ, Bool, false, ◌&&◌, List, Option, Some, None, Vec, is_some, unwrap_or}
use Rattle.std.specs.List.{list_any}
use Rattle.std.specs.Map.{lookup}
use Rattle.std.specs.BTreeMap.{is_at}
use Rattle.std.specs.Ordering.{is_eq, nat_cmp}
use Rattle.std.specs.declared.alloc.Global.{Global}
use Rattle.opfs_base.specs.Texts.{Text, same_text}
use Rattle.opfs_machine.specs.Agents.{same_party}
use Rattle.opfs_machine.specs.declared.state.Party.{Party}
use Rattle.opfs_machine.specs.declared.state.Party.TheVariants.{Origin, Alone}
use Rattle.opfs_machine.specs.declared.state.Posted.{Posted}
use Rattle.opfs_register.specs.LastUses.{text_cmp}

-- Tags, each with whether it was posted.
abbrev pub Tags : Type 0
Tags = List (Vec ℕ Global × Bool)

-- Whether a tag is this one.
abbrev pub is_tag : Text → Vec ℕ Global → Bool
is_tag tag bytes = is_eq (text_cmp tag bytes.items)

-- Whether a tag is there, and whether it was posted.
abbrev pub has_tag : Tags → Text → Bool
has_tag tags tag = is_some (lookup (is_tag tag) tags)

abbrev pub told_in : Tags → Text → Bool
told_in tags tag = unwrap_or (lookup (is_tag tag) tags) false

abbrev pub has_of : Option Tags → Text → Bool
has_of None tag = false
has_of (Some tags) tag = has_tag tags tag

abbrev pub told_of : Option Tags → Text → Bool
told_of None tag = false
told_of (Some tags) tag = told_in tags tag

-- The tags of each party: of origins, and of agents that are alone.
pub record Circled : Type 0 where
  pub origins : List (Text × Tags)
  pub alone : List (ℕ × Tags)

abbrev pub tags_of : Circled → Party → Option Tags
tags_of circles (Origin key) = lookup (is_at (text_cmp key)) circles.origins
tags_of circles (Alone k) = lookup (is_at (nat_cmp k)) circles.alone

abbrev pub has : Circled → Party → Text → Bool
has circles party tag = has_of (tags_of circles party) tag

abbrev pub told : Circled → Party → Text → Bool
told circles party tag = told_of (tags_of circles party) tag

-- Whether a tag was posted among a party's.
abbrev pub posted_in : List Posted → Party → Text → Bool
posted_in posted party tag = list_any (λ p. same_party party p.party && same_text tag p.tag) posted
