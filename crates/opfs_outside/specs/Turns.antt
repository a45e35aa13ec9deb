-- What stands of a host, a sink, a source or a disk before a call and after it, as one record, and what a call leaves of
-- each. This project's own.
--
-- A clause makes the record by `of_host H.Host host.old host.new`, and so for the others.
use Rattle.std.specs.Prelude.{◌≡◌, ◌≢◌, ◌⊎◌, ◌↔◌, ℕ, ◌<◌, ◌≤◌, List, [], ◌++◌, length, Option, Some}
use Rattle.opfs_outside.specs.declared.host.Host.{Ghosts as HostWords}
use Rattle.opfs_outside.specs.declared.stream.Sink.{Ghosts as SinkWords}
use Rattle.opfs_outside.specs.declared.stream.Source.{Ghosts as SourceWords}
use Rattle.opfs_outside.specs.Faults.{Rose}

-- A host, before and after a call: its images by path, what a stop may have left there, its own faults, and all faults; and
-- after it, of the disk that came back last for each path, its moments and what a stop may have left from each of them on.
pub record HostTurn : Type 1 where
  pub tells : Type 0
  pub image : List ℕ → Option (List ℕ)
  pub image_after : List ℕ → Option (List ℕ)
  pub trail : List ℕ → List ℕ → Type 0
  pub trail_after : List ℕ → List ℕ → Type 0
  pub moment_after : List ℕ → ℕ
  pub since_after : List ℕ → ℕ → List ℕ → Type 0
  pub own : ℕ
  pub own_after : ℕ
  pub faults : ℕ
  pub faults_after : ℕ

abbrev pub of_host : {H D M : Type 0} → HostWords H D M → H → H → HostTurn
of_host h old new = record {
  tells = h.tells;
  image = h.image old;
  image_after = h.image new;
  trail = h.trail old;
  trail_after = h.trail new;
  moment_after = h.moment new;
  since_after = h.since new;
  own = h.own_faults old;
  own_after = h.own_faults new;
  faults = h.faults old;
  faults_after = h.faults new;
}

-- A path is as before: its image, and what a stop may have left there.
pub record AsBefore (h : HostTurn) (path : List ℕ) : Type 0 where
  pub image : h.image_after path ≡ h.image path
  pub trail : (c : List ℕ) → h.trail_after path c ↔ h.trail path c

-- Every path but this one is as before.
abbrev pub OthersAsBefore : HostTurn → List ℕ → Type 0
OthersAsBefore h path = (p : List ℕ) → p ≢ path → AsBefore h p

-- A path has its image still, and a stop may have left nothing there but that image and what it may have left before.
pub record ImageStays (h : HostTurn) (path : List ℕ) : Type 0 where
  pub image : h.image_after path ≡ h.image path
  pub trail : (c : List ℕ) → h.trail_after path c → h.trail path c ⊎ (h.image path ≡ Some c)

-- A disk was given back after this last moment: its content is the image at the path, what a stop may have left of it from
-- each moment on is known there, all of that is added to the trail, and every other path is as before.
pub record GivenBack (h : HostTurn) (path content : List ℕ) (last : ℕ) (left : ℕ → List ℕ → Type 0) : Type 0 where
  pub image : h.image_after path ≡ Some content
  pub trail : (c : List ℕ) → h.trail_after path c ↔ (h.trail path c ⊎ left 0 c)
  pub moment : h.moment_after path ≡ last
  pub since : (t : ℕ) (c : List ℕ) → h.since_after path t c ↔ left t c
  pub others : OthersAsBefore h path

-- A disk came back, or did not: the image at its path is the old one or its content, a stop may have left nothing there but what
-- it may have left of that disk and before, and every other path is as before.
pub record IsReturned (h : HostTurn) (path content : List ℕ) (left : List ℕ → Type 0) : Type 0 where
  pub image : (h.image_after path ≡ h.image path) ⊎ (h.image_after path ≡ Some content)
  pub trail : (c : List ℕ) → h.trail_after path c → h.trail path c ⊎ left c
  pub others : OthersAsBefore h path

-- A disk that was made may have taken the place of what stood at a path, whole and at once: the image there is the old one, or a
-- new one of this kind, and a stop may have left nothing there but these two and what it may have left before.
pub record IsOldOrNew (h : HostTurn) (path : List ℕ) (New : List ℕ → Type 0) : Type 0 where
  pub image : (h.image_after path ≡ h.image path) ⊎ ((c : List ℕ) × (h.image_after path ≡ Some c) × New c)
  pub trail : (c : List ℕ) → h.trail_after path c → h.trail path c ⊎ (h.image path ≡ Some c) ⊎ New c

-- A count of a host rose: that of its own faults, or that of all, which has those of its disks.
abbrev pub HostFailed : HostTurn → Type 0
HostFailed h = Rose h.own h.own_after ⊎ Rose h.faults h.faults_after

-- No call of the host itself failed.
abbrev pub HostServed : HostTurn → Type 0
HostServed h = Rose h.own h.own_after → ⊥

-- A sink, before and after a call: what it took, and its faults.
pub record SinkTurn : Type 1 where
  pub tells : Type 0
  pub written : List ℕ
  pub written_after : List ℕ
  pub faults : ℕ
  pub faults_after : ℕ

abbrev pub of_sink : {K : Type 0} → SinkWords K → K → K → SinkTurn
of_sink k old new = record {
  tells = k.tells;
  written = k.written old;
  written_after = k.written new;
  faults = k.faults old;
  faults_after = k.faults new;
}

-- These bytes were put out.
abbrev pub Took : SinkTurn → List ℕ → Type 0
Took k bytes = k.tells → k.written_after ≡ k.written ++ bytes

-- Nothing was put out.
abbrev pub TookNothing : SinkTurn → Type 0
TookNothing k = k.tells → k.written_after ≡ k.written

-- A front of the bytes was put out, and this rest is left.
pub record TookFront (k : SinkTurn) (bytes rest : List ℕ) : Type 0 where
  pub front : List ℕ
  pub whole : bytes ≡ front ++ rest
  pub took : Took k front

-- A text of this kind was put out.
pub record Puts (k : SinkTurn) (Kind : List ℕ → Type 0) : Type 0 where
  pub text : List ℕ
  pub kind : Kind text
  pub took : Took k text

-- A front of a text of this kind was put out.
pub record PutsFront (k : SinkTurn) (Kind : List ℕ → Type 0) : Type 0 where
  pub text : List ℕ
  pub rest : List ℕ
  pub kind : Kind (text ++ rest)
  pub took : Took k text

abbrev pub SinkFailed : SinkTurn → Type 0
SinkFailed k = Rose k.faults k.faults_after

-- A source, before and after a call: what is still to come, and its faults.
pub record SourceTurn : Type 1 where
  pub tells : Type 0
  pub rest : List ℕ
  pub rest_after : List ℕ
  pub faults : ℕ
  pub faults_after : ℕ

abbrev pub of_source : {S : Type 0} → SourceWords S → S → S → SourceTurn
of_source s old new = record {
  tells = s.tells;
  rest = s.rest old;
  rest_after = s.rest new;
  faults = s.faults old;
  faults_after = s.faults new;
}

-- These bytes were read.
abbrev pub Read : SourceTurn → List ℕ → Type 0
Read s bytes = s.tells → s.rest ≡ bytes ++ s.rest_after

-- The source was read to its end, and gave these bytes, at most so many.
pub record ReadWhole (s : SourceTurn) (most : ℕ) (bytes : List ℕ) : Type 0 where
  pub all : s.tells → s.rest ≡ bytes
  pub end : s.tells → s.rest_after ≡ []
  pub fits : length bytes ≤ most

-- More bytes than so many were read of the source.
pub record ReadTooFar (s : SourceTurn) (most : ℕ) : Type 0 where
  pub bytes : List ℕ
  pub long : most < length bytes
  pub read : Read s bytes

abbrev pub SourceFailed : SourceTurn → Type 0
SourceFailed s = Rose s.faults s.faults_after
