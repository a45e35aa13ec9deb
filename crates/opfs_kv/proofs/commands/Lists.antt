-- A list of commands with one command more.
use Rattle.std.proofs.Common.{◌≡◌, Bool, true, false, List, [], ◌∷◌, ◌++◌, refl, sym, subst}
use Rattle.opfs_base.specs.Texts.{Text}
use Rattle.opfs_kv.specs.Records.Maps.{Map}
use Rattle.opfs_turns.specs.Agents.{AgentSeen}
use Rattle.opfs_kv.specs.Seen.{KvSeen}
use Rattle.opfs_kv.specs.Commands.Runs.{AreReplies, AreRun, AreStored, AreStoredBy, IsReply, IsRun, after_op, map_after, stores}
use Rattle.opfs_kv.specs.declared.commands.commands.KvOp.{KvOp}
use Rattle.opfs_kv.specs.declared.commands.commands.KvReply.{KvReply}

-- As many replies as commands.
abbrev pub AreAsMany : List KvOp → List KvReply → Type 0
AreAsMany [] [] = Unit {0}
AreAsMany (o ∷ ops) (r ∷ replies) = AreAsMany ops replies
AreAsMany ops replies = ⊥

pub many-more : (ops : List KvOp) (rs : List KvReply) (o : KvOp) (r : KvReply) → AreAsMany ops rs → AreAsMany (ops ++ o ∷ []) (rs ++ r ∷ [])
many-more [] [] o r h = tt
many-more [] (x ∷ rs) o r h = absurd h
many-more (p ∷ ops) [] o r h = absurd h
many-more (p ∷ ops) (x ∷ rs) o r h = many-more ops rs o r h

pub map-more : (m : Map) (ops : List KvOp) (rs : List KvReply) (o : KvOp) (r : KvReply) → AreAsMany ops rs → map_after m (ops ++ o ∷ []) (rs ++ r ∷ []) ≡ after_op (map_after m ops rs) o r
map-more m [] [] o r h = refl
map-more m [] (x ∷ rs) o r h = absurd h
map-more m (p ∷ ops) [] o r h = absurd h
map-more m (p ∷ ops) (x ∷ rs) o r h = map-more (after_op m p x) ops rs o r h

pub replies-more : (m : Map) (ops : List KvOp) (rs : List KvReply) (o : KvOp) (r : KvReply) → AreReplies m ops rs → IsReply (map_after m ops rs) o r → AreReplies m (ops ++ o ∷ []) (rs ++ r ∷ [])
replies-more m [] [] o r h one = (one, tt)
replies-more m [] (x ∷ rs) o r h one = absurd h
replies-more m (p ∷ ops) [] o r h one = absurd h
replies-more m (p ∷ ops) (x ∷ rs) o r h one = (h.0, replies-more (after_op m p x) ops rs o r h.1 one)

-- ---- what they stored

-- What was stored before is nothing where more comes after nothing.
by-more : (b : Bool) (m : Map) (texts more : List Text) (P Q : List Text → Type 0) → ((rest : List Text) → P rest → Q (rest ++ more)) → AreStoredBy b m texts P → AreStoredBy b m (texts ++ more) Q
by-more true m [] more P Q goes h = absurd h
by-more true m (text ∷ texts) more P Q goes h = (h.0, goes texts h.1)
by-more false m texts more P Q goes h = goes texts h

pub stored-more : (m : Map) (ops : List KvOp) (rs : List KvReply) (o : KvOp) (r : KvReply) (texts more : List Text) → AreAsMany ops rs → AreStored m ops rs texts
    → AreStoredBy (stores o r) (after_op (map_after m ops rs) o r) more (λ rest. rest ≡ []) → AreStored m (ops ++ o ∷ []) (rs ++ r ∷ []) (texts ++ more)
stored-more m [] [] o r texts more many h one = subst (λ ts. AreStoredBy (stores o r) (after_op m o r) (ts ++ more) (λ rest. rest ≡ [])) (sym h) one
stored-more m [] (x ∷ rs) o r texts more many h one = absurd many
stored-more m (p ∷ ops) [] o r texts more many h one = absurd many
stored-more m (p ∷ ops) (x ∷ rs) o r texts more many h one =
    by-more (stores p x) (after_op m p x) texts more (AreStored (after_op m p x) ops rs) (AreStored (after_op m p x) (ops ++ o ∷ []) (rs ++ r ∷ []))
    (λ rest g. stored-more (after_op m p x) ops rs o r rest more many g one) h

-- ---- one after another

pub runs-more : {O : Type 0} (tells : Type 0) (a b c : AgentSeen O) (x y z : KvSeen) (ops : List KvOp) (rs : List KvReply) (o : KvOp) (r : KvReply) → AreRun tells a x ops rs b y → IsRun tells b c y z o r
    → AreRun tells a x (ops ++ o ∷ []) (rs ++ r ∷ []) c z
runs-more {O} tells a b c x y z [] [] o r h one = record {
  between = c;
  kv = z;
  first = subst (λ (p : AgentSeen O). IsRun tells p c x z o r) h.0 (subst (λ (k : KvSeen). IsRun tells b c k z o r) h.1 one);
  rest = (refl, refl);
}
runs-more tells a b c x y z [] (q ∷ rs) o r h one = absurd h
runs-more tells a b c x y z (p ∷ ops) [] o r h one = absurd h
runs-more tells a b c x y z (p ∷ ops) (q ∷ rs) o r h one = record {
  between = h.between;
  kv = h.kv;
  first = h.first;
  rest = runs-more tells h.between b c h.kv y z ops rs o r h.rest one;
}
