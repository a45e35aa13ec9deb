use Rattle.std.proofs.Common.{◌≡◌, ◌∙◌, ◌+◌, ◌<◌, length, refl, sym, ap, arith}
use Rattle.std.proofs.lemmas.Bool.{false≢true}
use Rattle.opfs_transcripts.specs.Told.Goings.{asked}
use Rattle.opfs_transcripts.proofs.told.Goes.{this_call, number-of, op-of}
use Rattle.opfs_judge.specs.Players.{going_at, goings_of}
use Rattle.opfs_judge.proofs.Calling.{behind, both-so, called-in, going-got, no-caller-in, none-call, rest-is, stands-so}
use Rattle.opfs_judge.proofs.Moves.{asked-moves}
use Rattle.opfs_judge.proofs.asking.find_asking.Goals as goal

pub returns-in_default-clause-told : goal.returns-in_default-clause-told
returns-in_default-clause-told c = λ h.
    let text = c.args.text.now in
    let found = c.evictions-evictions.result in
    absurd (no-caller-in c.args.state.now c.args.players.now text c.args.fronts.now found c.requires.fronts c.requires.few c.evictions-evictions.ensures.scanned
    _ (rest-is text found.1) h (c.in_default.ensures.none refl))

pub returns-in_default-2-clause-told : goal.returns-in_default-2-clause-told
returns-in_default-2-clause-told c = λ h.
    let gs = c.args.players.now in
    let text = c.args.text.now in
    let found = c.evictions-evictions.result in
    let index = c.in-Some.index in
    let many = c.requires.fronts.many in
    let below = c.in-Some.ensures.within in
    let called = called-in c.args.state.now gs text c.args.fronts.now found c.requires.fronts c.requires.few c.evictions-evictions.ensures.scanned
    _ (rest-is text found.1) h index below c.in-Some.ensures.begun in
    let got = going-got gs index c.index-players-index.result (omega (arith, below, many)) c.index-players-index.is in
    absurd (none-call h.turn.entry.number h.turn.entry.op (sym c.in_default-2.is ∙ c.in_ok-number.ensures ∙ ap asked (sym got) ∙ called.asks))

pub returns-then-not-stands-clause-told : goal.returns-then-not-stands-clause-told
returns-then-not-stands-clause-told c = λ h.
    let gs = c.args.players.now in
    let text = c.args.text.now in
    let found = c.evictions-evictions.result in
    let index = c.in-Some.index in
    let many = c.requires.fronts.many in
    let below = c.in-Some.ensures.within in
    let e = h.turn.entry in
    let called = called-in c.args.state.now gs text c.args.fronts.now found c.requires.fronts c.requires.few c.evictions-evictions.ensures.scanned
    _ (rest-is text found.1) h index below c.in-Some.ensures.begun in
    let got = going-got gs index c.index-players-index.result (omega (arith, below, many)) c.index-players-index.is in
    let same : this_call c.in-Some-2.number c.in-Some-2.op ≡ this_call e.number e.op = sym c.in-Some-2.is ∙ c.in_ok-number.ensures ∙ ap asked (sym got) ∙ called.asks in
    absurd (false≢true (c.if-not-stands.ensures.exact ∙ stands-so c.args.state.now e.agent (index + 1) e.op c.in-Some-2.op called.agent (sym (op-of c.in-Some-2.number e.number c.in-Some-2.op e.op same))
    h.turn.call.live h.turn.call.fitting))

pub returns-clause-found : goal.returns-clause-found
returns-clause-found c =
    let gs = c.args.players.now in
    let index = c.in-Some.index in
    let many = c.requires.fronts.many in
    let below = c.in-Some.ensures.within in
    let inside : index < length gs = omega (arith, below, many) in
    let got = going-got gs index c.index-players-index.result inside c.index-players-index.is in
    let asks : asked (going_at gs index) ≡ this_call c.in-Some-2.number c.in-Some-2.op = ap asked got ∙ sym c.in_ok-number.ensures ∙ c.in-Some-2.is in
    let both = both-so _ _ c.if-not-stands.ensures.exact in
    record {
      within = inside;
      front = c.evictions-evictions.ensures.within;
      asks = asks;
      agent = c.if-not-stands.ensures.agent refl;
      live = both.0;
      fitting = both.1;
      moves = asked-moves (going_at gs index) c.in-Some-2.number c.in-Some-2.op asks;
    }

pub returns-clause-told : goal.returns-clause-told
returns-clause-told c = λ h.
    let s = c.args.state.now in
    let gs = c.args.players.now in
    let text = c.args.text.now in
    let found = c.evictions-evictions.result in
    let index = c.in-Some.index in
    let many = c.requires.fronts.many in
    let below = c.in-Some.ensures.within in
    let e = h.turn.entry in
    let at = behind s (goings_of gs) text h found c.evictions-evictions.ensures.scanned in
    let called = called-in s gs text c.args.fronts.now found c.requires.fronts c.requires.few c.evictions-evictions.ensures.scanned
    _ (rest-is text found.1) h index below c.in-Some.ensures.begun in
    let got = going-got gs index c.index-players-index.result (omega (arith, below, many)) c.index-players-index.is in
    let same : this_call c.in-Some-2.number c.in-Some-2.op ≡ this_call e.number e.op = sym c.in-Some-2.is ∙ c.in_ok-number.ensures ∙ ap asked (sym got) ∙ called.asks in
    record {
      asking = record { evictions = found.0; front = found.1; index = index; number = c.in-Some-2.number; op = c.in-Some-2.op };
      is = refl;
      agent = called.agent;
      number = sym (number-of c.in-Some-2.number e.number c.in-Some-2.op e.op same);
      op = sym (op-of c.in-Some-2.number e.number c.in-Some-2.op e.op same);
      evictions = sym at.many;
      told = at.line;
    }
