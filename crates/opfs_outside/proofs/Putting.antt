-- One piece more is put out.
use Rattle.std.proofs.Common.{◌≡◌, ℕ, List, ◌-◌, ◌++◌, take, drop, length, sym, ap, ◌∙◌, append_assoc, length-drop, arith}
use Rattle.std.proofs.lemmas.List.{take-append-drop, take_all}
use Rattle.opfs_outside.specs.declared.stream.Sink.{Ghosts as SinkWords}
use Rattle.opfs_outside.specs.Turns.{of_sink, TookFront}

rest_whole : (rest : List ℕ) (count m : ℕ) → m ≡ length rest → take (m - count) (drop count rest) ≡ drop count rest
rest_whole rest count m is = take_all (m - count) (drop count rest) (rw (length-drop count rest) (omega (arith, is)))

pub more_put : {K : Type 0} (w : SinkWords K) (old mid new : K) (text rest : List ℕ) (count m : ℕ) → m ≡ length rest
    → TookFront (of_sink w old mid) text rest → (w.tells → w.written new ≡ w.written mid ++ take count rest)
    → TookFront (of_sink w old new) text (take (m - count) (drop count rest))
more_put w old mid new text rest count m is so_far taken = rw (rest_whole rest count m is) (record {
  front = so_far.front ++ take count rest;
  whole =
      so_far.whole
      ∙ ap (λ t. so_far.front ++ t) (sym (take-append-drop count rest))
      ∙ sym (append_assoc so_far.front (take count rest) (drop count rest));
  took = λ t.
      taken t
      ∙ ap (λ x. x ++ take count rest) (so_far.took t)
      ∙ append_assoc (w.written old) so_far.front (take count rest);
})
