use Rattle.std.proofs.Common.{◌≡◌, ℕ, ◌-◌, List, ◌++◌, take, drop, length, sym, ap, ◌∙◌, append_assoc, take-append-drop}
use Rattle.std.proofs.KnownBytes.{Appends-trans}
use Rattle.std.proofs.lemmas.List.{take_rest}
use Rattle.outside_io.proofs.writing.write_all.Goals as goal

-- n more bytes are written, and the others are left
sent_more : (bytes sent rest : List ℕ) (n : ℕ) → bytes ≡ sent ++ rest → bytes ≡ (sent ++ take n rest) ++ take (length rest - n) (drop n rest)
sent_more bytes sent rest n parts =
    parts
    ∙ ap (λ xs. sent ++ xs) (sym (take-append-drop n rest))
    ∙ sym (append_assoc sent (take n rest) (drop n rest))
    ∙ ap (λ xs. (sent ++ take n rest) ++ xs) (sym (take_rest rest n))

pub loop-rest-preserved : goal.loop-rest-preserved
loop-rest-preserved g c =
    let so_far = c.loop-rest.invariant in
    let rest = c.loop-rest.rest.now in
    let n = c.in-Ok.count in
    (so_far.0 ++ take n rest, sent_more c.args.bytes.now so_far.0 rest n so_far.1, Appends-trans _ _ _ so_far.0 (take n rest) so_far.2 c.in-Ok.ensures.bytes)
