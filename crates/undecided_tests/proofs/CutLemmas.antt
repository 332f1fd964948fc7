-- Lines that are removed from the end.
use Rattle.std.proofs.Common.{◌≡◌, ℕ, ◌-◌, ◌<◌, List, length, take, drop, sym, ap, ◌∙◌, arith}
use Rattle.std.proofs.lemmas.List.{length-take-le, take-append-drop, take-append-le}
use Rattle.rup_check.specs.declared.line.Line.{Line}

-- Removing the last of more than n lines does not change the first n.
pub take-fewer : (lines : List Line) (n : ℕ) → n < length lines → take n (take (length lines - 1) lines) ≡ take n lines
take-fewer lines n h =
    let m : ℕ = length lines - 1 in
    let count : length (take m lines) ≡ m = length-take-le m lines (omega (arith, h)) in
    sym (take-append-le n (take m lines) (drop m lines) (omega (arith, h, count))) ∙ ap (take n) (take-append-drop m lines)
