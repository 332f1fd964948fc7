-- A log that is written is read back as itself; a log whose lines follow can be written.
use Rattle.std.proofs.Common.{◌≡◌, ◌+◌, ◌∙◌, ◌∷◌, ◌++◌, [], ℕ, suc, List, true, Ok, refl, sym, ap, subst, arith}
use Rattle.std.proofs.lemmas.List.{append-nil, append_assoc}
use Rattle.rup_check.specs.declared.line.Line.{Line}
use Rattle.pack_defs.specs.Steps.{◌>>=◌}
use Rattle.lrat_text.specs.Lines.{ended_lines, is_whole}
use Rattle.lrat_text.specs.Write.{log_fields, log_text, AreSpelled}
use Rattle.lrat_text.specs.Read.{after_log_lines, log_of, log_read, empty_log_read}
use Rattle.lrat_text.proofs.LineLemmas.{fields-line, is-whole-fields, words-again}
use Rattle.lrat_text.proofs.LogLemmas.{run, line-fields, line-again}

pub is-whole-log : (number : ℕ) (lines : List Line) → is_whole (log_text number lines) ≡ true
unfolding log_text is_whole
is-whole-log number [] = refl
is-whole-log number (line ∷ lines) = is-whole-fields (log_fields number line) (log_text (number + 1) lines) ∙ is-whole-log (number + 1) lines

lines-again : (n clauses k : ℕ) (before lines : List Line) → AreSpelled (clauses + 1 + k) lines
    → (after_log_lines n clauses (record { numbers = run (clauses + 1) k; lines = before }) (ended_lines (log_text (clauses + 1 + k) lines)) >>= log_read)
    ≡ Ok (record { lines = before ++ lines })
unfolding log_text after_log_lines ended_lines
lines-again n clauses k before [] h = ap (λ (xs : List Line). Ok (record { lines = xs })) (sym (append-nil before))
lines-again n clauses k before (line ∷ lines) h =
    let number = clauses + 1 + k in
    let fields = line-fields number line h.0.0 h.0.1 h.0.2 in
    let next : number + 1 ≡ clauses + 1 + suc k = omega arith in
    rw (
      fields-line (log_fields number line) (log_text (number + 1) lines) fields,
      words-again _ _ fields,
      line-again n clauses k before line h.0.0 h.0.1 h.0.2,
    )
    (subst (λ m. (after_log_lines (n + 1) clauses (record { numbers = run (clauses + 1) (suc k); lines = before ++ line ∷ [] }) (ended_lines (log_text m lines)) >>= log_read) ≡ Ok (record { lines = before ++ line ∷ lines })) (sym next)
    (lines-again (n + 1) clauses (suc k) (before ++ line ∷ []) lines (subst (λ m. AreSpelled m lines) next h.1) ∙ ap (λ (xs : List Line). Ok (record { lines = xs })) (append_assoc before (line ∷ []) lines)))

-- A log that is written is read back.
pub log-again : (clauses : ℕ) (lines : List Line) → AreSpelled (clauses + 1) lines → log_of (log_text (clauses + 1) lines) clauses ≡ Ok (record { lines = lines })
unfolding log_of
log-again clauses lines h =
    let e : clauses + 1 ≡ clauses + 1 + 0 = omega arith in
    rw (is-whole-log (clauses + 1) lines) (subst (λ m. (after_log_lines 1 clauses empty_log_read (ended_lines (log_text m lines)) >>= log_read) ≡ Ok (record { lines = lines })) (sym e) (lines-again 1 clauses 0 [] lines (subst (λ m. AreSpelled m lines) e h)))
