-- The incremental reader agrees with a reader of the complete text.
use Rattle.std.proofs.Common.{◌≡◌, ◌∙◌, ◌&&◌, ℕ, Bool, true, false, List, [], ◌∷◌, ◌++◌, Result, Ok, Err, IfOk, sym, ap, subst, length, take, drop, append_assoc, append-nil, if◌then◌else◌}
use Rattle.std.proofs.lemmas.List.{take-append-drop}
use Rattle.pack_defs.specs.declared.scenario.Scenario.{Scenario}
use Rattle.pack_defs.specs.Book.{BookView}
use Rattle.pack_defs.specs.Lists.{is_empty}
use Rattle.lrat_text.specs.Lines.{is_whole, ended_lines}
use Rattle.transcript_text.specs.declared.error.TextErr.{TextErr}
use Rattle.transcript_text.specs.declared.error.TextErr.TheVariants.{Version, BadLine, Truncated, NoMemory}
use Rattle.transcript_text.specs.declared.reader.Stage.{Stage}
use Rattle.transcript_text.specs.declared.reader.Stage.TheVariants.{Opening, Steps, Whole, Refused}
use Rattle.auction_core.specs.declared.prefix.Prefix.{Prefix}
use Rattle.auction_core.specs.declared.transcript.Transcript.{Transcript}
use Rattle.pack_defs.specs.Steps.{◌>>=◌}
use Rattle.transcript_text.specs.Steps.{Fails, Gives}
use Rattle.transcript_text.specs.Fields.{RemainingLines}
use Rattle.transcript_text.specs.Reading.{transcript_of}
use Rattle.transcript_text.specs.PrefixReading.{goes_on_there, prefix_of, transcript_prefix}
use Rattle.transcript_text.specs.Pieces.{ArePrefixSteps, HasLinesOf, HasRead, IsFaulty, IsStageOnError, ReadSoFar, ReadsOn, ReadersAgree, ReadsToSame, StepsSoFar, comes_there, comes_to, ended_on_error, prefix_ends_or_continues, ends_or_continues, continue_reading, opened_at, whole_reading, prefix_on_error, prefix_of_reading, with_lines}
use Rattle.transcript_text.proofs.Ahead.{begins-from, begins-not, stays-fails, transcript-begins}
use Rattle.transcript_text.proofs.Cuts.{lines-append, lines-stay, whole-append}
use Rattle.transcript_text.proofs.PrefixSteps.{line-not-there, prefix-begins, there-from, version-not-there}
use Rattle.transcript_text.proofs.Stays.{opened-stays}

-- ---- from stage to stage

-- The same reading, with equal lines and an equal result.
read-seen : (sc : Scenario) (book : BookView) (begun : Transcript) (asked lines : RemainingLines) (x y : StepsSoFar) → asked ≡ lines → y ≡ x → ReadsOn sc book begun asked (Ok x) → ReadsOn sc book begun lines (Ok y)
read-seen sc book begun asked lines x y p q read = subst (λ (y : StepsSoFar). ReadsOn sc book begun lines (Ok y)) (sym q) (subst (λ (ls : RemainingLines). ReadsOn sc book begun ls (Ok x)) p read)

there-seen : (sc : Scenario) (book : BookView) (begun : Transcript) (asked lines : RemainingLines) (x y : StepsSoFar) → asked ≡ lines → y ≡ x → ArePrefixSteps sc book begun asked (Ok x) → ArePrefixSteps sc book begun lines (Ok y)
there-seen sc book begun asked lines x y p q there =
    subst (λ (y : StepsSoFar). ArePrefixSteps sc book begun lines (Ok y)) (sym q) (subst (λ (ls : RemainingLines). ArePrefixSteps sc book begun ls (Ok x)) p there)

pub whole-says : (sc : Scenario) (book : BookView) (begun : Transcript) (asked lines : RemainingLines) (x y : StepsSoFar) → asked ≡ lines → y ≡ x → ReadsOn sc book begun asked (Ok x) → ArePrefixSteps sc book begun asked (Ok x) → y.ended ≡ true
    → ReadsToSame sc book (Steps begun) lines (Whole y.begun) y.rest
unfolding comes_to comes_there
whole-says sc book begun asked lines x y p q read there e = record {
  says = λ whole more. read-seen sc book begun asked lines x y p q read whole more ∙ ap (λ (ended : Bool). ends_or_continues sc book ended y.begun whole (with_lines y.rest more)) e;
  there = λ more. there-seen sc book begun asked lines x y p q there more ∙ ap (λ (ended : Bool). prefix_ends_or_continues sc book ended y.begun (with_lines y.rest more)) e;
}

pub steps-say : (sc : Scenario) (book : BookView) (begun : Transcript) (asked lines : RemainingLines) (x y : StepsSoFar) → asked ≡ lines → y ≡ x → ReadsOn sc book begun asked (Ok x) → ArePrefixSteps sc book begun asked (Ok x) → y.ended ≡ false
    → ReadsToSame sc book (Steps begun) lines (Steps y.begun) y.rest
unfolding comes_to comes_there
steps-say sc book begun asked lines x y p q read there e = record {
  says = λ whole more. read-seen sc book begun asked lines x y p q read whole more ∙ ap (λ (ended : Bool). ends_or_continues sc book ended y.begun whole (with_lines y.rest more)) e;
  there = λ more. there-seen sc book begun asked lines x y p q there more ∙ ap (λ (ended : Bool). prefix_ends_or_continues sc book ended y.begun (with_lines y.rest more)) e;
}

refused-says : (sc : Scenario) (book : BookView) (before stage : Stage) (lines : RemainingLines) (why : TextErr) → stage ≡ Refused why
    → ((whole : Bool) (more : List (List ℕ)) → comes_to sc book before whole (with_lines lines more) ≡ Err why) → ((more : List (List ℕ)) → comes_there sc book before (with_lines lines more) ≡ Err why)
    → ReadsToSame sc book before lines stage lines
unfolding comes_to comes_there
refused-says sc book before stage lines why is h k = record {
  says = λ whole more. h whole more ∙ sym (ap (λ (s : Stage). comes_to sc book s whole (with_lines lines more)) is);
  there = λ more. k more ∙ sym (ap (λ (s : Stage). comes_there sc book s (with_lines lines more)) is);
}

stopped-says : (sc : Scenario) (book : BookView) (begun : Transcript) (lines : RemainingLines) (why : TextErr) (stage : Stage) → ReadsOn sc book begun lines (Err why) → ArePrefixSteps sc book begun lines (Err why) → IsStageOnError why (Refused why) stage
    → ReadsToSame sc book (Steps begun) lines stage lines
unfolding comes_to comes_there
stopped-says sc book begun lines Version stage read there is = refused-says sc book (Steps begun) stage lines Version is read there
stopped-says sc book begun lines (BadLine n) stage read there is = refused-says sc book (Steps begun) stage lines (BadLine n) is read there
stopped-says sc book begun lines Truncated stage read there is = refused-says sc book (Steps begun) stage lines Truncated is read there
stopped-says sc book begun lines NoMemory stage read there is = absurd is

pub steps-stopped : (sc : Scenario) (book : BookView) (begun : Transcript) (asked lines : RemainingLines) (why : TextErr) (stage : Stage) → asked ≡ lines → ReadsOn sc book begun asked (Err why) → ArePrefixSteps sc book begun asked (Err why)
    → IsStageOnError why (Refused why) stage → ReadsToSame sc book (Steps begun) lines stage lines
steps-stopped sc book begun asked lines why stage p read there is =
    stopped-says sc book begun lines why stage (subst (λ (ls : RemainingLines). ReadsOn sc book begun ls (Err why)) p read) (subst (λ (ls : RemainingLines). ArePrefixSteps sc book begun ls (Err why)) p there) is

opening-stays : (sc : Scenario) (book : BookView) (lines : RemainingLines) (why : TextErr) (stage : Stage) → Fails why (opened_at sc lines.left) → IsStageOnError why Opening stage → ReadsToSame sc book Opening lines stage lines
unfolding comes_to comes_there
opening-stays sc book lines Version stage h is =
    let never : (more : List (List ℕ)) → opened_at sc (lines.left ++ more) ≡ Err Version = λ more. stays-fails more _ _ Version (opened-stays more sc lines.left) h in
    refused-says sc book Opening stage lines Version is (λ whole more. begins-not sc book lines.left Version whole more (never more)) (λ more. version-not-there sc book lines.left more (never more))
opening-stays sc book lines (BadLine n) stage h is =
    let never : (more : List (List ℕ)) → opened_at sc (lines.left ++ more) ≡ Err (BadLine n) = λ more. stays-fails more _ _ (BadLine n) (opened-stays more sc lines.left) h in
    refused-says sc book Opening stage lines (BadLine n) is (λ whole more. begins-not sc book lines.left (BadLine n) whole more (never more)) (λ more. line-not-there sc book lines.left n more (never more))
opening-stays sc book lines Truncated stage h is = record {
  says = λ whole more. sym (ap (λ (s : Stage). comes_to sc book s whole (with_lines lines more)) is);
  there = λ more. sym (ap (λ (s : Stage). comes_there sc book s (with_lines lines more)) is);
}
opening-stays sc book lines NoMemory stage h is = absurd is

pub opening-stopped : (sc : Scenario) (book : BookView) (asked : List (List ℕ)) (lines : RemainingLines) (why : TextErr) (stage : Stage) → asked ≡ lines.left → Fails why (opened_at sc asked) → IsStageOnError why Opening stage
    → ReadsToSame sc book Opening lines stage lines
opening-stopped sc book asked lines why stage p h is = opening-stays sc book lines why stage (subst (λ (ls : List (List ℕ)). Fails why (opened_at sc ls)) p h) is

pub opening-says : {E : Type 0} (sc : Scenario) (book : BookView) (asked : List (List ℕ)) (lines behind : RemainingLines) (begun : Transcript) (r : Result (Stage × RemainingLines) E) → asked ≡ lines.left → opened_at sc asked ≡ Ok (begun, behind)
    → IfOk r (λ x. ReadsToSame sc book (Steps begun) behind x.0 x.1) → IfOk r (λ x. ReadsToSame sc book Opening lines x.0 x.1)
unfolding comes_to comes_there
opening-says sc book asked lines behind begun (Ok x) p e h =
    let opens : opened_at sc lines.left ≡ Ok (begun, behind) = subst (λ (ls : List (List ℕ)). opened_at sc ls ≡ Ok (begun, behind)) p e in
    record {
      says = λ whole more. begins-from sc book lines.left begun behind whole more opens ∙ h.says whole more;
      there = λ more. there-from sc book lines.left begun behind more opens ∙ h.there more;
    }
opening-says sc book asked lines behind begun (Err e') p e h = tt

-- ---- from bytes to bytes

-- A text in two parts, the first of which ends with a line end.
said-apart : (sc : Scenario) (book : BookView) (read : ReadSoFar) (text part behind : List ℕ) → text ≡ part ++ behind → is_whole part ≡ true
    → whole_reading sc book read text ≡ comes_to sc book read.stage (is_whole behind) (with_lines (record { number = read.number; left = ended_lines part }) (ended_lines behind))
said-apart sc book read text part behind e w =
    ap (λ (bytes : List ℕ). whole_reading sc book read bytes) e
    ∙ ap (λ (b : Bool). comes_to sc book read.stage b (record { number = read.number; left = ended_lines (part ++ behind) })) (whole-append part behind w)
    ∙ ap (λ (ls : List (List ℕ)). comes_to sc book read.stage (is_whole behind) (record { number = read.number; left = ls })) (lines-append part behind w)

there-apart : (sc : Scenario) (book : BookView) (read : ReadSoFar) (text part behind : List ℕ) → text ≡ part ++ behind → is_whole part ≡ true
    → prefix_of_reading sc book read text ≡ comes_there sc book read.stage (with_lines (record { number = read.number; left = ended_lines part }) (ended_lines behind))
there-apart sc book read text part behind e w =
    ap (λ (bytes : List ℕ). prefix_of_reading sc book read bytes) e
    ∙ ap (λ (ls : List (List ℕ)). comes_there sc book read.stage (record { number = read.number; left = ls })) (lines-append part behind w)

said-with : (sc : Scenario) (book : BookView) (read : ReadSoFar) (rest : RemainingLines) (text behind more : List ℕ) → rest ≡ record { number = read.number; left = ended_lines text } → HasLinesOf text behind read.left
    → whole_reading sc book read (read.left ++ more) ≡ comes_to sc book read.stage (is_whole (behind ++ more)) (with_lines rest (ended_lines (behind ++ more)))
said-with sc book read rest text behind more is h =
    ap (λ (b : Bool). comes_to sc book read.stage b (record { number = read.number; left = ended_lines (read.left ++ more) })) (h.end more)
    ∙ ap (λ (ls : List (List ℕ)). comes_to sc book read.stage (is_whole (behind ++ more)) (record { number = read.number; left = ls })) (h.lines more)
    ∙ sym (ap (λ (ls : RemainingLines). comes_to sc book read.stage (is_whole (behind ++ more)) (with_lines ls (ended_lines (behind ++ more)))) is)

there-of-with : (sc : Scenario) (book : BookView) (read : ReadSoFar) (rest : RemainingLines) (text behind more : List ℕ) → rest ≡ record { number = read.number; left = ended_lines text } → HasLinesOf text behind read.left
    → prefix_of_reading sc book read (read.left ++ more) ≡ comes_there sc book read.stage (with_lines rest (ended_lines (behind ++ more)))
there-of-with sc book read rest text behind more is h =
    ap (λ (ls : List (List ℕ)). comes_there sc book read.stage (record { number = read.number; left = ls })) (h.lines more)
    ∙ sym (ap (λ (ls : RemainingLines). comes_there sc book read.stage (with_lines ls (ended_lines (behind ++ more)))) is)

pub reads-same : (sc : Scenario) (book : BookView) (old new : ReadSoFar) (lines rest : RemainingLines) (part text : List ℕ) → part ≡ take (length part) old.left → is_whole part ≡ true
    → lines ≡ record { number = old.number; left = ended_lines part } → ReadsToSame sc book old.stage lines new.stage rest → rest ≡ record { number = new.number; left = ended_lines text }
    → HasLinesOf text (drop (length part) old.left) new.left → ReadersAgree sc book old new
reads-same sc book old new lines rest part text front w are same is kept =
    let behind : List ℕ = drop (length part) old.left in
    let apart : (more : List ℕ) → old.left ++ more ≡ part ++ (behind ++ more) = λ more.
    ap (λ (bytes : List ℕ). bytes ++ more) (sym (take-append-drop (length part) old.left) ∙ ap (λ (bytes : List ℕ). bytes ++ behind) (sym front)) ∙ append_assoc part behind more in
    record {
      says = λ more.
          said-apart sc book old (old.left ++ more) part (behind ++ more) (apart more) w
          ∙ sym (ap (λ (ls : RemainingLines). comes_to sc book old.stage (is_whole (behind ++ more)) (with_lines ls (ended_lines (behind ++ more)))) are)
          ∙ same.says (is_whole (behind ++ more)) (ended_lines (behind ++ more))
          ∙ sym (said-with sc book new rest text behind more is kept);
      there = λ more.
          there-apart sc book old (old.left ++ more) part (behind ++ more) (apart more) w
          ∙ sym (ap (λ (ls : RemainingLines). comes_there sc book old.stage (with_lines ls (ended_lines (behind ++ more)))) are)
          ∙ same.there (ended_lines (behind ++ more))
          ∙ sym (there-of-with sc book new rest text behind more is kept);
    }

refused-said : (sc : Scenario) (book : BookView) (read : ReadSoFar) (why : TextErr) (bytes : List ℕ) → read.stage ≡ Refused why → whole_reading sc book read bytes ≡ Err why
unfolding comes_to
refused-said sc book read why bytes is = ap (λ (s : Stage). comes_to sc book s (is_whole bytes) (record { number = read.number; left = ended_lines bytes })) is

refused-there : (sc : Scenario) (book : BookView) (read : ReadSoFar) (why : TextErr) (bytes : List ℕ) → read.stage ≡ Refused why → prefix_of_reading sc book read bytes ≡ Err why
unfolding comes_there
refused-there sc book read why bytes is = ap (λ (s : Stage). comes_there sc book s (record { number = read.number; left = ended_lines bytes })) is

pub refused-faulty : (sc : Scenario) (book : BookView) (read : ReadSoFar) (why : TextErr) → read.stage ≡ Refused why → IsFaulty sc book read why
refused-faulty sc book read why is = record {
  says = λ more. refused-said sc book read why (read.left ++ more) is;
  there = λ more. refused-there sc book read why (read.left ++ more) is;
}

-- A line after the `end` line is invalid, whatever follows it.
pub behind-faulty : (sc : Scenario) (book : BookView) (read : ReadSoFar) (t : Transcript) (line : List ℕ) (lines : List (List ℕ)) → read.stage ≡ Whole t → ended_lines read.left ≡ line ∷ lines → IsFaulty sc book read (BadLine read.number)
unfolding comes_to comes_there
behind-faulty sc book read t line lines is some =
    let still : (more : List ℕ) → is_empty (ended_lines (read.left ++ more)) ≡ false = λ more. lines-stay read.left more (ap is_empty some) in
    record {
      says = λ more.
          ap (λ (s : Stage). comes_to sc book s (is_whole (read.left ++ more)) (record { number = read.number; left = ended_lines (read.left ++ more) })) is
          ∙ ap (λ (b : Bool). (if b && is_whole (read.left ++ more) then Ok tt else Err (BadLine read.number)) >>= λ u. Ok t) (still more);
      there = λ more.
          ap (λ (s : Stage). comes_there sc book s (record { number = read.number; left = ended_lines (read.left ++ more) })) is
          ∙ ap (λ (b : Bool). (if b && true then Ok tt else Err (BadLine read.number)) >>= λ u. Ok (transcript_prefix t true)) (still more);
    }

-- ---- the reader

pub has-none : (sc : Scenario) (book : BookView) (read : ReadSoFar) → read.stage ≡ Opening → read.left ≡ [] → HasRead sc book [] read
unfolding comes_to comes_there
has-none sc book read is empty = record {
  says = λ more. transcript-begins sc book more
      ∙ sym (ap (λ (s : Stage). comes_to sc book s (is_whole more) (record { number = read.number; left = ended_lines more })) is)
      ∙ sym (ap (λ (left : List ℕ). whole_reading sc book read (left ++ more)) empty);
  there = λ more. prefix-begins sc book more
      ∙ sym (ap (λ (s : Stage). comes_there sc book s (record { number = read.number; left = ended_lines more })) is)
      ∙ sym (ap (λ (left : List ℕ). prefix_of_reading sc book read (left ++ more)) empty);
}

pub has-piece : (sc : Scenario) (book : BookView) (bytes piece : List ℕ) (old new : ReadSoFar) → HasRead sc book bytes old → new ≡ record { stage = old.stage; number = old.number; left = old.left ++ piece } → HasRead sc book (bytes ++ piece) new
has-piece sc book bytes piece old new h is = subst (λ (read : ReadSoFar). HasRead sc book (bytes ++ piece) read) (sym is) (record {
  says = λ more. ap (transcript_of sc book) (append_assoc bytes piece more) ∙ h.says (piece ++ more) ∙ sym (ap (whole_reading sc book old) (append_assoc old.left piece more));
  there = λ more. ap (prefix_of sc book) (append_assoc bytes piece more) ∙ h.there (piece ++ more) ∙ sym (ap (prefix_of_reading sc book old) (append_assoc old.left piece more));
})

pub has-same : (sc : Scenario) (book : BookView) (bytes : List ℕ) (old new : ReadSoFar) → HasRead sc book bytes old → ReadersAgree sc book old new → HasRead sc book bytes new
has-same sc book bytes old new h same = record { says = λ more. h.says more ∙ same.says more; there = λ more. h.there more ∙ same.there more }

pub has-fault : (sc : Scenario) (book : BookView) (bytes : List ℕ) (old new : ReadSoFar) (why : TextErr) → HasRead sc book bytes old → IsFaulty sc book old why → new.stage ≡ Refused why → HasRead sc book bytes new
has-fault sc book bytes old new why h fault is = record {
  says = λ more. h.says more ∙ fault.says more ∙ sym (refused-said sc book new why (new.left ++ more) is);
  there = λ more. h.there more ∙ fault.there more ∙ sym (refused-there sc book new why (new.left ++ more) is);
}

-- ---- `finish`

says-all : (sc : Scenario) (book : BookView) (bytes : List ℕ) (read : ReadSoFar) (stage : Stage) → HasRead sc book bytes read → read.stage ≡ stage
    → transcript_of sc book bytes ≡ comes_to sc book stage (is_whole read.left) (record { number = read.number; left = ended_lines read.left })
says-all sc book bytes read stage h is =
    ap (transcript_of sc book) (sym (append-nil bytes)) ∙ h.says [] ∙ ap (whole_reading sc book read) (append-nil read.left)
    ∙ ap (λ (s : Stage). comes_to sc book s (is_whole read.left) (record { number = read.number; left = ended_lines read.left })) is

err-fails : {A : Type 0} (r : Result A TextErr) (why : TextErr) → r ≡ Err why → Fails why r
err-fails r Version e = e
err-fails r (BadLine n) e = e
err-fails r Truncated e = e
err-fails r NoMemory e = tt

says-now : (sc : Scenario) (book : BookView) (bytes : List ℕ) (read : ReadSoFar) (stage : Stage) (whole : Bool) (lines : RemainingLines) (text again : List ℕ) → HasRead sc book bytes read → read.stage ≡ stage
    → lines ≡ record { number = read.number; left = ended_lines text } → text ≡ read.left → whole ≡ is_whole again → again ≡ read.left → transcript_of sc book bytes ≡ comes_to sc book stage whole lines
says-now sc book bytes read stage whole lines text again h is l t w a =
    says-all sc book bytes read stage h is
    ∙ ap (λ (b : Bool). comes_to sc book stage b (record { number = read.number; left = ended_lines read.left })) (sym (w ∙ ap is_whole a))
    ∙ ap (λ (ls : RemainingLines). comes_to sc book stage whole ls) (sym (l ∙ ap (λ (xs : List ℕ). record { number = read.number; left = ended_lines xs }) t))

pub opening-ends : (sc : Scenario) (book : BookView) (bytes text : List ℕ) (read : ReadSoFar) (result : Result Transcript TextErr) → HasRead sc book bytes read → read.stage ≡ Opening → text ≡ read.left
    → Gives (λ (t : Transcript). t) (transcript_of sc book text) result → Gives (λ (t : Transcript). t) (transcript_of sc book bytes) result
unfolding comes_to
opening-ends sc book bytes text read result h is t =
    subst (λ (r : Result Transcript TextErr). Gives (λ (t : Transcript). t) r result) (ap (transcript_of sc book) t ∙ transcript-begins sc book read.left ∙ sym (says-all sc book bytes read Opening h is))

pub steps-end-so : (sc : Scenario) (book : BookView) (bytes : List ℕ) (read : ReadSoFar) (begun : Transcript) (whole : Bool) (lines : RemainingLines) (text again : List ℕ) (result : Result Transcript TextErr) → HasRead sc book bytes read
    → read.stage ≡ Steps begun → lines ≡ record { number = read.number; left = ended_lines text } → text ≡ read.left → whole ≡ is_whole again → again ≡ read.left
    → Gives (λ (t : Transcript). t) (continue_reading sc book begun whole lines) result → Gives (λ (t : Transcript). t) (transcript_of sc book bytes) result
unfolding comes_to
steps-end-so sc book bytes read begun whole lines text again result h is l t w a =
    subst (λ (r : Result Transcript TextErr). Gives (λ (t : Transcript). t) r result) (sym (says-now sc book bytes read (Steps begun) whole lines text again h is l t w a))

pub whole-ends : (sc : Scenario) (book : BookView) (bytes : List ℕ) (read : ReadSoFar) (begun : Transcript) (whole : Bool) (lines : RemainingLines) (text again : List ℕ) (result : Result Transcript TextErr) → HasRead sc book bytes read
    → read.stage ≡ Whole begun → lines ≡ record { number = read.number; left = ended_lines text } → text ≡ read.left → whole ≡ is_whole again → again ≡ read.left
    → Gives (λ (t : Transcript). t) (ended_on_error whole (record { begun = begun; rest = lines; ended = true })) result → Gives (λ (t : Transcript). t) (transcript_of sc book bytes) result
unfolding comes_to ended_on_error
whole-ends sc book bytes read begun whole lines text again result h is l t w a =
    subst (λ (r : Result Transcript TextErr). Gives (λ (t : Transcript). t) r result) (sym (says-now sc book bytes read (Whole begun) whole lines text again h is l t w a))

pub refused-ends : (sc : Scenario) (book : BookView) (bytes : List ℕ) (read : ReadSoFar) (why : TextErr) → HasRead sc book bytes read → read.stage ≡ Refused why → Fails why (transcript_of sc book bytes)
unfolding comes_to
refused-ends sc book bytes read why h is = err-fails (transcript_of sc book bytes) why (says-all sc book bytes read (Refused why) h is)

-- ---- `finish_prefix`

there-all : (sc : Scenario) (book : BookView) (bytes : List ℕ) (read : ReadSoFar) (stage : Stage) → HasRead sc book bytes read → read.stage ≡ stage
    → prefix_of sc book bytes ≡ comes_there sc book stage (record { number = read.number; left = ended_lines read.left })
there-all sc book bytes read stage h is =
    ap (prefix_of sc book) (sym (append-nil bytes)) ∙ h.there [] ∙ ap (prefix_of_reading sc book read) (append-nil read.left)
    ∙ ap (λ (s : Stage). comes_there sc book s (record { number = read.number; left = ended_lines read.left })) is

there-now : (sc : Scenario) (book : BookView) (bytes : List ℕ) (read : ReadSoFar) (stage : Stage) (lines : RemainingLines) (text : List ℕ) → HasRead sc book bytes read → read.stage ≡ stage
    → lines ≡ record { number = read.number; left = ended_lines text } → text ≡ read.left → prefix_of sc book bytes ≡ comes_there sc book stage lines
there-now sc book bytes read stage lines text h is l t =
    there-all sc book bytes read stage h is ∙ ap (λ (ls : RemainingLines). comes_there sc book stage ls) (sym (l ∙ ap (λ (xs : List ℕ). record { number = read.number; left = ended_lines xs }) t))

pub opening-there : (sc : Scenario) (book : BookView) (bytes text : List ℕ) (read : ReadSoFar) (result : Result Prefix TextErr) → HasRead sc book bytes read → read.stage ≡ Opening → text ≡ read.left
    → Gives (λ (p : Prefix). p) (prefix_of sc book text) result → Gives (λ (p : Prefix). p) (prefix_of sc book bytes) result
unfolding comes_there
opening-there sc book bytes text read result h is t =
    subst (λ (r : Result Prefix TextErr). Gives (λ (p : Prefix). p) r result) (ap (prefix_of sc book) t ∙ prefix-begins sc book read.left ∙ sym (there-all sc book bytes read Opening h is))

pub steps-are-there : (sc : Scenario) (book : BookView) (bytes : List ℕ) (read : ReadSoFar) (begun : Transcript) (lines : RemainingLines) (text : List ℕ) (result : Result Prefix TextErr) → HasRead sc book bytes read
    → read.stage ≡ Steps begun → lines ≡ record { number = read.number; left = ended_lines text } → text ≡ read.left
    → Gives (λ (p : Prefix). p) (goes_on_there sc book begun lines) result → Gives (λ (p : Prefix). p) (prefix_of sc book bytes) result
unfolding comes_there
steps-are-there sc book bytes read begun lines text result h is l t =
    subst (λ (r : Result Prefix TextErr). Gives (λ (p : Prefix). p) r result) (sym (there-now sc book bytes read (Steps begun) lines text h is l t))

pub whole-there : (sc : Scenario) (book : BookView) (bytes : List ℕ) (read : ReadSoFar) (begun : Transcript) (lines : RemainingLines) (text : List ℕ) (result : Result Prefix TextErr) → HasRead sc book bytes read
    → read.stage ≡ Whole begun → lines ≡ record { number = read.number; left = ended_lines text } → text ≡ read.left
    → Gives (λ (p : Prefix). p) (prefix_on_error (record { begun = begun; rest = lines; ended = true })) result → Gives (λ (p : Prefix). p) (prefix_of sc book bytes) result
unfolding comes_there prefix_on_error
whole-there sc book bytes read begun lines text result h is l t =
    subst (λ (r : Result Prefix TextErr). Gives (λ (p : Prefix). p) r result) (sym (there-now sc book bytes read (Whole begun) lines text h is l t))

pub refused-not-there : (sc : Scenario) (book : BookView) (bytes : List ℕ) (read : ReadSoFar) (why : TextErr) → HasRead sc book bytes read → read.stage ≡ Refused why → Fails why (prefix_of sc book bytes)
unfolding comes_there
refused-not-there sc book bytes read why h is = err-fails (prefix_of sc book bytes) why (there-all sc book bytes read (Refused why) h is)
