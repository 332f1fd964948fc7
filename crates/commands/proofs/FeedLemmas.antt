-- A reader that is fed a file piece by piece: the pieces that it got and what is left are the file.
use Rattle.std.proofs.Common.{◌≡◌, ◌∙◌, ◌<◌, ◌++◌, ◌∷◌, [], ℕ, zero, suc, List, Bool, Option, Some, Result, Ok, Err, take, drop, length, refl, sym, ap, subst, arith, append_assoc}
use Rattle.std.proofs.lemmas.List.{append-nil, take-append-drop}
use Rattle.outside_io.specs.Pieces.{piece_size}
use Rattle.constraint_files.specs.Reads.{Reads}
use Rattle.constraint_files.specs.declared.error.ReadErr.{ReadErr}
use Rattle.constraint_files.specs.declared.error.ReadErr.TheVariants.{Row, NoMemory as NoRoom}
use Rattle.command_words.specs.declared.run_words.Input.{Input}
use Rattle.commands.specs.declared.inputs.input_file.Stop.{Stop}
use Rattle.commands.specs.declared.inputs.input_file.Stop.TheVariants.{CannotRead, Refused, NoMemory}
use Rattle.commands.specs.Inputs.{Agrees, and_then, refused_by, rows_read}
use Rattle.commands.specs.Constraints.{IsFed, IsHandedOut}

-- Whether the bytes fed since the start, and the bytes left, are those fed and left at the start.
pub record IsFeeding {R : Type 0} (fed : List ℕ → Result R ReadErr) (before left : Option (List ℕ)) (start reader : R) : Type 0 where
  pub so_far : (done rest : List ℕ) → before ≡ Some rest → fed done ≡ Ok start → (d : List ℕ) × (r : List ℕ) × (left ≡ Some r) × (fed d ≡ Ok reader) × (d ++ r ≡ done ++ rest)

-- A piece and the bytes after it are what was left before it.
piece-joins : (d r all piece : List ℕ) → d ++ r ≡ all → piece ≡ take piece_size r → (d ++ piece) ++ drop piece_size r ≡ all
piece-joins d r all piece whole is =
    append_assoc d piece (drop piece_size r) ∙ ap (λ p. d ++ (p ++ drop piece_size r)) is ∙ ap (λ p. d ++ p) (take-append-drop piece_size r) ∙ whole

pub feed-step : {R : Type 0} (fed : List ℕ → Result R ReadErr) (before left after : Option (List ℕ)) (piece : List ℕ) (start reader more : R) → IsFeeding fed before left start reader
    → ((rest : List ℕ) → left ≡ Some rest → (piece ≡ take piece_size rest) × (after ≡ Some (drop piece_size rest)))
    → ((bytes : List ℕ) → fed bytes ≡ Ok reader → fed (bytes ++ piece) ≡ Ok more) → IsFeeding fed before after start more
feed-step fed before left after piece start reader more h handed feeds = record {
  so_far = λ done rest e f.
      let (d, r, is-left, had, whole) = h.so_far done rest e f in
      let (is, others) = handed r is-left in
      (d ++ piece, drop piece_size r, others, feeds d had, piece-joins d r (done ++ rest) piece whole is);
}

none-left : (n : ℕ) (r piece : List ℕ) → 0 < n → piece ≡ take n r → length piece ≡ 0 → r ≡ []
none-left zero r piece some is none = absurd (omega arith)
none-left (suc n) [] piece some is none = refl
none-left (suc n) (x ∷ xs) piece some is none =
    let long : length piece ≡ suc (length (take n xs)) = ap length is in
    absurd (omega (arith, long, none))

-- A piece without bytes means that all was fed.
pub feed-end : {R : Type 0} (fed : List ℕ → Result R ReadErr) (before left after : Option (List ℕ)) (piece : List ℕ) (start reader : R) → IsFeeding fed before left start reader
    → ((rest : List ℕ) → left ≡ Some rest → (piece ≡ take piece_size rest) × (after ≡ Some (drop piece_size rest))) → length piece ≡ 0
    → (done rest : List ℕ) → before ≡ Some rest → fed done ≡ Ok start → fed (done ++ rest) ≡ Ok reader
feed-end fed before left after piece start reader h handed none done rest e f =
    let (d, r, is-left, had, whole) = h.so_far done rest e f in
    let (is, others) = handed r is-left in
    let all : d ≡ done ++ rest = sym (append-nil d) ∙ ap (λ p. d ++ p) (sym (none-left piece_size r piece (omega arith) is none)) ∙ whole in
    subst (λ bytes. fed bytes ≡ Ok reader) all had

-- If a piece is not returned, the feeding stops.
pub feed-fails : {R A : Type 0} (fed : List ℕ → Result R ReadErr) (held : List ℕ → Result A Stop) (before left after : Option (List ℕ)) (piece : List ℕ) (start reader : R) (steady : Bool) (why : Stop) → IsFeeding fed before left start reader
    → ((rest : List ℕ) → left ≡ Some rest → IsHandedOut steady rest after piece (Err why))
    → (done rest : List ℕ) → before ≡ Some rest → fed done ≡ Ok start → IsFed steady (fed (done ++ rest)) (held (done ++ rest)) (Err why)
feed-fails fed held before left after piece start reader steady (CannotRead i) h handed done rest e f =
    let (d, r, is-left, had, whole) = h.so_far done rest e f in
    handed r is-left
feed-fails fed held before left after piece start reader steady (Refused w) h handed done rest e f =
    let (d, r, is-left, had, whole) = h.so_far done rest e f in
    absurd (handed r is-left)
feed-fails fed held before left after piece start reader steady NoMemory h handed done rest e f = tt

-- If the bytes so far are rejected, the complete file is.
pub feed-refused : {R A : Type 0} (fed : List ℕ → Result R ReadErr) (read : List ℕ → Result A ReadErr) (input : Input) (before left after : Option (List ℕ)) (piece : List ℕ) (start reader : R) (steady : Bool) (why : ReadErr)
    → ((xs ys : List ℕ) (e : ReadErr) → fed xs ≡ Err e → read (xs ++ ys) ≡ Err e) → IsFeeding fed before left start reader
    → ((rest : List ℕ) → left ≡ Some rest → (piece ≡ take piece_size rest) × (after ≡ Some (drop piece_size rest)))
    → ((bytes : List ℕ) → fed bytes ≡ Ok reader → Reads (fed (bytes ++ piece)) (Err why))
    → (done rest : List ℕ) → before ≡ Some rest → fed done ≡ Ok start → IsFed steady (fed (done ++ rest)) (rows_read input (read (done ++ rest))) (Err (refused_by input why))
feed-refused fed read input before left after piece start reader steady (Row line w) stops h handed refused done rest e f =
    let (d, r, is-left, had, whole) = h.so_far done rest e f in
    let (is, others) = handed r is-left in
    let all = piece-joins d r (done ++ rest) piece whole is in
    ap (rows_read input) (subst (λ bytes. read bytes ≡ Err (Row line w)) all (stops (d ++ piece) (drop piece_size r) (Row line w) (refused d had)))
feed-refused fed read input before left after piece start reader steady NoRoom stops h handed refused done rest e f = tt

-- ---- a file whose bytes were fed

pub stops-so : {R A : Type 0} (steady : Bool) (fed : Result R ReadErr) (held : Result A Stop) (why : Stop) → IsFed steady fed held (Err why) → Agrees (λ (x : A). x) steady held (Err why)
stops-so steady fed held (CannotRead i) h = λ s. absurd (h s)
stops-so steady fed held (Refused w) h = h
stops-so steady fed held NoMemory h = tt

pub refused-so : {A : Type 0} (steady : Bool) (input : Input) (read : Result A ReadErr) (why : ReadErr) → Reads read (Err why) → Agrees (λ (x : A). x) steady (rows_read input read) (Err (refused_by input why))
refused-so steady input read (Row line w) h = ap (rows_read input) h
refused-so steady input read NoRoom h = tt

-- The error of a file with these bytes.
pub from-fails : {R A : Type 0} (steady now_steady : Bool) (held : Result (List ℕ) Stop) (read : List ℕ → Result A Stop) (bytes : List ℕ) (fed : Result R ReadErr) (why : Stop) → now_steady ≡ steady → held ≡ Ok bytes
    → IsFed now_steady fed (read bytes) (Err why) → Agrees (λ (x : A). x) steady (and_then held read) (Err why)
from-fails {A = A} steady now_steady held read bytes fed why same e h =
    subst (λ s. Agrees (λ (x : A). x) s (and_then held read) (Err why)) same
    (subst (λ o. Agrees (λ (x : A). x) now_steady (and_then o read) (Err why)) (sym e) (stops-so now_steady fed (read bytes) why h))

pub from-refused : {A : Type 0} (steady : Bool) (input : Input) (held : Result (List ℕ) Stop) (read : List ℕ → Result A ReadErr) (bytes : List ℕ) (why : ReadErr) (stop : Stop) → stop ≡ refused_by input why → held ≡ Ok bytes
    → Reads (read bytes) (Err why) → Agrees (λ (x : A). x) steady (and_then held (λ b. rows_read input (read b))) (Err stop)
from-refused {A = A} steady input held read bytes why stop is e h =
    subst (λ w. Agrees (λ (x : A). x) steady (and_then held (λ b. rows_read input (read b))) (Err w)) (sym is)
    (subst (λ o. Agrees (λ (x : A). x) steady (and_then o (λ b. rows_read input (read b))) (Err (refused_by input why))) (sym e) (refused-so steady input (read bytes) why h))

pub from-ok : {A : Type 0} (input : Input) (held : Result (List ℕ) Stop) (read : List ℕ → Result A ReadErr) (bytes : List ℕ) (x : A) → held ≡ Ok bytes → read bytes ≡ Ok x → and_then held (λ b. rows_read input (read b)) ≡ Ok x
from-ok input held read bytes x e h = ap (λ o. and_then o (λ b. rows_read input (read b))) e ∙ ap (rows_read input) h
