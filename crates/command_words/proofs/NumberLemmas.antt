-- The number that a text is, from the result of parsing it; and the bounds of the numbers on the command line.
use Rattle.std.proofs.Common.{◌≡◌, ◌<◌, ◌≤◌, ◌⊎◌, ◌∙◌, ◌^◌, ℕ, Bool, true, false, inl, inr, List, Option, Some, None, if◌then◌else◌, refl, sym, ap, subst, arith}
use Rattle.std.specs.Prelude.{MatchOption, Result, Ok, Err, codes, option_and_then, option_map, ⊤}
use Rattle.std.specs.Str.{bytes_eq}
use Rattle.std.specs.Str.Parse.{ParsesUnsigned, digits_value, without_leading_plus}
use Rattle.std.proofs.lemmas.Bool.{cases_Bool}
use Rattle.clap.specs.Words.{IsUnsignedIn, Row, Text, fault_of, first_of, subcommand_of}
use Rattle.clap.specs.Walk.{is_empty}
use Rattle.clap.specs.ValueTests.{is_unsigned_in}
use Rattle.clap.specs.declared.builder.value_parser.ValueParser.TheVariants.{Unsigned}
use Rattle.clap.proofs.ValueTestLemmas.{Accepts-accepts, accepts-Accepts}
use Rattle.command_words.specs.Words.{Command, run, check, verify, resume, seek, batch, make, export, import, ExportNames, ImportNames, InputNames, MakeNames, ResumeNames, RunNames, VerifyNames, batch_names, command_of, export_names, import_names, input_names, live_names, make_names, named_command, number_within, program_app, resume_names, run_names, seed_limit, seek_names, size_limit, step_limit, step_named, verify_live_names, verify_names, given_value, show, show_names}

number-in : (least most : ℕ) (text : List ℕ) → IsUnsignedIn least most text → number_within least most text ≡ Some (digits_value 10 (without_leading_plus text))
number-in least most text h =
    ap (λ b. if b then Some (digits_value 10 (without_leading_plus text)) else None) (Accepts-accepts false (Unsigned least most) text h)

number-out : (least most : ℕ) (text : List ℕ) → (IsUnsignedIn least most text → ⊥) → number_within least most text ≡ None
number-out least most text out = elim (cases_Bool (is_unsigned_in least most text)) [
  | inl inside ↦ absurd (out (accepts-Accepts false (Unsigned least most) text inside))
  | inr beyond ↦ ap (λ b. if b then Some (digits_value 10 (without_leading_plus text)) else None) beyond
]

number-bounds : (least most n : ℕ) (text : List ℕ) → number_within least most text ≡ Some n → (least ≤ n) × (n ≤ most)
number-bounds least most n text is = elim (cases_Bool (is_unsigned_in least most text)) [
  | inl inside ↦
      let h = accepts-Accepts false (Unsigned least most) text inside in
      let same : digits_value 10 (without_leading_plus text) ≡ n = cc (sym (number-in least most text h) ∙ is) in
      (subst (λ z. least ≤ z) same h.2, subst (λ z. z ≤ most) same h.3)
  | inr beyond ↦
      let none : number_within least most text ≡ None = ap (λ b. if b then Some (digits_value 10 (without_leading_plus text)) else None) beyond in
      cc (sym none ∙ is)
]

-- ---- from the result of parsing

pub parsed-in : {E : Type 0} (k least most n : ℕ) (text : List ℕ) (r : Result ℕ E) → ParsesUnsigned k 10 text r → r ≡ Ok n → n < 2 ^ 64 → least ≤ n → n ≤ most → Some n ≡ number_within least most text
parsed-in k least most n text (Ok x) p is small low high =
    let own : x ≡ n = cc in
    let same : n ≡ digits_value 10 (without_leading_plus text) = sym own ∙ p.1 in
    ap Some same ∙ sym (number-in least most text (p.0.0, subst (λ z. z < 2 ^ 64) same small, subst (λ z. least ≤ z) same low, subst (λ z. z ≤ most) same high))
parsed-in k least most n text (Err e) p is small low high = cc

pub parsed-out : {E : Type 0} (k least most n : ℕ) (text : List ℕ) (r : Result ℕ E) → ParsesUnsigned k 10 text r → r ≡ Ok n → (n < least) ⊎ (most < n) → None ≡ number_within least most text
parsed-out k least most n text (Ok x) p is out =
    let own : x ≡ n = cc in
    let same : digits_value 10 (without_leading_plus text) ≡ n = sym p.1 ∙ own in
    sym (number-out least most text (λ h. apart (subst (λ z. least ≤ z) same h.2) (subst (λ z. z ≤ most) same h.3) out))
  where
    apart : least ≤ n → n ≤ most → (n < least) ⊎ (most < n) → ⊥
    apart low high (inl less) = omega arith
    apart low high (inr more) = omega arith
parsed-out k least most n text (Err e) p is out = cc

pub unparsed : {E : Type 0} (k least most : ℕ) (text : List ℕ) (r : Result ℕ E) (e : E) → ParsesUnsigned k 10 text r → r ≡ Err e → most < 2 ^ k → None ≡ number_within least most text
unparsed k least most text (Ok x) e p is room = cc
unparsed k least most text (Err x) e p is room =
    sym (number-out least most text (λ h. p (h.0, below (digits_value 10 (without_leading_plus text)) (2 ^ k) h.3 room)))
  where
    below : (v top : ℕ) → v ≤ most → most < top → v < top
    below v top high more = omega arith

pub parsed-fits : {E : Type 0} (k n : ℕ) (text : List ℕ) (r : Result ℕ E) → ParsesUnsigned k 10 text r → r ≡ Ok n → n < 2 ^ k
parsed-fits k n text (Ok x) p is =
    let own : x ≡ n = cc in
    subst (λ z. z < 2 ^ k) (sym p.1 ∙ own) p.0.1
parsed-fits k n text (Err e) p is = cc

-- ---- the numbers on the command line

within-bounds : (most : ℕ) (text : Option Text) (n : ℕ) → option_and_then (number_within 1 most) text ≡ Some n → (1 ≤ n) × (n ≤ most)
within-bounds most (Some text) n is = number-bounds 1 most n text is
within-bounds most None n is = cc

-- the size or step of a command is within its bounds; `import` and `resume` have no owners' file
abbrev IsBounded : Command → Type 0
IsBounded (run names) = ⊤
IsBounded (check names) = ⊤
IsBounded (verify names) = ⊤
IsBounded (show names) = ⊤
IsBounded (resume names) = names.run_files.inputs.owners ≡ None
IsBounded (seek names) = ⊤
IsBounded (batch names) = ⊤
IsBounded (make names) = (1 ≤ names.size) × (names.size ≤ size_limit)
IsBounded (export names) = (1 ≤ names.step) × (names.step ≤ step_limit)
IsBounded (import names) = ((1 ≤ names.step) × (names.step ≤ step_limit)) × (names.shown.inputs.owners ≡ None)

then-all : {A B : Type 0} (P : B → Type 0) (f : A → Option B) (o : Option A) → ((x : A) → o ≡ Some x → MatchOption (f x) ⊤ P) → MatchOption (option_and_then f o) ⊤ P
then-all P f (Some x) h = h x refl
then-all P f None h = tt

map-all : {A : Type 0} (P : Command → Type 0) (f : A → Command) (o : Option A) → MatchOption o ⊤ (λ x. P (f x)) → MatchOption (option_map f o) ⊤ P
map-all P f (Some x) h = h
map-all P f None h = tt

if-all : (P : Command → Type 0) (b : Bool) (x y : Option Command) → MatchOption x ⊤ P → MatchOption y ⊤ P → MatchOption (if b then x else y) ⊤ P
if-all P true x y h k = h
if-all P false x y h k = k

-- a fact that holds of each value holds of an option
each : {A : Type 0} (P : A → Type 0) (o : Option A) → ((x : A) → P x) → MatchOption o ⊤ P
each P (Some x) h = h x
each P None h = tt

make-bounded : (rows : List Row) → MatchOption (make_names rows) ⊤ (λ names. IsBounded (make names))
make-bounded rows =
    then-all _ _ (given_value rows (codes "SEED") (number_within 0 seed_limit)) (λ seed seed_is.
    then-all _ _ (given_value rows (codes "SIZE") (number_within 1 size_limit)) (λ size size_is.
    then-all _ _ (input_names rows) (λ outputs outputs_are. within-bounds size_limit (first_of (codes "SIZE") rows) size size_is)))

export-bounded : (rows : List Row) → MatchOption (export_names rows) ⊤ (λ names. IsBounded (export names))
export-bounded rows =
    then-all _ _ (verify_names rows) (λ shown shown_are.
    then-all _ _ (step_named rows) (λ step step_is.
    then-all _ _ (first_of (codes "CNF") rows) (λ formula formula_is. within-bounds step_limit (first_of (codes "STEP") rows) step step_is)))

-- without an argument for it, no owners' file is named
input-valued : (rows : List Row) → MatchOption (input_names rows) ⊤ (λ names. names.owners ≡ None)
input-valued rows =
    then-all _ _ (first_of (codes "DOMAINS") rows) (λ domains domains_are.
    then-all _ _ (first_of (codes "ROWS") rows) (λ pairs pairs_are.
    then-all _ _ (first_of (codes "SCENARIO") rows) (λ scenario scenario_is. refl)))

shown-valued : (rows : List Row) → MatchOption (verify_names rows) ⊤ (λ names. names.inputs.owners ≡ None)
shown-valued rows =
    then-all _ _ (input_names rows) (λ inputs inputs_are.
    then-all _ _ (first_of (codes "TRANSCRIPT") rows) (λ transcript transcript_is. subst (λ o. MatchOption o ⊤ (λ (names : InputNames). names.owners ≡ None)) inputs_are (input-valued rows)))

ran-valued : (rows : List Row) → MatchOption (option_and_then (run_names rows) (input_names rows)) ⊤ (λ names. names.inputs.owners ≡ None)
ran-valued rows =
    then-all _ _ (input_names rows) (λ inputs inputs_are.
    then-all _ _ (first_of (codes "RESULT") rows) (λ result result_is.
    then-all _ _ (first_of (codes "CHANNELS") rows) (λ channels channels_is.
    then-all _ _ (first_of (codes "TRANSCRIPT") rows) (λ transcript transcript_is. subst (λ o. MatchOption o ⊤ (λ (names : InputNames). names.owners ≡ None)) inputs_are (input-valued rows)))))

resume-bounded : (rows : List Row) → MatchOption (resume_names rows) ⊤ (λ names. IsBounded (resume names))
resume-bounded rows =
    then-all _ _ (option_and_then (run_names rows) (input_names rows)) (λ run_files files_are.
    then-all _ _ (first_of (codes "PREFIX") rows) (λ prefix prefix_is. subst (λ o. MatchOption o ⊤ (λ (names : RunNames). names.inputs.owners ≡ None)) files_are (ran-valued rows)))

import-bounded : (rows : List Row) → MatchOption (import_names rows) ⊤ (λ names. IsBounded (import names))
import-bounded rows =
    then-all _ _ (verify_names rows) (λ shown shown_are.
    then-all _ _ (step_named rows) (λ step step_is.
    then-all _ _ (first_of (codes "LRAT") rows) (λ proof proof_is.
    then-all _ _ (first_of (codes "RESULT") rows) (λ result result_is.
    then-all _ _ (first_of (codes "NEWTRANSCRIPT") rows) (λ transcript transcript_is. (
      within-bounds step_limit (first_of (codes "STEP") rows) step step_is,
      subst (λ o. MatchOption o ⊤ (λ (names : VerifyNames). names.inputs.owners ≡ None)) shown_are (shown-valued rows),
    ))))))

found-bounded : (found : Text × List Row) → MatchOption (named_command found) ⊤ IsBounded
found-bounded found =
    let rows = found.1 in
    if-all IsBounded (bytes_eq found.0 (codes "run")) _ _ (map-all IsBounded run (option_and_then (run_names rows) (input_names rows)) (each _ (option_and_then (run_names rows) (input_names rows)) (λ names. tt)))
    (if-all IsBounded (bytes_eq found.0 (codes "check")) _ _ (map-all IsBounded check (input_names rows) (each _ (input_names rows) (λ names. tt)))
    (if-all IsBounded (bytes_eq found.0 (codes "verify")) _ _ (map-all IsBounded verify (verify_names rows) (each _ (verify_names rows) (λ names. tt)))
    (if-all IsBounded (bytes_eq found.0 (codes "live")) _ _ (map-all IsBounded run (option_and_then (run_names rows) (live_names rows)) (each _ (option_and_then (run_names rows) (live_names rows)) (λ names. tt)))
    (if-all IsBounded (bytes_eq found.0 (codes "verify-live")) _ _ (map-all IsBounded verify (verify_live_names rows) (each _ (verify_live_names rows) (λ names. tt)))
    (if-all IsBounded (bytes_eq found.0 (codes "show")) _ _ (map-all IsBounded show (option_and_then (show_names rows) (verify_names rows)) (each _ (option_and_then (show_names rows) (verify_names rows)) (λ names. tt)))
    (if-all IsBounded (bytes_eq found.0 (codes "show-live")) _ _ (map-all IsBounded show (option_and_then (show_names rows) (verify_live_names rows)) (each _ (option_and_then (show_names rows) (verify_live_names rows)) (λ names. tt)))
    (if-all IsBounded (bytes_eq found.0 (codes "resume")) _ _ (map-all IsBounded resume (resume_names rows) (resume-bounded rows))
    (if-all IsBounded (bytes_eq found.0 (codes "seek")) _ _ (map-all IsBounded seek (seek_names rows) (each _ (seek_names rows) (λ names. tt)))
    (if-all IsBounded (bytes_eq found.0 (codes "batch")) _ _ (map-all IsBounded batch (batch_names rows) (each _ (batch_names rows) (λ names. tt)))
    (if-all IsBounded (bytes_eq found.0 (codes "make")) _ _ (map-all IsBounded make (make_names rows) (make-bounded rows))
    (if-all IsBounded (bytes_eq found.0 (codes "export")) _ _ (map-all IsBounded export (export_names rows) (export-bounded rows))
    (if-all IsBounded (bytes_eq found.0 (codes "import")) _ None (map-all IsBounded import (import_names rows) (import-bounded rows)) tt))))))))))))

command-bounded : (words : List (List ℕ)) → MatchOption (command_of words) ⊤ IsBounded
unfolding command_of
command-bounded words =
    if-all IsBounded (is_empty (fault_of program_app words)) (option_and_then named_command (subcommand_of program_app words)) None
    (then-all IsBounded named_command (subcommand_of program_app words) (λ found found_is. found-bounded found)) tt

pub command-sized : (words : List (List ℕ)) (names : MakeNames) → command_of words ≡ Some (make names) → (1 ≤ names.size) × (names.size ≤ size_limit)
command-sized words names is = subst (λ command. MatchOption command ⊤ IsBounded) is (command-bounded words)

pub export-placed : (words : List (List ℕ)) (names : ExportNames) → command_of words ≡ Some (export names) → (1 ≤ names.step) × (names.step ≤ step_limit)
export-placed words names is = subst (λ command. MatchOption command ⊤ IsBounded) is (command-bounded words)

pub import-placed : (words : List (List ℕ)) (names : ImportNames) → command_of words ≡ Some (import names) → (1 ≤ names.step) × (names.step ≤ step_limit)
import-placed words names is = let bounded : IsBounded (import names) = subst (λ command. MatchOption command ⊤ IsBounded) is (command-bounded words) in bounded.0

pub import-valued : (words : List (List ℕ)) (names : ImportNames) → command_of words ≡ Some (import names) → names.shown.inputs.owners ≡ None
import-valued words names is = let bounded : IsBounded (import names) = subst (λ command. MatchOption command ⊤ IsBounded) is (command-bounded words) in bounded.1

pub resume-valued : (words : List (List ℕ)) (names : ResumeNames) → command_of words ≡ Some (resume names) → names.run_files.inputs.owners ≡ None
resume-valued words names is = subst (λ command. MatchOption command ⊤ IsBounded) is (command-bounded words)
