-- The promises of a view follow from how it ends, case by case.
use Rattle.std.proofs.Common.{◌≡◌, ◌≢◌, ◌⊎◌, ◌<◌, ◌≤◌, ◌∙◌, ℕ, true, false, inl, inr, List, [], ◌∷◌, length, refl, sym, subst, arith, Some, None}
use Rattle.std.specs.Prelude.{Contains, Err, IsTrue, MatchOption, Ok}
use Rattle.pack_defs.specs.Lists.{is_in}
use Rattle.outside_io.specs.Faults.{HasRisen}
use Rattle.outside_io.specs.Files.{StoredFile}
use Rattle.outside_io.specs.Loads.{Writes}
use Rattle.auction_core.specs.Backed.{IsBacked}
use Rattle.auction_core.specs.declared.record.Ending.TheVariants.{Done}
use Rattle.auction_core.specs.declared.record.Record.{Record}
use Rattle.transcript_text.specs.RoundTrip.{IsHeld}
use Rattle.transcript_text.specs.Spelling.{transcript_text}
use Rattle.commands.specs.declared.inputs.Inputs.{Inputs}
use Rattle.commands.specs.declared.messages.fault.TranscriptFault.{TranscriptFault}
use Rattle.commands.specs.Delivery.{AllOthersUnchanged, AreStored, AreTextsStoredUpTo, Delivers, NamedText, names_of}
use Rattle.commands.specs.Ends.{IsShown, IsStatusOr, VerifyEnds}
use Rattle.commands.specs.Messages.{memory_line, unwritten_line}
use Rattle.commands.specs.Outside.{IsLinePrinted, Outside}
use Rattle.commands.specs.Verified.{fault_line, verified}
use Rattle.commands.specs.VerifyPromises.{IsGiven, IsSoundTranscript, VerifyPromises}
use Rattle.commands.specs.ViewPromises.{IsAnswered, ViewPromises}
use Rattle.commands.specs.Views.{Lacks, Tells, ViewAnswer, ViewEnds}
use Rattle.commands.specs.Views.ViewEnds.{Answered, Lacking, Unverified, ViewOutOfMemory}
use Rattle.command_words.specs.Words.{VerifyNames}
use Rattle.commands.proofs.DeliveryLemmas.{AreApart, Ended, IsPart, ended-of, for-told, others-up-to}
use Rattle.commands.proofs.DeliveryLemmas.Ended.{Both, NotSaid, NotStored, OutOfRoom}
use Rattle.commands.proofs.Halts.{same-inputs}
use Rattle.commands.proofs.Statuses.{apart-lists, off, one-of, within}
use Rattle.auction_cmd.proofs.VerifyCases.{verify-memory}
use Rattle.auction_cmd.proofs.VerifyLemmas.{reading, verify-promises}
use Rattle.auction_cmd.proofs.VerifyReadings.{TextReading, after-reading, read-unread, reads-transcript}
use Rattle.auction_cmd.proofs.VerifyReadings.TextReading.{Read, Starved}
use Rattle.auction_cmd.proofs.ViewCases.{shown-given, shown-is, shown-not-refused, unshown-or, unshown-statuses}

-- Whether each answer by texts has status 0 or 1 and stores files of these names, each different.
abbrev pub KeepsTo : List (List ℕ) → (Inputs → Record → ViewAnswer) → Type 0
KeepsTo stored says = (inputs : Inputs) (rec : Record) (texts : List NamedText) (text : List ℕ) (done : ℕ) → says inputs rec ≡ Tells texts text done →
    IsTrue (is_in (0 ∷ 1 ∷ []) done) × (names_of texts ≡ stored) × AreApart texts

tells-lacks : {X : Type 0} (answer : ViewAnswer) (texts : List NamedText) (text : List ℕ) (done : ℕ) (line : List ℕ) → answer ≡ Tells texts text done → answer ≡ Lacks line → X
tells-lacks answer texts text done line tells lacks = cc (sym tells ∙ lacks)

same-done : (answer : ViewAnswer) (xs ys : List NamedText) (s t : List ℕ) (m n : ℕ) → answer ≡ Tells xs s m → answer ≡ Tells ys t n → m ≡ n
same-done answer xs ys s t m n one other = cc (sym one ∙ other)

module _ (names : VerifyNames) (stored : List (List ℕ)) (says : Inputs → Record → ViewAnswer) (before after : Outside) (status : ℕ) (keeps : KeepsTo stored says) where
  abbrev Ends : Type 0
  Ends = ViewEnds names says before after status

  -- ---- the statuses

  ended-statuses : (texts : List NamedText) (text : List ℕ) (done : ℕ) → IsTrue (is_in (0 ∷ 1 ∷ []) done) → Ended texts text done before after status → IsTrue (is_in (0 ∷ 1 ∷ 4 ∷ 8 ∷ []) status)
  ended-statuses texts text done h (Both is all writes) = one-of (0 ∷ 1 ∷ 4 ∷ 8 ∷ []) status done is (within (0 ∷ 1 ∷ []) (0 ∷ 1 ∷ 4 ∷ 8 ∷ []) done refl h)
  ended-statuses texts text done h (NotSaid four all rises less said) = one-of (0 ∷ 1 ∷ 4 ∷ 8 ∷ []) status 4 four refl
  ended-statuses texts text done h (NotStored x among four part rises unsteady said) = one-of (0 ∷ 1 ∷ 4 ∷ 8 ∷ []) status 4 four refl
  ended-statuses texts text done h (OutOfRoom x eight part said) = one-of (0 ∷ 1 ∷ 4 ∷ 8 ∷ []) status 8 eight refl

  -- a complete delivery ends at 0 or 1
  not-done : {X : Type 0} (n done : ℕ) → IsTrue (is_in (0 ∷ 1 ∷ []) done) → status ≡ done → status ≡ n → is_in (0 ∷ 1 ∷ []) n ≡ false → X
  not-done n done h is other out = absurd (off (0 ∷ 1 ∷ []) done n h (sym is ∙ other) out)

  told-statuses : (inputs : Inputs) (rec : Record) (texts : List NamedText) (text : List ℕ) (done : ℕ) → says inputs rec ≡ Tells texts text done → Delivers texts text done before after status → IsTrue (is_in (0 ∷ 1 ∷ 4 ∷ 8 ∷ []) status)
  told-statuses inputs rec texts text done is d =
      let k = keeps inputs rec texts text done is in
      ended-statuses texts text done k.0 (ended-of texts text done before after status d)

  all-statuses : Ends → IsTrue (is_in (0 ∷ 1 ∷ 3 ∷ 4 ∷ 5 ∷ 8 ∷ 9 ∷ 10 ∷ []) status)
  all-statuses (Unverified end) = within (3 ∷ 5 ∷ 8 ∷ 9 ∷ []) (0 ∷ 1 ∷ 3 ∷ 4 ∷ 5 ∷ 8 ∷ 9 ∷ 10 ∷ []) status refl (unshown-statuses names before after status None end refl)
  all-statuses (ViewOutOfMemory s) = one-of (0 ∷ 1 ∷ 3 ∷ 4 ∷ 5 ∷ 8 ∷ 9 ∷ 10 ∷ []) status 8 s.status_is refl
  all-statuses (Lacking inputs rec line s is ten said same) = one-of (0 ∷ 1 ∷ 3 ∷ 4 ∷ 5 ∷ 8 ∷ 9 ∷ 10 ∷ []) status 10 ten refl
  all-statuses (Answered inputs rec texts text done s is d) = within (0 ∷ 1 ∷ 4 ∷ 8 ∷ []) (0 ∷ 1 ∷ 3 ∷ 4 ∷ 5 ∷ 8 ∷ 9 ∷ 10 ∷ []) status refl (told-statuses inputs rec texts text done is d)

  -- an answer that lacks nothing does not end at 10
  pub never-lacking : ((inputs : Inputs) (rec : Record) (line : List ℕ) → says inputs rec ≢ Lacks line) → Ends → status ≢ 10
  never-lacking full (Unverified end) = λ ten. off (3 ∷ 5 ∷ 8 ∷ 9 ∷ []) status 10 (unshown-statuses names before after status None end refl) ten refl
  never-lacking full (ViewOutOfMemory s) = let eight = s.status_is in λ ten. omega arith
  never-lacking full (Lacking inputs rec line s is ten said same) = absurd (full inputs rec line is)
  never-lacking full (Answered inputs rec texts text done s is d) = λ ten. off (0 ∷ 1 ∷ 4 ∷ 8 ∷ []) status 10 (told-statuses inputs rec texts text done is d) ten refl

  -- ---- what was read and checked

  view-reading : Ends → TextReading names before after status
  view-reading (Unverified end) = reading names before after status None end
  view-reading (ViewOutOfMemory s) = Starved s.status_is
  view-reading (Lacking inputs rec line s is ten said same) = Read inputs s.text s.accepted s.held (one-of after-reading status 10 ten refl)
  view-reading (Answered inputs rec texts text done s is d) =
      Read inputs s.text s.accepted s.held (within (0 ∷ 1 ∷ 4 ∷ 8 ∷ []) after-reading status refl (told-statuses inputs rec texts text done is d))

  abbrev as-verify : VerifyEnds names before after status None → VerifyPromises names before after status None
  as-verify end = verify-promises names before after status None end

  view-refused : (files : List StoredFile) → Ends → before.files ≡ Some files → status ≡ 9 →
      (inputs : Inputs) × (text : List ℕ) × IsGiven files names inputs text × (fault : TranscriptFault) × (verified inputs text ≡ Err fault) × IsLinePrinted before after (fault_line names.transcript fault)
  view-refused files (Unverified end) modelled nine = let v = as-verify end in v.checks.refused files modelled nine
  view-refused files (ViewOutOfMemory s) modelled nine = let eight = s.status_is in absurd (omega arith)
  view-refused files (Lacking inputs rec line s is ten said same) modelled nine = absurd (omega arith)
  view-refused files (Answered inputs rec texts text done s is d) modelled nine = absurd (off (0 ∷ 1 ∷ 4 ∷ 8 ∷ []) status 9 (told-statuses inputs rec texts text done is d) nine refl)

  view-refuses : (files : List StoredFile) (inputs : Inputs) (t : List ℕ) (fault : TranscriptFault) → Ends → before.files ≡ Some files → IsGiven files names inputs t → verified inputs t ≡ Err fault → IsStatusOr 9 before status
  view-refuses files inputs t fault (Unverified end) modelled g err = let v = as-verify end in v.checks.refuses files inputs t fault modelled g err
  view-refuses files inputs t fault (ViewOutOfMemory s) modelled g err = inr (inl s.status_is)
  view-refuses files inputs t fault (Lacking own rec line s is ten said same) modelled g err = shown-not-refused files names before own inputs t rec fault modelled s g err
  view-refuses files inputs t fault (Answered own rec texts text done s is d) modelled g err = shown-not-refused files names before own inputs t rec fault modelled s g err

  view-of_a_record : (files : List StoredFile) (inputs : Inputs) (rec : Record) → Ends → before.files ≡ Some files → IsBacked inputs.scenario inputs.book rec.order rec → rec.ending ≡ Done → IsHeld rec →
      IsGiven files names inputs (transcript_text inputs.scenario inputs.book rec) → status ≢ 9
  view-of_a_record files inputs rec (Unverified end) modelled backed done held g = let v = as-verify end in v.checks.of_a_record files inputs rec modelled backed done held g
  view-of_a_record files inputs rec (ViewOutOfMemory s) modelled backed done held g = let eight = s.status_is in λ nine. omega arith
  view-of_a_record files inputs rec (Lacking own shown line s is ten said same) modelled backed done held g = λ nine. omega arith
  view-of_a_record files inputs rec (Answered own shown texts text last s is d) modelled backed done held g = λ nine. off (0 ∷ 1 ∷ 4 ∷ 8 ∷ []) status 9 (told-statuses own shown texts text last is d) nine refl

  -- ---- the failures

  view-failed : Ends → status ≡ 4 → HasRisen before.faults after.faults ⊎ HasRisen before.sink_faults after.sink_faults
  view-failed (Unverified end) four = absurd (off (3 ∷ 5 ∷ 8 ∷ 9 ∷ []) status 4 (unshown-statuses names before after status None end refl) four refl)
  view-failed (ViewOutOfMemory s) four = let eight = s.status_is in absurd (omega arith)
  view-failed (Lacking inputs rec line s is ten said same) four = absurd (omega arith)
  view-failed (Answered inputs rec texts text done s is d) four = go (ended-of texts text done before after status d)
    where
      go : Ended texts text done before after status → HasRisen before.faults after.faults ⊎ HasRisen before.sink_faults after.sink_faults
      go (Both did all writes) = let k = keeps inputs rec texts text done is in not-done 4 done k.0 did four refl
      go (NotSaid is_four all rises less said) = inr rises
      go (NotStored x among is_four part rises unsteady said) = inl rises
      go (OutOfRoom x eight part said) = absurd (omega arith)

  view-memory : Ends → status ≡ 8 → IsLinePrinted before after memory_line
  view-memory (Unverified end) eight = verify-memory names before after status None end eight
  view-memory (ViewOutOfMemory s) eight = s.line
  view-memory (Lacking inputs rec line s is ten said same) eight = absurd (omega arith)
  view-memory (Answered inputs rec texts text done s is d) eight = go (ended-of texts text done before after status d)
    where
      go : Ended texts text done before after status → IsLinePrinted before after memory_line
      go (Both did all writes) = let k = keeps inputs rec texts text done is in not-done 8 done k.0 did eight refl
      go (NotSaid four all rises less said) = absurd (omega arith)
      go (NotStored x among four part rises unsteady said) = absurd (omega arith)
      go (OutOfRoom x is_eight part said) = said

  -- ---- the answer

  abbrev answered : (inputs : Inputs) (rec : Record) (texts : List NamedText) (text : List ℕ) (done : ℕ) → IsShown names before inputs rec → says inputs rec ≡ Tells texts text done → IsAnswered names says before
  answered inputs rec texts text done s is = record { inputs = inputs; rec = rec; shown = s; texts = texts; text = text; done = done; answer = is }

  -- in a modelled folder the texts are stored, or up to this one
  abbrev StoredAll : List NamedText → Type 0
  StoredAll texts = (files : List StoredFile) → before.files ≡ Some files → MatchOption after.files ⊥ (λ new. AreStored files new texts)

  abbrev up-to : (files : List StoredFile) (texts : List NamedText) (x : NamedText) → IsPart files texts x after → AreTextsStoredUpTo files texts after
  up-to files texts x p = record { new = p.new; now_modelled = p.now_modelled; part = p.part }

  view-done : Ends → IsTrue (is_in (0 ∷ 1 ∷ []) status) → (a : IsAnswered names says before) × (status ≡ a.done) × Writes before.held after.held a.text (Ok tt) × StoredAll a.texts
  view-done (Unverified end) h = absurd (apart-lists (0 ∷ 1 ∷ []) (3 ∷ 5 ∷ 8 ∷ 9 ∷ []) status refl h (unshown-statuses names before after status None end refl))
  view-done (ViewOutOfMemory s) h = absurd (off (0 ∷ 1 ∷ []) status 8 h s.status_is refl)
  view-done (Lacking inputs rec line s is ten said same) h = absurd (off (0 ∷ 1 ∷ []) status 10 h ten refl)
  view-done (Answered inputs rec texts text done s is d) h = go (ended-of texts text done before after status d)
    where
      go : Ended texts text done before after status → (a : IsAnswered names says before) × (status ≡ a.done) × Writes before.held after.held a.text (Ok tt) × StoredAll a.texts
      go (Both did all writes) =
          let k = keeps inputs rec texts text done is in
          (answered inputs rec texts text done s is, did, writes, λ files modelled. all files modelled k.2)
      go (NotSaid four all rises less said) = absurd (off (0 ∷ 1 ∷ []) status 4 h four refl)
      go (NotStored x among four part rises unsteady said) = absurd (off (0 ∷ 1 ∷ []) status 4 h four refl)
      go (OutOfRoom x eight part said) = absurd (off (0 ∷ 1 ∷ []) status 8 h eight refl)

  view-lacking : (files : List StoredFile) → Ends → before.files ≡ Some files → status ≡ 10 → (s : IsSoundTranscript files names) × (line : List ℕ) × (says s.inputs s.rec ≡ Lacks line) × IsLinePrinted before after line
  view-lacking files (Unverified end) modelled ten = absurd (off (3 ∷ 5 ∷ 8 ∷ 9 ∷ []) status 10 (unshown-statuses names before after status None end refl) ten refl)
  view-lacking files (ViewOutOfMemory s) modelled ten = let eight = s.status_is in absurd (omega arith)
  view-lacking files (Lacking inputs rec line s is is_ten said same) modelled ten =
      (record { inputs = inputs; text = s.text; given = shown-given files names before inputs rec modelled s; rec = rec; shown = s.sound }, line, is, said)
  view-lacking files (Answered inputs rec texts text done s is d) modelled ten = absurd (off (0 ∷ 1 ∷ 4 ∷ 8 ∷ []) status 10 (told-statuses inputs rec texts text done is d) ten refl)

  -- the answer about what was verified is that about the sound transcript
  same-answer : (files : List StoredFile) (inputs : Inputs) (rec : Record) (s : IsSoundTranscript files names) → before.files ≡ Some files → IsShown names before inputs rec → says inputs rec ≡ says s.inputs s.rec
  same-answer files inputs rec s modelled own =
      let one : inputs ≡ s.inputs = same-inputs inputs s.inputs (sym (own.accepted files modelled) ∙ s.given.accepted) in
      let other : rec ≡ s.rec = shown-is files names before inputs s.inputs s.text rec s.rec modelled own s.given s.shown in
      λ i. says (one i) (other i)

  view-lacks : (files : List StoredFile) (s : IsSoundTranscript files names) (line : List ℕ) → Ends → before.files ≡ Some files → says s.inputs s.rec ≡ Lacks line → IsStatusOr 10 before status
  view-lacks files s line (Unverified end) modelled lacks = unshown-or names before after status 10 None files s.inputs s.text s.rec end refl modelled s.given s.shown
  view-lacks files s line (ViewOutOfMemory e) modelled lacks = inr (inl e.status_is)
  view-lacks files s line (Lacking inputs rec own o is ten said same) modelled lacks = inl ten
  view-lacks files s line (Answered inputs rec texts text done o is d) modelled lacks =
      tells-lacks (says inputs rec) texts text done line is (same-answer files inputs rec s modelled o ∙ lacks)

  view-complete : (files : List StoredFile) (s : IsSoundTranscript files names) (texts : List NamedText) (text : List ℕ) (done : ℕ) → Ends → before.files ≡ Some files → says s.inputs s.rec ≡ Tells texts text done → IsStatusOr done before status ⊎ (status ≡ 4)
  view-complete files s texts text done (Unverified end) modelled tells = inl (unshown-or names before after status done None files s.inputs s.text s.rec end refl modelled s.given s.shown)
  view-complete files s texts text done (ViewOutOfMemory e) modelled tells = inl (inr (inl e.status_is))
  view-complete files s texts text done (Lacking inputs rec line o is ten said same) modelled tells =
      tells-lacks (says inputs rec) texts text done line (same-answer files inputs rec s modelled o ∙ tells) is
  view-complete files s texts text done (Answered inputs rec own said last o is d) modelled tells = go (ended-of own said last before after status d)
    where
      go : Ended own said last before after status → IsStatusOr done before status ⊎ (status ≡ 4)
      go (Both did all writes) = inl (inl (did ∙ same-done (says inputs rec) own texts said text last done is (same-answer files inputs rec s modelled o ∙ tells)))
      go (NotSaid four all rises less line) = inr four
      go (NotStored x among four part rises unsteady line) = inr four
      go (OutOfRoom x eight part line) = inl (inr (inl eight))

  -- ---- what was not written

  abbrev FailsAtOne : IsAnswered names says before → Type 0
  FailsAtOne a =
      HasRisen before.faults after.faults × (before.steady ≢ true) × (x : NamedText) × Contains a.texts x × IsLinePrinted before after (unwritten_line x.name)
      × ((files : List StoredFile) → before.files ≡ Some files → (upto : AreTextsStoredUpTo files a.texts after) × (upto.part.failed ≡ x))

  abbrev FailsToPrint : IsAnswered names says before → Type 0
  FailsToPrint a = HasRisen before.sink_faults after.sink_faults × (before.sure < length a.text) × IsLinePrinted before after a.text × StoredAll a.texts

  view-unwritten : Ends → status ≡ 4 → (a : IsAnswered names says before) × (FailsAtOne a ⊎ FailsToPrint a)
  view-unwritten (Unverified end) four = absurd (off (3 ∷ 5 ∷ 8 ∷ 9 ∷ []) status 4 (unshown-statuses names before after status None end refl) four refl)
  view-unwritten (ViewOutOfMemory s) four = let eight = s.status_is in absurd (omega arith)
  view-unwritten (Lacking inputs rec line s is ten said same) four = absurd (omega arith)
  view-unwritten (Answered inputs rec texts text done s is d) four = go (ended-of texts text done before after status d)
    where
      go : Ended texts text done before after status → (a : IsAnswered names says before) × (FailsAtOne a ⊎ FailsToPrint a)
      go (Both did all writes) = let k = keeps inputs rec texts text done is in not-done 4 done k.0 did four refl
      go (NotSaid is_four all rises less said) =
          let k = keeps inputs rec texts text done is in
          (answered inputs rec texts text done s is, inr (rises, less, said, λ files modelled. all files modelled k.2))
      go (NotStored x among is_four part rises unsteady said) =
          let k = keeps inputs rec texts text done is in
          (answered inputs rec texts text done s is, inl (rises, unsteady, x, among, said, λ files modelled. let p = part files modelled k.2 in (up-to files texts x p, p.failed)))
      go (OutOfRoom x eight part said) = absurd (omega arith)

  view-surely : Ends → before.steady ≡ true → ((a : IsAnswered names says before) → length a.text ≤ before.sure) → status ≢ 4
  view-surely end steady room = λ four.
      let failed = view-unwritten end four in
      elim failed.1 [
        | inl store ↦ store.1 steady
        | inr print ↦ let enough = room failed.0 in let less = print.1 in omega arith
      ]

  view-part : (files : List StoredFile) → Ends → before.files ≡ Some files → status ≡ 8 → (after.files ≡ before.files) ⊎ ((a : IsAnswered names says before) × AreTextsStoredUpTo files a.texts after)
  view-part files (Unverified end) modelled eight = let v = as-verify end in inl v.untouched
  view-part files (ViewOutOfMemory s) modelled eight = inl s.files
  view-part files (Lacking inputs rec line s is ten said same) modelled eight = inl same
  view-part files (Answered inputs rec texts text done s is d) modelled eight = go (ended-of texts text done before after status d)
    where
      go : Ended texts text done before after status → (after.files ≡ before.files) ⊎ ((a : IsAnswered names says before) × AreTextsStoredUpTo files a.texts after)
      go (Both did all writes) = let k = keeps inputs rec texts text done is in not-done 8 done k.0 did eight refl
      go (NotSaid four all rises less said) = absurd (omega arith)
      go (NotStored x among four part rises unsteady said) = absurd (omega arith)
      go (OutOfRoom x is_eight part said) =
          let k = keeps inputs rec texts text done is in
          inr (answered inputs rec texts text done s is, up-to files texts x (part files modelled k.2))

  -- ---- the files

  view-untouched : Ends → IsTrue (is_in (3 ∷ 5 ∷ 9 ∷ 10 ∷ []) status) → after.files ≡ before.files
  view-untouched (Unverified end) h = let v = as-verify end in v.untouched
  view-untouched (ViewOutOfMemory s) h = s.files
  view-untouched (Lacking inputs rec line s is ten said same) h = same
  view-untouched (Answered inputs rec texts text done s is d) h = absurd (apart-lists (3 ∷ 5 ∷ 9 ∷ 10 ∷ []) (0 ∷ 1 ∷ 4 ∷ 8 ∷ []) status refl h (told-statuses inputs rec texts text done is d))

  abbrev Others : List StoredFile → List StoredFile → Type 0
  Others files new = AllOthersUnchanged files new stored

  same-files : (files : List StoredFile) → before.files ≡ Some files → after.files ≡ before.files → MatchOption after.files ⊥ (Others files)
  same-files files modelled same = subst (λ o. MatchOption o ⊥ (Others files)) (sym (same ∙ modelled)) (λ other k. refl)

  view-others : (files : List StoredFile) → Ends → before.files ≡ Some files → MatchOption after.files ⊥ (Others files)
  view-others files (Unverified end) modelled = let v = as-verify end in same-files files modelled v.untouched
  view-others files (ViewOutOfMemory s) modelled = same-files files modelled s.files
  view-others files (Lacking inputs rec line s is ten said same) modelled = same-files files modelled same
  view-others files (Answered inputs rec texts text done s is d) modelled = go (ended-of texts text done before after status d)
    where
      named : names_of texts ≡ stored
      named = let k = keeps inputs rec texts text done is in k.1

      apart : AreApart texts
      apart = let k = keeps inputs rec texts text done is in k.2

      whole : (new : List StoredFile) → AreStored files new texts → Others files new
      whole new st = subst (AllOthersUnchanged files new) named st.others

      some : (x : NamedText) → IsPart files texts x after → MatchOption after.files ⊥ (Others files)
      some x p = subst (λ o. MatchOption o ⊥ (Others files)) (sym p.now_modelled) (subst (AllOthersUnchanged files p.new) named (λ other k. others-up-to files p.new texts p.part other k))

      go : Ended texts text done before after status → MatchOption after.files ⊥ (Others files)
      go (Both did all writes) = for-told after.files (λ new. AreStored files new texts) (Others files) whole (all files modelled apart)
      go (NotSaid four all rises less said) = for-told after.files (λ new. AreStored files new texts) (Others files) whole (all files modelled apart)
      go (NotStored x among four part rises unsteady said) = some x (part files modelled apart)
      go (OutOfRoom x eight part said) = some x (part files modelled apart)

  pub view-promises : Ends → ViewPromises names stored says before after status
  view-promises end = record {
    statuses = all-statuses end;
    reads = reads-transcript names before after status (view-reading end);
    checks = record {
      refused = λ files modelled nine. view-refused files end modelled nine;
      refuses = λ files inputs t fault modelled g err. view-refuses files inputs t fault end modelled g err;
      of_a_record = λ files inputs rec modelled backed done held g. view-of_a_record files inputs rec end modelled backed done held g;
    };
    failures = record { unread = read-unread names before after status (view-reading end); unwritten = view-failed end; memory = view-memory end };
    done = view-done end;
    lacking = λ files modelled ten. view-lacking files end modelled ten;
    lacks = λ files s line modelled is. view-lacks files s line end modelled is;
    complete = λ files s texts text done modelled is. view-complete files s texts text done end modelled is;
    unwritten = view-unwritten end;
    surely_written = view-surely end;
    part_stored = λ files modelled eight. view-part files end modelled eight;
    untouched = view-untouched end;
    others = λ files modelled. view-others files end modelled;
  }
