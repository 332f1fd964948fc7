-- The promises of `make` follow from how far it came.
use Rattle.std.proofs.Common.{◌≡◌, ◌≢◌, ◌⊎◌, ◌≤◌, ◌∙◌, ℕ, true, inl, inr, List, [], ◌∷◌, length, refl, sym, subst, arith, Option, Some, None}
use Rattle.std.specs.Prelude.{Ok, IsSome, IsTrue, MatchOption, ⊤}
use Rattle.pack_defs.specs.Lists.{is_in}
use Rattle.pack_defs.specs.ClockRule.{ClockTest}
use Rattle.pack_defs.proofs.ThresholdLaw.{threshold}
use Rattle.outside_io.specs.Faults.{HasRisen}
use Rattle.outside_io.specs.Files.{StoredFile}
use Rattle.outside_io.specs.Loads.{Writes}
use Rattle.auction_core.specs.declared.record.Record.{Record}
use Rattle.auction_core.specs.Backed.{undecided_of}
use Rattle.scenario_make.specs.GeneratedFiles.{generated_domains, generated_rows, generated_scenario_text}
use Rattle.commands.specs.declared.inputs.Inputs.{Inputs}
use Rattle.commands.specs.Delivery.{AllOthersUnchanged, AreStored, AreTextsStoredUpTo, NamedText}
use Rattle.commands.specs.Make.{make_inputs, make_texts}
use Rattle.commands.specs.MakePromises.{AreMakeFilesStored, IsMakeDecided, IsMakeRun, IsMakeUnstored, IsSummaryUnwritten, MakePromises, make_summary}
use Rattle.commands.specs.Outside.{Outside, IsLinePrinted}
use Rattle.commands.specs.Promises.{IsSomeRecord}
use Rattle.commands.specs.Records.{done_status, run_order, summary_of}
use Rattle.commands.specs.Messages.{memory_line, unwritten_line}
use Rattle.command_words.specs.Words.{MakeNames, make_output_names}
use Rattle.commands.proofs.DeliveryLemmas.{IsPart, for-told, others-up-to}
use Rattle.auction_cmd.proofs.GeneratedLemmas.{ascend-in, values-in}
use Rattle.auction_cmd.proofs.MakeEndLemmas.{Reached}
use Rattle.auction_cmd.proofs.MakeEndLemmas.Reached.{Nothing, OneFailed, OneStarved, AllStarved, Summed, Unsummed}
use Rattle.commands.proofs.RunLemmas.{absent, never, some-record}
use Rattle.commands.proofs.Statuses.{done-within, none-open, off, one-of, within}

-- a record cannot be both present and absent
none-some : (found : Option Record) (rec : Record) → found ≡ Some rec → found ≡ None → ⊥
none-some found rec is none = cc (sym is ∙ none)

some-none : (found : Option Record) → found ≡ None → IsSome found → ⊥
some-none None none some = cc
some-none (Some rec) none some = cc

-- what is left if nothing was touched
all-stand : (files : List StoredFile) (names : MakeNames) (before after : Outside) → before.files ≡ Some files → after.files ≡ before.files → MatchOption after.files ⊥ (λ new. AllOthersUnchanged files new (make_output_names names))
all-stand files names before after modelled same =
    subst (λ o. MatchOption o ⊥ (λ new. AllOthersUnchanged files new (make_output_names names))) (sym (same ∙ modelled)) (λ other k. refl)

abbrev up-to : (files : List StoredFile) (names : MakeNames) (x : NamedText) (after : Outside) → IsPart files (make_texts names) x after → AreTextsStoredUpTo files (make_texts names) after
up-to files names x after p = record { new = p.new; now_modelled = p.now_modelled; part = p.part }

part-stands : (files : List StoredFile) (names : MakeNames) (x : NamedText) (after : Outside) → IsPart files (make_texts names) x after → MatchOption after.files ⊥ (λ new. AllOthersUnchanged files new (make_output_names names))
part-stands files names x after p =
    subst (λ o. MatchOption o ⊥ (λ new. AllOthersUnchanged files new (make_output_names names))) (sym p.now_modelled) (λ other k. others-up-to files p.new (make_texts names) p.part other k)

all-kept : (files : List StoredFile) (names : MakeNames) (after : Outside) → AreMakeFilesStored files names after → MatchOption after.files ⊥ (λ new. AllOthersUnchanged files new (make_output_names names))
all-kept files names after made =
    for-told after.files (λ new. AreStored files new (make_texts names)) (λ new. AllOthersUnchanged files new (make_output_names names)) (λ new st. st.others) made

module _ (names : MakeNames) (before after : Outside) (status : ℕ) (found : Option Record) where
  summed-at : (U : List ClockTest) → status ≡ done_status U → IsTrue (is_in (0 ∷ 1 ∷ []) status)
  summed-at U is = subst (λ z. IsTrue (is_in (0 ∷ 1 ∷ []) z)) (sym is) (done-within U)

  make-statuses : Reached names before after status found → IsTrue (is_in (0 ∷ 1 ∷ 4 ∷ 8 ∷ []) status)
  make-statuses (Nothing eight none same said) = one-of (0 ∷ 1 ∷ 4 ∷ 8 ∷ []) status 8 eight refl
  make-statuses (OneFailed x four none part rises unsteady said) = one-of (0 ∷ 1 ∷ 4 ∷ 8 ∷ []) status 4 four refl
  make-statuses (OneStarved x eight none part said) = one-of (0 ∷ 1 ∷ 4 ∷ 8 ∷ []) status 8 eight refl
  make-statuses (AllStarved eight none all said) = one-of (0 ∷ 1 ∷ 4 ∷ 8 ∷ []) status 8 eight refl
  make-statuses (Summed made all is writes) = within (0 ∷ 1 ∷ []) (0 ∷ 1 ∷ 4 ∷ 8 ∷ []) status refl (summed-at (undecided_of made.rec.steps) is)
  make-statuses (Unsummed made all four rises less said) = one-of (0 ∷ 1 ∷ 4 ∷ 8 ∷ []) status 4 four refl

  make-stored : (files : List StoredFile) → Reached names before after status found → before.files ≡ Some files → IsTrue (is_in (0 ∷ 1 ∷ []) status) → AreMakeFilesStored files names after
  make-stored files (Nothing eight none same said) modelled h = absurd (off (0 ∷ 1 ∷ []) status 8 h eight refl)
  make-stored files (OneFailed x four none part rises unsteady said) modelled h = absurd (off (0 ∷ 1 ∷ []) status 4 h four refl)
  make-stored files (OneStarved x eight none part said) modelled h = absurd (off (0 ∷ 1 ∷ []) status 8 h eight refl)
  make-stored files (AllStarved eight none all said) modelled h = absurd (off (0 ∷ 1 ∷ []) status 8 h eight refl)
  make-stored files (Summed made all is writes) modelled h = all files modelled
  make-stored files (Unsummed made all four rises less said) modelled h = absurd (off (0 ∷ 1 ∷ []) status 4 h four refl)

  make-done : Reached names before after status found → IsTrue (is_in (0 ∷ 1 ∷ []) status) →
      (made : IsMakeRun names found) × (status ≡ done_status (undecided_of made.rec.steps)) × Writes before.held after.held (make_summary made) (Ok tt)
  make-done (Nothing eight none same said) h = absurd (off (0 ∷ 1 ∷ []) status 8 h eight refl)
  make-done (OneFailed x four none part rises unsteady said) h = absurd (off (0 ∷ 1 ∷ []) status 4 h four refl)
  make-done (OneStarved x eight none part said) h = absurd (off (0 ∷ 1 ∷ []) status 8 h eight refl)
  make-done (AllStarved eight none all said) h = absurd (off (0 ∷ 1 ∷ []) status 8 h eight refl)
  make-done (Summed made all is writes) h = (made, is, writes)
  make-done (Unsummed made all four rises less said) h = absurd (off (0 ∷ 1 ∷ []) status 4 h four refl)

  make-decided : Reached names before after status found → status ≡ 0 → IsMakeDecided names before after
  make-decided way zero =
      let (made, is, writes) = make-done way (one-of (0 ∷ 1 ∷ []) status 0 zero refl) in
      let none : undecided_of made.rec.steps ≡ [] = none-open (undecided_of made.rec.steps) (sym is ∙ zero) in
      let d = generated_domains names.size in
      let r = generated_rows names.seed names.size in
      let s = generated_scenario_text names.seed names.size in
      record {
        inputs = made.inputs;
        accepted = made.accepted;
        summary = subst (λ U. Writes before.held after.held (summary_of made.inputs U) (Ok tt)) none writes;
        paid = λ f bought. threshold made.inputs.scenario made.inputs.book run_order f (ascend-in d r s made.inputs made.accepted) (values-in d r s made.inputs made.accepted) bought;
      }

  make-unwritten : Reached names before after status found → status ≡ 4 → IsMakeUnstored before after found ⊎ IsSummaryUnwritten names before after found
  make-unwritten (Nothing eight none same said) four = absurd (omega arith)
  make-unwritten (OneFailed x is none part rises unsteady said) four = inl (record { none = none; risen = rises; unsteady = unsteady })
  make-unwritten (OneStarved x eight none part said) four = absurd (omega arith)
  make-unwritten (AllStarved eight none all said) four = absurd (omega arith)
  make-unwritten (Summed made all is writes) four = absurd (never (undecided_of made.rec.steps) status 4 is four refl)
  make-unwritten (Unsummed made all is rises less said) four = inr (record { made = made; failed = rises; unsure = less; summary = said })

  make-unstored : (files : List StoredFile) → Reached names before after status found → before.files ≡ Some files → status ≡ 4 → found ≡ None →
      (upto : AreTextsStoredUpTo files (make_texts names) after) × IsLinePrinted before after (unwritten_line upto.part.failed.name)
  make-unstored files (Nothing eight none same said) modelled four missing = absurd (omega arith)
  make-unstored files (OneFailed x is none part rises unsteady said) modelled four missing =
      let p : IsPart files (make_texts names) x after = part files modelled in
      (up-to files names x after p, subst (λ (z : NamedText). IsLinePrinted before after (unwritten_line z.name)) (sym p.failed) said)
  make-unstored files (OneStarved x eight none part said) modelled four missing = absurd (omega arith)
  make-unstored files (AllStarved eight none all said) modelled four missing = absurd (omega arith)
  make-unstored files (Summed made all is writes) modelled four missing = absurd (none-some found made.rec made.recorded missing)
  make-unstored files (Unsummed made all is rises less said) modelled four missing = absurd (none-some found made.rec made.recorded missing)

  make-unsaid : (files : List StoredFile) → Reached names before after status found → before.files ≡ Some files → status ≡ 4 → IsSome found → AreMakeFilesStored files names after
  make-unsaid files (Nothing eight none same said) modelled four some = absurd (some-none found none some)
  make-unsaid files (OneFailed x is none part rises unsteady said) modelled four some = absurd (some-none found none some)
  make-unsaid files (OneStarved x eight none part said) modelled four some = absurd (some-none found none some)
  make-unsaid files (AllStarved eight none all said) modelled four some = absurd (some-none found none some)
  make-unsaid files (Summed made all is writes) modelled four some = all files modelled
  make-unsaid files (Unsummed made all is rises less said) modelled four some = all files modelled

  make-surely : Reached names before after status found → before.steady ≡ true →
      ((inputs : Inputs) (undecided : List ClockTest) → make_inputs names.seed names.size ≡ Ok inputs → length (summary_of inputs undecided) ≤ before.sure) → status ≢ 4
  make-surely (Nothing eight none same said) steady room = λ four. omega arith
  make-surely (OneFailed x is none part rises unsteady said) steady room = absurd (unsteady steady)
  make-surely (OneStarved x eight none part said) steady room = λ four. omega arith
  make-surely (AllStarved eight none all said) steady room = λ four. omega arith
  make-surely (Summed made all is writes) steady room = λ four. never (undecided_of made.rec.steps) status 4 is four refl
  make-surely (Unsummed made all is rises less said) steady room =
      let enough = room made.inputs (undecided_of made.rec.steps) made.accepted in absurd (omega arith)

  make-unrecorded : Reached names before after status found → status ≡ 8 → found ≡ None
  make-unrecorded (Nothing is none same said) eight = none
  make-unrecorded (OneFailed x four none part rises unsteady said) eight = none
  make-unrecorded (OneStarved x is none part said) eight = none
  make-unrecorded (AllStarved is none all said) eight = none
  make-unrecorded (Summed made all is writes) eight = absurd (never (undecided_of made.rec.steps) status 8 is eight refl)
  make-unrecorded (Unsummed made all four rises less said) eight = absurd (omega arith)

  make-starved : (files : List StoredFile) → Reached names before after status found → before.files ≡ Some files → status ≡ 8 →
      (after.files ≡ before.files) ⊎ (AreTextsStoredUpTo files (make_texts names) after ⊎ AreMakeFilesStored files names after)
  make-starved files (Nothing is none same said) modelled eight = inl same
  make-starved files (OneFailed x four none part rises unsteady said) modelled eight = inr (inl (up-to files names x after (part files modelled)))
  make-starved files (OneStarved x is none part said) modelled eight = inr (inl (up-to files names x after (part files modelled)))
  make-starved files (AllStarved is none all said) modelled eight = inr (inr (all files modelled))
  make-starved files (Summed made all is writes) modelled eight = inr (inr (all files modelled))
  make-starved files (Unsummed made all four rises less said) modelled eight = inr (inr (all files modelled))

  make-others : (files : List StoredFile) → Reached names before after status found → before.files ≡ Some files → MatchOption after.files ⊥ (λ new. AllOthersUnchanged files new (make_output_names names))
  make-others files (Nothing is none same said) modelled = all-stand files names before after modelled same
  make-others files (OneFailed x four none part rises unsteady said) modelled = part-stands files names x after (part files modelled)
  make-others files (OneStarved x is none part said) modelled = part-stands files names x after (part files modelled)
  make-others files (AllStarved is none all said) modelled = all-kept files names after (all files modelled)
  make-others files (Summed made all is writes) modelled = all-kept files names after (all files modelled)
  make-others files (Unsummed made all four rises less said) modelled = all-kept files names after (all files modelled)

  -- ---- what holds of every command

  with-record : IsMakeRun names found → MatchOption found ⊤ IsSomeRecord
  with-record made = let of = made.auction in rw made.recorded (some-record run_order made.inputs made.rec of.backed (λ done. of.packing))

  make-backed : Reached names before after status found → MatchOption found ⊤ IsSomeRecord
  make-backed (Nothing is none same said) = absent found none
  make-backed (OneFailed x four none part rises unsteady said) = absent found none
  make-backed (OneStarved x is none part said) = absent found none
  make-backed (AllStarved is none all said) = absent found none
  make-backed (Summed made all is writes) = with-record made
  make-backed (Unsummed made all four rises less said) = with-record made

  make-memory : Reached names before after status found → status ≡ 8 → IsLinePrinted before after memory_line
  make-memory (Nothing is none same said) eight = said
  make-memory (OneFailed x four none part rises unsteady said) eight = absurd (omega arith)
  make-memory (OneStarved x is none part said) eight = said
  make-memory (AllStarved is none all said) eight = said
  make-memory (Summed made all is writes) eight = absurd (never (undecided_of made.rec.steps) status 8 is eight refl)
  make-memory (Unsummed made all four rises less said) eight = absurd (omega arith)

  make-failed : Reached names before after status found → status ≡ 4 → HasRisen before.faults after.faults ⊎ HasRisen before.sink_faults after.sink_faults
  make-failed way four = elim (make-unwritten way four) [
    | inl unmade ↦ inl unmade.risen
    | inr unsaid ↦ inr unsaid.failed
  ]

  -- ---- all promises

  pub make-promises : Reached names before after status found → MakePromises names before after status found
  make-promises way = record {
    statuses = make-statuses way;
    failures = record {
      unread = λ three. absurd (off (0 ∷ 1 ∷ 4 ∷ 8 ∷ []) status 3 (make-statuses way) three refl);
      unwritten = make-failed way;
      memory = make-memory way;
    };
    backed = make-backed way;
    stored = λ files. make-stored files way;
    done = make-done way;
    decided = make-decided way;
    unwritten = make-unwritten way;
    unstored = λ files. make-unstored files way;
    summary_unwritten = λ files. make-unsaid files way;
    steady_never_fails = make-surely way;
    unrecorded = make-unrecorded way;
    out_of_memory = λ files. make-starved files way;
    others = λ files. make-others files way;
  }
