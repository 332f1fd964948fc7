-- How far `make` came, from how it ends.
use Rattle.std.proofs.Common.{◌≡◌, ◌≢◌, ◌<◌, ◌∙◌, ℕ, true, inl, inr, List, [], ◌∷◌, length, sym, ap, subst, Option, Some, None}
use Rattle.std.specs.Prelude.{Ok, MatchOption}
use Rattle.outside_io.specs.Faults.{HasRisen}
use Rattle.outside_io.specs.Files.{StoredFile}
use Rattle.outside_io.specs.Loads.{Writes}
use Rattle.outside_io.specs.declared.folder.StoreErr.TheVariants.{Failed, NoMemory}
use Rattle.auction_core.specs.declared.record.Record.{Record}
use Rattle.auction_core.specs.Backed.{undecided_of}
use Rattle.scenario_make.specs.GeneratedFiles.{generated_domains, generated_rows, generated_scenario_text}
use Rattle.commands.specs.Delivery.{AreAllStored, AreStored, IsStored, NamedText, StopsAtOne}
use Rattle.commands.specs.Delivery.IsNotStored.{Unwritten, OutOfRoom as NoRoom}
use Rattle.commands.specs.Delivery.IsPrinted.{Written, CutShort}
use Rattle.commands.specs.Ends.{MakeEnds}
use Rattle.commands.specs.Ends.MakeEnds.{MakeOutOfMemory, MakeStopped, AuctionOutOfMemory, MakeResult}
use Rattle.commands.specs.Make.{HasRun, make_inputs, make_texts}
use Rattle.commands.specs.MakePromises.{AreMakeFilesStored, IsMakeRun, make_summary}
use Rattle.commands.specs.Outside.{Outside, IsLinePrinted}
use Rattle.commands.specs.Records.{done_status}
use Rattle.commands.specs.Messages.{memory_line, unwritten_line}
use Rattle.command_words.specs.Words.{MakeNames, make, repeated_by}
use Rattle.commands.proofs.DeliveryLemmas.{AreApart, IsPart, LeavesAll, LeavesPart, all-more, all-none, part-here, up-more}
use Rattle.commands.proofs.OutputNames.{own-made}
use Rattle.commands.proofs.MessageLemmas.{rises-before}

-- ---- the stores

-- after stores the folder is as steady as before, and the sink is unchanged
record IsBehind (before between : Outside) : Type 0 where
  pub steady : between.steady ≡ before.steady
  pub held : between.held ≡ before.held
  pub sink_faults : between.sink_faults ≡ before.sink_faults
  pub sure : between.sure ≡ before.sure

behind : (xs : List NamedText) (before between : Outside) → AreAllStored xs before between → IsBehind before between
behind [] before between same = record {
  steady = ap (λ (o : Outside). o.steady) same;
  held = ap (λ (o : Outside). o.held) same;
  sink_faults = ap (λ (o : Outside). o.sink_faults) same;
  sure = ap (λ (o : Outside). o.sure) same;
}
behind (x ∷ xs) before between d =
    let s : IsStored x before d.0 = d.1 in
    let rest : IsBehind d.0 between = behind xs d.0 between d.2 in
    record {
      steady = rest.steady ∙ s.steady;
      held = rest.held ∙ s.held;
      sink_faults = rest.sink_faults ∙ s.sink_faults;
      sure = rest.sure ∙ s.sure;
    }

stored-all : (xs : List NamedText) (before between : Outside) → AreAllStored xs before between → LeavesAll xs before between
stored-all [] before between same = all-none before between (ap (λ (o : Outside). o.files) same)
stored-all (x ∷ xs) before between d = all-more x xs before d.0 between d.1 (stored-all xs d.0 between d.2)

-- how stores end if not all were done: one failed, or memory ran out
data Stopped (xs : List NamedText) (before after : Outside) (status : ℕ) : Type 0 where
  Failing : (x : NamedText) → status ≡ 4 → LeavesPart xs x before after → HasRisen before.faults after.faults → before.steady ≢ true →
      IsLinePrinted before after (unwritten_line x.name) → Stopped xs before after status
  Starving : (x : NamedText) → status ≡ 8 → LeavesPart xs x before after → IsLinePrinted before after memory_line → Stopped xs before after status

stopped-more : (x : NamedText) (xs : List NamedText) (before next after : Outside) (status : ℕ) → IsStored x before next → Stopped xs next after status → Stopped (x ∷ xs) before after status
stopped-more x xs before next after status s (Failing y four part rises unsteady said) =
    Failing y four (up-more x y xs before next after s part) (rises-before before.faults next.faults after.faults s.faults rises) (λ steady. unsteady (s.steady ∙ steady)) (rw (s.held, s.sink_faults) at said)
stopped-more x xs before next after status s (Starving y eight part said) =
    Starving y eight (up-more x y xs before next after s part) (rw (s.held, s.sink_faults) at said)

stopped-of : (xs : List NamedText) (before after : Outside) (status : ℕ) → StopsAtOne xs before after status → Stopped xs before after status
stopped-of [] before after status none = absurd none
stopped-of (x ∷ xs) before after status (inl d) = stopped-more x xs before d.0 after status d.1 (stopped-of xs d.0 after status d.2)
stopped-of (x ∷ xs) before after status (inr (Unwritten four stores rises unsteady said)) = Failing x four (part-here x xs Failed before after stores) rises unsteady said
stopped-of (x ∷ xs) before after status (inr (NoRoom eight stores said)) = Starving x eight (part-here x xs NoMemory before after stores) said

-- ---- how far it came

-- in a modelled folder the texts were stored up to this one
abbrev pub MakesPart : MakeNames → NamedText → Outside → Outside → Type 0
MakesPart names x before after = (files : List StoredFile) → before.files ≡ Some files → IsPart files (make_texts names) x after

-- in a modelled folder all of them were stored
abbrev pub MakesAll : MakeNames → Outside → Outside → Type 0
MakesAll names before after = (files : List StoredFile) → before.files ≡ Some files → AreMakeFilesStored files names after

-- How far it came: nothing was stored; a store failed, or memory ran out at it; all was stored, and memory ran out; or the auction
-- was carried out, and its summary written or not.
pub data Reached (names : MakeNames) (before after : Outside) (status : ℕ) (found : Option Record) : Type 0 where
  Nothing : status ≡ 8 → found ≡ None → after.files ≡ before.files → IsLinePrinted before after memory_line → Reached names before after status found
  OneFailed : (x : NamedText) → status ≡ 4 → found ≡ None → MakesPart names x before after → HasRisen before.faults after.faults → before.steady ≢ true →
      IsLinePrinted before after (unwritten_line x.name) → Reached names before after status found
  OneStarved : (x : NamedText) → status ≡ 8 → found ≡ None → MakesPart names x before after → IsLinePrinted before after memory_line → Reached names before after status found
  AllStarved : status ≡ 8 → found ≡ None → MakesAll names before after → IsLinePrinted before after memory_line → Reached names before after status found
  Summed : (made : IsMakeRun names found) → MakesAll names before after → status ≡ done_status (undecided_of made.rec.steps) →
      Writes before.held after.held (make_summary made) (Ok tt) → Reached names before after status found
  Unsummed : (made : IsMakeRun names found) → MakesAll names before after → status ≡ 4 → HasRisen before.sink_faults after.sink_faults →
      before.sure < length (make_summary made) → IsLinePrinted before after (make_summary made) → Reached names before after status found

abbrev made-run : (names : MakeNames) (found : Option Record) (rec : Record) (summary : List ℕ) → HasRun (make_inputs names.seed names.size) rec summary → found ≡ Some rec → IsMakeRun names found
made-run names found rec summary run kept = record {
  inputs = run.inputs;
  accepted = run.accepted;
  nobody = run.nobody;
  rec = rec;
  recorded = kept;
  auction = run.auction;
}

module _ (names : MakeNames) (before after : Outside) (status : ℕ) (found : Option Record) where
  apart : repeated_by (make names) ≡ None → AreApart (make_texts names)
  apart once = own-made names (generated_domains names.size) (generated_rows names.seed names.size) (generated_scenario_text names.seed names.size) once

  -- if all was stored before, and no file is touched afterwards
  all-made : (between : Outside) → AreAllStored (make_texts names) before between → after.files ≡ between.files → repeated_by (make names) ≡ None → MakesAll names before after
  all-made between stored same once files modelled =
      subst (λ o. MatchOption o ⊥ (λ new. AreStored files new (make_texts names))) (sym same) (stored-all (make_texts names) before between stored files modelled (apart once))

  from-stopped : Stopped (make_texts names) before after status → found ≡ None → repeated_by (make names) ≡ None → Reached names before after status found
  from-stopped (Failing x four part rises unsteady said) none once = OneFailed x four none (λ files modelled. part files modelled (apart once)) rises unsteady said
  from-stopped (Starving x eight part said) none once = OneStarved x eight none (λ files modelled. part files modelled (apart once)) said

  pub reached : MakeEnds names before after status found → repeated_by (make names) ≡ None → Reached names before after status found
  reached (MakeOutOfMemory s) once = Nothing s.status_is s.found_is s.files s.line
  reached (MakeStopped stops none) once = from-stopped (stopped-of (make_texts names) before after status stops) none once
  reached (AuctionOutOfMemory between stored s) once =
      let b = behind (make_texts names) before between stored in
      AllStarved s.status_is s.found_is (all-made between stored s.files once) (rw (b.held, b.sink_faults) at s.line)
  reached (MakeResult between rec summary stored run kept (Written is same writes)) once =
      let b = behind (make_texts names) before between stored in
      Summed (made-run names found rec summary run kept) (all-made between stored same once) is
      (subst (λ z. Writes before.held after.held z (Ok tt)) run.summary_is (subst (λ z. Writes z after.held summary (Ok tt)) b.held writes))
  reached (MakeResult between rec summary stored run kept (CutShort four same rises less said)) once =
      let b = behind (make_texts names) before between stored in
      Unsummed (made-run names found rec summary run kept) (all-made between stored same once) four
      (subst (λ z. HasRisen z after.sink_faults) b.sink_faults rises)
      (subst (λ z. before.sure < length z) run.summary_is (subst (λ z. z < length summary) b.sure less))
      (subst (λ z. IsLinePrinted before after z) run.summary_is (rw (b.held, b.sink_faults) at said))
