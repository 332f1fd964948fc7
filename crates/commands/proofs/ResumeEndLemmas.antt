-- How `resume` ends, from the results of its parts; and what the beginning that it continues says of the start.
use Rattle.std.proofs.Common.{◌≡◌, ◌⊎◌, ◌≤◌, ◌∙◌, ◌++◌, ℕ, Bool, true, false, inl, inr, List, if◌then◌else◌, refl, sym, ap, subst, append_assoc, arith}
use Rattle.std.specs.Prelude.{Option, Some, None, Ok, Err, Result, MatchOption, nat_le, ⊤}
use Rattle.std.specs.List.{list_any}
use Rattle.std.proofs.lemmas.Bool.Decides.{nat_tests}
use Rattle.std.proofs.lemmas.List.Folds.{list_any-append}
use Rattle.std.proofs.lemmas.Bool.{or_from}
use Rattle.outside_io.specs.Files.{StoredFile}
use Rattle.outside_io.specs.declared.folder.LoadErr.{LoadErr}
use Rattle.outside_io.specs.declared.folder.LoadErr.TheVariants.{Failed, TooLong, NoMemory as NoLoad}
use Rattle.pack_defs.specs.Book.{BookView}
use Rattle.pack_defs.specs.declared.order.Order.{Order}
use Rattle.pack_defs.specs.declared.scenario.Scenario.{Scenario}
use Rattle.cert_types.specs.declared.answer.Place.{Place}
use Rattle.auction_core.specs.declared.prefix.Prefix.{Prefix}
use Rattle.auction_core.specs.declared.prefix.ShownWhy.{ShownWhy}
use Rattle.auction_core.specs.declared.record.Ending.{Ending}
use Rattle.auction_core.specs.declared.record.Ending.TheVariants.{Done}
use Rattle.auction_core.specs.declared.record.Record.{Record}
use Rattle.auction_core.specs.declared.record.Shown.{Shown}
use Rattle.auction_core.specs.declared.record.Shown.TheVariants.{Empty, Fits, Same, NoChannel, Refuted, Outside as ByProof, Undecided}
use Rattle.auction_core.specs.declared.record.Step.{Step}
use Rattle.auction_core.specs.Auction.{AuctionView}
use Rattle.auction_core.specs.Backed.{IsBacked, ending_of, is_outside}
use Rattle.auction_core.specs.LogNumbers.{steps_in}
use Rattle.auction_core.specs.NotShown.{NotShown, as_transcript, not_kept, not_shown, order_kept, start_fault, started_fault, step_fault_or, within_steps}
use Rattle.auction_core.specs.Postings.{ContinuesIn}
use Rattle.auction_core.specs.Prefix.{resumed}
use Rattle.auction_core.specs.Rule.{IsAuction}
use Rattle.auction_core.proofs.Prefixes.{resumed-goes}
use Rattle.transcript_text.specs.declared.error.TextErr.{TextErr}
use Rattle.transcript_text.specs.declared.error.TextErr.TheVariants.{Version, BadLine, Truncated, NoMemory as NoRoom}
use Rattle.transcript_text.specs.PrefixReading.{prefix_of}
use Rattle.transcript_text.specs.Steps.{Fails}
use Rattle.commands.specs.declared.messages.fault.TranscriptFault.TheVariants.{Unshown}
use Rattle.commands.specs.declared.inputs.Inputs.{Inputs}
use Rattle.commands.specs.declared.shown.RecordErr.{RecordErr}
use Rattle.commands.specs.declared.shown.RecordErr.TheVariants.{Fault, NoMemory}
use Rattle.commands.specs.Ends.{AreInputsOf, Concludes, EndsOutOfMemory, IsTextHeld}
use Rattle.commands.specs.Ends.IsNotLoaded.{Unloaded, LongText}
use Rattle.commands.specs.Outside.{Outside}
use Rattle.commands.specs.ResumeEnds.{IsResumable, ResumeEnds}
use Rattle.commands.specs.ResumeEnds.ResumeEnds.{ResumeOutOfMemory, PrefixNotLoaded, PrefixRejected, Continued}
use Rattle.commands.specs.Resume.{ContinuesFrom, IsResumption, IsAfterPrefix, begun, kept_prefix, kept_or}
use Rattle.commands.specs.Shown.{ExplainsRecordErr, ExplainsLoad, IsTextRead, not_read}
use Rattle.commands.specs.Verified.{CanBeNamed}
use Rattle.command_words.specs.Words.{ResumeNames, resume_input_names}
use Rattle.commands.proofs.MessageLemmas.{rises-before}

-- ---- the beginning

-- The auction in the state after the kept steps.
pub stands-behind : (inputs : Inputs) (kept : Prefix) (auction : AuctionView) → not_kept inputs.scenario inputs.book kept ≡ None → IsAfterPrefix inputs kept auction → IsResumption inputs (kept_prefix inputs (Ok kept)) (Ok auction)
stands-behind inputs kept auction none behind = (kept, ap (λ o. kept_or o kept) none, behind)

-- The first kept step that is not shown.
pub not-behind : (inputs : Inputs) (kept : Prefix) (step : ℕ) (why : ShownWhy) → not_kept inputs.scenario inputs.book kept ≡ Some (record { step = step; why = why }) → IsResumption inputs (kept_prefix inputs (Ok kept)) (Err (Fault (Unshown step why)))
not-behind inputs kept step why is = ap (λ o. kept_or o kept) is

-- The result for what was read is the result for the text.
pub read-begun : (inputs : Inputs) (text : List ℕ) (kept : Prefix) (result : Result AuctionView RecordErr) → prefix_of inputs.scenario inputs.book text ≡ Ok kept →
    IsResumption inputs (kept_prefix inputs (Ok kept)) result → IsResumption inputs (begun inputs text) result
unfolding begun
read-begun inputs text kept result is h = subst (λ o. IsResumption inputs (kept_prefix inputs o) result) (sym is) h

-- A text that was not read.
pub unread-begun : (inputs : Inputs) (text : List ℕ) (why : TextErr) → Fails why (prefix_of inputs.scenario inputs.book text) → IsResumption inputs (begun inputs text) (Err (not_read why))
unfolding begun
unread-begun inputs text Version is = ap (kept_prefix inputs) is
unread-begun inputs text (BadLine n) is = ap (kept_prefix inputs) is
unread-begun inputs text Truncated is = ap (kept_prefix inputs) is
unread-begun inputs text NoRoom is = tt

-- ---- the endings before an auction continues

-- The ending of a beginning that was not loaded.
pub prefix-unloaded : (names : ResumeNames) (before after : Outside) (status : ℕ) (found : Option Record) (inputs : Inputs) (why : LoadErr) (modelled : Option (List StoredFile)) (steady : Bool) (faults come : ℕ) →
    AreInputsOf names.run_files.inputs before inputs → modelled ≡ before.files → steady ≡ before.steady → before.faults ≤ faults →
    IsTextRead inputs modelled steady faults after.faults come names.prefix (Err why) →
    ExplainsLoad names.prefix why before.held after.held before.sink_faults after.sink_faults status →
    found ≡ None → after.files ≡ before.files → ResumeEnds names before after status found
prefix-unloaded names before after status found inputs Failed modelled steady faults come are is same kept h e none files =
    PrefixNotLoaded inputs are (Unloaded e.0 (rises-before before.faults faults after.faults kept h.0) (λ own at still. h.1 own (is ∙ at) (same ∙ still)) e.1) none files
prefix-unloaded names before after status found inputs TooLong modelled steady faults come are is same kept h e none files =
    PrefixNotLoaded inputs are (LongText e.0 (λ own at. h own (is ∙ at)) e.1) none files
prefix-unloaded names before after status found inputs NoLoad modelled steady faults come are is same kept h e none files =
    ResumeOutOfMemory (record { status_is = e.0; found_is = none; line = e.1; files = files })

-- The ending of a beginning that no auction continues.
pub not-begun : (names : ResumeNames) (before after : Outside) (status : ℕ) (found : Option Record) (inputs : Inputs) (text : List ℕ) (why : RecordErr) →
    AreInputsOf names.run_files.inputs before inputs → CanBeNamed inputs → IsTextHeld (resume_input_names names) before text → IsResumption inputs (begun inputs text) (Err why) →
    ExplainsRecordErr names.prefix why before.held after.held before.sink_faults after.sink_faults status →
    found ≡ None → after.files ≡ before.files → ResumeEnds names before after status found
not-begun names before after status found inputs text (Fault fault) are can held is e none files = PrefixRejected inputs text fault are can held is e.0 none e.1 files
not-begun names before after status found inputs text NoMemory are can held is e none files =
    ResumeOutOfMemory (record { status_is = e.0; found_is = none; line = e.1; files = files })

-- ---- the auction that continues

start-kept : (o : Option Shown) (rec : Record) → ((shown : Shown) → o ≡ Some shown → rec.start ≡ shown) → MatchOption o ⊤ (λ shown. rec.start ≡ shown)
start-kept None rec h = tt
start-kept (Some shown) rec h = h shown refl

-- A record that continues the auction continues what was kept.
pub goes-from : (inputs : Inputs) (kept : Prefix) (auction : AuctionView) (rec : Record) → IsAuction inputs.scenario inputs.book → IsAfterPrefix inputs kept auction → ContinuesIn auction.state rec → ContinuesFrom kept rec
goes-from inputs kept auction rec a behind goes =
    let sc = inputs.scenario in
    let book = inputs.book in
    let order = order_kept kept in
    let steps : List Step = steps_in kept.steps in
    let outside_step : Step → Bool = λ x. is_outside x.shown in
    let g = resumed-goes sc book order kept.start steps a behind.is_prefix in
    let h : ContinuesIn (resumed sc book order kept.start steps) rec = subst (λ state. ContinuesIn state rec) behind.state goes in
    record {
      order = h.order ∙ g.order;
      start = start-kept kept.start rec (λ shown is. h.start shown (g.start shown is));
      more = g.more ++ h.more;
      steps = h.steps ∙ (ap (λ xs. xs ++ h.more) g.steps ∙ append_assoc steps g.more h.more);
      own = list_any-append outside_step g.more h.more ∙ or_from (list_any outside_step g.more) (list_any outside_step h.more) g.own h.own;
    }

-- The ending of an auction that continues.
pub went-on : (names : ResumeNames) (before between after : Outside) (status : ℕ) (found : Option Record) (inputs : Inputs) (auction : AuctionView) (rec : Record) →
    IsResumable names before inputs auction → between ≡ before → ((kept : Prefix) → IsAfterPrefix inputs kept auction → ContinuesFrom kept rec) →
    EndsOutOfMemory between after status found ⊎ Concludes rec.order names.run_files inputs rec between after status found → ResumeEnds names before after status found
went-on names before between after status found inputs auction rec r same goes (inl s) = ResumeOutOfMemory (subst (λ (b : Outside). EndsOutOfMemory b after status found) same s)
went-on names before between after status found inputs auction rec r same goes (inr c) =
    let from : ContinuesFrom r.kept rec = goes r.kept r.behind in
    Continued inputs r.text r.kept rec r.accepted r.named r.held r.sound from
    (subst (λ (b : Outside). Concludes (order_kept r.kept) names.run_files inputs rec b after status found) same
    (subst (λ o. Concludes o names.run_files inputs rec between after status found) from.order c))

-- ---- the start of a beginning

-- What is kept is valid.
none-of-kept : (o : Option NotShown) (own kept : Prefix) → kept_or o own ≡ Ok kept → (o ≡ None) × (own ≡ kept)
none-of-kept None own kept e = (refl, cc)
none-of-kept (Some first) own kept e = cc

kept-read : (inputs : Inputs) (r : Result Prefix TextErr) (kept : Prefix) → kept_prefix inputs r ≡ Ok kept → not_kept inputs.scenario inputs.book kept ≡ None
kept-read inputs (Ok own) kept e =
    let both = none-of-kept (not_kept inputs.scenario inputs.book own) own kept e in
    subst (λ p. not_kept inputs.scenario inputs.book p ≡ None) both.1 both.0
kept-read inputs (Err why) kept e = cc

pub begun-none : (inputs : Inputs) (text : List ℕ) (kept : Prefix) → begun inputs text ≡ Ok kept → not_kept inputs.scenario inputs.book kept ≡ None
unfolding begun
begun-none inputs text kept e = kept-read inputs (prefix_of inputs.scenario inputs.book text) kept e

-- A start that is kept fits.
start-fits : (sc : Scenario) (book : BookView) (shown : Shown) → start_fault sc book shown ≡ None → ending_of shown ≡ Done
start-fits sc book Empty none = refl
start-fits sc book (Fits delta) none = refl
start-fits sc book Same none = cc
start-fits sc book (NoChannel s) none = cc
start-fits sc book (Refuted w how) none = cc
start-fits sc book (ByProof proof) none = cc
start-fits sc book (Undecided xs) none = cc

-- If the steps up to some step are valid, the start is.
no-start-fault : (o : Option Place) (rest : Option NotShown) (ended : Bool) (n : ℕ) → (if ended then step_fault_or 0 o rest else within_steps n (step_fault_or 0 o rest)) ≡ None → o ≡ None
no-start-fault None rest ended n e = refl
no-start-fault (Some place) rest true n e = cc
no-start-fault (Some place) rest false n e =
    let first : nat_le 0 n ≡ true = grind (arith, nat_tests) in
    cc (rw first at e)

kept-start : (sc : Scenario) (book : BookView) (kept : Prefix) (o : Option Shown) (shown : Shown) → kept.start ≡ o → not_kept sc book kept ≡ None → o ≡ Some shown → ending_of shown ≡ Done
unfolding not_kept not_shown
kept-start sc book kept None shown is none e = cc
kept-start sc book kept (Some own) shown is none e =
    let same : own ≡ shown = cc in
    let fault : started_fault sc book kept.ended (as_transcript kept own) ≡ None = rw is at none in
    subst (λ s. ending_of s ≡ Done) same (start-fits sc book own (no-start-fault (start_fault sc book own) _ kept.ended _ fault))

-- If the auction ended at its start, the beginning that it continued has no start.
pub no-verdict : (inputs : Inputs) (text : List ℕ) (kept : Prefix) (rec : Record) (order : Order) (ending : Ending) → begun inputs text ≡ Ok kept → ContinuesFrom kept rec → IsBacked inputs.scenario inputs.book order rec → rec.ending ≡ ending → (ending ≡ Done → ⊥) →
    kept.start ≡ None
no-verdict inputs text kept rec order ending is goes backed ends other = by kept.start refl goes.start
  where
    by : (o : Option Shown) → kept.start ≡ o → MatchOption o ⊤ (λ shown. rec.start ≡ shown) → kept.start ≡ None
    by None e h = e
    by (Some shown) e h =
        let done : ending_of shown ≡ Done = kept-start inputs.scenario inputs.book kept (Some shown) shown e (begun-none inputs text kept is) refl in
        absurd (other (sym ends ∙ (backed.ending ∙ (ap ending_of h ∙ done))))
