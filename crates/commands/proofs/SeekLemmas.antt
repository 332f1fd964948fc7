-- The promises of `seek` follow from how it ends.
use Rattle.std.proofs.Common.{◌≡◌, ◌≢◌, ◌⊎◌, ◌<◌, ◌≤◌, ◌-◌, ◌∙◌, if◌then◌else◌, ℕ, Bool, true, false, inl, inr, List, [], ◌∷◌, length, refl, sym, ap, subst, arith, Option, Some, None}
use Rattle.std.specs.Prelude.{Err, IsFalse, IsTrue, MatchOption, Ok, Result, find, option_map, ⊤}
use Rattle.std.proofs.lemmas.Bool.{true≢false}
use Rattle.std.proofs.lemmas.List.Elements.{All-nil}
use Rattle.pack_defs.specs.Lists.{is_empty, is_in}
use Rattle.pack_defs.specs.Book.{BookView, cut_book, domain_of}
use Rattle.pack_defs.specs.Prices.{start_set}
use Rattle.pack_defs.specs.Scenario.{IsWithinLimits, facilities}
use Rattle.pack_defs.specs.declared.scenario.Scenario.{Scenario}
use Rattle.outside_io.specs.Faults.{HasRisen}
use Rattle.outside_io.specs.Files.{StoredFile}
use Rattle.outside_io.specs.Loads.{Writes}
use Rattle.cert_types.specs.declared.outside.OutsideProof.{OutsideProof}
use Rattle.auction_core.specs.declared.record.Ending.TheVariants.{StartRefuted}
use Rattle.auction_core.specs.declared.record.Record.{Record}
use Rattle.auction_core.specs.declared.record.Shown.{Shown}
use Rattle.auction_core.specs.declared.record.Shown.TheVariants.{Empty, Fits, Same, NoChannel, Refuted, Outside as ByProof, Undecided}
use Rattle.auction_core.specs.Backed.{IsBacked, IsStartShown, ending_of}
use Rattle.auction_core.proofs.StartShown.{open-some}
use Rattle.result_text.specs.ChannelsText.{channels_text}
use Rattle.scenario_json.specs.declared.join.JoinErr.{JoinErr}
use Rattle.scenario_json.specs.declared.join.JoinErr.TheVariants.{MissingDomain, NoMemory as NoSpace}
use Rattle.scenario_json.specs.StartOnly.{start_only}
use Rattle.scenario_json.proofs.StartLemmas.{only-starts}
use Rattle.scenario_json.specs.Join.{book_unless, first_missing, joined}
use Rattle.target_seek.specs.TopChannels.{SeekBase, book_at, fits_at}
use Rattle.commands.specs.declared.inputs.Inputs.{Inputs}
use Rattle.commands.specs.declared.inputs.input_file.Stop.{Stop}
use Rattle.commands.specs.declared.inputs.input_file.Stop.TheVariants.{CannotRead, NoMemory, Refused}
use Rattle.commands.specs.declared.inputs.sources.Sources.{Sources}
use Rattle.commands.specs.declared.top_channel_runs.LeastTop.{LeastTop}
use Rattle.commands.specs.Delivery.IsNotStored.{Unwritten, OutOfRoom as NoRoom}
use Rattle.commands.specs.Delivery.IsPrinted.{Written, CutShort}
use Rattle.commands.specs.Delivery.{AllOthersUnchanged, AreStored, Delivers, NamedText, named}
use Rattle.commands.specs.Ends.{AreInputsOf, AreSought, SeekEnds, IsStatusOr}
use Rattle.commands.specs.Ends.SeekEnds.{SeekStopped, SeekOutOfMemory, NoTop, TopOpen, TopFound}
use Rattle.commands.specs.Inputs.{Agrees, CountsFault, RisesAt, and_then, inputs_by, inputs_from, inputs_of, sources_of, with_owners_file}
use Rattle.commands.specs.Outside.{Outside, IsLinePrinted}
use Rattle.commands.specs.Promises.{IsSomeRecord}
use Rattle.commands.specs.Records.{IsOpenRecordOf, IsRefutedRecordOf, run_order}
use Rattle.commands.specs.Messages.{memory_line, unwritten_line}
use Rattle.commands.specs.Seek.{IsOneBelow, IsLeastTop, IsSeekable, base_of, inputs_at, joinable, seekable_of, top_status, top_text}
use Rattle.commands.specs.SeekPromises.{IsNoTop, IsTopOf, IsTopOpen, SeekPromises, seek_texts, shows_unfit}
use Rattle.command_words.specs.Words.{InputNames, SeekNames, seek_inputs}
use Rattle.commands.proofs.DeliveryLemmas.{AreApart, Ended, IsPart, all-more, all-none, ended-of, for-told, others-up-to}
use Rattle.commands.proofs.DeliveryLemmas.Ended.{Both, NotSaid, NotStored, OutOfRoom}
use Rattle.commands.proofs.Halts.{Reading, halted-held, stopped-memory, stopped-statuses, stopped-unread, reads-inputs}
use Rattle.commands.proofs.Halts.Reading.{Halted, Short, Went}
use Rattle.commands.proofs.ReadingLemmas.{then-ok}
use Rattle.commands.proofs.RunLemmas.{absent, some-record}
use Rattle.commands.proofs.StartLemmas.{nobody-fits}
use Rattle.commands.proofs.Statuses.{apart-lists, off, one-of, within}
use Rattle.commands.proofs.TopChannelRunLemmas.{seek-channels, starts-fit}
use Rattle.target_seek.proofs.AboveLemmas.{fits-above}

-- ---- what is read

-- A joined book is of a scenario whose stations all have a row.
pub joined-book : (s : Sources) (book : BookView) → joined s.scenario s.domains s.pairs.list ≡ Ok book →
    (first_missing (facilities s.scenario) s.domains ≡ None) × (book ≡ cut_book s.scenario.top (facilities s.scenario) s.domains s.pairs.list)
unfolding joined
joined-book s book e =
    let cut = cut_book s.scenario.top (facilities s.scenario) s.domains s.pairs.list in
    go cut (first_missing (facilities s.scenario) s.domains) refl e
  where
    go : (cut : BookView) (o : Option ℕ) → first_missing (facilities s.scenario) s.domains ≡ o → book_unless o cut ≡ Ok book → (first_missing (facilities s.scenario) s.domains ≡ None) × (book ≡ cut)
    go cut None is k = let same : book ≡ cut = cc in (is, same)
    go cut (Some n) is k = cc

-- The inputs that these sources make.
whole_of : Sources → Inputs
whole_of s = record {
  scenario = s.scenario;
  book = cut_book s.scenario.top (facilities s.scenario) s.domains s.pairs.list;
  self_pairs = s.pairs.self_pairs;
  strangers = s.pairs.strangers;
}

inputs-whole : (s : Sources) (inputs : Inputs) → inputs_by s ≡ Ok inputs → inputs ≡ whole_of s
unfolding whole_of
inputs-whole s inputs e = go (joined s.scenario s.domains s.pairs.list) refl e
  where
    go : (r : Result BookView JoinErr) → joined s.scenario s.domains s.pairs.list ≡ r → inputs_from s.scenario s.pairs r ≡ Ok inputs → inputs ≡ whole_of s
    go (Ok book) is k =
        let own : inputs ≡ record { scenario = s.scenario; book = book; self_pairs = s.pairs.self_pairs; strangers = s.pairs.strangers } = cc in
        let cut = joined-book s book is in
        own ∙ ap (λ b. record { scenario = s.scenario; book = b; self_pairs = s.pairs.self_pairs; strangers = s.pairs.strangers }) cut.1
    go (Err (MissingDomain n)) is k = cc
    go (Err NoSpace) is k = cc

-- Sources that were read for a search were read as inputs.
sought-inputs : (files : List StoredFile) (names : SeekNames) (sources : Sources) → seekable_of files (seek_inputs names) ≡ Ok sources → inputs_of files (seek_inputs names) ≡ Ok (whole_of sources)
unfolding inputs_of
sought-inputs files names sources e =
    let (s, read, made) = then-ok (sources_of files (seek_inputs names)) joinable sources e in
    let (inputs, held, same) = then-ok {A = Inputs} {B = Sources} (inputs_by s) (λ inputs. Ok s) sources made in
    let own : s ≡ sources = cc in
    ap (λ r. and_then (and_then r inputs_by) (with_owners_file files None)) read
    ∙ (ap (λ r. and_then r (with_owners_file files None)) held
    ∙ ap Ok (inputs-whole s inputs held ∙ ap whole_of own))

-- What stops the search stops the reading of the inputs.
stop-inputs : (files : List StoredFile) (names : SeekNames) (stop : Stop) → seekable_of files (seek_inputs names) ≡ Err stop → inputs_of files (seek_inputs names) ≡ Err stop
unfolding inputs_of
stop-inputs files names stop e = go (sources_of files (seek_inputs names)) e
  where
    joins : (s : Sources) (r : Result Inputs Stop) → and_then {A = Inputs} {B = Sources} r (λ inputs. Ok s) ≡ Err stop → and_then {A = Inputs} {B = Inputs} r (with_owners_file files None) ≡ Err stop
    joins s (Ok inputs) k = cc
    joins s (Err why) k = let same : why ≡ stop = cc in ap Err same

    go : (r : Result Sources Stop) → and_then r joinable ≡ Err stop → and_then (and_then r inputs_by) (with_owners_file files None) ≡ Err stop
    go (Ok s) k = joins s (inputs_by s) k
    go (Err why) k = let same : why ≡ stop = cc in ap Err same

pub stop-agrees : (files : List StoredFile) (names : SeekNames) (own : InputNames) (steady : Bool) (stop : Stop) → own ≡ seek_inputs names →
    Agrees {A = Sources} {B = Sources} (λ s. s) steady (seekable_of files own) (Err stop) → Agrees {A = Inputs} {B = Inputs} (λ i. i) steady (inputs_of files (seek_inputs names)) (Err stop)
stop-agrees files names own steady stop same h = by stop (subst (λ n. Agrees {A = Sources} {B = Sources} (λ s. s) steady (seekable_of files n) (Err stop)) same h)
  where
    by : (stop : Stop) → Agrees {A = Sources} {B = Sources} (λ s. s) steady (seekable_of files (seek_inputs names)) (Err stop) → Agrees {A = Inputs} {B = Inputs} (λ i. i) steady (inputs_of files (seek_inputs names)) (Err stop)
    by (CannotRead input) k = λ still. stop-inputs files names (CannotRead input) (k still)
    by (Refused why) k = stop-inputs files names (Refused why) k
    by NoMemory k = tt

-- Its fault count is that of the reading.
pub stop-counts : (before now : ℕ) (stop : Stop) → CountsFault {A = Sources} before now (Err stop) → CountsFault {A = Inputs} before now (Err stop)
stop-counts before now stop h = record { kept = h.kept; rises = by stop h.rises }
  where
    by : (stop : Stop) → RisesAt {A = Sources} before now (Err stop) → RisesAt {A = Inputs} before now (Err stop)
    by (CannotRead input) rises = rises
    by (Refused why) rises = rises
    by NoMemory rises = rises

-- What was read, as the reading returns it.
abbrev accepted : Sources → Result Sources Stop
accepted s = Ok s

-- ---- no station starts on air; certificates of an unfit start

module _ (base : SeekBase) (can : IsSeekable base) (none : start_set base.scenario ≡ []) where
  -- No station starts on air up to any top channel.
  nobody-starts : (top : ℕ) → start_set (start_only base.scenario top) ≡ []
  nobody-starts top = let limits : IsWithinLimits base.scenario = can.limits in only-starts base.scenario top limits.ascend ∙ none

  nobody-fits-at : (top : ℕ) → fits_at base top ≡ true
  nobody-fits-at top = nobody-fits (book_at base top) (start_set base.scenario) none

  nobody-unfit : (top : ℕ) (rec : Record) → IsRefutedRecordOf (inputs_at base top) rec → ⊥
  nobody-unfit top rec of = true≢false (sym (nobody-fits-at top) ∙ starts-fit base top false can of.starts)

  nobody-open : (top : ℕ) (rec : Record) → IsOpenRecordOf (inputs_at base top) rec → ⊥
  nobody-open top rec of = open-some (start_only base.scenario top) (book_at base top) run_order rec of.backed of.ending (nobody-starts top)

  -- So the result is 14, and no test of a lesser top is undecided.
  nobody-least : (x : LeastTop) → IsLeastTop base x → (x.top ≡ 14) × (x.is_open ≡ false)
  nobody-least x least = go x.is_open x.below least.lower
    where
      go : (b : Bool) (below : Option Record) → IsOneBelow base x.top b below → (x.top ≡ 14) × (b ≡ false)
      go false None h = (h, refl)
      go false (Some rec) h = absurd (nobody-unfit (x.top - 1) rec h.1)
      go true None h = absurd h
      go true (Some rec) h = absurd (nobody-open (x.top - 1) rec h.1)

-- A start is never settled by a proof from outside.
no-outside : (b : Bool) (lacking : Option ℕ) (proof : OutsideProof) → MatchOption (if b then Some Empty else option_map NoChannel lacking) ⊥ (λ unasked. ByProof proof ≡ unasked) → ⊥
no-outside true lacking proof h = cc
no-outside false None proof h = h
no-outside false (Some s) proof h = cc

-- The certificate of an unfit start set is a station without a channel, or a refutation.
unfit-start : (sc : Scenario) (book : BookView) (rec : Record) → IsBacked sc book run_order rec → rec.ending ≡ StartRefuted → shows_unfit rec.start ≡ true
unfit-start sc book rec of ending = go rec.start of.start (sym of.ending ∙ ending)
  where
    go : (shown : Shown) → IsStartShown sc book shown → ending_of shown ≡ StartRefuted → shows_unfit shown ≡ true
    go Empty is h = cc
    go (Fits delta) is h = cc
    go Same is h = cc
    go (NoChannel s) is h = refl
    go (Refuted worker how) is h = refl
    go (ByProof proof) is h = absurd (no-outside (is_empty (start_set sc)) (find (λ s. is_empty (domain_of book s)) (start_set sc)) proof is)
    go (Undecided receipts) is h = cc

-- The certificate for the top below, if no test was undecided.
shown-below : (base : SeekBase) (x : LeastTop) → IsLeastTop base x → x.is_open ≡ false → MatchOption x.below (x.top ≡ 14) (λ rec. (14 < x.top) × IsTrue (shows_unfit rec.start))
shown-below base x least shut = go x.below (subst (λ b. IsOneBelow base x.top b x.below) shut least.lower)
  where
    go : (below : Option Record) → IsOneBelow base x.top false below → MatchOption below (x.top ≡ 14) (λ rec. (14 < x.top) × IsTrue (shows_unfit rec.start))
    go None h = h
    go (Some rec) h = let of = h.1 in (h.0, unfit-start (start_only base.scenario (x.top - 1)) (book_at base (x.top - 1)) rec of.backed of.ending)

-- ---- a top channel that was found

-- A single text has a name of its own.
single : (x : NamedText) → AreApart (x ∷ [])
single x = (All-nil (λ name. x.name ≢ name), tt)

-- What holds if a top channel was found.
record IsReached (names : SeekNames) (before after : Outside) (status : ℕ) (found below : Option Record) : Type 0 where
  pub of : IsTopOf names before found below
  pub delivered : Delivers (seek_texts names of.x.rec) (top_text of.x.top of.x.is_open) (top_status of.x.is_open) before after status

-- How far a search came: inputs were not read, or memory ran out; it ended at the scenario's own top channel; or one
-- was found.
--
data Came (names : SeekNames) (before after : Outside) (status : ℕ) (found below : Option Record) : Type 0 where
  Nowhere : IsTrue (is_in (3 ∷ 5 ∷ 8 ∷ []) status) → found ≡ None → below ≡ None → after.files ≡ before.files → Came names before after status found below
  ToTop : IsTrue (is_in (6 ∷ 7 ∷ []) status) → MatchOption found ⊤ IsSomeRecord → below ≡ None → after.files ≡ before.files → Came names before after status found below
  Reached : IsReached names before after status found below → Came names before after status found below

top-within : (b : Bool) → IsTrue (is_in (0 ∷ 1 ∷ []) (top_status b))
top-within true = refl
top-within false = refl

never : (b : Bool) (status n : ℕ) → status ≡ top_status b → status ≡ n → is_in (0 ∷ 1 ∷ []) n ≡ false → ⊥
never b status n is at out = off (0 ∷ 1 ∷ []) status n (subst (λ z. IsTrue (is_in (0 ∷ 1 ∷ []) z)) (sym is) (top-within b)) at out

-- The status says whether the test of one channel less is undecided.
closed : (b : Bool) → top_status b ≡ 0 → b ≡ false
closed true h = absurd (omega arith)
closed false h = refl

either : (b : Bool) (status : ℕ) → status ≡ top_status b → (status ≡ 0) ⊎ (status ≡ 1)
either true status h = inr h
either false status h = inl h

module _ (names : SeekNames) (before after : Outside) (status : ℕ) (found below : Option Record) where
  abbrev top-of : (sources : Sources) (x : LeastTop) → AreSought names before sources → IsSeekable (base_of sources) → IsLeastTop (base_of sources) x → found ≡ Some x.rec → below ≡ x.below → IsTopOf names before found below
  top-of sources x are can least is lower = let of = least.auction in record {
    sources = sources;
    sought = are;
    seekable = can;
    x = x;
    least = least;
    recorded = is;
    lower = lower;
    fit = starts-fit (base_of sources) x.top true can of.starts;
    channels = seek-channels (base_of sources) x.top x.rec can of;
  }

  came : SeekEnds names before after status found below → Came names before after status found below
  came (SeekStopped s none alone) = Nowhere (stopped-statuses (seek_inputs names) before after status s) none alone s.files
  came (SeekOutOfMemory s alone) = Nowhere (one-of (3 ∷ 5 ∷ 8 ∷ []) status 8 s.status_is refl) s.found_is alone s.files
  came (NoTop sources rec are can of six kept alone said same) =
      ToTop (one-of (6 ∷ 7 ∷ []) status 6 six refl) (rw kept (some-record run_order (inputs_at (base_of sources) sources.scenario.top) rec of.backed (λ done. cc (sym of.ending ∙ done)))) alone same
  came (TopOpen sources rec are can of seven kept alone said same) =
      ToTop (one-of (6 ∷ 7 ∷ []) status 7 seven refl) (rw kept (some-record run_order (inputs_at (base_of sources) sources.scenario.top) rec of.backed (λ done. cc (sym of.ending ∙ done)))) alone same
  came (TopFound sources x are can least is lower d) = Reached (record {
    of = top-of sources x are can least is lower;
    delivered = d;
  })

  -- The state after its delivery.
  ended : (r : IsReached names before after status found below) → Ended (seek_texts names r.of.x.rec) (top_text r.of.x.top r.of.x.is_open) (top_status r.of.x.is_open) before after status
  ended r = ended-of (seek_texts names r.of.x.rec) (top_text r.of.x.top r.of.x.is_open) (top_status r.of.x.is_open) before after status r.delivered

  reached-statuses : IsReached names before after status found below → IsTrue (is_in (0 ∷ 1 ∷ 4 ∷ 8 ∷ []) status)
  reached-statuses r = go r.of.x.is_open (ended r)
    where
      go : (b : Bool) → Ended (seek_texts names r.of.x.rec) (top_text r.of.x.top r.of.x.is_open) (top_status b) before after status → IsTrue (is_in (0 ∷ 1 ∷ 4 ∷ 8 ∷ []) status)
      go b (Both is all writes) = subst (λ z. IsTrue (is_in (0 ∷ 1 ∷ 4 ∷ 8 ∷ []) z)) (sym is) (within (0 ∷ 1 ∷ []) (0 ∷ 1 ∷ 4 ∷ 8 ∷ []) (top_status b) refl (top-within b))
      go b (NotSaid is all rises less said) = one-of (0 ∷ 1 ∷ 4 ∷ 8 ∷ []) status 4 is refl
      go b (NotStored x among is part rises unsteady said) = one-of (0 ∷ 1 ∷ 4 ∷ 8 ∷ []) status 4 is refl
      go b (OutOfRoom x is part said) = one-of (0 ∷ 1 ∷ 4 ∷ 8 ∷ []) status 8 is refl

  -- At these statuses a top was found.
  reached : SeekEnds names before after status found below → IsTrue (is_in (0 ∷ 1 ∷ 4 ∷ []) status) → IsReached names before after status found below
  reached end h = go (came end)
    where
      go : Came names before after status found below → IsReached names before after status found below
      go (Nowhere s none alone same) = absurd (apart-lists (0 ∷ 1 ∷ 4 ∷ []) (3 ∷ 5 ∷ 8 ∷ []) status refl h s)
      go (ToTop s some alone same) = absurd (apart-lists (0 ∷ 1 ∷ 4 ∷ []) (6 ∷ 7 ∷ []) status refl h s)
      go (Reached r) = r

  seek-statuses : SeekEnds names before after status found below → IsTrue (is_in (0 ∷ 1 ∷ 3 ∷ 4 ∷ 5 ∷ 6 ∷ 7 ∷ 8 ∷ []) status)
  seek-statuses end = go (came end)
    where
      go : Came names before after status found below → IsTrue (is_in (0 ∷ 1 ∷ 3 ∷ 4 ∷ 5 ∷ 6 ∷ 7 ∷ 8 ∷ []) status)
      go (Nowhere s none alone same) = within (3 ∷ 5 ∷ 8 ∷ []) (0 ∷ 1 ∷ 3 ∷ 4 ∷ 5 ∷ 6 ∷ 7 ∷ 8 ∷ []) status refl s
      go (ToTop s some alone same) = within (6 ∷ 7 ∷ []) (0 ∷ 1 ∷ 3 ∷ 4 ∷ 5 ∷ 6 ∷ 7 ∷ 8 ∷ []) status refl s
      go (Reached r) = within (0 ∷ 1 ∷ 4 ∷ 8 ∷ []) (0 ∷ 1 ∷ 3 ∷ 4 ∷ 5 ∷ 6 ∷ 7 ∷ 8 ∷ []) status refl (reached-statuses r)

  seek-unrecorded : SeekEnds names before after status found below → IsTrue (is_in (2 ∷ 3 ∷ 5 ∷ 9 ∷ 10 ∷ []) status) → found ≡ None
  seek-unrecorded end h = go (came end)
    where
      go : Came names before after status found below → found ≡ None
      go (Nowhere s none alone same) = none
      go (ToTop s some alone same) = absurd (apart-lists (2 ∷ 3 ∷ 5 ∷ 9 ∷ 10 ∷ []) (6 ∷ 7 ∷ []) status refl h s)
      go (Reached r) = absurd (apart-lists (2 ∷ 3 ∷ 5 ∷ 9 ∷ 10 ∷ []) (0 ∷ 1 ∷ 4 ∷ 8 ∷ []) status refl h (reached-statuses r))

  seek-backed : SeekEnds names before after status found below → MatchOption found ⊤ IsSomeRecord
  seek-backed end = go (came end)
    where
      go : Came names before after status found below → MatchOption found ⊤ IsSomeRecord
      go (Nowhere s none alone same) = absent found none
      go (ToTop s some alone same) = some
      go (Reached r) =
          let top = r.of in
          let least = top.least in
          let of = least.auction in
          rw top.recorded (some-record run_order (inputs_at (base_of top.sources) top.x.top) top.x.rec of.backed (λ done. of.packing))

  seek-untouched : SeekEnds names before after status found below → found ≡ None → after.files ≡ before.files
  seek-untouched end absent = go (came end)
    where
      go : Came names before after status found below → after.files ≡ before.files
      go (Nowhere s none alone same) = same
      go (ToTop s some alone same) = same
      go (Reached r) = let top = r.of in cc (sym top.recorded ∙ absent)

  seek-ended : SeekEnds names before after status found below → IsTrue (is_in (6 ∷ 7 ∷ []) status) → after.files ≡ before.files
  seek-ended end h = go (came end)
    where
      go : Came names before after status found below → after.files ≡ before.files
      go (Nowhere s none alone same) = same
      go (ToTop s some alone same) = same
      go (Reached r) = absurd (apart-lists (6 ∷ 7 ∷ []) (0 ∷ 1 ∷ 4 ∷ 8 ∷ []) status refl h (reached-statuses r))

  seek-alone : SeekEnds names before after status found below → IsTrue (is_in (3 ∷ 5 ∷ 6 ∷ 7 ∷ []) status) → below ≡ None
  seek-alone end h = go (came end)
    where
      go : Came names before after status found below → below ≡ None
      go (Nowhere s none alone same) = alone
      go (ToTop s some alone same) = alone
      go (Reached r) = absurd (apart-lists (3 ∷ 5 ∷ 6 ∷ 7 ∷ []) (0 ∷ 1 ∷ 4 ∷ 8 ∷ []) status refl h (reached-statuses r))

  -- ---- the endings

  on : IsReached names before after status found below → IsTrue (is_in (0 ∷ 1 ∷ 4 ∷ 6 ∷ 7 ∷ 8 ∷ []) status)
  on r = within (0 ∷ 1 ∷ 4 ∷ 8 ∷ []) (0 ∷ 1 ∷ 4 ∷ 6 ∷ 7 ∷ 8 ∷ []) status refl (reached-statuses r)

  held : (sources : Sources) → AreSought names before sources → AreInputsOf (seek_inputs names) before (whole_of sources)
  held sources are files modelled = sought-inputs files names sources (are files modelled)

  seek-reading : SeekEnds names before after status found below → Reading (seek_inputs names) before after status
  seek-reading (SeekStopped s none alone) = Halted s
  seek-reading (SeekOutOfMemory s alone) = Short s.status_is
  seek-reading (NoTop sources rec are can of six kept alone said same) = Went (whole_of sources) (held sources are) (one-of (0 ∷ 1 ∷ 4 ∷ 6 ∷ 7 ∷ 8 ∷ []) status 6 six refl)
  seek-reading (TopOpen sources rec are can of seven kept alone said same) = Went (whole_of sources) (held sources are) (one-of (0 ∷ 1 ∷ 4 ∷ 6 ∷ 7 ∷ 8 ∷ []) status 7 seven refl)
  seek-reading (TopFound sources x are can least is lower d) =
      Went (whole_of sources) (held sources are) (on (record {
        of = top-of sources x are can least is lower;
        delivered = d;
      }))

  seek-unread : SeekEnds names before after status found below → status ≡ 3 → HasRisen before.faults after.faults
  seek-unread (SeekStopped s none alone) three = stopped-unread (seek_inputs names) before after status s three
  seek-unread (SeekOutOfMemory s alone) three = let eight = s.status_is in absurd (omega arith)
  seek-unread (NoTop sources rec are can of six kept alone said same) three = absurd (omega arith)
  seek-unread (TopOpen sources rec are can of seven kept alone said same) three = absurd (omega arith)
  seek-unread (TopFound sources x are can least is lower d) three = absurd (off (0 ∷ 1 ∷ 4 ∷ 8 ∷ []) status 3 (reached-statuses (record {
    of = top-of sources x are can least is lower;
    delivered = d;
  })) three refl)

  seek-memory : SeekEnds names before after status found below → status ≡ 8 → IsLinePrinted before after memory_line
  seek-memory (SeekStopped s none alone) eight = stopped-memory (seek_inputs names) before after status s eight
  seek-memory (SeekOutOfMemory s alone) eight = s.line
  seek-memory (NoTop sources rec are can of six kept alone said same) eight = absurd (omega arith)
  seek-memory (TopOpen sources rec are can of seven kept alone said same) eight = absurd (omega arith)
  seek-memory (TopFound sources x are can least is lower d) eight = by (ended-of (seek_texts names x.rec) (top_text x.top x.is_open) (top_status x.is_open) before after status d)
    where
      by : Ended (seek_texts names x.rec) (top_text x.top x.is_open) (top_status x.is_open) before after status → IsLinePrinted before after memory_line
      by (Both is all writes) = absurd (never x.is_open status 8 is eight refl)
      by (NotSaid four all rises less said) = absurd (omega arith)
      by (NotStored y among four part rises unsteady said) = absurd (omega arith)
      by (OutOfRoom y is part said) = said

  abbrev IsUnwritten : Type 0
  IsUnwritten =
      (HasRisen before.faults after.faults × (before.steady ≢ true) × IsLinePrinted before after (unwritten_line names.channels))
      ⊎ ((of : IsTopOf names before found below) × HasRisen before.sink_faults after.sink_faults
      × (before.sure < length (top_text of.x.top of.x.is_open)) × IsLinePrinted before after (top_text of.x.top of.x.is_open)
      × ((files : List StoredFile) → before.files ≡ Some files → MatchOption after.files ⊥ (λ new. AreStored files new (seek_texts names of.x.rec))))

  wrote : (r : IsReached names before after status found below) → status ≡ 4 → IsUnwritten
  wrote r four = go r.delivered
    where
      top : IsTopOf names before found below
      top = r.of

      x : NamedText
      x = named names.channels (channels_text top.x.rec.map)

      go : Delivers (seek_texts names top.x.rec) (top_text top.x.top top.x.is_open) (top_status top.x.is_open) before after status → IsUnwritten
      go (inl (next, stored, Written is same writes)) = absurd (never top.x.is_open status 4 is four refl)
      go (inl (next, stored, CutShort is same rises less said)) = inr (top, subst (λ z. HasRisen z after.sink_faults) stored.sink_faults rises, subst (λ z. z < length (top_text top.x.top top.x.is_open)) stored.sure less, (rw (stored.held, stored.sink_faults) at said), λ files modelled. all-more x [] before next after stored (all-none next after same) files modelled (single x))
      go (inr (Unwritten is stores rises unsteady said)) = inl (rises, unsteady, said)
      go (inr (NoRoom eight stores said)) = absurd (omega arith)

  seek-wrote : SeekEnds names before after status found below → status ≡ 4 → IsUnwritten
  seek-wrote end four = wrote (reached end (one-of (0 ∷ 1 ∷ 4 ∷ []) status 4 four refl)) four

  seek-unwritten : SeekEnds names before after status found below → status ≡ 4 → HasRisen before.faults after.faults ⊎ HasRisen before.sink_faults after.sink_faults
  seek-unwritten end four = elim (seek-wrote end four) [
    | inl unstored ↦ inl unstored.0
    | inr without_owners ↦ inr without_owners.1
  ]

  -- ---- what was found

  seek-done : SeekEnds names before after status found below → IsTrue (is_in (0 ∷ 1 ∷ []) status) →
      (of : IsTopOf names before found below) × (status ≡ top_status of.x.is_open) × Writes before.held after.held (top_text of.x.top of.x.is_open) (Ok tt)
  seek-done end h = go (ended r)
    where
      r : IsReached names before after status found below
      r = reached end (within (0 ∷ 1 ∷ []) (0 ∷ 1 ∷ 4 ∷ []) status refl h)

      top : IsTopOf names before found below
      top = r.of

      go : Ended (seek_texts names top.x.rec) (top_text top.x.top top.x.is_open) (top_status top.x.is_open) before after status →
          (of : IsTopOf names before found below) × (status ≡ top_status of.x.is_open) × Writes before.held after.held (top_text of.x.top of.x.is_open) (Ok tt)
      go (Both is all writes) = (top, is, writes)
      go (NotSaid four all rises less said) = absurd (off (0 ∷ 1 ∷ []) status 4 h four refl)
      go (NotStored x among four part rises unsteady said) = absurd (off (0 ∷ 1 ∷ []) status 4 h four refl)
      go (OutOfRoom x eight part said) = absurd (off (0 ∷ 1 ∷ []) status 8 h eight refl)

  abbrev IsLeast : Type 0
  IsLeast =
      (of : IsTopOf names before found below) × ((less : ℕ) → 14 ≤ less → less < of.x.top → IsFalse (fits_at (base_of of.sources) less))
      × MatchOption below (of.x.top ≡ 14) (λ rec. (14 < of.x.top) × IsTrue (shows_unfit rec.start))
      × Writes before.held after.held (top_text of.x.top false) (Ok tt)

  seek-least : SeekEnds names before after status found below → status ≡ 0 → IsLeast
  seek-least end zero =
      let (of, is, writes) = seek-done end (one-of (0 ∷ 1 ∷ []) status 0 zero refl) in
      let shut : of.x.is_open ≡ false = closed of.x.is_open (sym is ∙ zero) in
      let least = of.least in
      let shown = subst (λ o. MatchOption o (of.x.top ≡ 14) (λ rec. (14 < of.x.top) × IsTrue (shows_unfit rec.start))) (sym of.lower) (shown-below (base_of of.sources) of.x least shut) in
      (of, least.none_less shut, shown, subst (λ b. Writes before.held after.held (top_text of.x.top b) (Ok tt)) shut writes)

  seek-stored : (files : List StoredFile) → SeekEnds names before after status found below → before.files ≡ Some files → IsTrue (is_in (0 ∷ 1 ∷ []) status) →
      (of : IsTopOf names before found below) × MatchOption after.files ⊥ (λ new. AreStored files new (seek_texts names of.x.rec))
  seek-stored files end modelled h = go (ended r)
    where
      r : IsReached names before after status found below
      r = reached end (within (0 ∷ 1 ∷ []) (0 ∷ 1 ∷ 4 ∷ []) status refl h)

      top : IsTopOf names before found below
      top = r.of

      go : Ended (seek_texts names top.x.rec) (top_text top.x.top top.x.is_open) (top_status top.x.is_open) before after status →
          (of : IsTopOf names before found below) × MatchOption after.files ⊥ (λ new. AreStored files new (seek_texts names of.x.rec))
      go (Both is all writes) = (top, all files modelled (single (named names.channels (channels_text top.x.rec.map))))
      go (NotSaid four all rises less said) = absurd (off (0 ∷ 1 ∷ []) status 4 h four refl)
      go (NotStored x among four part rises unsteady said) = absurd (off (0 ∷ 1 ∷ []) status 4 h four refl)
      go (OutOfRoom x eight part said) = absurd (off (0 ∷ 1 ∷ []) status 8 h eight refl)

  -- Files that are unchanged.
  stand : (files : List StoredFile) → before.files ≡ Some files → after.files ≡ before.files → MatchOption after.files ⊥ (λ new. AllOthersUnchanged files new (names.channels ∷ []))
  stand files modelled same = rw (same ∙ modelled) (λ other ne. refl)

  seek-others : (files : List StoredFile) → SeekEnds names before after status found below → before.files ≡ Some files → MatchOption after.files ⊥ (λ new. AllOthersUnchanged files new (names.channels ∷ []))
  seek-others files end modelled = go (came end)
    where
      all-stand : (r : IsReached names before after status found below) → MatchOption after.files ⊥ (λ new. AreStored files new (seek_texts names r.of.x.rec)) → MatchOption after.files ⊥ (λ new. AllOthersUnchanged files new (names.channels ∷ []))
      all-stand r stored = for-told after.files (λ new. AreStored files new (seek_texts names r.of.x.rec)) (λ new. AllOthersUnchanged files new (names.channels ∷ [])) (λ new st. st.others) stored

      part-stands : (r : IsReached names before after status found below) (x : NamedText) → IsPart files (seek_texts names r.of.x.rec) x after → MatchOption after.files ⊥ (λ new. AllOthersUnchanged files new (names.channels ∷ []))
      part-stands r x p =
          let others : AllOthersUnchanged files p.new (names.channels ∷ []) = others-up-to files p.new (seek_texts names r.of.x.rec) p.part in
          subst (λ o. MatchOption o ⊥ (λ new. AllOthersUnchanged files new (names.channels ∷ []))) (sym p.now_modelled) others

      left : (r : IsReached names before after status found below) → Ended (seek_texts names r.of.x.rec) (top_text r.of.x.top r.of.x.is_open) (top_status r.of.x.is_open) before after status → MatchOption after.files ⊥ (λ new. AllOthersUnchanged files new (names.channels ∷ []))
      left r (Both is all writes) = all-stand r (all files modelled (single (named names.channels (channels_text r.of.x.rec.map))))
      left r (NotSaid is all rises less said) = all-stand r (all files modelled (single (named names.channels (channels_text r.of.x.rec.map))))
      left r (NotStored x among is part rises unsteady said) = part-stands r x (part files modelled (single (named names.channels (channels_text r.of.x.rec.map))))
      left r (OutOfRoom x is part said) = part-stands r x (part files modelled (single (named names.channels (channels_text r.of.x.rec.map))))

      go : Came names before after status found below → MatchOption after.files ⊥ (λ new. AllOthersUnchanged files new (names.channels ∷ []))
      go (Nowhere s none alone same) = stand files modelled same
      go (ToTop s some alone same) = stand files modelled same
      go (Reached r) = left r (ended r)

  -- ---- at the scenario's own top channel

  seek-unfit : SeekEnds names before after status found below → status ≡ 6 → IsNoTop names before after found
  seek-unfit (SeekStopped s none alone) six = absurd (off (3 ∷ 5 ∷ 8 ∷ []) status 6 (stopped-statuses (seek_inputs names) before after status s) six refl)
  seek-unfit (SeekOutOfMemory s alone) six = let eight = s.status_is in absurd (omega arith)
  seek-unfit (NoTop sources rec are can of is kept alone said same) six = record {
    sources = sources;
    sought = are;
    seekable = can;
    rec = rec;
    recorded = kept;
    auction = of;
    unfit = starts-fit (base_of sources) sources.scenario.top false can of.starts;
    line = said;
  }
  seek-unfit (TopOpen sources rec are can of seven kept alone said same) six = absurd (omega arith)
  seek-unfit (TopFound sources x are can least is lower d) six = absurd (off (0 ∷ 1 ∷ 4 ∷ 8 ∷ []) status 6 (reached-statuses (record { of = top-of sources x are can least is lower; delivered = d })) six refl)

  seek-open : SeekEnds names before after status found below → status ≡ 7 → IsTopOpen names before after found
  seek-open (SeekStopped s none alone) seven = absurd (off (3 ∷ 5 ∷ 8 ∷ []) status 7 (stopped-statuses (seek_inputs names) before after status s) seven refl)
  seek-open (SeekOutOfMemory s alone) seven = let eight = s.status_is in absurd (omega arith)
  seek-open (NoTop sources rec are can of six kept alone said same) seven = absurd (omega arith)
  seek-open (TopOpen sources rec are can of is kept alone said same) seven = record {
    sources = sources;
    sought = are;
    seekable = can;
    rec = rec;
    recorded = kept;
    auction = of;
    line = said;
  }
  seek-open (TopFound sources x are can least is lower d) seven = absurd (off (0 ∷ 1 ∷ 4 ∷ 8 ∷ []) status 7 (reached-statuses (record { of = top-of sources x are can least is lower; delivered = d })) seven refl)

  -- The sources of the search are what the files hold.
  same-sources : (files : List StoredFile) (own sources : Sources) → AreSought names before own → before.files ≡ Some files → seekable_of files (seek_inputs names) ≡ Ok sources → own ≡ sources
  same-sources files own sources are modelled is = same own sources (sym (are files modelled) ∙ is)
    where
      same : (a b : Sources) → accepted a ≡ accepted b → a ≡ b
      same a b e = cc

  -- What fits up to a lesser top channel fits up to the scenario's own.
  fits-own : (sources : Sources) (x : LeastTop) → IsSeekable (base_of sources) → IsLeastTop (base_of sources) x → fits_at (base_of sources) sources.scenario.top ≡ true
  fits-own sources x can least = let of = least.auction in fits-above (base_of sources) x.top sources.scenario.top (starts-fit (base_of sources) x.top true can of.starts) least.most

  seek-unfits : (files : List StoredFile) (sources : Sources) → SeekEnds names before after status found below → before.files ≡ Some files → seekable_of files (seek_inputs names) ≡ Ok sources →
      IsFalse (fits_at (base_of sources) sources.scenario.top) → IsStatusOr 6 before status ⊎ (status ≡ 7)
  seek-unfits files sources (SeekStopped s none alone) modelled is unfit = inl (halted-held (seek_inputs names) before after status 6 files (whole_of sources) s modelled (sought-inputs files names sources is))
  seek-unfits files sources (SeekOutOfMemory s alone) modelled is unfit = inl (inr (inl s.status_is))
  seek-unfits files sources (NoTop own rec are can of six kept alone said same) modelled is unfit = inl (inl six)
  seek-unfits files sources (TopOpen own rec are can of seven kept alone said same) modelled is unfit = inr seven
  seek-unfits files sources (TopFound own x are can least kept lower d) modelled is unfit =
      let one : own ≡ sources = same-sources files own sources are modelled is in
      absurd (true≢false (sym (subst (λ (z : Sources). fits_at (base_of z) z.scenario.top ≡ true) one (fits-own own x can least)) ∙ unfit))

  seek-complete : (files : List StoredFile) (sources : Sources) → SeekEnds names before after status found below → before.files ≡ Some files → seekable_of files (seek_inputs names) ≡ Ok sources →
      IsTrue (fits_at (base_of sources) sources.scenario.top) → IsStatusOr 0 before status ⊎ IsTrue (is_in (1 ∷ 4 ∷ 7 ∷ []) status)
  seek-complete files sources (SeekStopped s none alone) modelled is fit = inl (halted-held (seek_inputs names) before after status 0 files (whole_of sources) s modelled (sought-inputs files names sources is))
  seek-complete files sources (SeekOutOfMemory s alone) modelled is fit = inl (inr (inl s.status_is))
  seek-complete files sources (NoTop own rec are can of six kept alone said same) modelled is fit =
      let one : own ≡ sources = same-sources files own sources are modelled is in
      absurd (true≢false (sym fit ∙ subst (λ (z : Sources). fits_at (base_of z) z.scenario.top ≡ false) one (starts-fit (base_of own) own.scenario.top false can of.starts)))
  seek-complete files sources (TopOpen own rec are can of seven kept alone said same) modelled is fit = inr (one-of (1 ∷ 4 ∷ 7 ∷ []) status 7 seven refl)
  seek-complete files sources (TopFound own x are can least kept lower d) modelled is fit = by (ended-of (seek_texts names x.rec) (top_text x.top x.is_open) (top_status x.is_open) before after status d)
    where
      by : Ended (seek_texts names x.rec) (top_text x.top x.is_open) (top_status x.is_open) before after status → IsStatusOr 0 before status ⊎ IsTrue (is_in (1 ∷ 4 ∷ 7 ∷ []) status)
      by (Both done all writes) = elim (either x.is_open status done) [
        | inl zero ↦ inl (inl zero)
        | inr one ↦ inr (one-of (1 ∷ 4 ∷ 7 ∷ []) status 1 one refl)
      ]
      by (NotSaid four all rises less said) = inr (one-of (1 ∷ 4 ∷ 7 ∷ []) status 4 four refl)
      by (NotStored y among four part rises unsteady said) = inr (one-of (1 ∷ 4 ∷ 7 ∷ []) status 4 four refl)
      by (OutOfRoom y eight part said) = inl (inr (inl eight))

  -- No station starts on air.
  seek-nobody : (files : List StoredFile) (sources : Sources) → SeekEnds names before after status found below → before.files ≡ Some files → seekable_of files (seek_inputs names) ≡ Ok sources →
      start_set sources.scenario ≡ [] → IsStatusOr 0 before status ⊎ (status ≡ 4)
  seek-nobody files sources (SeekStopped s none alone) modelled is nobody = inl (halted-held (seek_inputs names) before after status 0 files (whole_of sources) s modelled (sought-inputs files names sources is))
  seek-nobody files sources (SeekOutOfMemory s alone) modelled is nobody = inl (inr (inl s.status_is))
  seek-nobody files sources (NoTop own rec are can of six kept alone said same) modelled is nobody =
      absurd (nobody-unfit (base_of own) can (ap (λ (z : Sources). start_set z.scenario) (same-sources files own sources are modelled is) ∙ nobody) own.scenario.top rec of)
  seek-nobody files sources (TopOpen own rec are can of seven kept alone said same) modelled is nobody =
      absurd (nobody-open (base_of own) can (ap (λ (z : Sources). start_set z.scenario) (same-sources files own sources are modelled is) ∙ nobody) own.scenario.top rec of)
  seek-nobody files sources (TopFound own x are can least kept lower d) modelled is nobody = by (ended-of (seek_texts names x.rec) (top_text x.top x.is_open) (top_status x.is_open) before after status d)
    where
      shut : x.is_open ≡ false
      shut = let found = nobody-least (base_of own) can (ap (λ (z : Sources). start_set z.scenario) (same-sources files own sources are modelled is) ∙ nobody) x least in found.1

      by : Ended (seek_texts names x.rec) (top_text x.top x.is_open) (top_status x.is_open) before after status → IsStatusOr 0 before status ⊎ (status ≡ 4)
      by (Both done all writes) = inl (inl (done ∙ ap top_status shut))
      by (NotSaid four all rises less said) = inr four
      by (NotStored y among four part rises unsteady said) = inr four
      by (OutOfRoom y eight part said) = inl (inr (inl eight))

  seek-fourteen : (files : List StoredFile) (sources : Sources) → SeekEnds names before after status found below → before.files ≡ Some files → seekable_of files (seek_inputs names) ≡ Ok sources →
      start_set sources.scenario ≡ [] → status ≡ 0 → Writes before.held after.held (top_text 14 false) (Ok tt)
  seek-fourteen files sources end modelled is nobody zero =
      let (of, none_less, shown, writes) = seek-least end zero in
      let one : of.sources ≡ sources = same-sources files of.sources sources of.sought modelled is in
      let found = nobody-least (base_of of.sources) of.seekable (ap (λ (z : Sources). start_set z.scenario) one ∙ nobody) of.x of.least in
      subst (λ top. Writes before.held after.held (top_text top false) (Ok tt)) found.0 writes

  -- Memory ran out.
  seek-starved : SeekEnds names before after status found below → status ≡ 8 → ((found ≡ None) × (below ≡ None)) ⊎ IsTopOf names before found below
  seek-starved end eight = go (came end)
    where
      go : Came names before after status found below → ((found ≡ None) × (below ≡ None)) ⊎ IsTopOf names before found below
      go (Nowhere s none alone same) = inl (none, alone)
      go (ToTop s some alone same) = absurd (off (6 ∷ 7 ∷ []) status 8 s eight refl)
      go (Reached r) = inr r.of

  pub seek-promises : SeekEnds names before after status found below → SeekPromises names before after status found below
  seek-promises end = record {
    statuses = seek-statuses end;
    inputs = reads-inputs (seek_inputs names) before after status (seek-reading end);
    failures = record { unread = seek-unread end; unwritten = seek-unwritten end; memory = seek-memory end };
    keeps = record {
      backed = seek-backed end;
      unrecorded = λ h. seek-unrecorded end (within (3 ∷ 5 ∷ 9 ∷ 10 ∷ []) (2 ∷ 3 ∷ 5 ∷ 9 ∷ 10 ∷ []) status refl h);
      untouched = seek-untouched end;
    };
    unfit_untouched = seek-ended end;
    of = λ h. let r = reached end h in r.of;
    done = seek-done end;
    least = seek-least end;
    out_of_memory = seek-starved end;
    stored = λ files modelled h. seek-stored files end modelled h;
    unfit = seek-unfit end;
    left_open = seek-open end;
    unfits = λ files sources modelled is unfit. seek-unfits files sources end modelled is unfit;
    complete = λ files sources modelled is fit. seek-complete files sources end modelled is fit;
    nobody = λ files sources modelled is nobody. (seek-nobody files sources end modelled is nobody, seek-fourteen files sources end modelled is nobody);
    unwritten = seek-wrote end;
    alone = seek-alone end;
    others = λ files modelled. seek-others files end modelled;
  }
