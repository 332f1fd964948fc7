-- The transcript that is written of a record is verified as that record, with inputs that files hold.
use Rattle.std.proofs.Common.{◌≡◌, ◌∙◌, ℕ, List, ap, subst, sym, arith}
use Rattle.std.specs.Prelude.{None, Result, Ok, Err}
use Rattle.constraint_files.specs.Domains.{domains_of}
use Rattle.constraint_files.specs.PairTable.{PairsView, pairs_of}
use Rattle.constraint_files.specs.declared.error.ReadErr.{ReadErr}
use Rattle.outside_io.specs.Files.{StoredFile}
use Rattle.pack_defs.specs.Book.{BookView}
use Rattle.pack_defs.specs.declared.domain.Domain.{Domain}
use Rattle.pack_defs.specs.declared.pair.Pair.{Pair}
use Rattle.pack_defs.specs.declared.scenario.Scenario.{Scenario}
use Rattle.scenario_json.specs.declared.join.JoinErr.{JoinErr}
use Rattle.scenario_json.specs.declared.join.JoinErr.TheVariants.{MissingDomain, NoMemory as NoSpace}
use Rattle.scenario_json.specs.Join.{joined}
use Rattle.scenario_json.specs.ScenarioOf.{scenario_of}
use Rattle.scenario_json.proofs.ChannelsOf.{book-kept}
use Rattle.auction_core.specs.declared.record.Ending.TheVariants.{Done}
use Rattle.auction_core.specs.declared.record.Record.{Record}
use Rattle.auction_core.specs.Backed.{IsBacked}
use Rattle.auction_core.specs.Rule.{IsAuction}
use Rattle.transcript_text.specs.RoundTrip.{HasFileChannels, IsHeld}
use Rattle.transcript_text.specs.Spelling.{transcript_for, transcript_text}
use Rattle.transcript_text.proofs.RecordReads.{record-again}
use Rattle.auction_core.specs.NotShown.{not_shown}
use Rattle.transcript_check.specs.Sound.{transcript_record}
use Rattle.transcript_check.proofs.SoundLemmas.{same-again, sound-shown, transcript-sound}
use Rattle.commands.specs.declared.inputs.Inputs.{Inputs}
use Rattle.command_words.specs.declared.run_words.Input.{Input}
use Rattle.command_words.specs.declared.run_words.Input.TheVariants.{Domains, Rows, Scenario as ScenarioFile}
use Rattle.commands.specs.declared.inputs.sources.Sources.{Sources}
use Rattle.commands.specs.Inputs.{and_then, file_of, inputs_by, inputs_from, inputs_of, rows_read, scenario_read, sources_of, valued_of}
use Rattle.commands.specs.Verified.{CanBeNamed, record_by, shown_or, verified}
use Rattle.command_words.specs.Words.{InputNames}
use Rattle.commands.proofs.ReadingLemmas.{accepted-limits, accepted-valued, said-else, then-ok}

-- ---- accepted inputs

rows-ok : {A : Type 0} (input : Input) (r : Result A ReadErr) (x : A) → rows_read input r ≡ Ok x → r ≡ Ok x
rows-ok input (Ok own) x e = cc
rows-ok input (Err why) x e = cc

-- The parts that the inputs are made of.
from-parts : (sc : Scenario) (pairs : PairsView) (r : Result BookView JoinErr) (inputs : Inputs) → inputs_from sc pairs r ≡ Ok inputs → (sc ≡ inputs.scenario) × (r ≡ Ok inputs.book)
from-parts sc pairs (Ok book) inputs e =
    let same : record { scenario = sc; book = book; self_pairs = pairs.self_pairs; strangers = pairs.strangers } ≡ inputs = cc in
    (ap (λ (i : Inputs). i.scenario) same, ap (λ (i : Inputs). Ok i.book) same)
from-parts sc pairs (Err (MissingDomain s)) inputs e = cc
from-parts sc pairs (Err NoSpace) inputs e = cc

-- The domains are those that a file holds.
pub sources-domains : (files : List StoredFile) (names : InputNames) (sources : Sources) → sources_of files names ≡ Ok sources → (bytes : List ℕ) × (domains_of bytes ≡ Ok sources.domains)
unfolding sources_of
sources-domains files names sources e =
    let (domains, domains-read, rest) = then-ok {B = Sources} (and_then (file_of files names.domains Domains) (λ bytes. rows_read Domains (domains_of bytes))) _ sources e in
    let (pairs, pairs-read, more) = then-ok {B = Sources} (and_then (file_of files names.rows Rows) (λ bytes. rows_read Rows (pairs_of bytes domains))) _ sources rest in
    let (sc, scenario-read, made) = then-ok {B = Sources} (and_then (file_of files names.scenario ScenarioFile) (λ bytes. scenario_read (scenario_of bytes))) _ sources more in
    let (bytes, loaded, held) = then-ok (file_of files names.domains Domains) (λ bytes. rows_read Domains (domains_of bytes)) domains domains-read in
    let same : record { domains = domains; pairs = pairs; scenario = sc } ≡ sources = cc in
    (bytes, rows-ok Domains (domains_of bytes) domains held ∙ ap (λ (s : Sources). Ok s.domains) same)

-- The book is made of the domains that a file holds.
valued-book : (files : List StoredFile) (names : InputNames) (inputs : Inputs) → valued_of files names ≡ Ok inputs →
    (bytes : List ℕ) × (domains : List Domain) × (pairs : List Pair) × (domains_of bytes ≡ Ok domains) × (joined inputs.scenario domains pairs ≡ Ok inputs.book)
valued-book files names inputs e =
    let (sources, read, joined-ok) = then-ok (sources_of files names) inputs_by inputs e in
    let (bytes, held) = sources-domains files names sources read in
    let (same, made) = from-parts sources.scenario sources.pairs (joined sources.scenario sources.domains sources.pairs.list) inputs joined-ok in
    (bytes, sources.domains, sources.pairs.list, held, subst (λ (s : Scenario). joined s sources.domains sources.pairs.list ≡ Ok inputs.book) same made)

-- So its channels are those of a file.
valued-channels : (files : List StoredFile) (names : InputNames) (inputs : Inputs) → valued_of files names ≡ Ok inputs → HasFileChannels inputs.book
valued-channels files names inputs e s c h =
    let (bytes, domains, pairs, read, made) = valued-book files names inputs e in
    book-kept bytes domains inputs.scenario pairs inputs.book s c read made h

accepted-channels : (files : List StoredFile) (names : InputNames) (inputs : Inputs) → inputs_of files names ≡ Ok inputs → HasFileChannels inputs.book
accepted-channels files names inputs e =
    let (valued, read, more) = accepted-valued files names inputs e in
    let (said, same) = said-else files names.owners valued inputs more in
    subst (λ (i : Inputs). HasFileChannels i.book) (sym same) (valued-channels files names valued read)

-- So the inputs are those of an auction.
pub accepted-auction : (files : List StoredFile) (names : InputNames) (inputs : Inputs) → inputs_of files names ≡ Ok inputs → CanBeNamed inputs → IsAuction inputs.scenario inputs.book
accepted-auction files names inputs e can =
    let named = can (accepted-channels files names inputs e) in
    let limits = accepted-limits files names inputs e in
    let some = limits.some_worker in
    record { stations = limits.ascend; in_order = named.in_order; workers = omega arith }

-- ---- the transcript of a record

-- The check of a sound transcript returns its record.
shown-ok : (inputs : Inputs) (rec own : Record) (o : _) → o ≡ None → own ≡ rec → shown_or o own ≡ Ok rec
shown-ok inputs rec own o none same = ap (λ z. shown_or z own) none ∙ ap Ok same

pub record-verified : (files : List StoredFile) (names : InputNames) (inputs : Inputs) (rec : Record) → inputs_of files names ≡ Ok inputs → CanBeNamed inputs →
    IsBacked inputs.scenario inputs.book rec.order rec → rec.ending ≡ Done → IsHeld rec → verified inputs (transcript_text inputs.scenario inputs.book rec) ≡ Ok rec
unfolding verified
record-verified files names inputs rec e can backed done held =
    let named = can (accepted-channels files names inputs e) in
    let limits = accepted-limits files names inputs e in
    let auction = accepted-auction files names inputs e can in
    let t = transcript_for inputs.scenario inputs.book rec in
    let none : not_shown inputs.scenario inputs.book t ≡ None = sound-shown inputs.scenario inputs.book t auction (transcript-sound inputs.scenario inputs.book rec auction backed done) in
    let same : transcript_record inputs.scenario inputs.book t ≡ rec = same-again inputs.scenario inputs.book rec auction backed done in
    ap (record_by inputs) (record-again inputs.scenario inputs.book rec backed done limits named held) ∙ shown-ok inputs rec (transcript_record inputs.scenario inputs.book t) (not_shown inputs.scenario inputs.book t) none same
