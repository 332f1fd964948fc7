-- If the input files exist, none of them is reported unreadable; and accepted inputs are those of the scenario file.
use Rattle.std.proofs.Common.{◌≡◌, ◌∙◌, ℕ, List, [], ◌∷◌, length, map, nat_lt, refl, sym, ap, subst, inl, inr}
use Rattle.std.specs.Prelude.{IfOk, MatchOption, Option, Some, None, Result, Ok, Err, IsSome, ⊤}
use Rattle.std.proofs.lemmas.Bool.{cases_Bool}
use Rattle.constraint_files.specs.Domains.{domains_of}
use Rattle.constraint_files.specs.PairTable.{PairsView, pairs_of}
use Rattle.constraint_files.specs.declared.error.ReadErr.{ReadErr}
use Rattle.constraint_files.specs.declared.error.ReadErr.TheVariants.{Row, NoMemory as NoRoom}
use Rattle.outside_io.specs.Files.{StoredFile, bytes_of}
use Rattle.owner_line.specs.OwnersOf.{owners_of}
use Rattle.owner_line.specs.declared.error.OwnerErr.{OwnerErr}
use Rattle.owner_line.specs.declared.error.OwnerErr.TheVariants.{Row as RefusedLine, NoMemory as NoList}
use Rattle.pack_defs.specs.Book.{BookView, cut_book, cut_domain, stations_of}
use Rattle.pack_defs.specs.declared.domain.Domain.{Domain}
use Rattle.pack_defs.specs.declared.owners.OwnerLine.{OwnerLine}
use Rattle.pack_defs.specs.declared.pair.Pair.{Pair}
use Rattle.pack_defs.specs.declared.scenario.Scenario.{Scenario}
use Rattle.pack_defs.specs.Prices.{falls}
use Rattle.pack_defs.specs.Scenario.{IsWithinLimits, StationsAscend, facilities, with_owners}
use Rattle.scenario_json.specs.declared.error.ScenarioErr.{ScenarioErr}
use Rattle.scenario_json.specs.declared.join.JoinErr.{JoinErr}
use Rattle.scenario_json.specs.declared.join.JoinErr.TheVariants.{MissingDomain, NoMemory as NoSpace}
use Rattle.scenario_json.specs.Join.{book_unless, first_missing, joined}
use Rattle.scenario_json.specs.ScenarioOf.{scenario_of}
use Rattle.scenario_json.proofs.Limits.{read-limits, read-values}
use Rattle.commands.specs.declared.inputs.Inputs.{Inputs}
use Rattle.commands.specs.declared.inputs.sources.Sources.{Sources}
use Rattle.command_words.specs.declared.run_words.Input.{Input}
use Rattle.command_words.specs.declared.run_words.Input.TheVariants.{Domains, Rows, Scenario as ScenarioFile, Owners as OwnersFile}
use Rattle.commands.specs.declared.inputs.input_file.Stop.{Stop}
use Rattle.commands.specs.declared.inputs.input_file.Stop.TheVariants.{CannotRead}
use Rattle.commands.specs.Inputs.{and_then, bytes_within, file_limit, file_of, inputs_by, inputs_from, inputs_of, live_inputs, owners_read, rows_read, owners_in, scenario_read, sources_of, valued_of, with_owners_file}
use Rattle.commands.specs.Promises.{AreInputsPresent}
use Rattle.command_words.specs.Words.{InputNames}

-- A joined book is of exactly the scenario's stations.
pub joined-stations : (sc : Scenario) (domains : List Domain) (pairs : List Pair) (book : BookView) → joined sc domains pairs ≡ Ok book → stations_of book ≡ facilities sc
unfolding joined
joined-stations sc domains pairs book e =
    let cut = cut_book sc.top (facilities sc) domains pairs in
    let go : (o : Option ℕ) → book_unless o cut ≡ Ok book → stations_of book ≡ facilities sc = λ o. elim o as (λ o. book_unless o cut ≡ Ok book → stations_of book ≡ facilities sc) [
      | None ↦ λ k. let same : cut ≡ book = cc in subst (λ b. stations_of b ≡ facilities sc) same (own sc.top domains (facilities sc))
      | Some s ↦ λ k. cc
    ] in
    go (first_missing (facilities sc) domains) e
  where
    own : (top : ℕ) (domains : List Domain) (ids : List ℕ) → map (λ d. d.station) (map (cut_domain top domains) ids) ≡ ids
    own top domains [] = refl
    own top domains (x ∷ xs) = ap (λ ys. x ∷ ys) (own top domains xs)

-- Whether the reading does not stop at an unreadable file.
CanRead : {A : Type 0} → Result A Stop → Type 0
CanRead {A} r = (i : Input) → r ≡ Err (CannotRead i) → ⊥

goes_on : {A B : Type 0} (r : Result A Stop) (f : A → Result B Stop) → CanRead r → ((x : A) → CanRead (f x)) → CanRead (and_then r f)
unfolding CanRead
goes_on (Ok x) f a b i e = b x i e
goes_on (Err e) f a b i h = a i (cc)

can_rows : {A : Type 0} (input : Input) (r : Result A ReadErr) → CanRead (rows_read input r)
unfolding CanRead
can_rows input (Ok x) i e = cc
can_rows input (Err (Row line why)) i e = cc
can_rows input (Err NoRoom) i e = cc

can_scenario : (r : Result Scenario ScenarioErr) → CanRead (scenario_read r)
unfolding CanRead
can_scenario (Ok sc) i e = cc
can_scenario (Err why) i e = cc

can_bytes : (input : Input) (o : Option (List ℕ)) → IsSome o → CanRead (bytes_within input o)
unfolding CanRead
can_bytes input None h i e = cc
can_bytes input (Some bytes) h i e =
    elim (cases_Bool (nat_lt file_limit (length bytes))) [
      | inl long ↦ cc (rw long at e)
      | inr short ↦ cc (rw short at e)
    ]

can_join : (sc : _) (pairs : _) (r : Result BookView JoinErr) → CanRead (inputs_from sc pairs r)
unfolding CanRead
can_join sc pairs (Ok book) i e = cc
can_join sc pairs (Err (MissingDomain s)) i e = cc
can_join sc pairs (Err NoSpace) i e = cc

can_owners : (r : Result (List OwnerLine) OwnerErr) → CanRead (owners_read r)
unfolding CanRead
can_owners (Ok lines) i e = cc
can_owners (Err (RefusedLine line why)) i e = cc
can_owners (Err NoList) i e = cc

can_live : (inputs : Inputs) (lines : List OwnerLine) → CanRead {A = Inputs} (Ok (live_inputs inputs lines))
unfolding CanRead
can_live inputs lines i e = cc

can_valued : (inputs : Inputs) → CanRead {A = Inputs} (Ok inputs)
unfolding CanRead
can_valued inputs i e = cc

can_said : (files : List StoredFile) (name : Option (List ℕ)) (inputs : Inputs) → MatchOption name ⊤ (λ name. IsSome (bytes_of files name)) → CanRead (with_owners_file files name inputs)
can_said files None inputs h = can_valued inputs
can_said files (Some name) inputs h =
    goes_on (owners_in files name inputs.scenario) _
    (goes_on (file_of files name OwnersFile) (λ bytes. owners_read (owners_of bytes (length (falls inputs.scenario)) (facilities inputs.scenario))) (can_bytes OwnersFile (bytes_of files name) h)
    (λ bytes. can_owners (owners_of bytes (length (falls inputs.scenario)) (facilities inputs.scenario))))
    (λ lines. can_live inputs lines)

can_sources : (sources : Sources) → CanRead {A = Sources} (Ok sources)
unfolding CanRead
can_sources sources i e = cc

can_files : (files : List StoredFile) (names : InputNames) → AreInputsPresent files names → CanRead (sources_of files names)
unfolding sources_of
can_files files names h =
    goes_on (and_then (file_of files names.domains Domains) (λ bytes. rows_read Domains (domains_of bytes))) _
    (goes_on (file_of files names.domains Domains) (λ bytes. rows_read Domains (domains_of bytes)) (can_bytes Domains (bytes_of files names.domains) h.domains) (λ bytes. can_rows Domains (domains_of bytes))) (λ domains.
    goes_on (and_then (file_of files names.rows Rows) (λ bytes. rows_read Rows (pairs_of bytes domains))) _
    (goes_on (file_of files names.rows Rows) (λ bytes. rows_read Rows (pairs_of bytes domains)) (can_bytes Rows (bytes_of files names.rows) h.rows) (λ bytes. can_rows Rows (pairs_of bytes domains))) (λ pairs.
    goes_on (and_then (file_of files names.scenario ScenarioFile) (λ bytes. scenario_read (scenario_of bytes))) _
    (goes_on (file_of files names.scenario ScenarioFile) (λ bytes. scenario_read (scenario_of bytes)) (can_bytes ScenarioFile (bytes_of files names.scenario) h.scenario) (λ bytes. can_scenario (scenario_of bytes))) (λ sc.
    can_sources (record { domains = domains; pairs = pairs; scenario = sc }))))

can_value : (files : List StoredFile) (names : InputNames) → AreInputsPresent files names → CanRead (valued_of files names)
can_value files names h =
    goes_on (sources_of files names) inputs_by (can_files files names h) (λ s. can_join s.scenario s.pairs (joined s.scenario s.domains s.pairs.list))

pub can-read : (files : List StoredFile) (names : InputNames) (i : Input) → AreInputsPresent files names → inputs_of files names ≡ Err (CannotRead i) → ⊥
unfolding inputs_of CanRead
can-read files names i h =
    goes_on (valued_of files names) (with_owners_file files names.owners) (can_value files names h) (λ inputs. can_said files names.owners inputs h.owners) i

-- ---- accepted inputs

-- A scenario with owners' answers stays within the limits.
live-limits : (sc : Scenario) (said : Option (List OwnerLine)) → IsWithinLimits sc → IsWithinLimits (with_owners sc said)
live-limits sc said h = record {
  least_top = h.least_top;
  top = h.top;
  some_opening = h.some_opening;
  opening = h.opening;
  version = h.version;
  fall = h.fall;
  stations = h.stations;
  ascend = h.ascend;
  each_station = h.each_station;
  some_worker = h.some_worker;
  workers = h.workers;
  each_worker = h.each_worker;
  prover = h.prover;
}

pub then-ok : {A B : Type 0} (r : Result A Stop) (f : A → Result B Stop) (y : B) → and_then r f ≡ Ok y → (x : A) × (r ≡ Ok x) × (f x ≡ Ok y)
then-ok (Ok x) f y e = (x, refl, e)
then-ok (Err why) f y e = cc

pub read-ok : (r : Result Scenario ScenarioErr) (sc : Scenario) → scenario_read r ≡ Ok sc → r ≡ Ok sc
read-ok (Ok read) sc e = cc
read-ok (Err why) sc e = cc

pub from-ok : (sc : Scenario) (pairs : PairsView) (r : Result BookView JoinErr) (inputs : Inputs) → inputs_from sc pairs r ≡ Ok inputs → sc ≡ inputs.scenario
from-ok sc pairs (Ok book) inputs e =
    let same : record { scenario = sc; book = book; self_pairs = pairs.self_pairs; strangers = pairs.strangers } ≡ inputs = cc in
    ap (λ (i : Inputs). i.scenario) same
from-ok sc pairs (Err (MissingDomain s)) inputs e = cc
from-ok sc pairs (Err NoSpace) inputs e = cc

-- The scenario that the first three files hold is that of the scenario file.
pub sources-scenario : (files : List StoredFile) (names : InputNames) (sources : Sources) → sources_of files names ≡ Ok sources → (bytes : List ℕ) × (scenario_of bytes ≡ Ok sources.scenario)
unfolding sources_of
sources-scenario files names sources e =
    let (domains, domains-read, rest) = then-ok {B = Sources} (and_then (file_of files names.domains Domains) (λ bytes. rows_read Domains (domains_of bytes))) _ sources e in
    let (pairs, pairs-read, more) = then-ok {B = Sources} (and_then (file_of files names.rows Rows) (λ bytes. rows_read Rows (pairs_of bytes domains))) _ sources rest in
    let (sc, read, made) = then-ok {B = Sources} (and_then (file_of files names.scenario ScenarioFile) (λ bytes. scenario_read (scenario_of bytes))) _ sources more in
    let (bytes, loaded, held) = then-ok (file_of files names.scenario ScenarioFile) (λ bytes. scenario_read (scenario_of bytes)) sc read in
    let same : record { domains = domains; pairs = pairs; scenario = sc } ≡ sources = cc in
    (bytes, read-ok (scenario_of bytes) sc held ∙ ap (λ (s : Sources). Ok s.scenario) same)

valued-scenario : (files : List StoredFile) (names : InputNames) (inputs : Inputs) → valued_of files names ≡ Ok inputs → (bytes : List ℕ) × (scenario_of bytes ≡ Ok inputs.scenario)
valued-scenario files names inputs e =
    let (sources, read, joined-ok) = then-ok (sources_of files names) inputs_by inputs e in
    let (bytes, held) = sources-scenario files names sources read in
    (bytes, held ∙ ap Ok (from-ok sources.scenario sources.pairs (joined sources.scenario sources.domains sources.pairs.list) inputs joined-ok))

-- Accepted inputs are what the first three files hold, except for the owners' answers.
pub accepted-valued : (files : List StoredFile) (names : InputNames) (inputs : Inputs) → inputs_of files names ≡ Ok inputs →
    (valued : Inputs) × (valued_of files names ≡ Ok valued) × (with_owners_file files names.owners valued ≡ Ok inputs)
unfolding inputs_of
accepted-valued files names inputs e = then-ok (valued_of files names) (with_owners_file files names.owners) inputs e

-- The owners' answers, if their file was accepted.
pub said-ok : (files : List StoredFile) (name : List ℕ) (valued inputs : Inputs) → with_owners_file files (Some name) valued ≡ Ok inputs →
    (lines : List OwnerLine) × (owners_in files name valued.scenario ≡ Ok lines) × (inputs ≡ live_inputs valued lines)
said-ok files name valued inputs e =
    let (lines, said, same) = then-ok {A = List OwnerLine} {B = Inputs} (owners_in files name valued.scenario) (λ lines. Ok (live_inputs valued lines)) inputs e in
    let is : inputs ≡ live_inputs valued lines = cc in
    (lines, said, is)

-- So only the owners can differ.
pub said-else : (files : List StoredFile) (name : Option (List ℕ)) (valued inputs : Inputs) → with_owners_file files name valued ≡ Ok inputs →
    (said : Option (List OwnerLine)) × (inputs ≡ record valued { scenario = with_owners valued.scenario said })
said-else files None valued inputs e = let same : inputs ≡ valued = cc in (valued.scenario.owners, same)
said-else files (Some name) valued inputs e = let (lines, said, same) = said-ok files name valued inputs e in (Some lines, same)

-- The scenario of accepted inputs is that of the scenario file, except for the owners' answers.
pub accepted-scenario : (files : List StoredFile) (names : InputNames) (inputs : Inputs) → inputs_of files names ≡ Ok inputs →
    (bytes : List ℕ) × (sc : Scenario) × (said : Option (List OwnerLine)) × (scenario_of bytes ≡ Ok sc) × (inputs.scenario ≡ with_owners sc said)
accepted-scenario files names inputs e =
    let (valued, read, more) = accepted-valued files names inputs e in
    let (bytes, held) = valued-scenario files names valued read in
    let (said, same) = said-else files names.owners valued inputs more in
    (bytes, valued.scenario, said, held, ap (λ (i : Inputs). i.scenario) same)

-- So it is within the limits, its stations ascend, and its values stand for the owners if no owners' file is named.
pub accepted-limits : (files : List StoredFile) (names : InputNames) (inputs : Inputs) → inputs_of files names ≡ Ok inputs → IsWithinLimits inputs.scenario
accepted-limits files names inputs e =
    let (bytes, sc, said, held, same) = accepted-scenario files names inputs e in
    let limits : IsWithinLimits sc = subst (λ r. IfOk r IsWithinLimits) held (read-limits bytes) in
    subst IsWithinLimits (sym same) (live-limits sc said limits)

pub accepted-ascend : (files : List StoredFile) (names : InputNames) (inputs : Inputs) → inputs_of files names ≡ Ok inputs → StationsAscend inputs.scenario
accepted-ascend files names inputs e = let limits = accepted-limits files names inputs e in limits.ascend

pub valued-values : (files : List StoredFile) (names : InputNames) (inputs : Inputs) → valued_of files names ≡ Ok inputs → inputs.scenario.owners ≡ None
valued-values files names inputs e =
    let (bytes, held) = valued-scenario files names inputs e in
    subst (λ r. IfOk r (λ (sc : Scenario). sc.owners ≡ None)) held (read-values bytes)

pub accepted-values : (files : List StoredFile) (names : InputNames) (inputs : Inputs) → names.owners ≡ None → inputs_of files names ≡ Ok inputs → inputs.scenario.owners ≡ None
accepted-values files names inputs none e =
    let (valued, read, more) = accepted-valued files names inputs e in
    let as_read : with_owners_file files None valued ≡ Ok inputs = subst (λ o. with_owners_file files o valued ≡ Ok inputs) none more in
    let same : valued ≡ inputs = cc in
    subst (λ (i : Inputs). i.scenario.owners ≡ None) same (valued-values files names valued read)
