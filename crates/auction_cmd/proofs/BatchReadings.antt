-- What was read for a batch: the inputs of each line are those that `run` alone would read, and the results have different names.
use Rattle.std.proofs.Common.{◌≡◌, ◌≢◌, ◌∙◌, ℕ, List, [], ◌∷◌, ◌++◌, map, refl, sym, ap, subst, append_assoc, Option, Some, None}
use Rattle.std.specs.Prelude.{Contains, Err, Ok, Result, find}
use Rattle.std.specs.List.{AllZip}
use Rattle.std.proofs.lemmas.List.Elements.{All-cons, All-head, All-nil, All-tail}
use Rattle.pack_defs.proofs.Members.{Contains-here, Contains-there}
use Rattle.outside_io.specs.Files.{StoredFile}
use Rattle.constraint_files.specs.Domains.{domains_of}
use Rattle.constraint_files.specs.PairTable.{PairsView, pairs_of}
use Rattle.pack_defs.specs.declared.domain.Domain.{Domain}
use Rattle.pack_defs.specs.declared.scenario.Scenario.{Scenario}
use Rattle.scenario_json.specs.Join.{joined}
use Rattle.scenario_json.specs.ScenarioOf.{scenario_of}
use Rattle.batch_list.specs.ListOf.{ListedNames}
use Rattle.batch_list.specs.Repeated.{names_given, repeated_result}
use Rattle.commands.specs.declared.inputs.batch_inputs.Constraints.{Constraints}
use Rattle.commands.specs.declared.inputs.Inputs.{Inputs}
use Rattle.commands.specs.declared.inputs.input_file.Stop.{Stop}
use Rattle.command_words.specs.declared.run_words.Input.TheVariants.{Domains, Rows, Scenario as ScenarioFile}
use Rattle.commands.specs.Batch.{BatchStop, HeldBatch, ListedView, among, batch_of, constraints_of, each_inputs, unless_stopped, inputs_with_constraints, list_named, listing_of, once_each, texts_under, names_in_words}
use Rattle.command_words.specs.Words.{inputs_with}
use Rattle.commands.specs.Delivery.{IsOther, names_of}
use Rattle.commands.specs.Inputs.{and_then, file_of, inputs_from, inputs_of, rows_read, scenario_read, sources_of}
use Rattle.command_words.specs.Words.{BatchNames, InputNames, is_repeated_among}
use Rattle.commands.proofs.DeliveryLemmas.{AreApart}
use Rattle.commands.proofs.OutputNames.{not-found, twice-among}
use Rattle.commands.proofs.ReadingLemmas.{then-ok}

-- ---- steps

pub on-ok : {A B : Type 0} (r : Result A BatchStop) (f : A → Result B BatchStop) (y : B) → unless_stopped r f ≡ Ok y → (x : A) × (r ≡ Ok x) × (f x ≡ Ok y)
on-ok (Ok x) f y e = (x, refl, e)
on-ok (Err stop) f y e = cc

pub among-ok : {A : Type 0} (names : InputNames) (r : Result A Stop) (x : A) → among names r ≡ Ok x → r ≡ Ok x
among-ok names (Ok y) x e = cc
among-ok names (Err why) x e = cc

once-ok : (lines own : List ListedNames) (o : Option (List ℕ)) → once_each lines o ≡ Ok own → (o ≡ None) × (own ≡ lines)
once-ok lines own None e = let same : own ≡ lines = cc in (refl, same)
once-ok lines own (Some name) e = cc

-- the constraint files that were read, as a reading returns them
abbrev constraints-as : Constraints → Result Constraints Stop
constraints-as c = Ok c

abbrev listed-as : ListedView → Result ListedView Stop
listed-as l = Ok l

abbrev inputs-as : List Inputs → Result (List Inputs) BatchStop
inputs-as is = Ok is

abbrev held-as : HeldBatch → Result HeldBatch BatchStop
held-as held = Ok held

-- ---- one line

-- the inputs after the constraint files are those of all three files
beside-inputs : (files : List StoredFile) (names : BatchNames) (own scenario : List ℕ) (c : Constraints) (inputs : Inputs) → constraints_of files (inputs_with names own) ≡ Ok c → inputs_with_constraints files c scenario ≡ Ok inputs →
    inputs_of files (inputs_with names scenario) ≡ Ok inputs
unfolding constraints_of inputs_with_constraints inputs_of sources_of
beside-inputs files names own scenario c inputs e h =
    let read_domains : Result (List Domain) Stop = and_then (file_of files names.domains Domains) (λ bytes. rows_read Domains (domains_of bytes)) in
    let read_pairs : List Domain → Result PairsView Stop = λ domains. and_then (file_of files names.rows Rows) (λ bytes. rows_read Rows (pairs_of bytes domains)) in
    let read_scenario : Result Scenario Stop = and_then (file_of files scenario ScenarioFile) (λ bytes. scenario_read (scenario_of bytes)) in
    let (domains, domains_are, more) = then-ok read_domains (λ domains. and_then (read_pairs domains) (λ pairs. Ok (record { domains = domains; pairs = pairs }))) c e in
    let (pairs, pairs_are, made) = then-ok (read_pairs domains) (λ pairs. Ok (record { domains = domains; pairs = pairs })) c more in
    let same : record { domains = domains; pairs = pairs } ≡ c = same-constraints (record { domains = domains; pairs = pairs }) c made in
    let (sc, scenario_is, joins) = then-ok read_scenario (λ sc. inputs_from sc c.pairs (joined sc c.domains c.pairs.list)) inputs h in
    let joins_own : inputs_from sc pairs (joined sc domains pairs.list) ≡ Ok inputs = subst (λ (z : Constraints). inputs_from sc z.pairs (joined sc z.domains z.pairs.list) ≡ Ok inputs) (sym same) joins in
    rw (domains_are, pairs_are, scenario_is, joins_own) refl
  where
    same-constraints : (a b : Constraints) → constraints-as a ≡ constraints-as b → a ≡ b
    same-constraints a b k = cc

-- the inputs of each line are those that `run` alone would read
pub each-own : (files : List StoredFile) (names : BatchNames) (own : List ℕ) (c : Constraints) (lines : List ListedNames) (inputs : List Inputs) → constraints_of files (inputs_with names own) ≡ Ok c →
    each_inputs files names c lines ≡ Ok inputs → AllZip (λ (line : ListedNames) i. inputs_of files (inputs_with names line.scenario) ≡ Ok i) lines inputs
each-own files names own c [] [] are e = tt
each-own files names own c [] (i ∷ is) are e = cc
each-own files names own c (line ∷ lines) inputs are e =
    let (first, first_is, rest) = on-ok (among (inputs_with names line.scenario) (inputs_with_constraints files c line.scenario)) (λ i. unless_stopped (each_inputs files names c lines) (λ more. Ok (i ∷ more))) inputs e in
    let (more, more_are, made) = on-ok (each_inputs files names c lines) (λ more. Ok (first ∷ more)) inputs rest in
    let same : first ∷ more ≡ inputs = same-list (first ∷ more) inputs made in
    subst (λ is. AllZip (λ (line : ListedNames) i. inputs_of files (inputs_with names line.scenario) ≡ Ok i) (line ∷ lines) is) same
    (beside-inputs files names own line.scenario c first are (among-ok (inputs_with names line.scenario) (inputs_with_constraints files c line.scenario) first first_is), each-own files names own c lines more are more_are)
  where
    same-list : (a b : List Inputs) → inputs-as a ≡ inputs-as b → a ≡ b
    same-list a b k = cc

-- ---- the batch

-- the parts of a batch that was read
pub record IsReadBatch (files : List StoredFile) (names : BatchNames) (held : HeldBatch) : Type 0 where
  pub once : repeated_result (names_in_words names) held.lines ≡ None
  pub own : AllZip (λ (line : ListedNames) i. inputs_of files (inputs_with names line.scenario) ≡ Ok i) held.lines held.inputs

-- the constraint files of a listing
listed-constraints : (files : List StoredFile) (names : BatchNames) (own : List ℕ) (listed : ListedView) → listing_of files (inputs_with names own) ≡ Ok listed → constraints_of files (inputs_with names own) ≡ Ok listed.constraints
unfolding listing_of
listed-constraints files names own listed e =
    let at = inputs_with names own in
    let (c, are, rest) = then-ok (constraints_of files at) (λ c. and_then (list_named files own) (λ lines. Ok (record { constraints = c; lines = lines }))) listed e in
    let (lines, lines_are, made) = then-ok (list_named files own) (λ lines. Ok (record { constraints = c; lines = lines })) listed rest in
    let same : record { constraints = c; lines = lines } ≡ listed = same-listed (record { constraints = c; lines = lines }) listed made in
    are ∙ ap (λ (l : ListedView). Ok l.constraints) same
  where
    same-listed : (a b : ListedView) → listed-as a ≡ listed-as b → a ≡ b
    same-listed a b k = cc

pub read-batch : (files : List StoredFile) (names : BatchNames) (held : HeldBatch) → batch_of files names ≡ Ok held → IsReadBatch files names held
unfolding batch_of
read-batch files names held e =
    let at = inputs_with names names.list in
    let (listed, listed_is, rest) = on-ok (among at (listing_of files at)) _ held e in
    let (lines, lines_are, more) = on-ok (once_each listed.lines (repeated_result (names_in_words names) listed.lines)) _ held rest in
    let (inputs, inputs_are, made) = on-ok (each_inputs files names listed.constraints lines) (λ inputs. Ok (record { lines = lines; inputs = inputs })) held more in
    let same : record { lines = lines; inputs = inputs } ≡ held = same-held (record { lines = lines; inputs = inputs }) held made in
    let once = once-ok listed.lines lines (repeated_result (names_in_words names) listed.lines) lines_are in
    let single : repeated_result (names_in_words names) lines ≡ None = ap (repeated_result (names_in_words names)) once.1 ∙ once.0 in
    let constraints = listed-constraints files names names.list listed (among-ok at (listing_of files at) listed listed_is) in
    subst (IsReadBatch files names) same (record { once = single; own = each-own files names names.list listed.constraints lines inputs constraints inputs_are })
  where
    same-held : (a b : HeldBatch) → held-as a ≡ held-as b → a ≡ b
    same-held a b k = cc

-- ---- different names

-- each name differs from those after it
abbrev Distinct : List (List ℕ) → Type 0
Distinct [] = Unit {0}
Distinct (x ∷ xs) = IsOther xs x × Distinct xs

here-behind : (pre rest : List (List ℕ)) (r : List ℕ) → Contains (pre ++ r ∷ rest) r
here-behind [] rest r = Contains-here r rest
here-behind (x ∷ pre) rest r = Contains-there x r (pre ++ r ∷ rest) (here-behind pre rest r)

-- names that are not repeated among all that are given
distinct : (given front pre rest : List (List ℕ)) → front ++ (pre ++ rest) ≡ given → find (λ name. is_repeated_among given name) (pre ++ rest) ≡ None → Distinct rest
distinct given front pre [] whole none = tt
distinct given front pre (r ∷ rest) whole none =
    (others [] rest refl, distinct given front (pre ++ r ∷ []) rest (ap (λ l. front ++ l) (append_assoc pre (r ∷ []) rest) ∙ whole) (ap (find (λ name. is_repeated_among given name)) (append_assoc pre (r ∷ []) rest) ∙ none))
  where
    others : (mid left : List (List ℕ)) → mid ++ left ≡ rest → IsOther left r
    others mid [] is = All-nil (λ name. r ≢ name)
    others mid (y ∷ ys) is =
        let at : (front ++ pre) ++ r ∷ (mid ++ y ∷ ys) ≡ given = append_assoc front pre (r ∷ (mid ++ y ∷ ys)) ∙ (ap (λ l. front ++ (pre ++ r ∷ l)) is ∙ whole) in
        All-cons (λ name. r ≢ name) y ys
        (λ same. not-found (λ name. is_repeated_among given name) (pre ++ r ∷ rest) r none (here-behind pre rest r) (twice-among given (front ++ pre) mid ys r y at same))
        (others (mid ++ y ∷ []) ys (append_assoc mid (y ∷ []) ys ∙ is))

distinct-results : (words : List (List ℕ)) (lines : List ListedNames) → repeated_result words lines ≡ None → Distinct (map (λ (l : ListedNames). l.result) lines)
unfolding repeated_result
distinct-results words lines none =
    let scenarios = map (λ (l : ListedNames). l.scenario) lines in
    distinct (names_given words lines) (words ++ scenarios) [] (map (λ (l : ListedNames). l.result) lines) (append_assoc words scenarios (map (λ (l : ListedNames). l.result) lines)) none

-- the texts' names are among the results'
texts-other : (lines : List ListedNames) (texts : List (Option (List ℕ))) (name : List ℕ) → IsOther (map (λ (l : ListedNames). l.result) lines) name → IsOther (names_of (texts_under lines texts)) name
texts-other [] texts name h = All-nil (λ n. name ≢ n)
texts-other (line ∷ lines) [] name h = All-nil (λ n. name ≢ n)
texts-other (line ∷ lines) (None ∷ texts) name h = texts-other lines texts name (All-tail (λ n. name ≢ n) line.result (map (λ (l : ListedNames). l.result) lines) h)
texts-other (line ∷ lines) (Some text ∷ texts) name h =
    All-cons (λ n. name ≢ n) line.result (names_of (texts_under lines texts)) (All-head (λ n. name ≢ n) line.result (map (λ (l : ListedNames). l.result) lines) h)
    (texts-other lines texts name (All-tail (λ n. name ≢ n) line.result (map (λ (l : ListedNames). l.result) lines) h))

texts-apart : (lines : List ListedNames) (texts : List (Option (List ℕ))) → Distinct (map (λ (l : ListedNames). l.result) lines) → AreApart (texts_under lines texts)
texts-apart [] texts h = tt
texts-apart (line ∷ lines) [] h = tt
texts-apart (line ∷ lines) (None ∷ texts) h = texts-apart lines texts h.1
texts-apart (line ∷ lines) (Some text ∷ texts) h = (texts-other lines texts line.result h.0, texts-apart lines texts h.1)

pub own-results : (words : List (List ℕ)) (lines : List ListedNames) (texts : List (Option (List ℕ))) → repeated_result words lines ≡ None → AreApart (texts_under lines texts)
own-results words lines texts once = texts-apart lines texts (distinct-results words lines once)

-- a name that is not one of the results' is not one of the texts'
pub other-results : (lines : List ListedNames) (texts : List (Option (List ℕ))) (name : List ℕ) → IsOther (map (λ (l : ListedNames). l.result) lines) name → IsOther (names_of (texts_under lines texts)) name
other-results = texts-other
