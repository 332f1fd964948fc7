-- For `laws`: the text that is written for a scenario, byte for byte, is read back as that scenario.
use Rattle.std.proofs.Common.{◌≡◌, ◌∙◌, ℕ, suc, ◌<◌, ◌≤◌, ◌^◌, Bool, true, false, List, [], ◌∷◌, ◌++◌, map, max, All, Option, Some, None, decimal, option_map, append-nil, refl, sym, ap, ap₂, subst, arith}
use Rattle.std.specs.Prelude.{Ok, codes, option_and_then}
use Rattle.std.specs.Bool.{⊤}
use Rattle.std.specs.Option.{MatchOption}
use Rattle.std.specs.Str.{IsUtf8}
use Rattle.std.proofs.lemmas.Fmt.{IsAscii-decimal}
use Rattle.std.proofs.lemmas.Str.{IsUtf8-append, IsUtf8-from_ascii}
use Rattle.std.proofs.lemmas.List.Elements.{All-head, All-tail}
use Rattle.json.specs.Json as json
use Rattle.json.specs.Print.{IsNumber, quoted}
use Rattle.json.specs.Token.{Token}
use Rattle.json.specs.Tree as tree
use Rattle.json.proofs.Printed.Decimals.{IsNumber-decimal}
use Rattle.json.proofs.Printed.Tokens.{tokens-print}
use Rattle.json.proofs.Printed.Trees.{ArePrintable-json_tokens, value-json_tokens}
use Rattle.json.proofs.Printed.Utf8.{IsUtf8-are_ascii, IsUtf8-boolean, IsUtf8-quoted}
use Rattle.serde_json.specs.Data.{Num, unsigned, negative, float, Data, null, boolean, number, string, array, object, Items, no_items, item, Members, no_members, member, depth, items_depth, members_depth}
use Rattle.serde_json.specs.Read.{of_json, of_items, read}
use Rattle.serde_json.specs.View.{items_of}
use Rattle.serde_json.specs.Written.{comma_if, compact_text, items_outline, items_text, members_outline, members_text, number_text, outline}
use Rattle.serde_json.proofs.Numbers.{number_of-decimal}
use Rattle.serde_json.proofs.Texts.{print-outline}
use Rattle.pack_defs.specs.declared.fall.Fall.{Fall}
use Rattle.pack_defs.specs.declared.fall.Fall.TheVariants.{Listed, Rated}
use Rattle.pack_defs.specs.declared.scenario.Scenario.{Scenario}
use Rattle.pack_defs.specs.declared.station.Station.{Station}
use Rattle.pack_defs.specs.declared.worker.Kind.{Kind}
use Rattle.pack_defs.specs.declared.worker.Kind.TheVariants.{Cdcl, Walk}
use Rattle.pack_defs.specs.declared.worker.Worker.{Worker}
use Rattle.pack_defs.specs.Scenario.{IsFallWithinLimits, IsStationWithinLimits, IsWithinLimits, IsWorkerWithinLimits, most_budget, version_of}
use Rattle.scenario_json.specs.ScenarioOf.{scenario_of}
use Rattle.scenario_json.specs.Write.{IsFileNumber, IsFileSeed, IsWritableScenario, data_for, kind_text, last_members, list_for, members_for, station_for, value_for, whole_for, worker_for}
use Rattle.scenario_json.proofs.Readings.{json-is}
use Rattle.scenario_json.proofs.Limits.{IsDecrement}
use Rattle.scenario_json.proofs.WrittenLemmas.{data-shallow, text-reads}

-- ---- a value whose numbers are below 2^64 and whose texts are UTF-8

abbrev IsReportedNumber : Num → Type 0
IsReportedNumber (unsigned n) = n < 2 ^ 64
IsReportedNumber (negative z) = ⊥
IsReportedNumber (float x) = ⊥

abbrev mutual
  IsReported : Data → Type 0
  IsReported null = ⊤
  IsReported (boolean b) = ⊤
  IsReported (number n) = IsReportedNumber n
  IsReported (string s) = IsUtf8 s
  IsReported (array ds) = AreReported ds
  IsReported (object ms) = HasTold ms

  AreReported : Items → Type 0
  AreReported no_items = ⊤
  AreReported (item d ds) = IsReported d × AreReported ds

  HasTold : Members → Type 0
  HasTold no_members = ⊤
  HasTold (member k d ms) = IsUtf8 k × IsReported d × HasTold ms

is-number : (n : Num) → IsReportedNumber n → IsNumber (number_text n)
is-number (unsigned n) h = IsNumber-decimal n h
is-number (negative z) h = absurd h
is-number (float x) h = absurd h

mutual
  has-numbers : (d : Data) → IsReported d → tree.HasNumbers (outline d)
  has-numbers null h = tt
  has-numbers (boolean b) h = tt
  has-numbers (number n) h = is-number n h
  has-numbers (string s) h = tt
  has-numbers (array ds) h = items-numbers ds h
  has-numbers (object ms) h = members-numbers ms h

  items-numbers : (ds : Items) → AreReported ds → tree.ItemsHaveNumbers (items_outline ds)
  items-numbers no_items h = tt
  items-numbers (item d ds) h = (has-numbers d h.0, items-numbers ds h.1)

  members-numbers : (ms : Members) → HasTold ms → tree.MembersHaveNumbers (members_outline ms)
  members-numbers no_members h = tt
  members-numbers (member k d ms) h = (has-numbers d h.1, members-numbers ms h.2)

mutual
  depth-outline : (d : Data) → tree.depth (outline d) ≡ depth d
  depth-outline null = refl
  depth-outline (boolean b) = refl
  depth-outline (number n) = refl
  depth-outline (string s) = refl
  depth-outline (array ds) = ap suc (items_depth-outline ds)
  depth-outline (object ms) = ap suc (members_depth-outline ms)

  items_depth-outline : (ds : Items) → tree.items_depth (items_outline ds) ≡ items_depth ds
  items_depth-outline no_items = refl
  items_depth-outline (item d ds) = ap₂ max (depth-outline d) (items_depth-outline ds)

  members_depth-outline : (ms : Members) → tree.members_depth (members_outline ms) ≡ members_depth ms
  members_depth-outline no_members = refl
  members_depth-outline (member k d ms) = ap₂ max (depth-outline d) (members_depth-outline ms)

number-utf8 : (n : Num) → IsReportedNumber n → IsUtf8 (number_text n)
number-utf8 (unsigned n) h = IsUtf8-from_ascii (decimal n) (IsAscii-decimal n h)
number-utf8 (negative z) h = absurd h
number-utf8 (float x) h = absurd h

comma-utf8 : (later : Bool) → IsUtf8 (comma_if later)
comma-utf8 true = IsUtf8-are_ascii (44 ∷ []) refl
comma-utf8 false = IsUtf8-are_ascii [] refl

mutual
  text-utf8 : (d : Data) → IsReported d → IsUtf8 (compact_text d)
  text-utf8 null h = IsUtf8-are_ascii (codes "null") refl
  text-utf8 (boolean b) h = IsUtf8-boolean b
  text-utf8 (number n) h = number-utf8 n h
  text-utf8 (string s) h = IsUtf8-quoted s h
  text-utf8 (array ds) h = IsUtf8-append (91 ∷ []) (items_text false ds) (IsUtf8-are_ascii (91 ∷ []) refl) (items-utf8 false ds h)
  text-utf8 (object ms) h = IsUtf8-append (123 ∷ []) (members_text false ms) (IsUtf8-are_ascii (123 ∷ []) refl) (members-utf8 false ms h)

  items-utf8 : (later : Bool) (ds : Items) → AreReported ds → IsUtf8 (items_text later ds)
  items-utf8 later no_items h = IsUtf8-are_ascii (93 ∷ []) refl
  items-utf8 later (item d ds) h =
      IsUtf8-append (comma_if later) (compact_text d ++ items_text true ds) (comma-utf8 later)
      (IsUtf8-append (compact_text d) (items_text true ds) (text-utf8 d h.0) (items-utf8 true ds h.1))

  members-utf8 : (later : Bool) (ms : Members) → HasTold ms → IsUtf8 (members_text later ms)
  members-utf8 later no_members h = IsUtf8-are_ascii (125 ∷ []) refl
  members-utf8 later (member k d ms) h =
      IsUtf8-append (comma_if later) (quoted k ++ 58 ∷ (compact_text d ++ members_text true ms)) (comma-utf8 later)
      (IsUtf8-append (quoted k) (58 ∷ (compact_text d ++ members_text true ms)) (IsUtf8-quoted k h.0)
      (IsUtf8-append (58 ∷ []) (compact_text d ++ members_text true ms) (IsUtf8-are_ascii (58 ∷ []) refl)
      (IsUtf8-append (compact_text d) (members_text true ms) (text-utf8 d h.1) (members-utf8 true ms h.2))))

-- the tokens as JSON, and this as a value
abbrev from_tokens : List Token → Option Data
from_tokens ts = option_and_then of_json (option_and_then (λ p. json.if_last p.0 p.1) (json.value 127 ts))

-- the text of a value is read as its outline is
read-text : (d : Data) → IsReported d → depth d ≤ 127 → read (compact_text d) ≡ of_json (outline d)
read-text d pairs_view shallow =
    let j : json.Json = outline d in
    let printable = ArePrintable-json_tokens j (has-numbers d pairs_view) in
    let deep : tree.depth j ≤ 127 = subst (λ n. n ≤ 127) (sym (depth-outline d)) shallow in
    let parsed : json.value 127 (tree.json_tokens j ++ []) ≡ Some (j, []) = value-json_tokens j 127 [] deep in
    ap read (sym (print-outline d))
    ∙ ap from_tokens (tokens-print (tree.json_tokens j) printable ∙ sym (append-nil (tree.json_tokens j)))
    ∙ ap (λ o. option_and_then of_json (option_and_then (λ p. json.if_last p.0 p.1) o)) parsed

-- ---- numbers and lists

number-back : (n : ℕ) → n < 2 ^ 64 → of_json (outline (whole_for n)) ≡ Some (whole_for n)
number-back n h = ap (option_map number) (number_of-decimal n h)

-- the value can be written, and is its outline
record IsBack (d : Data) : Type 0 where
  pub pairs_view : IsReported d
  pub back : of_json (outline d) ≡ Some d

whole-back : (n : ℕ) → n < 2 ^ 64 → IsBack (whole_for n)
whole-back n h = record { pairs_view = h; back = number-back n h }

items-told : {A : Type 0} (P : A → Type 0) (write : A → Data) (xs : List A) → ((x : A) → P x → IsBack (write x)) → All P xs → AreReported (items_of (map write xs))
items-told P write [] one all = tt
items-told P write (x ∷ xs) one all = ((one x (All-head P x xs all)).pairs_view, items-told P write xs one (All-tail P x xs all))

items-back : {A : Type 0} (P : A → Type 0) (write : A → Data) (xs : List A) → ((x : A) → P x → IsBack (write x)) → All P xs → of_items (items_outline (items_of (map write xs))) ≡ Some (items_of (map write xs))
items-back P write [] one all = refl
items-back P write (x ∷ xs) one all = rw ((one x (All-head P x xs all)).back, items-back P write xs one (All-tail P x xs all)) refl

list-back : {A : Type 0} (P : A → Type 0) (write : A → Data) (xs : List A) → ((x : A) → P x → IsBack (write x)) → All P xs → IsBack (list_for write xs)
list-back P write xs one all = record { pairs_view = items-told P write xs one all; back = ap (option_map array) (items-back P write xs one all) }

-- ---- stations and workers

value-back : (v : Option ℕ) → MatchOption v ⊤ (λ n. n ≤ 1000000000000000) → IsBack (value_for v)
value-back None h = record { pairs_view = tt; back = refl }
value-back (Some n) h = whole-back n (omega (arith, h))

abbrev IsGoodStation : Station → Type 0
IsGoodStation x = IsFileNumber x × IsStationWithinLimits x

station-is : (x : Station) → IsBack (whole_for x.id) → IsBack (value_for x.value) → IsBack (whole_for x.volume) → IsBack (station_for x)
unfolding station_for
station-is x id value volume =
    record {
      pairs_view = (IsUtf8-are_ascii (codes "id") refl, id.pairs_view, (IsUtf8-are_ascii (codes "value") refl, value.pairs_view, (IsUtf8-are_ascii (codes "volume") refl, volume.pairs_view, tt)));
      back = rw (id.back, value.back, volume.back) refl;
    }

station-back : (x : Station) → IsGoodStation x → IsBack (station_for x)
station-back x good =
    let low : x.id ≤ 4294967295 = good.0 in
    let limits : IsStationWithinLimits x = good.1 in
    let volume : x.volume ≤ 1000000 = limits.volume in
    station-is x (whole-back x.id (omega (arith, low))) (value-back x.value limits.value) (whole-back x.volume (omega (arith, volume)))

kind-back : (k : Kind) → IsBack (string (kind_text k))
kind-back Cdcl = record { pairs_view = IsUtf8-are_ascii (codes "cdcl") refl; back = refl }
kind-back Walk = record { pairs_view = IsUtf8-are_ascii (codes "walk") refl; back = refl }

worker-is : (w : Worker) → IsBack (whole_for w.budget) → IsBack (string (kind_text w.kind)) → IsBack (whole_for w.seed) → IsBack (worker_for w)
unfolding worker_for
worker-is w budget kind seed =
    record {
      pairs_view = (IsUtf8-are_ascii (codes "budget") refl, budget.pairs_view, (IsUtf8-are_ascii (codes "kind") refl, kind.pairs_view, (IsUtf8-are_ascii (codes "seed") refl, seed.pairs_view, tt)));
      back = rw (budget.back, seed.back) refl;
    }

budget-small : (k : Kind) (n : ℕ) → n ≤ most_budget k → n < 2 ^ 64
budget-small Cdcl n h = omega (arith, h)
budget-small Walk n h = omega (arith, h)

abbrev IsGoodWorker : Worker → Type 0
IsGoodWorker w = IsFileSeed w × IsWorkerWithinLimits w

worker-back : (w : Worker) → IsGoodWorker w → IsBack (worker_for w)
worker-back w good =
    let seed : w.seed ≤ 18446744073709551615 = good.0 in
    let limits : IsWorkerWithinLimits w = good.1 in
    worker-is w (whole-back w.budget (budget-small w.kind w.budget limits.budget)) (kind-back w.kind) (whole-back w.seed (omega (arith, seed)))

-- ---- the scenario

-- what both versions have last
record HasLast (sc : Scenario) : Type 0 where
  pub opening : IsBack (whole_for sc.opening)
  pub stations : IsBack (list_for station_for sc.stations)
  pub top : IsBack (whole_for sc.top)
  pub version : IsBack (whole_for sc.version)
  pub workers : IsBack (list_for worker_for sc.workers)

listed-back : (ds : List ℕ) (sc : Scenario) → IsBack (list_for whole_for ds) → HasLast sc → IsBack (object (members_for (Listed ds) sc))
unfolding members_for last_members
listed-back ds sc decrements last =
    record {
      pairs_view = (IsUtf8-are_ascii (codes "decrements") refl, decrements.pairs_view, (IsUtf8-are_ascii (codes "opening") refl, last.opening.pairs_view, (IsUtf8-are_ascii (codes "stations") refl, last.stations.pairs_view, (IsUtf8-are_ascii (codes "top") refl, last.top.pairs_view, (IsUtf8-are_ascii (codes "version") refl, last.version.pairs_view, (IsUtf8-are_ascii (codes "workers") refl, last.workers.pairs_view, tt))))));
      back = rw (decrements.back, last.opening.back, last.stations.back, last.top.back, last.version.back, last.workers.back) refl;
    }

rated-back : (rate floor : ℕ) (sc : Scenario) → IsBack (whole_for rate) → IsBack (whole_for floor) → HasLast sc → IsBack (object (members_for (Rated rate floor) sc))
unfolding members_for last_members
rated-back rate floor sc by least last =
    record {
      pairs_view = (IsUtf8-are_ascii (codes "floor") refl, least.pairs_view, (IsUtf8-are_ascii (codes "opening") refl, last.opening.pairs_view, (IsUtf8-are_ascii (codes "rate") refl, by.pairs_view, (IsUtf8-are_ascii (codes "stations") refl, last.stations.pairs_view, (IsUtf8-are_ascii (codes "top") refl, last.top.pairs_view, (IsUtf8-are_ascii (codes "version") refl, last.version.pairs_view, (IsUtf8-are_ascii (codes "workers") refl, last.workers.pairs_view, tt)))))));
      back = rw (least.back, last.opening.back, by.back, last.stations.back, last.top.back, last.version.back, last.workers.back) refl;
    }

decrement-back : (n : ℕ) → IsDecrement n → IsBack (whole_for n)
decrement-back n h =
    let low : n ≤ 1000000 = h.1 in
    whole-back n (omega (arith, low))

fall-back : (f : Fall) (sc : Scenario) (opening : ℕ) → IsFallWithinLimits opening f → HasLast sc → IsBack (object (members_for f sc))
fall-back (Listed ds) sc opening limits last =
    listed-back ds sc (list-back IsDecrement whole_for ds decrement-back limits.each) last
fall-back (Rated rate floor) sc opening limits last =
    let by : rate ≤ 1000 = limits.rate_most in
    let least : floor ≤ 1000 = limits.floor_most in
    rated-back rate floor sc (whole-back rate (omega (arith, by))) (whole-back floor (omega (arith, least))) last

version-small : (f : Fall) (n : ℕ) → n ≡ version_of f → n < 2 ^ 64
version-small (Listed ds) n e = omega (arith, e)
version-small (Rated rate floor) n e = omega (arith, e)

both : {A : Type 0} (P Q : A → Type 0) (xs : List A) → All P xs → All Q xs → All (λ x. P x × Q x) xs
both P Q xs p q = λ k d inside. (p k d inside, q k d inside)

last-back : (sc : Scenario) → IsWritableScenario sc → HasLast sc
last-back sc file =
    let limits : IsWithinLimits sc = file.limits in
    let opening : sc.opening ≤ 1000000 = limits.opening in
    let top : sc.top ≤ 51 = limits.top in
    let stations : All IsGoodStation sc.stations = both IsFileNumber IsStationWithinLimits sc.stations file.numbers limits.each_station in
    let workers : All IsGoodWorker sc.workers = both IsFileSeed IsWorkerWithinLimits sc.workers file.seeds limits.each_worker in
    record {
      opening = whole-back sc.opening (omega (arith, opening));
      stations = list-back IsGoodStation station_for sc.stations station-back stations;
      top = whole-back sc.top (omega (arith, top));
      version = whole-back sc.version (version-small sc.fall sc.version limits.version);
      workers = list-back IsGoodWorker worker_for sc.workers worker-back workers;
    }

pub written-reads : (sc : Scenario) → IsWritableScenario sc → scenario_of (compact_text (data_for sc)) ≡ Ok sc
written-reads sc file =
    let limits : IsWithinLimits sc = file.limits in
    let whole_number : IsBack (data_for sc) = fall-back sc.fall sc sc.opening limits.fall (last-back sc file) in
    let bytes : List ℕ = compact_text (data_for sc) in
    text-reads sc bytes limits file.numbers file.by_value
    (sym (json-is bytes (data_for sc) (text-utf8 (data_for sc) whole_number.pairs_view) (read-text (data_for sc) whole_number.pairs_view (data-shallow sc) ∙ whole_number.back)))
