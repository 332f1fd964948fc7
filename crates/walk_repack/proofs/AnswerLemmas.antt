-- The answers that a walk ends with are valid.
use Rattle.std.proofs.Common.{◌≡◌, ℕ, true, false, not, cond, ◌==◌, ◌&&◌, nat_lt, List, [], ◌∷◌, length, Some, None, unwrap_or, refl, sym, ap, subst, ◌∙◌, eqb-true, eq-eqb, arith}
use Rattle.std.specs.List.{list_all}
use Rattle.std.proofs.lemmas.Bool.{and_from, and_parts, or_left}
use Rattle.std.proofs.lemmas.Bool.Decides.{nat_tests}
use Rattle.pack_defs.specs.declared.worker.Worker.{Worker}
use Rattle.pack_defs.specs.declared.pair.Pair.{Pair}
use Rattle.pack_defs.specs.Book.{BookView, domain_of}
use Rattle.pack_defs.specs.ChannelMap.{channel_of, overlaid}
use Rattle.pack_defs.specs.Lists.{has_entry, is_empty, is_in}
use Rattle.assign_check.specs.Fault.{IsCleanOn}
use Rattle.pack_defs.proofs.Members.{list_all-gives}
use Rattle.pack_defs.proofs.Words.{Contains-from_has_entry}
use Rattle.assign_check.specs.Assignment.{violations}
use Rattle.assign_check.proofs.CountLaws.{any-violated, counted-clean}
use Rattle.cert_types.specs.declared.task.Task.{Task}
use Rattle.cert_types.specs.declared.answer.Answer.TheVariants.{Fit, Refuted, Spent}
use Rattle.cert_types.specs.declared.answer.Refutation.TheVariants.{Dead}
use Rattle.cert_types.specs.declared.answer.Receipt.TheVariants.{Moves}
use Rattle.cert_types.specs.Query.{IsQuery, has_channels, is_on_domains}
use Rattle.cert_types.specs.Refutes.{is_dead}
use Rattle.cert_types.specs.Valid.{IsValid}
use Rattle.pack_defs.specs.Scenario.{learns}
use Rattle.cert_types.specs.Moves.{AreSpentMoves, least_of, start_map, violates_some}
use Rattle.cert_types.proofs.Meaning.{means-dead, means-fit, means-moves}
use Rattle.cert_types.proofs.QueryLaws.{query-parts}
use Rattle.walk_repack.specs.WalkState.{AreOnDomains, WalkStateView, IsWalkState}
use Rattle.walk_repack.specs.Steps.{map_stations}

-- ---- the start map

-- A channel of the last map is in the station's domain.
last-on : (book : BookView) (set : List ℕ) (last : List (ℕ × ℕ)) (s c : ℕ) → is_on_domains book set last ≡ true → channel_of s last ≡ Some c → is_in (domain_of book s) c ≡ true
last-on book set [] s c d e = cc
last-on book set (x ∷ xs) s c d e =
    let parts = and_parts (is_in set x.0 && is_in (domain_of book x.0) x.1) (is_on_domains book set xs) d in
    let own = (and_parts (is_in set x.0) (is_in (domain_of book x.0) x.1) parts.0).1 in
    (elim (x.0 == s) as (λ b. (x.0 == s) ≡ b → cond b (Some x.1) (channel_of s xs) ≡ Some c → is_in (domain_of book s) c ≡ true) [
      | true ↦ λ is. λ (f : Some x.1 ≡ Some c).
          let same : x.1 ≡ c = cc in
          subst (λ t. is_in (domain_of book t) c ≡ true) (eqb-true x.0 s is) (subst (λ b. is_in (domain_of book x.0) b ≡ true) same own)
      | false ↦ λ is f. last-on book set xs s c parts.1 f
    ]) refl e

least-in : (channels : List ℕ) → not (is_empty channels) ≡ true → is_in channels (least_of channels) ≡ true
least-in [] h = cc
least-in (c ∷ cs) h = or_left (c == c) (is_in cs c) (eq-eqb c c refl)

started-on : (book : BookView) (set : List ℕ) (last : List (ℕ × ℕ)) (s : ℕ) → is_on_domains book set last ≡ true → not (is_empty (domain_of book s)) ≡ true → is_in (domain_of book s) (unwrap_or (channel_of s last) (least_of (domain_of book s))) ≡ true
started-on book set last s d some =
    (elim (channel_of s last) as (λ o. channel_of s last ≡ o → is_in (domain_of book s) (unwrap_or o (least_of (domain_of book s))) ≡ true) [
      | None ↦ λ e. least-in (domain_of book s) some
      | Some c ↦ λ e. last-on book set last s c d e
    ]) refl

start-on : (book : BookView) (set : List ℕ) (last : List (ℕ × ℕ)) (some : List ℕ) → is_on_domains book set last ≡ true → has_channels book some ≡ true → AreOnDomains book (start_map book last some)
start-on book set last [] d h = refl
start-on book set last (s ∷ ss) d h =
    let parts = and_parts (not (is_empty (domain_of book s))) (has_channels book ss) h in
    let c = unwrap_or (channel_of s last) (least_of (domain_of book s)) in
    and_from (is_in (domain_of book s) c) (list_all (λ (x : ℕ × ℕ). is_in (domain_of book x.0) x.1) (start_map book last ss)) (started-on book set last s d parts.0) (start-on book set last ss d parts.1)

-- Each station of a query's start map is on a channel of its domain.
pub query-starts : (book : BookView) (task : Task) → IsQuery book task → AreOnDomains book (start_map book task.last task.set)
query-starts book task q = let parts = query-parts book task q in start-on book task.set task.last task.set parts.domains parts.channels

pub start-stations : (book : BookView) (last : List (ℕ × ℕ)) (set : List ℕ) → map_stations (start_map book last set) ≡ set
start-stations book last [] = refl
start-stations book last (s ∷ ss) = ap (λ rest. s ∷ rest) (start-stations book last ss)

-- The stations of a walk from the start map are the set.
pub walk_state-stations : (book : BookView) (task : Task) (v : WalkStateView) → IsWalkState v → v.start ≡ start_map book task.last task.set → map_stations v.entries ≡ task.set
walk_state-stations book task v h e = h.stations ∙ ap map_stations e ∙ start-stations book task.last task.set

-- ---- a fit

no-number : (n : ℕ) → nat_lt 0 n ≡ false → n ≡ 0
no-number n h = grind (arith, nat_tests)

pub fit-valid : (book : BookView) (task : Task) (worker : Worker) (v : WalkStateView) (delta : List (ℕ × ℕ)) → IsWalkState v → v.book ≡ book → map_stations v.entries ≡ task.set → violates_some v.book v.entries ≡ false → overlaid task.last delta ≡ v.entries → IsValid book task worker (Fit delta)
fit-valid book task worker v delta h b e clean over =
    let on : (x : ℕ × ℕ) → has_entry v.entries x ≡ true → is_in (domain_of v.book x.0) x.1 ≡ true =
    λ x k. list_all-gives (λ (y : ℕ × ℕ). is_in (domain_of v.book y.0) y.1) v.entries x h.on_domains (Contains-from_has_entry v.entries x k) in
    let none : violations v.book v.entries ≡ 0 = no-number (violations v.book v.entries) (any-violated v.book v.entries ∙ clean) in
    let whole = counted-clean v.book task.set v.entries none e on in
    means-fit book task worker delta (subst (λ (m : List (ℕ × ℕ)). IsCleanOn book task.set m) (sym over) (subst (λ (k : BookView). IsCleanOn k task.set v.entries) b whole))

-- ---- a receipt

pub receipt-valid : (task : Task) (worker : Worker) (v : WalkStateView) (moves : List (ℕ × ℕ)) → IsWalkState v → violates_some v.book v.entries ≡ true → v.start ≡ start_map v.book task.last task.set → learns worker.kind ≡ false → length v.moves ≡ worker.budget → moves ≡ v.moves → IsValid v.book task worker (Spent (Moves moves))
receipt-valid task worker v moves h some start walker whole e =
    subst (λ (ms : List (ℕ × ℕ)). IsValid v.book task worker (Spent (Moves ms))) (sym e)
    (means-moves v.book task worker v.moves (record {
      by_walker = walker;
      whole_budget = whole;
      spent = subst (λ (m : List (ℕ × ℕ)). AreSpentMoves v.book m v.moves) start (h.spent some);
    }))

-- ---- a dead pair

pub dead-valid : (task : Task) (worker : Worker) (v : WalkStateView) (p : Pair) → IsWalkState v → is_dead v.book (map_stations v.entries) p ≡ true → v.start ≡ start_map v.book task.last task.set → IsValid v.book task worker (Refuted (Dead p))
dead-valid task worker v p h dead start =
    means-dead v.book task worker p (subst (λ (xs : List ℕ). is_dead v.book xs p ≡ true) (walk_state-stations v.book task v h start) dead)
