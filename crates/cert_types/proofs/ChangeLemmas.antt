-- For `changes`: a fit that names the tested station is valid exactly if its own entries are of the set and on their domains, and
-- no pair of their stations is violated.
use Rattle.std.proofs.Common.{◌≡◌, ℕ, Bool, true, false, not, ◌==◌, ◌&&◌, ◌||◌, List, find, Option, Some, None, is_none, option_map, inl, inr, refl, ap, subst, eqb-true, sym, ◌∙◌}
use Rattle.std.proofs.lemmas.Bool.{and_from, and_parts, both_ways, false_from_ne_true, not-true, or_cases}
use Rattle.pack_defs.specs.Book.{BookView, domain_of}
use Rattle.pack_defs.specs.ChannelMap.{IsAscending, overlaid}
use Rattle.pack_defs.specs.Lists.{has_entry, has_station, is_ascending, is_in}
use Rattle.pack_defs.proofs.Members.{is_in-from, is_in-gives, list_all-from, list_all-gives}
use Rattle.pack_defs.proofs.Words.{Contains-from_has_entry, has_entry-from_Contains, list_all-at, mapped-none}
use Rattle.assign_check.specs.declared.fault.MapFault.TheVariants.{Violates}
use Rattle.assign_check.specs.Changes.{violates_at_some}
use Rattle.assign_check.specs.Fault.{first_fault, is_violated, IsCleanOn}
use Rattle.assign_check.proofs.Changed.{none-changed_violated, none-violated_changed}
use Rattle.assign_check.proofs.Faultless.{faultless, found-none, no-violation, not-joined}
use Rattle.assign_check.proofs.Overlays.{change-stands, overlaid-from, overlaid-has, overlaid-keeps}
use Rattle.cert_types.specs.declared.task.Task.{Task}
use Rattle.cert_types.specs.Query.{IsQuery, places_others, is_named, is_on_domains}
use Rattle.cert_types.specs.Valid.{fit_fault, place_of}
use Rattle.cert_types.proofs.QueryLaws.{query-parts}
use Rattle.cert_types.proofs.Validity.{fit-clean, none_is}

pub query-rises : (book : BookView) (task : Task) → IsQuery book task → is_ascending task.set ≡ true
query-rises book task query = (query-parts book task query).rises

-- a station of the set is the tested one, which the fit names, or is in the last map
has-each : (station : Option ℕ) (set : List ℕ) (last delta : List (ℕ × ℕ)) → places_others station set last ≡ true → is_named station delta ≡ true → (s : ℕ) → is_in set s ≡ true → has_station (overlaid last delta) s ≡ true
has-each None set last delta others named s h = cc
has-each (Some t) set last delta others named s h =
    elim (or_cases (s == t) (has_station last s) (list_all-at (λ u. (u == t) || has_station last u) set s others h)) [
      | inl e ↦ subst (λ u. has_station (overlaid last delta) u ≡ true) (sym (eqb-true s t e)) (overlaid-has last delta t named)
      | inr stands ↦ overlaid-keeps last delta s stands
    ]

-- an entry is of the set, on its domain
entry-on : (book : BookView) (set : List ℕ) (entries : List (ℕ × ℕ)) (x : ℕ × ℕ) → is_on_domains book set entries ≡ true → has_entry entries x ≡ true → (is_in set x.0 ≡ true) × (is_in (domain_of book x.0) x.1 ≡ true)
entry-on book set entries x on h =
    and_parts (is_in set x.0) (is_in (domain_of book x.0) x.1)
    (list_all-gives (λ y. is_in set y.0 && is_in (domain_of book y.0) y.1) entries x on (Contains-from_has_entry entries x h))

either-on : (book : BookView) (set : List ℕ) (last delta : List (ℕ × ℕ)) (x : ℕ × ℕ) → is_on_domains book set last ≡ true → is_on_domains book set delta ≡ true → has_entry (overlaid last delta) x ≡ true → (is_in set x.0 ≡ true) × (is_in (domain_of book x.0) x.1 ≡ true)
either-on book set last delta x before after h =
    elim (overlaid-from last delta x h) [
      | inl new ↦ entry-on book set delta x after new
      | inr old ↦ entry-on book set last x before old
    ]

pub fits-changed : (book : BookView) (task : Task) (delta : List (ℕ × ℕ)) → IsQuery book task → is_named task.station delta ≡ true → is_on_domains book task.set delta ≡ true → violates_at_some book (overlaid task.last delta) delta ≡ false → fit_fault book task delta ≡ None
fits-changed book task delta query named on e =
    let map = overlaid task.last delta in
    let parts = query-parts book task query in
    let none = found-none (is_violated map) book.pairs (mapped-none Violates (find (is_violated map) book.pairs) (none-violated_changed book task.last delta parts.clean e)) in
    let clean : IsCleanOn book task.set map = record {
      each = has-each task.station task.set task.last delta parts.others named;
      only = λ x h. (either-on book task.set task.last delta x parts.domains on h).0;
      clean = record {
        on_domain = λ x k. is_in-gives (domain_of book x.0) x.1 (either-on book task.set task.last delta x parts.domains on (has_entry-from_Contains map x k)).1;
        apart = λ x y k l. not-joined map x y book.pairs (has_entry-from_Contains map x k) (has_entry-from_Contains map y l) none;
      };
    } in
    ap (option_map place_of) (faultless book task.set map clean)

-- ---- the converse

pub fit-on_domains : (book : BookView) (task : Task) (delta : List (ℕ × ℕ)) → IsAscending delta → fit_fault book task delta ≡ None → is_on_domains book task.set delta ≡ true
fit-on_domains book task delta a e =
    let map = overlaid task.last delta in
    let clean = fit-clean book task delta e in
    list_all-from (λ x. is_in task.set x.0 && is_in (domain_of book x.0) x.1) delta (λ x there.
    let stands = change-stands task.last delta x a (has_entry-from_Contains delta x there) in
    and_from (is_in task.set x.0) (is_in (domain_of book x.0) x.1) (clean.only x stands) (is_in-from (domain_of book x.0) x.1 (clean.clean.on_domain x (Contains-from_has_entry map x stands))))

pub fit-violates_none : (book : BookView) (task : Task) (delta : List (ℕ × ℕ)) → fit_fault book task delta ≡ None → violates_at_some book (overlaid task.last delta) delta ≡ false
fit-violates_none book task delta e =
    let map = overlaid task.last delta in
    none-changed_violated book map delta (no-violation book task.set map (mapped-none place_of (first_fault book task.set map) e))

-- ---- the test, step by step

and-no : (b c : Bool) → c ≡ false → false ≡ (b && c)
and-no true c e = sym e
and-no false c e = refl

and-yes : (b c d : Bool) → b ≡ true → d ≡ c → d ≡ (b && c)
and-yes true c d h e = e
and-yes false c d h e = cc

none-exactly : {A : Type 0} (b : Bool) (o : Option A) → (b ≡ true → o ≡ None) → (o ≡ None → b ≡ true) → b ≡ is_none o
none-exactly b None f g = g refl
none-exactly true (Some x) f g = cc (f refl)
none-exactly false (Some x) f g = refl

pub not-named : (b c : Bool) → b ≡ false → false ≡ (b && c)
not-named true c e = cc
not-named false c e = refl

pub off-domains : (book : BookView) (task : Task) (delta : List (ℕ × ℕ)) → IsAscending delta → is_on_domains book task.set delta ≡ false → false ≡ (is_named task.station delta && is_none (fit_fault book task delta))
off-domains book task delta a e =
    let fault = fit_fault book task delta in
    and-no (is_named task.station delta) (is_none fault)
    (false_from_ne_true (is_none fault) (λ h. both_ways (is_on_domains book task.set delta) e (fit-on_domains book task delta a (none_is fault h))))

pub on-domains : (book : BookView) (task : Task) (delta : List (ℕ × ℕ)) → IsQuery book task → is_named task.station delta ≡ true → is_on_domains book task.set delta ≡ true → not (violates_at_some book (overlaid task.last delta) delta) ≡ (is_named task.station delta && is_none (fit_fault book task delta))
on-domains book task delta query named on =
    let violates = violates_at_some book (overlaid task.last delta) delta in
    and-yes (is_named task.station delta) (is_none (fit_fault book task delta)) (not violates) named
    (none-exactly (not violates) (fit_fault book task delta) (λ h. fits-changed book task delta query named on (not-true violates h)) (λ e. ap not (fit-violates_none book task delta e)))

-- the rules for `fits_by_changes`
pub ruleset by_changes = (query-rises, not-named, off-domains, on-domains)

-- ---- what the callers conclude

pub without-fault : {A : Type 0} (fits named : Bool) (fault : Option A) → fits ≡ (named && is_none fault) → fits ≡ true → fault ≡ None
without-fault fits named fault e h = none_is fault (and_parts named (is_none fault) (sym e ∙ h)).1

-- the rules for its callers
pub ruleset fault_none = (without-fault)
