-- The parts of the statement that a task is a query, and the converse.
use Rattle.std.proofs.Common.{◌≡◌, ◌∙◌, ◌&&◌, ◌==◌, ℕ, true, is_none, List, [], ◌∷◌, None, ap, map, subst, sym, ⊎_elim, eqb-true}
use Rattle.std.proofs.lemmas.Bool.{and_from, and_parts, or_cases}
use Rattle.pack_defs.specs.Book.{BookView, domain_of}
use Rattle.pack_defs.specs.Lists.{has_station, is_ascending, is_in}
use Rattle.pack_defs.proofs.Words.{list_any-map}
use Rattle.assign_check.specs.Fault.{violation}
use Rattle.cert_types.specs.declared.task.Task.{Task}
use Rattle.cert_types.specs.Certificate.{IsTaskOf}
use Rattle.cert_types.specs.Query.{IsQuery, has_channels, places_others, is_last_map, is_on_domains, is_query}
use Rattle.cert_types.proofs.Validity.{none_is}

pub record HasParts (book : BookView) (task : Task) : Type 0 where
  pub rises : is_ascending task.set ≡ true
  pub channels : has_channels book task.set ≡ true
  pub domains : is_on_domains book task.set task.last ≡ true
  pub clean : violation book task.last ≡ None
  pub others : places_others task.station task.set task.last ≡ true

pub query-parts : (book : BookView) (task : Task) → IsQuery book task → HasParts book task
unfolding is_query
query-parts book task q =
    let set = and_parts (is_ascending task.set) (has_channels book task.set && is_last_map book task) q.holds in
    let bare = and_parts (has_channels book task.set) (is_last_map book task) set.1 in
    let on = and_parts (is_on_domains book task.set task.last) (is_none (violation book task.last) && places_others task.station task.set task.last) bare.1 in
    let clean = and_parts (is_none (violation book task.last)) (places_others task.station task.set task.last) on.1 in
    record { rises = set.0; channels = bare.0; domains = on.0; clean = none_is (violation book task.last) clean.0; others = clean.1 }

pub query-of : (book : BookView) (task : Task) → HasParts book task → IsQuery book task
unfolding is_query
query-of book task h = record {
  holds =
      and_from (is_ascending task.set) (has_channels book task.set && is_last_map book task) h.rises
      (and_from (has_channels book task.set) (is_last_map book task) h.channels
      (and_from (is_on_domains book task.set task.last) (is_none (violation book task.last) && places_others task.station task.set task.last) h.domains
      (and_from (is_none (violation book task.last)) (places_others task.station task.set task.last) (ap is_none h.clean) h.others)));
}

-- the set of a query ascends
pub query-task : (book : BookView) (task : Task) → IsQuery book task → IsTaskOf book task
query-task book task q = record { rises = (query-parts book task q).rises }

last-of : (book : BookView) (set : List ℕ) (entries : List (ℕ × ℕ)) (s : ℕ) → is_on_domains book set entries ≡ true → has_station entries s ≡ true → is_in set s ≡ true
last-of book set [] s d h = cc
last-of book set (x ∷ xs) s d h =
    let parts = and_parts (is_in set x.0 && is_in (domain_of book x.0) x.1) (is_on_domains book set xs) d in
    ⊎_elim
    (λ e. subst (λ z. is_in set z ≡ true) (eqb-true x.0 s e) (and_parts (is_in set x.0) (is_in (domain_of book x.0) x.1) parts.0).0)
    (λ r. last-of book set xs s parts.1 r)
    (or_cases (x.0 == s) (has_station xs s) h)

-- a station of the last map is one of the set
pub query-of_set : (book : BookView) (task : Task) → IsQuery book task → (s : ℕ) → has_station task.last s ≡ true → is_in task.set s ≡ true
query-of_set book task q s h = last-of book task.set task.last s (query-parts book task q).domains h

-- a map of the set's stations has each station of the last map
pub query-kept : (book : BookView) (task : Task) (entries : List (ℕ × ℕ)) → IsQuery book task → map (λ (x : ℕ × ℕ). x.0) entries ≡ task.set → (s : ℕ) → has_station task.last s ≡ true → has_station entries s ≡ true
query-kept book task entries q e s h =
    sym (list_any-map (λ y. y == s) (λ (y : ℕ × ℕ). y.0) entries)
    ∙ ap (λ (xs : List ℕ). is_in xs s) e
    ∙ query-of_set book task q s h
