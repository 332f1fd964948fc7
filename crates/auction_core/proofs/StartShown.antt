-- Whether the start set fits, by how a backed record ended.
use Rattle.std.proofs.Common.{◌≡◌, ◌∙◌, ℕ, Bool, true, false, cond, List, [], ◌∷◌, Option, Some, None, refl, sym, ap, subst, Contains, MatchOption}
use Rattle.std.specs.Prelude.{find, option_map}
use Rattle.std.proofs.lemmas.Bool.{false_from_ne_true}
use Rattle.cert_types.specs.declared.answer.Receipt.{Receipt}
use Rattle.cert_types.proofs.Refuting.{refuted-unfit}
use Rattle.pack_defs.specs.declared.order.Order.{Order}
use Rattle.pack_defs.specs.declared.scenario.Scenario.{Scenario}
use Rattle.pack_defs.specs.Book.{BookView, domain_of}
use Rattle.pack_defs.specs.ChannelMap.{overlaid}
use Rattle.pack_defs.specs.Lists.{is_empty}
use Rattle.pack_defs.specs.Packing.{fits}
use Rattle.pack_defs.specs.Prices.{start_set}
use Rattle.pack_defs.specs.Scenario.{facilities}
use Rattle.pack_defs.proofs.FitsLaws.{fits-from, fits-gives}
use Rattle.pack_defs.proofs.Members.{Contains-from_map, Contains-here, Contains-nil, Contains-there}
use Rattle.pack_defs.proofs.Words.{ascending-from}
use Rattle.auction_core.specs.declared.record.Ending.TheVariants.{Done, StartRefuted, StartUndecided}
use Rattle.auction_core.specs.declared.record.Record.{Record}
use Rattle.auction_core.specs.declared.record.Shown.{Shown}
use Rattle.auction_core.specs.declared.record.Shown.TheVariants.{Empty, Fits, Same, NoChannel, Refuted, Outside, Undecided}
use Rattle.auction_core.specs.Backed.{AreReceipts, IsBacked, IsSettledBy, ending_of}
use Rattle.auction_core.specs.Rule.{IsAuction}
use Rattle.auction_core.specs.State.{start_delta, start_task, start_unasked}
use Rattle.auction_core.proofs.Done.{done-room}
use Rattle.auction_core.proofs.Room.{by-worker, no-element}
use Rattle.auction_core.proofs.Starts.{is-start, start-map}

-- if the record is done, the start set fits
pub done-fits : (sc : Scenario) (book : BookView) (order : Order) (rec : Record) → IsAuction sc book → IsBacked sc book order rec → rec.ending ≡ Done → fits book (start_set sc) ≡ true
done-fits sc book order rec a b done =
    let of = start-map sc book rec.start a b.start (done-room rec.start (sym b.ending ∙ done)) in
    fits-from book (start_set sc) (record {
      entries = overlaid [] (start_delta rec.start);
      stations = of.1 ∙ sym (is-start sc (ascending-from (facilities sc) a.stations));
      clean = of.0;
    })

-- ---- a start that does not fit

first-found : (p : ℕ → Bool) (xs : List ℕ) (s : ℕ) → find p xs ≡ Some s → Contains xs s × (p s ≡ true)
first-found p [] s h = cc
first-found p (x ∷ xs) s h =
    (elim (p x) as (λ b. p x ≡ b → cond b (Some x) (find p xs) ≡ Some s → Contains (x ∷ xs) s × (p s ≡ true)) [
      | true ↦ λ passes is. let same : x ≡ s = cc in (subst (λ z. Contains (x ∷ xs) z) same (Contains-here x xs), subst (λ z. p z ≡ true) same passes)
      | false ↦ λ fails is. let later = first-found p xs s is in (Contains-there x s xs later.0, later.1)
    ]) refl h

-- a set with a station without a channel does not fit
bare-unfit : (book : BookView) (set : List ℕ) (s : ℕ) → Contains set s → domain_of book s ≡ [] → fits book set ≡ false
bare-unfit book set s there bare =
    false_from_ne_true _ (λ fit.
    let map_of = fits-gives book set fit in
    let (x, listed, is) = Contains-from_map (λ (e : ℕ × ℕ). e.0) map_of.entries s (subst (λ z. Contains z s) (sym map_of.stations) there) in
    Contains-nil x.1 (subst (λ (z : List ℕ). Contains z x.1) (ap (domain_of book) is ∙ bare) (map_of.clean.on_domain x listed)))

-- a start settled without a query is empty or has a station without a channel
data IsUnasked (sc : Scenario) (book : BookView) (shown : Shown) : Type 0 where
  Nobody : shown ≡ Empty → IsUnasked sc book shown
  Channelless : (s : ℕ) → shown ≡ NoChannel s → Contains (start_set sc) s → domain_of book s ≡ [] → IsUnasked sc book shown

unasked : (sc : Scenario) (book : BookView) (shown : Shown) → start_unasked sc book ≡ Some shown → IsUnasked sc book shown
unasked sc book shown e =
    let inner : (o : Option ℕ) → find (λ s. is_empty (domain_of book s)) (start_set sc) ≡ o → option_map NoChannel o ≡ Some shown → IsUnasked sc book shown = λ o. elim o as (λ o. find (λ s. is_empty (domain_of book s)) (start_set sc) ≡ o → option_map NoChannel o ≡ Some shown → IsUnasked sc book shown) [
      | None ↦ λ g f. cc
      | Some s ↦ λ g f.
          let found = first-found (λ s. is_empty (domain_of book s)) (start_set sc) s g in
          let same : NoChannel s ≡ shown = cc in
          Channelless s (sym same) found.0 (no-element (domain_of book s) found.1)
    ] in
    let outer : (b : Bool) → cond b (Some Empty) (option_map NoChannel (find (λ s. is_empty (domain_of book s)) (start_set sc))) ≡ Some shown → IsUnasked sc book shown = λ b. elim b as (λ b. cond b (Some Empty) (option_map NoChannel (find (λ s. is_empty (domain_of book s)) (start_set sc))) ≡ Some shown → IsUnasked sc book shown) [
      | true ↦ λ f. let same : Empty ≡ shown = cc in Nobody (sym same)
      | false ↦ λ f. inner (find (λ s. is_empty (domain_of book s)) (start_set sc)) refl f
    ] in
    outer (is_empty (start_set sc)) e

settled_unfit : (sc : Scenario) (book : BookView) (shown : Shown) → IsAuction sc book → ending_of shown ≡ StartRefuted → IsSettledBy sc book (start_task sc 1) shown → fits book (start_set sc) ≡ false
settled_unfit sc book Empty a r k = absurd k
settled_unfit sc book (Fits delta) a r k = cc
settled_unfit sc book Same a r k = absurd k
settled_unfit sc book (NoChannel s) a r k = absurd k
settled_unfit sc book (Refuted w how) a r k = false_from_ne_true (fits book (start_set sc)) (λ yes. refuted-unfit book (start_set sc) a.in_order (by-worker sc book (start_task sc 1) w how k) (fits-gives book (start_set sc) yes))
settled_unfit sc book (Outside proof) a r k = absurd k
settled_unfit sc book (Undecided xs) a r k = cc

unasked_unfit : (sc : Scenario) (book : BookView) (shown : Shown) → ending_of shown ≡ StartRefuted → IsUnasked sc book shown → fits book (start_set sc) ≡ false
unasked_unfit sc book shown r (Nobody is) = let no : ending_of Empty ≡ StartRefuted = sym (ap ending_of is) ∙ r in cc
unasked_unfit sc book shown r (Channelless s is there bare) = bare-unfit book (start_set sc) s there bare

-- if the start was refuted, the start set does not fit
pub refuted-unfits : (sc : Scenario) (book : BookView) (order : Order) (rec : Record) → IsAuction sc book → IsBacked sc book order rec → rec.ending ≡ StartRefuted → fits book (start_set sc) ≡ false
refuted-unfits sc book order rec a b refuted =
    let go : (o : Option Shown) → start_unasked sc book ≡ o → MatchOption o (IsSettledBy sc book (start_task sc 1) rec.start) (λ unasked. rec.start ≡ unasked) → fits book (start_set sc) ≡ false = λ o. elim o as (λ o. start_unasked sc book ≡ o → MatchOption o (IsSettledBy sc book (start_task sc 1) rec.start) (λ unasked. rec.start ≡ unasked) → fits book (start_set sc) ≡ false) [
      | None ↦ λ e k. settled_unfit sc book rec.start a (sym b.ending ∙ refuted) k
      | Some u ↦ λ e k. unasked_unfit sc book rec.start (sym b.ending ∙ refuted) (unasked sc book rec.start (e ∙ ap Some (sym k)))
    ] in
    go (start_unasked sc book) refl b.start

-- ---- an undecided start

settled_open : (sc : Scenario) (book : BookView) (shown : Shown) → ending_of shown ≡ StartUndecided → IsSettledBy sc book (start_task sc 1) shown →
    (receipts : List Receipt) × (shown ≡ Undecided receipts) × AreReceipts book (start_task sc 1) sc.workers receipts
settled_open sc book Empty r k = absurd k
settled_open sc book (Fits delta) r k = cc
settled_open sc book Same r k = absurd k
settled_open sc book (NoChannel s) r k = absurd k
settled_open sc book (Refuted w how) r k = cc
settled_open sc book (Outside proof) r k = absurd k
settled_open sc book (Undecided xs) r k = (xs, refl, k)

unasked_open : (sc : Scenario) (book : BookView) (shown : Shown) → ending_of shown ≡ StartUndecided → IsUnasked sc book shown → ⊥
unasked_open sc book shown r (Nobody is) = let no : ending_of Empty ≡ StartUndecided = sym (ap ending_of is) ∙ r in cc
unasked_open sc book shown r (Channelless s is there bare) = let no : ending_of (NoChannel s) ≡ StartUndecided = sym (ap ending_of is) ∙ r in cc

-- an undecided start has a receipt of every worker
pub open-receipts : (sc : Scenario) (book : BookView) (order : Order) (rec : Record) → IsBacked sc book order rec → rec.ending ≡ StartUndecided →
    (receipts : List Receipt) × (rec.start ≡ Undecided receipts) × AreReceipts book (start_task sc 1) sc.workers receipts
open-receipts sc book order rec b left =
    let Claim : Type 0 = (receipts : List Receipt) × (rec.start ≡ Undecided receipts) × AreReceipts book (start_task sc 1) sc.workers receipts in
    let go : (o : Option Shown) → start_unasked sc book ≡ o → MatchOption o (IsSettledBy sc book (start_task sc 1) rec.start) (λ unasked. rec.start ≡ unasked) → Claim = λ o. elim o as (λ o. start_unasked sc book ≡ o → MatchOption o (IsSettledBy sc book (start_task sc 1) rec.start) (λ unasked. rec.start ≡ unasked) → Claim) [
      | None ↦ λ e k. settled_open sc book rec.start (sym b.ending ∙ left) k
      | Some u ↦ λ e k. absurd (unasked_open sc book rec.start (sym b.ending ∙ left) (unasked sc book rec.start (e ∙ ap Some (sym k))))
    ] in
    go (start_unasked sc book) refl b.start

-- an empty start set is not undecided
pub open-some : (sc : Scenario) (book : BookView) (order : Order) (rec : Record) → IsBacked sc book order rec → rec.ending ≡ StartUndecided → start_set sc ≡ [] → ⊥
open-some sc book order rec b left none =
    let empty : start_unasked sc book ≡ Some Empty = ap (λ xs. cond (is_empty xs) (Some Empty) (option_map NoChannel (find (λ s. is_empty (domain_of book s)) xs))) none in
    let shown : rec.start ≡ Empty = subst (λ o. MatchOption o (IsSettledBy sc book (start_task sc 1) rec.start) (λ unasked. rec.start ≡ unasked)) empty b.start in
    let no : ending_of Empty ≡ StartUndecided = sym (ap ending_of shown) ∙ (sym b.ending ∙ left) in
    cc
