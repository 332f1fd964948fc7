-- A history that continues leaves no more queries.
use Rattle.std.proofs.Common.{length, ◌≡◌, ◌∙◌, ℕ, ◌<◌, ◌==◌, Bool, true, false, not, nat_le, if◌then◌else◌, List, [], ◌∷◌, ◌++◌, Option, Some, None, option_and_then, refl, sym, ap, subst, arith, inl, inr}
use Rattle.std.proofs.lemmas.Bool.{cases_Bool, true≢false}
use Rattle.pack_defs.specs.Book.{BookView}
use Rattle.pack_defs.specs.declared.scenario.Scenario.{Scenario}
use Rattle.cert_types.specs.declared.answer.Answer.{Answer}
use Rattle.auction_core.specs.Auction.{AuctionView}
use Rattle.auction_core.specs.QuerySession.{QuerySessionView}
use Rattle.auction_core.specs.declared.posting.Reply.{Reply}
use Rattle.auction_core.specs.declared.posting.Reply.TheVariants.{Ended, WrongQuery, Stranger}
use Rattle.auction_core.specs.declared.record.Shown.TheVariants.{Fits, Refuted, Undecided}
use Rattle.auction_core.specs.Replay.{EntryView, after_entry, agrees, replay_from, stands}
use Rattle.auction_core.specs.State.{CoreState, has_ended, queries_left}
use Rattle.auction_core.specs.Take.{PostingView, is_noted, take, unjudged_reply}
use Rattle.auction_core.proofs.Cases.{all_spent, noted_as, take-cases}
use Rattle.auction_core.proofs.QueryLemmas.{answered-fewer}
use Rattle.auction_core.specs.Postings.{Continues}
use Rattle.auction_core.proofs.Continues.{replay-goes as state-goes}
use Rattle.turn_lock.specs.Turns.{StartsWith}
use Rattle.answer_board.specs.Boards.{beginning_of}
use Rattle.answer_board.specs.Entries.{plain_entries, numbered}
use Rattle.answer_board.proofs.PostLemmas.{entries-numbered, Replays}
use Rattle.answer_board.proofs.WasCurrentLemmas.{entries-more, replay-rest}
use Rattle.auction_core.proofs.Replays.{if-some}
use Rattle.race_wave.specs.Serial.{UnchangedAtEnd, IsSettledIfCurrent, ComesCloserToEnd}

goes-then : (sc : Scenario) (a b c : CoreState) → ComesCloserToEnd sc a b → ComesCloserToEnd sc b c → ComesCloserToEnd sc a c
goes-then sc a b c (inl h) (inl k) = inl (omega (arith, h, k))
goes-then sc a b c (inl h) (inr k) = let same : queries_left sc c ≡ queries_left sc b = ap (λ (s : CoreState). queries_left sc s) k in inl (omega (arith, h, same))
goes-then sc a b c (inr h) (inl k) = let same : queries_left sc b ≡ queries_left sc a = ap (λ (s : CoreState). queries_left sc s) h in inl (omega (arith, k, same))
goes-then sc a b c (inr h) (inr k) = inr (k ∙ ap (λ (s : CoreState). record s { noted = c.noted }) h)

-- A posting that is not turned away meets a query.
asked : (a b c : Bool) (n : ℕ) → (if a then Some Ended else (if not b then Some (WrongQuery n) else (if c then Some Stranger else None))) ≡ None → a ≡ false
asked true b c n e = cc
asked false b c n e = refl

pub on : (sc : Scenario) (state : CoreState) (w number : ℕ) → unjudged_reply sc state w number ≡ None → has_ended state ≡ false
on sc state w number t = asked (has_ended state) (number == state.number) (nat_le (length sc.workers) w) state.number t

take-goes : (sc : Scenario) (book : BookView) (state : CoreState) (p : PostingView) → ComesCloserToEnd sc state (take sc book state p).1
take-goes sc book state p =
    take-cases sc book state p (λ (out : Reply × CoreState). ComesCloserToEnd sc state out.1) (record {
      turned = λ reply t. inr refl;
      rejected = λ place t f. inr refl;
      fit = λ delta t f a. inl (answered-fewer sc book state (Fits delta) (on sc state p.worker p.number t));
      refuted = λ how t f a. inl (answered-fewer sc book state (Refuted p.worker how) (on sc state p.worker p.number t));
      already = λ receipt t f a n. inr refl;
      last = λ receipt t f a n k. inl (answered-fewer sc book state (Undecided (all_spent state (noted_as p.worker receipt))) (on sc state p.worker p.number t));
      more = λ receipt t f a n k. inr refl;
    })

entry-goes : (sc : Scenario) (book : BookView) (state new : CoreState) (e : EntryView) (o : Option Answer) → after_entry sc book state e o ≡ Some new → ComesCloserToEnd sc state new
entry-goes sc book state new e (Some answer) s =
    let p : PostingView = record { worker = e.worker; number = e.number; answer = answer } in
    subst (ComesCloserToEnd sc state) (if-some (agrees e.reply (take sc book state p).0) (take sc book state p).1 new s) (take-goes sc book state p)
entry-goes sc book state new e None s =
    subst (ComesCloserToEnd sc state) (if-some (stands (unjudged_reply sc state e.worker e.number) (is_noted state.noted e.worker) e.reply) state new s) (inr refl)

replay-goes : (sc : Scenario) (book : BookView) (es : List EntryView) (state new : CoreState) → replay_from sc book es state ≡ Some new → ComesCloserToEnd sc state new
replay-goes sc book [] state new s = let same : state ≡ new = cc in subst (ComesCloserToEnd sc state) same (inr refl)
replay-goes sc book (e ∷ es) state new s =
    let go : (o : Option CoreState) → after_entry sc book state e e.answer ≡ o → option_and_then (replay_from sc book es) o ≡ Some new → ComesCloserToEnd sc state new = λ o. elim o as (λ o. after_entry sc book state e e.answer ≡ o → option_and_then (replay_from sc book es) o ≡ Some new → ComesCloserToEnd sc state new) [
      | None ↦ λ k r. cc
      | Some next ↦ λ k r. goes-then sc state next new (entry-goes sc book state next e e.answer k) (replay-goes sc book es next new r)
    ] in
    go (after_entry sc book state e e.answer) refl s

-- If an auction began as another one and continues its history by these entries, they lead from the other's state to
-- its state.
pub rest-replays : (old new : AuctionView) (rest : List EntryView) → beginning_of new ≡ beginning_of old → new.history ≡ old.history ++ rest → Replays old → Replays new → replay_from old.scenario old.book rest old.state ≡ Some new.state
rest-replays old new rest begins longer h k =
    let whole : replay_from old.scenario old.book (old.history ++ rest) old.opened ≡ Some new.state =
    ap (λ es. replay_from old.scenario old.book es old.opened) (sym longer) ∙ (ap (λ (b : QuerySessionView). replay_from b.scenario b.book new.history b.state) (sym begins) ∙ k) in
    replay-rest old.scenario old.book old.history rest old.opened old.state new.state h whole

-- So it continues from that one's state.
pub later-goes : (old new : AuctionView) → beginning_of new ≡ beginning_of old → StartsWith new.history old.history → Replays old → Replays new → Continues old.state new.state
later-goes old new begins starts h k = state-goes old.scenario old.book starts.0 old.state new.state (rest-replays old new starts.0 begins starts.1 h k)

-- It leaves no more queries.
pub later-nears : (old new : AuctionView) → beginning_of new ≡ beginning_of old → StartsWith new.history old.history → Replays old → Replays new → ComesCloserToEnd old.scenario old.state new.state
later-nears old new begins starts h k = replay-goes old.scenario old.book starts.0 old.state new.state (rest-replays old new starts.0 begins starts.1 h k)

-- An auction whose history at the closing of a board has the history at its opening and a tail.
pub board-starts : (made old new : AuctionView) (tail : List (ℕ × EntryView)) → made ≡ old → numbered new.history ≡ numbered made.history ++ tail → StartsWith new.history old.history
board-starts made old new tail over more = (
  plain_entries tail,
  sym (entries-numbered new.history) ∙ (ap plain_entries more ∙ (entries-more (numbered made.history) tail
      ∙ ap (λ l. l ++ plain_entries tail) (entries-numbered made.history ∙ ap (λ (a : AuctionView). a.history) over))),
)

-- A wave and a serial turn leave fewer queries.
pub turn-fewer : (sc : Scenario) (old mid new : AuctionView) → has_ended old.state ≡ false → ComesCloserToEnd sc old.state mid.state → UnchangedAtEnd mid new → IsSettledIfCurrent sc mid.state new.state → queries_left sc new.state < queries_left sc old.state
turn-fewer sc old mid new begun goes idle moves =
    elim (cases_Bool (has_ended mid.state)) [
      | inl ended ↦ let same : queries_left sc new.state ≡ queries_left sc mid.state = ap (λ (a : AuctionView). queries_left sc a.state) (idle ended) in elim goes [
        | inl fewer ↦ omega (arith, fewer, same)
        | inr noted ↦ absurd (true≢false (sym ended ∙ (ap (λ (s : CoreState). has_ended s) noted ∙ begun)))
      ]
      | inr stands ↦ let fewer = (moves stands).fewer in elim goes [
        | inl less ↦ omega (arith, fewer, less)
        | inr noted ↦ let same : queries_left sc mid.state ≡ queries_left sc old.state = ap (λ (s : CoreState). queries_left sc s) noted in omega (arith, fewer, same)
      ]
    ]
