-- The reply to an answer that was accepted for its query.
use Rattle.std.proofs.Common.{◌≡◌, ◌∙◌, ℕ, ◌<◌, ◌+◌, ◌==◌, Bool, true, false, not, nat_le, if◌then◌else◌, length, map, Option, Some, None, refl, sym, ap, subst, arith}
use Rattle.std.proofs.lemmas.Bool.{false≢true}
use Rattle.std.proofs.lemmas.Bool.Decides.{nat_tests}
use Rattle.std.proofs.lemmas.Option.{slice_get_within}
use Rattle.std.specs.Prelude.{slice_get}
use Rattle.pack_defs.specs.Book.{BookView}
use Rattle.pack_defs.specs.declared.scenario.Scenario.{Scenario}
use Rattle.pack_defs.specs.declared.worker.Worker.{Worker}
use Rattle.cert_types.specs.declared.answer.Answer.{Answer}
use Rattle.cert_types.specs.declared.answer.Answer.TheVariants.{Fit, Refuted, Spent}
use Rattle.cert_types.specs.Certificate.{Certificate}
use Rattle.auction_core.specs.Auction.{AuctionView}
use Rattle.auction_core.specs.Replay.{EntryView}
use Rattle.auction_core.specs.Said.{JudgesAnswer, taken}
use Rattle.auction_core.specs.State.{CoreState, NotedSpent, has_ended}
use Rattle.auction_core.specs.Take.{accepted, advanced, is_noted, noted_with, unjudged_reply}
use Rattle.auction_core.specs.declared.posting.Posting.{Posting}
use Rattle.auction_core.specs.declared.posting.Reply.{Reply}
use Rattle.auction_core.specs.declared.posting.Reply.TheVariants.{AlreadySpent, Ended, Noted, Stranger, WrongQuery}
use Rattle.auction_core.specs.declared.posting.Said.TheVariants.{Good}
use Rattle.auction_core.specs.declared.record.Shown.TheVariants.{Undecided}
use Rattle.auction_core.proofs.JudgedLemmas.{looked}
use Rattle.auction_core.proofs.TakingLemmas.{taken-told, taken-turned}
use Rattle.turn_lock.specs.declared.chronicle.PassKnowledge.{PassKnowledge}
use Rattle.answer_board.specs.Posts.{IsPosted, StaysJudged, is_faultless}

-- A valid answer that is taken.
accepted-faultless : (sc : Scenario) (book : BookView) (state : CoreState) (w : ℕ) (answer : Answer) → is_faultless (accepted sc book state w answer).0 ≡ true
accepted-faultless sc book state w (Fit delta) = refl
accepted-faultless sc book state w (Refuted how) = refl
accepted-faultless sc book state w (Spent receipt) =
    let x : NotedSpent = record { worker = w; receipt = receipt } in
    let settled = advanced sc book state (Undecided (map (λ n. n.receipt) (noted_with x state.noted))) in
    let last : (b : Bool) → is_faultless (if b then settled else (Noted, record state { noted = noted_with x state.noted })).0 ≡ true = λ b. elim b as (λ b. is_faultless (if b then settled else (Noted, record state { noted = noted_with x state.noted })).0 ≡ true) [
      | true ↦ refl
      | false ↦ refl
    ] in
    let rest = if length state.noted + 1 == length sc.workers then settled else (Noted, record state { noted = noted_with x state.noted }) in
    elim (is_noted state.noted w) as (λ b. is_faultless (if b then (AlreadySpent, state) else rest).0 ≡ true) [
      | true ↦ refl
      | false ↦ last (length state.noted + 1 == length sc.workers)
    ]

-- A posting that is turned away, but not for its worker.
turned-faultless : (a b c : Bool) (n : ℕ) (reply : Reply) → c ≡ false → (if a then Some Ended else (if not b then Some (WrongQuery n) else (if c then Some Stranger else None))) ≡ Some reply → is_faultless reply ≡ true
turned-faultless true b c n reply h e = let same : Ended ≡ reply = cc in subst (λ r. is_faultless r ≡ true) same refl
turned-faultless false false c n reply h e = let same : WrongQuery n ≡ reply = cc in subst (λ r. is_faultless r ≡ true) same refl
turned-faultless false true true n reply h e = absurd (false≢true (sym h))
turned-faultless false true false n reply h e = cc

taken-faultless : (sc : Scenario) (book : BookView) (state : CoreState) (w number : ℕ) (certified : Certificate) → w < length sc.workers → is_faultless (taken sc book state (record { worker = w; number = number; said = Good certified })).0 ≡ true
taken-faultless sc book state w number certified lt =
    let posting : Posting = record { worker = w; number = number; said = Good certified } in
    let known : nat_le (length sc.workers) w ≡ false = below (length sc.workers) w lt in
    let go : (o : Option Reply) → unjudged_reply sc state w number ≡ o → is_faultless (taken sc book state posting).0 ≡ true = λ o. elim o as (λ o. unjudged_reply sc state w number ≡ o → is_faultless (taken sc book state posting).0 ≡ true) [
      | None ↦ λ t. subst (λ (out : Reply × CoreState). is_faultless out.0 ≡ true) (taken-told sc book state posting (Good certified) t refl) (accepted-faultless sc book state w certified.answer)
      | Some reply ↦ λ t. subst (λ (out : Reply × CoreState). is_faultless out.0 ≡ true) (taken-turned sc book state posting reply t) (turned-faultless (has_ended state) (number == state.number) (nat_le (length sc.workers) w) state.number reply known t)
    ] in
    go (unjudged_reply sc state w number) refl
  where
    below : (n w : ℕ) → w < n → nat_le n w ≡ false
    below n w lt = grind (arith, nat_tests)

pub posted-faultless : (made : AuctionView) (old new : PassKnowledge EntryView) (w number : ℕ) (worker : Worker) (certified : Certificate) (answer : Answer) (reply : Reply) → StaysJudged made old.seen (record { worker = w; number = number; said = Good certified }) answer → slice_get made.scenario.workers w ≡ Some worker → IsPosted made (record { worker = w; number = number; answer = answer }) old new reply → is_faultless reply ≡ true
posted-faultless made old new w number worker certified answer reply on of posted =
    let posting : Posting = record { worker = w; number = number; said = Good certified } in
    let stands : JudgesAnswer made.scenario made.book posted.state posting answer = on posted.before posted.state posted.begins posted.replays in
    let told : reply ≡ (taken made.scenario made.book posted.state posting).0 = posted.told ∙ ap (λ (out : Reply × CoreState). out.0) (sym (looked made.scenario made.book posted.state posting answer stands)) in
    subst (λ r. is_faultless r ≡ true) (sym told) (taken-faultless made.scenario made.book posted.state w number certified (slice_get_within made.scenario.workers w worker of))
