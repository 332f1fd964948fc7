-- The relation between two states of a poll is reflexive and transitive.
use Rattle.std.proofs.Common.{◌∙◌, ◌++◌, [], List, refl, sym, ap, append-nil, append_assoc}
use Rattle.auction_core.specs.QuerySession.{QuerySessionView}
use Rattle.auction_core.specs.Replay.{EntryView}
use Rattle.turn_lock.specs.declared.chronicle.Chronicle.{Ghosts}
use Rattle.turn_lock.specs.declared.lock.Pass.{Pass}
use Rattle.turn_lock.specs.Passes.{seen_of}
use Rattle.turn_lock.specs.Turns.{StartsWith}
use Rattle.answer_board.specs.declared.board.Board.{Board}
use Rattle.answer_board.specs.declared.kept.Kept.{Kept}
use Rattle.race_wave.specs.Watches.{Goes}

-- A list begins with itself.
pub starts-itself : {X : Type 0} (xs : List X) → StartsWith xs xs
starts-itself xs = ([], sym (append-nil xs))

-- The relation "begins with" is transitive.
pub starts-on : {X : Type 0} (xs ys zs : List X) → StartsWith ys xs → StartsWith zs ys → StartsWith zs xs
starts-on xs ys zs h k = (h.0 ++ k.0, k.1 ∙ (ap (λ l. l ++ k.0) h.1 ∙ append_assoc xs h.0 k.0))

module _ {N : Type 0} {G : Ghosts Kept QuerySessionView EntryView} where
  -- A poll may stay as it is.
  pub goes_nowhere : (board : Board) (name : N) (pass : Pass Kept QuerySessionView EntryView G) → Goes board name pass board name pass
  goes_nowhere board name pass = record { board_is = refl; name_is = refl; stands = refl; seen = starts-itself (seen_of pass); mine = refl; legal = λ l. l }

  -- Two changes of a poll are one.
  pub goes_after : {b1 b2 b3 : Board} {n1 n2 n3 : N} {p1 p2 p3 : Pass Kept QuerySessionView EntryView G} → Goes b1 n1 p1 b2 n2 p2 → Goes b2 n2 p2 b3 n3 p3 → Goes b1 n1 p1 b3 n3 p3
  goes_after {p1 = p1} {p2 = p2} {p3 = p3} h k = record {
    board_is = k.board_is ∙ h.board_is;
    name_is = k.name_is ∙ h.name_is;
    stands = k.stands ∙ h.stands;
    seen = starts-on (seen_of p1) (seen_of p2) (seen_of p3) h.seen k.seen;
    mine = k.mine ∙ h.mine;
    legal = λ l. k.legal (h.legal l);
  }
