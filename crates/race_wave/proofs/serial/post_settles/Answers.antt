-- An accepted answer settles the query, or its receipt is noted.
use Rattle.std.proofs.Common.{length, refl}
use Rattle.auction_core.specs.declared.posting.Posting.{Posting}
use Rattle.auction_core.specs.declared.posting.Said.TheVariants.{Good}
use Rattle.race_wave.proofs.SerialLemmas.{IsAnswered, asks-one, told-leaves, told-turn}
use Rattle.race_wave.proofs.serial.post_settles.Goals as goal

pub returns-clause-continued : goal.returns-clause-continued
returns-clause-continued c =
    let posting : Posting = record { worker = c.args.worker; number = c.args.number; said = Good c.args.certified } in
    let answered : IsAnswered c.args.auction.now c.take-reply.new.self posting c.args.certified c.take-reply.result = record {
      standing = c.requires.standing;
      number = c.requires.number;
      known = c.requires.known;
      fresh = c.requires.new;
      said = refl;
      told = c.take-reply.ensures.told;
      history = c.take-reply.ensures.history;
    } in
    record {
      scenario = c.take-reply.ensures.scenario;
      book = c.take-reply.ensures.book;
      opened = c.take-reply.ensures.opened;
      order = c.take-reply.ensures.order;
      more = _;
      history = c.take-reply.ensures.history;
      turn = told-turn _ _ posting c.args.certified c.take-reply.result answered;
      workers = asks-one c.args.auction.now.state.noted (length c.args.auction.now.scenario.workers) c.args.worker c.requires.known c.requires.before c.requires.new;
      rule = c.take-reply.ensures.rule;
    }

pub returns-clause-leaves : goal.returns-clause-leaves
returns-clause-leaves c =
    let posting : Posting = record { worker = c.args.worker; number = c.args.number; said = Good c.args.certified } in
    let answered : IsAnswered c.args.auction.now c.take-reply.new.self posting c.args.certified c.take-reply.result = record {
      standing = c.requires.standing;
      number = c.requires.number;
      known = c.requires.known;
      fresh = c.requires.new;
      said = refl;
      told = c.take-reply.ensures.told;
      history = c.take-reply.ensures.history;
    } in
    rw (c.is_advanced.ensures) (told-leaves _ _ posting c.args.certified c.take-reply.result answered)
