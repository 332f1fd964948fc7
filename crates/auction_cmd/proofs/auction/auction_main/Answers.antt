use Rattle.std.proofs.Common.{map, string_bytes}
use Rattle.auction_cmd.proofs.ProgramLemmas.{program-promises}
use Rattle.auction_cmd.proofs.auction.auction_main.Goals as goal

pub returns-clause-promises : goal.returns-clause-promises
returns-clause-promises g c = program-promises (map string_bytes c.args.words.now) _ _ _ c.answer.ensures.ends
