-- The records and the texts of the auctions' results.
use Rattle.std.proofs.Common.{◌∙◌, List, ap, length, map, option_map, subst, sym}
use Rattle.std.proofs.lemmas.List.{length-map}
use Rattle.auction_core.specs.declared.record.Record.{Record}
use Rattle.commands.specs.Batch.{own_texts}
use Rattle.commands.specs.BatchEnds.{AreRecordsOf}
use Rattle.commands.proofs.BatchEndLemmas.{records-of, same-long, texts-of}
use Rattle.commands.proofs.batch.carry_all_out.Goals as goal

pub returns-clause-auctions : goal.returns-clause-auctions
returns-clause-auctions g c =
    subst (λ (recs : List Record). AreRecordsOf (record { lines = c.args.lines.now; inputs = c.args.auctions.items }) recs) (sym c.in_ok-records.ensures.records)
    (records-of c.args.lines.now c.args.auctions.items c.in_ok-rans.rans.items c.requires.many c.in_ok-rans.ensures)

pub returns-clause-texts : goal.returns-clause-texts
returns-clause-texts g c =
    ap (λ texts. map (option_map (λ v. v.items)) texts) c.in_ok-records.ensures.texts
    ∙ (texts-of c.args.auctions.items c.in_ok-rans.rans.items c.in_ok-rans.ensures ∙ ap (own_texts c.args.auctions.items) (sym c.in_ok-records.ensures.records))

pub returns-clause-long : goal.returns-clause-long
returns-clause-long g c =
    ap (λ texts. length texts) c.in_ok-records.ensures.texts
    ∙ (length-map c.in_ok-rans.rans.items (λ r. r.result) ∙ (same-long c.args.auctions.items c.in_ok-rans.rans.items c.in_ok-rans.ensures ∙ c.requires.many))
