use Rattle.std.proofs.Common.{◌+◌, ◌≤◌, ◌*◌, ◌∙◌, arith, ap, sym, length, map, take, take_all, get_or}
use Rattle.std.specs.List.{count_by, sum_by}
use Rattle.std.proofs.lemmas.List.Concat.{length-flat_map}
use Rattle.pack_defs.specs.Book.{stations_of}
use Rattle.pack_defs.specs.Lists.{is_in}
use Rattle.cnf_encode.specs.Formula.{at_most_one, station_variables, variable_of}
use Rattle.cnf_encode.proofs.CountLemmas.{sum-more, no-two-step, no-two-most}
use Rattle.cnf_encode.proofs.count.at_most_one_count.Goals as goal

next-few : (c : goal.After-station_at_most_one_count-count) → c.loop-i.count + c.station_at_most_one_count-count.result ≤ 32768 * count_by (is_in (stations_of c.args.book.now)) (take (c.loop-i.i + 1) c.args.set.now)
next-few c =
    no-two-step c.args.book.now c.args.set.now c.loop-i.i c.loop-i.count c.station_at_most_one_count-count.result (length c.channels_of.result.now) c.loop-i-test.true c.loop-i.invariant.few (ap length c.channels_of.ensures.channels)
    c.station_at_most_one_count-count.ensures.few.0 c.station_at_most_one_count-count.ensures.few.1

pub overflow_add-count : goal.overflow_add-count
overflow_add-count c =
    let stations : length c.args.book.now.domains ≤ 8192 = c.keeps_limit.ensures in
    let most = no-two-most c.args.book.now c.args.set.now (c.loop-i.i + 1) (c.loop-i.count + c.station_at_most_one_count-count.result) c.requires stations (next-few c) in
    omega (arith, most)

pub loop-i-preserved : goal.loop-i-preserved
loop-i-preserved c =
    let book = c.args.book.now in
    let set = c.args.set.now in
    let s = get_or set c.loop-i.i 0 in
    let own = c.station_at_most_one_count-count.ensures.count (λ ch. variable_of book set (s, ch)) ∙ ap (λ cs. length (at_most_one (map (λ ch. variable_of book set (s, ch)) cs))) c.channels_of.ensures.channels in
    let more = sum-more (λ t. length (at_most_one (station_variables book set t))) set c.loop-i.i c.loop-i-test.true in
    record {
      count = ap (λ n. n + c.station_at_most_one_count-count.result) c.loop-i.invariant.count ∙ ap (λ n. sum_by (λ t. length (at_most_one (station_variables book set t))) (take c.loop-i.i set) + n) own ∙ sym more;
      few = next-few c;
    }

pub returns-clause-count : goal.returns-clause-count
returns-clause-count c =
    let whole = take_all c.loop-i.i c.args.set.now c.loop-i-test.false in
    c.loop-i.invariant.count ∙ ap (sum_by (λ s. length (at_most_one (station_variables c.args.book.now c.args.set.now s)))) whole
    ∙ sym (length-flat_map (λ s. at_most_one (station_variables c.args.book.now c.args.set.now s)) c.args.set.now)

pub returns-clause-few : goal.returns-clause-few
returns-clause-few c =
    let stations : length c.args.book.now.domains ≤ 8192 = c.keeps_limit.ensures in
    no-two-most c.args.book.now c.args.set.now c.loop-i.i c.loop-i.count c.requires stations c.loop-i.invariant.few
