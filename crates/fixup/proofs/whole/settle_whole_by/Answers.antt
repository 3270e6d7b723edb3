use Rattle.fixup.proofs.Ending.{paths_rise, historical_rise, all_settled}
use Rattle.fixup.proofs.whole.settle_whole_by.Goals as goal

pub overflow_sub-result : goal.overflow_sub-result
overflow_sub-result g c =
    paths_rise c.args.graph.now c.args.birth c.args.book.now c.settle_whole_paths.new.book
    c.in_ok-settle_whole_paths.ensures.over.classes c.count_paths-paths.ensures.lawful
    c.in_ok-settle_whole_paths.ensures.over.at c.requires.same c.count_paths-paths.result c.count_paths.result
    c.count_paths-paths.ensures.count c.count_paths.ensures.count

pub overflow_sub-result-2 : goal.overflow_sub-result-2
overflow_sub-result-2 g c =
    historical_rise c.args.graph.now c.args.birth c.args.book.now c.settle_whole_paths.new.book
    c.in_ok-settle_whole_paths.ensures.over.classes c.count_paths-paths.ensures.lawful
    c.in_ok-settle_whole_paths.ensures.over.at c.requires.same c.count_historical-historical.result
    c.count_historical.result c.count_historical-historical.ensures.count c.count_historical.ensures.count

pub returns-clause-settled : goal.returns-clause-settled
returns-clause-settled g c =
    all_settled c.args.graph.now c.args.birth c.args.book.now c.settle_whole_paths.new.book
    c.in_ok-settle_whole_paths.ensures.over.classes c.count_paths-paths.ensures.lawful
    c.in_ok-settle_whole_paths.ensures.over.at c.requires.same c.in_ok-settle_whole_paths.ensures.over.empty
    c.count_paths-paths.result c.count_paths.result c.count_historical-historical.result c.count_historical.result
    c.count_paths-paths.ensures.count c.count_paths.ensures.count c.count_historical-historical.ensures.count
    c.count_historical.ensures.count
