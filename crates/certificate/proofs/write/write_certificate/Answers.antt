use Rattle.std.specs.Prelude.{codes, ◌++◌, ◌∷◌, []}
use Rattle.std.proofs.lemmas.Result.{err_from_is_err_and}
use Rattle.apsp_model.specs.Graph.{weight_at}
use Rattle.certificate.specs.Grammar.{named, edge_word_text, pair_word_text, joined, text_of}
use Rattle.certificate.specs.Writing.{table_text}
use Rattle.certificate.proofs.Given.{stops_in_first, stops_in_second, stops_in_third, last_part}
use Rattle.certificate.proofs.Versions.{IsStatedText, stated_text}
use Rattle.certificate.proofs.write.write_certificate.Goals as goal

pub returns-in_err-give_head-clause-text : goal.returns-in_err-give_head-clause-text
returns-in_err-give_head-clause-text g c =
    let p = err_from_is_err_and c.from_residual.result c.from_residual.ensures.1 in
    let v = c.args.version.now in
    let T : IsStatedText v = stated_text v c.in_err-give_head.ensures.graph in (
      T.stated,
      T.is,
      rw (p.1, p.2) (stops_in_first
          (joined (codes "apsp certificate 2" ∷ named (codes "number") v.number ∷ named (codes "vertices")
          v.graph.vertices ∷ [])) (table_text (codes "edges") edge_word_text (weight_at v.graph) v.graph.vertices)
          (table_text (codes "pairs") pair_word_text T.table v.graph.vertices) (codes "end" ++ 10 ∷ [])
          (text_of T.stated) T.text c.in_err-give_head.field-0.0 (g.K.Sink.held c.args.sink.now)
          (g.K.Sink.held c.give_head.new.sink) (g.K.Sink.faults c.args.sink.now) (g.K.Sink.faults c.give_head.new.sink)
          c.in_err-give_head.ensures.text),
    )

pub returns-in_err-give_edges-clause-text : goal.returns-in_err-give_edges-clause-text
returns-in_err-give_edges-clause-text g c =
    let p = err_from_is_err_and c.from_residual-in_err-give_edges.result c.from_residual-in_err-give_edges.ensures.1 in
    let v = c.args.version.now in
    let T : IsStatedText v = stated_text v c.in_ok-give_head.ensures.graph in (
      T.stated,
      T.is,
      rw (p.1, p.2) (stops_in_second
          (joined (codes "apsp certificate 2" ∷ named (codes "number") v.number ∷ named (codes "vertices")
          v.graph.vertices ∷ [])) (table_text (codes "edges") edge_word_text (weight_at v.graph) v.graph.vertices)
          (table_text (codes "pairs") pair_word_text T.table v.graph.vertices) (codes "end" ++ 10 ∷ [])
          (text_of T.stated) T.text c.in_err-give_edges.field-0.0 (g.K.Sink.held c.args.sink.now)
          (g.K.Sink.held c.give_head.new.sink) (g.K.Sink.held c.give_edges.new.sink) (g.K.Sink.faults c.args.sink.now)
          (g.K.Sink.faults c.give_head.new.sink) (g.K.Sink.faults c.give_edges.new.sink) c.in_ok-give_head.ensures.text
          c.in_ok-give_head.ensures.later c.in_err-give_edges.ensures.text),
    )

pub returns-in_err-give_pairs-clause-text : goal.returns-in_err-give_pairs-clause-text
returns-in_err-give_pairs-clause-text g c =
    let p = err_from_is_err_and c.from_residual-in_err-give_pairs.result c.from_residual-in_err-give_pairs.ensures.1 in
    let v = c.args.version.now in
    let T : IsStatedText v = stated_text v c.in_ok-give_head.ensures.graph in (
      T.stated,
      T.is,
      rw (p.1, p.2) (stops_in_third
          (joined (codes "apsp certificate 2" ∷ named (codes "number") v.number ∷ named (codes "vertices")
          v.graph.vertices ∷ [])) (table_text (codes "edges") edge_word_text (weight_at v.graph) v.graph.vertices)
          (table_text (codes "pairs") pair_word_text T.table v.graph.vertices) (codes "end" ++ 10 ∷ [])
          (text_of T.stated) T.text c.in_err-give_pairs.field-0.0 (g.K.Sink.held c.args.sink.now)
          (g.K.Sink.held c.give_head.new.sink) (g.K.Sink.held c.give_edges.new.sink)
          (g.K.Sink.held c.give_pairs.new.sink)
          (g.K.Sink.faults c.args.sink.now) (g.K.Sink.faults c.give_head.new.sink)
          (g.K.Sink.faults c.give_edges.new.sink)
          (g.K.Sink.faults c.give_pairs.new.sink) c.in_ok-give_head.ensures.text c.in_ok-give_head.ensures.later
          c.in_ok-give_edges.ensures.text c.in_ok-give_edges.ensures.later
          (c.in_err-give_pairs.ensures.text T.table T.entries)),
    )

pub returns-clause-text : goal.returns-clause-text
returns-clause-text g c =
    let v = c.args.version.now in
    let T : IsStatedText v = stated_text v c.in_ok-give_head.ensures.graph in (
      T.stated,
      T.is,
      last_part (joined (codes "apsp certificate 2" ∷ named (codes "number") v.number ∷ named
          (codes "vertices") v.graph.vertices ∷ [])) (table_text (codes "edges") edge_word_text (weight_at v.graph) v.graph.vertices)
          (table_text (codes "pairs") pair_word_text T.table v.graph.vertices) (codes "end" ++ 10 ∷ [])
          (text_of T.stated) T.text c.give_fixed.result (g.K.Sink.held c.args.sink.now)
          (g.K.Sink.held c.give_head.new.sink) (g.K.Sink.held c.give_edges.new.sink)
          (g.K.Sink.held c.give_pairs.new.sink)
          (g.K.Sink.held c.give_fixed.new.sink) (g.K.Sink.faults c.args.sink.now) (g.K.Sink.faults c.give_head.new.sink)
          (g.K.Sink.faults c.give_edges.new.sink) (g.K.Sink.faults c.give_pairs.new.sink)
          (g.K.Sink.faults c.give_fixed.new.sink) c.in_ok-give_head.ensures.text c.in_ok-give_head.ensures.later
          c.in_ok-give_edges.ensures.text c.in_ok-give_edges.ensures.later
          (c.in_ok-give_pairs.ensures.text T.table T.entries) c.in_ok-give_pairs.ensures.later
          c.give_fixed.ensures.text,
    )
