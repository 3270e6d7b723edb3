use Rattle.std.proofs.Common.{sym, ◌∙◌, ap, arith}
use Rattle.std.specs.Prelude.{slice_index}
use Rattle.std.specs.Option.{option_map}
use Rattle.certificate.specs.declared.groups.Items.{Items}
use Rattle.certificate.specs.Reading.{edge_in_word, edge_fits}
use Rattle.certificate.proofs.Forms.{edge_word_is}
use Rattle.certificate.proofs.Adding.{edge_put, words_step, words_last}
use Rattle.certificate.proofs.groups.put_edges.Goals as goal

pub returns-in-None-clause-words : goal.returns-in-None-clause-words
returns-in-None-clause-words c =
    let put = edge_put c.args.stated.now c.words.stated c.put_edge_in_range-fits.new.stated
    ((c.args.from, slice_index c.in_ok-to.field-0 0), slice_index c.in_ok-to.field-0 1) c.put_edge_in_range-fits.result c.words.invariant.same
    c.put_edge_in_range-fits.ensures.fits c.put_edge_in_range-fits.ensures.put c.put_edge_in_range-fits.ensures.left in
    words_last (edge_in_word c.args.from) (edge_fits c.args.stated.now.graph.vertices) c.args.most c.words.counter c.args.text.now
    c.words.rest.now c.first_word.result.0.now c.args.stated.now.graph.edges c.words.stated.graph.edges
    c.put_edge_in_range-fits.new.stated.graph.edges c.words.items c.with-items.result
    ((c.args.from, slice_index c.in_ok-to.field-0 0), slice_index c.in_ok-to.field-0 1)
    c.put_edge_in_range-fits.result c.words.invariant.words c.words-test.true
    (ap (λ o. (c.first_word.result.0.now, option_map (λ t. t.now) o)) (sym c.in-None.is) ∙ c.first_word.ensures)
    (edge_word_is c.args.from c.first_word.result.0.now c.in_ok-to.field-0
    (sym c.two_numbers.ensures ∙ c.in_ok-to.was))
    put.0 c.with-items.ensures put.1

pub words-preserved : goal.words-preserved
words-preserved c =
    let put = edge_put c.args.stated.now c.words.stated c.put_edge_in_range-fits.new.stated
    ((c.args.from, slice_index c.in_ok-to.field-0 0), slice_index c.in_ok-to.field-0 1) c.put_edge_in_range-fits.result c.words.invariant.same
    c.put_edge_in_range-fits.ensures.fits c.put_edge_in_range-fits.ensures.put c.put_edge_in_range-fits.ensures.left in
    record {
      words = words_step (edge_in_word c.args.from) (edge_fits c.args.stated.now.graph.vertices) c.args.most c.words.counter
          c.args.text.now c.words.rest.now c.first_word.result.0.now c.in-Some.text.now c.args.stated.now.graph.edges
          c.words.stated.graph.edges c.put_edge_in_range-fits.new.stated.graph.edges c.words.items c.with-items.result
          ((c.args.from, slice_index c.in_ok-to.field-0 0), slice_index c.in_ok-to.field-0 1)
          c.put_edge_in_range-fits.result c.words.invariant.words c.words-test.true
          (ap (λ o. (c.first_word.result.0.now, option_map (λ t. t.now) o)) (sym c.in-Some.is) ∙ c.first_word.ensures)
          (edge_word_is c.args.from c.first_word.result.0.now c.in_ok-to.field-0
          (sym c.two_numbers.ensures ∙ c.in_ok-to.was))
          put.0 c.with-items.ensures put.1;
      same = put.2;
    }

pub returns-in-None-clause-few : goal.returns-in-None-clause-few
returns-in-None-clause-few c =
    omega (arith, ap (λ (i : Items). i.count) c.with-items.ensures, c.words.invariant.words.done_is, c.words-test.true)
